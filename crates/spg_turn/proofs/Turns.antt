-- The steps of a turn keep the rule: a ticket is drawn, the word served is read, the journal grows, the state goes back, a bell rings.
use Rattle.std.proofs.Common.{◌≡◌, ℕ, ◌+◌, ◌%◌, ◌<◌, ◌≤◌, ◌≢◌, true, false, List, [], ◌∷◌, ◌++◌, length, get_or, set, drop, Option, Some, All, sym, refl, ap, ◌∙◌, subst, inl, inr, ⊎_elim, arith}
use Rattle.std.proofs.lemmas.List.{append-nil}
use Rattle.std.proofs.Math.Seq.{drop-append_seam}
use mathlib.Core.Logic.{dite}
use mathlib.Core.Option as maybe
use mathlib.Core.Option.{some, none}
use native.Mathlib.Decide.{ℕ_discrete}
use lib.ListN.{get_elem?}
use Rattle.atomic_table.specs.Table.{State, Me, step, keeps, takes, gives, Allows}
use Rattle.atomic_table.proofs.Lists.{set_here, set_again, one_turn}
use Rattle.spg_base.specs.declared.recorded.Origin.{Origin}
use Rattle.spg_turn.specs.declared.rule.Stage.TheVariants.{Idle, Waiting, Holding}
use Rattle.spg_turn.specs.declared.rule.View.{View}
use Rattle.spg_turn.specs.Views.{by_seat, grown}
use Rattle.spg_turn.specs.Rule.{cycle, ticket_of, weight, is_holding, Kept, drew, looked, extended, served, rang}
use Rattle.spg_turn.proofs.Journals.{starts_more, starts_self, others_none, own_all, tail_more}
use Rattle.spg_turn.proofs.Views.{carried_or, some_same, no_ticket, waiting_not_holding, idle_not_holding, holds_some, ticket_held, set_past, tickets_below, in_range, same_there}
use Rattle.spg_turn.proofs.Moves.{moves, placed_on, with_ticket, unmoved, holder_alone}

module _ {S E : Type 0} (entries : S → List E) (seat_of : E → ℕ) (origin_of : S → Origin) where
  abbrev V : Type 0
  V = View E

  abbrev St : Type 0
  St = State (Option S) (View E)

  abbrev Slots : Type 0
  Slots = List (maybe.Option (Option S))

  abbrev Rule : St → Type 0
  Rule = Kept entries seat_of origin_of

  pub draws : (slots id : ℕ) (m : Me (Option S) V) → m.0.stage ≡ Idle → m.0.spent ≡ false
      → Allows Rule slots id m 0 (λ n. (n + 1) % 18446744073709551616) (drew (step slots 0 1 0 none) m)
  draws slots id m idle sp s r _ at _ =
      let x = r.facts in
      let f = r.each_seat id m.0 at sp in
      let w : V = record m.0 { stage = Waiting x.next } in
      let few = r.counted in (
        w,
        keeps,
        tt,
        moves entries seat_of origin_of s r id m.0 w (x.next + 1) x.now x.list [] x.homes _ _ at sp sp
            (ap (λ ws. set ws 0 ((get_or ws 0 0 + 1) % cycle)) r.words_are ∙ ap (λ z. z ∷ (x.now % cycle) ∷ length x.list ∷ r.bells) (omega arith))
            r.homes_are
            (sym (append-nil x.list))
            (λ n _. refl)
            (let z : weight m.0.stage ≡ 0 = ap weight idle in omega arith)
            (placed_on entries seat_of origin_of s.views id m.0 w x.list x.origin x.homes at (λ t q. idle_not_holding t (sym idle ∙ q)) r.place)
            record {
              number = f.number;
              base = f.base;
              met = f.met;
              origin = f.origin;
              begins = f.begins;
              left = f.left;
              right = f.right;
              own = f.own;
              ranged = λ t q. let is : x.next ≡ t = some_same x.next t q in (omega arith, omega arith);
              holding = λ t q. absurd (waiting_not_holding x.next t q);
              first = f.first;
            }
            (λ j u ne q t k lo hi. (lo, omega arith))
            (λ j u ne q t k is seen out. (is, seen, out))
            (λ t k j u ne q other. let is : x.next ≡ t = some_same x.next t k in let h = (with_ticket entries seat_of origin_of s r j u t q other).ranged t other in let l = h.1 in omega arith)
            (inr (refl, refl)),
        (x.next, ap (λ ws. get_or ws 0 0) r.words_are, refl),
      )

  pub looks : (slots id : ℕ) (m : Me (Option S) V) (t : ℕ) → m.0.stage ≡ Waiting t → m.0.spent ≡ false
      → Allows Rule slots id m 1 (λ n. n) (looked entries seat_of origin_of (step slots 1 0 0 none) m)
  looks slots id m t waits sp s r _ at _ =
      let x = r.facts in
      let f = r.each_seat id m.0 at sp in
      let mine : ticket_of m.0.stage ≡ Some t = ap ticket_of waits in
      let range = f.ranged t mine in
      let few = r.counted in
      let most = r.few in
      let below = tickets_below s.views in
      let many = r.many_is in
      let word : get_or s.words 1 0 ≡ x.now % cycle = ap (λ ws. get_or ws 1 0) r.words_are in
      let same_ticket : (u : ℕ) → m.0.stage ≡ Waiting u → t ≡ u = λ u q. some_same t u (sym mine ∙ ap ticket_of q) in
      dite (ℕ_discrete (get_or s.words 1 0) (t % cycle))
      (λ hit.
      let lo = range.0 in let hi = range.1 in
      let is : x.now ≡ t = one_turn x.now t cycle lo (omega arith) (sym word ∙ hit) in
      let alone : (j : ℕ) (u : V) (k : ℕ) → get_elem? s.views j ≡ some u → u.stage ≡ Holding k → ⊥ = λ j u k q h.
      let fu = with_ticket entries seat_of origin_of s r j u k q (ticket_held u.stage k h) in
      let now = (fu.holding k h).0 in
      let me : j ≡ id = r.apart j id u m.0 t q at (ticket_held u.stage k h ∙ ap Some (now ∙ is)) mine in
      let same : u ≡ m.0 = same_there s.views id u m.0 (ap (λ i. get_elem? s.views i) (sym me) ∙ q) at in
      waiting_not_holding t k (sym waits ∙ (ap (λ (z : V). z.stage) (sym same) ∙ h)) in
      ⊎_elim
      (λ (p : (y : S) × (x.homes ≡ some (Some y) ∷ []) × (entries y ≡ x.list) × (origin_of y ≡ x.origin)).
      let y = p.0 in
      let w : V = record m.0 { stage = Holding t; seen = entries y } in
      let here = r.homes_are ∙ p.1 in (
        w,
        takes 0 (Some y),
        ap (λ (h : Slots). get_elem? h 0) here,
        moves entries seat_of origin_of s r id m.0 w x.next x.now x.list [] (none ∷ []) _ _ at sp sp
            (ap (λ ws. set ws 1 (get_or ws 1 0)) r.words_are)
            (ap (λ (h : Slots). set h 0 none) here)
            (sym (append-nil x.list))
            (λ n _. refl)
            (let z : weight m.0.stage ≡ 1 = ap weight waits in omega arith)
            (inr (id, w, t, set_here s.views id w (in_range s.views id m.0 at), sp, refl, refl))
            record {
              number = f.number;
              base = f.base;
              met = f.met;
              origin = f.origin;
              begins = ([], sym p.2 ∙ sym (append-nil (entries y)));
              left = f.left;
              right = f.right;
              own = f.own;
              ranged = λ k q. let e : t ≡ k = some_same t k q in (omega arith, omega arith);
              holding = λ k q. let e : t ≡ k = some_same t k (ap ticket_of q) in (sym e ∙ sym is, p.2, refl);
              first = f.first;
            }
            (λ j u ne q k h lo hi. (lo, hi))
            (λ j u ne q k h _ _ _. absurd (alone j u k q h))
            (λ k e j u ne q other. let same : t ≡ k = some_same t k e in ne (r.apart j id u m.0 k q at other (mine ∙ ap Some same)))
            (inl p.2),
        (λ u q. (
          (λ _. (
            y,
            (
              ap (λ (k : ℕ). (record m.0 { stage = Holding k; seen = entries y }, (0, Some y) ∷ m.1)) (same_ticket u q),
              (f.begins.0, p.2 ∙ f.begins.1),
              ap (λ (z : ℕ × ℕ × List E). by_seat seat_of z.0 (drop z.1 z.2)) (λ i. (f.number i, f.base i, p.2 i)) ∙ f.own,
              p.3 ∙ sym f.origin,
            ),
          )),
          λ ne. absurd (ne (hit ∙ ap (λ (k : ℕ). k % cycle) (same_ticket u q))),
        )),
      ))
      (λ (p : (j : ℕ) × (u : View E) × (k : ℕ) × (get_elem? s.views j ≡ some u) × (u.spent ≡ false) × (u.stage ≡ Holding k) × (x.homes ≡ none ∷ [])). absurd (alone p.0 p.1 p.2 p.3 p.5))
      r.place)
      (λ miss. (
        m.0,
        keeps,
        tt,
        unmoved entries seat_of origin_of s r 1 id m.0 at,
        (λ u q. ((λ hit. absurd (miss (hit ∙ ap (λ (k : ℕ). k % cycle) (sym (same_ticket u q))))), λ _. refl)),
      ))

  pub extends : (slots id k : ℕ) (m : Me (Option S) V) (y : S) (more : List E)
      → m.1 ≡ (0, Some y) ∷ [] → is_holding m.0.stage ≡ true → m.0.spent ≡ false
      → entries y ≡ m.0.seen ++ more → All (λ e. seat_of e ≡ m.0.number) more → length m.0.seen + k ≡ length (entries y) → length (entries y) < 18446744073709551616
      → Allows Rule slots id m 2 (λ n. (n + k) % 18446744073709551616) (extended entries (step slots 2 k 0 none) m)
  extends slots id k m y more out holds sp e own count fits s r _ at _ =
      let x = r.facts in
      let f = r.each_seat id m.0 at sp in
      let h = holds_some m.0.stage holds in
      let t = h.0 in
      let mine : ticket_of m.0.stage ≡ Some t = ticket_held m.0.stage t h.1 in
      let now = f.holding t h.1 in
      let range = f.ranged t mine in
      let w : V = grown m.0 (entries y) in
      let list : List E = entries y in
      let e' : list ≡ x.list ++ more = e ∙ ap (λ l. l ++ more) now.1 in
      let before : length m.0.seen ≡ length x.list = ap length now.1 in
      let own' : All (λ e. seat_of e ≡ id) more = subst (λ (n : ℕ). All (λ e. seat_of e ≡ n) more) f.number own in
      let tail : drop (length m.0.seen) list ≡ more = ap (drop (length m.0.seen)) e ∙ drop-append_seam m.0.seen more in
      let alone = holder_alone entries seat_of origin_of s r id m.0 t at mine now.0 in (
        w,
        keeps,
        tt,
        moves entries seat_of origin_of s r id m.0 w x.next x.now list more x.homes _ _ at sp sp
            (ap (λ ws. set ws 2 ((get_or ws 2 0 + k) % cycle)) r.words_are ∙ ap (λ z. (x.next % cycle) ∷ (x.now % cycle) ∷ z ∷ r.bells) (omega arith))
            r.homes_are
            e'
            (λ n ne. others_none seat_of id n more ne own')
            (omega arith)
            (inr (id, w, t, set_here s.views id w (in_range s.views id m.0 at), sp, h.1, now.2))
            record {
              number = f.number;
              base = f.base;
              met = f.met;
              origin = f.origin;
              begins = starts_self list;
              left = starts_more x.list list m.0.left more e' f.left;
              right = starts_more x.list list m.0.right more e' f.right;
              own = tail_more seat_of id x.base x.list list more e' r.based ∙ ap (λ (z : List E × List E). z.0 ++ z.1) (λ i. (f.own i, (own_all seat_of id more own' ∙ sym tail) i));
              ranged = f.ranged;
              holding = λ u q. let n = f.holding u q in (n.0, refl, n.2);
              first = f.first;
            }
            (λ j u ne q b k lo hi. (lo, hi))
            (λ j u ne q b k is _ _. absurd (alone j u ne q (ticket_held u.stage b k ∙ ap Some is)))
            (λ b k j u ne q other. ne (r.apart j id u m.0 b q at other k))
            (inl refl),
        (λ z q. let same : y ≡ z = ap (carried_or y) (sym out ∙ q) in ap (λ (c : S). (grown m.0 (entries c), m.1)) same),
      )

  serves_out : (slots id : ℕ) (v : V) (y : S) → is_holding v.stage ≡ true → v.spent ≡ false → v.seen ≡ entries y → origin_of y ≡ v.origin
      → Allows Rule slots id (v, (0, Some y) ∷ []) 1 (λ n. (n + 1) % 18446744073709551616) (served (step slots 1 1 0 none) (v, (0, Some y) ∷ []))
  serves_out slots id v y holds sp seen from s r _ at _ =
      let x = r.facts in
      let f = r.each_seat id v at sp in
      let h = holds_some v.stage holds in
      let t = h.0 in
      let mine : ticket_of v.stage ≡ Some t = ticket_held v.stage t h.1 in
      let now = f.holding t h.1 in
      let range = f.ranged t mine in
      let w : V = record v { stage = Idle } in
      let alone = holder_alone entries seat_of origin_of s r id v t at mine now.0 in (
        w,
        gives,
        tt,
        moves entries seat_of origin_of s r id v w x.next (x.now + 1) x.list [] (some (Some y) ∷ []) _ _ at sp sp
            (ap (λ ws. set ws 1 ((get_or ws 1 0 + 1) % cycle)) r.words_are ∙ ap (λ z. (x.next % cycle) ∷ z ∷ length x.list ∷ r.bells) (omega arith))
            (ap (λ (h : Slots). set h 0 (some (Some y))) (r.homes_are ∙ now.2))
            (sym (append-nil x.list))
            (λ n _. refl)
            (let z : weight v.stage ≡ 1 = ap weight h.1 in omega arith)
            (inl (y, refl, sym seen ∙ now.1, from ∙ f.origin))
            record {
              number = f.number;
              base = f.base;
              met = f.met;
              origin = f.origin;
              begins = f.begins;
              left = f.left;
              right = f.right;
              own = f.own;
              ranged = λ u q. absurd (no_ticket u q);
              holding = λ u q. absurd (idle_not_holding u q);
              first = f.first;
            }
            (λ j u ne q b k lo hi. let apart : b ≢ x.now = λ is. alone j u ne q (k ∙ ap Some is) in (omega arith, hi))
            (λ j u ne q b k is _ _. absurd (alone j u ne q (ticket_held u.stage b k ∙ ap Some is)))
            (λ b k j u ne q other. no_ticket b k)
            (inr (refl, refl)),
        refl,
      )

  -- a bell, and the count of those who sleep, may be changed by any seat
  pub rings : (slots id word : ℕ) (m : Me (Option S) V) (f : ℕ → ℕ) → 3 ≤ word → Allows Rule slots id m word f (rang (step slots word 1 0 none) m)
  rings slots id word m f past s r _ at _ =
      let rest = set_past (r.facts.next % cycle) (r.facts.now % cycle) (length r.facts.list) r.bells word (f (get_or s.words word 0)) past in (
        m.0,
        keeps,
        tt,
        subst (λ (vs : List V). Rule record { words = set s.words word (f (get_or s.words word 0)); homes = s.homes; views = vs }) (sym (set_again s.views id m.0 at))
            record {
              facts = r.facts;
              bells = rest.0;
              words_are = ap (λ ws. set ws word (f (get_or s.words word 0))) r.words_are ∙ rest.1;
              homes_are = r.homes_are;
              many_is = r.many_is;
              few = r.few;
              counted = r.counted;
              alive = r.alive;
              based = r.based;
              place = r.place;
              each_seat = r.each_seat;
              apart = r.apart;
              whole = r.whole;
              joined = r.joined;
              unkept = r.unkept;
              idle_spent = r.idle_spent;
            },
        refl,
      )

  pub looks_at : (slots id : ℕ) (m m' : Me (Option S) V) (t : ℕ) → m ≡ m' → m'.0.stage ≡ Waiting t → m'.0.spent ≡ false
      → Allows Rule slots id m 1 (λ n. n) (looked entries seat_of origin_of (step slots 1 0 0 none) m)
  looks_at slots id m m' t e waits sp = let at = ap (λ (z : Me (Option S) V). z.0) e in looks slots id m t (ap (λ (v : V). v.stage) at ∙ waits) (ap (λ (v : V). v.spent) at ∙ sp)

  pub extends_at : (slots id k : ℕ) (m : Me (Option S) V) (v : V) (y : S) (more : List E)
      → m ≡ (v, (0, Some y) ∷ []) → is_holding v.stage ≡ true → v.spent ≡ false
      → entries y ≡ v.seen ++ more → All (λ e. seat_of e ≡ v.number) more → length v.seen + k ≡ length (entries y) → length (entries y) < 18446744073709551616
      → Allows Rule slots id m 2 (λ n. (n + k) % 18446744073709551616) (extended entries (step slots 2 k 0 none) m)
  extends_at slots id k m v y more is holds sp e own count fits =
      subst (λ (z : Me (Option S) V). Allows Rule slots id z 2 (λ n. (n + k) % 18446744073709551616) (extended entries (step slots 2 k 0 none) z)) (sym is)
      (extends slots id k (v, (0, Some y) ∷ []) y more refl holds sp e own count fits)

  pub serves_at : (slots id : ℕ) (m : Me (Option S) V) (v : V) (y : S) → m ≡ (v, (0, Some y) ∷ []) → is_holding v.stage ≡ true → v.spent ≡ false → v.seen ≡ entries y → origin_of y ≡ v.origin
      → Allows Rule slots id m 1 (λ n. (n + 1) % 18446744073709551616) (served (step slots 1 1 0 none) m)
  serves_at slots id m v y is holds sp seen from =
      subst (λ (z : Me (Option S) V). Allows Rule slots id z 1 (λ n. (n + 1) % 18446744073709551616) (served (step slots 1 1 0 none) z)) (sym is) (serves_out slots id v y holds sp seen from)
