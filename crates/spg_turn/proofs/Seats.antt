-- A seat that is given or comes back keeps the rule.
use Rattle.std.proofs.Common.{◌≡◌, ℕ, ◌+◌, ◌<◌, ◌≤◌, ◌≢◌, ◌⊎◌, true, false, cond, List, [], ◌∷◌, ◌++◌, length, get_or, set, drop, Option, Some, sym, refl, ap, ◌∙◌, subst, inl, inr, ⊎_elim, arith, le_refl, length-set, length-append, eq-eqb, ne_eqb}
use Rattle.std.proofs.lemmas.List.{append-nil}
use Rattle.std.proofs.lemmas.Bool.{false≢true}
use mathlib.Core.Logic.{dite}
use mathlib.Core.Option as maybe
use mathlib.Core.Option.{some, none}
use native.Mathlib.Decide.{ℕ_discrete}
use lib.ListN.{get_elem?}
use Rattle.atomic_table.specs.Table.{State, Me, step, keeps, Allows, Splits, Joins}
use Rattle.atomic_table.proofs.Lists.{set_here, set_else, at_longer}
use Rattle.spg_base.specs.declared.recorded.Origin.{Origin}
use Rattle.spg_turn.specs.declared.rule.Stage.TheVariants.{Idle, Holding}
use Rattle.spg_turn.specs.declared.rule.View.{View}
use Rattle.spg_turn.specs.Views.{StartsWith, by_seat, kept_of, longer, after_split, dealt, joining, spent_view}
use Rattle.spg_turn.specs.Rule.{ticket_of, weight, is_live, Facts, Fits, Kept, compared}
use Rattle.spg_turn.proofs.Journals.{longer_cases, longer_starts, longer_whole}
use Rattle.spg_turn.proofs.Views.{live_some, seats_stay, no_ticket, idle_not_holding, tickets-set, live-set, at_end, tickets-snoc, live-snoc, in_range, same_there}
use Rattle.spg_turn.proofs.Moves.{moves, placed_on}

module _ {S E : Type 0} (entries : S → List E) (seat_of : E → ℕ) (origin_of : S → Origin) where
  abbrev V : Type 0
  V = View E

  abbrev St : Type 0
  St = State (Option S) (View E)

  abbrev Slots : Type 0
  Slots = List (maybe.Option (Option S))

  abbrev Rule : St → Type 0
  Rule = Kept entries seat_of origin_of

  pub compares : (slots id : ℕ) (m : Me (Option S) V) → m.0.stage ≡ Idle → m.0.spent ≡ false → Allows Rule slots id m 2 (λ n. n) (compared (step slots 2 0 0 none) m)
  compares slots id m idle sp s r _ at _ =
      let x = r.facts in
      let f = r.each_seat id m.0 at sp in
      let w : V = record m.0 { left = []; right = []; met = m.0.base } in (
        w,
        keeps,
        tt,
        moves entries seat_of origin_of s r id m.0 w x.next x.now x.list [] x.homes _ _ at sp sp
            (ap (λ ws. set ws 2 (get_or ws 2 0)) r.words_are)
            r.homes_are
            (sym (append-nil x.list))
            (λ n _. refl)
            (omega arith)
            (placed_on entries seat_of origin_of s.views id m.0 w x.list x.origin x.homes at (λ t q. idle_not_holding t (sym idle ∙ q)) r.place)
            record {
              number = f.number;
              base = f.base;
              met = f.base;
              origin = f.origin;
              begins = f.begins;
              left = (x.list, refl);
              right = (x.list, refl);
              own = f.own;
              ranged = f.ranged;
              holding = f.holding;
              first = f.first;
            }
            (λ j u ne q t k lo hi. (lo, hi))
            (λ j u ne q t k is seen out. (is, seen, out))
            (λ t k j u ne q other. no_ticket t (sym (ap ticket_of idle) ∙ k))
            (inr (refl, refl)),
        (
          refl,
          (longer_starts m.0.left m.0.right x.list f.left f.right).0,
          (longer_starts m.0.left m.0.right x.list f.left f.right).1,
          (λ z. let g = (f.first (sym f.number ∙ z)).0 in let b = (f.first (sym f.number ∙ z)).1 in let a = r.alive in let l = live_some s.views id m.0 at sp in let few = r.few in (omega arith, omega arith)),
          f.met ∙ sym f.base,
        ),
      )

  pub splits : (id : ℕ) (v : V) → v.number ≡ 0 → v.spent ≡ false → v.stage ≡ Idle → v.given < 64 → Splits Rule id v (after_split v) (dealt v)
  splits id v zeroth sp idle room s r at =
      let x = r.facts in
      let f = r.each_seat id v at sp in
      let at_zero : id ≡ 0 = sym f.number ∙ zeroth in
      let books = f.first at_zero in
      let given : v.given ≡ x.many = books.0 in
      let w : V = after_split v in
      let d : V = dealt v in
      let x' : Facts S E = record x { many = x.many + 1 } in
      let inside = in_range s.views id v at in
      let one : List V = set s.views id w in
      let long : length one ≡ x.many = length-set s.views id w ∙ r.many_is in
      let here : get_elem? one id ≡ some w = set_here s.views id w inside in
      let seats : (P : ℕ → V → Type 0) → P id w → ((j : ℕ) (u : V) → j ≢ id → get_elem? s.views j ≡ some u → P j u) → P x.many d
      → (j : ℕ) (u : V) → get_elem? (one ++ d ∷ []) j ≡ some u → P j u =
      λ P mine others new j u q. ⊎_elim
      (λ (h : get_elem? one j ≡ some u). seats_stay P s.views id w mine others j u h)
      (λ (h : (j ≡ length one) × (d ≡ u)). subst (λ (z : ℕ × V). P z.0 z.1) (λ i. (sym (h.0 ∙ long) i, h.1 i)) new)
      (at_end one d u j q) in
      let fits : (j : ℕ) (u : V) → j ≢ id → Fits seat_of x j u → Fits seat_of x' j u = λ j u ne g. record {
        number = g.number;
        base = g.base;
        met = g.met;
        origin = g.origin;
        begins = g.begins;
        left = g.left;
        right = g.right;
        own = g.own;
        ranged = g.ranged;
        holding = g.holding;
        first = λ z. absurd (ne (z ∙ sym at_zero));
      } in
      let gone_past : (n : ℕ) → x.many ≤ n → (u : V) → get_elem? s.views n ≡ some u → u.spent ≡ true = λ n past u q. let i = in_range s.views n u q in let m = r.many_is in absurd (omega arith) in
      record {
        facts = x';
        bells = r.bells;
        words_are = r.words_are;
        homes_are = r.homes_are;
        many_is = length-append one (d ∷ []) ∙ ap (λ (n : ℕ). n + 1) long;
        few = omega arith;
        counted = (let h = tickets-set s.views id v w at in let k = tickets-snoc one d in let c = r.counted in omega arith);
        alive = (let h = live-set s.views id v w at in let k = live-snoc one d in let c = r.alive in omega arith);
        based = r.based;
        place = ⊎_elim
            (λ h. inl h)
            (λ (h : (j : ℕ) × (u : View E) × (t : ℕ) × (get_elem? one j ≡ some u) × (u.spent ≡ false) × (u.stage ≡ Holding t) × (x.homes ≡ none ∷ [])).
            inr (h.0, h.1, h.2, at_longer one (d ∷ []) h.0 h.1 h.3, h.4, h.5, h.6))
            (placed_on entries seat_of origin_of s.views id v w x.list x.origin x.homes at (λ t q. idle_not_holding t (sym idle ∙ q)) r.place);
        each_seat = seats (λ j u. u.spent ≡ false → Fits seat_of x' j u)
            (λ _. record {
              number = f.number;
              base = f.base;
              met = f.met;
              origin = f.origin;
              begins = f.begins;
              left = f.left;
              right = f.right;
              own = f.own;
              ranged = f.ranged;
              holding = f.holding;
              first = λ _. (ap (λ (n : ℕ). n + 1) given, books.1, books.2);
            })
            (λ j u ne q live. fits j u ne (r.each_seat j u q live))
            (λ _. record {
              number = given;
              base = f.base;
              met = f.base;
              origin = f.origin;
              begins = f.begins;
              left = (x.list, refl);
              right = (x.list, refl);
              own = r.joined x.many (gone_past x.many (le_refl x.many)) ∙ r.unkept x.many (le_refl x.many);
              ranged = λ t q. absurd (no_ticket t q);
              holding = λ t q. absurd (idle_not_holding t q);
              first = λ z. let m = r.many_is in absurd (omega arith);
            });
        apart = λ i j a b t p q ta tb.
            seats (λ i a. ticket_of a.stage ≡ Some t → i ≡ j)
            (λ tw. absurd (no_ticket t (sym (ap ticket_of idle) ∙ tw)))
            (λ i a ne p ta. seats (λ j b. ticket_of b.stage ≡ Some t → i ≡ j) (λ tw. absurd (no_ticket t (sym (ap ticket_of idle) ∙ tw))) (λ j b _ q tb. r.apart i j a b t p q ta tb) (λ tw. absurd (no_ticket t tw)) j b q tb)
            (λ tw. absurd (no_ticket t tw))
            i a p ta;
        whole = (let k = r.whole in dite (ℕ_discrete k.0 id)
            (λ is. let same : k.1 ≡ v = same_there s.views id k.1 v (ap (λ j. get_elem? s.views j) (sym is) ∙ k.2) at in
            (id, w, at_longer one (d ∷ []) id w here, sp, ap (λ (z : V). z.seen) (sym same) ∙ k.4))
            (λ ne. (k.0, k.1, at_longer one (d ∷ []) k.0 k.1 (set_else s.views id k.0 w ne ∙ k.2), k.3, k.4)));
        joined = λ n gone. r.joined n (λ u q. dite (ℕ_discrete n id)
            (λ is. absurd (false≢true (sym sp ∙ gone w (at_longer one (d ∷ []) n w (ap (λ j. get_elem? one j) is ∙ here)))))
            (λ ne. gone u (at_longer one (d ∷ []) n u (set_else s.views id n w ne ∙ q))));
        unkept = λ n past. r.unkept n (omega arith);
        idle_spent = seats (λ j u. u.spent ≡ true → u.stage ≡ Idle) (λ _. idle) (λ j u _ q. r.idle_spent j u q) (λ _. refl);
      }

  pub joins : (id : ℕ) (v : V) (other : ℕ) (u : V) → v.number ≡ 0 → v.spent ≡ false → v.stage ≡ Idle → u.spent ≡ false → u.stage ≡ Idle
      → Joins Rule id v other u (joining v u) spent_view
  joins id v other u zeroth sp idle sp' idle' s r at apart there =
      let x = r.facts in
      let f = r.each_seat id v at sp in
      let at_zero : id ≡ 0 = sym f.number ∙ zeroth in
      let books = f.first at_zero in
      let at' : get_elem? s.views other ≡ some u = sym (set_else s.views id other (joining v u) apart) ∙ there in
      let k = r.each_seat other u at' sp' in
      let w : V = joining v u in
      let gone : V = spent_view in
      let x' : Facts S E = record x { back = x.back + 1; kept = (u.number, u.mine) ∷ x.kept } in
      let inside = in_range s.views id v at in
      let one : List V = set s.views id w in
      let two : List V = set one other gone in
      let long : length one ≡ length s.views = length-set s.views id w in
      let here : get_elem? one id ≡ some w = set_here s.views id w inside in
      let here' : get_elem? two id ≡ some w = set_else one other id gone (λ e. apart (sym e)) ∙ here in
      let inside' = in_range s.views other u at' in
      let spent' : get_elem? two other ≡ some gone = set_here one other gone (omega arith) in
      let seats : (P : ℕ → V → Type 0) → P id w → P other gone → ((j : ℕ) (z : V) → j ≢ id → j ≢ other → get_elem? s.views j ≡ some z → P j z)
      → (j : ℕ) (z : V) → get_elem? two j ≡ some z → P j z =
      λ P mine his others j z q. seats_stay P one other gone his
      (λ j z no h. seats_stay (λ j z. j ≢ other → P j z) s.views id w (λ _. mine) (λ j z ne h no. others j z ne no h) j z h no)
      j z q in
      let longest : StartsWith x.list (longer v.seen u.seen) = longer_cases (λ l. StartsWith x.list l) v.seen u.seen (λ _. f.begins) (λ _. k.begins) in
      let none_left : (t : ℕ) → ticket_of v.stage ≡ Some t → ⊥ = λ t q. no_ticket t (sym (ap ticket_of idle) ∙ q) in
      record {
        facts = x';
        bells = r.bells;
        words_are = r.words_are;
        homes_are = r.homes_are;
        many_is = length-set one other gone ∙ (long ∙ r.many_is);
        few = r.few;
        counted = (let h = tickets-set s.views id v w at in let h' = tickets-set one other u gone there in let z : weight u.stage ≡ 0 = ap weight idle' in let c = r.counted in omega arith);
        alive = (let h = live-set s.views id v w at in let h' = live-set one other u gone there in let p : is_live v.spent ≡ 1 = ap is_live sp in let p' : is_live u.spent ≡ 1 = ap is_live sp' in
            let c = r.alive in omega arith);
        based = r.based;
        place = placed_on entries seat_of origin_of one other u gone x.list x.origin x.homes there (λ t q. idle_not_holding t (sym idle' ∙ q))
            (placed_on entries seat_of origin_of s.views id v w x.list x.origin x.homes at (λ t q. idle_not_holding t (sym idle ∙ q)) r.place);
        each_seat = seats (λ j z. z.spent ≡ false → Fits seat_of x' j z)
            (λ _. record {
              number = f.number;
              base = f.base;
              met = k.base;
              origin = f.origin;
              begins = longest;
              left = f.begins;
              right = k.begins;
              own = f.own;
              ranged = f.ranged;
              holding = λ t q. absurd (idle_not_holding t (sym idle ∙ q));
              first = λ _. (books.0, ap (λ (n : ℕ). n + 1) books.1, ap (λ (l : List (ℕ × List E)). (u.number, u.mine) ∷ l) books.2);
            })
            (λ live. absurd (false≢true (sym live)))
            (λ j z ne no q live. let g = r.each_seat j z q live in record {
              number = g.number;
              base = g.base;
              met = g.met;
              origin = g.origin;
              begins = g.begins;
              left = g.left;
              right = g.right;
              own = g.own;
              ranged = g.ranged;
              holding = g.holding;
              first = λ e. absurd (ne (e ∙ sym at_zero));
            });
        apart = λ i j a b t p q ta tb.
            seats (λ i a. ticket_of a.stage ≡ Some t → i ≡ j)
            (λ tw. absurd (none_left t tw))
            (λ tw. absurd (no_ticket t tw))
            (λ i a _ _ p ta. seats (λ j b. ticket_of b.stage ≡ Some t → i ≡ j) (λ tw. absurd (none_left t tw)) (λ tw. absurd (no_ticket t tw)) (λ j b _ _ q tb. r.apart i j a b t p q ta tb) j b q tb)
            i a p ta;
        whole = (let z = r.whole in
            let here_whole : (v.seen ≡ x.list) ⊎ (u.seen ≡ x.list) → (j : ℕ) × (y : V) × (get_elem? two j ≡ some y) × (y.spent ≡ false) × (y.seen ≡ x.list) =
            λ either. (id, w, here', sp, longer_whole v.seen u.seen x.list f.begins k.begins either) in
            dite (ℕ_discrete z.0 id)
            (λ is. here_whole (inl (ap (λ (y : V). y.seen) (sym (same_there s.views id z.1 v (ap (λ j. get_elem? s.views j) (sym is) ∙ z.2) at)) ∙ z.4)))
            (λ ne. dite (ℕ_discrete z.0 other)
            (λ is. here_whole (inr (ap (λ (y : V). y.seen) (sym (same_there s.views other z.1 u (ap (λ j. get_elem? s.views j) (sym is) ∙ z.2) at')) ∙ z.4)))
            (λ no. (z.0, z.1, set_else one other z.0 gone no ∙ (set_else s.views id z.0 w ne ∙ z.2), z.3, z.4))));
        joined = λ n all_gone. dite (ℕ_discrete n other)
            (λ is. ap (λ (m : ℕ). by_seat seat_of m (drop x.base x.list)) is ∙ (k.own ∙ sym (ap (λ b. cond b u.mine (kept_of x.kept n)) (eq-eqb u.number n (k.number ∙ sym is)))))
            (λ no. r.joined n (λ z q. dite (ℕ_discrete n id)
            (λ is. absurd (false≢true (sym sp ∙ all_gone w (ap (λ j. get_elem? two j) is ∙ here'))))
            (λ ne. all_gone z (set_else one other n gone no ∙ (set_else s.views id n w ne ∙ q))))
            ∙ sym (ap (λ b. cond b u.mine (kept_of x.kept n)) (ne_eqb u.number n (λ e. no (sym (sym k.number ∙ e))))));
        unkept = λ n past. (let m = r.many_is in let num = k.number in let below : u.number ≢ n = λ e. omega arith in
            ap (λ b. cond b u.mine (kept_of x.kept n)) (ne_eqb u.number n below) ∙ r.unkept n past);
        idle_spent = seats (λ j z. z.spent ≡ true → z.stage ≡ Idle) (λ _. idle) (λ _. refl) (λ j z _ _ q. r.idle_spent j z q);
      }
