-- A seat that goes from one view to another keeps the rule, where what changes fits.
use Rattle.std.proofs.Common.{◌≡◌, ℕ, ◌+◌, ◌%◌, ◌<◌, ◌≤◌, ◌≢◌, ◌⊎◌, true, false, List, [], ◌∷◌, ◌++◌, length, get_or, set, drop, Option, Some, sym, refl, ap, ◌∙◌, subst, inl, inr, ⊎_elim, arith, length-set, length-append}
use Rattle.std.proofs.lemmas.List.{append-nil}
use Rattle.std.proofs.lemmas.Bool.{false≢true}
use mathlib.Core.Logic.{dite}
use mathlib.Core.Option as maybe
use mathlib.Core.Option.{some, none}
use native.Mathlib.Decide.{ℕ_discrete}
use lib.ListN.{get_elem?}
use lib.Seq.{set-get_or}
use Rattle.atomic_table.specs.Table.{State}
use Rattle.atomic_table.proofs.Lists.{set_here, set_else, set_again}
use Rattle.spg_base.specs.declared.recorded.Origin.{Origin}
use Rattle.spg_turn.specs.declared.rule.Stage.TheVariants.{Idle, Holding}
use Rattle.spg_turn.specs.declared.rule.View.{View}
use Rattle.spg_turn.specs.Views.{by_seat}
use Rattle.spg_turn.specs.Rule.{cycle, ticket_of, weight, is_live, Facts, Fits, Kept}
use Rattle.spg_turn.proofs.Journals.{starts_more, either_way, tail_more}
use Rattle.spg_turn.proofs.Views.{seats_stay, no_ticket, tickets-set, live-set, in_range, same_there}

module _ {S E : Type 0} (entries : S → List E) (seat_of : E → ℕ) (origin_of : S → Origin) where
  abbrev V : Type 0
  V = View E

  abbrev St : Type 0
  St = State (Option S) (View E)

  abbrev Slots : Type 0
  Slots = List (maybe.Option (Option S))

  abbrev Rule : St → Type 0
  Rule = Kept entries seat_of origin_of

  abbrev pub moved : Facts S E → ℕ → ℕ → List E → Slots → Facts S E
  moved x next now list homes = record x { next = next; now = now; list = list; homes = homes }

  -- where the state is
  abbrev pub Placed : List V → List E → Origin → Slots → Type 0
  Placed vs list origin homes =
      ((y : S) × (homes ≡ some (Some y) ∷ []) × (entries y ≡ list) × (origin_of y ≡ origin))
      ⊎ ((j : ℕ) × (v : View E) × (t : ℕ) × (get_elem? vs j ≡ some v) × (v.spent ≡ false) × (v.stage ≡ Holding t) × (homes ≡ none ∷ []))

  -- a seat with no part in a step fits what is then so
  pub fits_on : (x : Facts S E) (next now : ℕ) (list more : List E) (homes : Slots) (j : ℕ) (u : V)
      → list ≡ x.list ++ more → by_seat seat_of j more ≡ [] → x.base ≤ length x.list
      → ((t : ℕ) → ticket_of u.stage ≡ Some t → x.now ≤ t → t < x.next → (now ≤ t) × (t < next))
      → ((t : ℕ) → u.stage ≡ Holding t → t ≡ x.now → u.seen ≡ x.list → x.homes ≡ none ∷ [] → (t ≡ now) × (u.seen ≡ list) × (homes ≡ none ∷ []))
      → Fits seat_of x j u → Fits seat_of (moved x next now list homes) j u
  fits_on x next now list more homes j u e nomore based range hold f = record {
    number = f.number;
    base = f.base;
    met = f.met;
    origin = f.origin;
    begins = starts_more x.list list u.seen more e f.begins;
    left = starts_more x.list list u.left more e f.left;
    right = starts_more x.list list u.right more e f.right;
    own = tail_more seat_of j x.base x.list list more e based ∙ (ap (λ l. by_seat seat_of j (drop x.base x.list) ++ l) nomore ∙ (append-nil (by_seat seat_of j (drop x.base x.list)) ∙ f.own));
    ranged = λ t q. let h = f.ranged t q in range t q h.0 h.1;
    holding = λ t q. let h = f.holding t q in hold t q h.0 h.1 h.2;
    first = f.first;
  }

  pub moves : (s : St) (r : Rule s) (me : ℕ) (v w : V) (next now : ℕ) (list more : List E) (homes : Slots) (ws : List ℕ) (hs : Slots)
      → get_elem? s.views me ≡ some v → v.spent ≡ false → w.spent ≡ false
      → ws ≡ (next % cycle) ∷ (now % cycle) ∷ length list ∷ r.bells
      → hs ≡ homes
      → list ≡ r.facts.list ++ more → ((n : ℕ) → n ≢ me → by_seat seat_of n more ≡ [])
      → weight w.stage + r.facts.next + now ≡ weight v.stage + r.facts.now + next
      → Placed (set s.views me w) list r.facts.origin homes
      → Fits seat_of (moved r.facts next now list homes) me w
      → ((j : ℕ) (u : V) → j ≢ me → get_elem? s.views j ≡ some u → (t : ℕ) → ticket_of u.stage ≡ Some t → r.facts.now ≤ t → t < r.facts.next → (now ≤ t) × (t < next))
      → ((j : ℕ) (u : V) → j ≢ me → get_elem? s.views j ≡ some u → (t : ℕ) → u.stage ≡ Holding t → t ≡ r.facts.now → u.seen ≡ r.facts.list → r.facts.homes ≡ none ∷ []
      → (t ≡ now) × (u.seen ≡ list) × (homes ≡ none ∷ []))
      → ((t : ℕ) → ticket_of w.stage ≡ Some t → (j : ℕ) (u : V) → j ≢ me → get_elem? s.views j ≡ some u → ticket_of u.stage ≡ Some t → ⊥)
      → (w.seen ≡ list) ⊎ ((w.seen ≡ v.seen) × (list ≡ r.facts.list))
      → Rule record { words = ws; homes = hs; views = set s.views me w }
  moves s r me v w next now list more homes ws hs at live_v live_w words slots e nomore weighs place mine range hold fresh whole =
      let x = r.facts in
      let inside = in_range s.views me v at in
      let here = set_here s.views me w inside in record {
        facts = moved x next now list homes;
        bells = r.bells;
        words_are = words;
        homes_are = slots;
        many_is = length-set s.views me w ∙ r.many_is;
        few = r.few;
        counted = (let h = tickets-set s.views me v w at in let c = r.counted in omega arith);
        alive = (let h = live-set s.views me v w at in let a = r.alive in let p : is_live v.spent ≡ 1 = ap is_live live_v in let q : is_live w.spent ≡ 1 = ap is_live live_w in omega arith);
        based = (let b = r.based in let h : length list ≡ length x.list + length more = ap length e ∙ length-append x.list more in omega arith);
        place = place;
        each_seat = seats_stay (λ j u. u.spent ≡ false → Fits seat_of (moved x next now list homes) j u) s.views me w (λ _. mine)
            (λ j u ne q sp. fits_on x next now list more homes j u e (nomore j ne) r.based (range j u ne q) (hold j u ne q) (r.each_seat j u q sp));
        apart = λ i j a b t p q ta tb.
            seats_stay (λ i a. ticket_of a.stage ≡ Some t → i ≡ j) s.views me w
            (λ tw. seats_stay (λ j b. ticket_of b.stage ≡ Some t → me ≡ j) s.views me w (λ _. refl) (λ j b ne q tb. absurd (fresh t tw j b ne q tb)) j b q tb)
            (λ i a ne p ta. seats_stay (λ j b. ticket_of b.stage ≡ Some t → i ≡ j) s.views me w (λ tw. absurd (fresh t tw i a ne p ta)) (λ j b _ q tb. r.apart i j a b t p q ta tb) j b q tb)
            i a p ta;
        whole = ⊎_elim
            (λ (q : w.seen ≡ list). (me, w, here, live_w, q))
            (λ (q : (w.seen ≡ v.seen) × (list ≡ x.list)). let k = r.whole in dite (ℕ_discrete k.0 me)
            (λ is. let same : k.1 ≡ v = same_there s.views me k.1 v (ap (λ j. get_elem? s.views j) (sym is) ∙ k.2) at in
            (me, w, here, live_w, q.0 ∙ (ap (λ (z : V). z.seen) (sym same) ∙ (k.4 ∙ sym q.1))))
            (λ ne. (k.0, k.1, set_else s.views me k.0 w ne ∙ k.2, k.3, k.4 ∙ sym q.1)))
            whole;
        joined = λ n gone. dite (ℕ_discrete n me)
            (λ is. absurd (false≢true (sym live_w ∙ gone w (ap (λ j. get_elem? (set s.views me w) j) is ∙ here))))
            (λ ne. tail_more seat_of n x.base x.list list more e r.based ∙ (ap (λ l. by_seat seat_of n (drop x.base x.list) ++ l) (nomore n ne) ∙ (append-nil (by_seat seat_of n (drop x.base x.list))
            ∙ r.joined n (λ u q. gone u (set_else s.views me n w ne ∙ q)))));
        unkept = r.unkept;
        idle_spent = seats_stay (λ j u. u.spent ≡ true → u.stage ≡ Idle) s.views me w (λ sp. absurd (false≢true (sym live_w ∙ sp))) (λ j u _ q. r.idle_spent j u q);
      }

  -- the state stays where it is, if this seat did not have it
  pub placed_on : (vs : List V) (me : ℕ) (v w : V) (list : List E) (origin : Origin) (homes : Slots) → get_elem? vs me ≡ some v → ((t : ℕ) → v.stage ≡ Holding t → ⊥)
      → Placed vs list origin homes → Placed (set vs me w) list origin homes
  placed_on vs me v w list origin homes at free p =
      ⊎_elim
      (λ h. inl h)
      (λ (h : (j : ℕ) × (u : View E) × (t : ℕ) × (get_elem? vs j ≡ some u) × (u.spent ≡ false) × (u.stage ≡ Holding t) × (homes ≡ none ∷ [])).
      let ne : h.0 ≢ me = λ is. free h.2 (ap (λ (z : V). z.stage) (same_there vs me v h.1 at (ap (λ j. get_elem? vs j) (sym is) ∙ h.3)) ∙ h.5) in
      inr (h.0, h.1, h.2, set_else vs me h.0 w ne ∙ h.3, h.4, h.5, h.6))
      p

  -- a seat with a ticket is not spent
  pub with_ticket : (s : St) (r : Rule s) (j : ℕ) (u : V) (t : ℕ) → get_elem? s.views j ≡ some u → ticket_of u.stage ≡ Some t → Fits seat_of r.facts j u
  with_ticket s r j u t q k = ⊎_elim (λ live. r.each_seat j u q live) (λ gone. absurd (no_ticket t (sym (ap ticket_of (r.idle_spent j u q gone)) ∙ k))) (either_way u.spent)

  pub unmoved : (s : St) (r : Rule s) (word id : ℕ) (v : V) → get_elem? s.views id ≡ some v → Rule record { words = set s.words word (get_or s.words word 0); homes = s.homes; views = set s.views id v }
  unmoved s r word id v at =
      subst (λ (z : List ℕ × List V). Rule record { words = z.0; homes = s.homes; views = z.1 }) (λ i. (sym (set-get_or s.words word 0) i, sym (set_again s.views id v at) i)) r

  -- the holder alone has a ticket that is served
  pub holder_alone : (s : St) (r : Rule s) (id : ℕ) (v : V) (t : ℕ) → get_elem? s.views id ≡ some v → ticket_of v.stage ≡ Some t → t ≡ r.facts.now
      → (j : ℕ) (u : V) → j ≢ id → get_elem? s.views j ≡ some u → ticket_of u.stage ≡ Some r.facts.now → ⊥
  holder_alone s r id v t at mine is j u ne q other = ne (r.apart j id u v t q at (other ∙ ap Some (sym is)) mine)
