-- A new lock meets the rule, and what the rule says once each other seat came back.
use Rattle.std.proofs.Common.{◌≡◌, ℕ, ◌+◌, ◌<◌, true, false, List, [], ◌∷◌, length, drop, Option, Some, sym, refl, ap, ◌∙◌, inl, ⊎_elim, arith, le_refl}
use Rattle.std.proofs.Math.Seq.{drop-length}
use mathlib.Core.Option as maybe
use mathlib.Core.Option.{some, none}
use lib.ListN.{get_elem?}
use Rattle.atomic_table.specs.Table.{State, opening, Seen}
use Rattle.spg_base.specs.declared.recorded.Origin.{Origin}
use Rattle.spg_turn.specs.declared.rule.Stage.TheVariants.{Idle, Holding}
use Rattle.spg_turn.specs.declared.rule.View.{View}
use Rattle.spg_turn.specs.Views.{by_seat, kept_of, first_view}
use Rattle.spg_turn.specs.Rule.{ticket_of, live, Fits, Kept}
use Rattle.spg_turn.proofs.Journals.{starts_self, either_way}
use Rattle.spg_turn.proofs.Views.{no_ticket, idle_not_holding, one_live, at_only, same_there}

module _ {S E : Type 0} (entries : S → List E) (seat_of : E → ℕ) (origin_of : S → Origin) where
  abbrev V : Type 0
  V = View E

  abbrev St : Type 0
  St = State (Option S) (View E)

  abbrev Slots : Type 0
  Slots = List (maybe.Option (Option S))

  abbrev Rule : St → Type 0
  Rule = Kept entries seat_of origin_of

  pub begins : (y : S) (len : ℕ) (bells : List ℕ) → len ≡ length (entries y) → Rule (opening (0 ∷ 0 ∷ len ∷ bells) (Some y ∷ []) (first_view (entries y) (origin_of y)))
  begins y len bells is =
      let list : List E = entries y in
      let v : V = first_view list (origin_of y) in
      let none_after : (n : ℕ) → by_seat seat_of n (drop (length list) list) ≡ [] = λ n. ap (λ l. by_seat seat_of n l) (drop-length list) in
      let only : (P : ℕ → V → Type 0) → P 0 v → (j : ℕ) (u : V) → get_elem? (v ∷ []) j ≡ some u → P j u = λ P mine j u q. at_only P v mine j u q in
      record {
        facts = record { next = 0; now = 0; base = length list; back = 0; many = 1; origin = origin_of y; list = list; kept = []; homes = some (Some y) ∷ [] };
        bells = bells;
        words_are = ap (λ (n : ℕ). 0 ∷ 0 ∷ n ∷ bells) is;
        homes_are = refl;
        many_is = refl;
        few = omega arith;
        counted = refl;
        alive = refl;
        based = le_refl (length list);
        place = inl (y, refl, refl, refl);
        each_seat = only (λ j u. u.spent ≡ false → Fits seat_of _ j u) (λ _. record {
          number = refl;
          base = refl;
          met = refl;
          origin = refl;
          begins = starts_self list;
          left = (list, refl);
          right = (list, refl);
          own = none_after 0;
          ranged = λ t q. absurd (no_ticket t q);
          holding = λ t q. absurd (idle_not_holding t q);
          first = λ _. (refl, refl, refl);
        });
        apart = λ i j a b t p q ta tb. absurd (only (λ i a. ticket_of a.stage ≡ Some t → ⊥) (λ tw. no_ticket t tw) i a p ta);
        whole = (0, v, refl, refl, refl);
        joined = λ n gone. none_after n;
        unkept = λ n past. refl;
        idle_spent = only (λ j u. u.spent ≡ true → u.stage ≡ Idle) (λ _. refl);
      }

  -- what is known once each other pass has been joined
  pub closes : (id : ℕ) (v : V) (s : St) (xs : List (Option S)) → Seen Rule id v s → ((k : ℕ) (o : Option S) → get_elem? s.homes k ≡ some (some o) → get_elem? xs k ≡ some o)
      → v.number ≡ 0 → v.spent ≡ false → v.stage ≡ Idle → v.back + 1 ≡ v.given
      → (y : S) × (get_elem? xs 0 ≡ some (Some y)) × (entries y ≡ v.seen) × (origin_of y ≡ v.origin)
      × (by_seat seat_of 0 (drop v.base v.seen) ≡ v.mine) × ((n : ℕ) → 0 < n → by_seat seat_of n (drop v.base v.seen) ≡ kept_of v.kept n)
  closes id v s xs seen slots zeroth sp idle all =
      let r = seen.0 in
      let at = seen.1 in
      let x = r.facts in
      let f = r.each_seat id v at sp in
      let at_zero : id ≡ 0 = sym f.number ∙ zeroth in
      let books = f.first at_zero in
      let given : v.given ≡ x.many = books.0 in
      let back : v.back ≡ x.back = books.1 in
      let alive = r.alive in
      let one : live s.views ≡ 1 = omega arith in
      let only : (j : ℕ) (u : V) → get_elem? s.views j ≡ some u → u.spent ≡ false → j ≡ id = λ j u q live. one_live s.views id j v u one at sp q live in
      let z = r.whole in
      let whole : v.seen ≡ x.list = ap (λ (y : V). y.seen) (sym (same_there s.views id z.1 v (ap (λ j. get_elem? s.views j) (sym (only z.0 z.1 z.2 z.3)) ∙ z.2) at)) ∙ z.4 in
      let tail : (n : ℕ) → by_seat seat_of n (drop v.base v.seen) ≡ by_seat seat_of n (drop x.base x.list) = λ n. ap (λ (p : ℕ × List E). by_seat seat_of n (drop p.0 p.1)) (λ i. (f.base i, whole i)) in
      ⊎_elim
      (λ (p : (y : S) × (x.homes ≡ some (Some y) ∷ []) × (entries y ≡ x.list) × (origin_of y ≡ x.origin)). (
        p.0,
        slots 0 (Some p.0) (ap (λ (h : Slots). get_elem? h 0) (r.homes_are ∙ p.1)),
        p.2 ∙ sym whole,
        p.3 ∙ sym f.origin,
        tail 0 ∙ (ap (λ (n : ℕ). by_seat seat_of n (drop x.base x.list)) (sym at_zero) ∙ f.own),
        (λ n pos. tail n ∙ (r.joined n (λ u q. ⊎_elim (λ live. let is = only n u q live in absurd (omega arith)) (λ gone. gone) (either_way u.spent)) ∙ ap (λ (l : List (ℕ × List E)). kept_of l n) (sym books.2))),
      ))
      (λ (p : (j : ℕ) × (u : View E) × (k : ℕ) × (get_elem? s.views j ≡ some u) × (u.spent ≡ false) × (u.stage ≡ Holding k) × (x.homes ≡ none ∷ [])).
      let is = only p.0 p.1 p.3 p.4 in
      let same : p.1 ≡ v = same_there s.views id p.1 v (ap (λ j. get_elem? s.views j) (sym is) ∙ p.3) at in
      absurd (idle_not_holding p.2 (sym idle ∙ (ap (λ (y : V). y.stage) (sym same) ∙ p.5))))
      r.place
