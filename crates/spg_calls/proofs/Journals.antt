-- Events at positions, and those of a seat.
use Rattle.std.proofs.Common.{◌≡◌, inl, inr, ◌<◌, ◌≤◌, ◌+◌, ◌-◌, ℕ, zero, suc, List, [], ◌∷◌, ◌++◌, length, take, drop, reverse, Option, refl, sym, ap, ◌∙◌, subst, arith, length-drop}
use Rattle.std.specs.Prelude.{slice_get, IsSomeAnd}
use Rattle.std.specs.List.{AllByRecursion}
use Rattle.std.proofs.lemmas.Bool.{eq-eqb}
use Rattle.std.proofs.lemmas.Bool.Decides.{eqb_tells}
use Rattle.std.proofs.lemmas.List.{drop-append-le, take-append-le}
use Rattle.spg_rows.specs.declared.event.Event.{Event}
use Rattle.spg_rows.specs.History.{seat_of, own}
use Rattle.spg_calls.specs.Calls.{past_at, between, IsBySeat}

pub get-left : {X : Type 0} (xs ys : List X) (i : ℕ) → i < length xs → slice_get (xs ++ ys) i ≡ slice_get xs i
get-left [] ys i below = absurd (omega arith)
get-left (x ∷ xs) ys zero below = refl
get-left (x ∷ xs) ys (suc i) below = get-left xs ys i (omega arith)

module _ {O Key Recon Cond : Type 0} where
  -- ---- one list of events before another

  pub between-grows : (low high : ℕ) (journal more : List (Event O Key Recon Cond)) → low ≤ high → high ≤ length journal → between low high (journal ++ more) ≡ between low high journal
  between-grows low high journal more le within =
      ap (take (high - low)) (drop-append-le low journal more (omega arith)) ∙ take-append-le (high - low) (drop low journal) more (omega (arith, length-drop low journal))

  pub past_at-grows : (at : ℕ) (journal more : List (Event O Key Recon Cond)) → at ≤ length journal → past_at at (journal ++ more) ≡ past_at at journal
  past_at-grows at journal more within = ap reverse (take-append-le at journal more within)

  pub by_seat-grows : (seat : ℕ) (journal more : List (Event O Key Recon Cond)) (at : ℕ) → at < length journal → IsBySeat seat journal at → IsBySeat seat (journal ++ more) at
  by_seat-grows seat journal more at within by = subst (λ (o : Option (Event O Key Recon Cond)). IsSomeAnd o (λ e. seat_of e ≡ seat)) (sym (get-left journal more at within)) by

  -- the event is one of those that came last
  pub new_by_seat : (seat : ℕ) (old events : List (Event O Key Recon Cond)) (at : ℕ) → AllByRecursion (λ e. seat_of e ≡ seat) events → length old ≤ at → at < length old + length events → IsBySeat seat (old ++ events) at
  new_by_seat seat [] [] at each low high = absurd (omega arith)
  new_by_seat seat [] (e ∷ events) zero each low high = each.0
  new_by_seat seat [] (e ∷ events) (suc at) each low high = new_by_seat seat [] events at each.1 (omega arith) (omega arith)
  new_by_seat seat (x ∷ old) events zero each low high = absurd (omega arith)
  new_by_seat seat (x ∷ old) events (suc at) each low high = new_by_seat seat old events at each (omega arith) (omega arith)

  -- ---- the events of a seat

  pub own-append : (seat : ℕ) (xs ys : List (Event O Key Recon Cond)) → own seat (xs ++ ys) ≡ own seat xs ++ own seat ys
  own-append seat [] ys = refl
  own-append seat (e ∷ xs) ys = elim (eqb_tells (seat_of e) seat) [
    | inl same ↦ rw same.0 (ap (λ l. e ∷ l) (own-append seat xs ys))
    | inr other ↦ rw other.0 (own-append seat xs ys)
  ]

  pub own-all : (seat : ℕ) (events : List (Event O Key Recon Cond)) → AllByRecursion (λ e. seat_of e ≡ seat) events → own seat events ≡ events
  own-all seat [] each = refl
  own-all seat (e ∷ events) each = rw (eq-eqb (seat_of e) seat each.0, own-all seat events each.1) refl

  -- ---- positions

  abbrev nothing_yet : List (Event O Key Recon Cond)
  nothing_yet = []

  drop_nil : (n : ℕ) → drop n (nothing_yet) ≡ nothing_yet
  drop_nil zero = refl
  drop_nil (suc n) = refl

  pub drop_drop : (a b : ℕ) (xs : List (Event O Key Recon Cond)) → drop b (drop a xs) ≡ drop (a + b) xs
  drop_drop zero b xs = let same : b ≡ 0 + b = omega arith in ap (λ n. drop n xs) same
  drop_drop (suc a) b [] = drop_nil b ∙ sym (drop_nil (suc a + b))
  drop_drop (suc a) b (x ∷ xs) = drop_drop a b xs ∙ (let same : suc (a + b) ≡ suc a + b = omega arith in ap (λ n. drop n (x ∷ xs)) same)
