-- The table of rows after an event: some table is as the event asks.
use Rattle.std.proofs.Common.{◌≡◌, Bool, true, false, cond, [], ◌∷◌, Option, Some, None, IsSome, inl, inr, refl, sym, ap, ◌∙◌}
use Rattle.std.proofs.lemmas.Bool.{false≢true}
use Rattle.spg_base.specs.Row.{RowAt, same_row}
use Rattle.spg_rows.specs.declared.table.RowEntry.{RowEntry}
use Rattle.spg_rows.specs.declared.table.Stand.{Stand}
use Rattle.spg_rows.specs.Table.{Table, entry_in, entry_with, entry_state, entry_key, stand_state, state_in, SetsEntry, SameKeys}
use Rattle.spg_rows.proofs.RowOrder.{row_tells, same_row-refl}

-- the test goes both ways
same_either : (a b : RowAt) → same_row a b ≡ same_row b a
same_either a b = elim (row_tells a b) [
  | inl here ↦ here.0 ∙ sym (ap (λ q. same_row q a) (sym here.1) ∙ same_row-refl a)
  | inr other ↦ elim (row_tells b a) [
    | inl back ↦ absurd (false≢true (sym other ∙ ap (λ q. same_row a q) back.1 ∙ same_row-refl a))
    | inr none ↦ other ∙ sym none
  ]
]

module _ {O Key Recon Cond : Type 0} where
  none_either : (b : Bool) → ◌≡◌ {A = Option (RowEntry O Key Recon Cond)} None (cond b None None)
  none_either true = refl
  none_either false = refl

  -- ---- an entry that comes

  pub claimed : (row : RowAt) (e : RowEntry O Key Recon Cond) (xs : Table O Key Recon Cond) → SetsEntry xs ((row, e) ∷ xs) row (Some e)
  claimed row e xs r = ap (λ b. cond b (Some e) (entry_in xs r)) (same_either r row)

  -- ---- one that goes

  abbrev pub without : RowAt → Table O Key Recon Cond → Table O Key Recon Cond
  without row [] = []
  without row (x ∷ xs) = cond (same_row row x.0) (without row xs) (x ∷ without row xs)

  lost : (a b : Bool) (p q : Option (RowEntry O Key Recon Cond)) → b ≡ a → cond a None q ≡ cond a None (cond b p q)
  lost true b p q e = refl
  lost false b p q e = ap (λ c. cond c p q) (sym e)

  pub dropped : (row : RowAt) (xs : Table O Key Recon Cond) → SetsEntry xs (without row xs) row None
  dropped row [] r = none_either (same_row row r)
  dropped row (x ∷ xs) r = elim (row_tells row x.0) [
    | inl here ↦
        ap (λ b. entry_in (cond b (without row xs) (x ∷ without row xs)) r) here.0 ∙ dropped row xs r
        ∙ lost (same_row row r) (same_row r x.0) (Some x.1) (entry_in xs r) (ap (λ q. same_row r q) (sym here.1) ∙ same_either r row)
    | inr other ↦ ap (λ b. entry_in (cond b (without row xs) (x ∷ without row xs)) r) other ∙ apart other (dropped row xs r)
  ]
    where
      apart : same_row row x.0 ≡ false → entry_in (without row xs) r ≡ cond (same_row row r) None (entry_in xs r) → cond (same_row r x.0) (Some x.1) (entry_in (without row xs) r) ≡ cond (same_row row r) None (cond (same_row r x.0) (Some x.1) (entry_in xs r))
      apart other rest = elim (row_tells r x.0) [
        | inl here ↦
            ap (λ b. cond b (Some x.1) (entry_in (without row xs) r)) here.0
            ∙ sym (ap (λ b. cond b None (cond (same_row r x.0) (Some x.1) (entry_in xs r))) (ap (λ q. same_row row q) here.1 ∙ other) ∙ ap (λ b. cond b (Some x.1) (entry_in xs r)) here.0)
        | inr far ↦
            ap (λ b. cond b (Some x.1) (entry_in (without row xs) r)) far ∙ rest
            ∙ sym (ap (λ b. cond (same_row row r) None (cond b (Some x.1) (entry_in xs r))) far)
      ]

  -- ---- entries with another state

  abbrev pub restand : (RowAt → Bool) → Stand → Table O Key Recon Cond → Table O Key Recon Cond
  restand f stand [] = []
  restand f stand (x ∷ xs) = (x.0, cond (f x.0) (record { stand = stand; key = x.1.key }) x.1) ∷ restand f stand xs

  some_either : (b : Bool) (p q : RowEntry O Key Recon Cond) → Some (cond b p q) ≡ cond b (Some p) (Some q)
  some_either true p q = refl
  some_either false p q = refl

  restands : (f : RowAt → Bool) (stand : Stand) (xs : Table O Key Recon Cond) (r : RowAt) → entry_in (restand f stand xs) r ≡ cond (f r) (entry_with stand (entry_in xs r)) (entry_in xs r)
  restands f stand [] r = none_either (f r)
  restands f stand (x ∷ xs) r =
      let next : RowEntry O Key Recon Cond = record { stand = stand; key = x.1.key } in
      elim (row_tells r x.0) [
        | inl here ↦
            ap (λ b. cond b (Some (cond (f x.0) next x.1)) (entry_in (restand f stand xs) r)) here.0 ∙ some_either (f x.0) next x.1 ∙ ap (λ q. cond (f q) (Some next) (Some x.1)) (sym here.1)
            ∙ sym (ap (λ b. cond (f r) (entry_with stand (cond b (Some x.1) (entry_in xs r))) (cond b (Some x.1) (entry_in xs r))) here.0)
        | inr other ↦
            ap (λ b. cond b (Some (cond (f x.0) next x.1)) (entry_in (restand f stand xs) r)) other ∙ restands f stand xs r
            ∙ sym (ap (λ b. cond (f r) (entry_with stand (cond b (Some x.1) (entry_in xs r))) (cond b (Some x.1) (entry_in xs r))) other)
      ]

  with_state : (stand : Stand) (entry : Option (RowEntry O Key Recon Cond)) → IsSome entry → entry_state (entry_with stand entry) ≡ stand_state stand
  with_state stand None some = (cc)
  with_state stand (Some entry) some = refl

  with_key : (stand : Stand) (entry : Option (RowEntry O Key Recon Cond)) → entry_key (entry_with stand entry) ≡ entry_key entry
  with_key stand None = refl
  with_key stand (Some entry) = refl

  pub restand_state : (f : RowAt → Bool) (stand : Stand) (xs : Table O Key Recon Cond) → ((r : RowAt) → f r ≡ true → IsSome (entry_in xs r)) → (r : RowAt) → state_in (restand f stand xs) r ≡ cond (f r) (stand_state stand) (state_in xs r)
  restand_state f stand xs there r = ap entry_state (restands f stand xs r) ∙ go (f r) refl
    where
      go : (b : Bool) → f r ≡ b → entry_state (cond b (entry_with stand (entry_in xs r)) (entry_in xs r)) ≡ cond b (stand_state stand) (state_in xs r)
      go true e = with_state stand (entry_in xs r) (there r e)
      go false e = refl

  pub restand_keys : (f : RowAt → Bool) (stand : Stand) (xs : Table O Key Recon Cond) → SameKeys xs (restand f stand xs)
  restand_keys f stand xs r = ap entry_key (restands f stand xs r) ∙ go (f r)
    where
      go : (b : Bool) → entry_key (cond b (entry_with stand (entry_in xs r)) (entry_in xs r)) ≡ entry_key (entry_in xs r)
      go true = with_key stand (entry_in xs r)
      go false = refl
