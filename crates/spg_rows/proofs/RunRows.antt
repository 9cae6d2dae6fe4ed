-- What a search among entries in ascending order of rows finds, and what a change of one entry does.
use Rattle.std.proofs.Common.{◌≡◌, ◌<◌, ◌-◌, ℕ, Bool, true, cond, [], length, get_or, set, Option, Some, None, IsSome, is_some, Result, Ok, Err, IfOk, IfErr, inl, inr, sym, ap, ◌∙◌, subst, arith}
use Rattle.std.specs.Cmp.{IsEquivalence, eq_by_cmp_equiv, tied_itself}
use Rattle.std.proofs.lemmas.Map.{lookup-set_value, lookup-remove_entry, keys-set_value}
use Rattle.std.proofs.lemmas.Map.Keys.{IsDistinct-from_sorted}
use Rattle.std.proofs.lemmas.List.{get_or_default}
use Rattle.std.specs.Ordering.{is_eq}
use Rattle.std.specs.declared.cmp.Ordering.TheVariants.{Less, Equal}
use Rattle.std.specs.List.{remove}
use Rattle.std.specs.List.Sorted.{IsSearchInRange, IsBinarySearchResult, IsStrictlySortedBy}
use Rattle.std.specs.Map.{keys_of}
use Rattle.std.proofs.lemmas.Bool.{cases_lt}
use Rattle.spg_base.specs.Row.{RowAt, row_cmp, same_row}
use Rattle.spg_rows.specs.declared.table.RowEntry.{RowEntry}
use Rattle.spg_rows.specs.declared.table.Stand.{Stand}
use Rattle.spg_rows.specs.Table.{Table, entry_in, entry_with, SetsEntry}
use Rattle.spg_rows.specs.Run.{Rises, IsAt, IsBehind}
use Rattle.spg_rows.proofs.RowOrder.{row_total, row-equal, row_tells}
use Rattle.spg_rows.proofs.Runs.{comparisons_rise, finds_at, finds_none, rises_remove, apart_above, apart_below, all_under, set_at, remove_at}

-- rows are equal by an equivalence
row_equiv : IsEquivalence same_row
row_equiv = eq_by_cmp_equiv row_total

one_row : (x y : RowAt) → (r : RowAt) → same_row r x ≡ true → same_row r y ≡ same_row x y
one_row x y r same = ap (λ q. same_row q y) (row-equal r x same)

some_entry : {X : Type 0} {o : Option X} (x : X) → o ≡ Some x → IsSome o
some_entry x is = ap is_some is

module _ {O Key Recon Cond : Type 0} (es : Table O Key Recon Cond) (rises : Rises es) (row : RowAt) where
  abbrev pub Entry : Type 0
  Entry = RowAt × RowEntry O Key Recon Cond

  -- a binary search by row ends at the row, or there is none
  pub searched : (r : Result ℕ ℕ) → IsSearchInRange r (length es) → IsBinarySearchResult (λ e. row_cmp e.0 row) es r → record { found : IfOk r (IsAt es row); absent : IfErr r (λ _. entry_in es row ≡ None) }
  searched (Ok at) low equal = record { found = record { in_range = low; here = λ d. row-equal (get_or es at d).0 row (ap is_eq (equal d)) }; absent = tt }
  searched (Err at) low parted = record {
    found = tt;
    absent = finds_none row_cmp row_total es row (λ j d in_range. elim (cases_lt j at) [
      | inl under ↦ apart_above row_cmp row_total (get_or es j d).0 row ((parted (comparisons_rise row_cmp row_total es rises row)).0 j d (omega arith) under)
      | inr over ↦ apart_below row_cmp row_total (get_or es j d).0 row ((parted (comparisons_rise row_cmp row_total es rises row)).1 j d over in_range)
    ]);
  }

  -- a row behind all others is not there
  pub behind_absent : IsBehind es row → entry_in es row ≡ None
  behind_absent behind = finds_none row_cmp row_total es row (λ j d low. apart_above row_cmp row_total (get_or es j d).0 row (behind j d low))

  -- it is behind all others where it is above the last
  pub behind_last : (last : Entry) → 0 < length es → get_or es (length es - 1) last ≡ last → row_cmp last.0 row ≡ Less → IsBehind es row
  behind_last last some is up = all_under row_cmp row_total es rises row last some is up

  -- and the last is below a row that is behind all others
  pub last_below : (last : Entry) → 0 < length es → get_or es (length es - 1) last ≡ last → IsBehind es row → row_cmp last.0 row ≡ Less
  last_below last some is behind = ap (λ e. row_cmp e.0 row) (sym is) ∙ behind (length es - 1) last (omega (arith, some))

  -- the last entry is the row's where its row is equal
  pub is_last : (last : Entry) → 0 < length es → get_or es (length es - 1) last ≡ last → row_cmp last.0 row ≡ Equal → IsAt es row (length es - 1)
  is_last last some is same = record {
    in_range = omega (arith, some);
    here = λ d. ap (λ e. e.0) (get_or_default es (length es - 1) d last (omega (arith, some)) ∙ is) ∙ row-equal last.0 row (ap is_eq same);
  }

  module _ (at : ℕ) (stands : IsAt es row at) where
    -- the entry of the row
    pub entry_at : (d : Entry) → entry_in es row ≡ Some (get_or es at d).1
    entry_at d = finds_at row_cmp row_total es rises row at d stands.in_range (ap (λ x. row_cmp row x) (stands.here d) ∙ tied_itself row_total row)

    -- another entry in its place
    pub entry_set : (entry : RowEntry O Key Recon Cond) → SetsEntry es (set es at (row, entry)) row (Some entry)
    entry_set entry r =
        ap (λ l. entry_in l r) (set_at row_cmp row_total es rises row at entry stands.in_range stands.here)
        ∙ lookup-set_value row_equiv (λ q. same_row row q) (λ x y same. one_row x y row same) r entry es (some_entry (get_or es at (row, entry)).1 (entry_at (row, entry)))

    -- it keeps the order
    pub rises_set : (entry : RowEntry O Key Recon Cond) → Rises (set es at (row, entry))
    rises_set entry =
        let keys : keys_of (set es at (row, entry)) ≡ keys_of es = ap keys_of (set_at row_cmp row_total es rises row at entry stands.in_range stands.here) ∙ keys-set_value (λ q. same_row row q) es entry in
        subst (λ ks. IsStrictlySortedBy row_cmp ks) (sym keys) rises

    -- its entry with another state
    pub stand_set : (x : Entry) (stand : Stand) → x ≡ get_or es at x → record {
      sets : SetsEntry es (set es at (x.0, record { stand = stand; key = x.1.key })) row (entry_with stand (entry_in es row));
      rises : Rises (set es at (x.0, record { stand = stand; key = x.1.key }));
      found : true ≡ is_some (entry_in es row);
    }
    stand_set x stand is =
        let new : RowEntry O Key Recon Cond = record { stand = stand; key = x.1.key } in
        let key : x.0 ≡ row = ap (λ e. e.0) is ∙ stands.here x in
        let had : entry_in es row ≡ Some x.1 = entry_at x ∙ ap (λ (e : Entry). Some e.1) (sym is) in
        record {
          sets = λ r. ap (λ k. entry_in (set es at (k, new)) r) key ∙ entry_set new r ∙ ap (λ o. cond (same_row row r) (entry_with stand o) (entry_in es r)) (sym had);
          rises = subst (λ k. Rises (set es at (k, new))) (sym key) (rises_set new);
          found = sym (ap is_some had);
        }

    -- no entry in its place
    pub entry_removed : SetsEntry es (remove es at) row None
    entry_removed r =
        ap (λ l. entry_in l r) (remove_at row_cmp row_total es rises row at stands.in_range stands.here)
        ∙ lookup-remove_entry row_equiv (λ q. same_row row q) (λ x y same. one_row x y row same) r es (IsDistinct-from_sorted row_cmp (keys_of es) rises)

    pub rises_removed : Rises (remove es at)
    rises_removed = rises_remove row_cmp row_total es at rises

-- where a row has no entry, none is set
pub none_set : {O Key Recon Cond : Type 0} (es : Table O Key Recon Cond) (row : RowAt) → entry_in es row ≡ None → SetsEntry es es row None
none_set es row none r = elim (row_tells row r) [
  | inl here ↦ ap (λ q. entry_in es q) (sym here.1) ∙ none ∙ sym (ap (λ (b : Bool). cond b None (entry_in es r)) here.0)
  | inr other ↦ sym (ap (λ (b : Bool). cond b None (entry_in es r)) other)
]

pub rises_none : IsStrictlySortedBy row_cmp []
unfolding IsStrictlySortedBy
rises_none = tt
