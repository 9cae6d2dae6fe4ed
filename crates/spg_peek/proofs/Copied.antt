-- A read by a copy that the class sifted is a read.
use Rattle.std.proofs.Common.{◌≡◌, ◌+◌, ◌&&◌, ◌⊎◌, inl, inr, ℕ, Bool, true, false, cond, List, [], ◌∷◌, ◌++◌, length, length-append, take, drop, Option, Some, None, option_map, refl, sym, ap, ◌∙◌, subst, arith}
use Rattle.std.specs.Prelude.{slice_get}
use Rattle.std.proofs.lemmas.Bool.{false≢true}
use Rattle.std.proofs.lemmas.List.{append_assoc, append-nil, take_at, drop_at}
use Rattle.std.proofs.lemmas.Option.{same_Some}
use Rattle.spg_base.specs.Row.{RowAt}
use Rattle.spg_opclass.specs.Meaning.{Meaning, matches_rebuilt}
use Rattle.spg_opclass.specs.Copies.{matching}
use Rattle.spg_opclass.specs.Sifting.{rows_of as sifted_rows}
use Rattle.spg_opclass.specs.declared.copied.Copied.{Copied}
use Rattle.spg_opclass.specs.declared.copied.Copied.TheVariants.{Inner, Leaves}
use Rattle.spg_opclass.specs.declared.query.Query.{Query}
use Rattle.spg_opclass.specs.declared.query.Query.TheVariants.{All, Null, Where}
use Rattle.spg_forest.specs.View.{Place, Leaf}
use Rattle.spg_forest.specs.Spot.{Spot, Branch, Bucket, Forward, Nothing}
use Rattle.spg_forest.specs.Classes.{key_of}
use Rattle.spg_forest.specs.Sheets.{Sheets}
use Rattle.spg_forest.specs.Shape.{spots}
use Rattle.spg_rows.specs.Table as rows
use Rattle.spg_scan.specs.Items.{Item, held, inner, leaves, IsItem, rows_of}
use Rattle.spg_scan.specs.Scanning.{Scanning, is_live, asks_for, taken_of, counted, replaced}
use Rattle.spg_scan.specs.Reading.{live_leaves, asked_rows, ReadsSpot, CopiesSpot, Reads, met_of}
use Rattle.spg_scan.specs.Reading as read
use Rattle.spg_scan.specs.Copying.{rests_of, kept_copy, HasKept, Copies, TakesIn, is_copied, IsPlain}
use Rattle.spg_scan.proofs.CoverLists.{around, at_seam}
use Rattle.spg_peek.specs.Peeking.{HasConds}

-- ---- the place of an item is filled twice

module _ {X : Type 0} (xs : List X) (i : ℕ) (old x : X) (is : slice_get xs i ≡ Some old) where
  abbrev filled : List X
  filled = take i xs ++ (x ∷ [] ++ drop (i + 1) xs)

  long : length (take i xs) ≡ i
  long = (around xs i old is).1

  front : take i filled ≡ take i xs
  front = take_at (take i xs) (x ∷ [] ++ drop (i + 1) xs) i long

  behind : drop (i + 1) filled ≡ drop (i + 1) xs
  behind = ap (drop (i + 1)) (sym (append_assoc (take i xs) (x ∷ []) (drop (i + 1) xs)))
      ∙ drop_at (take i xs ++ x ∷ []) (drop (i + 1) xs) (i + 1) (let a = length-append (take i xs) (x ∷ []) in omega (arith, a, long))

  pub filled_twice : (ys : List X) → take i filled ++ (ys ++ drop (i + 1) filled) ≡ take i xs ++ (ys ++ drop (i + 1) xs)
  filled_twice ys = ap (λ (l : List X). l ++ (ys ++ drop (i + 1) filled)) front ∙ ap (λ (l : List X). take i xs ++ (ys ++ l)) behind

  pub filled_at : slice_get filled i ≡ Some x
  filled_at = subst (λ (n : ℕ). slice_get filled n ≡ Some x) long (at_seam (take i xs) (drop (i + 1) xs) x)

counted_on : (n : ℕ) → counted (counted n + 0) ≡ counted n
counted_on n = omega arith

module _ {O Key Recon Cond : Type 0} where
  pub replaced_twice : (s s1 s2 : Scanning O Key Recon Cond) (i : ℕ) (old x : Item Recon) (ys : List (Item Recon)) (found : List RowAt) (met : ℕ) → IsItem s.items i old → s1 ≡ replaced s i (x ∷ []) [] met → s2 ≡ replaced s1 i ys found 0 → s2 ≡ replaced s i ys found met
  replaced_twice s s1 s2 i old x ys found met at first second =
      second ∙ ap (λ (z : Scanning O Key Recon Cond). replaced z i ys found 0) first
      ∙ (λ k. record s { items = filled_twice s.items i old x at ys k; rows = append-nil s.rows k ++ found; met = counted_on (s.met + met) k })

module _ {O Key Recon Cond : Type 0} (m : Meaning Key Recon Cond) (table : rows.Table O Key Recon Cond) where
  -- ---- leaves

  asked_live : (query : Query O Key Recon Cond) (q : Option Recon) (ls : List Leaf) → asked_rows m query q (live_leaves table ls) ≡ taken_of m table query q ls
  asked_live query q [] = refl
  asked_live query q (l ∷ ls) = go (is_live (rows.state_in table l.row)) (asked_live query q ls)
    where
      go : (b : Bool) → asked_rows m query q (live_leaves table ls) ≡ taken_of m table query q ls → asked_rows m query q (cond b (l ∷ live_leaves table ls) (live_leaves table ls)) ≡ cond (b && asks_for m query (key_of m q l.rest)) (l.row ∷ taken_of m table query q ls) (taken_of m table query q ls)
      go true e = ap (λ (zs : List RowAt). cond (asks_for m query (key_of m q l.rest)) (l.row ∷ zs) zs) e
      go false e = e

  none_null : (conds : List Cond) (ls : List Leaf) → taken_of m table (Where conds) None ls ≡ []
  none_null conds [] = refl
  none_null conds (l ∷ ls) = go (is_live (rows.state_in table l.row)) (none_null conds ls)
    where
      go : (b : Bool) → taken_of m table (Where conds) None ls ≡ [] → cond (b && false) (l.row ∷ taken_of m table (Where conds) None ls) (taken_of m table (Where conds) None ls) ≡ []
      go true e = e
      go false e = e

  -- ---- what stands at a place is copied, and the copy taken in

  by_spot : (S : Sheets) (query : Query O Key Recon Cond) (q : Option Recon) (sp : Spot) (item : Item Recon) (ys : List (Item Recon)) (found : List RowAt) → CopiesSpot table q sp (item ∷ []) [] → read.ReadsItem m S table query item ys found → ReadsSpot m table query q sp ys found
  by_spot S query q (Branch w ns) item ys found (is, none) reads =
      let same : item ≡ inner q w ns = cc is in
      let (asks, known, kids, rows) = subst (λ (it : Item Recon). read.ReadsItem m S table query it ys found) same reads in
      (asks, kids, rows)
  by_spot S query q (Bucket ls) item ys found (is, none) reads =
      let same : item ≡ leaves q (live_leaves table ls) = cc is in
      let (left, rows) = subst (λ (it : Item Recon). read.ReadsItem m S table query it ys found) same reads in
      (left, rows ∙ asked_live query q ls)
  by_spot S query q (Forward y u) item ys found copies reads = absurd copies
  by_spot S query q Nothing item ys found copies reads = absurd copies

  module _ (S : Sheets) (s s1 s2 : Scanning O Key Recon Cond) (i : ℕ) (copied : Copied O Key Recon Cond) where
    pub copied_reads : Copies S table s s1 i copied → TakesIn m s1 s2 i copied → Reads m S table s s2 i
    copied_reads C T = record {
      item = held C.place C.recon;
      items = T.items;
      found = T.found;
      at = C.at;
      reads = by_spot S s.query C.recon (spots S C.place) C.item T.items T.found C.copies kept;
      after = replaced_twice s s1 s2 i (held C.place C.recon) C.item T.items T.found (met_of S (held C.place C.recon)) C.at C.after T.after;
    }
      where
        there : slice_get s1.items i ≡ Some C.item
        there = ap (λ (z : Scanning O Key Recon Cond). slice_get z.items i) C.after ∙ filled_at s.items i (held C.place C.recon) C.item C.at

        same : T.item ≡ C.item
        same = same_Some T.item C.item (sym T.at ∙ there)

        kept : read.ReadsItem m S table s.query C.item T.items T.found
        kept = subst (λ (q : Query O Key Recon Cond). read.ReadsItem m S table q C.item T.items T.found) (ap (λ (z : Scanning O Key Recon Cond). z.query) C.after)
            (subst (λ (it : Item Recon). read.ReadsItem m S table s1.query it T.items T.found) same (T.reads S table))

  -- ---- the rows of a read

  same_test : (conds : List Cond) (o : Option Key) → matches_rebuilt m conds o ≡ asks_for {O = O} m (Where conds) (option_map Some o)
  same_test conds None = refl
  same_test conds (Some key) = refl

  matching_is : (recon : Recon) (conds : List Cond) (ls : List Leaf) → asked_rows {O = O} m (Where conds) (Some recon) ls ≡ matching m recon conds (rows_of ls) (rests_of ls)
  matching_is recon conds [] = refl
  matching_is recon conds (l ∷ ls) =
      ap (λ (b : Bool). cond b (l.row ∷ asked_rows {O = O} m (Where conds) (Some recon) ls) (asked_rows {O = O} m (Where conds) (Some recon) ls)) (sym (same_test conds (m.rebuild recon l.rest)))
      ∙ ap (λ (zs : List RowAt). cond (matches_rebuilt m conds (m.rebuild recon l.rest)) (l.row ∷ zs) zs) (matching_is recon conds ls)

  by_copy : (S : Sheets) (query : Query O Key Recon Cond) (item : Item Recon) (copied : Copied O Key Recon Cond) (ys : List (Item Recon)) (found : List RowAt) → HasConds query → kept_copy query item ≡ Some copied → read.ReadsItem m S table query item ys found → found ≡ sifted_rows m copied
  by_copy S All item copied ys found has kept reads = absurd has
  by_copy S Null item copied ys found has kept reads = absurd has
  by_copy S (Where conds) (held x q) copied ys found has kept reads = absurd (cc kept)
  by_copy S (Where conds) (inner None w ns) copied ys found has kept reads = absurd (cc kept)
  by_copy S (Where conds) (inner (Some recon) w ns) copied ys found has kept (asks, known, kids, rows) = rows ∙ ap (sifted_rows m) (same_Some (Inner (record { recon = recon; tuple = w; links = ns }) conds) copied kept)
  by_copy S (Where conds) (leaves None ls) copied ys found has kept reads = absurd (cc kept)
  by_copy S (Where conds) (leaves (Some recon) ls) copied ys found has kept (left, rows) =
      rows ∙ matching_is recon conds ls ∙ ap (sifted_rows m) (same_Some (Leaves (record { recon = recon; rows = rows_of ls; rests = rests_of ls }) conds) copied kept)

  -- those of a copy are what the class sifted
  pub taken_is : (S : Sheets) (s s2 : Scanning O Key Recon Cond) (i : ℕ) (copied : Copied O Key Recon Cond) → HasConds s.query → TakesIn m s s2 i copied → s2.rows ≡ s.rows ++ sifted_rows m copied
  taken_is S s s2 i copied has T =
      ap (λ (z : Scanning O Key Recon Cond). z.rows) T.after ∙ ap (λ (rs : List RowAt). s.rows ++ rs) (by_copy S s.query T.item copied T.items T.found has T.kept (T.reads S table))

  by_plain : (query : Query O Key Recon Cond) (x : Place) (q : Option Recon) (sp : Spot) (ys : List (Item Recon)) (found : List RowAt) → HasConds query → is_copied query x q sp ≡ false → ReadsSpot m table query q sp ys found → found ≡ []
  by_plain All x q sp ys found has plain reads = absurd has
  by_plain Null x q sp ys found has plain reads = absurd has
  by_plain (Where conds) x None (Branch w ns) ys found has plain (asks, kids, rows) = rows
  by_plain (Where conds) x None (Bucket ls) ys found has plain (left, rows) = rows ∙ none_null conds ls
  by_plain (Where conds) x None (Forward y u) ys found has plain (on, rows) = rows
  by_plain (Where conds) x None Nothing ys found has plain reads = absurd reads
  by_plain (Where conds) x (Some recon) (Branch w ns) ys found has plain reads = absurd (false≢true (sym plain))
  by_plain (Where conds) x (Some recon) (Bucket []) ys found has plain (left, rows) = rows
  by_plain (Where conds) x (Some recon) (Bucket (l ∷ ls)) ys found has plain reads = absurd (false≢true (sym plain))
  by_plain (Where conds) x (Some recon) (Forward y u) ys found has plain (on, rows) = rows
  by_plain (Where conds) x (Some recon) Nothing ys found has plain reads = absurd reads

  -- where the class is not asked there are none
  pub plain_is : (S : Sheets) (s s2 : Scanning O Key Recon Cond) (i : ℕ) → HasConds s.query → IsPlain S s i → Reads m S table s s2 i → s2.rows ≡ s.rows
  plain_is S s s2 i has (x, q, at, plain) R =
      let same : R.item ≡ held x q = same_Some R.item (held x q) (sym R.at ∙ at) in
      let none = by_plain s.query x q (spots S x) R.items R.found has plain (subst (λ (it : Item Recon). read.ReadsItem m S table s.query it R.items R.found) same R.reads) in
      ap (λ (z : Scanning O Key Recon Cond). z.rows) R.after ∙ ap (λ (rs : List RowAt). s.rows ++ rs) none ∙ append-nil s.rows

  -- ---- a copy is taken in

  not_met : (S : Sheets) (query : Query O Key Recon Cond) (item : Item Recon) (copied : Copied O Key Recon Cond) → kept_copy query item ≡ Some copied → met_of S item ≡ 0
  not_met S query (held x r) copied kept = absurd (cc kept)
  not_met S query (inner q w ns) copied kept = refl
  not_met S query (leaves q ls) copied kept = refl

  module _ (S : Sheets) (s s1 : Scanning O Key Recon Cond) (i : ℕ) (copied : Copied O Key Recon Cond) (A : Type 0) where
    abbrev pub CameTo : Type 0
    CameTo = (HasKept s i copied × (s1 ≡ s)) ⊎ (A × Copies S table s s1 i copied)

    pub copy_kept : CameTo → HasKept s1 i copied
    copy_kept (inl (kept, same)) = subst (λ (z : Scanning O Key Recon Cond). HasKept z i copied) (sym same) kept
    copy_kept (inr (a, C)) = (
      C.item,
      ap (λ (z : Scanning O Key Recon Cond). slice_get z.items i) C.after ∙ filled_at s.items i (held C.place C.recon) C.item C.at,
      ap (λ (z : Scanning O Key Recon Cond). kept_copy z.query C.item) C.after ∙ C.kept,
    )

    pub copy_query : CameTo → s1.query ≡ s.query
    copy_query (inl (kept, same)) = ap (λ (z : Scanning O Key Recon Cond). z.query) same
    copy_query (inr (a, C)) = ap (λ (z : Scanning O Key Recon Cond). z.query) C.after

    pub copy_rows : CameTo → s1.rows ≡ s.rows
    copy_rows (inl (kept, same)) = ap (λ (z : Scanning O Key Recon Cond). z.rows) same
    copy_rows (inr (a, C)) = ap (λ (z : Scanning O Key Recon Cond). z.rows) C.after ∙ append-nil s.rows

    pub copy_reads : (s2 : Scanning O Key Recon Cond) → CameTo → TakesIn m s1 s2 i copied → Reads m S table s s2 i
    copy_reads s2 (inl (kept, same)) T = subst (λ (z : Scanning O Key Recon Cond). Reads m S table z s2 i) same (record {
      item = T.item;
      items = T.items;
      found = T.found;
      at = T.at;
      reads = T.reads S table;
      after = T.after ∙ ap (λ (n : ℕ). replaced s1 i T.items T.found n) (sym (not_met S s1.query T.item copied T.kept));
    })
    copy_reads s2 (inr (a, C)) T = copied_reads S s s1 s2 i copied C T

    -- the rows that were found before, and those that the class sifted, are those of the scan
    pub copy_found : (s2 : Scanning O Key Recon Cond) (before after : List RowAt) → HasConds s.query → before ≡ s.rows → CameTo → TakesIn m s1 s2 i copied → after ≡ before ++ sifted_rows m copied → after ≡ s2.rows
    copy_found s2 before after has same came T is =
        is ∙ ap (λ (rs : List RowAt). rs ++ sifted_rows m copied) (same ∙ sym (copy_rows came)) ∙ sym (taken_is S s1 s2 i copied (subst HasConds (sym (copy_query came)) has) T)
