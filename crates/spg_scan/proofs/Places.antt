-- What is copied of what stands at a place.
use Rattle.std.proofs.Common.{◌≡◌, ℕ, ◌<◌, ◌≤◌, ⊎_elim, true, false, List, [], ◌∷◌, Option, Some, None, IsSome, length, refl, sym, ap, ◌∙◌, arith, subst}
use Rattle.std.proofs.lemmas.Bool.{eq-eqb, ne_eqb}
use Rattle.spg_opclass.specs.Meaning.{Meaning}
use Rattle.spg_opclass.specs.declared.query.Query.{Query}
use Rattle.spg_opclass.specs.declared.query.Query.TheVariants.{All, Null, Where}
use Rattle.spg_forest.specs.View.{Place, Leaf}
use Rattle.spg_forest.specs.Spot.{Frame, Spot, Branch, Bucket, Forward}
use Rattle.spg_forest.specs.Sheets.{Sheet, Sheets, sheet_at, links}
use Rattle.spg_forest.specs.Shape.{Shape, spots}
use Rattle.spg_forest.specs.Pages.{tuple_on}
use Rattle.spg_forest.specs.Links.{leaves_on}
use Rattle.spg_page.specs.Kinds.{IsLive, IsInner, IsRedirect, kind_of}
use Rattle.spg_page.specs.declared.tuple.TupleKind.TheVariants as kinds
use Rattle.spg_page.specs.Reads.{frame_in, target_in}
use Rattle.spg_chain.specs.Chains.{chain_members, leaves_of}
use Rattle.spg_rows.specs.Table as rows
use Rattle.spg_scan.specs.Items.{Item, held, inner, leaves, IsItem}
use Rattle.spg_scan.specs.Scanning.{Scanning, CanFollow}
use Rattle.spg_scan.specs.Reading.{IsHeld, CopiesSpot, live_leaves, met_with}
use Rattle.spg_scan.specs.Parts.{starts_inner, is_where, HaveKeys, IsPlaceAt, IsMainAt}
use Rattle.spg_scan.specs.Copying.{is_copied}
use Rattle.spg_scan.proofs.Readings.{met_some, met_root, dead_is, spot_is, at_inner, at_chain, root_spot_is, root_branch, root_bucket, root_offset, at, place_there}
use Rattle.spg_scan.proofs.Stands.{place_cases, dead_spot, forward_spot}

-- ---- which spots are copied

branch_is : {O Key Recon Cond : Type 0} (query : Query O Key Recon Cond) (x : Place) (r : Option Recon) (w : Frame) (ns : List (Option Place)) → IsSome r → is_copied query x r (Branch w ns) ≡ true
branch_is query x None w ns h = cc
branch_is All x (Some recon) w ns h = refl
branch_is Null x (Some recon) w ns h = refl
branch_is (Where conds) x (Some recon) w ns h = refl

pub branch_copied : {O Key Recon Cond : Type 0} (query : Query O Key Recon Cond) (x : Place) (r : Option Recon) (v : Spot) (w : Frame) (ns : List (Option Place)) → v ≡ Branch w ns → IsSome r → is_copied query x r v ≡ true
branch_copied query x r v w ns e h = ap (is_copied query x r) e ∙ branch_is query x r w ns h

chain_is : {O Key Recon Cond : Type 0} (query : Query O Key Recon Cond) (x : Place) (r : Option Recon) (ls : List Leaf) → 0 < length ls → IsSome r → is_where query ≡ true → is_copied query x r (Bucket ls) ≡ true
chain_is query x None ls b h q = cc
chain_is All x (Some recon) ls b h q = cc
chain_is Null x (Some recon) ls b h q = cc
chain_is (Where conds) x (Some recon) [] b h q = absurd (omega arith)
chain_is (Where conds) x (Some recon) (l ∷ ls) b h q = refl

root_is : {O Key Recon Cond : Type 0} (query : Query O Key Recon Cond) (x : Place) (r : Option Recon) (ls : List Leaf) → x.offset ≡ 0 → IsSome r → is_where query ≡ true → is_copied query x r (Bucket ls) ≡ true
root_is query x None ls b h q = cc
root_is All x (Some recon) ls b h q = cc
root_is Null x (Some recon) ls b h q = cc
root_is (Where conds) x (Some recon) [] b h q = eq-eqb x.offset 0 b
root_is (Where conds) x (Some recon) (l ∷ ls) b h q = refl

pub chain_copied : {O Key Recon Cond : Type 0} (query : Query O Key Recon Cond) (x : Place) (r : Option Recon) (v : Spot) (ls : List Leaf) → v ≡ Bucket ls → 0 < length ls → IsSome r → is_where query ≡ true → is_copied query x r v ≡ true
chain_copied query x r v ls e b h q = ap (is_copied query x r) e ∙ chain_is query x r ls b h q

pub root_copied : {O Key Recon Cond : Type 0} (query : Query O Key Recon Cond) (x : Place) (r : Option Recon) (v : Spot) (ls : List Leaf) → v ≡ Bucket ls → x.offset ≡ 0 → IsSome r → is_where query ≡ true → is_copied query x r v ≡ true
root_copied query x r v ls e b h q = ap (is_copied query x r) e ∙ root_is query x r ls b h q

-- ---- which are not

pub nulls_plain : {O Key Recon Cond : Type 0} (query : Query O Key Recon Cond) (x : Place) (r : Option Recon) (v : Spot) → r ≡ None → is_copied query x r v ≡ false
nulls_plain query x None v e = refl
nulls_plain query x (Some recon) v e = cc

leaves_plain : {O Key Recon Cond : Type 0} (query : Query O Key Recon Cond) (x : Place) (r : Option Recon) (ls : List Leaf) → is_where query ≡ false → is_copied query x r (Bucket ls) ≡ false
leaves_plain query x None ls q = refl
leaves_plain All x (Some recon) ls q = refl
leaves_plain Null x (Some recon) ls q = refl
leaves_plain (Where conds) x (Some recon) ls q = cc

dead_plain : {O Key Recon Cond : Type 0} (query : Query O Key Recon Cond) (x : Place) (r : Option Recon) → 0 < x.offset → is_copied query x r (Bucket []) ≡ false
dead_plain query x None b = refl
dead_plain All x (Some recon) b = refl
dead_plain Null x (Some recon) b = refl
dead_plain (Where conds) x (Some recon) b = ne_eqb x.offset 0 (λ z. absurd (omega arith))

forward_plain : {O Key Recon Cond : Type 0} (query : Query O Key Recon Cond) (x : Place) (r : Option Recon) (y : Place) (u : ℕ) → is_copied query x r (Forward y u) ≡ false
forward_plain query x None y u = refl
forward_plain All x (Some recon) y u = refl
forward_plain Null x (Some recon) y u = refl
forward_plain (Where conds) x (Some recon) y u = refl

-- ---- what a copy holds

module _ {O Key Recon Cond : Type 0} (table : rows.Table O Key Recon Cond) (x : Place) (r : Option Recon) (recon : Recon) (main : r ≡ Some recon) (v : Spot) (item : Item Recon) where
  copies_branch : (w : Frame) (ns : List (Option Place)) → v ≡ Branch w ns → item ≡ inner (Some recon) w ns → CopiesSpot table r v (item ∷ []) []
  copies_branch w ns e f =
      subst (λ (z : Spot). CopiesSpot table r z (item ∷ []) []) (sym e)
      (ap (λ (z : Item Recon). z ∷ []) (f ∙ ap (λ (q : Option Recon). inner q w ns) (sym main)), refl)

  copies_bucket : (ls : List Leaf) → v ≡ Bucket ls → item ≡ leaves (Some recon) (live_leaves table ls) → CopiesSpot table r v (item ∷ []) []
  copies_bucket ls e f =
      subst (λ (z : Spot). CopiesSpot table r z (item ∷ []) []) (sym e)
      (ap (λ (z : Item Recon). z ∷ []) (f ∙ ap (λ (q : Option Recon). leaves q (live_leaves table ls)) (sym main)), refl)

some_is : {X : Type 0} (o : Option X) (y : X) → o ≡ Some y → IsSome o
some_is None y e = cc
some_is (Some x) y e = refl

module _ {O Key Recon Cond : Type 0} (m : Meaning Key Recon Cond) (S : Sheets) (H : Shape m S) (s : Scanning O Key Recon Cond) (i : ℕ) (known : IsHeld m S s i) (place : Place) (there : IsPlaceAt s.items i place) where
  -- it is a copy of the item's place, with what was met
  abbrev pub Makes : rows.Table O Key Recon Cond → Item Recon → ℕ → Type 0
  Makes table item n = (x : Place) (r : Option Recon) → IsItem s.items i (held x r) → (is_copied s.query x r (spots S x) ≡ true) × CopiesSpot table r (spots S x) (item ∷ []) [] × (n ≡ met_with x (spots S x))

  -- nothing is copied of it
  abbrev pub Plain : Type 0
  Plain = (x : Place) (r : Option Recon) → IsItem s.items i (held x r) → is_copied s.query x r (spots S x) ≡ false

  pub plain_nulls : ((x : Place) (r : Option Recon) → IsItem s.items i (held x r) → None ≡ r) → Plain
  plain_nulls e x r a = nulls_plain s.query x r (spots S x) (sym (e x r a))

  -- what the class would be asked, where nothing is copied
  pub main_follows : (recon : Recon) → IsMainAt s.items i recon → (w : Frame) (ns : List (Option Place)) → ((x : Place) (r : Option Recon) → IsItem s.items i (held x r) → CanFollow m r w ns) → CanFollow m (Some recon) w ns
  main_follows recon main w ns f = subst (λ (q : Option Recon). CanFollow m q w ns) (main place there.0 there.1) (f place there.0 there.1)

  pub main_keys : (recon : Recon) → IsMainAt s.items i recon → (ls : List Leaf) → ((x : Place) (r : Option Recon) → IsItem s.items i (held x r) → HaveKeys m r ls) → HaveKeys m (Some recon) ls
  main_keys recon main ls f = subst (λ (q : Option Recon). HaveKeys m q ls) (main place there.0 there.1) (f place there.0 there.1)

  -- where it is no root
  module _ (P : Sheet) (page : P ≡ sheet_at S place.block) (o : 0 < place.offset) where
    pub inner_asks : IsInner (tuple_on P.tuples place.offset) → (x : Place) (r : Option Recon) → IsItem s.items i (held x r) → IsSome r → is_copied s.query x r (spots S x) ≡ true
    inner_asks k x r a h = branch_copied s.query x r (spots S x) (frame_in (tuple_on P.tuples place.offset)) (links (tuple_on P.tuples place.offset))
        (spot_is m S H s i known place there P page o x r a (Branch (frame_in (tuple_on P.tuples place.offset)) (links (tuple_on P.tuples place.offset))) (at_inner m S H s i known place there P page o k)) h

    pub chain_asks : IsLive (tuple_on P.tuples place.offset) → (x : Place) (r : Option Recon) → IsItem s.items i (held x r) → IsSome r → is_where s.query ≡ true → is_copied s.query x r (spots S x) ≡ true
    chain_asks k x r a h q = let c = at_chain m S H s i known place there P page o k in chain_copied s.query x r (spots S x) (leaves_of (chain_members P.tuples place.offset))
        (spot_is m S H s i known place there P page o x r a (Bucket (leaves_of (chain_members P.tuples place.offset))) c.0) c.1 h q

    pub makes_inner : (table : rows.Table O Key Recon Cond) (recon : Recon) → IsMainAt s.items i recon → (item : Item Recon) (n : ℕ) → IsInner (tuple_on P.tuples place.offset) →
        item ≡ inner (Some recon) (frame_in (tuple_on P.tuples place.offset)) (links (tuple_on P.tuples place.offset)) → n ≡ 1 → Makes table item n
    makes_inner table recon main item n k e f x r a =
        let w = frame_in (tuple_on P.tuples place.offset) in
        let ns = links (tuple_on P.tuples place.offset) in
        let v : spots S x ≡ Branch w ns = spot_is m S H s i known place there P page o x r a (Branch w ns) (at_inner m S H s i known place there P page o k) in
        (branch_copied s.query x r (spots S x) w ns v (some_is r recon (main x r a)), copies_branch table x r recon (main x r a) (spots S x) item w ns v e, f ∙ sym (ap (met_with x) v))

    pub makes_chain : (table : rows.Table O Key Recon Cond) (recon : Recon) → IsMainAt s.items i recon → is_where s.query ≡ true → (item : Item Recon) (n : ℕ) → IsLive (tuple_on P.tuples place.offset) →
        item ≡ leaves (Some recon) (live_leaves table (leaves_of (chain_members P.tuples place.offset))) → n ≡ length (leaves_of (chain_members P.tuples place.offset)) → Makes table item n
    makes_chain table recon main q item n k e f x r a =
        let ls = leaves_of (chain_members P.tuples place.offset) in
        let c = at_chain m S H s i known place there P page o k in
        let v : spots S x ≡ Bucket ls = spot_is m S H s i known place there P page o x r a (Bucket ls) c.0 in
        (chain_copied s.query x r (spots S x) ls v c.1 (some_is r recon (main x r a)) q, copies_bucket table x r recon (main x r a) (spots S x) item ls v e, f ∙ sym (ap (met_with x) v ∙ met_some x ls c.1))

    pub plain_chain : IsLive (tuple_on P.tuples place.offset) → is_where s.query ≡ false → Plain
    plain_chain k q x r a =
        let ls = leaves_of (chain_members P.tuples place.offset) in
        let v : spots S x ≡ Bucket ls = spot_is m S H s i known place there P page o x r a (Bucket ls) (at_chain m S H s i known place there P page o k).0 in
        ap (is_copied s.query x r) v ∙ leaves_plain s.query x r ls q

    pub plain_dead : kind_of (tuple_on P.tuples place.offset) ≡ kinds.Dead → Plain
    plain_dead k x r a =
        let h : 3 ≤ place.block = ⊎_elim (λ (c, d, z). absurd (omega arith)) (λ g. g) (place_cases m S H place (place_there m S H s i known place there)) in
        let d = dead_spot m S H place h (dead_is (tuple_on (sheet_at S place.block).tuples place.offset) (subst (λ (Q : Sheet). kind_of (tuple_on Q.tuples place.offset) ≡ kinds.Dead) page k)) in
        let v : spots S x ≡ Bucket [] = spot_is m S H s i known place there P page o x r a (Bucket []) d in
        ap (is_copied s.query x r) v ∙ dead_plain s.query x r (subst (λ (z : Place). 0 < z.offset) (sym (at m S H s i known place there x r a)) o)

    pub plain_forward : IsRedirect (tuple_on P.tuples place.offset) → Plain
    plain_forward k x r a =
        let h : 3 ≤ place.block = ⊎_elim (λ (c, d, z). absurd (omega arith)) (λ g. g) (place_cases m S H place (place_there m S H s i known place there)) in
        let (u, f) = forward_spot m S H place h (subst (λ (Q : Sheet). IsRedirect (tuple_on Q.tuples place.offset)) page k) in
        let y = target_in (tuple_on (sheet_at S place.block).tuples place.offset) in
        let v : spots S x ≡ Forward y u = spot_is m S H s i known place there P page o x r a (Forward y u) f in
        ap (is_copied s.query x r) v ∙ forward_plain s.query x r y u

  -- where it is a root
  module _ (P : Sheet) (page : P ≡ sheet_at S place.block) (z : place.offset ≡ 0) where
    pub root_inner_asks : starts_inner P.tuples ≡ true → (x : Place) (r : Option Recon) → IsItem s.items i (held x r) → IsSome r → is_copied s.query x r (spots S x) ≡ true
    root_inner_asks k x r a h = branch_copied s.query x r (spots S x) (frame_in (tuple_on P.tuples 1)) (links (tuple_on P.tuples 1))
        (root_spot_is m S H s i known place there P page z x r a (Branch (frame_in (tuple_on P.tuples 1)) (links (tuple_on P.tuples 1))) (root_branch m S H s i known place there P page z k)) h

    pub root_leaf_asks : starts_inner P.tuples ≡ false → (x : Place) (r : Option Recon) → IsItem s.items i (held x r) → IsSome r → is_where s.query ≡ true → is_copied s.query x r (spots S x) ≡ true
    root_leaf_asks k x r a h q = root_copied s.query x r (spots S x) (leaves_on P.tuples)
        (root_spot_is m S H s i known place there P page z x r a (Bucket (leaves_on P.tuples)) (root_bucket m S H s i known place there P page z k)) (root_offset m S H s i known place there P page z x r a) h q

    pub makes_root_inner : (table : rows.Table O Key Recon Cond) (recon : Recon) → IsMainAt s.items i recon → (item : Item Recon) (n : ℕ) → starts_inner P.tuples ≡ true →
        item ≡ inner (Some recon) (frame_in (tuple_on P.tuples 1)) (links (tuple_on P.tuples 1)) → n ≡ 1 → Makes table item n
    makes_root_inner table recon main item n k e f x r a =
        let w = frame_in (tuple_on P.tuples 1) in
        let ns = links (tuple_on P.tuples 1) in
        let v : spots S x ≡ Branch w ns = root_spot_is m S H s i known place there P page z x r a (Branch w ns) (root_branch m S H s i known place there P page z k) in
        (branch_copied s.query x r (spots S x) w ns v (some_is r recon (main x r a)), copies_branch table x r recon (main x r a) (spots S x) item w ns v e, f ∙ sym (ap (met_with x) v))

    pub makes_root_leaves : (table : rows.Table O Key Recon Cond) (recon : Recon) → IsMainAt s.items i recon → is_where s.query ≡ true → (item : Item Recon) (n : ℕ) → starts_inner P.tuples ≡ false →
        item ≡ leaves (Some recon) (live_leaves table (leaves_on P.tuples)) → n ≡ length (leaves_on P.tuples) → Makes table item n
    makes_root_leaves table recon main q item n k e f x r a =
        let ls = leaves_on P.tuples in
        let v : spots S x ≡ Bucket ls = root_spot_is m S H s i known place there P page z x r a (Bucket ls) (root_bucket m S H s i known place there P page z k) in
        let b : x.offset ≡ 0 = root_offset m S H s i known place there P page z x r a in
        (root_copied s.query x r (spots S x) ls v b (some_is r recon (main x r a)) q, copies_bucket table x r recon (main x r a) (spots S x) item ls v e, f ∙ sym (ap (met_with x) v ∙ met_root x ls b))

    pub plain_root : starts_inner P.tuples ≡ false → is_where s.query ≡ false → Plain
    plain_root k q x r a =
        let ls = leaves_on P.tuples in
        let v : spots S x ≡ Bucket ls = root_spot_is m S H s i known place there P page z x r a (Bucket ls) (root_bucket m S H s i known place there P page z k) in
        ap (is_copied s.query x r) v ∙ leaves_plain s.query x r ls q
