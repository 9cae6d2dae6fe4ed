-- Where the leaves of a root leaf page and the leaf of an insert do not fit, the keys of the inserts of their tree are heavy.
use Rattle.std.proofs.Common.{◌≡◌, ℕ, zero, suc, ◌+◌, ◌-◌, ◌*◌, ◌≤◌, ◌<◌, min, Bool, true, false, List, [], ◌∷◌, ⊎_elim, Option, Some, None, option_map, refl, sym, ap, ◌∙◌, subst, inl, inr, arith}
use Rattle.std.specs.Prelude.{is_none}
use Rattle.std.proofs.lemmas.Bool.{false≢true, cases_lt}
use Rattle.spg_opclass.specs.Meaning.{Meaning}
use Rattle.spg_opclass.specs.Laws.{CodeLaw, leaf_size, padded_length}
use Rattle.spg_forest.specs.View.{Place, Leaf}
use Rattle.spg_forest.specs.Spot.{Frame, Spot, Bucket, IsIn, NoRepeat, leaves_of}
use Rattle.spg_forest.specs.Tuples.{Tuple, Inner, Live}
use Rattle.spg_forest.specs.Pages.{place, tuple_on, page_of, all_live}
use Rattle.spg_forest.specs.Classes.{class_of, start_of, key_of, HasRecon}
use Rattle.spg_forest.specs.Sheets.{Sheets, sheet_at, pages_of, weight, gaps}
use Rattle.spg_forest.specs.Shape.{Shape, Represents, spots, IsKindOf, IsRestOf}
use Rattle.spg_forest.specs.Walk.{key_weight, is_of_tree, weight_of}
use Rattle.spg_forest.proofs.Edits.{page_is}
use Rattle.spg_forest.proofs.FitWay.{recon_of_fit}
use Rattle.spg_forest.proofs.Sections.{shape_shown, shape_tree}
use Rattle.spg_page.specs.Changes.{room_of}
use Rattle.spg_rows.specs.History.{History, inserting, open_of}
use Rattle.spg_rows.proofs.Histories.{Sane}
use Rattle.spg_tree.specs.Table.{Table, sheets_of}
use Rattle.spg_tree.specs.Descents.{Descending, in_nulls}
use Rattle.spg_tree.specs.declared.stand.Stand.{Stand}
use Rattle.spg_tree.specs.declared.stand.Stand.TheVariants.{Root}
use Rattle.spg_descend.specs.Carried.{carried, root_of, IsCarried, WayFits}
use Rattle.spg_descend.specs.Puts.{Fits}
use Rattle.spg_rows.specs.Present.{IsPresentWith}
use Rattle.spg_seats.specs.Slots.{opened_keys}
use Rattle.spg_seats.proofs.Weighing.{IsWeighed, leaves_weigh}
use Rattle.spg_core.specs.Stepping.{IsRootFull}
use Rattle.spg_core.proofs.Stands.{root_range, root_tree}

-- ---- the leaves of a root leaf page

-- each leaf of the page has a rest of its tree
rests_of : {Key Recon Cond : Type 0} (m : Meaning Key Recon Cond) (inner nulls : Bool) (ls : List Leaf) → ((o : ℕ) → IsKindOf m inner nulls (tuple_on (all_live ls) o)) → (l : Leaf) → IsIn l ls → IsRestOf m nulls l.rest
rests_of m inner nulls [] kinds l h = absurd h
rests_of m inner nulls (k ∷ ls) kinds l (inl e) = subst (λ (x : Leaf). IsRestOf m nulls x.rest) e (kinds 1).1
rests_of m inner nulls (k ∷ ls) kinds l (inr h) = rests_of m inner nulls ls later l h
  where
    later : (o : ℕ) → IsKindOf m inner nulls (tuple_on (all_live ls) o)
    later zero = tt
    later (suc o) = kinds (suc (suc o))

-- a root has the rebuilt value that the class begins with
root_recon : {Key Recon Cond : Type 0} (m : Meaning Key Recon Cond) (S : Sheets) → Shape m S → (x : Place) (r : Option Recon) → x.offset ≡ 0 → HasRecon m (spots S) x r → r ≡ start_of m x.block
root_recon m S H x r z (o, [], root, (e, f)) = sym f ∙ ap (λ (y : Place). start_of m y.block) e
root_recon m S H x r z (o, i ∷ is, root, (y, q, w, c, e)) = absurd (((shape_tree m S H).targets y i x c).1 z)

-- a leaf at the root has the weight of its key, which is of the tree
sized : {Key Recon Cond : Type 0} (m : Meaning Key Recon Cond) → CodeLaw m → (nulls : Bool) (rest : List ℕ) (key : Option Key) → key_of m (start_of m (root_of nulls)) rest ≡ Some key → IsRestOf m nulls rest →
    (is_of_tree nulls key ≡ true) × (leaf_size rest + 4 ≡ key_weight m key)
sized {Key} m K true rest key e r =
    let f : None ≡ key = (let g : Some None ≡ Some key = e in cc) in
    subst (λ (k : Option Key). (is_of_tree true k ≡ true) × (leaf_size rest + 4 ≡ key_weight m k)) f (refl, ap (λ bs. leaf_size bs + 4) r)
sized {Key} m K false rest key e r = go (m.rebuild m.start rest) refl e
  where
    go : (given : Option Key) → m.rebuild m.start rest ≡ given → option_map Some given ≡ Some key → (is_of_tree false key ≡ true) × (leaf_size rest + 4 ≡ key_weight m key)
    go None is e = absurd (cc e)
    go (Some k) is e =
        let f : Some k ≡ key = (let g : Some (Some k) ≡ Some key = e in cc) in
        subst (λ (q : Option Key). (is_of_tree false q ≡ true) × (leaf_size rest + 4 ≡ key_weight m q)) f (refl, ap (λ n. 16 + padded_length n + 4) (K.start_length rest k is))

small : (a b c : ℕ) → a + b ≤ 8160 → a ≤ 8160 - b + c
small a b c h = omega arith

-- an insert is of the nulls tree exactly where its key is null
is_null : {Key Recon Cond : Type 0} (m : Meaning Key Recon Cond) (start : Option Recon) (whole : List ℕ) (key : Option Key) → key_of m start whole ≡ Some key → is_none start ≡ is_none key
is_null m None whole key e = let f : None ≡ key = (let g : Some None ≡ Some key = e in cc) in ap is_none f
is_null {Key} m (Some s) whole key e = go (m.rebuild s whole) e
  where
    go : (given : Option Key) → option_map Some given ≡ Some key → false ≡ is_none key
    go None e = absurd (cc e)
    go (Some k) e = let f : Some k ≡ key = (let g : Some (Some k) ≡ Some key = e in cc) in ap is_none f

pub nulls_key : {Key Recon Cond : Type 0} (m : Meaning Key Recon Cond) (S : Sheets) (d : Descending Recon) (key : Option Key) → IsCarried m S d key → in_nulls d ≡ is_none key
nulls_key m S d key C = is_null m d.start d.whole key C.of.gives

-- so is what it has rebuilt
pub recon_key : {Key Recon Cond : Type 0} (m : Meaning Key Recon Cond) (S : Sheets) (d : Descending Recon) (key : Option Key) → IsCarried m S d key → is_none d.recon ≡ is_none key
recon_key m S d key C = is_null m d.recon d.rest key C.rebuilt

-- ---- an insert at its root, a leaf page on which its leaf does not fit

module _ {O Key Recon Cond : Type 0} (m : Meaning Key Recon Cond) (K : CodeLaw m) (past : History O Key Recon Cond) (sane : Sane past) (t : Table) (d : Descending Recon) (key : Option Key) (seat : ℕ) (R : Represents m (sheets_of t) (IsPresentWith past))
    (C : IsCarried m (sheets_of t) d key) (has : open_of seat past ≡ inserting d.row key) (stands : d.stand ≡ Root (root_of (in_nulls d))) (leaf : (sheet_at (sheets_of t) (root_of (in_nulls d))).inner ≡ false)
    (full : Fits t (Root (root_of (in_nulls d))) (Live (carried d) 0) → ⊥) where
  abbrev S : Sheets
  S = sheets_of t

  H : Shape m S
  H = R.shape

  abbrev nulls : Bool
  nulls = in_nulls d

  abbrev b : ℕ
  b = root_of nulls

  -- its page is no inner page
  inner_page : (w : Frame) (ns : List (Option Place)) → page_of (pages_of S) b ≡ Inner w ns ∷ [] → 8160 < weight_of m (in_nulls d) (opened_keys past)
  inner_page w ns e =
      let h : (sheet_at S b).inner ≡ true = (subst (λ (ts : List Tuple). IsKindOf m (sheet_at S b).inner (sheet_at S b).nulls (tuple_on ts 1)) (sym (page_is S b) ∙ e) ((H.pages.each b).kinds 1)).0 in
      absurd (false≢true (sym leaf ∙ h))

  module _ (ls : List Leaf) (e : (sheet_at S b).tuples ≡ all_live ls) (f : spots S (place b 0) ≡ Bucket ls) where
    abbrev x : Place
    x = place b 0

    there : (l : Leaf) → IsIn l ls → IsIn l (leaves_of (spots S x))
    there l h = subst (λ (s : Spot). IsIn l (leaves_of s)) (sym f) h

    kinds : (o : ℕ) → IsKindOf m (sheet_at S b).inner nulls (tuple_on (all_live ls) o)
    kinds o = subst (λ (ts : List Tuple). IsKindOf m (sheet_at S b).inner nulls (tuple_on ts o)) e (subst (λ (n : Bool). IsKindOf m (sheet_at S b).inner n (tuple_on (sheet_at S b).tuples o)) (root_tree m S H nulls) ((H.pages.each b).kinds o))

    old_weighed : (l : Leaf) → IsIn l ls → IsWeighed m nulls past l
    old_weighed l h =
        let (r, k, fit, gives) = H.keys x l (there l h) in
        let at : HasRecon m (spots S) x r = recon_of_fit (class_of m) (spots S) (Some k) x r fit in
        let start : r ≡ start_of m b = root_recon m S H x r refl at in
        let (tree, size) = sized m K nulls l.rest k (ap (λ (q : Option Recon). key_of m q l.rest) (sym start) ∙ gives) (rests_of m (sheet_at S b).inner nulls ls kinds l h) in
        (k, ((R.entries l.row k).0 (x, r, l, at, there l h, refl, gives)).1, tree, size)

    abbrev new : Leaf
    new = carried d

    new_weighed : IsWeighed m nulls past new
    new_weighed =
        let I = sane.inserts seat d.row key has in
        let start : d.recon ≡ start_of m b = subst (λ (st : Stand). WayFits m S st d.parent d.recon key) stands C.way in
        let (tree, size) = sized m K nulls d.rest key (ap (λ (q : Option Recon). key_of m q d.rest) (sym start) ∙ C.rebuilt) C.rest in
        (key, I.keyed, tree, size)

    once : NoRepeat (new ∷ ls)
    once = (λ l h. C.fresh x l (there l h), subst (λ (s : Spot). NoRepeat (leaves_of s)) f ((shape_tree m S H).once x))

    all_weighed : (l : Leaf) → IsIn l (new ∷ ls) → IsWeighed m nulls past l
    all_weighed l (inl q) = subst (λ (k : Leaf). IsWeighed m nulls past k) q new_weighed
    all_weighed l (inr h) = old_weighed l h

    leaf_page : 8160 < weight_of m (in_nulls d) (opened_keys past)
    leaf_page =
        let most : leaf_size d.rest + 4 + weight (all_live ls) ≤ weight_of m nulls (opened_keys past) = leaves_weigh m nulls past (new ∷ ls) once all_weighed in
        ⊎_elim
        (λ less. omega arith)
        (λ fits. absurd (full (subst (λ (ts : List Tuple). leaf_size d.rest + 4 ≤ room_of ts 1) (sym e) (small (leaf_size d.rest + 4) (weight (all_live ls)) (20 * min 1 (gaps (all_live ls))) fits))))
        (cases_lt 8160 (leaf_size d.rest + 4 + weight (all_live ls)))

-- then the keys of the inserts of its tree are heavy
pub root_heavy : {O Key Recon Cond : Type 0} (m : Meaning Key Recon Cond) → CodeLaw m → (past : History O Key Recon Cond) → Sane past → (t : Table) (d : Descending Recon) (key : Option Key) (seat : ℕ) → Represents m (sheets_of t) (IsPresentWith past) →
    IsCarried m (sheets_of t) d key → open_of seat past ≡ inserting d.row key → IsRootFull t d → 8160 < weight_of m (in_nulls d) (opened_keys past)
root_heavy m K past sane t d key seat R C has (stands, leaf, full) = ⊎_elim
    (λ (w, ns, e, f). inner_page m K past sane t d key seat R C has stands leaf full w ns e)
    (λ (ls, e, f). leaf_page m K past sane t d key seat R C has stands leaf full ls (sym (page_is (sheets_of t) (root_of (in_nulls d))) ∙ e) f)
    ((shape_shown m (sheets_of t) R.shape).root (root_of (in_nulls d)) (root_range (in_nulls d)).0 (root_range (in_nulls d)).1)
