-- The meta page aside, the image of a well formed index is well formed, with the same entries.
use Rattle.std.proofs.Common.{◌≡◌, ℕ, zero, suc, ◌<◌, false, List, [], ◌∷◌, length, get_or, map, drop, Option, sym, ap, subst, ◌∙◌, arith}
use Rattle.std.specs.Prelude.{◌↔◌}
use Rattle.std.proofs.lemmas.List.{length-drop}
use Rattle.spg_base.specs.Row.{RowAt}
use Rattle.spg_opclass.specs.Meaning.{Meaning}
use Rattle.spg_forest.specs.View.{Place}
use Rattle.spg_forest.specs.Spot.{Frame}
use Rattle.spg_forest.specs.Tuples.{Tuple, Inner}
use Rattle.spg_forest.specs.Pages.{Pages, page_of, tuple_on, tuples_of}
use Rattle.spg_forest.specs.Links.{IsLinked, RowsApart, tuple_at, spots_of}
use Rattle.spg_forest.specs.Classes.{class_of, HasEntry}
use Rattle.spg_forest.specs.Fit.{KeysFit}
use Rattle.spg_forest.specs.Sheets.{Sheet, Sheets, blank, sheet_at, pages_of}
use Rattle.spg_forest.specs.Shape.{ArePages, IsPage, IsKindOf, Represents}
use Rattle.spg_tree.specs.Table.{Table, sheets_of}
use Rattle.spg_image.specs.Image.{image_of, sheets_in}
use Rattle.spg_image.proofs.Firsts.{tail_at}

-- the tuples are those of the table
tail_same : (ss : List Sheet) → 0 < length ss → get_or (map (λ (s : Sheet). s.tuples) ss) 0 [] ≡ [] → map (λ (s : Sheet). s.tuples) (blank false ∷ drop 1 ss) ≡ map (λ (s : Sheet). s.tuples) ss
tail_same [] h e = absurd (omega arith)
tail_same (s ∷ ss) h e = ap (λ ts. ts ∷ map (λ (r : Sheet). r.tuples) ss) (sym e)

pub same_pages : (class : ℕ) (t : Table) → 0 < length t.pages → page_of (pages_of (sheets_of t)) 0 ≡ [] → pages_of (sheets_in (image_of class t)) ≡ pages_of (sheets_of t)
same_pages class t h e = ap (λ ps. pages t.clock ps) (tail_same t.pages h e)
  where
    pages : ℕ → List (List Tuple) → Pages
    pages clock ps = record { clock = clock; pages = ps }

-- every page but the first is the table's
same_sheet : (class : ℕ) (t : Table) (b : ℕ) → 0 < b → sheet_at (sheets_in (image_of class t)) b ≡ sheet_at (sheets_of t) b
same_sheet class t zero l = absurd (omega arith)
same_sheet class t (suc b) l = tail_at t b

blank_page : {Key Recon Cond : Type 0} (m : Meaning Key Recon Cond) → IsPage m (blank false)
blank_page m = record { kinds = none; fits = omega arith }
  where
    none : (o : ℕ) → IsKindOf m false false (tuple_on [] o)
    none zero = tt
    none (suc o) = tt

-- nothing stands on the meta page
block_from : (P : Pages) (b o : ℕ) (w : Frame) (ns : List (Option Place)) → page_of P 0 ≡ [] → tuples_of P b o ≡ Inner w ns → 0 < b
block_from P zero zero w ns e h = cc
block_from P zero (suc o) w ns e h = (let n = rw e at h in cc)
block_from P (suc b) o w ns e h = omega arith

module _ {Key Recon Cond : Type 0} (m : Meaning Key Recon Cond) (class : ℕ) (t : Table) (holds : RowAt → Option Key → Type 0) (r : Represents m (sheets_of t) holds) where
  abbrev S : Sheets
  S = sheets_of t

  abbrev S2 : Sheets
  S2 = sheets_in (image_of class t)

  e : pages_of S2 ≡ pages_of S
  e = same_pages class t (omega (arith, r.shape.pages.count)) r.shape.links.meta

  long : length S2.sheets ≡ length S.sheets
  long = omega (arith, length-drop 1 t.pages, r.shape.pages.count)

  each : (b : ℕ) → IsPage m (sheet_at S2 b)
  each zero = blank_page m
  each (suc b) = subst (λ s. IsPage m s) (sym (same_sheet class t (suc b) (omega arith))) (r.shape.pages.each (suc b))

  tree_same : (b : ℕ) → 0 < b → (sheet_at S2 b).nulls ≡ (sheet_at S b).nulls
  tree_same b h = ap (λ (s : Sheet). s.nulls) (same_sheet class t b h)

  was : (x : Place) → tuple_at (pages_of S2) x ≡ tuple_at (pages_of S) x
  was x = ap (λ P. tuple_at P x) e

  pages : ArePages m S2
  pages = record {
    count = omega (arith, long, r.shape.pages.count);
    each = each;
    main = tree_same 1 (omega arith) ∙ r.shape.pages.main;
    nulls = tree_same 2 (omega arith) ∙ r.shape.pages.nulls;
    empty_root = λ b h l none.
        let s = same_sheet class t b h in
        ap (λ (x : Sheet). x.inner) s ∙ r.shape.pages.empty_root b h l (ap (λ (x : Sheet). x.tuples) (sym s) ∙ none);
    trees = λ x y w ns i h k.
        let old : tuple_at (pages_of S) x ≡ Inner w ns = sym (was x) ∙ h in
        let from = block_from (pages_of S) x.block x.offset w ns r.shape.links.meta old in
        let down = (r.shape.links.downlink x w ns i y old k).0 in
        tree_same y.block (omega arith) ∙ r.shape.pages.trees x y w ns i old k ∙ sym (tree_same x.block from);
    redirects = λ x y u h. (let d = r.shape.pages.redirects x y u (sym (was x) ∙ h) in (d.0, d.1, omega (arith, long, d.2)));
  }

  pub represents_same : Represents m S2 holds
  represents_same = record {
    shape = record {
      links = subst IsLinked (sym e) r.shape.links;
      rows = subst RowsApart (sym e) r.shape.rows;
      keys = subst (λ P. KeysFit (class_of m) (spots_of P)) (sym e) r.shape.keys;
      pages = pages;
    };
    entries = λ row key. subst (λ P. HasEntry m (spots_of P) row key ↔ holds row key) (sym e) (r.entries row key);
  }
