-- How the calls on a page make the forest's step.
use Rattle.std.proofs.Common.{◌≡◌, ◌≤◌, List, [], ◌∷◌, Bool, false, map, refl, ap, ◌∙◌, subst, arith}
use Rattle.spg_opclass.specs.Meaning.{Meaning}
use Rattle.spg_forest.specs.Tuples.{Tuple, Inner, Live, Dead, Redirect, Placeholder}
use Rattle.spg_forest.specs.Pages.{place, tuple_on}
use Rattle.spg_forest.specs.Sheets.{Sheet, sheet_at, with_tuples, size_of}
use Rattle.spg_forest.specs.Shape.{spots, IsKindOf}
use Rattle.spg_forest.specs.Edits.{with_sheet}
use Rattle.spg_forest.proofs.Edits.{sheet_laid}
use Rattle.spg_forest.proofs.Sections.{shape_shown}
use Rattle.spg_page.specs.Changes.{in_front, trimmed}
use Rattle.spg_cover.specs.Swept.{aged, onto, trimmed as trimmed_there}
use Rattle.spg_chain.specs.Joined.{LeafPages, SweptThenAged, RootSwept, RootsLead}
use Rattle.spg_chain.proofs.Removing.{root_swept}

big : {Key Recon Cond : Type 0} (m : Meaning Key Recon Cond) (nulls : Bool) (t : Tuple) → IsKindOf m false nulls t → 16 ≤ size_of t
big m nulls (Inner w ns) k = let q = k.0 in cc
big m nulls (Live l n) k = omega arith
big m nulls Dead k = omega arith
big m nulls (Redirect y u) k = omega arith
big m nulls Placeholder k = omega arith

pub leaf_pages : {Key Recon Cond : Type 0} (m : Meaning Key Recon Cond) → LeafPages m
leaf_pages m S b H high leaf = record {
  spots = λ o. spots S (place b o);
  laid = sheet_laid S (spots S) b high (shape_shown m S H);
  big = λ o. big m (sheet_at S b).nulls (tuple_on (sheet_at S b).tuples o) (subst (λ (i : Bool). IsKindOf m i (sheet_at S b).nulls (tuple_on (sheet_at S b).tuples o)) leaf ((H.pages.each b).kinds o));
}

-- the two spellings are one function
onto_same : (t : Tuple) (us : List Tuple) → in_front t us ≡ onto t us
onto_same Placeholder [] = refl
onto_same (Inner w ns) [] = refl
onto_same (Live l n) [] = refl
onto_same Dead [] = refl
onto_same (Redirect y u) [] = refl
onto_same Placeholder (x ∷ xs) = refl
onto_same (Inner w ns) (x ∷ xs) = refl
onto_same (Live l n) (x ∷ xs) = refl
onto_same Dead (x ∷ xs) = refl
onto_same (Redirect y u) (x ∷ xs) = refl

pub trimmed_same : (ts : List Tuple) → trimmed ts ≡ trimmed_there ts
trimmed_same [] = refl
trimmed_same (t ∷ ts) = ap (in_front t) (trimmed_same ts) ∙ onto_same t (trimmed_there ts)

pub swept_then_aged : SweptThenAged
swept_then_aged S b horizon test p q (e, s) f = ap (with_sheet S b) (f ∙ ap (λ us. with_tuples p us) (trimmed_same (map (aged horizon) p.tuples)) ∙ ap (λ (x : Sheet). with_tuples x (trimmed_there (map (aged horizon) p.tuples))) e)

pub roots_swept : RootSwept
roots_swept test ls = root_swept test ls

pub roots_lead : RootsLead
roots_lead c [] = refl
roots_lead c (l ∷ ls) = roots_lead c ls
