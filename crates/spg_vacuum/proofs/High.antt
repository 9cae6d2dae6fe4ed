-- What a page leads to is on blocks from 3 on.
use Rattle.std.proofs.Common.{◌≡◌, ℕ, suc, ◌+◌, ◌<◌, List, [], ◌∷◌, ◌++◌, length, take, Option, Some, None, ⊎_elim, Bool, get_or, refl, sym, ap, ◌∙◌, subst}
use Rattle.std.specs.Prelude.{cond, nat_le}
use Rattle.std.proofs.lemmas.Bool.{cases_Bool, cond-true, cond-false}
use Rattle.std.proofs.lemmas.List.{take_more}
use Rattle.spg_opclass.specs.Meaning.{Meaning}
use Rattle.spg_forest.specs.View.{Place}
use Rattle.spg_forest.specs.Tuples.{Tuple, Inner, Live, Dead, Redirect, Placeholder}
use Rattle.spg_forest.specs.Pages.{place}
use Rattle.spg_forest.specs.Sheets.{Sheets, sheet_at}
use Rattle.spg_forest.specs.Shape.{Shape}
use Rattle.spg_forest.specs.Edits.{tuple_of}
use Rattle.spg_forest.proofs.Stock.{tuple_is}
use Rattle.spg_cover.specs.Vacuum.{IsPlaceOf, AreHigh, leads_to, places_of}
use Rattle.spg_cover.specs.Swept.{found_on}
use Rattle.spg_cover.proofs.Stands.{listed_high}
use Rattle.spg_vacuum.specs.Handled.{found_at}

found_in : (c : ℕ) (ts : List Tuple) (p : Place) → IsPlaceOf (found_on c ts) p → (k : ℕ) × (u : ℕ) × (get_or ts k Placeholder ≡ Redirect p u)
found_in c [] p a = absurd a
found_in c (Redirect y u ∷ ts) p a = ⊎_elim
    (λ e. ⊎_elim (λ q. (0, u, ap (λ z. Redirect z u) (sym q))) (λ b. let (k, v, f) = found_in c ts p b in (suc k, v, f)) (subst (λ (ps : List Place). IsPlaceOf ps p) (cond-true (nat_le c u) (y ∷ found_on c ts) (found_on c ts) e) a))
    (λ e. let (k, v, f) = found_in c ts p (subst (λ (ps : List Place). IsPlaceOf ps p) (cond-false (nat_le c u) (y ∷ found_on c ts) (found_on c ts) e) a) in (suc k, v, f)) (cases_Bool (nat_le c u))
found_in c (Inner w ns ∷ ts) p a = let (k, v, f) = found_in c ts p a in (suc k, v, f)
found_in c (Live l n ∷ ts) p a = let (k, v, f) = found_in c ts p a in (suc k, v, f)
found_in c (Dead ∷ ts) p a = let (k, v, f) = found_in c ts p a in (suc k, v, f)
found_in c (Placeholder ∷ ts) p a = let (k, v, f) = found_in c ts p a in (suc k, v, f)

module _ {Key Recon Cond : Type 0} (m : Meaning Key Recon Cond) (S : Sheets) (H : Shape m S) where
  pub found_high : (c b : ℕ) → AreHigh (found_at c (sheet_at S b))
  found_high c b p a = ⊎_elim
      (λ e. absurd (subst (λ (ps : List Place). IsPlaceOf ps p) (ap (λ (i : Bool). cond i [] (found_on c (sheet_at S b).tuples)) e) a))
      (λ e. let (k, u, f) = found_in c (sheet_at S b).tuples p (subst (λ (ps : List Place). IsPlaceOf ps p) (ap (λ (i : Bool). cond i [] (found_on c (sheet_at S b).tuples)) e) a) in
      (H.pages.redirects (place b (suc k)) p u (tuple_is S (place b (suc k)) ∙ f)).1) (cases_Bool (sheet_at S b).inner)

  pub leads_high : (p : Place) → AreHigh (leads_to (tuple_of S p))
  leads_high p = (listed_high m S H).1 p

-- ---- the places of nodes, node after node
places_join : (xs ys : List (Option Place)) → places_of (xs ++ ys) ≡ places_of xs ++ places_of ys
places_join [] ys = refl
places_join (None ∷ xs) ys = places_join xs ys
places_join (Some p ∷ xs) ys = ap (λ ps. p ∷ ps) (places_join xs ys)

nodes_more : (ns : List (Option Place)) (k : ℕ) (n : Option Place) → k < length ns → get_or ns k None ≡ n → places_of (take (k + 1) ns) ≡ places_of (take k ns) ++ places_of (n ∷ [])
nodes_more ns k n h e = ap places_of (take_more ns k None h) ∙ places_join (take k ns) (get_or ns k None ∷ []) ∙ ap (λ (x : Option Place). places_of (take k ns) ++ places_of (x ∷ [])) e

pub node_some : (ns : List (Option Place)) (k : ℕ) (p : Place) (ps : List Place) → k < length ns → get_or ns k None ≡ Some p → ps ≡ places_of (take k ns) → ps ++ p ∷ [] ≡ places_of (take (k + 1) ns)
node_some ns k p ps h e q = ap (λ xs. xs ++ p ∷ []) q ∙ sym (nodes_more ns k (Some p) h e)

nil_right : (xs : List Place) → xs ≡ xs ++ []
nil_right [] = refl
nil_right (x ∷ xs) = ap (λ us. x ∷ us) (nil_right xs)

pub node_none : (ns : List (Option Place)) (k : ℕ) (ps : List Place) → k < length ns → get_or ns k None ≡ None → ps ≡ places_of (take k ns) → ps ≡ places_of (take (k + 1) ns)
node_none ns k ps h e q = q ∙ nil_right (places_of (take k ns)) ∙ sym (nodes_more ns k None h e)
