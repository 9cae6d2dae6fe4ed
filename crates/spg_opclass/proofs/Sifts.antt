-- What a class is asked of a copy, one part after another.
use Rattle.std.proofs.Common.{◌≡◌, ◌∙◌, ℕ, ◌+◌, ◌<◌, Bool, true, false, cond, List, [], ◌∷◌, ◌++◌, length, length-take, get_or, take, All, subst, IsSome, Option, Some, None, refl, sym, ap, arith}
use Rattle.std.proofs.lemmas.List.{take_more}
use Rattle.spg_base.specs.Row.{RowAt}
use Rattle.spg_opclass.specs.declared.view.InnerView.{InnerView}
use Rattle.spg_opclass.specs.declared.view.Choice.{Choice}
use Rattle.spg_opclass.specs.declared.view.Choice.TheVariants.{Match, Add, Split}
use Rattle.spg_opclass.specs.Meaning.{Meaning, is_tuple, matches_rebuilt}
use Rattle.spg_opclass.specs.Laws.{KeptLaw, MatchLaw}
use Rattle.spg_opclass.specs.Copies.{matching, InnerAt, IsInnerAt, AtTuple, IsAtTuple, answer_at, IsThere}

-- the nodes that a class keeps of a copied tuple are there
pub kept_there : {Key Recon Cond : Type 0} (m : Meaning Key Recon Cond) → KeptLaw m → (at : InnerAt Recon) → IsInnerAt m at → (recon : Recon) (tuple : InnerView) (conds : List Cond) → recon ≡ at.recon → tuple ≡ at.tuple → All (λ c. m.is_cond c ≡ true) conds →
    (kept : List ℕ) → kept ≡ m.kept recon tuple conds → (k : ℕ) → k < length kept → get_or kept k 0 < length tuple.labels
kept_there {Recon = Recon} m law at is recon tuple conds e f known kept g k h =
    let a = subst (λ (r : Recon). m.is_recon r ≡ true) (sym e) is.recon in
    let b = subst (λ (t : InnerView). is_tuple m t ≡ true) (sym f) is.tuple in
    subst (λ (z : List ℕ). All (λ i. i < length tuple.labels) z) (sym g) (law recon tuple conds a b known).there k 0 h

row_before : (b : Bool) (x : RowAt) (xs ys zs : List RowAt) → zs ≡ xs ++ ys → cond b (x ∷ zs) zs ≡ cond b (x ∷ xs) xs ++ ys
row_before true x xs ys zs e = ap (λ (z : List RowAt). x ∷ z) e
row_before false x xs ys zs e = e

module _ {Key Recon Cond : Type 0} (m : Meaning Key Recon Cond) (recon : Recon) (conds : List Cond) where
  matching-append : (rows : List RowAt) (rests : List (List ℕ)) (rows2 : List RowAt) (rests2 : List (List ℕ)) → length rests ≡ length rows →
      matching m recon conds (rows ++ rows2) (rests ++ rests2) ≡ matching m recon conds rows rests ++ matching m recon conds rows2 rests2
  matching-append [] [] rows2 rests2 e = refl
  matching-append [] (x ∷ rests) rows2 rests2 e = absurd (omega (arith, e))
  matching-append (r ∷ rows) [] rows2 rests2 e = absurd (omega (arith, e))
  matching-append (r ∷ rows) (x ∷ rests) rows2 rests2 e =
      row_before (matches_rebuilt m conds (m.rebuild recon x)) r (matching m recon conds rows rests) (matching m recon conds rows2 rests2) (matching m recon conds (rows ++ rows2) (rests ++ rests2))
      (matching-append rows rests rows2 rests2 (omega (arith, e)))

  -- one more leaf, which matches or not
  module _ (rows : List RowAt) (rests : List (List ℕ)) (i : ℕ) (row : RowAt) (rest : List ℕ) (b : i < length rows) (each : length rests ≡ length rows) (row_is : row ≡ get_or rows i row) (rest_is : rest ≡ get_or rests i rest) where
    more : matching m recon conds (take (i + 1) rows) (take (i + 1) rests) ≡ matching m recon conds (take i rows) (take i rests) ++ matching m recon conds (row ∷ []) (rest ∷ [])
    more =
        let c : i < length rests = omega (arith, b, each) in
        let p : take (i + 1) rows ≡ take i rows ++ row ∷ [] = take_more rows i row b ∙ ap (λ (z : RowAt). take i rows ++ z ∷ []) (sym row_is) in
        let q : take (i + 1) rests ≡ take i rests ++ rest ∷ [] = take_more rests i rest c ∙ ap (λ (z : List ℕ). take i rests ++ z ∷ []) (sym rest_is) in
        let n : length (take i rests) ≡ length (take i rows) = omega (arith, length-take i rests, length-take i rows, each) in
        rw (p, q) (matching-append (take i rows) (take i rests) (row ∷ []) (rest ∷ []) n)

    pub matching_in : matches_rebuilt m conds (m.rebuild recon rest) ≡ true → matching m recon conds (take (i + 1) rows) (take (i + 1) rests) ≡ matching m recon conds (take i rows) (take i rests) ++ row ∷ []
    matching_in e = more ∙ ap (λ (z : Bool). matching m recon conds (take i rows) (take i rests) ++ cond z (row ∷ []) []) e

    pub matching_out : matches_rebuilt m conds (m.rebuild recon rest) ≡ false → matching m recon conds (take (i + 1) rows) (take (i + 1) rests) ≡ matching m recon conds (take i rows) (take i rests) ++ []
    matching_out e = more ∙ ap (λ (z : Bool). matching m recon conds (take i rows) (take i rests) ++ cond z (row ∷ []) []) e

there : {Key Recon Cond : Type 0} (m : Meaning Key Recon Cond) → MatchLaw m → (at : AtTuple Recon) → is_tuple m at.tuple ≡ true → (key : Option Key) → m.rebuild at.recon at.rest ≡ key → IsSome key → (choice : Choice) → answer_at m at ≡ choice → IsThere at.tuple choice
there m law at t (Some key) e h (Match node rest) q = (law at.recon at.tuple at.rest key t e node rest q).there
there m law at t (Some key) e h (Add place label) q = tt
there m law at t (Some key) e h (Split a b d f) q = tt
there m law at t None e h choice q = cc

-- the node of a match is there
pub answer_there : {Key Recon Cond : Type 0} (m : Meaning Key Recon Cond) → MatchLaw m → (at : AtTuple Recon) → IsAtTuple m at → (choice : Choice) → choice ≡ answer_at m at → IsThere at.tuple choice
answer_there m law at is choice q = there m law at is.tuple (m.rebuild at.recon at.rest) refl is.key choice (sym q)
