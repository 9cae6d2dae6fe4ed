-- Texts that are put together piece by piece.
use Rattle.std.proofs.Common.{◌≡◌, ℕ, List, ◌++◌, refl}
use Rattle.std.proofs.lemmas.List.{append_assoc}

-- seven words with their numbers behind what stood there
pub seven_pieces : (old a a2 b b2 c c2 d d2 e e2 f f2 g g2 : List ℕ)
    → old ++ (a ++ a2) ++ (b ++ b2) ++ (c ++ c2) ++ (d ++ d2) ++ (e ++ e2) ++ (f ++ f2) ++ (g ++ g2) ≡ old ++ (a ++ a2 ++ b ++ b2 ++ c ++ c2 ++ d ++ d2 ++ e ++ e2 ++ f ++ f2 ++ g ++ g2)
seven_pieces old a a2 b b2 c c2 d d2 e e2 f f2 g g2 = simp append_assoc refl
