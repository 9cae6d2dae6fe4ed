-- What would have fitted, found line by line.
use Rattle.std.proofs.Common.{◌≡◌, ◌-◌, ℕ, zero, suc, true, false, List, [], ◌∷◌, take, drop, Option, Some, None, refl, ◌∙◌}
use Rattle.std.specs.Prelude.{nat_eq, codes, slice_index_or}
use Rattle.std.specs.List.{starts_with}
use Rattle.spg_base.specs.declared.point.PointCond.{PointCond}
use Rattle.spg_script.specs.declared.spot.Spot.{Spot}
use Rattle.spg_script.specs.declared.spot.Spot.TheVariants.{Start}
use Rattle.spg_script.specs.declared.wanted.Wanted.{Wanted}
use Rattle.spg_script.specs.declared.wanted.Wanted.TheVariants as wanted
use Rattle.spg_script.specs.Reading.{point_cond_then}
use Rattle.spg_script.specs.Wanting.{next_spot, spot_after, line_wants, end_wants, line_at, wanted_at, cond_wants, conds_want, behind_cond}

-- lines were read up to these, of which so many stand before the one of number `n`
pub record LinesLeft (all : List (List ℕ)) (n : ℕ) (spot : Spot) (left : List (List ℕ)) (before : ℕ) : Type 0 where
  pub spot_then : spot_after Start (take (n - 1) all) ≡ spot_after spot (take before left)
  pub line : line_at all n ≡ slice_index_or left before []
  pub lines_then : drop (n - 1) all ≡ drop before left

pub none_read : (all : List (List ℕ)) (n : ℕ) → LinesLeft all n Start all (n - 1)
none_read all n = record { spot_then = refl; line = refl; lines_then = refl }

one_read : (all : List (List ℕ)) (n : ℕ) (spot : Spot) (line : List ℕ) (more : List (List ℕ)) (before : ℕ) → LinesLeft all n spot (line ∷ more) (suc before) → LinesLeft all n (next_spot spot line) more before
unfolding spot_after
one_read all n spot line more before w = record { spot_then = w.spot_then; line = w.line; lines_then = w.lines_then }

pub line_read : (all : List (List ℕ)) (n : ℕ) (spot : Spot) (left : List (List ℕ)) (line : List ℕ) (more : List (List ℕ)) (before now : ℕ) → left ≡ line ∷ more → before ≡ suc now → LinesLeft all n spot left before → LinesLeft all n (next_spot spot line) more now
line_read all n spot left line more before now is count w = one_read all n spot line more now (rw count at (rw is at w))

no_more : (all : List (List ℕ)) (n : ℕ) (spot : Spot) (before : ℕ) → LinesLeft all n spot [] before → (line_at all n ≡ []) × (wanted_at all n ≡ end_wants spot)
unfolding spot_after
no_more all n spot zero w = (w.line, rw (w.lines_then, w.spot_then) refl)
no_more all n spot (suc before) w = (w.line, rw (w.lines_then, w.spot_then) refl)

pub ends_early : (all : List (List ℕ)) (n : ℕ) (spot : Spot) (left : List (List ℕ)) (before : ℕ) → left ≡ [] → LinesLeft all n spot left before → (line_at all n ≡ []) × (wanted_at all n ≡ end_wants spot)
ends_early all n spot left before is w = no_more all n spot before (rw is at w)

here : (all : List (List ℕ)) (n : ℕ) (spot : Spot) (line : List ℕ) (more : List (List ℕ)) → LinesLeft all n spot (line ∷ more) 0 → (line_at all n ≡ line) × (wanted_at all n ≡ line_wants spot line)
unfolding spot_after
here all n spot line more w = (w.line, rw (w.lines_then, w.spot_then) refl)

pub ends_at : (all : List (List ℕ)) (n : ℕ) (spot : Spot) (left : List (List ℕ)) (line : List ℕ) (more : List (List ℕ)) (before : ℕ) → left ≡ line ∷ more → before ≡ 0 → LinesLeft all n spot left before → (line_at all n ≡ line) × (wanted_at all n ≡ line_wants spot line)
ends_at all n spot left line more before is count w = here all n spot line more (rw count at (rw is at w))

-- conditions one after another
step : (n : ℕ) (rest : List ℕ) (read : Option (PointCond × List ℕ)) → point_cond_then rest ≡ read → conds_want (suc n) rest ≡ behind_cond (conds_want n) rest read
unfolding conds_want
step n rest read is = rw is refl

pub no_cond : (all : Wanted) (n now : ℕ) (rest : List ℕ) → all ≡ conds_want n rest → n ≡ suc now → point_cond_then rest ≡ None → all ≡ cond_wants rest
no_cond all n now rest is count read = is ∙ rw count (step now rest None read)

pub cond_alone : (all : Wanted) (n now : ℕ) (rest left : List ℕ) (c : PointCond) → all ≡ conds_want n rest → n ≡ suc now → point_cond_then rest ≡ Some (c, left) → starts_with nat_eq left (codes " and ") ≡ false → all ≡ wanted.And
cond_alone all n now rest left c is count read alone = is ∙ rw count (step now rest (Some (c, left)) read ∙ rw alone refl)

pub cond_more : (all : Wanted) (n now : ℕ) (rest left : List ℕ) (c : PointCond) → all ≡ conds_want n rest → n ≡ suc now → point_cond_then rest ≡ Some (c, left) → starts_with nat_eq left (codes " and ") ≡ true → all ≡ conds_want now (drop 5 left)
cond_more all n now rest left c is count read more = is ∙ rw count (step now rest (Some (c, left)) read ∙ rw more refl)

pub eight_read : (all : Wanted) (n : ℕ) (rest : List ℕ) → all ≡ conds_want n rest → n ≡ 0 → all ≡ wanted.FewerConditions
unfolding conds_want
eight_read all n rest is count = is ∙ rw count refl
