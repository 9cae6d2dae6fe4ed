-- The script of generated load.
use Rattle.std.specs.Prelude.{◌+◌, ◌*◌, ◌/◌, ◌%◌, ◌==◌, ℕ, pos, if◌then◌else◌, List, [], ◌∷◌, ◌++◌, filter, map, Some, None, codes}
use Rattle.std.specs.List.{flat_map, range_with_len}
use Rattle.spg_base.specs.Row.{RowAt}
use Rattle.spg_base.specs.declared.point.PointCond.TheVariants.{Left, Below}
use Rattle.spg_radix.specs.declared.condition.TextCond.TheVariants.{Starts, Ge}
use Rattle.spg_script.specs.declared.class_name.ClassName.{ClassName}
use Rattle.spg_script.specs.declared.class_name.ClassName.TheVariants.{Quad, Kd, Radix, Range}
use Rattle.spg_script.specs.declared.class_line.ClassLine.{ClassLine}
use Rattle.spg_script.specs.declared.class_line.ClassLine.TheVariants as line
use Rattle.spg_script.specs.declared.any_key.AnyKey.{AnyKey}
use Rattle.spg_script.specs.declared.any_key.AnyKey.TheVariants as any_key
use Rattle.spg_script.specs.declared.any_cond.AnyCond.TheVariants as any_cond
use Rattle.spg_script.specs.declared.any_query.AnyQuery.{AnyQuery}
use Rattle.spg_script.specs.declared.any_query.AnyQuery.TheVariants.{All, Where}
use Rattle.spg_script.specs.declared.command.Command.{Command}
use Rattle.spg_script.specs.declared.command.Command.TheVariants.{Insert, Delete, Find, Vacuum}
use Rattle.spg_script.specs.Blocks.{Part, alone_part, block_part, Script}

-- the coordinates of key number `i`, below 1,000
abbrev pub load_x : ℕ → ℕ → ℕ
load_x seed i = (37 * i + seed) % 1000

abbrev pub load_y : ℕ → ℕ → ℕ
load_y seed i = (91 * i + seed) % 1000

-- a number below 1,000 in three digits
abbrev pub three_digits : ℕ → List ℕ
three_digits n = (48 + n / 100) ∷ (48 + n / 10 % 10) ∷ (48 + n % 10) ∷ []

-- an address
abbrev pub address : ℕ → ℕ → List ℕ
address x y = codes "street " ++ (three_digits x ++ (codes " house " ++ three_digits y))

-- key number `i`: a point, or its address; no load is of ranges
abbrev pub load_key : ClassName → ℕ → ℕ → AnyKey
load_key Quad seed i = any_key.Point (record { x = pos (load_x seed i); y = pos (load_y seed i) })
load_key Kd seed i = any_key.Point (record { x = pos (load_x seed i); y = pos (load_y seed i) })
load_key Radix seed i = any_key.Text (address (load_x seed i) (load_y seed i))
load_key Range seed i = any_key.Range None

-- row number `i`: a hundred to a block
abbrev pub load_row : ℕ → RowAt
load_row i = record { block = i / 100; offset = i % 100 + 1 }

-- what is done with number `i`: its insert and, for each third number, its delete
abbrev pub changes : ClassName → ℕ → ℕ → List Command
changes class seed i = Insert (load_row i) (Some (load_key class seed i)) ∷ (if i % 3 == 2 then Delete (load_row i) ∷ [] else [])

-- the numbers below `count` that lane `l` of `lanes` has, in ascending order
abbrev pub numbers_of : ℕ → ℕ → ℕ → List ℕ
numbers_of count lanes l = filter (λ i. i % lanes == l) (range_with_len 0 count)

unfoldable pub load_lane : ClassName → ℕ → ℕ → ℕ → ℕ → List Command
load_lane class count seed lanes l = flat_map (changes class seed) (numbers_of count lanes l)

-- the last lane vacuums and finds while the others load
abbrev pub watching_lane : List Command
watching_lane = Vacuum ∷ Find All ∷ Vacuum ∷ Find All ∷ []

unfoldable pub load_lanes : ClassName → ℕ → ℕ → ℕ → List (List Command)
load_lanes class count seed lanes = map (load_lane class count seed lanes) (range_with_len 0 lanes) ++ watching_lane ∷ []

-- points to the left, or texts with a beginning
abbrev pub first_query : ClassName → AnyQuery
first_query Quad = Where (any_cond.Point (Left (pos 100)) ∷ [])
first_query Kd = Where (any_cond.Point (Left (pos 100)) ∷ [])
first_query Radix = Where (any_cond.Text (Starts (codes "street 0")) ∷ [])
first_query Range = All

-- points below, or greater texts
abbrev pub second_query : ClassName → AnyQuery
second_query Quad = Where (any_cond.Point (Below (pos 500)) ∷ [])
second_query Kd = Where (any_cond.Point (Below (pos 500)) ∷ [])
second_query Radix = Where (any_cond.Text (Ge (codes "street 500")) ∷ [])
second_query Range = All

-- the load in lanes, then a vacuum, a find of all, and the two queries
abbrev pub load_parts : ClassName → ℕ → ℕ → ℕ → List Part
load_parts class count seed lanes =
    block_part (load_lanes class count seed lanes)
    ∷ alone_part Vacuum
    ∷ alone_part (Find All)
    ∷ alone_part (Find (first_query class))
    ∷ alone_part (Find (second_query class))
    ∷ []

-- the class line of a load
abbrev pub load_class : ClassName → ClassLine
load_class Quad = line.Quad
load_class Kd = line.Kd
load_class Radix = line.Radix
load_class Range = line.Range

unfoldable pub generated : ℕ → ℕ → ℕ → ClassName → Script
generated count seed lanes class = record { class = load_class class; parts = load_parts class count seed lanes }
