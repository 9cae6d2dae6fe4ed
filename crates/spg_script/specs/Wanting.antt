-- What would have fitted where a script goes wrong.
use Rattle.std.specs.Prelude.{ℕ, zero, suc, Bool, List, [], ◌∷◌, take, drop, Option, Some, None, if◌then◌else◌, ◌||◌, ◌&&◌, ◌-◌, ℤ, codes, bytes_eq, nat_eq, slice_index_or}
use Rattle.std.specs.List.{starts_with}
use Rattle.std.specs.Option.{is_some}
use Rattle.spg_base.specs.declared.point.PointCond.{PointCond}
use Rattle.spg_script.specs.declared.class_line.ClassLine.{ClassLine}
use Rattle.spg_script.specs.declared.class_line.ClassLine.TheVariants as class
use Rattle.spg_script.specs.declared.key_form.KeyForm.{KeyForm}
use Rattle.spg_script.specs.declared.key_form.KeyForm.TheVariants as form
use Rattle.spg_script.specs.declared.spot.Spot.{Spot}
use Rattle.spg_script.specs.declared.spot.Spot.TheVariants.{Start, Between, Block, Lane}
use Rattle.spg_script.specs.declared.wanted.Wanted.{Wanted}
use Rattle.spg_script.specs.declared.wanted.Wanted.TheVariants as wanted
use Rattle.spg_script.specs.Line.{keys_of}
use Rattle.spg_script.specs.Reading.{◌>>=◌, len_before, split_at, coordinate_of, row_of, point_cond_then}

-- what a line names
abbrev pub class_named : List ℕ → Option ClassLine
class_named line =
    if bytes_eq line (codes "class quad") then Some class.Quad
    else (if bytes_eq line (codes "class kd") then Some class.Kd
    else (if bytes_eq line (codes "class radix") then Some class.Radix
    else (if bytes_eq line (codes "class quad value") then Some class.QuadValue
    else (if bytes_eq line (codes "class kd value") then Some class.KdValue
    else (if bytes_eq line (codes "class radix value") then Some class.RadixValue
    else (if bytes_eq line (codes "class range") then Some class.Range else None))))))

-- behind a line that names a class no block is open
abbrev pub spot_behind : Option ClassLine → Spot
spot_behind None = Start
spot_behind (Some line) = Between (keys_of line)

abbrev pub class_spot : List ℕ → Spot
class_spot line = spot_behind (class_named line)

-- what has come before the line behind this one
abbrev pub next_spot : Spot → List ℕ → Spot
next_spot Start line = class_spot line
next_spot (Between keys) line = if bytes_eq line (codes "together") then Block keys else Between keys
next_spot (Block keys) line = if bytes_eq line (codes "lane") then Lane keys else Block keys
next_spot (Lane keys) line = if bytes_eq line (codes "end") then Between keys else Lane keys

-- what has come behind these lines
unfoldable pub spot_after : Spot → List (List ℕ) → Spot
spot_after spot [] = spot
spot_after spot (line ∷ lines) = spot_after (next_spot spot line) lines

-- the bytes before the first space
abbrev pub first_word : List ℕ → List ℕ
first_word bytes = take (len_before 32 bytes) bytes

-- the last of four coordinates, where four stand there
unfoldable pub last_corner : List ℕ → Option ℤ
last_corner bytes = do
  first ← split_at 44 bytes
  second ← split_at 44 first.1
  third ← split_at 44 second.1
  x1 ← coordinate_of first.0
  y1 ← coordinate_of second.0
  x2 ← coordinate_of third.0
  coordinate_of third.1

-- four coordinates stand behind the first word
unfoldable pub are_corners : List ℕ → Bool
are_corners bytes = is_some (split_at 32 bytes >>= λ parts. last_corner (first_word parts.1))

-- where bytes begin with no condition on points
unfoldable pub cond_wants : List ℕ → Wanted
cond_wants bytes = if bytes_eq (first_word bytes) (codes "in") && are_corners bytes then wanted.RectangleInOrder else wanted.PointCondition

-- the same behind a condition that was read, and its `and`
abbrev pub behind_cond : (List ℕ → Wanted) → List ℕ → Option (PointCond × List ℕ) → Wanted
behind_cond want bytes None = cond_wants bytes
behind_cond want bytes (Some first) = if starts_with nat_eq first.1 (codes " and ") then want (drop 5 first.1) else wanted.And

-- where bytes are no conditions on points, at most so many
unfoldable pub conds_want : ℕ → List ℕ → Wanted
conds_want zero bytes = wanted.FewerConditions
conds_want (suc n) bytes = behind_cond (conds_want n) bytes (point_cond_then bytes)

-- where bytes are no key
abbrev pub key_wants : KeyForm → Wanted
key_wants form.Point = wanted.PointKey
key_wants form.Text = wanted.TextKey
key_wants form.PointValue = wanted.PointValueKey
key_wants form.TextValue = wanted.TextValueKey
key_wants form.Range = wanted.RangeKey

-- where bytes are no row and key
unfoldable pub insert_wants : KeyForm → List ℕ → Wanted
insert_wants keys bytes = if is_some (row_of (first_word bytes)) then key_wants keys else wanted.InsertRow

-- where bytes are no conditions on keys of a form
abbrev pub all_conds_want : KeyForm → List ℕ → Wanted
all_conds_want form.Point bytes = conds_want 8 bytes
all_conds_want form.Text bytes = wanted.TextConditions
all_conds_want form.PointValue bytes = conds_want 8 bytes
all_conds_want form.TextValue bytes = wanted.TextConditions
all_conds_want form.Range bytes = wanted.RangeConditions

-- where bytes are no query
unfoldable pub find_wants : KeyForm → List ℕ → Wanted
find_wants keys bytes =
    if starts_with nat_eq bytes (codes "where ") then all_conds_want keys (drop 6 bytes)
    else wanted.Query

-- where a line is no command; `other` where it begins as none that has more words than one
unfoldable pub command_wants : KeyForm → Wanted → List ℕ → Wanted
command_wants keys other line =
    if starts_with nat_eq line (codes "insert ") then insert_wants keys (drop 7 line)
    else (if starts_with nat_eq line (codes "find ") then find_wants keys (drop 5 line)
    else (if starts_with nat_eq line (codes "delete ") then wanted.DeleteRow
    else (if starts_with nat_eq line (codes "near ") then wanted.Near
    else (if starts_with nat_eq line (codes "save ") then wanted.Name else other))))

-- in place of a line outside blocks
unfoldable pub between_wants : KeyForm → List ℕ → Wanted
between_wants keys line = if bytes_eq line (codes "lane") || bytes_eq line (codes "end") then wanted.Together else command_wants keys wanted.Command line

-- in place of a line of a lane
unfoldable pub lane_wants : KeyForm → List ℕ → Wanted
lane_wants keys line =
    if bytes_eq line (codes "lane") then wanted.FewerLanes
    else (if bytes_eq line (codes "stat") || starts_with nat_eq line (codes "save ") || starts_with nat_eq line (codes "near ") then wanted.NoLane else command_wants keys wanted.LaneCommand line)

-- in place of a line that is bad behind what has come
abbrev pub line_wants : Spot → List ℕ → Wanted
line_wants Start line = wanted.ClassLine
line_wants (Between keys) line = between_wants keys line
line_wants (Block keys) line = wanted.FirstLane
line_wants (Lane keys) line = lane_wants keys line

-- where a script ends too early behind what has come
abbrev pub end_wants : Spot → Wanted
end_wants Start = wanted.ClassLine
end_wants (Between keys) = wanted.Command
end_wants (Block keys) = wanted.EndOfBlock
end_wants (Lane keys) = wanted.EndOfBlock

-- the line of a number, counted from 1; nothing behind the last
abbrev pub line_at : List (List ℕ) → ℕ → List ℕ
line_at lines n = slice_index_or lines (n - 1) []

-- in place of the first of these lines, or behind the last
abbrev pub wanted_in : Spot → List (List ℕ) → Wanted
wanted_in spot [] = end_wants spot
wanted_in spot (line ∷ lines) = line_wants spot line

-- in place of the line of a number, which is the first bad one
abbrev pub wanted_at : List (List ℕ) → ℕ → Wanted
wanted_at lines n = wanted_in (spot_after Start (take (n - 1) lines)) (drop (n - 1) lines)

-- in a script of inserts, where this is wanted in one of all commands
abbrev pub insert_wanted : Wanted → List ℕ → Wanted
insert_wanted wanted.ClassLine line = wanted.ClassLine
insert_wanted other line = if starts_with nat_eq line (codes "insert ") then other else wanted.Insert

-- in a script of commands outside lanes, where this is wanted in one of all commands
abbrev pub standby_wanted : Wanted → List ℕ → Wanted
standby_wanted wanted.ClassLine line = wanted.ClassLine
standby_wanted other line = if starts_with nat_eq line (codes "insert ") || starts_with nat_eq line (codes "find ") || starts_with nat_eq line (codes "delete ") then other else wanted.StandbyCommand
