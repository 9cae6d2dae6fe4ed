-- What the holder of a pass knows of the journal, and what a split, a join and a turn make of it.
use Rattle.std.specs.Prelude.{◌≡◌, ℕ, ◌+◌, ◌==◌, true, false, if◌then◌else◌, nat_lt, List, [], ◌∷◌, ◌++◌, length, drop, filter}
use Rattle.spg_base.specs.declared.recorded.Origin.{Origin}
use Rattle.spg_turn.specs.declared.rule.Stage.TheVariants.{Idle}
use Rattle.spg_turn.specs.declared.rule.View.{View}

abbrev nothing : Origin
nothing = record { limit = 0; pages = 0; clock = 0; loaded = false }

module _ {E : Type 0} where
  -- the list goes on from what was seen
  abbrev pub StartsWith : List E → List E → Type 0
  StartsWith list seen = (more : List E) × (list ≡ seen ++ more)

  -- the entries of one seat, in order
  abbrev pub by_seat : (E → ℕ) → ℕ → List E → List E
  by_seat seat_of n es = filter (λ e. seat_of e == n) es

  -- what stands under a number
  abbrev pub kept_of : List (ℕ × List E) → ℕ → List E
  kept_of [] n = []
  kept_of (k ∷ ks) n = if k.0 == n then k.1 else kept_of ks n

  abbrev pub longer : List E → List E → List E
  longer xs ys = if nat_lt (length xs) (length ys) then ys else xs

  -- what the first pass knows of a new lock: it has seen the whole list, has added nothing, and is the one pass given
  abbrev pub first_view : List E → Origin → View E
  first_view list origin = record { spent = false; number = 0; stage = Idle; base = length list; met = length list; origin = origin; seen = list; mine = []; left = []; right = []; given = 1; back = 0; kept = [] }

  -- the first pass after a split
  abbrev pub after_split : View E → View E
  after_split v = record v { given = v.given + 1 }

  -- the pass that a split gives: the next number, with what the first has seen
  abbrev pub dealt : View E → View E
  dealt v = record { spent = false; number = v.given; stage = Idle; base = v.base; met = v.base; origin = v.origin; seen = v.seen; mine = []; left = []; right = []; given = 0; back = 0; kept = [] }

  -- the first pass after a join: the longer list is seen, and what the other added is kept under its number
  abbrev pub after_join : View E → View E → View E
  after_join v w = record v { seen = longer v.seen w.seen; back = v.back + 1; kept = (w.number, w.mine) ∷ v.kept }

  -- right after the step, both lists are kept beside the longer one
  abbrev pub joining : View E → View E → View E
  joining v w = record (after_join v w) { left = v.seen; right = w.seen; met = w.base }

  abbrev pub spent_view : View E
  spent_view = record { spent = true; number = 0; stage = Idle; base = 0; met = 0; origin = nothing; seen = []; mine = []; left = []; right = []; given = 0; back = 0; kept = [] }

  -- what a seat knows, apart from where it stands
  abbrev pub settled : View E → View E
  settled v = record v { stage = Idle }

  -- what a holder knows once its list is this one: what it has more than was seen, the holder added
  abbrev pub grown : View E → List E → View E
  grown v list = record v { seen = list; mine = v.mine ++ drop (length v.seen) list }
