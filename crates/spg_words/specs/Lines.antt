-- Which command lines the program takes, and what each asks for.
use Rattle.std.specs.Prelude.{◌≡◌, ◌≢◌, ◌≤◌, ℕ, true, List, [], ◌∷◌, codes, Option, Some, None, ⊤}
use Rattle.std.specs.Fmt.{decimal}
use Rattle.spg_script.specs.declared.class_name.ClassName.{ClassName}
use Rattle.spg_script.specs.declared.class_name.ClassName.TheVariants.{Quad, Kd, Radix, Range}
use Rattle.spg_io.specs.Names.{is_name}
use Rattle.spg_words.specs.declared.load.Load.{Load}
use Rattle.spg_words.specs.Numbers.{fewest_pages, most_pages, usual_pages, most_rows, most_seed, most_lanes, usual_lanes, most_workers, usual_workers, most_lag}
use Rattle.spg_words.specs.Parts.{Given, value_of, Asks}

-- ---- `run`

-- a word spells a limit
pub record IsLimit (n : ℕ) (word : List ℕ) : Type 0 where
  pub least : fewest_pages ≤ n
  pub most : n ≤ most_pages
  pub spelled : word ≡ decimal n

-- the limit that the option `--limit` names, or the usual one
abbrev pub LimitIs : ℕ → Option (List ℕ) → Type 0
LimitIs n None = n ≡ usual_pages
LimitIs n (Some word) = IsLimit n word

-- a word is the name of an image, where there is one
abbrev pub IsNamed : Option (List ℕ) → Type 0
IsNamed None = ⊤
IsNamed (Some word) = is_name word ≡ true

-- the words ask for a run with this limit, which goes on from the image of this name, where there is one: `run`, and the options `--limit` and `--from` at most
pub record IsRunLine (n : ℕ) (from : Option (List ℕ)) (words : List (List ℕ)) : Type 0 where
  pub behind : List (List ℕ)
  pub options : List Given
  pub command : words ≡ codes "run" ∷ behind
  pub asks : Asks (codes "limit" ∷ codes "from" ∷ []) behind [] options
  pub limit : LimitIs n (value_of (codes "limit") options)
  pub from_is : from ≡ value_of (codes "from") options
  pub named : IsNamed from

-- ---- `check`

-- the words ask to check the image of this name: `check` and the name
pub record IsCheckLine (name : List ℕ) (words : List (List ℕ)) : Type 0 where
  pub behind : List (List ℕ)
  pub command : words ≡ codes "check" ∷ behind
  pub asks : Asks [] behind (name ∷ []) []
  pub named : is_name name ≡ true

-- ---- `gen`

-- the numbers of a load are in range
pub record IsLoad (load : Load) : Type 0 where
  pub some : 1 ≤ load.count
  pub count : load.count ≤ most_rows
  pub seed : load.seed ≤ most_seed
  pub one_lane : 1 ≤ load.lanes
  pub no_ranges : load.class ≢ Range
  pub lanes : load.lanes ≤ most_lanes

-- the lanes that the option `--lanes` names, or the usual ones
abbrev pub LanesAre : ℕ → Option (List ℕ) → Type 0
LanesAre n None = n ≡ usual_lanes
LanesAre n (Some word) = word ≡ decimal n

-- how a class is named; no load is of ranges
abbrev pub class_word : ClassName → Option (List ℕ)
class_word Quad = Some (codes "quad")
class_word Kd = Some (codes "kd")
class_word Radix = Some (codes "radix")
class_word Range = None

-- the class that the option `--class` names, or points in a quad tree
abbrev pub ClassIs : ClassName → Option (List ℕ) → Type 0
ClassIs class None = class ≡ Quad
ClassIs class (Some word) = class_word class ≡ Some word

-- the words ask for this load: `gen`, the number of rows and the seed in this order, and the options `--lanes` and `--class` at most
pub record IsLoadLine (load : Load) (words : List (List ℕ)) : Type 0 where
  pub behind : List (List ℕ)
  pub rows : List ℕ
  pub seed : List ℕ
  pub options : List Given
  pub command : words ≡ codes "gen" ∷ behind
  pub asks : Asks (codes "lanes" ∷ codes "class" ∷ []) behind (rows ∷ seed ∷ []) options
  pub rows_are : rows ≡ decimal load.count
  pub seed_is : seed ≡ decimal load.seed
  pub lanes_are : LanesAre load.lanes (value_of (codes "lanes") options)
  pub class_is : ClassIs load.class (value_of (codes "class") options)
  pub in_range : IsLoad load

-- ---- `build`

-- a word spells a number of workers
pub record IsWorkers (n : ℕ) (word : List ℕ) : Type 0 where
  pub least : 1 ≤ n
  pub most : n ≤ most_workers
  pub spelled : word ≡ decimal n

-- the number of workers that the option `--workers` names, or the usual one
abbrev pub WorkersAre : ℕ → Option (List ℕ) → Type 0
WorkersAre n None = n ≡ usual_workers
WorkersAre n (Some word) = IsWorkers n word

-- the words ask to build the image of this name with so many workers: `build` and the name, and the option `--workers` at most
pub record IsBuildLine (name : List ℕ) (workers : ℕ) (words : List (List ℕ)) : Type 0 where
  pub behind : List (List ℕ)
  pub options : List Given
  pub command : words ≡ codes "build" ∷ behind
  pub asks : Asks (codes "workers" ∷ []) behind (name ∷ []) options
  pub named : is_name name ≡ true
  pub workers_are : WorkersAre workers (value_of (codes "workers") options)

-- ---- `standby`

-- the words ask to run a script with a standby that is so many records behind at most, over an index of this limit: `standby` and the lag, and the option `--limit` at most
pub record IsStandbyLine (lag limit : ℕ) (words : List (List ℕ)) : Type 0 where
  pub behind : List (List ℕ)
  pub options : List Given
  pub command : words ≡ codes "standby" ∷ behind
  pub asks : Asks (codes "limit" ∷ []) behind (decimal lag ∷ []) options
  pub in_range : lag ≤ most_lag
  pub limit_is : LimitIs limit (value_of (codes "limit") options)
