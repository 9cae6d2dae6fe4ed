-- What the readers of command lines make of the words that were taken apart.
use Rattle.std.specs.Prelude.{ℕ, ◌&&◌, ◌||◌, nat_le, bytes_eq, if◌then◌else◌, List, codes, Option, Some, None, is_some}
use Rattle.spg_script.specs.Reading.{number_of}
use Rattle.spg_script.specs.declared.class_name.ClassName.{ClassName}
use Rattle.spg_script.specs.declared.class_name.ClassName.TheVariants.{Quad, Kd, Radix}
use Rattle.std.specs.Borrow.{Bor}
use Rattle.spg_io.specs.Names.{is_name}
use Rattle.spg_words.specs.declared.load.Load.{Load}
use Rattle.spg_words.specs.declared.run_line.RunLine.{RunLine}
use Rattle.spg_words.specs.declared.build_line.BuildLine.{BuildLine}
use Rattle.spg_words.specs.declared.standby_line.StandbyLine.{StandbyLine}
use Rattle.spg_words.specs.Numbers.{fewest_pages, most_pages, usual_pages, most_rows, most_seed, most_lanes, usual_lanes, most_workers, usual_workers, most_lag}
use Rattle.spg_words.specs.Reading.{◌>>=◌, Held, word_in, behind}

-- ---- `run`

abbrev pub page_limit : List ℕ → Option ℕ
page_limit word = number_of word >>= λ n. if nat_le fewest_pages n && nat_le n most_pages then Some n else None

abbrev pub limit_in : Option (List ℕ) → Option ℕ
limit_in None = Some usual_pages
limit_in (Some word) = page_limit word

-- what a line of `run` asks for: a limit of pages, and the name of an image to go on from
pub record Run : Type 0 where
  pub limit : ℕ
  pub from : Option (List ℕ)

abbrev pub run_told : Option RunLine → Option Run
run_told None = None
run_told (Some line) = Some (record { limit = line.limit; from = word_in line.from })

abbrev pub with_name : ℕ → Option (List ℕ) → Option Run
with_name n None = Some (record { limit = n; from = None })
with_name n (Some word) = if is_name word then Some (record { limit = n; from = Some word }) else None

abbrev pub run_in : Held → Option Run
run_in h = if is_some h.first || ((is_some h.lanes || is_some h.class) || is_some h.workers) then None else (limit_in h.limit >>= λ n. with_name n h.from)

abbrev pub run_of : List (List ℕ) → Option Run
run_of words = behind (codes "run") words >>= λ h. run_in h

-- ---- `check`

abbrev pub name_told : Option (Bor (List ℕ)) → Option (List ℕ)
name_told o = word_in o

abbrev pub image_name : List ℕ → Option (List ℕ)
image_name word = if is_name word then Some word else None

abbrev pub name_of : Option (List ℕ) → Option (List ℕ)
name_of None = None
name_of (Some word) = image_name word

abbrev pub checked_in : Held → Option (List ℕ)
checked_in h = if (is_some h.second || (is_some h.limit || is_some h.from)) || ((is_some h.lanes || is_some h.class) || is_some h.workers) then None else name_of h.first

abbrev pub check_of : List (List ℕ) → Option (List ℕ)
check_of words = behind (codes "check") words >>= λ h. checked_in h

-- ---- `gen`

abbrev pub class_named : List ℕ → Option ClassName
class_named word =
    if bytes_eq word (codes "quad") then Some Quad
    else (if bytes_eq word (codes "kd") then Some Kd
    else (if bytes_eq word (codes "radix") then Some Radix else None))

abbrev pub class_in : Option (List ℕ) → Option ClassName
class_in None = Some Quad
class_in (Some word) = class_named word

abbrev pub lanes_in : Option (List ℕ) → Option ℕ
lanes_in None = Some usual_lanes
lanes_in (Some word) = number_of word

-- the load, where its numbers are in range
abbrev pub checked : Load → Option Load
checked load =
    if (nat_le 1 load.count && nat_le load.count most_rows && nat_le load.seed most_seed) && (nat_le 1 load.lanes && nat_le load.lanes most_lanes) then Some load else None

abbrev pub load_from : Option (List ℕ) → Option (List ℕ) → Option (List ℕ) → Option (List ℕ) → Option (List ℕ) → Held → Option Load
load_from (Some rows) (Some seed) None None None h =
    number_of rows >>= λ n. (number_of seed >>= λ s. (lanes_in h.lanes >>= λ l. (class_in h.class >>= λ c. checked (record { count = n; seed = s; lanes = l; class = c }))))
load_from rows seed limit from workers h = None

abbrev pub load_in : Held → Option Load
load_in h = load_from h.first h.second h.limit h.from h.workers h

abbrev pub load_of : List (List ℕ) → Option Load
load_of words = behind (codes "gen") words >>= λ h. load_in h

-- ---- `build`

-- what a line of `build` asks for: the name of an image, and a number of workers
pub record Build : Type 0 where
  pub name : List ℕ
  pub workers : ℕ

abbrev pub build_told : Option BuildLine → Option Build
build_told None = None
build_told (Some line) = Some (record { name = line.name.now; workers = line.workers })

abbrev pub worker_count : List ℕ → Option ℕ
worker_count word = number_of word >>= λ n. if nat_le 1 n && nat_le n most_workers then Some n else None

abbrev pub workers_in : Option (List ℕ) → Option ℕ
workers_in None = Some usual_workers
workers_in (Some word) = worker_count word

abbrev pub with_workers : List ℕ → Option (List ℕ) → Option Build
with_workers name option = workers_in option >>= λ n. Some (record { name = name; workers = n })

abbrev pub build_in : Held → Option Build
build_in h = if (is_some h.second || (is_some h.limit || is_some h.from)) || (is_some h.lanes || is_some h.class) then None else (name_of h.first >>= λ name. with_workers name h.workers)

abbrev pub build_of : List (List ℕ) → Option Build
build_of words = behind (codes "build") words >>= λ h. build_in h

-- ---- `standby`

abbrev pub lag_named : List ℕ → Option ℕ
lag_named word = number_of word >>= λ n. if nat_le n most_lag then Some n else None

abbrev pub lag_in : Option (List ℕ) → Option ℕ
lag_in None = None
lag_in (Some word) = lag_named word

abbrev pub with_limit : ℕ → Option (List ℕ) → Option StandbyLine
with_limit lag option = limit_in option >>= λ n. Some (record { lag = lag; limit = n })

abbrev pub standby_in : Held → Option StandbyLine
standby_in h = if (is_some h.second || is_some h.from) || ((is_some h.lanes || is_some h.class) || is_some h.workers) then None else (lag_in h.first >>= λ lag. with_limit lag h.limit)

abbrev pub standby_of : List (List ℕ) → Option StandbyLine
standby_of words = behind (codes "standby") words >>= λ h. standby_in h
