-- The numbers of command lines.
use Rattle.std.specs.Prelude.{ℕ}

-- the least and the greatest number of pages that an index may be limited to, and the usual one
abbrev pub fewest_pages : ℕ
fewest_pages = 4

abbrev pub most_pages : ℕ
most_pages = 131072

abbrev pub usual_pages : ℕ
usual_pages = 65536

-- of a generated load the greatest number of rows, the greatest seed, and the greatest and the usual number of lanes
abbrev pub most_rows : ℕ
most_rows = 200000

abbrev pub most_seed : ℕ
most_seed = 999999

abbrev pub most_lanes : ℕ
most_lanes = 16

abbrev pub usual_lanes : ℕ
usual_lanes = 4

-- how many workers build an index at most, and usually
abbrev pub most_workers : ℕ
most_workers = 16

abbrev pub usual_workers : ℕ
usual_workers = 4

-- how many records a standby is behind at most
abbrev pub most_lag : ℕ
most_lag = 1000
