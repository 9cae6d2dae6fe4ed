-- The printed text of a run.
use Rattle.std.specs.Prelude.{◌≡◌, ℕ, ◌+◌, List, [], ◌∷◌, ◌++◌, length, map, slice_get, codes, Option, Some, None}
use Rattle.std.specs.Fmt.{decimal}
use Rattle.std.specs.Option.{option_flatten}
use Rattle.std.specs.List.{flat_map}
use Rattle.spg_base.specs.Row.{RowAt}
use Rattle.spg_base.specs.Text.{row_text}
use Rattle.spg_base.specs.declared.recorded.Stat.{Stat}
use Rattle.spg_rows.specs.declared.event.Event.{Event}
use Rattle.spg_rows.specs.declared.event.Event.TheVariants.{OpenInsert, Put, Drop, Kill, OpenScan, CloseScan, OpenVacuum, Sweep, CloseVacuum, Leave}
use Rattle.spg_rows.specs.History.{seat_of}
use Rattle.spg_rows.specs.Rows.{key_of}
use Rattle.spg_calls.specs.Calls.{past_at}
use Rattle.spg_near.specs.declared.near_row.NearRow.{NearRow}
use Rattle.spg_report.specs.declared.outcome.Outcome.{Outcome}
use Rattle.spg_report.specs.declared.outcome.Outcome.TheVariants as outcome
use Rattle.spg_report.specs.declared.record.Record.{Record}
use Rattle.spg_script.specs.Speech.{Speech, HasNoValues, key_or_null_text, query_text}

-- ---- the number of a row

-- the number beside a key; a null has none
abbrev pub value_beside : {Key Cond : Type 0} → Speech Key Cond → Option (Option Key) → Option ℕ
value_beside speech None = None
value_beside speech (Some None) = None
value_beside speech (Some (Some key)) = speech.value_of key

-- the number beside the key of the row before a position: that of its last insert
abbrev pub value_in : {O Key Recon Cond : Type 0} → Speech Key Cond → List (Event O Key Recon Cond) → ℕ → RowAt → Option ℕ
value_in speech journal to row = value_beside speech (key_of row (past_at to journal))

-- one entry for each row that was found, none for any other outcome
abbrev pub values_found : {O Key Recon Cond : Type 0} → Speech Key Cond → List (Event O Key Recon Cond) → ℕ → Outcome → List (Option ℕ)
values_found speech journal to outcome.Added = []
values_found speech journal to outcome.RowUsed = []
values_found speech journal to (outcome.RowHeld by) = []
values_found speech journal to outcome.Full = []
values_found speech journal to outcome.ClockFull = []
values_found speech journal to outcome.Killed = []
values_found speech journal to outcome.NotLive = []
values_found speech journal to (outcome.Found rows walk) = map (λ r. value_in speech journal to r) rows
values_found speech journal to (outcome.Vacuumed swept) = []
values_found speech journal to (outcome.OpenBy seat) = []
values_found speech journal to (outcome.Saved pages) = []
values_found speech journal to outcome.ImageFault = []
values_found speech journal to (outcome.Stat counts) = []
values_found speech journal to (outcome.Near rows walk) = []
values_found speech journal to outcome.Memory = []

-- the numbers that a record's line prints: those where its command ended
abbrev pub values_of : {O Key Recon Cond : Type 0} → Speech Key Cond → List (Event O Key Recon Cond) → Record → List (Option ℕ)
values_of speech journal r = values_found speech journal r.span.to r.outcome

-- ---- a result

-- a row, and `=` and its number where it has one
abbrev pub valued_row_text : RowAt → Option ℕ → List ℕ
valued_row_text row None = row_text row
valued_row_text row (Some value) = row_text row ++ 61 ∷ decimal value

-- each with a space before it, without numbers
abbrev pub plain_rows_text : List RowAt → List ℕ
plain_rows_text rows = flat_map (λ r. 32 ∷ row_text r) rows

-- the same with their numbers; where there are none, no row has one
abbrev pub rows_text : List RowAt → List (Option ℕ) → List ℕ
rows_text rows [] = plain_rows_text rows
rows_text [] (v ∷ values) = []
rows_text (r ∷ rows) (v ∷ values) = 32 ∷ (valued_row_text r v ++ rows_text rows values)

-- the number of the row at this place; past their end no row has one
abbrev pub value_on : List (Option ℕ) → ℕ → Option ℕ
value_on values i = option_flatten (slice_get values i)

-- counts, each behind its word
abbrev pub stat_text : Stat → List ℕ
stat_text s = codes "stat pages " ++ decimal s.pages ++ codes " inner " ++ decimal s.inner ++ codes " leaf " ++ decimal s.leaf ++ codes " redirect " ++ decimal s.redirect
    ++ codes " dead " ++ decimal s.dead ++ codes " placeholder " ++ decimal s.placeholder ++ codes " clock " ++ decimal s.clock

-- the number of rows, the number of tuples met where it is told, and the rows
abbrev pub found_text : List RowAt → Option ℕ → List (Option ℕ) → List ℕ
found_text rows None values = codes "found " ++ decimal (length rows) ++ rows_text rows values
found_text rows (Some walk) values = codes "found " ++ decimal (length rows) ++ codes " walk " ++ decimal walk ++ rows_text rows values

-- a row, a colon and its distance
abbrev pub near_row_text : NearRow → List ℕ
near_row_text h = row_text h.row ++ 58 ∷ decimal h.distance

-- each with a space before it
abbrev pub near_rows_text : List NearRow → List ℕ
near_rows_text rows = flat_map (λ h. 32 ∷ near_row_text h) rows

-- the number of the nearest rows, the number of tuples met, and the rows with their distances
abbrev pub near_text : List NearRow → ℕ → List ℕ
near_text rows walk = codes "near " ++ decimal (length rows) ++ codes " walk " ++ decimal walk ++ near_rows_text rows

-- what became of a command, with a number for each row that was found
abbrev pub outcome_text : Outcome → List (Option ℕ) → List ℕ
outcome_text outcome.Added values = codes "added"
outcome_text outcome.RowUsed values = codes "row used"
outcome_text (outcome.RowHeld by) values = codes "row held by " ++ decimal by
outcome_text outcome.Full values = codes "full"
outcome_text outcome.ClockFull values = codes "clock full"
outcome_text outcome.Killed values = codes "killed"
outcome_text outcome.NotLive values = codes "not live"
outcome_text (outcome.Found rows walk) values = found_text rows walk values
outcome_text (outcome.Vacuumed swept) values = codes "vacuumed " ++ decimal swept
outcome_text (outcome.OpenBy seat) values = codes "open by " ++ decimal seat
outcome_text (outcome.Saved pages) values = codes "saved " ++ decimal pages
outcome_text outcome.ImageFault values = codes "image fault"
outcome_text (outcome.Stat counts) values = stat_text counts
outcome_text (outcome.Near rows walk) values = near_text rows walk
outcome_text outcome.Memory values = codes "memory"

-- a line of a result, without its end: the number of the command, where it begins and ends in the journal, and what became of it
abbrev pub valued_text : ℕ → Record → List (Option ℕ) → List ℕ
valued_text number r values = decimal number ++ 32 ∷ (decimal r.span.from ++ 32 ∷ (decimal r.span.to ++ 32 ∷ outcome_text r.outcome values))

-- the same without numbers of rows
abbrev pub plain_text : ℕ → Record → List ℕ
plain_text number r = valued_text number r []

-- the same with those that the journal has
abbrev pub result_text : {O Key Recon Cond : Type 0} → Speech Key Cond → List (Event O Key Recon Cond) → ℕ → Record → List ℕ
result_text speech journal number r = valued_text number r (values_of speech journal r)

-- what an event did
abbrev pub deed_text : {O Key Recon Cond : Type 0} → Speech Key Cond → Event O Key Recon Cond → List ℕ
deed_text speech (OpenInsert seat row key) = codes "open insert " ++ (row_text row ++ 32 ∷ key_or_null_text speech key)
deed_text speech (Put seat row) = codes "put " ++ row_text row
deed_text speech (Drop seat row why) = codes "drop " ++ row_text row
deed_text speech (Kill seat row) = codes "kill " ++ row_text row
deed_text speech (OpenScan seat query) = codes "open scan " ++ query_text speech query
deed_text speech (CloseScan seat rows) = codes "close scan " ++ decimal (length rows)
deed_text speech (OpenVacuum seat) = codes "open vacuum"
deed_text speech (Sweep seat row) = codes "sweep " ++ row_text row
deed_text speech (CloseVacuum seat swept) = codes "close vacuum " ++ decimal swept
deed_text speech (Leave seat) = codes "leave"

-- a line of an event: the position, the seat, and what it did
abbrev pub event_text : {O Key Recon Cond : Type 0} → Speech Key Cond → ℕ → Event O Key Recon Cond → List ℕ
event_text speech at e = decimal at ++ 32 ∷ (decimal (seat_of e) ++ 32 ∷ deed_text speech e)

-- the number of events
abbrev pub journal_text : ℕ → List ℕ
journal_text count = codes "journal " ++ decimal count

-- a line for each record, with numbers from this one on
abbrev pub result_lines : {O Key Recon Cond : Type 0} → Speech Key Cond → List (Event O Key Recon Cond) → ℕ → List Record → List (List ℕ)
result_lines speech journal number [] = []
result_lines speech journal number (r ∷ records) = result_text speech journal number r ∷ result_lines speech journal (number + 1) records

-- the same without numbers of rows
abbrev pub plain_lines : ℕ → List Record → List (List ℕ)
plain_lines number [] = []
plain_lines number (r ∷ records) = plain_text number r ∷ plain_lines (number + 1) records

-- a line for each event, with positions from this one on
abbrev pub event_lines : {O Key Recon Cond : Type 0} → Speech Key Cond → ℕ → List (Event O Key Recon Cond) → List (List ℕ)
event_lines speech at [] = []
event_lines speech at (e ∷ events) = event_text speech at e ∷ event_lines speech (at + 1) events

abbrev pub text_lines : {O Key Recon Cond : Type 0} → Speech Key Cond → List (Event O Key Recon Cond) → List Record → List (List ℕ)
text_lines speech journal records = result_lines speech journal 1 records ++ journal_text (length journal) ∷ event_lines speech 0 journal

-- each line with its end
abbrev pub ended : List (List ℕ) → List ℕ
ended lines = flat_map (λ line. line ++ 10 ∷ []) lines

-- the text of a run
abbrev pub text : {O Key Recon Cond : Type 0} → Speech Key Cond → List (Event O Key Recon Cond) → List Record → List ℕ
text speech journal records = ended (text_lines speech journal records)

-- the text of a run of a class without numbers
abbrev pub plain_run_text : {O Key Recon Cond : Type 0} → Speech Key Cond → List (Event O Key Recon Cond) → List Record → List ℕ
plain_run_text speech journal records = ended (plain_lines 1 records ++ journal_text (length journal) ∷ event_lines speech 0 journal)

-- where no key has a number, no `=` is printed
abbrev pub PlainWithoutValues : (O Key Recon Cond : Type 0) → Type 0
PlainWithoutValues O Key Recon Cond = (speech : Speech Key Cond) → HasNoValues speech → (journal : List (Event O Key Recon Cond)) (records : List Record) → text speech journal records ≡ plain_run_text speech journal records
