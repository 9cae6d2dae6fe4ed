-- What is told of an event is read back from its line.
use Rattle.std.proofs.Common.{◌≡◌, ◌<◌, ◌^◌, ℕ, cond, List, [], ◌∷◌, ◌++◌, length, drop, Option, Some, None, refl, sym, ap, subst, arith}
use Rattle.std.specs.List.{starts_with}
use Rattle.std.specs.Prelude.{codes, bytes_eq, nat_eq, option_map}
use Rattle.std.specs.Fmt.{decimal}
use Rattle.spg_base.specs.Row.{RowAt}
use Rattle.spg_base.specs.Text.{row_text}
use Rattle.spg_opclass.specs.declared.query.Query.{Query}
use Rattle.spg_rows.specs.declared.event.Event.{Event}
use Rattle.spg_rows.specs.declared.event.Event.TheVariants.{OpenInsert, Put, Drop, Kill, OpenScan, CloseScan, OpenVacuum, Sweep, CloseVacuum, Leave}
use Rattle.spg_rows.specs.declared.event.Why.TheVariants as cause
use Rattle.spg_rows.specs.History.{seat_of}
use Rattle.spg_script.specs.declared.command.Command.{Command}
use Rattle.spg_script.specs.declared.command.Command.TheVariants.{Insert, Delete, Find, Vacuum, Save, Stat, Near}
use Rattle.spg_script.specs.declared.key_form.KeyForm.{KeyForm}
use Rattle.spg_script.specs.Spelling.{IsRow}
use Rattle.spg_script.specs.Reading.{◌>>=◌, split_at, row_of, insert_of, find_of}
use Rattle.spg_script.specs.Speech.{Speech, SpeaksAsPrinted, key_or_null_in, query_in, key_or_null_text, query_text, any_key_or_null_text, any_query_text}
use Rattle.spg_script.proofs.Digits.{HasNo, HasNo-cons, HasNo-append, HasNo-decimal, split_at-front, row_of-text}
use Rattle.spg_script.proofs.CommandLines.{insert_of-spelled, find_of-spelled}
use Rattle.spg_script.proofs.Printed.{key_printed, query_printed, key_no_lf, query_no_lf, key_text_is, query_text_is}
use Rattle.spg_report.specs.Text.{deed_text, event_text}
use Rattle.spg_report.specs.Told.{told, Fits, IsNamed}
use Rattle.spg_report.proofs.Parts.{num, num-decimal, row_no}
use Rattle.spg_report.proofs.ResultLines.{spaced_no_lf}

-- what an event did, as its line tells it
pub data Deed : Type 0 where
  opens : Command → Deed
  puts : RowAt → Deed
  drops : RowAt → Deed
  kills : RowAt → Deed
  closes : Deed
  starts : Deed
  sweeps : RowAt → Deed
  finishes : ℕ → Deed
  leaves : Deed

abbrev of_row : (RowAt → Deed) → List ℕ → Option Deed
of_row make bytes = row_of bytes >>= λ row. Some (make row)

abbrev of_command : Option Command → Option Deed
of_command read = read >>= λ c. Some (opens c)

pub deed_of : KeyForm → List ℕ → Option Deed
deed_of keys bytes =
    cond (starts_with nat_eq bytes (codes "open insert ")) (of_command (insert_of keys (drop 12 bytes)))
    (cond (starts_with nat_eq bytes (codes "open scan ")) (of_command (find_of keys (drop 10 bytes)))
    (cond (starts_with nat_eq bytes (codes "put ")) (of_row puts (drop 4 bytes))
    (cond (starts_with nat_eq bytes (codes "drop ")) (of_row drops (drop 5 bytes))
    (cond (starts_with nat_eq bytes (codes "kill ")) (of_row kills (drop 5 bytes))
    (cond (starts_with nat_eq bytes (codes "sweep ")) (of_row sweeps (drop 6 bytes))
    (cond (starts_with nat_eq bytes (codes "close scan ")) (Some closes)
    (cond (starts_with nat_eq bytes (codes "close vacuum ")) (Some (finishes (num (drop 13 bytes))))
    (cond (bytes_eq bytes (codes "open vacuum")) (Some starts)
    (cond (bytes_eq bytes (codes "leave")) (Some leaves) None)))))))))

row_no_lf : (word : List ℕ) (row : RowAt) → HasNo 10 word → IsRow row → HasNo 10 (word ++ row_text row)
row_no_lf word row apart is = HasNo-append 10 word (row_text row) apart (row_no 10 row (omega arith) is)

module _ {O Key Recon Cond : Type 0} (keys : KeyForm) (speech : Speech Key Cond) (law : SpeaksAsPrinted speech) where
  -- the event of a seat that did this, as far as the line tells it
  abbrev opened_so : ℕ → Command → Option (Event O Key Recon Cond)
  opened_so seat (Insert row key) = option_map (λ (k : Option Key). OpenInsert seat row k) (key_or_null_in speech key)
  opened_so seat (Delete row) = None
  opened_so seat (Find query) = option_map (λ (q : Query O Key Recon Cond). OpenScan seat q) (query_in speech query)
  opened_so seat Vacuum = None
  opened_so seat (Save name) = None
  opened_so seat Stat = None
  opened_so seat (Near target limit) = None

  abbrev did_so : ℕ → Deed → Option (Event O Key Recon Cond)
  did_so seat (opens c) = opened_so seat c
  did_so seat (puts row) = Some (Put seat row)
  did_so seat (drops row) = Some (Drop seat row cause.Given)
  did_so seat (kills row) = Some (Kill seat row)
  did_so seat closes = Some (CloseScan seat [])
  did_so seat starts = Some (OpenVacuum seat)
  did_so seat (sweeps row) = Some (Sweep seat row)
  did_so seat (finishes n) = Some (CloseVacuum seat n)
  did_so seat leaves = Some (Leave seat)

  -- an event that a line tells
  pub event_read : List ℕ → Option (Event O Key Recon Cond)
  event_read line = split_at 32 line >>= λ a. (split_at 32 a.1 >>= λ b. (deed_of keys b.1 >>= λ d. did_so (num b.0) d))

  deed_read : (e : Event O Key Recon Cond) → Fits e → IsNamed keys speech e → (deed_of keys (deed_text speech e) >>= λ d. did_so (seat_of e) d) ≡ Some (told e)
  unfolding deed_of
  deed_read (OpenInsert seat row key) fits (named, is_in, is) =
      let text : key_or_null_text speech key ≡ any_key_or_null_text named = key_text_is speech law named key is_in in
      rw text (rw (insert_of-spelled keys row named (any_key_or_null_text named) fits (key_printed keys named is)) (rw is_in refl))
  deed_read (Put seat row) fits is = rw (row_of-text row fits) refl
  deed_read (Drop seat row why) fits is = rw (row_of-text row fits) refl
  deed_read (Kill seat row) fits is = rw (row_of-text row fits) refl
  deed_read (OpenScan seat query) fits (named, is_in, is) =
      let text : query_text speech query ≡ any_query_text named = query_text_is speech law named query is_in in
      rw text (rw (find_of-spelled keys named (any_query_text named) (query_printed keys named is)) (rw is_in refl))
  deed_read (CloseScan seat rows) fits is = refl
  deed_read (OpenVacuum seat) fits is = refl
  deed_read (Sweep seat row) fits is = rw (row_of-text row fits) refl
  deed_read (CloseVacuum seat swept) fits is = ap (λ (n : ℕ). Some (CloseVacuum seat n)) (num-decimal swept fits)
  deed_read (Leave seat) fits is = refl

  pub event_read-text : (at : ℕ) (e : Event O Key Recon Cond) → at < 2 ^ 64 → seat_of e < 2 ^ 64 → Fits e → IsNamed keys speech e → event_read (event_text speech at e) ≡ Some (told e)
  unfolding event_read
  event_read-text at e small seat fits is =
      rw (split_at-front 32 (decimal at) (decimal (seat_of e) ++ 32 ∷ deed_text speech e) (HasNo-decimal 32 at (omega arith) small))
      (rw (split_at-front 32 (decimal (seat_of e)) (deed_text speech e) (HasNo-decimal 32 (seat_of e) (omega arith) seat))
      (rw (num-decimal (seat_of e) seat) (deed_read e fits is)))

  -- ---- no line ends within

  deed_no_lf : (e : Event O Key Recon Cond) → Fits e → IsNamed keys speech e → HasNo 10 (deed_text speech e)
  deed_no_lf (OpenInsert seat row key) fits (named, is_in, is) =
      HasNo-append 10 (codes "open insert ") (row_text row ++ 32 ∷ key_or_null_text speech key) refl (HasNo-append 10 (row_text row) (32 ∷ key_or_null_text speech key) (row_no 10 row (omega arith) fits) (HasNo-cons 10 32 (key_or_null_text speech key) refl (subst (HasNo 10) (sym (key_text_is speech law named key is_in)) (key_no_lf keys named is))))
  deed_no_lf (Put seat row) fits is = row_no_lf (codes "put ") row refl fits
  deed_no_lf (Drop seat row why) fits is = row_no_lf (codes "drop ") row refl fits
  deed_no_lf (Kill seat row) fits is = row_no_lf (codes "kill ") row refl fits
  deed_no_lf (OpenScan seat query) fits (named, is_in, is) =
      HasNo-append 10 (codes "open scan ") (query_text speech query) refl (subst (HasNo 10) (sym (query_text_is speech law named query is_in)) (query_no_lf keys named is))
  deed_no_lf (CloseScan seat rows) fits is = HasNo-append 10 (codes "close scan ") (decimal (length rows)) refl (HasNo-decimal 10 (length rows) (omega arith) fits)
  deed_no_lf (OpenVacuum seat) fits is = refl
  deed_no_lf (Sweep seat row) fits is = row_no_lf (codes "sweep ") row refl fits
  deed_no_lf (CloseVacuum seat swept) fits is = HasNo-append 10 (codes "close vacuum ") (decimal swept) refl (HasNo-decimal 10 swept (omega arith) fits)
  deed_no_lf (Leave seat) fits is = refl

  pub event_no_lf : (at : ℕ) (e : Event O Key Recon Cond) → at < 2 ^ 64 → seat_of e < 2 ^ 64 → Fits e → IsNamed keys speech e → HasNo 10 (event_text speech at e)
  event_no_lf at e small seat fits is = spaced_no_lf at _ small (spaced_no_lf (seat_of e) (deed_text speech e) seat (deed_no_lf e fits is))
