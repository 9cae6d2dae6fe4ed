-- What a seat does, one call after another.
use Rattle.std.proofs.Common.{◌≡◌, ℕ, Bool, true, false, ◌∙◌, refl}
use Rattle.spg_opclass.specs.Meaning.{Meaning}
use Rattle.spg_base.specs.Row.{RowAt}
use Rattle.spg_rows.specs.declared.event.Event.{Event}
use Rattle.spg_rows.specs.declared.event.Event.TheVariants.{Kill}
use Rattle.spg_rows.specs.History.{seat_of}
use Rattle.spg_scan.specs.Others.{ChangesPages}
use Rattle.spg_tree.specs.Table.{sheets_of}
use Rattle.spg_core.specs.declared.answer.InsertOut.{InsertOut}
use Rattle.spg_core.specs.declared.answer.VacuumOut.{VacuumOut}
use Rattle.spg_core.specs.Sections.{IsInsertOut, StepsVacuum, KillsRow}
use Rattle.spg_core.specs.Calls.{SweepsPages}
use Rattle.spg_core.specs.Stage.{Stage, free}
use Rattle.spg_core.specs.Seen.{Seen, past_of, logged, untouched}
use Rattle.spg_among.proofs.Goings.{goes_on, stay_goes, log_goes, step_goes, sweep_goes}
use Rattle.spg_test_states.specs.Works.{Works}

module _ {O Key Recon Cond : Type 0} (m : Meaning Key Recon Cond) (by : ℕ) where
  pub stays : (old new : Seen O Key Recon Cond) → new ≡ old → Works m by old new
  stays old new same seat s apart stage = stay_goes m old new seat s.stamp same

  pub then : (old now new : Seen O Key Recon Cond) → Works m by old now → Works m by now new → Works m by old new
  then old now new A B seat s apart stage =
      let first = A seat s apart stage in
      goes_on m old now new seat s.stamp first (B seat s apart (first.stage ∙ stage))

  pub logs : (old new : Seen O Key Recon Cond) (e : Event O Key Recon Cond) (x : Stage O Key Recon Cond) → seat_of e ≡ by → new ≡ logged old by e x (untouched old.table) → Works m by old new
  logs old new e x of is seat s apart stage = log_goes m old new seat by e x (untouched old.table) s apart stage of refl is

  pub steps : (old new : Seen O Key Recon Cond) (out : InsertOut) → IsInsertOut old new by out → ChangesPages m (past_of old) by (sheets_of old.table) (sheets_of new.table) new.table.touched 0 → Works m by old new
  steps old new out is changes seat s apart stage = step_goes m old new seat by out s apart stage is changes

  pub sweeps : (old new : Seen O Key Recon Cond) (out : VacuumOut) → StepsVacuum old new by out → SweepsPages m old new by → Works m by old new
  sweeps old new out is changes seat s apart stage = sweep_goes m old new seat by out s apart stage is changes

  pub kills : (old new : Seen O Key Recon Cond) (row : RowAt) (killed : Bool) → KillsRow old new by row killed → Works m by old new
  kills old new row true (live, is, stage) = logs old new (Kill by row) free refl is
  kills old new row false (dead, same) = stays old new same
