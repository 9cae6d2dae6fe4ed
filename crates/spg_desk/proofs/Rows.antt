-- Whether a row was live.
use Rattle.std.proofs.Common.{◌≡◌, ◌≢◌, true, false, List, [], ◌∷◌, reverse, refl}
use Rattle.spg_base.specs.Row.{RowAt}
use Rattle.spg_opclass.specs.Meaning.{Meaning}
use Rattle.spg_rows.specs.declared.event.Event.{Event}
use Rattle.spg_rows.specs.declared.table.RowState.{RowState}
use Rattle.spg_rows.specs.declared.table.RowState.TheVariants.{Free, Claimed, Live, Killed, Swept}
use Rattle.spg_rows.specs.History.{History}
use Rattle.spg_rows.specs.Legal.{IsLegal}
use Rattle.spg_rows.specs.Lives.{Life, lives}
use Rattle.spg_rows.specs.Rows.{is_live, live_in, state_of}
use Rattle.spg_rows.specs.States.{StateSays}
use Rattle.spg_rows.proofs.Histories.{states_agree}

not_so : {Key : Type 0} (state : RowState) (past : List (Life Key)) → state ≢ Live → StateSays state past → live_in past ≡ false
not_so Free [] other says = refl
not_so Free (life ∷ older) other says = rw says.put refl
not_so Claimed [] other says = absurd says
not_so Claimed (life ∷ older) other says = rw says.put refl
not_so Live past other says = absurd (other refl)
not_so (Killed at) [] other says = absurd says
not_so (Killed at) (life ∷ older) other says = rw (says.1.put, says.1.kill) refl
not_so (Swept vacuum) [] other says = absurd says
not_so (Swept vacuum) (life ∷ older) other says = rw (says.3.put, says.3.kill) refl

pub was_not_live : {O Key Recon Cond : Type 0} (past : History O Key Recon Cond) (row : RowAt) → IsLegal past → state_of row past ≢ Live → is_live row past ≡ false
was_not_live {O} {Key} {Recon} {Cond} past row legal other = not_so (state_of row past) (lives row past) other (states_agree O Key Recon Cond past legal row)
