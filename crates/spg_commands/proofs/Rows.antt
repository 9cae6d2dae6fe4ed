-- Whether the row of a command was claimed, or live, where it began.
use Rattle.std.proofs.Common.{◌≡◌, ◌≢◌, ℕ, true, false, List, [], ◌∷◌, ◌++◌, reverse, Option, refl, ap, ◌∙◌, subst}
use Rattle.std.proofs.lemmas.List.{reverse-append}
use Rattle.spg_base.specs.Row.{RowAt}
use Rattle.spg_opclass.specs.Meaning.{Meaning}
use Rattle.spg_rows.specs.declared.event.Event.{Event}
use Rattle.spg_rows.specs.declared.event.Event.TheVariants.{OpenInsert}
use Rattle.spg_rows.specs.declared.table.RowState.{RowState}
use Rattle.spg_rows.specs.declared.table.RowState.TheVariants.{Free, Claimed, Live, Killed, Swept}
use Rattle.spg_rows.specs.Legal.{IsLegal}
use Rattle.spg_rows.specs.Lives.{Life, lives}
use Rattle.spg_rows.specs.Right.{Right}
use Rattle.spg_rows.specs.Rows.{is_claimed, is_live, live_in, state_of}
use Rattle.spg_rows.specs.States.{StateSays}
use Rattle.spg_rows.proofs.Histories.{states_agree}

-- an insert opened only where the row was not claimed
pub unclaimed : {O Key Recon Cond : Type 0} (m : Meaning Key Recon Cond) (old new : List (Event O Key Recon Cond)) (seat : ℕ) (row : RowAt) (key : Option Key) (last : Event O Key Recon Cond) → new ≡ old ++ OpenInsert seat row key ∷ last ∷ [] → Right m new → is_claimed row (reverse old) ≡ false
unclaimed {O} {Key} {Recon} {Cond} m old new seat row key last is right =
    let legal : IsLegal (last ∷ OpenInsert seat row key ∷ reverse old) = subst IsLegal (ap reverse is ∙ reverse-append old (OpenInsert seat row key ∷ last ∷ [])) right.legal in
    legal.1.0.1

live_so : {Key : Type 0} (past : List (Life Key)) → StateSays Live past → live_in past ≡ true
live_so [] says = absurd says
live_so (life ∷ older) says = rw (says.1.put, says.1.kill) refl

not_so : {Key : Type 0} (state : RowState) (past : List (Life Key)) → state ≢ Live → StateSays state past → live_in past ≡ false
not_so Free [] other says = refl
not_so Free (life ∷ older) other says = rw says.put refl
not_so Claimed [] other says = absurd says
not_so Claimed (life ∷ older) other says = rw says.put refl
not_so Live past other says = absurd (other refl)
not_so (Killed at) [] other says = absurd says
not_so (Killed at) (life ∷ older) other says = rw (says.1.put, says.1.kill) refl
not_so (Swept vacuum) [] other says = absurd says
not_so (Swept vacuum) (life ∷ older) other says = rw (says.3.put, says.3.kill) refl

-- a row is live exactly where its state is
module _ {O Key Recon Cond : Type 0} (m : Meaning Key Recon Cond) (journal : List (Event O Key Recon Cond)) (row : RowAt) (right : Right m journal) where
  pub was_live : state_of row (reverse journal) ≡ Live → is_live row (reverse journal) ≡ true
  was_live is = live_so (lives row (reverse journal)) (subst (λ (s : RowState). StateSays s (lives row (reverse journal))) is (states_agree O Key Recon Cond (reverse journal) right.legal row))

  pub was_not_live : state_of row (reverse journal) ≢ Live → is_live row (reverse journal) ≡ false
  was_not_live other = not_so (state_of row (reverse journal)) (lives row (reverse journal)) other (states_agree O Key Recon Cond (reverse journal) right.legal row)
