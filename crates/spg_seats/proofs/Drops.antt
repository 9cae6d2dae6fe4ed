-- The pages show the cause of each insert that was given up.
use Rattle.std.proofs.Common.{◌≡◌, ◌≤◌, ℕ, List, [], ◌∷◌, ◌++◌, length, ap, arith}
use Rattle.spg_base.specs.Row.{RowAt}
use Rattle.spg_forest.specs.Sheets.{Sheets}
use Rattle.spg_rows.specs.declared.event.Event.{Event}
use Rattle.spg_rows.specs.declared.event.Event.TheVariants.{OpenInsert, Put, Drop, Kill, OpenScan, CloseScan, OpenVacuum, Sweep, CloseVacuum, Leave}
use Rattle.spg_rows.specs.declared.event.Why.TheVariants as cause
use Rattle.spg_rows.specs.History.{History}
use Rattle.spg_tree.specs.Table.{Table, sheets_of}
use Rattle.spg_seats.specs.Opening.{sweeps}
use Rattle.spg_seats.specs.Drops.{HaveCauses, HasCause}

module _ {O Key Recon Cond : Type 0} where
  -- no page fewer, no clock behind
  pub causes_grow : (past : History O Key Recon Cond) (t t2 : Table) → t2.limit ≡ t.limit → length t.pages ≤ length t2.pages → t.clock ≤ t2.clock → HaveCauses past t → HaveCauses past t2
  causes_grow past t t2 limit pages clock H = record { full = λ h. omega (arith, H.full h); clock = λ h. omega (arith, H.clock h) }

  pub causes_same : (past : History O Key Recon Cond) (t t2 : Table) → t2.limit ≡ t.limit → sheets_of t2 ≡ sheets_of t → HaveCauses past t → HaveCauses past t2
  causes_same past t t2 limit same H =
      let count : length t2.pages ≡ length t.pages = ap (λ (S : Sheets). length S.sheets) same in
      let clock : t2.clock ≡ t.clock = ap (λ (S : Sheets). S.clock) same in
      causes_grow past t t2 limit (omega arith) (omega arith) H

  -- an event with its cause
  pub causes_event : (past : History O Key Recon Cond) (t : Table) (e : Event O Key Recon Cond) → HasCause t e → HaveCauses past t → HaveCauses (e ∷ past) t
  causes_event past t (OpenInsert seat row key) may H = record { full = H.full; clock = H.clock }
  causes_event past t (Put seat row) may H = record { full = H.full; clock = H.clock }
  causes_event past t (Drop seat row cause.Given) may H = record { full = H.full; clock = H.clock }
  causes_event past t (Drop seat row cause.Full) may H = record { full = λ h. may; clock = H.clock }
  causes_event past t (Drop seat row cause.Clock) may H = record { full = H.full; clock = λ h. omega arith }
  causes_event past t (Kill seat row) may H = record { full = H.full; clock = H.clock }
  causes_event past t (OpenScan seat query) may H = record { full = H.full; clock = H.clock }
  causes_event past t (CloseScan seat rows) may H = record { full = H.full; clock = H.clock }
  causes_event past t (OpenVacuum seat) may H = record { full = H.full; clock = H.clock }
  causes_event past t (Sweep seat row) may H = record { full = H.full; clock = H.clock }
  causes_event past t (CloseVacuum seat swept) may H = record { full = H.full; clock = H.clock }
  causes_event past t (Leave seat) may H = record { full = H.full; clock = H.clock }

  pub causes_sweeps : (past : History O Key Recon Cond) (t : Table) (seat : ℕ) (xs : List RowAt) → HaveCauses past t → HaveCauses (sweeps seat xs ++ past) t
  causes_sweeps past t seat [] H = H
  causes_sweeps past t seat (row ∷ xs) H = causes_event (sweeps seat xs ++ past) t (Sweep seat row) tt (causes_sweeps past t seat xs H)
