-- What the bounds on inserts say of the records of a run.
use Rattle.std.proofs.Common.{◌≡◌, ℕ, List, subst}
use Rattle.std.specs.List.{AllByRecursion, AllZip}
use Rattle.spg_base.specs.declared.recorded.Origin.{Origin}
use Rattle.spg_opclass.specs.Meaning.{Meaning}
use Rattle.spg_rows.specs.declared.entry.Entry.{Entry}
use Rattle.spg_bounds.specs.Bounds.{DropsAreLate}
use Rattle.spg_core.specs.Seen.{Seen, past_of}
use Rattle.spg_core.specs.Calls.{IsWhole}
use Rattle.spg_script.specs.Speech.{Speech}
use Rattle.spg_report.specs.declared.record.Record.{Record}
use Rattle.spg_histories.specs.Tasks.{Task}
use Rattle.spg_loads.specs.Late.{IsLateIn, IsSureIn}
use Rattle.spg_loads.proofs.Late.{late_says}
use Rattle.spg_loads.proofs.Sure.{sure_says}
use Rattle.spg_perform.specs.Session.{Outside, Session}

-- a whole state gave up no insert early
pub late_of : {O Key Recon Cond : Type 0} (m : Meaning Key Recon Cond) (seen : Seen O Key Recon Cond) → IsWhole m seen → DropsAreLate seen.origin (past_of seen)
late_of {O} {Key} {Recon} {Cond} m seen whole = subst (λ (n : Seen O Key Recon Cond). DropsAreLate n.origin (past_of n)) whole.1 whole.3.drops

module _ {O Key Recon Cond : Type 0} (m : Meaning Key Recon Cond) (speech : Speech Key Cond) (code : ℕ) (loaded : List (Entry Key)) (origin : Origin) (start now : Outside) (tasks : List Task) (seen : Seen O Key Recon Cond) (records : List Record)
    (whole : IsWhole m seen) (session : Session m speech code loaded origin start now tasks seen records) where
  drops : DropsAreLate origin (past_of seen)
  drops = subst (λ (o : Origin). DropsAreLate o (past_of seen)) session.made (late_of m seen whole)

  pub late_records : AllByRecursion (IsLateIn origin seen.journal) records
  late_records = late_says O Key Recon Cond speech origin seen.journal tasks records drops session.run.each

  pub sure_records : AllZip (IsSureIn origin seen.journal) tasks records
  sure_records = sure_says O Key Recon Cond speech origin seen.journal tasks records drops session.run.each
