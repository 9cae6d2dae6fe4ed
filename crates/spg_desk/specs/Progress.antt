-- When a call goes on: only where a section of its seat was done, another seat holds the block, or what the class was asked of is not what stands there any more.
use Rattle.std.specs.Prelude.{◌≡◌, ◌⊎◌, ℕ, [], Option, Some, None, ⊤}
use Rattle.spg_opclass.specs.Meaning.{Meaning}
use Rattle.spg_opclass.specs.Copies.{RestsAt}
use Rattle.spg_opclass.specs.declared.copied.Copied.{Copied}
use Rattle.spg_scan.specs.declared.scan_copy.ScanCopy.{ScanCopy}
use Rattle.spg_scan.specs.declared.scan_copy.ScanCopy.TheVariants as copies
use Rattle.spg_core.specs.declared.answer.InsertOut.{InsertOut}
use Rattle.spg_core.specs.declared.answer.VacuumOut.{VacuumOut}
use Rattle.spg_core.specs.declared.answer.VacuumOut.TheVariants as works
use Rattle.spg_tree.specs.declared.stand.StepRefused.{StepRefused}
use Rattle.spg_tree.specs.declared.stand.StepRefused.TheVariants as steps
use Rattle.spg_core.specs.declared.look.ApplyRefused.{ApplyRefused}
use Rattle.spg_core.specs.declared.look.ApplyRefused.TheVariants as refused
use Rattle.spg_core.specs.Seen.{Seen, stage_at}
use Rattle.spg_core.specs.Sections.{StepsVacuum}
use Rattle.spg_core.specs.Looking.{IsSpotted, IsBunch, StepsInsert, CopiesItem, SiftsItem, KeptIn}
use Rattle.spg_desk.specs.declared.ended.Ended.{Ended}
use Rattle.spg_desk.specs.declared.ended.Ended.TheVariants as ended
use Rattle.spg_desk.specs.declared.ended.Looked.{Looked}
use Rattle.spg_desk.specs.declared.ended.Looked.TheVariants as looked
use Rattle.spg_desk.specs.declared.ended.Read.{Read}
use Rattle.spg_desk.specs.declared.ended.Read.TheVariants as read
use Rattle.spg_desk.specs.declared.ended.Swept.{Swept}
use Rattle.spg_desk.specs.declared.ended.Swept.TheVariants as swept
use Rattle.spg_desk.specs.Acting.{ended_of}

-- how an insert ends of which a section is refused so
abbrev pub step_end : StepRefused → Ended
step_end steps.IndexFull = ended.Full
step_end steps.ClockFull = ended.Clock
step_end steps.Memory = ended.Refused

-- how one ends that is refused so: one that was changed meanwhile goes on
abbrev pub refused_end : ApplyRefused → Option Ended
refused_end refused.Changed = None
refused_end refused.IndexFull = Some ended.Full
refused_end refused.ClockFull = Some ended.Clock
refused_end refused.Memory = Some ended.Refused

-- a scan has read the item, or another seat holds its block
abbrev pub IsReadOn : {O Key Recon Cond : Type 0} → ScanCopy O Key Recon Cond → Type 0
IsReadOn copies.Read = ⊤
IsReadOn (copies.Latched block by) = ⊤
IsReadOn (copies.Sift copied) = ⊥

-- a vacuum has handled a block or a place, or another seat holds the block
abbrev pub IsSweptOn : VacuumOut → Type 0
IsSweptOn works.Block = ⊤
IsSweptOn works.Pending = ⊤
IsSweptOn (works.Latched block by) = ⊤
IsSweptOn (works.Finished swept) = ⊥

module _ {O Key Recon Cond : Type 0} (m : Meaning Key Recon Cond) (old new : Seen O Key Recon Cond) (seat : ℕ) where
  -- a section of the seat's insert was done, and its row is not put
  abbrev pub HasStepped : Type 0
  HasStepped = (out : InsertOut) × (ended_of out ≡ None) × StepsInsert m old new seat out

  -- an insert goes on only so, or where this, by which it should have gone on, does not hold
  abbrev pub GoesOn : Type 0 → Option Ended → Type 0
  GoesOn Asked None = HasStepped ⊎ (Asked → ⊥)
  GoesOn Asked (Some e) = ⊤

  -- the class would be asked to divide no values
  abbrev pub IsOfNone : Type 0
  IsOfNone = (bunch : RestsAt Recon) × IsBunch old seat bunch × (bunch.rests ≡ [])

  -- a look at an insert gives the copy that the class is asked of, or a section was done of which it has no say
  abbrev pub LooksOn : Looked O Key Recon Cond → Type 0
  LooksOn (looked.Stepped None) = HasStepped ⊎ IsOfNone
  LooksOn (looked.Stepped (Some e)) = ⊤
  LooksOn (looked.Choose spotted) = (new ≡ old) × IsSpotted old seat spotted
  LooksOn (looked.Part bunch) = (new ≡ old) × IsBunch old seat bunch

  -- a scan goes on where an item was read or copied, or another seat holds its block
  abbrev pub ReadsOn : Read O Key Recon Cond → Type 0
  ReadsOn read.On = (item : ℕ) × (out : ScanCopy O Key Recon Cond) × CopiesItem m old new seat item out × IsReadOn out
  ReadsOn (read.Sift item copied) = CopiesItem m old new seat item (copies.Sift copied)
  ReadsOn (read.Closed rows) = ⊤
  ReadsOn read.Refused = ⊤

  -- or where what was sifted was taken in, or is not its copy any more
  abbrev pub SiftsOn : ℕ → Copied O Key Recon Cond → Read O Key Recon Cond → Type 0
  SiftsOn item sifted read.On = SiftsItem m old new seat item sifted ⊎ (KeptIn (stage_at old seat) item sifted → ⊥)
  SiftsOn item sifted (read.Sift other copied) = ⊥
  SiftsOn item sifted (read.Closed rows) = ⊥
  SiftsOn item sifted read.Refused = ⊤

module _ {O Key Recon Cond : Type 0} (old new : Seen O Key Recon Cond) (seat : ℕ) where
  -- a vacuum goes on where it did a section that did not end it, or another seat holds the block
  abbrev pub SweepsOn : Swept → Type 0
  SweepsOn swept.On = (out : VacuumOut) × StepsVacuum old new seat out × IsSweptOn out
  SweepsOn (swept.Closed count) = StepsVacuum old new seat (works.Finished count)
  SweepsOn swept.Refused = ⊤
