-- What `standby` says of the commands that a source gave, and of what was done on an index and its standby.
use Rattle.std.specs.Prelude.{◌≡◌, ◌⊎◌, ◌<◌, ◌≤◌, List, ℕ, length, true, Option, Some, None, IsSomeAnd}
use Rattle.spg_io.specs.Causes.{Rose}
use Rattle.spg_opclass.specs.Meaning.{Meaning}
use Rattle.spg_radix.specs.Texts.{is_bytes}
use Rattle.spg_core.specs.Seen.{Seen}
use Rattle.spg_script.specs.declared.sequence.Sequence.{Sequence}
use Rattle.spg_script.specs.Sequences.{IsSequence, IsFirstForeign}
use Rattle.spg_script.specs.Speech.{Speech}
use Rattle.spg_report.specs.declared.record.Record.{Record}
use Rattle.spg_report.specs.Text.{text}
use Rattle.spg_histories.specs.Ending.{Writing, all_taken, write_failed, status_after}
use Rattle.spg_histories.specs.Answer.{Wrote}
use Rattle.spg_histories.specs.Exact.{RunFits}
use Rattle.spg_histories.specs.declared.status.Status.{Status}
use Rattle.spg_histories.specs.declared.status.Status.TheVariants.{Done, Usage, BadScript, ReadFault, WriteFault, ImageFault, BadImage, Memory, Full}
use Rattle.spg_mirror.specs.Mirrored.{commands_tasks, Mirrored}
use Rattle.spg_app.specs.declared.end_state.EndState.{EndState}
use Rattle.spg_app.specs.Classes.{class_at, StateOf, state_of}
use Rattle.spg_app.specs.Ending.{Outlets}
use Rattle.spg_streams.specs.Io.{longest_script, ReadWhole, ReadMore}

-- ---- what the source gave

-- a source gave a script of these commands, of at most 67,108,864 bytes, each below 256, and nothing more
pub record GaveSequence (left left_after : Option (List ℕ)) (s : Sequence) : Type 0 where
  pub bytes : List ℕ
  pub read : ReadWhole left left_after bytes
  pub short : length bytes ≤ longest_script
  pub is_script : IsSequence bytes s
  pub are_bytes : is_bytes bytes ≡ true

-- the bytes that the source gave are no such script, and line `n` is the first at which none can go on
pub record GaveNoSequence (left left_after : Option (List ℕ)) (n : ℕ) : Type 0 where
  pub bytes : List ℕ
  pub read : ReadWhole left left_after bytes
  pub short : length bytes ≤ longest_script
  pub none : (s : Sequence) → IsSequence bytes s → ⊥
  pub first_foreign : IsFirstForeign bytes n

-- it gave no such script of at most 67,108,864 bytes; the number is 0 where it gave more
abbrev pub IsForeignScript : Option (List ℕ) → Option (List ℕ) → ℕ → Type 0
IsForeignScript left left_after n = GaveNoSequence left left_after n ⊎ ((n ≡ 0) × ReadMore left left_after longest_script)

-- why no commands were had of a source; want of memory may come where no read failed
abbrev pub IsSequenceRefusal : (left left_after : Option (List ℕ)) (read_faults read_faults_after : ℕ) → Status → Type 0
IsSequenceRefusal left left_after f f_after ReadFault = Rose f f_after
IsSequenceRefusal left left_after f f_after (BadScript n) = IsForeignScript left left_after n
IsSequenceRefusal left left_after f f_after Memory = f_after ≡ f
IsSequenceRefusal left left_after f f_after Done = ⊥
IsSequenceRefusal left left_after f f_after Usage = ⊥
IsSequenceRefusal left left_after f f_after WriteFault = ⊥
IsSequenceRefusal left left_after f f_after ImageFault = ⊥
IsSequenceRefusal left left_after f f_after (BadImage block reason) = ⊥
IsSequenceRefusal left left_after f f_after Full = ⊥

-- ---- what was done with them

-- what a sink tells before and after
pub record Sunk : Type 0 where
  pub taken : Option (List ℕ)
  pub taken_after : Option (List ℕ)
  pub faults : ℕ
  pub faults_after : ℕ

abbrev pub sunk : Option (List ℕ) → Option (List ℕ) → ℕ → ℕ → Sunk
sunk taken taken_after f f_after = record { taken = taken; taken_after = taken_after; faults = f; faults_after = f_after }

-- The commands were done on a new index of this limit, whose finds a standby answered that is so many records behind at most, and led to this state of the primary. The sink took the text of the run, or a
-- front of it where it failed or memory was wanting; the status is the first that applies
pub record RanMirrored {O Key Recon Cond : Type 0} (m : Meaning Key Recon Cond) (speech : Speech Key Cond) (limit lag : ℕ) (s : Sequence) (out : Sunk) (status : Status) (seen : Seen O Key Recon Cond) : Type 0 where
  pub records : List Record
  pub mirrored : Mirrored m speech limit lag (commands_tasks 0 s.commands) seen records
  pub writing : Writing
  pub wrote : Wrote writing out.taken out.taken_after (text speech seen.journal records)
  -- numbers of a text that was taken whole fit their types
  pub fits : writing ≡ all_taken → RunFits seen.journal records
  pub cause : writing ≡ write_failed → Rose out.faults out.faults_after
  pub status_is : status ≡ status_after writing records

-- the same of a state handed back: of the class that the script's line names
abbrev pub MirroredTo : ℕ → ℕ → Sequence → Sunk → Status → StateOf → Type 0
MirroredTo limit lag s out status end = (s.class ≡ end.line) × RanMirrored (class_at end.line).meaning (class_at end.line).speech limit lag s out status end.seen

-- no state is handed back where memory was wanting before the first command; nothing was written then
abbrev pub EndsMirrored : ℕ → ℕ → Sequence → Sunk → Status → Option EndState → Type 0
EndsMirrored limit lag s out status (Some end) = MirroredTo limit lag s out status (state_of end)
EndsMirrored limit lag s out status None = (status ≡ Memory) × (out.taken_after ≡ out.taken)

-- the source gave these commands, where no read failed, and they were done
pub record IsMirroring (limit lag : ℕ) (left left_after : Option (List ℕ)) (read_faults read_faults_after : ℕ) (out : Sunk) (status : Status) (end : EndState) : Type 0 where
  pub sequence : Sequence
  pub gave : GaveSequence left left_after sequence
  pub unfailed : read_faults_after ≡ read_faults
  pub ends : MirroredTo limit lag sequence out status (state_of end)

-- what is said of a run with a standby: of its commands where a state is handed back, else why there were none; nothing was written then
abbrev pub IsStandbyRun : (lag limit : ℕ) (left left_after : Option (List ℕ)) (read_faults read_faults_after : ℕ) → Sunk → Status → Option EndState → Type 0
IsStandbyRun lag limit left left_after f f_after out status (Some end) = IsMirroring limit lag left left_after f f_after out status end
IsStandbyRun lag limit left left_after f f_after out status None = IsSequenceRefusal left left_after f f_after status × (out.taken_after ≡ out.taken)

-- ---- what a source holds

-- the source holds a script of such commands that is not too long
abbrev pub HoldsSequence : Option (List ℕ) → Type 0
HoldsSequence left = IsSomeAnd left (λ bytes. ((s : Sequence) × IsSequence bytes s) × (length bytes ≤ longest_script))

-- it holds bytes that are no such script, which this line is the first to show, or more than 67,108,864 bytes, where it is 0
abbrev pub HoldsNoSequence : Option (List ℕ) → ℕ → Type 0
HoldsNoSequence left n = IsSomeAnd left (λ bytes. ((length bytes ≤ longest_script) × IsFirstForeign bytes n) ⊎ ((longest_script < length bytes) × (n ≡ 0)))
