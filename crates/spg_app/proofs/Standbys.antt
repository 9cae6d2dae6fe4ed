-- What the answers of a run with a standby decide.
use Rattle.std.proofs.Common.{◌≡◌, ◌⊎◌, ◌<◌, ◌≤◌, ◌+◌, ◌-◌, inl, inr, ℕ, Bool, true, false, if◌then◌else◌, List, [], ◌++◌, length, take, drop, Option, Some, None, refl, sym, ap, ◌∙◌, subst, arith}
use Rattle.std.specs.List.{AllByRecursion}
use Rattle.std.proofs.lemmas.List.{append_assoc}
use Rattle.std.proofs.Math.Seq.{take-add}
use Rattle.std.proofs.lemmas.Bool.{cases_lt}
use Rattle.spg_io.specs.Causes.{Rose}
use Rattle.spg_opclass.specs.Meaning.{Meaning}
use Rattle.spg_core.specs.Seen.{Seen}
use Rattle.spg_script.specs.declared.sequence.Sequence.{Sequence}
use Rattle.spg_script.specs.Script.{lines_of, IsLaneCommand}
use Rattle.spg_script.specs.Sequences.{IsSequence, CanRunOn, IsFirstForeign}
use Rattle.spg_script.specs.Speech.{Speech}
use Rattle.spg_script.proofs.SequenceLines.{no_sequence}
use Rattle.spg_report.specs.declared.record.Record.{Record}
use Rattle.spg_histories.specs.Ending.{Writing, all_taken, write_failed, memory_wanting, any_outcome, is_fault, is_memory, status_after}
use Rattle.spg_histories.specs.declared.status.Status.{Status}
use Rattle.spg_histories.specs.declared.status.Status.TheVariants.{Done, Usage, BadScript, ReadFault, WriteFault, ImageFault, BadImage, Memory, Full}
use Rattle.spg_mirror.proofs.Faults.{no_faults}
use Rattle.spg_app.specs.declared.end_state.EndState.{EndState}
use Rattle.spg_app.specs.Classes.{class_at, state_of}
use Rattle.spg_app.specs.Standbys.{GaveSequence, IsForeignScript, IsSequenceRefusal, Sunk, RanMirrored, MirroredTo, EndsMirrored, IsMirroring, IsStandbyRun, HoldsSequence, HoldsNoSequence}
use Rattle.spg_app.proofs.Complete.{whole, no_shorter}

-- ---- how a run ends

-- the answer with a state
pub mirrored_ends : (limit lag : ℕ) (s : Sequence) (out : Sunk) (status : Status) (end : EndState) (answer : Option EndState) → answer ≡ Some end → MirroredTo limit lag s out status (state_of end) → EndsMirrored limit lag s out status answer
mirrored_ends limit lag s out status end answer is mirrored = subst (EndsMirrored limit lag s out status) (sym is) mirrored

pub mirrored_ended : (limit lag : ℕ) (left left_after : Option (List ℕ)) (f g : ℕ) (out : Sunk) (s : Sequence) (status : Status) (answer : Option EndState) → GaveSequence left left_after s → g ≡ f → EndsMirrored limit lag s out status answer
    → IsStandbyRun lag limit left left_after f g out status answer
mirrored_ended limit lag left left_after f g out s status (Some end) gave unfailed ends = record { sequence = s; gave = gave; unfailed = unfailed; ends = ends }
mirrored_ended limit lag left left_after f g out s status None gave unfailed ends = (subst (λ (x : Status). IsSequenceRefusal left left_after f g x) (sym ends.0) unfailed, ends.1)

-- ---- commands are done

gave_sequence : (left left_after : Option (List ℕ)) (n : ℕ) → HoldsSequence left → IsForeignScript left left_after n → ⊥
gave_sequence None left_after n holds gave = holds
gave_sequence (Some all) left_after n holds (inl other) = other.none holds.0.0 (subst (λ l. IsSequence l holds.0.0) (whole all left_after other.bytes other.read.0 other.read.1) holds.0.1)
gave_sequence (Some all) left_after n holds (inr more) = omega (arith, no_shorter all left_after more.1.0 more.1.1, more.1.2, holds.1)

sequence_refused : (left left_after : Option (List ℕ)) (f g : ℕ) (status : Status) → IsSequenceRefusal left left_after f g status → HoldsSequence left → (Rose f g → ⊥) → status ≡ Memory
sequence_refused left left_after f g Memory r holds no_fault = refl
sequence_refused left left_after f g (BadScript n) r holds no_fault = absurd (gave_sequence left left_after n holds r)
sequence_refused left left_after f g ReadFault r holds no_fault = absurd (no_fault r)
sequence_refused left left_after f g Done r holds no_fault = absurd r
sequence_refused left left_after f g Usage r holds no_fault = absurd r
sequence_refused left left_after f g WriteFault r holds no_fault = absurd r
sequence_refused left left_after f g ImageFault r holds no_fault = absurd r
sequence_refused left left_after f g (BadImage block reason) r holds no_fault = absurd r
sequence_refused left left_after f g Full r holds no_fault = absurd r

abbrev Decided : Status → Type 0
Decided status = (status ≡ Done) ⊎ (status ≡ Memory)

decided : (writing : Writing) (records : List Record) (f g : ℕ) → (writing ≡ write_failed → Rose f g) → any_outcome is_fault records ≡ false → (Rose f g → ⊥) → Decided (status_after writing records)
decided write_failed records f g cause none no_fault = absurd (no_fault (cause refl))
decided memory_wanting records f g cause none no_fault = inr refl
decided all_taken records f g cause none no_fault = by (any_outcome is_fault records) (any_outcome is_memory records) none
  where
    by : (fault memory : Bool) → fault ≡ false → Decided (if fault then ImageFault else (if memory then Memory else Done))
    by true memory is = absurd (cc)
    by false true is = inr refl
    by false false is = inl refl

ran_decided : {O Key Recon Cond : Type 0} (m : Meaning Key Recon Cond) (speech : Speech Key Cond) (limit lag : ℕ) (s : Sequence) (out : Sunk) (status : Status) (seen : Seen O Key Recon Cond) → AllByRecursion IsLaneCommand s.commands → RanMirrored m speech limit lag s out status seen → (Rose out.faults out.faults_after → ⊥) → Decided status
ran_decided m speech limit lag s out status seen lane ran no_fault =
    subst Decided (sym ran.status_is) (decided ran.writing ran.records out.faults out.faults_after ran.cause (no_faults m speech limit lag s.commands seen ran.records lane ran.mirrored) no_fault)

ends_decided : (limit lag : ℕ) (s : Sequence) (out : Sunk) (status : Status) (end : EndState) → AllByRecursion IsLaneCommand s.commands → MirroredTo limit lag s out status (state_of end) → (Rose out.faults out.faults_after → ⊥) → Decided status
ends_decided limit lag s out status end lane ends no_fault = ran_decided (class_at (state_of end).line).meaning (class_at (state_of end).line).speech limit lag s out status (state_of end).seen lane ends.1 no_fault

pub standby_complete : (lag limit : ℕ) (left left_after : Option (List ℕ)) (f g : ℕ) (out : Sunk) (status : Status) (end : Option EndState) → IsStandbyRun lag limit left left_after f g out status end → HoldsSequence left → (Rose f g → ⊥) → (Rose out.faults out.faults_after → ⊥)
    → (status ≡ Done) ⊎ (status ≡ Memory)
standby_complete lag limit left left_after f g out status (Some end) run holds no_read no_write = ends_decided limit lag run.sequence out status end run.gave.is_script.commands run.ends no_write
standby_complete lag limit left left_after f g out status None (refusal, left_alone) holds no_read no_write = inr (sequence_refused left left_after f g status refusal holds no_read)

-- ---- the first foreign line is one line

CanRunOn-front : (front back : List (List ℕ)) → CanRunOn (front ++ back) → CanRunOn front
CanRunOn-front front back (more, s, are, lane) = (back ++ more, s, rw (append_assoc front back more) at are, lane)

not_earlier : (bytes : List ℕ) (m n : ℕ) → IsFirstForeign bytes m → IsFirstForeign bytes n → m < n → ⊥
not_earlier bytes m n bad later less =
    let there : m ≤ length (lines_of bytes) = omega (arith, later.within) in
    let split : n - 1 ≡ m + (n - 1 - m) = omega arith in
    bad.bad there (CanRunOn-front (take m (lines_of bytes)) (take (n - 1 - m) (drop m (lines_of bytes))) (subst CanRunOn (ap (λ k. take k (lines_of bytes)) split ∙ take-add m (n - 1 - m) (lines_of bytes)) later.before))

one_line : (bytes : List ℕ) (m n : ℕ) → IsFirstForeign bytes m → IsFirstForeign bytes n → m ≡ n
one_line bytes m n bad other = elim (cases_lt m n) [
  | inl less ↦ absurd (not_earlier bytes m n bad other less)
  | inr not_less ↦ elim (cases_lt n m) [ inl more ↦ absurd (not_earlier bytes n m other bad more) | inr not_more ↦ omega arith ]
]

-- ---- what is no script of such commands is refused

same_line : (left left_after : Option (List ℕ)) (m n : ℕ) → HoldsNoSequence left n → IsForeignScript left left_after m → m ≡ n
same_line None left_after m n holds gave = absurd holds
same_line (Some all) left_after m n (inl bad) (inl gave) = one_line all m n (subst (λ l. IsFirstForeign l m) (sym (whole all left_after gave.bytes gave.read.0 gave.read.1)) gave.first_foreign) bad.1
same_line (Some all) left_after m n (inl bad) (inr more) = absurd (omega (arith, no_shorter all left_after more.1.0 more.1.1, more.1.2, bad.0))
same_line (Some all) left_after m n (inr long) (inl gave) = absurd (omega (arith, gave.short, long.0, ap length (whole all left_after gave.bytes gave.read.0 gave.read.1)))
same_line (Some all) left_after m n (inr long) (inr more) = more.0 ∙ sym long.1

line_refused : (left left_after : Option (List ℕ)) (f g : ℕ) (status : Status) (n : ℕ) → IsSequenceRefusal left left_after f g status → HoldsNoSequence left n → (Rose f g → ⊥) → (status ≡ BadScript n) ⊎ (status ≡ Memory)
line_refused left left_after f g Memory n r holds no_fault = inr refl
line_refused left left_after f g (BadScript m) n r holds no_fault = inl (ap (λ k. BadScript k) (same_line left left_after m n holds r))
line_refused left left_after f g ReadFault n r holds no_fault = absurd (no_fault r)
line_refused left left_after f g Done n r holds no_fault = absurd r
line_refused left left_after f g Usage n r holds no_fault = absurd r
line_refused left left_after f g WriteFault n r holds no_fault = absurd r
line_refused left left_after f g ImageFault n r holds no_fault = absurd r
line_refused left left_after f g (BadImage block reason) n r holds no_fault = absurd r
line_refused left left_after f g Full n r holds no_fault = absurd r

none_given : (left left_after : Option (List ℕ)) (n : ℕ) (s : Sequence) → HoldsNoSequence left n → GaveSequence left left_after s → ⊥
none_given None left_after n s holds gave = holds
none_given (Some all) left_after n s (inl bad) gave = no_sequence all n bad.1 s (subst (λ l. IsSequence l s) (sym (whole all left_after gave.bytes gave.read.0 gave.read.1)) gave.is_script)
none_given (Some all) left_after n s (inr long) gave = omega (arith, gave.short, long.0, ap length (whole all left_after gave.bytes gave.read.0 gave.read.1))

pub standby_refused : (lag limit : ℕ) (left left_after : Option (List ℕ)) (f g : ℕ) (out : Sunk) (status : Status) (end : Option EndState) → IsStandbyRun lag limit left left_after f g out status end → (n : ℕ) → HoldsNoSequence left n → (Rose f g → ⊥)
    → (status ≡ BadScript n) ⊎ (status ≡ Memory)
standby_refused lag limit left left_after f g out status (Some end) run n holds no_fault = absurd (none_given left left_after n run.sequence holds run.gave)
standby_refused lag limit left left_after f g out status None (refusal, left_alone) n holds no_fault = line_refused left left_after f g status n refusal holds no_fault
