-- What each answer of the program says of what was read, done and written.
use Rattle.std.specs.Prelude.{◌≡◌, ◌⊎◌, ◌<◌, ◌≤◌, List, ℕ, length, true, Option, Some, None, IsSomeAnd, ⊤}
use Rattle.spg_opclass.specs.Meaning.{Meaning}
use Rattle.spg_radix.specs.Texts.{is_bytes}
use Rattle.spg_core.specs.Seen.{Seen}
use Rattle.spg_io.specs.Causes.{Rose}
use Rattle.spg_io.specs.Held.{Holding}
use Rattle.spg_clauses.specs.declared.reason.Fault.{Fault}
use Rattle.spg_tree.specs.Table.{Table}
use Rattle.spg_verify.specs.Verdict.{IsGood}
use Rattle.spg_verify.specs.declared.reading.Verified.{Verified}
use Rattle.spg_image.specs.Verifying.{IsImageOf, IsBadImage}
use Rattle.spg_script.specs.declared.class_line.ClassLine.{ClassLine}
use Rattle.spg_script.specs.Blocks.{Script}
use Rattle.spg_script.specs.Speech.{Speech}
use Rattle.spg_script.specs.Script.{IsScript, IsFirstBad}
use Rattle.spg_words.specs.declared.load.Load.{Load}
use Rattle.spg_words.specs.Lines.{IsRunLine, IsCheckLine, IsLoadLine, IsBuildLine, IsStandbyLine}
use Rattle.spg_histories.specs.declared.status.Status.{Status}
use Rattle.spg_histories.specs.declared.status.Status.TheVariants.{Done, Usage, BadScript, ReadFault, WriteFault, ImageFault, BadImage, Memory, Full}
use Rattle.spg_app.specs.declared.end_state.EndState.{EndState}
use Rattle.spg_app.specs.Classes.{class_at, StateOf, state_of}
use Rattle.spg_app.specs.Beginning.{IsImageRefusal, FailsAs}
use Rattle.spg_app.specs.Checks.{IsChecked}
use Rattle.spg_app.specs.Ending.{Outlets, LeftAlone, Unwritten, RanCommands}
use Rattle.spg_streams.specs.Io.{longest_script, ReadWhole, ReadMore}
use Rattle.spg_app.specs.Loads.{IsGen}
use Rattle.spg_app.specs.Builds.{IsBuildOf}
use Rattle.spg_app.specs.Standbys.{sunk, IsStandbyRun}

-- what a source tells before and after
pub record Streams : Type 0 where
  pub left : Option (List ℕ)
  pub left_after : Option (List ℕ)
  pub read_faults : ℕ
  pub read_faults_after : ℕ

abbrev pub streams : Option (List ℕ) → Option (List ℕ) → ℕ → ℕ → Streams
streams left left_after f f_after = record { left = left; left_after = left_after; read_faults = f; read_faults_after = f_after }

-- a source gave a script of at most 67,108,864 bytes, each below 256, and nothing more
pub record GaveScript (left left_after : Option (List ℕ)) (script : Script) : Type 0 where
  pub bytes : List ℕ
  pub read : ReadWhole left left_after bytes
  pub short : length bytes ≤ longest_script
  pub is_script : IsScript bytes script
  pub are_bytes : is_bytes bytes ≡ true

-- the source gave a script of this class, and its commands were done
pub record Ran {O Key Recon Cond : Type 0} (m : Meaning Key Recon Cond) (speech : Speech Key Cond) (code limit : ℕ) (from : Option (List ℕ)) (class : ClassLine) (io : Streams) (out : Outlets) (status : Status) (seen : Seen O Key Recon Cond) : Type 0 where
  pub script : Script
  pub gave : GaveScript io.left io.left_after script
  pub unfailed : io.read_faults_after ≡ io.read_faults
  pub of_class : script.class ≡ class
  pub run : RanCommands m speech code limit from script out status seen

-- the same of a state handed back: of the class that the script's line names
abbrev pub RanTo : ℕ → Option (List ℕ) → Streams → Outlets → Status → StateOf → Type 0
RanTo limit from io out status end = Ran (class_at end.line).meaning (class_at end.line).speech (class_at end.line).code limit from end.line io out status end.seen

abbrev pub EndsRun : ℕ → Option (List ℕ) → Streams → Outlets → Status → EndState → Type 0
EndsRun limit from io out status end = RanTo limit from io out status (state_of end)

-- the bytes that the source gave are no script, and line `n` is the first bad one
pub record GaveNoScript (left left_after : Option (List ℕ)) (n : ℕ) : Type 0 where
  pub bytes : List ℕ
  pub read : ReadWhole left left_after bytes
  pub short : length bytes ≤ longest_script
  pub none : (script : Script) → IsScript bytes script → ⊥
  pub first_bad : IsFirstBad bytes n

-- it gave no script of at most 67,108,864 bytes; the number is 0 where it gave more
abbrev pub IsBadScript : Option (List ℕ) → Option (List ℕ) → ℕ → Type 0
IsBadScript left left_after n = GaveNoScript left left_after n ⊎ ((n ≡ 0) × ReadMore left left_after longest_script)

-- why no script was had of a source; want of memory may come where no read failed
abbrev pub IsRefusal : (left left_after : Option (List ℕ)) (read_faults read_faults_after : ℕ) → Status → Type 0
IsRefusal left left_after f f_after ReadFault = Rose f f_after
IsRefusal left left_after f f_after (BadScript n) = IsBadScript left left_after n
IsRefusal left left_after f f_after Memory = f_after ≡ f
IsRefusal left left_after f f_after Done = ⊥
IsRefusal left left_after f f_after Usage = ⊥
IsRefusal left left_after f f_after WriteFault = ⊥
IsRefusal left left_after f f_after ImageFault = ⊥
IsRefusal left left_after f f_after Full = ⊥
IsRefusal left left_after f f_after (BadImage block reason) = ⊥

-- this is the first clause that an image of the class fails
abbrev pub FailsFor : ClassLine → ℕ → Option (List ℕ) → Fault → Type 0
FailsFor line limit bytes f = FailsAs (class_at line).meaning (class_at line).code limit bytes f

-- the source gave a script, where no read failed, and its commands did not begin: the image of the name was refused, or memory was wanting; nothing was written
pub record IsStopped (limit : ℕ) (name : List ℕ) (io : Streams) (out : Outlets) (status : Status) : Type 0 where
  pub script : Script
  pub gave : GaveScript io.left io.left_after script
  pub unfailed : io.read_faults_after ≡ io.read_faults
  pub refusal : IsImageRefusal (FailsFor script.class limit) name out.images out.images_after status
  pub left : Unwritten (Some name) out

abbrev pub IsStoppedRun : ℕ → Option (List ℕ) → Streams → Outlets → Status → Type 0
IsStoppedRun limit None io out status = ⊥
IsStoppedRun limit (Some name) io out status = IsStopped limit name io out status

-- what is said of a run: of its commands where a state is handed back, else why there were none; nothing was written then
abbrev pub IsRun : ℕ → Option (List ℕ) → Streams → Outlets → Status → Option EndState → Type 0
IsRun limit from io out status (Some end) = EndsRun limit from io out status end
IsRun limit from io out status None = (IsRefusal io.left io.left_after io.read_faults io.read_faults_after status × LeftAlone out) ⊎ IsStoppedRun limit from io out status

-- the words are no line that the program knows, and nothing was read or written
pub record IsUsage (words : List (List ℕ)) (io : Streams) (out : Outlets) (status : Status) (end : Option EndState) : Type 0 where
  pub status_is : status ≡ Usage
  pub none : end ≡ None
  pub no_run : (limit : ℕ) (from : Option (List ℕ)) → IsRunLine limit from words → ⊥
  pub no_check : (name : List ℕ) → IsCheckLine name words → ⊥
  pub no_load : (load : Load) → IsLoadLine load words → ⊥
  pub no_build : (name : List ℕ) (workers : ℕ) → IsBuildLine name workers words → ⊥
  pub no_standby : (lag limit : ℕ) → IsStandbyLine lag limit words → ⊥
  pub unread : (io.left_after ≡ io.left) × (io.read_faults_after ≡ io.read_faults)
  pub left_alone : LeftAlone out

-- the words ask for a generated load, whose script was run; nothing was read
pub record IsLoaded (words : List (List ℕ)) (io : Streams) (out : Outlets) (status : Status) (end : Option EndState) : Type 0 where
  pub load : Load
  pub asked : IsLoadLine load words
  pub unread : (io.left_after ≡ io.left) × (io.read_faults_after ≡ io.read_faults)
  pub run : IsGen load out status end

-- the words ask to check an image; no script was read
pub record IsCheck (words : List (List ℕ)) (io : Streams) (out : Outlets) (status : Status) (end : Option EndState) : Type 0 where
  pub name : List ℕ
  pub asked : IsCheckLine name words
  pub none : end ≡ None
  pub unread : (io.left_after ≡ io.left) × (io.read_faults_after ≡ io.read_faults)
  pub checked : IsChecked name out status

-- the words ask to build an image of the inserts of the source
pub record IsBuild (words : List (List ℕ)) (io : Streams) (out : Outlets) (status : Status) (end : Option EndState) : Type 0 where
  pub name : List ℕ
  pub workers : ℕ
  pub asked : IsBuildLine name workers words
  pub none : end ≡ None
  pub run : IsBuildOf name io.left io.left_after io.read_faults io.read_faults_after out status

-- the words ask to do the commands of the source on an index with a standby; the images are as they were
pub record IsStandby (words : List (List ℕ)) (io : Streams) (out : Outlets) (status : Status) (end : Option EndState) : Type 0 where
  pub lag : ℕ
  pub limit : ℕ
  pub asked : IsStandbyLine lag limit words
  pub images : out.images_after ≡ out.images
  pub run : IsStandbyRun lag limit io.left io.left_after io.read_faults io.read_faults_after (sunk out.taken out.taken_after out.write_faults out.write_faults_after) status end

-- the words ask to run the script of the source
abbrev pub IsRunOf : List (List ℕ) → Streams → Outlets → Status → Option EndState → Type 0
IsRunOf words io out status end = (limit : ℕ) × (from : Option (List ℕ)) × IsRunLine limit from words × IsRun limit from io out status end

-- what each answer says
abbrev pub IsAnswer : List (List ℕ) → Streams → Outlets → Status → Option EndState → Type 0
IsAnswer words io out status end = ((IsUsage words io out status end ⊎ IsRunOf words io out status end) ⊎ (IsLoaded words io out status end ⊎ IsCheck words io out status end)) ⊎ (IsBuild words io out status end ⊎ IsStandby words io out status end)

-- the source holds a script that is not too long, of which this is true
abbrev pub HoldsScript : Option (List ℕ) → (Script → Type 0) → Type 0
HoldsScript left P = IsSomeAnd left (λ bytes. ((script : Script) × IsScript bytes script × P script) × (length bytes ≤ longest_script))

-- the bytes are an image of the class that fails no clause
abbrev pub IsGoodFor : ClassLine → ℕ → Option (List ℕ) → Type 0
IsGoodFor line limit bytes = (t : Table) × IsGood (class_at line).meaning (class_at line).code limit bytes t

-- where the run begins with an image, the images tell that it is one of the script's class
abbrev pub HoldsImageFor : ℕ → Option (List ℕ) → Option Holding → Script → Type 0
HoldsImageFor limit None held script = ⊤
HoldsImageFor limit (Some name) held script = IsSomeAnd held (λ (h : Holding). IsGoodFor script.class limit (h name))

-- the images tell that this is the first clause that what they hold under the name fails
abbrev pub HoldsNoImageFor : ℕ → List ℕ → Option Holding → Fault → Script → Type 0
HoldsNoImageFor limit name held f script = IsSomeAnd held (λ (h : Holding). FailsFor script.class limit (h name) f)

-- the same, whatever the class of the image
abbrev pub HoldsImage : List ℕ → Option Holding → Type 0
HoldsImage name held = IsSomeAnd held (λ (h : Holding). (v : Verified) × IsImageOf (h name) v)

abbrev pub HoldsNoImage : List ℕ → Option Holding → Fault → Type 0
HoldsNoImage name held f = IsSomeAnd held (λ (h : Holding). IsBadImage (h name) f)

-- the source holds bytes that are no script, with this first bad line, or more than 67,108,864 bytes, where it is 0
abbrev pub HoldsNoScript : Option (List ℕ) → ℕ → Type 0
HoldsNoScript left n = IsSomeAnd left (λ bytes. ((length bytes ≤ longest_script) × IsFirstBad bytes n) ⊎ ((longest_script < length bytes) × (n ≡ 0)))

-- no call on the source, the sink and the images failed
pub record NoFault (io : Streams) (out : Outlets) : Type 0 where
  pub reading : Rose io.read_faults io.read_faults_after → ⊥
  pub writing : Rose out.write_faults out.write_faults_after → ⊥
  pub saving : Rose out.images.faults out.images_after.faults → ⊥
