-- With what the commands of a run begin, and why they do not.
use Rattle.std.specs.Prelude.{◌≡◌, ◌≤◌, ℕ, false, List, [], Option, Some, None, Result, IfOk, IfErr, OnOk}
use Rattle.spg_base.specs.declared.recorded.Origin.{Origin}
use Rattle.spg_io.specs.Held.{Holding, Holds, Stays}
use Rattle.spg_io.specs.Causes.{Rose}
use Rattle.spg_opclass.specs.Meaning.{Meaning}
use Rattle.spg_forest.specs.Shape.{Shape}
use Rattle.spg_tree.specs.Table.{Table, sheets_of}
use Rattle.spg_rows.specs.declared.entry.Entry.{Entry}
use Rattle.spg_rows.specs.Loads.{load_events}
use Rattle.spg_keys.specs.declared.listing.Listed.{Listed}
use Rattle.spg_verdict.specs.Entries.{entries_of, AreEntries}
use Rattle.spg_clauses.specs.declared.reason.Fault.{Fault}
use Rattle.spg_verify.specs.Verdict.{Spells, FailsFirst}
use Rattle.spg_verify.specs.declared.refused.ImageRefused.{ImageRefused}
use Rattle.spg_verify.specs.declared.refused.ImageRefused.TheVariants as refused
use Rattle.spg_core.specs.Seen.{Seen, past_of}
use Rattle.spg_core.specs.Loading.{origin_of}
use Rattle.spg_histories.specs.declared.status.Status.{Status}
use Rattle.spg_histories.specs.declared.status.Status.TheVariants.{Done, Usage, BadScript, ReadFault, WriteFault, ImageFault, BadImage, Memory, Full}
use Rattle.spg_perform.specs.Session.{Outside, AllClosed}

abbrev pub outside : Option Holding → ℕ → Outside
outside held faults = record { held = held; faults = faults }

-- with what a new state is made
abbrev pub made_with : ℕ → Origin
made_with limit = record { limit = limit; pages = 3; clock = 0; loaded = false }

-- The entries and the numbers of well formed pages, the entries in order of block and offset. Where the images tell what the name holds, its bytes spell these pages; the limit is then the greater of this one and their number
pub record BeginsLoaded {Key Recon Cond : Type 0} (m : Meaning Key Recon Cond) (code limit : ℕ) (held : Option Holding) (name : List ℕ) (loaded : List (Entry Key)) (origin : Origin) : Type 0 where
  pub table : Table
  pub spelled : Holds held name (λ bytes. Spells m code limit bytes table)
  pub shape : Shape m (sheets_of table)
  pub listed : List (Listed Key)
  pub exact : AreEntries m (sheets_of table) listed
  pub entries : loaded ≡ entries_of listed
  pub numbers : origin ≡ origin_of table

-- without a name the state is new; with one it is that of the image
abbrev pub Begins : {Key Recon Cond : Type 0} → Meaning Key Recon Cond → ℕ → ℕ → Option (List ℕ) → Option Holding → List (Entry Key) → Origin → Type 0
Begins m code limit None held loaded origin = (loaded ≡ []) × (origin ≡ made_with limit)
Begins m code limit (Some name) held loaded origin = BeginsLoaded m code limit held name loaded origin

-- a state with which the commands begin: its journal is that of the load
pub record IsBegun {O Key Recon Cond : Type 0} (m : Meaning Key Recon Cond) (code limit : ℕ) (from : Option (List ℕ)) (held : Option Holding) (seen : Seen O Key Recon Cond) : Type 0 where
  pub loaded : List (Entry Key)
  pub journal : seen.journal ≡ load_events loaded
  pub begins : Begins m code limit from held loaded seen.origin

-- ---- where they do not begin

-- the status of a refused image
abbrev pub status_of : ImageRefused → Status
status_of (refused.BadImage block reason) = BadImage block reason
status_of refused.ImageFault = ImageFault
status_of refused.Memory = Memory

-- Why the image under a name was not taken: a call on the images failed, or it fails a clause, where the images tell it; want of memory may come where no call failed
abbrev pub IsImageRefusal : (Option (List ℕ) → Fault → Type 0) → List ℕ → Outside → Outside → Status → Type 0
IsImageRefusal fails name old now (BadImage block reason) = Holds old.held name (λ bytes. fails bytes (record { block = block; reason = reason }))
IsImageRefusal fails name old now ImageFault = Rose old.faults now.faults
IsImageRefusal fails name old now Memory = now.faults ≡ old.faults
IsImageRefusal fails name old now Done = ⊥
IsImageRefusal fails name old now Usage = ⊥
IsImageRefusal fails name old now (BadScript n) = ⊥
IsImageRefusal fails name old now ReadFault = ⊥
IsImageRefusal fails name old now WriteFault = ⊥
IsImageRefusal fails name old now Full = ⊥

-- this is the first clause that an image of the class fails
abbrev pub FailsAs : {Key Recon Cond : Type 0} → Meaning Key Recon Cond → ℕ → ℕ → Option (List ℕ) → Fault → Type 0
FailsAs m code limit bytes f = FailsFirst m code limit bytes f

-- without a name memory was wanting
abbrev pub IsUnbegun : {Key Recon Cond : Type 0} → Meaning Key Recon Cond → ℕ → ℕ → Option (List ℕ) → Outside → Outside → Status → Type 0
IsUnbegun m code limit None old now status = status ≡ Memory
IsUnbegun m code limit (Some name) old now status = IsImageRefusal (FailsAs m code limit) name old now status

-- ---- what the images are then

-- images that were only read: each name holds what it held, and the count of faults did not fall
pub record OnlyRead (old now : Outside) : Type 0 where
  pub stays : Stays old.held now.held
  pub later : old.faults ≤ now.faults

-- without a name they are as they were
abbrev pub IsLeft : Option (List ℕ) → Outside → Outside → Type 0
IsLeft None old now = now ≡ old
IsLeft (Some name) old now = OnlyRead old now

-- a state with which the commands begin, in which nothing is open, or why there is none, and what the images are then
pub record IsBeginning {O Key Recon Cond : Type 0} (m : Meaning Key Recon Cond) (code limit : ℕ) (from : Option (List ℕ)) (old now : Outside) (result : Result (Seen O Key Recon Cond) ImageRefused) : Type 0 where
  pub state : IfOk result (λ seen. IsBegun m code limit from old.held seen)
  pub closed : IfOk result (λ seen. AllClosed (past_of seen))
  pub refused : IfErr result (λ e. IsUnbegun m code limit from old now (status_of e))
  pub left : IsLeft from old now
  pub unfailed : OnOk result (now.faults ≡ old.faults)
