-- What `build` says of the inserts that a source gave, and of the index that was built of them.
use Rattle.std.specs.Prelude.{◌≡◌, ◌⊎◌, ◌<◌, ◌≤◌, ◌++◌, List, [], ◌∷◌, ℕ, length, true, Option, Result, Ok, Err, IsSomeAnd, codes}
use Rattle.std.specs.Fmt.{decimal}
use Rattle.spg_io.specs.Causes.{Rose}
use Rattle.spg_radix.specs.Texts.{is_bytes}
use Rattle.spg_script.specs.declared.inserts.Inserts.{Inserts}
use Rattle.spg_script.specs.Inserts.{IsInserts, IsFirstOther}
use Rattle.spg_create.specs.declared.whole.Created.{Created}
use Rattle.spg_create.specs.declared.refused.CreateRefused.{CreateRefused}
use Rattle.spg_create.specs.declared.refused.CreateRefused.TheVariants as refused
use Rattle.spg_create.specs.Creates.{Creates}
use Rattle.spg_histories.specs.Ending.{Writing, write_failed, status_after}
use Rattle.spg_histories.specs.Answer.{Wrote}
use Rattle.spg_histories.specs.declared.status.Status.{Status}
use Rattle.spg_histories.specs.declared.status.Status.TheVariants.{Done, Usage, BadScript, ReadFault, WriteFault, ImageFault, BadImage, Memory, Full}
use Rattle.spg_app.specs.Classes.{class_at}
use Rattle.spg_app.specs.Ending.{Outlets, LeftAlone}
use Rattle.spg_streams.specs.Io.{longest_script, ReadWhole, ReadMore}

-- ---- what the source gave

-- a source gave a script of these inserts, of at most 67,108,864 bytes, each below 256, and nothing more
pub record GaveInserts (left left_after : Option (List ℕ)) (i : Inserts) : Type 0 where
  pub bytes : List ℕ
  pub read : ReadWhole left left_after bytes
  pub short : length bytes ≤ longest_script
  pub is_script : IsInserts bytes i
  pub are_bytes : is_bytes bytes ≡ true

-- the bytes that the source gave are no script of inserts, and line `n` is the first at which none can go on
pub record GaveNoInserts (left left_after : Option (List ℕ)) (n : ℕ) : Type 0 where
  pub bytes : List ℕ
  pub read : ReadWhole left left_after bytes
  pub short : length bytes ≤ longest_script
  pub none : (i : Inserts) → IsInserts bytes i → ⊥
  pub first_other : IsFirstOther bytes n

-- it gave no script of inserts of at most 67,108,864 bytes; the number is 0 where it gave more
abbrev pub IsOtherScript : Option (List ℕ) → Option (List ℕ) → ℕ → Type 0
IsOtherScript left left_after n = GaveNoInserts left left_after n ⊎ ((n ≡ 0) × ReadMore left left_after longest_script)

-- why no inserts were had of a source; want of memory may come where no read failed
abbrev pub IsInsertRefusal : (left left_after : Option (List ℕ)) (read_faults read_faults_after : ℕ) → Status → Type 0
IsInsertRefusal left left_after f f_after ReadFault = Rose f f_after
IsInsertRefusal left left_after f f_after (BadScript n) = IsOtherScript left left_after n
IsInsertRefusal left left_after f f_after Memory = f_after ≡ f
IsInsertRefusal left left_after f f_after Done = ⊥
IsInsertRefusal left left_after f f_after Usage = ⊥
IsInsertRefusal left left_after f f_after WriteFault = ⊥
IsInsertRefusal left left_after f f_after ImageFault = ⊥
IsInsertRefusal left left_after f f_after (BadImage block reason) = ⊥
IsInsertRefusal left left_after f f_after Full = ⊥

-- ---- what was built of them

-- what creating an index of the inserts left under the name
abbrev pub Creation : List ℕ → Inserts → Outlets → Result Created CreateRefused → Type 0
Creation name i out result =
    Creates (class_at i.class).meaning (class_at i.class).speech (class_at i.class).code i.rows name out.images.held out.images_after.held out.images.faults out.images_after.faults result

-- the line that tells how large an index is that was built
abbrev pub built_text : Created → List ℕ
built_text c = (((codes "built " ++ decimal c.entries) ++ (codes " skipped " ++ decimal c.skipped)) ++ (codes " pages " ++ decimal c.pages)) ++ 10 ∷ []

-- the index was built and saved. The sink took its line, or a front of it where it failed or memory was wanting
pub record IsBuilt (name : List ℕ) (i : Inserts) (out : Outlets) (status : Status) : Type 0 where
  pub created : Created
  pub creation : Creation name i out (Ok created)
  pub writing : Writing
  pub wrote : Wrote writing out.taken out.taken_after (built_text created)
  pub cause : writing ≡ write_failed → Rose out.write_faults out.write_faults_after
  pub status_is : status ≡ status_after writing []

-- the status of an index that was not created
abbrev pub unbuilt_status : CreateRefused → Status
unbuilt_status refused.IndexFull = Full
unbuilt_status refused.ImageFault = ImageFault
unbuilt_status refused.Memory = Memory

-- no index was created, for this cause, and nothing was written
pub record IsUnbuilt (name : List ℕ) (i : Inserts) (out : Outlets) (status : Status) : Type 0 where
  pub why : CreateRefused
  pub creation : Creation name i out (Err why)
  pub status_is : status ≡ unbuilt_status why
  pub sink : out.taken_after ≡ out.taken

-- the source gave inserts, where no read failed, of which an index was built or not
pub record IsBuilding (name : List ℕ) (left left_after : Option (List ℕ)) (read_faults read_faults_after : ℕ) (out : Outlets) (status : Status) : Type 0 where
  pub inserts : Inserts
  pub gave : GaveInserts left left_after inserts
  pub unfailed : read_faults_after ≡ read_faults
  pub ends : IsBuilt name inserts out status ⊎ IsUnbuilt name inserts out status

-- what is said of `build` of an image of this name; without inserts nothing was written
abbrev pub IsBuildOf : List ℕ → (left left_after : Option (List ℕ)) (read_faults read_faults_after : ℕ) → Outlets → Status → Type 0
IsBuildOf name left left_after f f_after out status = (IsInsertRefusal left left_after f f_after status × LeftAlone out) ⊎ IsBuilding name left left_after f f_after out status

-- ---- what a source holds

-- the source holds a script of inserts that is not too long
abbrev pub HoldsInserts : Option (List ℕ) → Type 0
HoldsInserts left = IsSomeAnd left (λ bytes. ((i : Inserts) × IsInserts bytes i) × (length bytes ≤ longest_script))

-- it holds bytes that are no script of inserts, which this line is the first to show, or more than 67,108,864 bytes, where it is 0
abbrev pub HoldsNoInserts : Option (List ℕ) → ℕ → Type 0
HoldsNoInserts left n = IsSomeAnd left (λ bytes. ((length bytes ≤ longest_script) × IsFirstOther bytes n) ⊎ ((longest_script < length bytes) × (n ≡ 0)))
