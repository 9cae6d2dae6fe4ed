-- What each form of images tells of one call.
use Rattle.std.specs.Prelude.{◌≡◌, ℕ, suc, true, false, if◌then◌else◌, List, [], ◌∷◌, ◌++◌, Option, Some, None, Result, Ok, Err}
use Rattle.std.specs.Str.{bytes_eq}
use Rattle.std.specs.Option.{option_map}
use Rattle.spg_base.specs.declared.memory.Failed.{Failed as FailedCall}
use Rattle.spg_io.specs.declared.sink.IoRefused.{IoRefused}
use Rattle.spg_io.specs.declared.sink.IoRefused.TheVariants.{Failed, Memory}
use Rattle.spg_io.specs.declared.store.File.{File}
use Rattle.spg_io.specs.Calls.{Calls, fails_next, went_through, failed_once, one_more}
use Rattle.spg_io.specs.Held.{or_empty}
use Rattle.spg_io.specs.Names.{is_name}

-- the bytes under a name: those of the first file of this name
abbrev pub bytes_under : List File → List ℕ → Option (List ℕ)
bytes_under [] name = None
bytes_under (f ∷ fs) name = if bytes_eq f.name name then Some f.bytes else bytes_under fs name

-- the index of that file
abbrev pub place_of : List File → List ℕ → Option ℕ
place_of [] name = None
place_of (f ∷ fs) name = if bytes_eq f.name name then Some 0 else option_map suc (place_of fs name)

-- the files with these bytes under the name: in the place of those that stood there, or behind all
abbrev pub with_bytes : List File → List ℕ → List ℕ → List File
with_bytes [] name bytes = record { name = name; bytes = bytes } ∷ []
with_bytes (f ∷ fs) name bytes = if bytes_eq f.name name then record { name = f.name; bytes = bytes } ∷ fs else f ∷ with_bytes fs name bytes

-- the files with a page more under the name
abbrev pub with_page : List File → List ℕ → List ℕ → List File
with_page fs name page = with_bytes fs name (or_empty (bytes_under fs name) ++ page)

-- ---- no call fails

abbrev pub PlainLook : {T : Type 0} → List File → Result T FailedCall → List File → Type 0
PlainLook old (Ok x) new = new ≡ old
PlainLook old (Err e) new = ⊥

-- the call leaves these files, or meets want of memory
abbrev pub PlainChange : List File → List File → Result Unit IoRefused → List File → Type 0
PlainChange old after (Ok u) new = new ≡ after
PlainChange old after (Err Failed) new = ⊥
PlainChange old after (Err Memory) new = new ≡ old

-- ---- the calls with the named numbers fail, whatever they are

-- the files, and the calls on them
pub record FaultyFiles : Type 0 where
  pub files : List File
  pub calls : Calls

abbrev pub FaultyLook : {T : Type 0} → FaultyFiles → Result T FailedCall → FaultyFiles → Type 0
FaultyLook old (Ok x) new = (fails_next old.calls ≡ false) × (new ≡ record { files = old.files; calls = went_through old.calls })
FaultyLook old (Err e) new = (fails_next old.calls ≡ true) × (new ≡ record { files = old.files; calls = failed_once old.calls })

-- a failed call leaves the files as they were; one that meets want of memory is not counted
abbrev pub FaultyChange : FaultyFiles → List File → Result Unit IoRefused → FaultyFiles → Type 0
FaultyChange old after (Ok u) new = (fails_next old.calls ≡ false) × (new ≡ record { files = after; calls = went_through old.calls })
FaultyChange old after (Err Failed) new = (fails_next old.calls ≡ true) × (new ≡ record { files = old.files; calls = failed_once old.calls })
FaultyChange old after (Err Memory) new = (fails_next old.calls ≡ false) × (new ≡ old)

-- ---- files of a folder

-- the count rises by one exactly where the call failed, and a call on what is no name fails
abbrev pub FolderLook : {T : Type 0} → ℕ → List ℕ → Result T FailedCall → ℕ → Type 0
FolderLook old name (Ok x) new = (is_name name ≡ true) × (new ≡ old)
FolderLook old name (Err e) new = new ≡ one_more old

abbrev pub FolderChange : ℕ → List ℕ → Result Unit IoRefused → ℕ → Type 0
FolderChange old name (Ok u) new = (is_name name ≡ true) × (new ≡ old)
FolderChange old name (Err Failed) new = new ≡ one_more old
FolderChange old name (Err Memory) new = ⊥
