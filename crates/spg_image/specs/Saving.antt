-- What saving leaves under a name.
use Rattle.std.specs.Prelude.{◌≡◌, ℕ, zero, suc, ◌*◌, ◌<◌, ◌≤◌, ◌⊎◌, false, List, ◌++◌, length, take, get_or, Option, Some, Result, Ok, Err, OnOk, IsErrOf}
use Rattle.spg_forest.specs.Sheets.{blank}
use Rattle.spg_io.specs.Causes.{Rose}
use Rattle.spg_io.specs.Held.{Holding, Stays, Changes, page_size}
use Rattle.spg_io.specs.declared.sink.IoRefused.{IoRefused}
use Rattle.spg_image.specs.declared.refused.SaveRefused.{SaveRefused}
use Rattle.spg_image.specs.declared.refused.SaveRefused.TheVariants.{ImageFault, Memory}
use Rattle.spg_page.specs.Came.{sheet_in}
use Rattle.spg_verify.specs.Versions.{version_of}
use Rattle.spg_verify.specs.Verdict.{page_at}
use Rattle.spg_image.specs.Page.{IsPageAt}
use Rattle.spg_image.specs.Meta.{IsMeta, Said, said_in}
use Rattle.spg_image.specs.Image.{Image, Reads}
use Rattle.spg_image.specs.Refusals.{refusal_of}

-- what the meta page of an image says
abbrev pub said_of : Image → Said
said_of i = record { class = i.class; count = length i.pages; clock = i.clock; remembered = i.remembered; counter = i.counter }

-- the bytes are the page of the image at a block
abbrev pub IsBlockOf : Image → ℕ → List ℕ → Type 0
IsBlockOf i zero page = IsMeta page × (said_in page ≡ said_of i)
IsBlockOf i (suc b) page = IsPageAt (version_of i.class) (suc b) page × (sheet_in page ≡ get_or i.pages (suc b) (blank false))

-- the bytes are the first k pages of the image
pub record AreFirst (i : Image) (k : ℕ) (bytes : List ℕ) : Type 0 where
  pub len : length bytes ≡ page_size * k
  pub each : (b : ℕ) → b < k → IsBlockOf i b (page_at bytes b)

-- the name holds the image
abbrev pub HoldsImage : Image → Option (List ℕ) → Type 0
HoldsImage i held = (bytes : List ℕ) × (held ≡ Some bytes) × Reads i bytes

-- the name holds the first k pages of the image
abbrev pub HoldsPages : Image → ℕ → Option (List ℕ) → Type 0
HoldsPages i k held = (bytes : List ℕ) × (held ≡ Some bytes) × AreFirst i k bytes

-- the name holds first pages of the image, but not all
abbrev pub HoldsFirst : Image → Option (List ℕ) → Type 0
HoldsFirst i held = (k : ℕ) × (k < length i.pages) × HoldsPages i k held

-- and behind them a front of the next page
abbrev pub HoldsFirstAndFront : Image → Option (List ℕ) → Type 0
HoldsFirstAndFront i held = (k n : ℕ) × (bytes page : List ℕ) × (k < length i.pages) × (held ≡ Some (bytes ++ take n page)) × AreFirst i k bytes × IsBlockOf i k page

-- what saving leaves. A refusal leaves every name as it was, or the name holds the pages that had come, and no other name changes
abbrev pub Saves : Image → Option Holding → Option Holding → List ℕ → Result ℕ SaveRefused → Type 0
Saves i old now name (Ok pages) = (pages ≡ length i.pages) × Changes old now name (λ _ held. HoldsImage i held)
Saves i old now name (Err ImageFault) = Stays old now ⊎ Changes old now name (λ _ held. HoldsFirstAndFront i held)
Saves i old now name (Err Memory) = Stays old now ⊎ Changes old now name (λ _ held. HoldsFirst i held)

-- the count of faults rises in a call that answers `ImageFault`, and stays in every other
pub record HasCauseIfFault (before now : ℕ) (result : Result ℕ SaveRefused) : Type 0 where
  pub later : before ≤ now
  pub fault : IsErrOf result ImageFault → Rose before now
  pub answered : OnOk result (now ≡ before)
  pub memory : IsErrOf result Memory → now ≡ before

-- ---- the calls of a save, as the images tell of each

-- from `old` to `now` the name was cleared, and the first k pages of the image were put, each by one call
abbrev pub PutFirst : {M : Type 0} → (M → List ℕ → Result Unit IoRefused → M → Type 0) → (M → List ℕ → List ℕ → Result Unit IoRefused → M → Type 0) → Image → List ℕ → M → ℕ → M → Type 0
PutFirst {M} clears puts i name old zero now = (u : Unit {0}) × clears old name (Ok u) now
PutFirst {M} clears puts i name old (suc k) now = (u : Unit {0}) × (between : M) × (page : List ℕ) × PutFirst clears puts i name old k between × IsBlockOf i k page × puts between name page (Ok u) now

-- the call that was refused: the clearing, or the put of the page behind those that had come. No call comes behind it
abbrev pub StopsAt : {M : Type 0} → (M → List ℕ → Result Unit IoRefused → M → Type 0) → (M → List ℕ → List ℕ → Result Unit IoRefused → M → Type 0) → Image → List ℕ → M → IoRefused → M → Type 0
StopsAt {M} clears puts i name old e now = clears old name (Err e) now ⊎ ((k : ℕ) × (between : M) × (page : List ℕ) × (k < length i.pages) × PutFirst clears puts i name old k between × IsBlockOf i k page × puts between name page (Err e) now)

-- all pages were put, or a call was refused, which is the last
abbrev pub SavesBy : {M : Type 0} → (M → List ℕ → Result Unit IoRefused → M → Type 0) → (M → List ℕ → List ℕ → Result Unit IoRefused → M → Type 0) → Image → List ℕ → M → M → Result ℕ SaveRefused → Type 0
SavesBy clears puts i name old now (Ok pages) = PutFirst clears puts i name old (length i.pages) now
SavesBy clears puts i name old now (Err why) = (e : IoRefused) × (why ≡ refusal_of e) × StopsAt clears puts i name old e now
