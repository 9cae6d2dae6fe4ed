-- What each call does with the index behind a handle.
use Rattle.std.specs.Prelude.{◌≡◌, ◌<◌, ◌≤◌, ◌⊎◌, ℕ, if◌then◌else◌, nat_eq, List, length, Option, Some, None, Result, Ok, Err}
use Rattle.spg_base.specs.Row.{RowAt}
use Rattle.spg_base.specs.declared.point.Point.{Point}
use Rattle.spg_base.specs.declared.recorded.Stat.{Stat}
use Rattle.spg_opclass.specs.Meaning.{Meaning}
use Rattle.spg_opclass.specs.declared.query.Query.TheVariants.{All, Null, Where}
use Rattle.spg_core.specs.Counts.{IsStat}
use Rattle.spg_core.specs.Seen.{Seen}
use Rattle.spg_core.specs.Sections.{IsNew}
use Rattle.spg_near.specs.declared.near_row.NearRow.{NearRow}
use Rattle.spg_whole.specs.Calls.{FindsRows, FindsNone}
use Rattle.spg_c.specs.declared.any.AnyIndex.{AnyIndex}
use Rattle.spg_c.specs.declared.any.AnyIndex.TheVariants.{Quad, Kd, Radix}
use Rattle.spg_c.specs.declared.class.Class.{Class}
use Rattle.spg_c.specs.declared.class.Class.TheVariants as class
use Rattle.spg_c.specs.declared.conds.SpgPointCond.{SpgPointCond}
use Rattle.spg_c.specs.declared.conds.SpgTextCond.{SpgTextCond}
use Rattle.spg_c.specs.declared.refused.Refused.{Refused}
use Rattle.spg_c.specs.declared.refused.Refused.TheVariants as refused
use Rattle.spg_c.specs.declared.values.SpgRow.{SpgRow}
use Rattle.spg_c.specs.Any.{OnAny, OnPoints, OnTexts}
use Rattle.spg_c.specs.Conds.{point_cond_of, text_cond_of, AreConds, AreNoConds}
use Rattle.spg_c.specs.Shown.{row_at}
use Rattle.spg_c.specs.Tells.{TellsInsert, TellsDelete, TellsFind, TellsVacuum, TellsNear}

-- ---- opening

-- the class of a number
abbrev pub class_of : ℕ → Option Class
class_of n = if nat_eq n 1 then Some class.Quad else if nat_eq n 2 then Some class.Kd else if nat_eq n 3 then Some class.Radix else None

abbrev pub IsLimit : ℕ → Type 0
IsLimit limit = (4 ≤ limit) × (limit ≤ 131072)

abbrev pub IsNoLimit : ℕ → Type 0
IsNoLimit limit = (limit < 4) ⊎ (131072 < limit)

-- an empty index of this class
abbrev pub IsNewOf : Class → ℕ → AnyIndex → Type 0
IsNewOf class.Quad limit (Quad i) = IsNew limit i
IsNewOf class.Kd limit (Kd i) = IsNew limit i
IsNewOf class.Radix limit (Radix i) = IsNew limit i
IsNewOf c limit i = ⊥

-- why none was made
abbrev pub MakesNone : ℕ → Refused → Type 0
MakesNone limit e = ((e ≡ refused.Range) × IsNoLimit limit) ⊎ (e ≡ refused.Memory)

abbrev pub Makes : Class → ℕ → Result AnyIndex Refused → Type 0
Makes c limit (Ok i) = IsLimit limit × IsNewOf c limit i
Makes c limit (Err e) = MakesNone limit e

abbrev pub Opens : ℕ → ℕ → AnyIndex → AnyIndex → Result (Unit {0}) Refused → Type 0
Opens number limit old new (Ok x) = (c : Class) × (class_of number ≡ Some c) × IsLimit limit × IsNewOf c limit new
Opens number limit old new (Err e) = (new ≡ old) × (((class_of number ≡ None) × (e ≡ refused.Range)) ⊎ MakesNone limit e)

-- the handle keeps this index, or what it kept
abbrev pub Keeps : AnyIndex → AnyIndex → AnyIndex → Result (Unit {0}) Refused → Type 0
Keeps index old new (Ok x) = new ≡ index
Keeps index old new (Err e) = (e ≡ refused.Memory) × (new ≡ old)

-- ---- inserts and deletes

-- a row of offset 0 is none; of another one this holds
abbrev pub OfRow : {T : Type 0} → SpgRow → AnyIndex → AnyIndex → Result T Refused → Type 0 → Type 0
OfRow row old new answer P = ((row.offset ≡ 0) × (answer ≡ Err refused.Range) × (new ≡ old)) ⊎ ((0 < row.offset) × P)

abbrev pub InsertsPoint : AnyIndex → AnyIndex → SpgRow → Point → Result (Unit {0}) Refused → Type 0
InsertsPoint old new row at answer = OfRow row old new answer (OnPoints (λ O Recon m o n. TellsInsert m o n (row_at row) (Some at) answer) answer old new)

-- a text of more than 3,900 bytes is none; with another one an insert was done or refused
abbrev pub PutsText : {O Recon Cond : Type 0} → Meaning (List ℕ) Recon Cond → Seen O (List ℕ) Recon Cond → Seen O (List ℕ) Recon Cond → RowAt → List ℕ → Result (Unit {0}) Refused → Type 0
PutsText m old new row bytes answer = ((3900 < length bytes) × (answer ≡ Err refused.Range) × (new ≡ old)) ⊎ ((length bytes ≤ 3900) × TellsInsert m old new row (Some bytes) answer)

abbrev pub InsertsText : AnyIndex → AnyIndex → SpgRow → List ℕ → Result (Unit {0}) Refused → Type 0
InsertsText old new row bytes answer = OfRow row old new answer (OnTexts (λ O Recon m o n. PutsText m o n (row_at row) bytes answer) answer old new)

abbrev pub InsertsNull : AnyIndex → AnyIndex → SpgRow → Result (Unit {0}) Refused → Type 0
InsertsNull old new row answer = OfRow row old new answer (OnAny (λ Key Cond O Recon m o n. TellsInsert m o n (row_at row) None answer) answer old new)

abbrev pub DeletesRow : AnyIndex → AnyIndex → SpgRow → Result (Unit {0}) Refused → Type 0
DeletesRow old new row answer = OfRow row old new answer (OnAny (λ Key Cond O Recon m o n. TellsDelete o n (row_at row) answer) answer old new)

-- ---- searches

abbrev pub FindsAll : AnyIndex → AnyIndex → Result (List RowAt) Refused → Type 0
FindsAll old new answer = OnAny (λ Key Cond O Recon m o n. TellsFind m o n All answer) answer old new

abbrev pub FindsNull : AnyIndex → AnyIndex → Result (List RowAt) Refused → Type 0
FindsNull old new answer = OnAny (λ Key Cond O Recon m o n. TellsFind m o n Null answer) answer old new

-- the rows whose keys meet all these conditions
abbrev pub SeeksConds : {C O Key Recon Cond : Type 0} → (C → Option Cond) → Meaning Key Recon Cond → Seen O Key Recon Cond → Seen O Key Recon Cond → List C → Result (List RowAt) Refused → Type 0
SeeksConds {Cond = Cond} known m old new conds (Ok rows) = (list : List Cond) × AreConds known conds list × FindsRows m old new 0 (Where list) rows
SeeksConds known m old new conds (Err refused.Range) = (new ≡ old) × AreNoConds known conds
SeeksConds {Cond = Cond} known m old new conds (Err e) = (e ≡ refused.Memory) × ((new ≡ old) ⊎ ((list : List Cond) × AreConds known conds list × FindsNone old new 0 (Where list)))

abbrev pub FindsPoints : AnyIndex → AnyIndex → List SpgPointCond → Result (List RowAt) Refused → Type 0
FindsPoints old new conds answer = OnPoints (λ O Recon m o n. SeeksConds point_cond_of m o n conds answer) answer old new

abbrev pub FindsTexts : AnyIndex → AnyIndex → List ℕ → List SpgTextCond → Result (List RowAt) Refused → Type 0
FindsTexts old new bytes conds answer = OnTexts (λ O Recon m o n. SeeksConds (text_cond_of bytes) m o n conds answer) answer old new

-- the index stays
abbrev pub FindsNearest : AnyIndex → AnyIndex → Point → ℕ → Result (List NearRow) Refused → Type 0
FindsNearest old new target limit answer = (new ≡ old) × OnPoints (λ O Recon m o n. TellsNear o target limit answer) answer old old

-- ---- vacuums and counts

abbrev pub Vacuumed : AnyIndex → AnyIndex → Result ℕ Refused → Type 0
Vacuumed old new answer = OnAny (λ Key Cond O Recon m o n. TellsVacuum o n answer) answer old new

abbrev pub TellsStat : {O Key Recon Cond : Type 0} → Seen O Key Recon Cond → Result Stat Refused → Type 0
TellsStat seen (Ok stat) = IsStat seen.table stat
TellsStat seen (Err e) = ⊥

-- the index stays
abbrev pub CountsOf : AnyIndex → AnyIndex → Result Stat Refused → Type 0
CountsOf old new answer = (new ≡ old) × OnAny (λ Key Cond O Recon m o n. TellsStat o answer) answer old old

-- the answer is handed out where there is one
abbrev pub HandsOne : {A B : Type 0} → (A → B) → B → B → ℕ → (Refused → ℕ) → Result A Refused → Type 0
HandsOne seen old new number numbers (Ok x) = (new ≡ seen x) × (number ≡ 0)
HandsOne seen old new number numbers (Err e) = (new ≡ old) × (number ≡ numbers e)
