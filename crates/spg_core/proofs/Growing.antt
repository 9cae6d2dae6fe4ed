-- Pages only grow.
use Rattle.std.proofs.Common.{◌≡◌, ℕ, Option, length, ap, ◌∙◌, arith}
use Rattle.spg_opclass.specs.Meaning.{Meaning}
use Rattle.spg_tree.specs.Table.{Table, sheets_of}
use Rattle.spg_tree.specs.Descents.{Descending}
use Rattle.spg_descend.specs.Carried.{IsCarried}
use Rattle.spg_core.specs.declared.answer.InsertOut.{InsertOut}
use Rattle.spg_core.specs.declared.answer.InsertOut.TheVariants.{Descended, Restructured, Restarted, Put}
use Rattle.spg_core.specs.Stepping.{SamePages, IsStepOut, Grows}

pub grows_as : (t t2 : Table) → SamePages t t2 → Grows t t2
grows_as t t2 (same, limit) =
    let count : length t2.pages ≡ length t.pages = ap (λ S. length S.sheets) same in
    let clock : t2.clock ≡ t.clock = ap (λ S. S.clock) same in
    (limit, omega arith, omega arith)

pub grows_then : (t t1 t2 : Table) → Grows t t1 → Grows t1 t2 → Grows t t2
grows_then t t1 t2 a b = (b.0 ∙ a.0, omega (arith, a.1, b.1), omega (arith, a.2, b.2))

pub step_grows : {Key Recon Cond : Type 0} (m : Meaning Key Recon Cond) (t t2 : Table) (d d2 : Descending Recon) (seat : ℕ) (out : InsertOut) (key : Option Key) → IsCarried m (sheets_of t) d key → IsStepOut m t t2 d d2 seat out → Grows t t2
step_grows m t t2 d d2 seat Descended key has (stood, same, goes) = grows_as t t2 same
step_grows m t t2 d d2 seat Restructured key has (off, (cost, f, L), limit, grow, goes) = (limit, L.section.within.pages.0, L.section.within.clock.0)
step_grows m t t2 d d2 seat (Restarted block by) key has (latched, other, start, same, goes) = grows_as t t2 same
step_grows m t t2 d d2 seat Put key has (off, adds, limit, grow, row) = let (cost, f, A) = adds key has in (limit, A.section.within.pages.0, A.section.within.clock.0)
