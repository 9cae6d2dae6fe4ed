use Rattle.std.proofs.Common.{◌≡◌, ◌-◌, ℕ, Some, Result, IfOk, Ok, Err, Option, ap, sym, ◌∙◌, subst, arith}
use Rattle.std.specs.BTreeSet.{contains}
use Rattle.spg_base.specs.Row.{row_cmp}
use Rattle.spg_forest.specs.Sheets.{Sheet}
use Rattle.spg_chain.specs.Sweeps.{IsRenewed}
use Rattle.spg_chain.proofs.Staying.{list_some}
use Rattle.spg_chain.proofs.Renewing.{Renewing, any_offset, among, still_live, renewing_target, renewing_stays, first_positive, first_get, renewed_none, renewed_there, first_offset, first_live, head_empty, renewed_moved}
use Rattle.spg_chain.proofs.rewrite.rewrite.Goals as goal

pub row_at-requires-clause-offset : goal.row_at-requires-clause-offset
row_at-requires-clause-offset c =
    let h = c.loop-left-test.true in
    any_offset (contains row_cmp c.args.targets.now.rows) c.args.page.now c.args.offsets.now c.requires c.loop-left.page c.loop-left.first c.loop-left.left c.loop-left.invariant c.index-offsets-left.result
    (among (contains row_cmp c.args.targets.now.rows) c.args.page.now c.args.offsets.now c.requires c.loop-left.page c.loop-left.first c.loop-left.left c.loop-left.invariant (c.loop-left.left - 1) c.index-offsets-left.result (omega arith) c.index-offsets-left.is)

pub row_at-requires-clause-live : goal.row_at-requires-clause-live
row_at-requires-clause-live c =
    let h = c.loop-left-test.true in
    still_live (contains row_cmp c.args.targets.now.rows) c.args.page.now c.args.offsets.now c.requires c.loop-left.page c.loop-left.first c.loop-left.left c.loop-left.invariant (c.loop-left.left - 1) c.index-offsets-left.result (omega arith) c.index-offsets-left.is

pub loop-left-preserved-then-has : goal.loop-left-preserved-then-has
loop-left-preserved-then-has c =
    let h = c.loop-left-test.true in
    subst (λ (q : Sheet). Renewing (contains row_cmp c.args.targets.now.rows) c.args.page.now c.args.offsets.now q c.loop-left.first (c.loop-left.left - 1)) (sym c.put_placeholder.ensures)
    (renewing_target (contains row_cmp c.args.targets.now.rows) c.args.page.now c.args.offsets.now c.requires c.loop-left.page c.loop-left.first c.loop-left.left c.loop-left.invariant (c.loop-left.left - 1) c.index-offsets-left.result (omega arith) c.index-offsets-left.is
    (ap (contains row_cmp c.args.targets.now.rows) (sym c.row_at.ensures) ∙ sym c.has.ensures ∙ c.if-has.true))

pub set_next-requires-clause-next : goal.set_next-requires-clause-next
set_next-requires-clause-next c = first_positive (contains row_cmp c.args.targets.now.rows) c.args.page.now c.args.offsets.now c.requires c.loop-left.page c.loop-left.first c.loop-left.left c.loop-left.invariant

pub loop-left-preserved : goal.loop-left-preserved
loop-left-preserved c =
    let h = c.loop-left-test.true in
    subst (λ (q : Sheet). Renewing (contains row_cmp c.args.targets.now.rows) c.args.page.now c.args.offsets.now q (Some c.index-offsets-left.result) (c.loop-left.left - 1)) (sym c.set_next.ensures)
    (renewing_stays (contains row_cmp c.args.targets.now.rows) c.args.page.now c.args.offsets.now c.requires c.loop-left.page c.loop-left.first c.loop-left.left c.loop-left.invariant (c.loop-left.left - 1) c.index-offsets-left.result (omega arith) c.index-offsets-left.is
    (ap (contains row_cmp c.args.targets.now.rows) (sym c.row_at.ensures) ∙ sym c.has.ensures ∙ c.if-has.false))

pub returns-in_default : goal.returns-in_default
returns-in_default c =
    let z : c.loop-left.left ≡ 0 = (let k = c.loop-left-test.false in omega arith) in
    subst (λ (q : Sheet). IsRenewed (contains row_cmp c.args.targets.now.rows) c.args.page.now c.args.offsets.now q) (sym c.put_dead.ensures)
    (renewed_none (contains row_cmp c.args.targets.now.rows) c.args.page.now c.args.offsets.now c.requires c.loop-left.page c.index-offsets-0.result
    (first_get c.args.offsets.now c.index-offsets-0.result (list_some c.args.page.now.tuples c.args.offsets.now c.requires) c.index-offsets-0.is)
    (subst (λ (f : Option ℕ). Renewing (contains row_cmp c.args.targets.now.rows) c.args.page.now c.args.offsets.now c.loop-left.page f 0) c.in_default.is
    (subst (λ (i : ℕ). Renewing (contains row_cmp c.args.targets.now.rows) c.args.page.now c.args.offsets.now c.loop-left.page c.loop-left.first i) z c.loop-left.invariant)))

pub returns-then-first-head : goal.returns-then-first-head
returns-then-first-head c =
    let z : c.loop-left.left ≡ 0 = (let k = c.loop-left-test.false in omega arith) in
    let e : c.in-Some.first ≡ c.index-offsets-0.result = (let k = c.if-first-head.true in omega arith) in
    renewed_there (contains row_cmp c.args.targets.now.rows) c.args.page.now c.args.offsets.now c.requires c.loop-left.page c.index-offsets-0.result
    (first_get c.args.offsets.now c.index-offsets-0.result (list_some c.args.page.now.tuples c.args.offsets.now c.requires) c.index-offsets-0.is)
    c.in-Some.first
    (subst (λ (f : Option ℕ). Renewing (contains row_cmp c.args.targets.now.rows) c.args.page.now c.args.offsets.now c.loop-left.page f 0) c.in-Some.is
    (subst (λ (i : ℕ). Renewing (contains row_cmp c.args.targets.now.rows) c.args.page.now c.args.offsets.now c.loop-left.page c.loop-left.first i) z c.loop-left.invariant)) e

pub move_leaf-requires-clause-from : goal.move_leaf-requires-clause-from
move_leaf-requires-clause-from c =
    let z : c.loop-left.left ≡ 0 = (let k = c.loop-left-test.false in omega arith) in
    first_offset (contains row_cmp c.args.targets.now.rows) c.args.page.now c.args.offsets.now c.requires c.loop-left.page c.index-offsets-0.result
    (first_get c.args.offsets.now c.index-offsets-0.result (list_some c.args.page.now.tuples c.args.offsets.now c.requires) c.index-offsets-0.is)
    c.in-Some.first
    (subst (λ (f : Option ℕ). Renewing (contains row_cmp c.args.targets.now.rows) c.args.page.now c.args.offsets.now c.loop-left.page f 0) c.in-Some.is
    (subst (λ (i : ℕ). Renewing (contains row_cmp c.args.targets.now.rows) c.args.page.now c.args.offsets.now c.loop-left.page c.loop-left.first i) z c.loop-left.invariant))

pub move_leaf-requires-clause-live : goal.move_leaf-requires-clause-live
move_leaf-requires-clause-live c =
    let z : c.loop-left.left ≡ 0 = (let k = c.loop-left-test.false in omega arith) in
    first_live (contains row_cmp c.args.targets.now.rows) c.args.page.now c.args.offsets.now c.requires c.loop-left.page c.index-offsets-0.result
    (first_get c.args.offsets.now c.index-offsets-0.result (list_some c.args.page.now.tuples c.args.offsets.now c.requires) c.index-offsets-0.is)
    c.in-Some.first
    (subst (λ (f : Option ℕ). Renewing (contains row_cmp c.args.targets.now.rows) c.args.page.now c.args.offsets.now c.loop-left.page f 0) c.in-Some.is
    (subst (λ (i : ℕ). Renewing (contains row_cmp c.args.targets.now.rows) c.args.page.now c.args.offsets.now c.loop-left.page c.loop-left.first i) z c.loop-left.invariant))

pub move_leaf-requires-clause-empty : goal.move_leaf-requires-clause-empty
move_leaf-requires-clause-empty c =
    let z : c.loop-left.left ≡ 0 = (let k = c.loop-left-test.false in omega arith) in
    head_empty (contains row_cmp c.args.targets.now.rows) c.args.page.now c.args.offsets.now c.requires c.loop-left.page c.index-offsets-0.result
    (first_get c.args.offsets.now c.index-offsets-0.result (list_some c.args.page.now.tuples c.args.offsets.now c.requires) c.index-offsets-0.is)
    c.in-Some.first
    (subst (λ (f : Option ℕ). Renewing (contains row_cmp c.args.targets.now.rows) c.args.page.now c.args.offsets.now c.loop-left.page f 0) c.in-Some.is
    (subst (λ (i : ℕ). Renewing (contains row_cmp c.args.targets.now.rows) c.args.page.now c.args.offsets.now c.loop-left.page c.loop-left.first i) z c.loop-left.invariant))
    (λ (e : c.in-Some.first ≡ c.index-offsets-0.result). let k = c.if-first-head.false in absurd (k (omega arith)))

pub returns : goal.returns
returns c =
    let z : c.loop-left.left ≡ 0 = (let k = c.loop-left-test.false in omega arith) in
    by c.move_leaf.result (λ e. subst (λ (q : Sheet). IsRenewed (contains row_cmp c.args.targets.now.rows) c.args.page.now c.args.offsets.now q) (sym e)
    (renewed_moved (contains row_cmp c.args.targets.now.rows) c.args.page.now c.args.offsets.now c.requires c.loop-left.page c.index-offsets-0.result
    (first_get c.args.offsets.now c.index-offsets-0.result (list_some c.args.page.now.tuples c.args.offsets.now c.requires) c.index-offsets-0.is)
    c.in-Some.first
    (subst (λ (f : Option ℕ). Renewing (contains row_cmp c.args.targets.now.rows) c.args.page.now c.args.offsets.now c.loop-left.page f 0) c.in-Some.is
    (subst (λ (i : ℕ). Renewing (contains row_cmp c.args.targets.now.rows) c.args.page.now c.args.offsets.now c.loop-left.page c.loop-left.first i) z c.loop-left.invariant)))) c.move_leaf.ensures
  where
    by : {X E : Type 0} (r : Result X E) {P Q : Type 0} → (P → Q) → IfOk r (λ d. P) → IfOk r (λ d. Q)
    by (Ok x) f a = f a
    by (Err e) f a = tt
