use Rattle.std.proofs.Common.{rules, ◌≡◌, ⊎_elim, ◌+◌, ◌^◌, ℤ, subst, sym, inl, inr}
use Rattle.std.specs.Int.{w16}
use Rattle.std.proofs.lemmas.Int.{to_z-of_z}
use Rattle.spg_move.specs.Nodes.{IsNodeAdded, FitsWider, wider_want}
use Rattle.spg_move.specs.Tables.{NodeTable}
use Rattle.spg_tree.specs.Pick.{IsFull}
use Rattle.spg_core.proofs.Inners.{inner_root}
use Rattle.spg_core.proofs.Limits.{full_near}
use Rattle.spg_core.proofs.Ticks.{add_ticks}
use Rattle.spg_core.proofs.Finds.{add_finds}
use Rattle.spg_core.proofs.Refusals.{not_err, done_so}
use Rattle.spg_tree.specs.declared.stand.StepRefused.TheVariants.{ClockFull, Memory}
use Rattle.spg_core.proofs.inner.widen.Goals as goal

pub returns-clause-does : goal.returns-clause-does
returns-clause-does g c =
    let t = c.args.table.now in
    let t1 = c.add_node.new.table in
    let d = c.args.descent.now in
    let d2 = c.add_node.new.descent in
    let same = to_z-of_z w16 c.args.label c.ranges.label in
    let done = c.in_ok-add_node.ensures in
    let added = subst (λ (label : ℤ). IsNodeAdded g.O.OpClass.meaning t t1 d d2 c.args.at label) same done.ok in
    let table = subst (λ (label : ℤ). NodeTable t t1 d d2 c.args.at label c.args.seat) same done.table in
    record { told = inl (c.requires.inner, c.requires.main, inl (c.args.at, c.args.label, c.requires.answer, added, table)); exact = done.exact; held = done.held; stood = done.stands }

pub returns-in_err-add_node-clause-refused : goal.returns-in_err-add_node-clause-refused
returns-in_err-add_node-clause-refused g c =
    let t = c.args.table.now in
    let d = c.args.descent.now in
    let same = to_z-of_z w16 c.args.label c.ranges.label in
    let grown = inner_root g.O.OpClass.meaning t d c.requires.can.shape c.requires.can.stands c.requires.inner in
    record {
      full = λ h.
          let none = subst (λ (label : ℤ). (FitsWider t d c.args.at label → ⊥) × IsFull t (wider_want t d c.args.at label c.args.seat)) same (c.in_err-add_node.ensures.full (search rules)) in
          (inl grown, full_near t (wider_want t d c.args.at c.args.label c.args.seat) none.1);
      clock = λ h. (inl grown, (c.in_err-add_node.ensures.clock (search rules)).1);
      full_where = λ h.
          let none = subst (λ (label : ℤ). (FitsWider t d c.args.at label → ⊥) × IsFull t (wider_want t d c.args.at label c.args.seat)) same (c.in_err-add_node.ensures.full (search rules)) in
          inr (inr (inr (c.requires.inner, inl (c.args.at, c.args.label, c.requires.answer, none.0, none.1))));
      clock_where = λ h.
          let (big, last) = subst (λ (label : ℤ). (FitsWider t d c.args.at label → ⊥) × (t.clock + 1 ≡ 2 ^ 48)) same (c.in_err-add_node.ensures.clock (search rules)) in
          inr (inr (c.requires.inner, (c.args.at, c.args.label, c.requires.answer, big)));
      clock_first = λ ticks last.
          let big = add_ticks g.O.OpClass.meaning t d c.args.at c.args.label c.requires.inner c.requires.answer ticks in
          let first = c.in_err-add_node.ensures.clock_first (subst (λ (label : ℤ). FitsWider t d c.args.at label → ⊥) (sym same) big) last in
          ⊎_elim (λ a. inl (search rules)) (λ a. inr (search rules)) first;
      not_full = search rules;
      err = search rules;
      err_descent = search rules;
    }

pub returns-clause-refused : goal.returns-clause-refused
returns-clause-refused g c = done_so _ _ _ _ _ _ _ (λ ticks last.
    let t = c.args.table.now in
    let d = c.args.descent.now in
    let big = add_ticks g.O.OpClass.meaning t d c.args.at c.args.label c.requires.inner c.requires.answer ticks in
    let first = c.in_ok-add_node.ensures.clock_first (subst (λ (label : ℤ). FitsWider t d c.args.at label → ⊥) (sym (to_z-of_z w16 c.args.label c.ranges.label)) big) last in
    ⊎_elim (not_err c.in_ok-add_node.field-0 ClockFull) (not_err c.in_ok-add_node.field-0 Memory) first)
    (
    let t = c.args.table.now in
    let d = c.args.descent.now in
    let found = subst (λ (label : ℤ). (FitsWider t d c.args.at label → ⊥) → IsFull t (wider_want t d c.args.at label c.args.seat) → ⊥) (to_z-of_z w16 c.args.label c.ranges.label) c.in_ok-add_node.ensures.not_full in
    add_finds g.O.OpClass.meaning t d c.args.seat c.args.at c.args.label c.requires.inner c.requires.answer found
    )
