use Rattle.std.proofs.Common.{rules, ⊎_elim, subst, inl, inr}
use Rattle.spg_tree.specs.declared.stand.StepRefused.TheVariants.{ClockFull}
use Rattle.spg_split.specs.Cases.{IsLeafFull}
use Rattle.spg_split.specs.declared.split.SplitOut.{SplitOut}
use Rattle.spg_core.specs.declared.answer.InsertOut.TheVariants as outs
use Rattle.spg_core.specs.Telling.{DividesRoot, DividesChain}
use Rattle.spg_core.proofs.Moves.{root_or_below, root_full, root_leaves, at_chain, not_empty, below_root}
use Rattle.spg_core.proofs.Limits.{root_near, chain_near}
use Rattle.spg_core.proofs.Ticks.{root_ticks}
use Rattle.spg_core.proofs.Finds.{divide_finds}
use Rattle.spg_core.proofs.Refusals.{not_err, done_so}
use Rattle.spg_core.proofs.insert.divide_as.Goals as goal

pub split_leaf-requires-clause-spot : goal.split_leaf-requires-clause-spot
split_leaf-requires-clause-spot g c =
    let t = c.args.table.now in
    let d = c.args.descent.now in
    let (off, room, long) = c.requires.rule in
    ⊎_elim (λ root. inl (root, root_leaves g.O.OpClass.meaning t d c.requires.can.shape c.requires.can.stands off root)) (λ below. inr (at_chain t d c.requires.can.stands off below (not_empty t d room))) (root_or_below d.stand)

pub returns-in_err-split_leaf-clause-refused : goal.returns-in_err-split_leaf-clause-refused
returns-in_err-split_leaf-clause-refused g c =
    let m = g.O.OpClass.meaning in
    let t = c.args.table.now in
    let d = c.args.descent.now in
    let (off, room, long) = c.requires.rule in
    let at = root_or_below d.stand in
    record {
      full = λ h.
          let full : IsLeafFull m t d c.args.seat = c.in_err-split_leaf.ensures.full (search rules) in
          ⊎_elim (λ root. (inr (root_full m t d c.requires.can.shape c.requires.can.stands off room root), root_near m t d c.args.seat (full.root root)))
          (λ below. (inl (below_root t d c.requires.can.stands off below), chain_near m t d c.args.seat (full.below below))) at;
      clock = λ h. let (below, last) = c.in_err-split_leaf.ensures.clock (search rules) in (inl (below_root t d c.requires.can.stands off below), last);
      full_where = λ h.
          let full : IsLeafFull m t d c.args.seat = c.in_err-split_leaf.ensures.full (search rules) in
          inr (inr (inl (c.requires.rule, ⊎_elim (λ root. inl (root, full.root root)) (λ below. inr (below, full.below below)) at)));
      clock_where = λ h. let (below, last) = c.in_err-split_leaf.ensures.clock (search rules) in inr (inl (c.requires.rule, below));
      clock_first = λ ticks last. ⊎_elim (λ root. absurd (root_ticks m t d c.requires.rule root ticks)) (λ below. inl (search rules)) at;
      not_full = search rules;
      err = search rules;
      err_descent = search rules;
    }

pub returns-in-Put-clause-does : goal.returns-in-Put-clause-does
returns-in-Put-clause-does g c =
    let m = g.O.OpClass.meaning in
    let t = c.args.table.now in
    let d = c.args.descent.now in
    let t2 = c.split_leaf.new.table in
    let d2 = c.split_leaf.new.descent in
    let done = c.in_ok-split_leaf.ensures in
    ⊎_elim (λ root.
    let tells = subst (λ (o : SplitOut). DividesRoot m t t2 d d2 c.args.seat o) c.in-Put.is (root, done.ok.root root, done.table.root root, done.cause.root root, done.noted root) in
    let (low, (parts, calm, makes, e), table, cause, noted) = tells in
    record { told = (e, inr (inr (c.requires.rule, inl tells))); exact = done.exact; held = done.held; stood = done.stands })
    (λ below.
    let tells = subst (λ (o : SplitOut). DividesChain m t t2 d d2 c.args.seat o) c.in-Put.is (below, done.ok.below below, done.ticked below, done.table.below below, done.cause.below below, done.rise.below below) in
    let (low, (z, makes, splits, e), ticked, table, cause, rise) = tells in
    record { told = (e, inr (inr (c.requires.rule, inr tells))); exact = done.exact; held = done.held; stood = done.stands })
    (root_or_below d.stand)

pub returns-in-LeftOut-clause-does : goal.returns-in-LeftOut-clause-does
returns-in-LeftOut-clause-does g c =
    let m = g.O.OpClass.meaning in
    let t = c.args.table.now in
    let d = c.args.descent.now in
    let t2 = c.split_leaf.new.table in
    let d2 = c.split_leaf.new.descent in
    let done = c.in_ok-split_leaf.ensures in
    let tells = ⊎_elim
    (λ root. inl (subst (λ (o : SplitOut). DividesRoot m t t2 d d2 c.args.seat o) c.in-LeftOut.is (root, done.ok.root root, done.table.root root, done.cause.root root, done.noted root)))
    (λ below. inr (subst (λ (o : SplitOut). DividesChain m t t2 d d2 c.args.seat o) c.in-LeftOut.is (below, done.ok.below below, done.ticked below, done.table.below below, done.cause.below below, done.rise.below below)))
    (root_or_below d.stand) in
    record { told = inr (c.requires.rule, tells); exact = done.exact; held = done.held; stood = done.stands }

pub returns-in-Put-clause-refused : goal.returns-in-Put-clause-refused
returns-in-Put-clause-refused g c = done_so _ _ _ _ _ _ outs.Put (λ ticks last. ⊎_elim
    (λ root. root_ticks g.O.OpClass.meaning c.args.table.now c.args.descent.now c.requires.rule root ticks)
    (λ below. not_err _ ClockFull (c.in_ok-split_leaf.ensures.clock_first below last))
    (root_or_below c.args.descent.now.stand))
    (divide_finds g.O.OpClass.meaning c.args.table.now c.args.descent.now c.args.seat c.requires.rule c.in_ok-split_leaf.ensures.not_full)

pub returns-in-LeftOut-clause-refused : goal.returns-in-LeftOut-clause-refused
returns-in-LeftOut-clause-refused g c = done_so _ _ _ _ _ _ outs.Restructured (λ ticks last. ⊎_elim
    (λ root. root_ticks g.O.OpClass.meaning c.args.table.now c.args.descent.now c.requires.rule root ticks)
    (λ below. not_err _ ClockFull (c.in_ok-split_leaf.ensures.clock_first below last))
    (root_or_below c.args.descent.now.stand))
    (divide_finds g.O.OpClass.meaning c.args.table.now c.args.descent.now c.args.seat c.requires.rule c.in_ok-split_leaf.ensures.not_full)
