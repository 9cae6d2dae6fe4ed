use Rattle.std.proofs.Common.{rules, ℕ, ◌+◌, List, length, take, sym, ap₂, ◌∙◌, subst, arith}
use Rattle.spg_forest.specs.Tuples.{Tuple}
use Rattle.spg_forest.specs.Sheets.{Sheet, size_of}
use Rattle.spg_chain.specs.Chains.{IsChainedPage}
use Rattle.spg_tree.specs.Table.{Table, with_touched}
use Rattle.spg_split.specs.Placing.{taken_by}
use Rattle.spg_split.specs.Fulls.{AreHomesFull}
use Rattle.spg_split.specs.Homes.{blocks_touched}
use Rattle.spg_split.specs.Planning.{IsLeft}
use Rattle.spg_split.specs.Writing.{table_below, MayPart}
use Rattle.spg_split.proofs.Totals.{take_live}
use Rattle.spg_split.proofs.Deciding.{plan_few, homes_housed, may_part}
use Rattle.spg_split.proofs.chain.put_chain.Goals as goal

pub left_without-requires-clause-chained : goal.left_without-requires-clause-chained
left_without-requires-clause-chained c = subst (λ (s : Sheet). IsChainedPage s.tuples) (sym c.page.ensures) c.requires.may.chained

pub pick_homes-requires-clause-tuples : goal.pick_homes-requires-clause-tuples
pick_homes-requires-clause-tuples c = plan_few c.args.parts c.left_without.result c.plan_lists-plan.result c.requires.parts c.requires.some c.plan_lists-plan.ensures.plan

pub touched_by-touched-requires-clause-few : goal.touched_by-touched-requires-clause-few
touched_by-touched-requires-clause-few c = let m = (homes_housed c.args.table.now c.pick_homes.new.table c.args.head c.args.parent c.args.node c.args.seat c.args.parts c.left_without.result c.plan_lists-plan.result c.in_ok-homes.homes c.requires.may c.requires.some c.plan_lists-plan.ensures.plan c.page_count-before.ensures.sound.roots c.in_ok-homes.ensures.ok).more in let a = c.page_count.ensures.value in let b = c.page_count-before.ensures.value in omega arith

pub write_chain-at-requires-clause-leaves : goal.write_chain-at-requires-clause-leaves
write_chain-at-requires-clause-leaves c = rw c.as_slice.ensures (take_live c.args.parts.leaves c.plan_lists-plan.result.count c.requires.parts.leaves)

pub write_chain-at-requires-clause-may : goal.write_chain-at-requires-clause-may
write_chain-at-requires-clause-may c =
    subst (λ (ts : List Tuple). MayPart c.pick_homes.new.table c.args.head c.args.parent c.args.node c.in_ok-homes.homes.inner c.in_ok-homes.homes.rest c.args.parts.inner (λ j. taken_by j (take c.plan_lists-plan.result.count ts) c.as_slice-2.result.now) c.plan_lists-plan.result.cut (length c.args.parts.links)) (sym c.as_slice.ensures)
    (subst (λ (ns : List ℕ). MayPart c.pick_homes.new.table c.args.head c.args.parent c.args.node c.in_ok-homes.homes.inner c.in_ok-homes.homes.rest c.args.parts.inner (λ j. taken_by j (take c.plan_lists-plan.result.count c.args.parts.leaves) ns) c.plan_lists-plan.result.cut (length c.args.parts.links)) (sym c.as_slice-2.ensures)
    (may_part c.args.table.now c.pick_homes.new.table c.args.head c.args.parent c.args.node c.args.parts c.left_without.result c.plan_lists-plan.result c.in_ok-homes.homes c.requires.may c.requires.parts c.requires.some (subst (λ (s : Sheet). IsLeft s.tuples c.args.head.offset c.left_without.result) c.page.ensures c.left_without.ensures.left) c.plan_lists-plan.ensures.plan (homes_housed c.args.table.now c.pick_homes.new.table c.args.head c.args.parent c.args.node c.args.seat c.args.parts c.left_without.result c.plan_lists-plan.result c.in_ok-homes.homes c.requires.may c.requires.some c.plan_lists-plan.ensures.plan c.page_count-before.ensures.sound.roots c.in_ok-homes.ensures.ok)))

pub returns-clause-ok : goal.returns-clause-ok
returns-clause-ok c = record {
  left = c.left_without.result;
  plan = c.plan_lists-plan.result;
  homes = c.in_ok-homes.homes;
  housed = c.pick_homes.new.table;
  is_left = (subst (λ (s : Sheet). IsLeft s.tuples c.args.head.offset c.left_without.result) c.page.ensures c.left_without.ensures.left);
  is_plan = c.plan_lists-plan.ensures.plan;
  fits = c.plan_lists-plan.ensures.fits;
  way = c.way_of-way.ensures;
  picks = c.in_ok-homes.ensures.ok;
  at = λ k. record { block = c.in_ok-homes.homes.inner; offset = c.write_chain-at.ensures.at k };
  after = c.set_touched.ensures ∙ ap₂ (λ (u : Table) (bs : List ℕ). with_touched u bs)
      (c.write_chain-at.ensures.table ∙ ap₂ (λ (ts : List Tuple) (ns : List ℕ). table_below c.pick_homes.new.table c.args.head c.args.parent c.args.node c.in_ok-homes.homes.inner c.in_ok-homes.homes.rest c.args.parts.inner (λ j. taken_by j (take c.plan_lists-plan.result.count ts) ns) c.plan_lists-plan.result.cut (length c.args.parts.links)) c.as_slice.ensures c.as_slice-2.ensures)
      (c.touched_by-touched.ensures ∙ ap₂ (λ a b. blocks_touched c.args.head.block c.args.parent.block c.in_ok-homes.homes a b) c.page_count-before.ensures.value c.page_count.ensures.value);
}

pub returns-in_err-homes-clause-full : goal.returns-in_err-homes-clause-full
returns-in_err-homes-clause-full c = λ h.
    let full : AreHomesFull c.args.table.now c.args.head.block c.args.parent.block (size_of c.args.parts.inner + 4) c.plan_lists-plan.result.rest c.args.seat = search rules in
    (c.left_without.result, subst (λ (s : Sheet). IsLeft s.tuples c.args.head.offset c.left_without.result) c.page.ensures c.left_without.ensures.left, c.plan_lists-plan.result, c.plan_lists-plan.ensures.plan, full)
