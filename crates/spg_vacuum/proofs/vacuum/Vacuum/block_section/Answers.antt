use Rattle.std.proofs.Common.{◌+◌, ◌-◌, ◌^◌, ℕ, length, ap, ap₂, ◌∙◌, arith}
use Rattle.std.specs.Prelude.{nat_lt, min}
use Rattle.std.specs.BTreeSet.{contains}
use Rattle.std.proofs.lemmas.Bool.{ltb-true}
use Rattle.spg_base.specs.Row.{row_cmp}
use Rattle.spg_vacuum.specs.declared.vacuum.Vacuum.{Vacuum}
use Rattle.spg_vacuum.specs.Listing.{Listing}
use Rattle.spg_vacuum.proofs.Keeping.{block_next, block_kept}
use Rattle.spg_vacuum.proofs.Holders.{on_err, block_free}
use Rattle.spg_vacuum.proofs.vacuum.Vacuum.block_section.Goals as goal

pub handle_block-requires-clause-block : goal.handle_block-requires-clause-block
handle_block-requires-clause-block g c = (c.requires.vacuum.from, ltb-true c.args.self.now.next (length c.args.table.now.pages) (block_next c.args.self.now.pending.todo (nat_lt c.args.self.now.next (length c.args.table.now.pages)) c.requires.next).1)

pub overflow_add-self : goal.overflow_add-self
overflow_add-self g c =
    let a = ltb-true c.args.self.now.next (length c.args.table.now.pages) (block_next c.args.self.now.pending.todo (nat_lt c.args.self.now.next (length c.args.table.now.pages)) c.requires.next).1 in
    let s = c.page_count-count.ensures.sound in
    let w = s.within in let l = s.limit_to in omega arith

pub returns-clause-keeps : goal.returns-clause-keeps
returns-clause-keeps g c =
    let v : Vacuum = c.args.self.now in
    let mk : ℕ → Listing → Vacuum = λ s p. record v { next = v.next + 1; swept = s; pending = p } in
    block_kept g.O.OpClass.meaning c.args.table.now c.args.self.now (contains row_cmp c.args.targets.now.rows) c.args.horizon c.requires.shape c.requires.vacuum c.requires.horizon c.handle_block.new.table _ c.in_ok-rows.rows
    (ltb-true c.args.self.now.next (length c.args.table.now.pages) (block_next c.args.self.now.pending.todo (nat_lt c.args.self.now.next (length c.args.table.now.pages)) c.requires.next).1)
    c.in_ok-rows.ensures.ok (ap₂ mk (c.saturating_add-self.ensures ∙ ap (λ n. min (v.swept + n) (2 ^ 64 - 1)) c.len.ensures) c.in_ok-rows.ensures.list)

pub returns-in_err-rows-clause-latched : goal.returns-in_err-rows-clause-latched
returns-in_err-rows-clause-latched g c = on_err c.from_residual.result (block_free c.args.table.now c.args.self.now c.args.seat c.requires.next c.in_default.ensures)
