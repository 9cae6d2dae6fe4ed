use Rattle.std.proofs.Common.{arith}
use Rattle.spg_split.proofs.Emptying.{leaves_room}
use Rattle.spg_split.proofs.plan.left_without.Goals as goal

pub overflow_add-result : goal.overflow_add-result
overflow_add-result c = let a = (leaves_room c.args.page.now.tuples c.args.head c.free-free.result c.placeholders-gaps.result c.chain_size-size.result.tuples c.chain_size-size.result.bytes c.requires.chained c.requires.begins c.requires.some c.chain_size-size.ensures.tuples c.chain_size-size.ensures.bytes c.free-free.ensures.room c.placeholders-gaps.ensures).sum in omega arith

pub overflow_mul-result : goal.overflow_mul-result
overflow_mul-result c = let a = (leaves_room c.args.page.now.tuples c.args.head c.free-free.result c.placeholders-gaps.result c.chain_size-size.result.tuples c.chain_size-size.result.bytes c.requires.chained c.requires.begins c.requires.some c.chain_size-size.ensures.tuples c.chain_size-size.ensures.bytes c.free-free.ensures.room c.placeholders-gaps.ensures).few in omega arith

pub overflow_sub-result : goal.overflow_sub-result
overflow_sub-result c = (leaves_room c.args.page.now.tuples c.args.head c.free-free.result c.placeholders-gaps.result c.chain_size-size.result.tuples c.chain_size-size.result.bytes c.requires.chained c.requires.begins c.requires.some c.chain_size-size.ensures.tuples c.chain_size-size.ensures.bytes c.free-free.ensures.room c.placeholders-gaps.ensures).less

pub overflow_add-result-2 : goal.overflow_add-result-2
overflow_add-result-2 c = let a = (leaves_room c.args.page.now.tuples c.args.head c.free-free.result c.placeholders-gaps.result c.chain_size-size.result.tuples c.chain_size-size.result.bytes c.requires.chained c.requires.begins c.requires.some c.chain_size-size.ensures.tuples c.chain_size-size.ensures.bytes c.free-free.ensures.room c.placeholders-gaps.ensures).few in omega arith

pub returns-clause-left : goal.returns-clause-left
returns-clause-left c = (leaves_room c.args.page.now.tuples c.args.head c.free-free.result c.placeholders-gaps.result c.chain_size-size.result.tuples c.chain_size-size.result.bytes c.requires.chained c.requires.begins c.requires.some c.chain_size-size.ensures.tuples c.chain_size-size.ensures.bytes c.free-free.ensures.room c.placeholders-gaps.ensures).left

pub returns-clause-bound : goal.returns-clause-bound
returns-clause-bound c = (leaves_room c.args.page.now.tuples c.args.head c.free-free.result c.placeholders-gaps.result c.chain_size-size.result.tuples c.chain_size-size.result.bytes c.requires.chained c.requires.begins c.requires.some c.chain_size-size.ensures.tuples c.chain_size-size.ensures.bytes c.free-free.ensures.room c.placeholders-gaps.ensures).bound
