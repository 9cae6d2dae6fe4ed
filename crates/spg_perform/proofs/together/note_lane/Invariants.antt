use Rattle.std.proofs.Common.{◌≡◌, ◌+◌, ◌++◌, vec_len}
use Rattle.std.specs.Vec.Iter.{into_iter_items, into_iter_len}
use Rattle.spg_perform.proofs.together.note_lane.Given as goal

abbrev pub invariant-loop-done : goal.invariant-loop-done
invariant-loop-done l = record {
  records : l.book.records ++ into_iter_items l.done-iterator ≡ l.fn.book.records ++ l.fn.records.items;
  room : l.book.spare + vec_len l.fn.records ≡ l.fn.book.spare + into_iter_len l.done-iterator;
}
