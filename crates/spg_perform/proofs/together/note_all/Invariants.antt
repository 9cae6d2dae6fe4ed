use Rattle.std.proofs.Common.{◌≡◌, ◌+◌, ◌++◌, length, map}
use Rattle.std.specs.Vec.Iter.{into_iter_items}
use Rattle.spg_histories.specs.Blocks.{joined}
use Rattle.spg_perform.proofs.together.note_all.Given as goal

abbrev pub invariant-loop-post : goal.invariant-loop-post
invariant-loop-post g l = record {
  records : l.book.records ++ joined (map (λ p. p.task.records.items) (into_iter_items l.post-iterator)) ≡ l.fn.book.records ++ joined (map (λ p. p.task.records.items) l.fn.posts.items);
  room : l.book.spare + length (joined (map (λ p. p.task.records.items) l.fn.posts.items)) ≡ l.fn.book.spare + length (joined (map (λ p. p.task.records.items) (into_iter_items l.post-iterator)));
}
