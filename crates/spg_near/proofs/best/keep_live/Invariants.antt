use Rattle.std.proofs.Common.{◌≡◌, ◌≤◌, ◌+◌, ◌++◌, length, take, IsTrue, vec_len, vec_capacity}
use Rattle.std.specs.BinaryHeap.{heap_items, heap_len, heap_capacity, IsHeap}
use Rattle.spg_near.specs.Nearing.{near_cmp, live_of}
use Rattle.spg_near.specs.Best.{AreBest, KeepsLive}
use Rattle.spg_near.proofs.best.keep_live.Given as goal

abbrev pub invariant-loop-leaf : goal.invariant-loop-leaf
invariant-loop-leaf g l = record {
  room : l.limit ≤ heap_capacity l.best;
  heap : IsHeap near_cmp (heap_items l.best);
  few : heap_len l.best ≤ l.limit;
  best : AreBest l.limit l.found.items (heap_items l.best);
  spare : vec_len l.found + length l.leaves ≤ vec_capacity l.found + l.leaf-index;
  kept : KeepsLive l.limit l.initial.found.items l.found.items (live_of l.rows (take l.leaf-index l.leaves));
  all : IsTrue l.all → l.found.items ≡ l.initial.found.items ++ live_of l.rows (take l.leaf-index l.leaves);
}
