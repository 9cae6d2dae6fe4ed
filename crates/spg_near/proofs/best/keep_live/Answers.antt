use Rattle.std.proofs.Common.{◌≡◌, ◌≤◌, ◌++◌, ◌+◌, ◌∷◌, [], List, take, sym, ap, ◌∙◌, subst, ⊎_elim, append_assoc, append-nil, arith, vec_len, vec_capacity}
use Rattle.std.specs.BinaryHeap.{heap_items, heap_len, heap_capacity, IsHeap}
use Rattle.std.proofs.lemmas.Bool.{false≢true}
use Rattle.std.proofs.lemmas.List.{take_more, take_all}
use Rattle.spg_near.specs.declared.near_row.NearRow.{NearRow as Row}
use Rattle.spg_near.specs.Best.{AreBest, KeepsLive}
use Rattle.spg_near.specs.Nearing.{near_cmp, live_of}
use Rattle.spg_near.proofs.Bests.{keeps_best}
use Rattle.spg_near.proofs.Needed.{needed_none, kept_then, live_append, leaf_kept, leaf_left}
use Rattle.spg_near.proofs.best.keep_live.Goals as goal
use Rattle.spg_near.proofs.best.keep_live.Goals.{then-is_wanted, else-is_wanted}

pub loop-leaf-init : goal.loop-leaf-init
loop-leaf-init g c = record {
  room = c.requires.room;
  heap = c.requires.heap;
  few = c.requires.few;
  best = c.requires.best;
  spare = omega (arith, c.requires.spare);
  kept = ([], sym (append-nil c.args.found.now.items), needed_none c.args.limit c.args.found.now.items);
  all = λ h. sym (append-nil c.args.found.now.items);
}

pub loop-leaf-preserved : goal.loop-leaf-preserved
loop-leaf-preserved g c =
    let limit = c.args.limit in
    let table = c.args.rows.now in
    let xs = c.args.leaves.now in
    let i = c.loop-leaf.leaf-index in
    let x = c.leaf-item.result in
    let start = c.args.found.now.items in
    let was = c.loop-leaf.found.items in
    let best = heap_items c.loop-leaf.best in
    let I = c.loop-leaf.invariant in
    let live = live_of table (take i xs) in
    let one = live_of table (x ∷ []) in
    let last : take (i + 1) xs ≡ take i xs ++ x ∷ [] = take_more xs i x c.loop-leaf-test.true ∙ ap (λ (z : Row). take i xs ++ (z ∷ [])) (sym c.leaf-item.is) in
    let more : live ++ one ≡ live_of table (take (i + 1) xs) = sym (ap (live_of table) last ∙ live_append table (take i xs) (x ∷ [])) in
    elim c.if-is_wanted.branch [
      | then-is_wanted w ↦
          let alive : one ≡ x ∷ [] = c.is_wanted.ensures.live w.if-is_wanted.true in
          let to : c.if-is_wanted.found.items ≡ was ++ x ∷ [] = ap (λ f. f.items) w.found-is ∙ w.add.ensures.items in
          let kept : KeepsLive limit was (was ++ x ∷ []) one = leaf_kept limit was table x alive in
          record {
            room = subst (λ b. limit ≤ heap_capacity b) (sym w.best-is) w.keep.ensures.room;
            heap = subst (λ b. IsHeap near_cmp (heap_items b)) (sym w.best-is) w.keep.ensures.heap;
            few = subst (λ b. heap_len b ≤ limit) (sym w.best-is) w.keep.ensures.few;
            best = subst (λ b. AreBest limit c.if-is_wanted.found.items (heap_items b)) (sym w.best-is)
                (subst (λ (f : List Row). AreBest limit f (heap_items w.keep.new.best)) (sym to) (keeps_best limit x was best (heap_items w.keep.new.best) I.best w.keep.ensures.kept));
            spare = omega (arith, I.spare, ap vec_len w.found-is, ap vec_capacity w.found-is, w.add.ensures.len, w.add.ensures.capacity);
            kept = subst (λ (ys : List Row). KeepsLive limit start c.if-is_wanted.found.items ys) more
                (subst (λ (f : List Row). KeepsLive limit start f (live ++ one)) (sym to) (kept_then limit start was (was ++ x ∷ []) live one I.kept kept));
            all = λ h. to ∙ ap (λ (f : List Row). f ++ x ∷ []) (I.all h) ∙ append_assoc start live (x ∷ []) ∙ ap (λ (z : List Row). start ++ (live ++ z)) (sym alive) ∙ ap (λ (z : List Row). start ++ z) more;
          }
      | else-is_wanted w ↦
          let to : c.if-is_wanted.found.items ≡ was = ap (λ f. f.items) w.found-is in
          let left : KeepsLive limit was was one = leaf_left limit was table x best I.best (⊎_elim (λ e. absurd (false≢true (sym w.if-is_wanted.false ∙ e))) (λ o. o) c.is_wanted.ensures.out) in
          record {
            room = subst (λ b. limit ≤ heap_capacity b) (sym w.best-is) I.room;
            heap = subst (λ b. IsHeap near_cmp (heap_items b)) (sym w.best-is) I.heap;
            few = subst (λ b. heap_len b ≤ limit) (sym w.best-is) I.few;
            best = subst (λ b. AreBest limit c.if-is_wanted.found.items (heap_items b)) (sym w.best-is) (subst (λ (f : List Row). AreBest limit f best) (sym to) I.best);
            spare = omega (arith, I.spare, ap vec_len w.found-is, ap vec_capacity w.found-is);
            kept = subst (λ (ys : List Row). KeepsLive limit start c.if-is_wanted.found.items ys) more
                (subst (λ (f : List Row). KeepsLive limit start f (live ++ one)) (sym to) (kept_then limit start was was live one I.kept left));
            all = λ h.
                let none : one ≡ [] = ⊎_elim (λ e. absurd (false≢true (sym w.if-is_wanted.false ∙ e))) (λ o. o) (c.is_wanted.ensures.all h) in
                to ∙ I.all h ∙ ap (λ (z : List Row). start ++ z) (sym (append-nil live) ∙ ap (λ (z : List Row). live ++ z) (sym none) ∙ more);
          }
    ]

pub returns-clause-kept : goal.returns-clause-kept
returns-clause-kept g c =
    let e : take c.loop-leaf.leaf-index c.args.leaves.now ≡ c.args.leaves.now = take_all c.loop-leaf.leaf-index c.args.leaves.now c.loop-leaf-test.false in
    subst (λ (ys : List Row). KeepsLive c.args.limit c.args.found.now.items c.loop-leaf.found.items (live_of c.args.rows.now ys)) e c.loop-leaf.invariant.kept

pub returns-clause-all : goal.returns-clause-all
returns-clause-all g c = λ h.
    let e : take c.loop-leaf.leaf-index c.args.leaves.now ≡ c.args.leaves.now = take_all c.loop-leaf.leaf-index c.args.leaves.now c.loop-leaf-test.false in
    c.loop-leaf.invariant.all h ∙ ap (λ (ys : List Row). c.args.found.now.items ++ live_of c.args.rows.now ys) e
