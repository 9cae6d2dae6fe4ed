-- The commands of lanes and of blocks, one lane or one block more.
use Rattle.std.proofs.Common.{◌≡◌, ◌<◌, ◌+◌, ℕ, true, not, List, [], ◌∷◌, ◌++◌, length, take, drop, get_or, sym, ap, ◌∙◌, arith, length-append}
use Rattle.std.proofs.lemmas.List.{length-take-le, at_drop_more}
use Rattle.spg_script.specs.declared.command.Command.{Command}
use Rattle.spg_script.specs.Blocks.{Part}
use Rattle.spg_histories.specs.Tasks.{lane_tasks, lanes_tasks, parts_tasks}
use Rattle.spg_histories.proofs.Calls.{calls_compose}
use Rattle.spg_commands.proofs.Next.{IsNext, up_to_next}
use Rattle.spg_perform.proofs.Tasks.{lane_length, lanes_length, parts_length}

-- ---- in order

pub parts_next : (parts : List Part) (i : ℕ) (p : Part) → IsNext parts i p → parts_tasks 0 (take (i + 1) parts) ≡ parts_tasks 0 (take i parts) ++ lanes_tasks i 0 (not p.together) p.lanes
parts_next parts i p next =
    let number : 0 + length (take i parts) ≡ i = omega (arith, length-take-le i parts (omega (arith, next.within))) in
    ap (parts_tasks 0) (up_to_next parts i p next) ∙ (calls_compose (Unit {0}) (Unit {0}) (Unit {0}) (Unit {0})).tasks 0 (take i parts) p ∙ ap (λ (n : ℕ). parts_tasks 0 (take i parts) ++ lanes_tasks n 0 (not p.together) p.lanes) number

-- ---- how many are left

-- those of a lane, and of the lanes after it
pub lanes_left : (lanes : List (List Command)) (i : ℕ) (lane : List Command) → IsNext lanes i lane
    → length (lanes_tasks 0 0 true (drop i lanes)) ≡ length lane + length (lanes_tasks 0 0 true (drop (i + 1) lanes))
lanes_left lanes i lane next =
    let rest = drop (i + 1) lanes in
    at_drop_more (λ (l : List (List Command)). length (lanes_tasks 0 0 true l)) lanes i lane next.within ∙ ap (λ (l : List Command). length (lanes_tasks 0 0 true (l ∷ rest))) (sym next.here)
    ∙ length-append (lane_tasks 0 0 true lane) (lanes_tasks 0 1 true rest)
    ∙ ap (λ (n : ℕ). n + length (lanes_tasks 0 1 true rest)) (lane_length 0 0 true lane) ∙ ap (λ (n : ℕ). length lane + n) (lanes_length 0 1 true 0 0 true rest)

-- those of a block, and of the blocks after it
pub parts_left : (parts : List Part) (i : ℕ) (p : Part) → IsNext parts i p
    → length (parts_tasks 0 (drop i parts)) ≡ length (lanes_tasks 0 0 true p.lanes) + length (parts_tasks 0 (drop (i + 1) parts))
parts_left parts i p next =
    let rest = drop (i + 1) parts in
    at_drop_more (λ (l : List Part). length (parts_tasks 0 l)) parts i p next.within ∙ ap (λ (q : Part). length (parts_tasks 0 (q ∷ rest))) (sym next.here)
    ∙ length-append (lanes_tasks 0 0 (not p.together) p.lanes) (parts_tasks 1 rest)
    ∙ ap (λ (n : ℕ). n + length (parts_tasks 1 rest)) (lanes_length 0 0 (not p.together) 0 0 true p.lanes) ∙ ap (λ (n : ℕ). length (lanes_tasks 0 0 true p.lanes) + n) (parts_length 1 0 rest)
