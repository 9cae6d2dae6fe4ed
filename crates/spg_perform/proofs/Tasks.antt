-- The commands of lanes and of blocks with one more at the end, and how many they are.
use Rattle.std.proofs.Common.{◌≡◌, ◌<◌, ◌+◌, ℕ, suc, Bool, true, not, List, [], ◌∷◌, ◌++◌, length, take, get_or, length-append, refl, sym, ap, ◌∙◌, arith}
use Rattle.std.proofs.lemmas.List.{append-nil, append_assoc, take_more}
use Rattle.spg_script.specs.declared.command.Command.{Command}
use Rattle.spg_script.specs.Blocks.{Part}
use Rattle.spg_histories.specs.Tasks.{Task, lane_tasks, lanes_tasks, parts_tasks}

-- ---- one more at the end

pub lane_more : (block seat : ℕ) (alone : Bool) (commands : List Command) (c : Command) → lane_tasks block seat alone (commands ++ c ∷ []) ≡ lane_tasks block seat alone commands ++ record { block = block; seat = seat; alone = alone; command = c } ∷ []
lane_more block seat alone [] c = refl
lane_more block seat alone (x ∷ commands) c = ap (λ (ts : List Task). record { block = block; seat = seat; alone = alone; command = x } ∷ ts) (lane_more block seat alone commands c)

pub lanes_more : (block seat : ℕ) (alone : Bool) (lanes : List (List Command)) (lane : List Command) → lanes_tasks block seat alone (lanes ++ lane ∷ []) ≡ lanes_tasks block seat alone lanes ++ lane_tasks block (seat + length lanes) alone lane
lanes_more block seat alone [] lane =
    let same : seat ≡ seat + 0 = omega arith in
    append-nil (lane_tasks block seat alone lane) ∙ ap (λ (n : ℕ). lane_tasks block n alone lane) same
lanes_more block seat alone (x ∷ lanes) lane =
    let same : seat + 1 + length lanes ≡ seat + suc (length lanes) = omega arith in
    ap (λ (ts : List Task). lane_tasks block seat alone x ++ ts) (lanes_more block (seat + 1) alone lanes lane ∙ ap (λ (n : ℕ). lanes_tasks block (seat + 1) alone lanes ++ lane_tasks block n alone lane) same)
    ∙ sym (append_assoc (lane_tasks block seat alone x) (lanes_tasks block (seat + 1) alone lanes) (lane_tasks block (seat + suc (length lanes)) alone lane))

pub parts_more : (block : ℕ) (parts : List Part) (p : Part) → parts_tasks block (parts ++ p ∷ []) ≡ parts_tasks block parts ++ lanes_tasks (block + length parts) 0 (not p.together) p.lanes
parts_more block [] p =
    let same : block ≡ block + 0 = omega arith in
    append-nil (lanes_tasks block 0 (not p.together) p.lanes) ∙ ap (λ (n : ℕ). lanes_tasks n 0 (not p.together) p.lanes) same
parts_more block (x ∷ parts) p =
    let same : block + 1 + length parts ≡ block + suc (length parts) = omega arith in
    ap (λ (ts : List Task). lanes_tasks block 0 (not x.together) x.lanes ++ ts) (parts_more (block + 1) parts p ∙ ap (λ (n : ℕ). parts_tasks (block + 1) parts ++ lanes_tasks n 0 (not p.together) p.lanes) same)
    ∙ sym (append_assoc (lanes_tasks block 0 (not x.together) x.lanes) (parts_tasks (block + 1) parts) (lanes_tasks (block + suc (length parts)) 0 (not p.together) p.lanes))

-- ---- how many there are, whatever the number of the block and the seats are

pub lane_length : (block seat : ℕ) (alone : Bool) (commands : List Command) → length (lane_tasks block seat alone commands) ≡ length commands
lane_length block seat alone [] = refl
lane_length block seat alone (c ∷ commands) = ap suc (lane_length block seat alone commands)

pub lanes_length : (block seat : ℕ) (alone : Bool) (block2 seat2 : ℕ) (alone2 : Bool) (lanes : List (List Command)) → length (lanes_tasks block seat alone lanes) ≡ length (lanes_tasks block2 seat2 alone2 lanes)
lanes_length block seat alone block2 seat2 alone2 [] = refl
lanes_length block seat alone block2 seat2 alone2 (lane ∷ lanes) =
    let first = length-append (lane_tasks block seat alone lane) (lanes_tasks block (seat + 1) alone lanes) in
    let second = length-append (lane_tasks block2 seat2 alone2 lane) (lanes_tasks block2 (seat2 + 1) alone2 lanes) in
    omega (arith, first, second, lane_length block seat alone lane, lane_length block2 seat2 alone2 lane, lanes_length block (seat + 1) alone block2 (seat2 + 1) alone2 lanes)

pub parts_length : (block block2 : ℕ) (parts : List Part) → length (parts_tasks block parts) ≡ length (parts_tasks block2 parts)
parts_length block block2 [] = refl
parts_length block block2 (p ∷ parts) =
    let first = length-append (lanes_tasks block 0 (not p.together) p.lanes) (parts_tasks (block + 1) parts) in
    let second = length-append (lanes_tasks block2 0 (not p.together) p.lanes) (parts_tasks (block2 + 1) parts) in
    omega (arith, first, second, lanes_length block 0 (not p.together) block2 0 (not p.together) p.lanes, parts_length (block + 1) (block2 + 1) parts)

-- ---- one more of them

pub lanes_count : (block seat : ℕ) (alone : Bool) (lanes : List (List Command)) (i : ℕ) (lane : List Command) → i < length lanes → lane ≡ get_or lanes i lane → length (lanes_tasks block seat alone (take (i + 1) lanes)) ≡ length (lanes_tasks block seat alone (take i lanes)) + length lane
lanes_count block seat alone lanes i lane within here =
    let more : take (i + 1) lanes ≡ take i lanes ++ lane ∷ [] = take_more lanes i lane within ∙ ap (λ (x : List Command). take i lanes ++ x ∷ []) (sym here) in
    let tasks = ap (λ (ls : List (List Command)). length (lanes_tasks block seat alone ls)) more ∙ ap length (lanes_more block seat alone (take i lanes) lane) in
    let both = length-append (lanes_tasks block seat alone (take i lanes)) (lane_tasks block (seat + length (take i lanes)) alone lane) in
    omega (arith, tasks, both, lane_length block (seat + length (take i lanes)) alone lane)

pub parts_count : (block : ℕ) (parts : List Part) (i : ℕ) (p : Part) → i < length parts → p ≡ get_or parts i p → length (parts_tasks block (take (i + 1) parts)) ≡ length (parts_tasks block (take i parts)) + length (lanes_tasks 0 0 true p.lanes)
parts_count block parts i p within here =
    let more : take (i + 1) parts ≡ take i parts ++ p ∷ [] = take_more parts i p within ∙ ap (λ (x : Part). take i parts ++ x ∷ []) (sym here) in
    let tasks = ap (λ (ps : List Part). length (parts_tasks block ps)) more ∙ ap length (parts_more block (take i parts) p) in
    let at = block + length (take i parts) in
    let both = length-append (parts_tasks block (take i parts)) (lanes_tasks at 0 (not p.together) p.lanes) in
    omega (arith, tasks, both, lanes_length at 0 (not p.together) 0 0 true p.lanes)
