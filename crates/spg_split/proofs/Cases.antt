-- What a division at a root, or one below it, says of both.
use Rattle.std.proofs.Common.{Result, Ok, Err, IfOk, OnOk}
use Rattle.spg_tree.specs.declared.stand.Stand.{Stand}
use Rattle.spg_split.specs.Splits.{IsAtRoot}
use Rattle.spg_split.specs.Cases.{ByCase}

-- at a root
pub root_case : (stand : Stand) (A B : Type 0) → IsAtRoot stand → A → ByCase stand A B
root_case stand A B low a = record { root = λ r. a; below = λ no. absurd (no low) }

-- a fact of each good outcome, which the outcome does not name
pub ok_named : {T E : Type 0} (r : Result T E) (P : Type 0) (Q : T → Type 0) → ((a : T) → P → Q a) → OnOk r P → IfOk r Q
ok_named (Ok a) P Q h p = h a p
ok_named (Err e) P Q h p = tt
