-- A fact of an outcome from another.
use Rattle.std.specs.Prelude.{Result, Ok, Err, IfOk, OnOk}

pub if_ok_then : {A E : Type 0} (r : Result A E) (P Q : A → Type 0) → ((a : A) → P a → Q a) → IfOk r P → IfOk r Q
if_ok_then (Ok a) P Q h p = h a p
if_ok_then (Err b) P Q h p = tt

-- a fact of each good outcome
pub on_ok_then : {A E : Type 0} (r : Result A E) (P : A → Type 0) (Q : Type 0) → ((a : A) → P a → Q) → IfOk r P → OnOk r Q
on_ok_then (Ok a) P Q h p = h a p
on_ok_then (Err b) P Q h p = tt

-- a fact of each good outcome from two
pub on_ok_both : {A E : Type 0} (r : Result A E) (P1 P2 : A → Type 0) (Q : Type 0) → ((a : A) → P1 a → P2 a → Q) → IfOk r P1 → IfOk r P2 → OnOk r Q
on_ok_both (Ok a) P1 P2 Q h p q = h a p q
on_ok_both (Err b) P1 P2 Q h p q = tt
