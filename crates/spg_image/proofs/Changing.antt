-- Calls on one name, one after another.
use Rattle.std.proofs.Common.{ℕ, List, Option, Some, None, ◌∙◌}
use Rattle.spg_io.specs.Held.{Holding, Stays, Changes}

-- two changes of one name are one
pub changes_then : (a b c : Option Holding) (name : List ℕ) (P Q R : Option (List ℕ) → Option (List ℕ) → Type 0) → Changes a b name P → Changes b c name Q → ((x y z : Option (List ℕ)) → P x y → Q y z → R x z) → Changes a c name R
changes_then None b c name P Q R p q f = tt
changes_then (Some a) None c name P Q R p q f = absurd p
changes_then (Some a) (Some b) None name P Q R p q f = absurd q
changes_then (Some a) (Some b) (Some c) name P Q R p q f = (f (a name) (b name) (c name) p.0 q.0, λ other ne. q.1 other ne ∙ p.1 other ne)

-- nothing is changed behind a change
pub changes_stays : (a b c : Option Holding) (name : List ℕ) (P R : Option (List ℕ) → Option (List ℕ) → Type 0) → Changes a b name P → Stays b c → ((x y : Option (List ℕ)) → P x y → R x y) → Changes a c name R
changes_stays None b c name P R p q f = tt
changes_stays (Some a) None c name P R p q f = absurd p
changes_stays (Some a) (Some b) None name P R p q f = absurd q
changes_stays (Some a) (Some b) (Some c) name P R p q f = (rw (q name) (f (a name) (b name) p.0), λ other ne. q other ∙ p.1 other ne)

-- a change tells less
pub changes_less : (a b : Option Holding) (name : List ℕ) (P R : Option (List ℕ) → Option (List ℕ) → Type 0) → Changes a b name P → ((x y : Option (List ℕ)) → P x y → R x y) → Changes a b name R
changes_less None b name P R p f = tt
changes_less (Some a) None name P R p f = absurd p
changes_less (Some a) (Some b) name P R p f = (f (a name) (b name) p.0, p.1)
