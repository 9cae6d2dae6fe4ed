-- What a holder is once the state was lent for change.
use denote.RattleType.{RattleType}
use Rattle.std.specs.Borrow.{Lends, MutBor, Fml}
use Rattle.spg_turn.specs.contracts.pass.Held.{the_row}
use Rattle.spg_turn.specs.Passes.{with_state}

module _ (S E : RattleType) where
  -- the holder ends with the last value behind r as its state
  abbrev pub LendsState : MutBor (the_row S E).Denot → MutBor S.Denot → Fml
  LendsState h r = Lends (the_row S E) S h r (with_state h.now)
