-- The value behind a reference that never ends.
use Rattle.std.specs.Prelude.{Option, Some, None}
use Rattle.std.specs.Borrow.{MutBor}
use Rattle.spg_c.specs.declared.shell.Kept.{Kept}

abbrev pub behind : Option (MutBor Kept) → Option Kept
behind None = None
behind (Some x) = Some x.now
