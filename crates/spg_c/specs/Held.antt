-- The index of a handle.
use Rattle.std.specs.Prelude.{Option, Some, None, if◌then◌else◌}
use Rattle.spg_c.specs.declared.shell.Kept.{Kept}
use Rattle.spg_c.specs.declared.any.AnyIndex.{AnyIndex}
use Rattle.spg_c.specs.declared.any.AnyIndex.TheVariants.{Nothing}
use Rattle.spg_c.specs.declared.handle.SpgIndex.{SpgIndex}
use Rattle.spg_c.specs.Behind.{behind}

abbrev pub in_kept : Option Kept → AnyIndex
in_kept None = Nothing
in_kept (Some k) = k.index

-- what is kept behind the handle, or nothing
abbrev pub index_of : SpgIndex → AnyIndex
index_of h = if h.held then in_kept (behind h.shell.value) else Nothing
