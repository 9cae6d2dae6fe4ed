-- Where a list of bytes has them. No public clause cites this module.
use Rattle.std.specs.Prelude.{ℕ, List}
use Rattle.spg_base.specs.declared.lists.Store.{Store}
use Rattle.spg_base.specs.declared.lists.Store.TheVariants.{Short, Long}

abbrev pub stored_bytes : Store → List ℕ
stored_bytes (Short bytes) = bytes
stored_bytes (Long bytes) = bytes.items
