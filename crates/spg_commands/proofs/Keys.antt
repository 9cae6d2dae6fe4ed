-- Keys of scripts and keys of a class.
use Rattle.std.proofs.Common.{◌≡◌, false, Option, Some, None, refl}
use Rattle.std.specs.Prelude.{is_none, option_map}
use Rattle.spg_script.specs.declared.any_key.AnyKey.{AnyKey}
use Rattle.spg_script.specs.Speech.{Speech, key_or_null_in}

some_key : {Key : Type 0} (found : Option Key) (k : Option Key) → option_map (λ x. Some x) found ≡ Some k → is_none k ≡ false
some_key None k is = (cc)
some_key (Some x) None is = (cc)
some_key (Some x) (Some y) is = refl

-- a null is the class's null
pub same_null : {Key Cond : Type 0} (speech : Speech Key Cond) (key : Option AnyKey) (k : Option Key) → key_or_null_in speech key ≡ Some k → is_none k ≡ is_none key
same_null speech None None is = refl
same_null speech None (Some x) is = (cc)
same_null speech (Some key) k is = some_key (speech.key_in key) k is
