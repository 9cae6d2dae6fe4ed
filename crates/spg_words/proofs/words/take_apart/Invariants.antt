use Rattle.std.proofs.Common.{◌≡◌, drop, map, string_bytes}
use Rattle.spg_words.specs.Reading.{nothing, taken, read, read_on}
use Rattle.spg_words.proofs.words.take_apart.Given as goal

-- what is left makes of what was read what all words make
abbrev pub invariant-loop-word : goal.invariant-loop-word
invariant-loop-word l = read nothing (map string_bytes l.words) ≡ read_on (taken l.reader) (map string_bytes (drop l.word-index l.words))
