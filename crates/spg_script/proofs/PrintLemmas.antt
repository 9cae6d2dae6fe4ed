-- What the parts of the printer add is what is printed.
use Rattle.std.proofs.Common.{◌≡◌, ◌<◌, ◌+◌, ◌/◌, ◌%◌, ℕ, suc, Bool, true, false, cond, List, [], ◌∷◌, ◌++◌, length, map, take, drop, slice_index, Ok, Err, inl, inr, refl, sym, ap, ◌∙◌, arith, add-one}
use Rattle.std.specs.Prelude.{codes}
use Rattle.std.specs.List.{flat_map}
use Rattle.std.proofs.lemmas.List.{append_assoc}
use Rattle.spg_script.specs.declared.command.Command.{Command}
use Rattle.spg_script.specs.Blocks.{Part, Script}
use Rattle.spg_script.specs.Spelling.{class_text}
use Rattle.spg_script.specs.Quoted.{is_plain, hex_digit, byte_text}
use Rattle.spg_script.specs.Script.{Saying, says, block_ends, lane_sayings, block_sayings, sayings, saying_text, command_text, printed, IsScript, IsWritten}
use Rattle.spg_script.specs.Printing.{plain_before, commands_text, lanes_text, block_text, part_text}
use Rattle.spg_script.specs.declared.refused.ScriptRefused.TheVariants.{BadLine, Memory}
use Rattle.spg_script.specs.Refusal.{PrintsReadBack}
use Rattle.spg_script.proofs.Scripts.{exact}
use Rattle.spg_script.proofs.TextLemmas.{one_more, none_before}

-- ---- runs of plain bytes

abbrev escape : ℕ → List ℕ
escape b = 92 ∷ 120 ∷ hex_digit (b / 16) ∷ hex_digit (b % 16) ∷ []

plain_byte : (b : ℕ) (rest : List ℕ) → is_plain b ≡ true → byte_text b ++ rest ≡ b ∷ rest
plain_byte b rest e = ap (λ (t : Bool). cond t (b ∷ []) (escape b) ++ rest) e

other_byte : (b : ℕ) (rest : List ℕ) → is_plain b ≡ false → byte_text b ++ rest ≡ escape b ++ rest
other_byte b rest e = ap (λ (t : Bool). cond t (b ∷ []) (escape b) ++ rest) e

run : (bytes : List ℕ) (n : ℕ) → n ≡ plain_before bytes → flat_map byte_text bytes ≡ take n bytes ++ flat_map byte_text (drop n bytes)
run [] n is = rw is refl
run (b ∷ bytes) n is = go (is_plain b) (run bytes (plain_before bytes) refl) refl
  where
    go : (t : Bool) → flat_map byte_text bytes ≡ take (plain_before bytes) bytes ++ flat_map byte_text (drop (plain_before bytes) bytes) → is_plain b ≡ t → byte_text b ++ flat_map byte_text bytes ≡ take n (b ∷ bytes) ++ flat_map byte_text (drop n (b ∷ bytes))
    go true more e = let now : n ≡ suc (plain_before bytes) = is ∙ one_more b bytes e in rw now (plain_byte b (flat_map byte_text bytes) e ∙ ap (λ l. b ∷ l) more)
    go false more e = let now : n ≡ 0 = is ∙ none_before b bytes e in rw now refl

behind : (bytes : List ℕ) (n : ℕ) → n ≡ plain_before bytes → n < length bytes → flat_map byte_text (drop n bytes) ≡ escape (slice_index bytes n) ++ flat_map byte_text (drop (n + 1) bytes)
behind [] n is some = absurd (omega (arith, some))
behind (b ∷ bytes) n is some = go (is_plain b) (λ there. behind bytes (plain_before bytes) refl there) refl
  where
    go : (t : Bool)
        → (plain_before bytes < length bytes → flat_map byte_text (drop (plain_before bytes) bytes) ≡ escape (slice_index bytes (plain_before bytes)) ++ flat_map byte_text (drop (plain_before bytes + 1) bytes)) → is_plain b ≡ t
        → flat_map byte_text (drop n (b ∷ bytes)) ≡ escape (slice_index (b ∷ bytes) n) ++ flat_map byte_text (drop (n + 1) (b ∷ bytes))
    go true more e =
        let now : n ≡ suc (plain_before bytes) = is ∙ one_more b bytes e in
        rw (add-one n, now) (more (omega (arith, some, now)) ∙ rw (add-one (plain_before bytes)) refl)
    go false more e = let now : n ≡ 0 = is ∙ none_before b bytes e in rw now (other_byte b (flat_map byte_text bytes) e)

module _ (bytes old : List ℕ) (plain : ℕ) (is : plain ≡ plain_before bytes) where
  pub all_plain : (new : List ℕ) → new ≡ old ++ take plain bytes → new ++ flat_map byte_text (drop plain bytes) ≡ old ++ flat_map byte_text bytes
  all_plain new added = ap (λ l. l ++ flat_map byte_text (drop plain bytes)) added ∙ append_assoc old (take plain bytes) (flat_map byte_text (drop plain bytes)) ∙ ap (λ l. old ++ l) (sym (run bytes plain is))

  pub one_escaped : (mid new : List ℕ) → mid ≡ old ++ take plain bytes → plain < length bytes → new ≡ mid ++ escape (slice_index bytes plain) → new ++ flat_map byte_text (drop (plain + 1) bytes) ≡ old ++ flat_map byte_text bytes
  one_escaped mid new added there more =
      let rest : escape (slice_index bytes plain) ++ flat_map byte_text (drop (plain + 1) bytes) ≡ flat_map byte_text (drop plain bytes) = sym (behind bytes plain is there) in
      ap (λ l. l ++ flat_map byte_text (drop (plain + 1) bytes)) more ∙ append_assoc mid (escape (slice_index bytes plain)) (flat_map byte_text (drop (plain + 1) bytes)) ∙ ap (λ l. mid ++ l) rest ∙ all_plain mid added

-- ---- lines

abbrev ended : List Saying → List ℕ
ended ss = flat_map (λ line. line ++ 10 ∷ []) (map saying_text ss)

ended_append : (ss more : List Saying) → ended (ss ++ more) ≡ ended ss ++ ended more
ended_append [] more = refl
ended_append (s ∷ ss) more = ap (λ l. (saying_text s ++ 10 ∷ []) ++ l) (ended_append ss more) ∙ sym (append_assoc (saying_text s ++ 10 ∷ []) (ended ss) (ended more))

commands_are : (lane : List Command) → ended (map says lane) ≡ commands_text lane
commands_are [] = refl
commands_are (c ∷ lane) = ap (λ l. (command_text c ++ 10 ∷ []) ++ l) (commands_are lane)

lanes_are : (lanes : List (List Command)) → ended (lane_sayings lanes) ≡ lanes_text lanes
lanes_are [] = refl
lanes_are (lane ∷ lanes) =
    ap (λ l. codes "lane\n" ++ l) (ended_append (map says lane) (lane_sayings lanes) ∙ ap (λ l. l ++ ended (lane_sayings lanes)) (commands_are lane) ∙ ap (λ l. commands_text lane ++ l) (lanes_are lanes))

flat_says : (lanes : List (List Command)) → ended (flat_map (map says) lanes) ≡ flat_map commands_text lanes
flat_says [] = refl
flat_says (lane ∷ lanes) = ended_append (map says lane) (flat_map (map says) lanes) ∙ ap (λ l. l ++ ended (flat_map (map says) lanes)) (commands_are lane) ∙ ap (λ l. commands_text lane ++ l) (flat_says lanes)

block_is : (together : Bool) (lanes : List (List Command)) → ended (block_sayings together lanes) ≡ block_text together lanes
block_is true lanes = ap (λ l. codes "together\n" ++ l) (ended_append (lane_sayings lanes) (block_ends ∷ []) ∙ ap (λ l. l ++ codes "end\n") (lanes_are lanes))
block_is false lanes = flat_says lanes

parts_are : (parts : List Part) → ended (sayings parts) ≡ flat_map part_text parts
parts_are [] = refl
parts_are (p ∷ parts) =
    ended_append (block_sayings p.together p.lanes) (sayings parts) ∙ ap (λ l. l ++ ended (sayings parts)) (block_is p.together p.lanes) ∙ ap (λ l. part_text p ++ l) (parts_are parts)

pub printed_is : (script : Script) → (class_text script.class ++ 10 ∷ []) ++ flat_map part_text script.parts ≡ printed script
printed_is script = ap (λ l. (class_text script.class ++ 10 ∷ []) ++ l) (sym (parts_are script.parts))

pub printed_spells : (script : Script) → IsWritten script → IsScript (printed script) script
printed_spells script w = exact.printed_spells script (exact.tidy w.bytes script w.are_bytes w.is_script)

pub printed_alone : (script : Script) → IsWritten script → (other : Script) → IsScript (printed script) other → other ≡ script
printed_alone script w other is = exact.one (printed script) other script is (printed_spells script w)

pub reads_back : PrintsReadBack
reads_back script w (Ok other) answer = inl (ap (λ (s : Script). Ok s) (printed_alone script w other answer.found))
reads_back script w (Err (BadLine n)) answer = absurd (answer.bad.1 script (printed_spells script w))
reads_back script w (Err Memory) answer = inr refl
