-- A script is read line by line.
use Rattle.std.proofs.Common.{◌≡◌, ◌≢◌, ◌<◌, ◌≤◌, ◌+◌, ◌-◌, ◌^◌, ℕ, Bool, true, false, List, [], ◌∷◌, ◌++◌, length, Option, Some, None, refl, sym, ap, ◌∙◌, subst, arith, length-append, append-nil}
use Rattle.std.specs.Prelude.{filter, codes}
use Rattle.std.proofs.lemmas.List.{append_assoc}
use Rattle.spg_radix.specs.Texts.{is_bytes}
use Rattle.spg_script.specs.declared.class_line.ClassLine.{ClassLine}
use Rattle.spg_script.specs.declared.command.Command.{Command}
use Rattle.spg_script.specs.declared.open_block.OpenBlock.{OpenBlock}
use Rattle.spg_script.specs.declared.open_block.OpenBlock.TheVariants.{Empty, InLane}
use Rattle.spg_script.specs.declared.refused.ScriptRefused.TheVariants.{BadLine}
use Rattle.spg_script.specs.Blocks.{Part, alone_part, block_part, Script}
use Rattle.spg_script.specs.Line.{keys_of, SpellsCommand}
use Rattle.spg_script.specs.Script.{lines_of, says_something, IsLaneCommand, IsScript, IsFirstBad, IsWritten}
use Rattle.spg_script.specs.Reader.{Place, at_start, between, inside, LeadTo, Refuses, IsEnd, script_at}
use Rattle.spg_script.specs.Steps.{lanes_of, place_at, Steps, GoesOn}
use Rattle.spg_script.specs.Refusal.{IsCause}
use Rattle.spg_script.proofs.Places.{find, go_on}
use Rattle.spg_script.proofs.Scripts.{exact}

-- ---- one line

pub takes_nothing : (p : Place) (line : List ℕ) → says_something line ≡ false → GoesOn p line true p
takes_nothing p line none = λ lines lead. go_on.silent p lines line none lead

pub goes_by : (p q : Place) (line : List ℕ) (taken : Bool) → says_something line ≡ true → Steps p line taken q → GoesOn p line taken q
goes_by p q line true some steps = λ lines lead. go_on.spoken q lines line some (steps (filter says_something lines) lead)
goes_by p q line false some steps = (some, steps)

-- ---- all lines

-- so far lines led to this place; so many were read, and these bytes are left
pub record ReadSoFar (bytes : List ℕ) (place : Place) (rest : List ℕ) (number : ℕ) : Type 0 where
  pub lines : List (List ℕ)
  pub split : lines_of bytes ≡ lines ++ lines_of rest
  pub lead : LeadTo place (filter says_something lines)
  pub count : number ≡ length lines
  pub room : number + length rest ≤ length bytes

pub read_nothing : (bytes : List ℕ) → ReadSoFar bytes at_start bytes 0
read_nothing bytes = record { lines = []; split = refl; lead = refl; count = refl; room = omega arith }

module _ (bytes : List ℕ) (place : Place) (rest : List ℕ) (number : ℕ) (read : ReadSoFar bytes place rest number) where
  module _ (line after : List ℕ) (split : lines_of rest ≡ line ∷ lines_of after) where
    whole : lines_of bytes ≡ read.lines ++ line ∷ lines_of after
    whole = read.split ∙ ap (λ l. read.lines ++ l) split

    pub read_more : (next : Place) → length after < length rest → GoesOn place line true next → ReadSoFar bytes next after (number + 1)
    read_more next shorter goes = record {
      lines = read.lines ++ line ∷ [];
      split = whole ∙ sym (append_assoc read.lines (line ∷ []) (lines_of after));
      lead = goes read.lines read.lead;
      count = omega (arith, read.count, length-append read.lines (line ∷ []));
      room = omega (arith, read.room);
    }

    pub read_bad : (next : Place) → GoesOn place line false next → IsCause bytes (BadLine (number + 1))
    read_bad next refused =
        let is : IsFirstBad bytes (length read.lines + 1) = find.first_bad place bytes read.lines line (lines_of after) whole read.lead refused.0 refused.1 in
        let bad : IsFirstBad bytes (number + 1) = subst (λ (n : ℕ). IsFirstBad bytes (n + 1)) (sym read.count) is in
        (bad, exact.not_bad bytes (number + 1) bad)

  module _ (at_end : rest ≡ []) where
    all_read : lines_of bytes ≡ read.lines
    all_read = read.split ∙ ap (λ r. read.lines ++ lines_of r) at_end ∙ append-nil read.lines

    lead_all : LeadTo place (filter says_something (lines_of bytes))
    lead_all = subst (λ (l : List (List ℕ)). LeadTo place (filter says_something l)) (sym all_read) read.lead

    pub read_script : (class : ClassLine) (parts : List Part) → place ≡ between class parts → IsScript bytes (script_at class parts)
    read_script class parts is = find.is_script class parts bytes (subst (λ (p : Place). LeadTo p (filter says_something (lines_of bytes))) is lead_all)

    pub read_short : (IsEnd place → ⊥) → IsCause bytes (BadLine (number + 1))
    read_short no_end =
        let is : IsFirstBad bytes (length (lines_of bytes) + 1) = find.early_end place bytes lead_all no_end in
        let same : length (lines_of bytes) ≡ number = ap length all_read ∙ sym read.count in
        let bad : IsFirstBad bytes (number + 1) = subst (λ (n : ℕ). IsFirstBad bytes (n + 1)) same is in
        (bad, exact.not_bad bytes (number + 1) bad)

pub written : (bytes : List ℕ) (script : Script) → is_bytes bytes ≡ true → length bytes < 2 ^ 32 - 1 → IsScript bytes script → IsWritten script
written bytes script are short is = record { bytes = bytes; are_bytes = are; short = omega (arith, short); is_script = is }

-- ---- each kind of line

-- where no block goes on
pub no_block : (class : ClassLine) (parts : List Part) (block : Option OpenBlock) → block ≡ None → place_at class parts block ≡ between class parts
no_block class parts None is = refl
no_block class parts (Some block) is = (cc)

pub block_begins : (class : ClassLine) (parts : List Part) (line : List ℕ) → line ≡ codes "together" → Steps (between class parts) line true (inside class parts [])
block_begins class parts line is = λ spoken lead. subst (λ (l : List ℕ). LeadTo (inside class parts []) (spoken ++ l ∷ [])) (sym is) (go_on.opens class parts spoken lead)

pub command_alone : (class : ClassLine) (parts longer : List Part) (block : Option OpenBlock) (part : Part) (c : Command) (line : List ℕ) → part ≡ alone_part c → longer ≡ parts ++ part ∷ [] → block ≡ None → SpellsCommand (keys_of class) c line
    → Steps (between class parts) line true (place_at class longer block)
command_alone class parts longer block part c line is pushed none spelled =
    let all : longer ≡ parts ++ alone_part c ∷ [] = pushed ∙ ap (λ (p : Part). parts ++ p ∷ []) is in
    λ spoken lead. subst (λ (p : Place). LeadTo p (spoken ++ line ∷ [])) (sym (no_block class longer block none ∙ ap (between class) all)) (go_on.command class parts c spoken line lead spelled)

pub lane_begins : (class : ClassLine) (parts : List Part) (lanes ended : List (List Command)) (lane : List Command) → ended ≡ lanes → lane ≡ [] → length ended < 32 → Steps (inside class parts lanes) (codes "lane") true (inside class parts (ended ++ lane ∷ []))
lane_begins class parts lanes ended lane same empty few =
    let all : ended ++ lane ∷ [] ≡ lanes ++ [] ∷ [] = ap (λ (l : List Command). ended ++ l ∷ []) empty ∙ ap (λ l. l ++ [] ∷ []) same in
    λ spoken lead. subst (λ (l : List (List Command)). LeadTo (inside class parts l) (spoken ++ codes "lane" ∷ [])) (sym all) (go_on.lane class parts lanes spoken lead (subst (λ (l : List (List Command)). length l < 32) same few))

pub block_ends_here : (class : ClassLine) (parts longer : List Part) (block : Option OpenBlock) (lanes ended : List (List Command)) (part : Part) → ended ≡ lanes → 1 ≤ length ended → part ≡ block_part ended → longer ≡ parts ++ part ∷ [] → block ≡ None
    → Steps (inside class parts lanes) (codes "end") true (place_at class longer block)
block_ends_here class parts longer block lanes ended part same some is pushed none =
    let all : longer ≡ parts ++ block_part lanes ∷ [] = pushed ∙ ap (λ (p : Part). parts ++ p ∷ []) (is ∙ ap block_part same) in
    λ spoken lead. subst (λ (p : Place). LeadTo p (spoken ++ codes "end" ∷ [])) (sym (no_block class longer block none ∙ ap (between class) all)) (go_on.ends class parts lanes spoken lead (subst (λ (l : List (List Command)). 1 ≤ length l) same some))

pub command_in_lane : (class : ClassLine) (parts : List Part) (ended : List (List Command)) (block : OpenBlock) (lane longer : List Command) (c : Command) (line : List ℕ) → block ≡ InLane ended lane → longer ≡ lane ++ c ∷ [] → IsLaneCommand c → SpellsCommand (keys_of class) c line
    → Steps (inside class parts (lanes_of block)) line true (inside class parts (ended ++ longer ∷ []))
command_in_lane class parts ended block lane longer c line was pushed is spelled =
    λ spoken lead. subst (λ (l : List Command). LeadTo (inside class parts (ended ++ l ∷ [])) (spoken ++ line ∷ [])) (sym pushed) (go_on.in_lane class parts ended lane c spoken line (subst (λ (l : List (List Command)). LeadTo (inside class parts l) spoken) (ap lanes_of was) lead) is spelled)

pub not_in_lane : (class : ClassLine) (parts : List Part) (block : OpenBlock) (line : List ℕ) → block ≡ Empty → line ≢ codes "lane" → Refuses (inside class parts (lanes_of block)) line
not_in_lane class parts block line is no_lane =
    let none : lanes_of block ≡ [] = ap lanes_of is in (λ at_lane. absurd (no_lane at_lane), λ at_end. none, λ c spelled lane. none)

pub empty_is : (rest : List ℕ) → length rest ≡ 0 → rest ≡ []
empty_is [] is = refl
empty_is (b ∷ rest) is = absurd (omega (arith, is))
