-- How far a reader of lines has come.
use Rattle.std.specs.Prelude.{◌≡◌, ◌≢◌, ◌≤◌, ◌<◌, ◌+◌, ℕ, true, false, List, [], ◌∷◌, ◌++◌, filter, length, codes, ⊤}
use Rattle.std.specs.List.{AllZip, AllByRecursion}
use Rattle.spg_script.specs.declared.class_line.ClassLine.{ClassLine}
use Rattle.spg_script.specs.declared.command.Command.{Command}
use Rattle.spg_script.specs.Blocks.{Part, alone_part, block_part, Script}
use Rattle.spg_script.specs.Spelling.{class_text}
use Rattle.spg_script.specs.Line.{keys_of, SpellsCommand}
use Rattle.spg_script.specs.Script.{lines_of, says_something, Saying, block_opens, lane_sayings, sayings, IsLaneCommand, IsPart, Spells, IsScript, CanGoOn, IsFirstBad}

-- nothing was said; the class and blocks were, and no block is open; or a block is open, with these lanes
pub data Place : Type 0 where
  at_start : Place
  between : ClassLine → List Part → Place
  inside : ClassLine → List Part → List (List Command) → Place

-- the first line names the class, and the others say this
abbrev pub SaysFrom : ClassLine → List Saying → List (List ℕ) → Type 0
SaysFrom class ss [] = ⊥
SaysFrom class ss (line ∷ lines) = (line ≡ class_text class) × AllZip (Spells (keys_of class)) ss lines

-- these lines, each of which says something, lead to the place
abbrev pub LeadTo : Place → List (List ℕ) → Type 0
LeadTo at_start spoken = spoken ≡ []
LeadTo (between class parts) spoken = SaysFrom class (sayings parts) spoken × AllByRecursion IsPart parts
LeadTo (inside class parts lanes) spoken =
    SaysFrom class (sayings parts ++ block_opens ∷ lane_sayings lanes) spoken × AllByRecursion IsPart parts × (length lanes ≤ 32) × AllByRecursion (AllByRecursion IsLaneCommand) lanes

-- the line says nothing that may stand there
abbrev pub Refuses : Place → List ℕ → Type 0
Refuses at_start line = (class : ClassLine) → line ≢ class_text class
Refuses (between class parts) line = (line ≢ codes "together") × ((c : Command) → SpellsCommand (keys_of class) c line → ⊥)
Refuses (inside class parts lanes) line =
    (line ≡ codes "lane" → 32 ≤ length lanes) × (line ≡ codes "end" → lanes ≡ []) × ((c : Command) → SpellsCommand (keys_of class) c line → IsLaneCommand c → lanes ≡ [])

-- no block is open, and the class was named
abbrev pub IsEnd : Place → Type 0
IsEnd at_start = ⊥
IsEnd (between class parts) = ⊤
IsEnd (inside class parts lanes) = ⊥

abbrev pub script_at : ClassLine → List Part → Script
script_at class parts = record { class = class; parts = parts }

-- what a reader of lines rests on
pub record ReadersFind : Type 0 where
  -- some script goes on from each place
  pub goes_on : (p : Place) (lines : List (List ℕ)) → LeadTo p (filter says_something lines) → CanGoOn lines
  -- none goes on by a line that is refused
  pub bad : (p : Place) (lines : List (List ℕ)) (line : List ℕ) → LeadTo p (filter says_something lines) → says_something line ≡ true → Refuses p line → CanGoOn (lines ++ line ∷ []) → ⊥
  -- the end is a script's exactly where no block is open
  pub is_script : (class : ClassLine) (parts : List Part) (bytes : List ℕ) → LeadTo (between class parts) (filter says_something (lines_of bytes)) → IsScript bytes (script_at class parts)
  -- the first bad line, and the end that comes too early
  pub first_bad : (p : Place) (bytes : List ℕ) (lines : List (List ℕ)) (line : List ℕ) (rest : List (List ℕ)) → lines_of bytes ≡ lines ++ line ∷ rest → LeadTo p (filter says_something lines) → says_something line ≡ true → Refuses p line
      → IsFirstBad bytes (length lines + 1)
  pub early_end : (p : Place) (bytes : List ℕ) → LeadTo p (filter says_something (lines_of bytes)) → (IsEnd p → ⊥) → IsFirstBad bytes (length (lines_of bytes) + 1)
  pub unended : (p : Place) (bytes : List ℕ) → LeadTo p (filter says_something (lines_of bytes)) → (IsEnd p → ⊥) → (script : Script) → IsScript bytes script → ⊥

-- how a reader goes on by a line that says something
pub record ReadersGoOn : Type 0 where
  pub silent : (p : Place) (lines : List (List ℕ)) (line : List ℕ) → says_something line ≡ false → LeadTo p (filter says_something lines) → LeadTo p (filter says_something (lines ++ line ∷ []))
  pub spoken : (p : Place) (lines : List (List ℕ)) (line : List ℕ) → says_something line ≡ true → LeadTo p (filter says_something lines ++ line ∷ []) → LeadTo p (filter says_something (lines ++ line ∷ []))
  pub class : (k : ClassLine) (spoken : List (List ℕ)) → LeadTo at_start spoken → LeadTo (between k []) (spoken ++ class_text k ∷ [])
  pub command : (k : ClassLine) (parts : List Part) (c : Command) (spoken : List (List ℕ)) (line : List ℕ) → LeadTo (between k parts) spoken → SpellsCommand (keys_of k) c line → LeadTo (between k (parts ++ alone_part c ∷ [])) (spoken ++ line ∷ [])
  pub opens : (k : ClassLine) (parts : List Part) (spoken : List (List ℕ)) → LeadTo (between k parts) spoken → LeadTo (inside k parts []) (spoken ++ codes "together" ∷ [])
  pub lane : (k : ClassLine) (parts : List Part) (lanes : List (List Command)) (spoken : List (List ℕ)) → LeadTo (inside k parts lanes) spoken → length lanes < 32 → LeadTo (inside k parts (lanes ++ [] ∷ [])) (spoken ++ codes "lane" ∷ [])
  pub in_lane : (k : ClassLine) (parts : List Part) (front : List (List Command)) (lane : List Command) (c : Command) (spoken : List (List ℕ)) (line : List ℕ) → LeadTo (inside k parts (front ++ lane ∷ [])) spoken → IsLaneCommand c → SpellsCommand (keys_of k) c line
      → LeadTo (inside k parts (front ++ (lane ++ c ∷ []) ∷ [])) (spoken ++ line ∷ [])
  pub ends : (k : ClassLine) (parts : List Part) (lanes : List (List Command)) (spoken : List (List ℕ)) → LeadTo (inside k parts lanes) spoken → 1 ≤ length lanes → LeadTo (between k (parts ++ block_part lanes ∷ [])) (spoken ++ codes "end" ∷ [])
