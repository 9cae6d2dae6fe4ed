-- The readers of command lines are exact.
use Rattle.std.specs.Prelude.{◌≡◌, ◌↔◌, ℕ, List, Option, Some}
use Rattle.spg_words.specs.declared.load.Load.{Load}
use Rattle.spg_words.specs.Lines.{IsRunLine, IsCheckLine, IsLoadLine, IsBuildLine, IsStandbyLine}
use Rattle.spg_words.specs.Asked.{run_of, check_of, load_of, build_of, standby_of}

-- A reader gives what the words ask for exactly where they are a line of its command; so no line asks for two things
pub record LinesAreExact : Type 0 where
  pub run : (words : List (List ℕ)) (n : ℕ) (from : Option (List ℕ)) → (run_of words ≡ Some (record { limit = n; from = from })) ↔ IsRunLine n from words
  pub check : (words : List (List ℕ)) (name : List ℕ) → (check_of words ≡ Some name) ↔ IsCheckLine name words
  pub load : (words : List (List ℕ)) (load : Load) → (load_of words ≡ Some load) ↔ IsLoadLine load words
  pub build : (words : List (List ℕ)) (name : List ℕ) (n : ℕ) → (build_of words ≡ Some (record { name = name; workers = n })) ↔ IsBuildLine name n words
  pub standby : (words : List (List ℕ)) (lag limit : ℕ) → (standby_of words ≡ Some (record { lag = lag; limit = limit })) ↔ IsStandbyLine lag limit words
  pub one_run : (words : List (List ℕ)) (m n : ℕ) (a b : Option (List ℕ)) → IsRunLine m a words → IsRunLine n b words → (m ≡ n) × (a ≡ b)
  pub one_check : (words : List (List ℕ)) (a b : List ℕ) → IsCheckLine a words → IsCheckLine b words → a ≡ b
  pub one_load : (words : List (List ℕ)) (a b : Load) → IsLoadLine a words → IsLoadLine b words → a ≡ b
  pub one_build : (words : List (List ℕ)) (a b : List ℕ) (m n : ℕ) → IsBuildLine a m words → IsBuildLine b n words → (a ≡ b) × (m ≡ n)
  pub one_standby : (words : List (List ℕ)) (a b m n : ℕ) → IsStandbyLine a m words → IsStandbyLine b n words → (a ≡ b) × (m ≡ n)
  -- no line of one command is one of another
  pub no_run_and_load : (words : List (List ℕ)) (n : ℕ) (from : Option (List ℕ)) (load : Load) → IsRunLine n from words → IsLoadLine load words → ⊥
  pub no_run_and_check : (words : List (List ℕ)) (n : ℕ) (from : Option (List ℕ)) (name : List ℕ) → IsRunLine n from words → IsCheckLine name words → ⊥
  pub no_check_and_load : (words : List (List ℕ)) (name : List ℕ) (load : Load) → IsCheckLine name words → IsLoadLine load words → ⊥
  pub no_run_and_build : (words : List (List ℕ)) (n : ℕ) (from : Option (List ℕ)) (name : List ℕ) (workers : ℕ) → IsRunLine n from words → IsBuildLine name workers words → ⊥
  pub no_check_and_build : (words : List (List ℕ)) (name built : List ℕ) (workers : ℕ) → IsCheckLine name words → IsBuildLine built workers words → ⊥
  pub no_load_and_build : (words : List (List ℕ)) (load : Load) (name : List ℕ) (workers : ℕ) → IsLoadLine load words → IsBuildLine name workers words → ⊥
  pub no_run_and_standby : (words : List (List ℕ)) (n : ℕ) (from : Option (List ℕ)) (lag limit : ℕ) → IsRunLine n from words → IsStandbyLine lag limit words → ⊥
  pub no_check_and_standby : (words : List (List ℕ)) (name : List ℕ) (lag limit : ℕ) → IsCheckLine name words → IsStandbyLine lag limit words → ⊥
  pub no_load_and_standby : (words : List (List ℕ)) (load : Load) (lag limit : ℕ) → IsLoadLine load words → IsStandbyLine lag limit words → ⊥
  pub no_build_and_standby : (words : List (List ℕ)) (name : List ℕ) (workers lag limit : ℕ) → IsBuildLine name workers words → IsStandbyLine lag limit words → ⊥
