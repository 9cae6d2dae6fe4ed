-- What words are taken apart into is what they ask.
use Rattle.std.proofs.Common.{◌≡◌, ◌⊎◌, inl, inr, ◌≤◌, ℕ, Bool, true, false, cond, List, [], ◌∷◌, length, Some, None, refl, sym, ap, ◌∙◌, subst}
use Rattle.std.specs.Prelude.{bytes_eq, codes}
use Rattle.std.specs.List.{AllByRecursion}
use Rattle.std.proofs.lemmas.Slice.Eq.{bytes_eq-Decides}
use Rattle.spg_words.specs.Parts.{Given, words_of, IsPart, plain_of, options_of, value_of, IsOneOf, AreOf, Asks}
use Rattle.spg_words.specs.Reading.{Held, read, nothing}
use Rattle.spg_words.proofs.Pieces.{all, parts_of, pieces_of, read_pieces, parted}
use Rattle.spg_words.proofs.Gathered.{listed, filled, from_nothing}

-- ---- names of options

-- options of some names are options of more names
pub wider : (names : List (List ℕ)) (options : List Given) → ((name : List ℕ) → IsOneOf names name → IsOneOf all name) → AreOf names options → AreOf all options
wider names [] more are = tt
wider names (g ∷ options) more are = (more g.name are.0, are.1, wider names options more are.2)

-- the value of a name, by whether the first option has it
value_other : (name : List ℕ) (g : Given) (options : List Given) → value_of name (g ∷ options) ≡ None → ((g.name ≡ name) → ⊥) × (value_of name options ≡ None)
value_other name g options is = go (bytes_eq g.name name) refl is
  where
    go : (t : Bool) → bytes_eq g.name name ≡ t → cond t (Some g.value) (value_of name options) ≡ None → ((g.name ≡ name) → ⊥) × (value_of name options ≡ None)
    go true e none = (cc)
    go false e none = ((λ same. let clash : false ≡ true = sym e ∙ (bytes_eq-Decides g.name name).1 same in absurd (cc)), none)

-- options of which each other name has no value are options of these names
pub narrower : (names : List (List ℕ)) (options : List Given) → ((name : List ℕ) → IsOneOf all name → IsOneOf names name ⊎ (value_of name options ≡ None)) → AreOf all options → AreOf names options
narrower names [] none are = tt
narrower names (g ∷ options) none are = (first (none g.name are.0), are.1, narrower names options rest are.2)
  where
    first : IsOneOf names g.name ⊎ (value_of g.name (g ∷ options) ≡ None) → IsOneOf names g.name
    first (inl is) = is
    first (inr unset) = absurd ((value_other g.name g options unset).0 refl)

    later : (name : List ℕ) → IsOneOf names name ⊎ (value_of name (g ∷ options) ≡ None) → IsOneOf names name ⊎ (value_of name options ≡ None)
    later name (inl is) = inl is
    later name (inr unset) = inr (value_other name g options unset).1

    rest : (name : List ℕ) → IsOneOf all name → IsOneOf names name ⊎ (value_of name options ≡ None)
    rest name is = later name (none name is)

-- a name that is none of these has no value
pub absent : (names : List (List ℕ)) (name : List ℕ) (options : List Given) → (IsOneOf names name → ⊥) → AreOf names options → value_of name options ≡ None
absent names name [] other are = refl
absent names name (g ∷ options) other are = go (bytes_eq g.name name) refl (absent names name options other are.2)
  where
    go : (t : Bool) → bytes_eq g.name name ≡ t → value_of name options ≡ None → cond t (Some g.value) (value_of name options) ≡ None
    go true e none = absurd (other (subst (IsOneOf names) ((bytes_eq-Decides g.name name).0 e) are.0))
    go false e none = none

-- ---- both ways

-- what is held are the words that are no option, and the options' values
pub record HoldsAll (h : Held) (plain : List (List ℕ)) (options : List Given) : Type 0 where
  pub limit : h.limit ≡ value_of (codes "limit") options
  pub lanes : h.lanes ≡ value_of (codes "lanes") options
  pub class : h.class ≡ value_of (codes "class") options
  pub from : h.from ≡ value_of (codes "from") options
  pub workers : h.workers ≡ value_of (codes "workers") options
  pub words : plain ≡ listed h.first h.second

-- words that were read ask so
pub record Asked (h : Held) (words : List (List ℕ)) : Type 0 where
  pub plain : List (List ℕ)
  pub options : List Given
  pub asks : Asks all words plain options
  pub holds : HoldsAll h plain options

pub asked : (words : List (List ℕ)) (h : Held) → read nothing words ≡ Some h → Asked h words
asked words h is =
    let parts = parted words nothing h is in
    let fills = filled parts.pieces nothing h parts.gathered in
    record {
      plain = plain_of (parts_of parts.pieces);
      options = options_of (parts_of parts.pieces);
      asks = record { parts = parts_of parts.pieces; spelled = parts.spelled; each = parts.each; plain_are = refl; options_are = refl; known = fills.known };
      holds = record { limit = fills.limit; lanes = fills.lanes; class = fills.class; from = fills.from; workers = fills.workers; words = fills.plain };
    }

-- words that ask so are read
pub answered : (words plain : List (List ℕ)) (options : List Given) → Asks all words plain options → length plain ≤ 2 → (h : Held) × (read nothing words ≡ Some h) × HoldsAll h plain options
answered words plain options asks few =
    let known : AreOf all (options_of asks.parts) = subst (AreOf all) asks.options_are asks.known in
    let pieces = pieces_of asks.parts known in
    let known2 : AreOf all (options_of (parts_of pieces.0)) = subst (λ ps. AreOf all (options_of ps)) pieces.1 known in
    let same_words : plain ≡ plain_of (parts_of pieces.0) = asks.plain_are ∙ ap plain_of pieces.1 in
    let same_options : options ≡ options_of (parts_of pieces.0) = asks.options_are ∙ ap options_of pieces.1 in
    let gathered = from_nothing pieces.0 known2 (subst (λ (ws : List (List ℕ)). length ws ≤ 2) same_words few) in
    let fills = filled pieces.0 nothing gathered.0 gathered.1 in (
      gathered.0,
      ap (read nothing) (asks.spelled ∙ ap words_of pieces.1) ∙ read_pieces pieces.0 nothing (subst (λ ps. AllByRecursion IsPart ps) pieces.1 asks.each) ∙ gathered.1,
      record {
        limit = fills.limit ∙ sym (ap (value_of (codes "limit")) same_options);
        lanes = fills.lanes ∙ sym (ap (value_of (codes "lanes")) same_options);
        class = fills.class ∙ sym (ap (value_of (codes "class")) same_options);
        from = fills.from ∙ sym (ap (value_of (codes "from")) same_options);
        workers = fills.workers ∙ sym (ap (value_of (codes "workers")) same_options);
        words = same_words ∙ fills.plain;
      },
    )

-- the same words with other names
pub named_so : (names more words plain : List (List ℕ)) (options : List Given) → Asks names words plain options → AreOf more options → Asks more words plain options
named_so names more words plain options asks are = record { parts = asks.parts; spelled = asks.spelled; each = asks.each; plain_are = asks.plain_are; options_are = asks.options_are; known = are }
