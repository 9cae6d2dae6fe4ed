-- What a class line names.
use Rattle.std.proofs.Common.{◌≡◌, inl, inr, ℕ, List, Some, refl, sym, ap, ◌∙◌}
use Rattle.std.specs.Prelude.{codes}
use Rattle.std.proofs.lemmas.Option.{same_Some}
use Rattle.spg_script.specs.declared.class_line.ClassLine.{ClassLine}
use Rattle.spg_script.specs.declared.class_line.ClassLine.TheVariants.{Quad, Kd, Radix, QuadValue, KdValue, RadixValue, Range}
use Rattle.spg_script.specs.Spelling.{class_text}
use Rattle.spg_script.specs.Wanting.{class_named}
use Rattle.spg_script.proofs.Options.{word_or}

pub class_named-text : (class : ClassLine) → class_named (class_text class) ≡ Some class
class_named-text Quad = refl
class_named-text Kd = refl
class_named-text Radix = refl
class_named-text QuadValue = refl
class_named-text KdValue = refl
class_named-text RadixValue = refl
class_named-text Range = refl

pub same_class : (a b : ClassLine) → class_text a ≡ class_text b → a ≡ b
same_class a b is = same_Some a b (sym (class_named-text a) ∙ ap class_named is ∙ class_named-text b)

said : (line : List ℕ) (made class : ClassLine) → line ≡ class_text made → Some made ≡ Some class → line ≡ class_text class
said line made class is same = is ∙ ap class_text (same_Some made class same)

pub spelled-class_named : (line : List ℕ) (class : ClassLine) → class_named line ≡ Some class → line ≡ class_text class
spelled-class_named line class is = elim (word_or line (codes "class quad") _ _ class is) [
  | inl a ↦ said line Quad class a.0 a.1
  | inr is ↦ elim (word_or line (codes "class kd") _ _ class is) [
    | inl a ↦ said line Kd class a.0 a.1
    | inr is ↦ elim (word_or line (codes "class radix") _ _ class is) [
      | inl a ↦ said line Radix class a.0 a.1
      | inr is ↦ elim (word_or line (codes "class quad value") _ _ class is) [
        | inl a ↦ said line QuadValue class a.0 a.1
        | inr is ↦ elim (word_or line (codes "class kd value") _ _ class is) [
          | inl a ↦ said line KdValue class a.0 a.1
          | inr is ↦ elim (word_or line (codes "class radix value") _ _ class is) [
            | inl a ↦ said line RadixValue class a.0 a.1
            | inr is ↦ elim (word_or line (codes "class range") _ _ class is) [
              | inl a ↦ said line Range class a.0 a.1
              | inr is ↦ (cc)
            ]
          ]
        ]
      ]
    ]
  ]
]
