use Rattle.std.proofs.Common.{◌≡◌, ℕ, List, Option, Some, None, refl, sym, ap, ◌∙◌}
use Rattle.spg_script.specs.declared.class_line.ClassLine.{ClassLine}
use Rattle.spg_script.specs.declared.spot.Spot.TheVariants.{Start, Between}
use Rattle.spg_script.specs.Spelling.{class_text}
use Rattle.spg_script.specs.Wanting.{class_named, spot_behind, class_spot}
use Rattle.spg_script.proofs.ClassLines.{class_named-text, spelled-class_named}
use Rattle.spg_script.proofs.spot.class_spot.Goals as goal

no_class : (line : List ℕ) → ((class : ClassLine) → line ≡ class_text class → ⊥) → class_spot line ≡ Start
no_class line none = go (class_named line) refl
  where
    go : (o : Option ClassLine) → class_named line ≡ o → spot_behind o ≡ Start
    go None e = refl
    go (Some class) e = absurd (none class (spelled-class_named line class e))

pub returns-in-None : goal.returns-in-None
returns-in-None c = sym (no_class c.args.line.now c.in-None.ensures.none)

pub returns-in-Some : goal.returns-in-Some
returns-in-Some c = sym (ap spot_behind (ap class_named (rw c.in-Some.is at c.of_line.ensures.found) ∙ class_named-text c.in-Some.class) ∙ ap Between (sym c.keys.ensures))
