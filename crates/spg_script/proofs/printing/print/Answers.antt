use Rattle.std.proofs.Common.{◌≡◌, ◌++◌, ◌∷◌, [], List, ℕ, sym, ◌∙◌, subst, refl}
use Rattle.spg_script.specs.Script.{printed, IsScript}
use Rattle.spg_script.specs.Spelling.{class_text}
use Rattle.spg_script.proofs.PrintLemmas.{printed_is, printed_spells, printed_alone}
use Rattle.spg_script.proofs.printing.print.Goals as goal

text_is : (c : goal.In_ok-push_parts) → c.push_parts.new.text ≡ printed c.args.script.now
text_is c =
    let line : c.push_line.new.text ≡ class_text c.args.script.now.class ++ 10 ∷ [] = c.in_ok-push_line.ensures ∙ rw (c.new-text.ensures, c.line-2.ensures, c.line.ensures.class) refl in
    c.in_ok-push_parts.ensures ∙ rw (line, c.parts.ensures.parts) (printed_is c.args.script.now)

pub returns-clause-text : goal.returns-clause-text
returns-clause-text c = text_is c

pub returns-clause-spells : goal.returns-clause-spells
returns-clause-spells c = subst (λ (l : List ℕ). IsScript l c.args.script.now) (sym (text_is c)) (printed_spells c.args.script.now c.line.ensures.written)

pub returns-clause-alone : goal.returns-clause-alone
returns-clause-alone c = λ other is. printed_alone c.args.script.now c.line.ensures.written other (subst (λ (l : List ℕ). IsScript l other) (text_is c) is)
