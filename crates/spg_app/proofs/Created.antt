-- What is created of the inserts of a script, by the class that its line names.
use Rattle.std.proofs.Common.{◌≡◌, ℕ, List, Option, Result, sym, subst}
use Rattle.spg_io.specs.Held.{Holding}
use Rattle.spg_script.specs.declared.class_line.ClassLine.{ClassLine}
use Rattle.spg_script.specs.declared.inserts.Insert.{Insert}
use Rattle.spg_create.specs.declared.whole.Created.{Created}
use Rattle.spg_create.specs.declared.refused.CreateRefused.{CreateRefused}
use Rattle.spg_create.specs.Creates.{Creates}
use Rattle.spg_app.specs.Classes.{class_at}

abbrev CreatesAt : ClassLine → List Insert → List ℕ → (old now : Option Holding) → (f g : ℕ) → Result Created CreateRefused → Type 0
CreatesAt line rows name old now f g result = Creates (class_at line).meaning (class_at line).speech (class_at line).code rows name old now f g result

pub created_at : (class line : ClassLine) → class ≡ line → (rows all : List Insert) → rows ≡ all → (name : List ℕ) (old now : Option Holding) (f g : ℕ) (result : Result Created CreateRefused) → CreatesAt line rows name old now f g result → CreatesAt class all name old now f g result
created_at class line same rows all is name old now f g result creates =
    subst (λ (c : ClassLine). CreatesAt c all name old now f g result) (sym same) (subst (λ (r : List Insert). CreatesAt line r name old now f g result) is creates)
