use Rattle.std.proofs.Common.{ℕ, List, Option, refl, sym, inr, subst}
use Rattle.spg_verify.specs.Meta.{IsOfClass}
use Rattle.spg_verify.specs.Verdict.{IsTopOf}
use Rattle.spg_verify.proofs.Holding.{stays_both, holds_map, holds_both, holds_before}
use Rattle.spg_image.specs.Classes.{code_of}
use Rattle.spg_image.specs.Verifying.{FailsAny}
use Rattle.spg_image.proofs.Matching.{answers_any}
use Rattle.spg_image.proofs.loading.verify.Goals as goal

pub returns-in-None-clause-value : goal.returns-in-None-clause-value
returns-in-None-clause-value g c =
    holds_map (g.M.Images.held c.args.images.now) c.args.name.now (λ (held : Option (List ℕ)). (bytes : List ℕ) × IsTopOf held c.in_ok-len.len c.read_meta.new.page bytes) _
    (λ held (bytes, T). inr (bytes, T.is, T.top, FailsAny.of_none (λ k n. c.in-None.ensures k (subst (λ (p : List ℕ). IsOfClass (code_of k) p) (sym T.first) n)) refl refl)) c.in_ok-len.ensures.value

pub returns-in-Some-clause-value : goal.returns-in-Some-clause-value
returns-in-Some-clause-value g c =
    let a = g.M.Images.held c.args.images.now in
    let name = c.args.name.now in
    holds_map a name _ _ (λ held ((bytes, T), f). answers_any held c.in_ok-len.len c.read_meta.new.page bytes T c.in-Some.class c.in-Some.ensures c.verify_as.result (f bytes T))
    (holds_both a name (λ (held : Option (List ℕ)). (bytes : List ℕ) × IsTopOf held c.in_ok-len.len c.read_meta.new.page bytes) _ c.in_ok-len.ensures.value (holds_before a (g.M.Images.held c.read_meta.new.images) name _ c.read_meta.ensures.stays c.verify_as.ensures.value))

pub returns-in-Some-clause-stays : goal.returns-in-Some-clause-stays
returns-in-Some-clause-stays g c = stays_both (g.M.Images.held c.args.images.now) (g.M.Images.held c.read_meta.new.images) (g.M.Images.held c.verify_as.new.images) c.read_meta.ensures.stays c.verify_as.ensures.stays
