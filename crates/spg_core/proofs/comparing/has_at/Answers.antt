use Rattle.std.proofs.Common.{◌≡◌, Some, length, refl, sym, ap, ◌∙◌}
use Rattle.std.specs.Prelude.{slice_get}
use Rattle.std.proofs.lemmas.Option.{slice_get_read}
use Rattle.spg_core.proofs.comparing.has_at.Goals as goal

pub returns-in-Some : goal.returns-in-Some
returns-in-Some c =
    let at = c.in-Some.ensures.lookup in
    let e : slice_get c.args.rests.now c.args.at ≡ Some c.in-Some.there.now = slice_get_read c.args.rests.now (length c.args.rests.now) c.args.at c.in-Some.there.now refl at.3.0 at.1 in
    (λ t. e ∙ ap Some (c.is_rest.ensures.0 t), λ h. c.is_rest.ensures.1 (let f : Some c.in-Some.there.now ≡ Some c.args.rest.now = sym e ∙ h in cc))
