use Rattle.std.proofs.Common.{◌∙◌, sym, ap, subst}
use Rattle.spg_opclass.specs.declared.view.InnerView.{InnerView}
use Rattle.spg_opclass.specs.Copies.{IsThere}
use Rattle.spg_opclass.proofs.Sifts.{answer_there}
use Rattle.spg_opclass.proofs.chosen.choose_at.Goals as goal

pub recons_for-requires : goal.recons_for-requires
recons_for-requires g c =
    let m = g.O.OpClass.meaning in
    let s = c.args.spotted in
    let e = c.in_ok-choice.ensures ∙ ap (λ (r : g.row.O-Recon.Denot). m.answer r c.tuple-tuple.result.now c.as_slice.result.now) c.recon-recon.ensures.value
    ∙ ap (λ (t : InnerView). m.answer s.recon t c.as_slice.result.now) c.tuple-tuple.ensures.value ∙ ap (m.answer s.recon s.tuple) (c.as_slice.ensures.value ∙ c.rest.ensures.value) in
    record { there = subst (λ (t : InnerView). IsThere t c.in_ok-choice.choice) (sym c.tuple-tuple.ensures.value) (answer_there m g.O.OpClass.matches s c.tuple-tuple.ensures.known c.in_ok-choice.choice e) }
