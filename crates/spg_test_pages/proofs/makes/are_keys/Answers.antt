use Rattle.std.proofs.Common.{◌≡◌, ◌∙◌, ◌++◌, ◌∷◌, [], List, ℕ, ◌+◌, IsSome, take, sym, ap, subst}
use Rattle.std.proofs.lemmas.List.{take_more}
use Rattle.std.proofs.lemmas.List.Elements.{All-push}
use Rattle.spg_opclass.specs.Copies.{AreKeys}
use Rattle.spg_test_pages.proofs.makes.are_keys.Goals as goal

pub loop-i-preserved : goal.loop-i-preserved
loop-i-preserved g c =
    let m = g.O.OpClass.meaning in
    let rests = c.args.rests.now in
    let i = c.loop-i.i in
    let x = c.index-rests-i.result in
    let e : take (i + 1) rests ≡ take i rests ++ x ∷ [] = take_more rests i x c.loop-i-test.true ∙ ap (λ (z : List ℕ). take i rests ++ z ∷ []) (sym c.index-rests-i.is) in
    let key : IsSome (m.rebuild c.args.recon.now x) = subst (λ (r : List ℕ). IsSome (m.rebuild c.args.recon.now r)) c.as_slice.ensures.value (c.key_ok.ensures.0 c.if-not-key_ok.false) in
    subst (AreKeys m c.args.recon.now) (sym e) (All-push (λ r. IsSome (m.rebuild c.args.recon.now r)) (take i rests) x c.loop-i.invariant key)
