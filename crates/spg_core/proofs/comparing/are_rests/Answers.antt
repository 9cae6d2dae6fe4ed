use Rattle.std.proofs.Common.{◌≡◌, ◌++◌, ◌∷◌, [], ap, sym, ◌∙◌}
use Rattle.spg_forest.specs.Divisions.{rests_of}
use Rattle.spg_forest.specs.Sheets.{Sheet}
use Rattle.spg_chain.specs.Chains.{chain_members, leaves_of}
use Rattle.spg_descend.specs.Carried.{carried}
use Rattle.spg_split.specs.Parting.{rests_at, leaves_to}
use Rattle.spg_split.proofs.Parting.{live_at}
use Rattle.spg_core.proofs.comparing.are_rests.Goals as goal

pub are_rests_on-requires : goal.are_rests_on-requires
are_rests_on-requires g c = live_at g.O.OpClass.meaning g.O.OpClass.codes c.args.table.now c.args.descent.now c.requires.shape c.requires.spot c.requires.of_key c.in-Root.root c.page.result.now (sym c.in-Root.ensures) c.page.ensures

pub returns-in-At : goal.returns-in-At
returns-in-At g c =
    let t = c.args.table.now in
    let d = c.args.descent.now in
    let page = ap (λ (sheet : Sheet). rests_of (leaves_of (chain_members sheet.tuples c.in-At.head.offset) ++ carried d ∷ [])) c.page-in-At.ensures in
    let e : rests_of (leaves_of (chain_members c.page-in-At.result.now.tuples c.in-At.head.offset) ++ carried d ∷ []) ≡ rests_at t d = page ∙ ap (λ stand. rests_of (leaves_to t d stand)) c.in-At.ensures in
    (λ yes. c.are_rests_of_chain.ensures.0 yes ∙ e, λ same. c.are_rests_of_chain.ensures.1 (same ∙ sym e))
