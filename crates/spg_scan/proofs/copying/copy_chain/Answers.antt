use Rattle.std.proofs.Common.{◌≡◌, ◌∙◌, Some}
use Rattle.std.proofs.lemmas.Result.{IfOk-weaker}
use Rattle.spg_chain.specs.Chains.{chain_members, leaves_of}
use Rattle.spg_scan.specs.Held.{kept_as, leaves_with}
use Rattle.spg_scan.specs.Items.{leaves}
use Rattle.spg_scan.specs.Reading.{live_leaves}
use Rattle.spg_scan.proofs.Lives.{gathered_keys, gathered_each, gathered_are}
use Rattle.spg_scan.proofs.copying.copy_chain.Goals as goal

pub keep_leaves-requires-clause-keys : goal.keep_leaves-requires-clause-keys
keep_leaves-requires-clause-keys g c =
    gathered_keys c.args.table.now g.O.OpClass.meaning c.args.recon.now (leaves_of (chain_members c.args.page.now.tuples c.args.head)) c.in_ok-live.live.rests c.in_ok-live.ensures.rests c.requires

pub keep_leaves-requires-clause-each : goal.keep_leaves-requires-clause-each
keep_leaves-requires-clause-each g c =
    gathered_each c.args.table.now (leaves_of (chain_members c.args.page.now.tuples c.args.head)) c.in_ok-live.live.rows c.in_ok-live.live.rests c.in_ok-live.ensures.rows c.in_ok-live.ensures.rests

pub returns-clause-kept : goal.returns-clause-kept
returns-clause-kept g c =
    let live = c.in_ok-live.live in
    IfOk-weaker c.keep_leaves.result (λ copying. kept_as copying.kept ≡ leaves (Some c.args.recon.now) (leaves_with live.rows live.rests)) (λ copying. kept_as copying.kept ≡ leaves (Some c.args.recon.now) (live_leaves c.args.table.now (leaves_of (chain_members c.args.page.now.tuples c.args.head))))
    (λ copying e. e ∙ gathered_are c.args.table.now c.args.recon.now (leaves_of (chain_members c.args.page.now.tuples c.args.head)) live.rows live.rests c.in_ok-live.ensures.rows c.in_ok-live.ensures.rests) c.keep_leaves.ensures.kept
