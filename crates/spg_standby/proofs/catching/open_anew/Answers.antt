use Rattle.std.proofs.Common.{Some, ap, ◌∙◌}
use Rattle.std.proofs.lemmas.Result.{on_ok_weaker}
use Rattle.spg_scan.specs.Scanning.{opened}
use Rattle.spg_standby.specs.Standing.{Standing, with_scan}
use Rattle.spg_standby.proofs.Finding.{opened_anew}
use Rattle.spg_standby.proofs.catching.open_anew.Goals as goal

pub returns-clause-ok : goal.returns-clause-ok
returns-clause-ok g c =
    let m = g.O.OpClass.meaning in
    let f = c.args.follower.now in
    on_ok_weaker c.open.result
    (λ e. opened_anew f c.end.new.follower c.open.new.self c.args.seat (Some (opened m c.args.query f.applied f.table.clock)) c.end.ensures.value
    (e ∙ ap (λ (x : Standing _ _ _ _). with_scan c.end.new.follower c.args.seat (Some (opened m c.args.query x.applied x.table.clock))) c.end.ensures.value)) c.open.ensures.ok
