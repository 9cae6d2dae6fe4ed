use Rattle.std.proofs.Common.{None, sym, ap, ◌∙◌, arith}
use Rattle.spg_standby.specs.Standing.{Standing, scan_at, with_scan}
use Rattle.spg_standby.proofs.Finding.{not_open, finished, scanned, without_scan}
use Rattle.spg_standby.proofs.finishing.gather.Goals as goal

pub read_out-requires-clause-scans : goal.read_out-requires-clause-scans
read_out-requires-clause-scans g c = c.is_open-open.ensures.0 c.if-open.true

pub returns-then-open-clause-paired : goal.returns-then-open-clause-paired
returns-then-open-clause-paired g c = scanned g.O.OpClass.meaning c.args.state.now c.read_out.new.follower c.args.queue.now.records.items c.read_out.ensures.paired c.args.seat None c.close.new.self c.in_ok-closed.ensures.ok.1 c.in_ok-closed.ensures.stands

pub returns-then-open-clause-rest : goal.returns-then-open-clause-rest
returns-then-open-clause-rest g c = without_scan c.read_out.new.follower c.close.new.self c.args.seat None c.in_ok-closed.ensures.ok.1 ∙ c.read_out.ensures.rest

pub returns-then-open-clause-ok : goal.returns-then-open-clause-ok
returns-then-open-clause-ok g c =
    let f = c.args.follower.now in let f2 = c.read_out.new.follower in
    finished g.O.OpClass.meaning f2 c.in_ok-closed.closed c.args.state.now.journal c.args.seat f.applied (scan_at f c.args.seat) (c.is_open-open.ensures.0 c.if-open.true) c.read_out.ensures.keeps.here
    (ap (λ (x : Standing _ _ _ _). x.applied) c.read_out.ensures.rest) c.in_ok-closed.ensures.ok.0 c.read_out.ensures.paired.stands

pub returns-clause-ok : goal.returns-clause-ok
returns-clause-ok g c = not_open g.O.OpClass.meaning c.args.state.now.journal c.args.follower.now.applied (scan_at c.args.follower.now c.args.seat) (λ h. let t = c.is_open-open.ensures.1 h in cc (sym c.if-open.false ∙ t))
