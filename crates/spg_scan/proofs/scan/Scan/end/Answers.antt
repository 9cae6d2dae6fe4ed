use Rattle.std.proofs.Common.{[], sym}
use Rattle.std.proofs.lemmas.List.{append-nil}
use Rattle.spg_scan.proofs.Replacing.{replaced_is}
use Rattle.spg_scan.proofs.scan.Scan.end.Goals as goal

pub returns : goal.returns
returns g c =
    let s = c.self.inside in
    replaced_is s.query s.at s.stamp s.items.items c.take_out.new.items.items [] s.rows.items s.rows.items [] s.met c.saturating_add-self-inside.result c.args.met c.args.item c.args.self.now
    c.self.view_is c.take_out.ensures (sym (append-nil s.rows.items)) c.saturating_add-self-inside.ensures
