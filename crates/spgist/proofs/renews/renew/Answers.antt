use Rattle.std.proofs.Common.{◌≡◌, sym, subst}
use Rattle.spg_tree.specs.Table.{Table}
use Rattle.spg_copy.specs.Copies.{unlatched}
use Rattle.spg_verdict.specs.Entries.{entries_of}
use Rattle.spg_core.specs.Seen.{Seen}
use Rattle.spg_core.specs.Loading.{IsAdopted}
use Rattle.spg_whole.proofs.Loaded.{loaded_closed}
use Rattle.spgist.proofs.Renewing.{renewed}
use Rattle.spgist.proofs.renews.renew.Goals as goal

pub of-renewed-requires : goal.of-renewed-requires
of-renewed-requires g c = record { closed = let A = c.in_ok-state.ensures in loaded_closed (entries_of A.entries) c.in_ok-state.state A.loaded.journal }

pub returns : goal.returns
returns g c =
    let m = g.O.OpClass.meaning in
    let p = c.pages-pages.ensures in
    renewed m c.args.index.now c.of-renewed.result c.in_ok-table.table p.represents c.pages.ensures.represents
    (subst (λ (t : Table). c.in_ok-table.table ≡ unlatched t) p.value c.in_ok-table.ensures)
    (subst (λ (i : Seen _ _ _ _). IsAdopted m c.in_ok-table.table i) (sym c.of-renewed.ensures) c.in_ok-state.ensures)
