use Rattle.std.proofs.Common.{List, sym, subst}
use Rattle.spg_build.specs.declared.entry.Entry.{Entry}
use Rattle.spg_verdict.specs.Entries.{entries_of}
use Rattle.spg_core.specs.Seen.{Seen}
use Rattle.spg_whole.proofs.Loaded.{loaded_closed}
use Rattle.spgist.specs.Builds.{IsBuilt}
use Rattle.spgist.proofs.Adopting.{built_index}
use Rattle.spgist.proofs.builds.build_index.Goals as goal

pub adopt-requires : goal.adopt-requires
adopt-requires g c = record { shape = c.in-Ok.ensures.represents.shape; meta = c.count_pages.ensures.meta; latches = c.in-Ok.ensures.at_rest.latches }

pub of-requires : goal.of-requires
of-requires g c = record { closed = let A = c.in_ok-state.ensures in loaded_closed (entries_of A.entries) c.in_ok-state.state A.loaded.journal }

pub returns-clause-built : goal.returns-clause-built
returns-clause-built g c =
    let m = g.O.OpClass.meaning in
    let built = built_index g.row.O.Denot m c.into_entries-entries.result c.args.limit c.in-Ok.table c.in_ok-state.state c.into_entries-entries.ensures.once c.in-Ok.ensures.represents c.in-Ok.ensures.at_rest c.in-Ok.ensures.few c.in_ok-state.ensures in
    subst (λ (i : Seen _ _ _ _). IsBuilt m c.args.gathered c.args.limit i) (sym c.of.ensures)
    (subst (λ (es : List (Entry _)). IsBuilt m es c.args.limit c.in_ok-state.state) c.into_entries-entries.ensures.is built)
