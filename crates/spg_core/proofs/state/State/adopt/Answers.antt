use Rattle.std.proofs.Common.{List, subst}
use Rattle.spg_forest.specs.Shape.{Shape}
use Rattle.spg_tree.specs.Table.{sheets_of}
use Rattle.spg_keys.specs.declared.listing.Listed.{Listed}
use Rattle.spg_verdict.specs.Entries.{AreEntries}
use Rattle.spg_core.specs.Loading.{IsLoaded}
use Rattle.spg_core.proofs.Classed.{loaded_classed}
use Rattle.spg_core.proofs.state.State.adopt.Goals as goal

pub returns-in_ok-bare-in-Ok-clause-value : goal.returns-in_ok-bare-in-Ok-clause-value
returns-in_ok-bare-in-Ok-clause-value g c =
    let m = g.O.OpClass.meaning in
    let t = c.args.table in
    let es = c.in-Ok.listed.items in
    let F : Shape m (sheets_of t) × AreEntries m (sheets_of t) es = rw c.in-Ok.is at c.in_ok-fault.ensures in
    record {
      entries = es;
      shape = F.0;
      exact = F.1;
      loaded = loaded_classed c.args.class t es c.in_ok-bare-in-Ok.bare (subst (λ (xs : List (Listed g.row.O-Key.Denot)). IsLoaded t xs c.in_ok-bare-in-Ok.bare) c.deref.ensures.value c.in_ok-bare-in-Ok.ensures);
    }
