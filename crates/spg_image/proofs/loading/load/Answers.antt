use Rattle.std.proofs.Common.{List, sym, subst}
use Rattle.spg_forest.specs.Shape.{Shape}
use Rattle.spg_tree.specs.Table.{sheets_of}
use Rattle.spg_keys.specs.declared.listing.Listed.{Listed}
use Rattle.spg_verdict.specs.Entries.{AreEntries}
use Rattle.spg_core.specs.Loading.{IsLoaded}
use Rattle.spg_core.specs.Seen.{Seen}
use Rattle.spg_core.proofs.Classed.{loaded_classed}
use Rattle.spg_verify.specs.Verdict.{Spells}
use Rattle.spg_verify.proofs.Holding.{holds_map}
use Rattle.spg_image.proofs.loading.load.Goals as goal

pub returns-in_ok-bare-in-Ok-2-clause-value : goal.returns-in_ok-bare-in-Ok-2-clause-value
returns-in_ok-bare-in-Ok-2-clause-value g c =
    let m = g.O.OpClass.meaning in
    let t = c.in-Ok.table in
    let es = c.in-Ok-2.listed.items in
    let F : Shape m (sheets_of t) × AreEntries m (sheets_of t) es = rw c.in-Ok-2.is at c.in_ok-block-in-Ok.ensures in
    let L = loaded_classed c.args.class t es c.in_ok-bare-in-Ok-2.bare (subst (λ (xs : List (Listed g.row.O-Key.Denot)). IsLoaded t xs c.in_ok-bare-in-Ok-2.bare) c.deref.ensures.value c.in_ok-bare-in-Ok-2.ensures) in
    holds_map (g.M.Images.held c.args.images.now) c.args.name.now (λ held. Spells m g.O.OpClass.code_number c.args.limit held t) _
    (λ held s. (
      t,
      s,
      record {
        entries = es;
        shape = F.0;
        exact = F.1;
        loaded = subst (λ (x : Seen g.row.O.Denot g.row.O-Key.Denot g.row.O-Recon.Denot g.row.O-Cond.Denot). IsLoaded t es x) (sym c.whole.ensures) L;
      },
    )) c.in-Ok.ensures.value

pub returns-in_ok-bare-in-Ok-2-clause-cause : goal.returns-in_ok-bare-in-Ok-2-clause-cause
returns-in_ok-bare-in-Ok-2-clause-cause g c = record { later = c.in-Ok.ensures.cause.later; fault = λ e. cc; answered = c.in-Ok.ensures.cause.answered; refused = tt }

pub returns-in_ok-bare-in-Ok-2-clause-made : goal.returns-in_ok-bare-in-Ok-2-clause-made
returns-in_ok-bare-in-Ok-2-clause-made g c =
    let m = g.O.OpClass.meaning in
    let t = c.in-Ok.table in
    let es = c.in-Ok-2.listed.items in
    let F : Shape m (sheets_of t) × AreEntries m (sheets_of t) es = rw c.in-Ok-2.is at c.in_ok-block-in-Ok.ensures in
    let L = loaded_classed c.args.class t es c.in_ok-bare-in-Ok-2.bare (subst (λ (xs : List (Listed g.row.O-Key.Denot)). IsLoaded t xs c.in_ok-bare-in-Ok-2.bare) c.deref.ensures.value c.in_ok-bare-in-Ok-2.ensures) in (
      t,
      record {
        entries = es;
        shape = F.0;
        exact = F.1;
        loaded = subst (λ (x : Seen g.row.O.Denot g.row.O-Key.Denot g.row.O-Recon.Denot g.row.O-Cond.Denot). IsLoaded t es x) (sym c.whole.ensures) L;
      },
      c.in-Ok.ensures.value,
    )
