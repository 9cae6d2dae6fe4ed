use Rattle.std.proofs.Common.{◌<◌, List, [], ◌∷◌, ◌++◌, Option, length, ap, ◌∙◌, arith}
use Rattle.spg_rows.specs.declared.event.Event.{Event}
use Rattle.spg_rows.specs.declared.event.Event.TheVariants.{OpenInsert, Put}
use Rattle.spg_rows.specs.Loads.{load_events}
use Rattle.spg_keys.specs.declared.listing.Listed.{Listed}
use Rattle.spg_verdict.specs.Entries.{entries_of}
use Rattle.spg_core.proofs.Loads.{next_events, take_whole}
use Rattle.spg_core.proofs.loading.load_journal.Goals as goal

pub loop-one-preserved : goal.loop-one-preserved
loop-one-preserved g c =
    let x = c.one-item.result in
    let E = Event g.row.O.Denot g.row.O-Key.Denot g.row.O-Recon.Denot g.row.O-Cond.Denot in
    let lt : c.loop-one.one-index < length c.args.listed.now = omega arith in
    c.append-in-loop-one.ensures.events
    ∙ ap (λ (es : List E). es ++ Put c.first-seat.result x.entry.row ∷ []) (c.append.ensures.events ∙ ap (λ (es : List E). es ++ OpenInsert c.first-seat.result x.entry.row c.in_ok-key.key ∷ []) c.in_ok-reserve.ensures.events)
    ∙ ap (λ s. (c.loop-one.journal.events ++ OpenInsert s x.entry.row c.in_ok-key.key ∷ []) ++ Put s x.entry.row ∷ []) c.first-seat.ensures
    ∙ ap (λ (k : Option g.row.O-Key.Denot). (c.loop-one.journal.events ++ OpenInsert 0 x.entry.row k ∷ []) ++ Put 0 x.entry.row ∷ []) c.in_ok-key.ensures
    ∙ next_events g.O.OpClass.meaning c.args.listed.now c.loop-one.one-index x c.loop-one.journal.events lt c.one-item.is c.loop-one.invariant

pub returns : goal.returns
returns g c = c.loop-one.invariant ∙ ap (λ (xs : List (Listed g.row.O-Key.Denot)). load_events (entries_of xs)) (take_whole c.args.listed.now c.loop-one.one-index c.loop-one-test.false)
