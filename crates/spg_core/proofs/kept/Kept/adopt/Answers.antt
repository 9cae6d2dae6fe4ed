use Rattle.std.proofs.Common.{◌≡◌, ℕ, None, true, ap, sym, subst, ◌∙◌, reverse}
use Rattle.spg_forest.specs.Shape.{Shape}
use Rattle.spg_tree.specs.Table.{Table, sheets_of, latch_at}
use Rattle.spg_tree.specs.Inside.{table_of}
use Rattle.spg_seats.specs.Opening.{RowsTell}
use Rattle.spg_verdict.specs.Entries.{AreEntries}
use Rattle.spg_core.specs.Loading.{origin_of}
use Rattle.spg_core.specs.declared.kept.Kept.TheInside.{Inside}
use Rattle.spg_core.proofs.Loads.{loaded_state, loaded_account}
use Rattle.spg_core.proofs.kept.Kept.adopt.Goals as goal

pub invariant_of-result-2 : goal.invariant_of-result-2
invariant_of-result-2 g c =
    let m = g.O.OpClass.meaning in
    let e = sym c.table.view_is in
    let s : Inside _ _ _ _ = record { alloc = c.args.alloc; table = table_of c.table.inside; rows = c.in_ok-rows.rows; slots = c.in_ok-free_slots.field-0; journal = c.in_ok-rows.journal; vacuums = c.new.result; targets = c.new-2.result; later = c.new-3.result; origin = record { limit = c.limit.result; pages = c.page_count.result; clock = c.clock.result; loaded = true } } in
    let made : s.origin ≡ origin_of s.table = (λ i. record { limit = c.limit.ensures i; pages = c.page_count.ensures.value i; clock = c.clock.ensures.value i; loaded = true }) ∙ ap origin_of e in
    let kept = loaded_state m s c.args.listed.now
    (subst (λ (x : Table). Shape m (sheets_of x)) e c.requires.shape)
    (subst (λ (x : Table). AreEntries m (sheets_of x) c.args.listed.now) e c.requires.entries)
    (subst (λ (x : Table). (b : ℕ) → latch_at x b ≡ None) e c.requires.latches)
    c.in_ok-rows.ensures.events
    c.in_ok-free_slots.ensures
    (subst (λ es. RowsTell c.in_ok-rows.rows (reverse es)) c.in_ok-rows.ensures.events c.in_ok-rows.ensures.rows)
    c.new.ensures c.new-2.ensures c.new-3.ensures made in
    (kept, loaded_account m s c.args.listed.now kept c.in_ok-rows.ensures.events c.in_ok-free_slots.ensures made)
