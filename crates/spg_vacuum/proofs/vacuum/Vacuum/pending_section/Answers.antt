use Rattle.std.proofs.Common.{◌+◌, ◌-◌, ◌^◌, ℕ, List, length, refl, sym, ap, ap₂, ◌∙◌, subst, inl, arith}
use Rattle.std.specs.Prelude.{min}
use Rattle.std.specs.BTreeSet.{contains}
use Rattle.spg_base.specs.Row.{row_cmp}
use Rattle.spg_forest.specs.View.{Place}
use Rattle.spg_cover.specs.Vacuum.{IsPlaceOf}
use Rattle.spg_tree.specs.Table.{sheet_at}
use Rattle.spg_vacuum.specs.declared.vacuum.Vacuum.{Vacuum}
use Rattle.spg_vacuum.specs.Handled.{found_from}
use Rattle.spg_vacuum.specs.Listing.{Listing, first_done}
use Rattle.spg_vacuum.proofs.Places.{listed_front}
use Rattle.spg_vacuum.proofs.Keeping.{first_of_todo, place_stands, place_kept}
use Rattle.spg_vacuum.proofs.Holders.{on_err, place_free}
use Rattle.spg_vacuum.proofs.vacuum.Vacuum.pending_section.Goals as goal

pub other_holder-requires : goal.other_holder-requires
other_holder-requires g c =
    let (ps, e) = first_of_todo c.args.self.now.pending.todo c.in-Some.place (sym c.first.ensures.value ∙ c.in-Some.is) in
    let high = c.first.ensures.high c.in-Some.place (subst (λ (xs : List Place). IsPlaceOf xs c.in-Some.place) (sym e) (inl refl)) in
    (place_stands g.O.OpClass.meaning c.args.table.now c.args.self.now (contains row_cmp c.args.targets.now.rows) c.requires.shape c.requires.vacuum c.in-Some.place ps e high).0

pub handle_place-requires-clause-block : goal.handle_place-requires-clause-block
handle_place-requires-clause-block g c =
    let (ps, e) = first_of_todo c.args.self.now.pending.todo c.in-Some.place (sym c.first.ensures.value ∙ c.in-Some.is) in
    let high = c.first.ensures.high c.in-Some.place (subst (λ (xs : List Place). IsPlaceOf xs c.in-Some.place) (sym e) (inl refl)) in
    (omega arith, (place_stands g.O.OpClass.meaning c.args.table.now c.args.self.now (contains row_cmp c.args.targets.now.rows) c.requires.shape c.requires.vacuum c.in-Some.place ps e high).0)

pub handle_place-requires-clause-there : goal.handle_place-requires-clause-there
handle_place-requires-clause-there g c =
    let (ps, e) = first_of_todo c.args.self.now.pending.todo c.in-Some.place (sym c.first.ensures.value ∙ c.in-Some.is) in
    let high = c.first.ensures.high c.in-Some.place (subst (λ (xs : List Place). IsPlaceOf xs c.in-Some.place) (sym e) (inl refl)) in
    let s = place_stands g.O.OpClass.meaning c.args.table.now c.args.self.now (contains row_cmp c.args.targets.now.rows) c.requires.shape c.requires.vacuum c.in-Some.place ps e high in (s.1, s.2)

pub mark_first-requires : goal.mark_first-requires
mark_first-requires g c =
    let (ps, e) = first_of_todo c.args.self.now.pending.todo c.in-Some.place (sym c.first.ensures.value ∙ c.in-Some.is) in
    let l = ap length e in
    let f = (listed_front c.args.self.now.pending.done c.args.self.now.pending.todo (found_from (sheet_at c.args.table.now c.in-Some.place.block).inner c.args.self.now.stamp c.args.table.now c.in-Some.place)).0 in
    let k = ap (λ (x : Listing). length x.todo) c.in_ok-rows.ensures.list in omega arith

pub returns-clause-keeps : goal.returns-clause-keeps
returns-clause-keeps g c =
    let (ps, e) = first_of_todo c.args.self.now.pending.todo c.in-Some.place (sym c.first.ensures.value ∙ c.in-Some.is) in
    let high = c.first.ensures.high c.in-Some.place (subst (λ (xs : List Place). IsPlaceOf xs c.in-Some.place) (sym e) (inl refl)) in
    let s = place_stands g.O.OpClass.meaning c.args.table.now c.args.self.now (contains row_cmp c.args.targets.now.rows) c.requires.shape c.requires.vacuum c.in-Some.place ps e high in
    let v : Vacuum = c.args.self.now in
    let mk : ℕ → Listing → Vacuum = λ n p. record v { swept = n; pending = p } in
    place_kept g.O.OpClass.meaning c.args.table.now c.args.self.now (contains row_cmp c.args.targets.now.rows) c.args.horizon c.requires.shape c.requires.vacuum c.requires.horizon c.handle_place.new.table _ c.in_ok-rows.rows c.in-Some.place ps (sheet_at c.args.table.now c.in-Some.place.block).inner
    high s.0 e refl c.in_ok-rows.ensures.ok (ap₂ mk (c.saturating_add-self.ensures ∙ ap (λ n. min (v.swept + n) (2 ^ 64 - 1)) c.len.ensures) (c.mark_first.ensures ∙ ap (λ (x : Listing). first_done x.done x.todo) c.in_ok-rows.ensures.list))

pub returns-in_err-rows-clause-latched : goal.returns-in_err-rows-clause-latched
returns-in_err-rows-clause-latched g c = on_err c.from_residual.result (place_free c.args.table.now c.args.self.now c.in-Some.place c.args.seat (sym c.first.ensures.value ∙ c.in-Some.is) c.in_default-other_holder.ensures)
