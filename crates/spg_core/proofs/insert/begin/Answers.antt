use Rattle.std.proofs.Common.{◌≡◌, ◌<◌, ℕ, false, None, arith, length, inl, sym, ap, ◌∙◌, subst}
use Rattle.spg_tree.specs.Table.{Table, sheets_of, latch_at}
use Rattle.spg_tree.specs.Descents.{Descending, in_nulls}
use Rattle.spg_tree.specs.declared.stand.Stand.{Stand}
use Rattle.spg_descend.specs.Carried.{root_of}
use Rattle.spg_seats.specs.Descending.{StandsAt, holds_block}
use Rattle.spg_seats.specs.Latching.{InsertHolds}
use Rattle.spg_seats.proofs.Holding.{enter_holds, start_free, held_same}
use Rattle.spg_core.specs.Stepping.{SamePages}
use Rattle.spg_core.proofs.Stands.{root_range}
use Rattle.spg_core.proofs.Moves.{goes_same, goes_root, same_makes, same_within}
use Rattle.spg_core.proofs.Ends.{enters_ends}
use Rattle.spg_core.proofs.Finds.{start_finds}
use Rattle.spg_core.proofs.insert.begin.Goals as goal

pub returns-in-In-clause-does : goal.returns-in-In-clause-does
returns-in-In-clause-does g c =
    let t = c.args.table.now in
    let d = c.args.descent.now in
    let m = g.O.OpClass.meaning in
    let t2 = c.enter_root.new.table in
    let d2 = c.enter_root.new.descent in
    let (free, et, ed) = c.in-In.ensures.entered in
    let same : SamePages t t2 = (ap sheets_of et, ap (λ (z : Table). z.limit) et) in
    let parent : d.parent ≡ None = subst (λ (s : Stand). StandsAt t (in_nulls d) s d.parent) c.requires.start c.requires.stands in
    let within : root_of (in_nulls d) < length t.latches = omega (arith, (root_range (in_nulls d)).1, c.page_count-count.ensures.sound.roots, c.page_count-count.ensures.sound.latched) in
    record {
      ok = (inl c.requires.start, same, goes_root m t t2 d d2 same ed c.in-In.ensures.carries);
      told = inl (c.requires.start, c.in-In.ensures.entered);
      latches = λ rest h. enter_holds c.args.seat rest t t2 d d2 (root_of (in_nulls d)) within free c.requires.start parent et ed h;
      within = λ its. same_within t t2 c.args.seat same;
      ends = enters_ends m t t2 d d2 c.requires.start same ed;
      makes = same_makes t t2 same;
    }

pub returns-in-Busy-clause-does : goal.returns-in-Busy-clause-does
returns-in-Busy-clause-does g c =
    let t = c.args.table.now in
    let d = c.args.descent.now in
    let m = g.O.OpClass.meaning in
    let seat = c.args.seat in
    let t2 = c.enter_root.new.table in
    let d2 = c.enter_root.new.descent in
    let (eb, held, other, et, ed) = c.in-Busy.ensures.entered in
    let same : SamePages t t2 = (ap sheets_of et, ap (λ (z : Table). z.limit) et) in
    let latches : (b : ℕ) → latch_at t2 b ≡ latch_at t b = λ b. ap (λ (z : Table). latch_at z b) et in
    let parent : d.parent ≡ None = subst (λ (s : Stand). StandsAt t (in_nulls d) s d.parent) c.requires.start c.requires.stands in
    record {
      ok = (held, other, ap (λ (z : Descending _). z.stand) ed ∙ c.requires.start, same, goes_same m t t2 d d2 same ed c.requires.stands);
      told = inl (c.requires.start, c.in-Busy.ensures.entered);
      latches = λ rest h. (held_same seat rest t t2 (λ b. false) latches (start_free seat rest t d c.requires.start parent h), subst (λ (z : Descending _). InsertHolds t2 seat rest z) (sym ed) (held_same seat rest t t2 (holds_block d) latches h));
      within = λ its. same_within t t2 seat same;
      ends = λ n h. tt;
      makes = same_makes t t2 same;
    }

pub returns-in-In-clause-found : goal.returns-in-In-clause-found
returns-in-In-clause-found g c = start_finds g.O.OpClass.meaning c.args.table.now c.args.descent.now c.args.seat c.requires.start

pub returns-in-Busy-clause-found : goal.returns-in-Busy-clause-found
returns-in-Busy-clause-found g c = start_finds g.O.OpClass.meaning c.args.table.now c.args.descent.now c.args.seat c.requires.start
