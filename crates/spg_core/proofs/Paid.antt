-- What a section of an insert costs, of what the insert has left.
use Rattle.std.proofs.Common.{◌≡◌, ◌≤◌, ◌+◌, ◌*◌, ◌⊎◌, ⊎_elim, inl, inr, ℕ, Bool, true, false, Option, length, refl, sym, ap, ap₂, ◌∙◌, subst, arith}
use Rattle.spg_opclass.specs.Meaning.{Meaning}
use Rattle.spg_opclass.specs.Laws.{AddLaw, SplitLaw}
use Rattle.spg_forest.specs.View.{Place}
use Rattle.spg_forest.specs.Pages.{moved}
use Rattle.spg_forest.specs.Sheets.{Sheets}
use Rattle.spg_forest.specs.Shape.{Shape}
use Rattle.spg_tree.specs.Table.{Table, sheets_of}
use Rattle.spg_tree.specs.Descents.{Descending, in_nulls}
use Rattle.spg_tree.specs.declared.stand.Stand.{Stand}
use Rattle.spg_tree.specs.declared.stand.Stand.TheVariants.{Start, Root, At, Empty}
use Rattle.spg_descend.specs.declared.enter.Entered.TheVariants.{In, Busy}
use Rattle.spg_descend.specs.Carried.{IsCarried}
use Rattle.spg_descend.specs.Follows.{IsAtInner}
use Rattle.spg_descend.specs.Answers.{LeadsNowhere}
use Rattle.spg_descend.specs.Follows.{tuple_place}
use Rattle.spg_descend.specs.declared.enter.Entered.{Entered}
use Rattle.spg_split.specs.declared.split.SplitOut.TheVariants as division
use Rattle.spg_move.specs.Nodes.{Widens}
use Rattle.spg_seats.specs.Descending.{Stands}
use Rattle.spg_core.specs.declared.answer.InsertOut.{InsertOut}
use Rattle.spg_core.specs.declared.answer.InsertOut.TheVariants as outs
use Rattle.spg_core.specs.Stepping.{SamePages, IsStepOut}
use Rattle.spg_core.specs.Telling.{Comes, Rewrites, StepTells, IsButLatches}
use Rattle.spg_core.proofs.Moves.{root_leaves, at_chain, not_empty, moves_below}
use Rattle.spg_core.proofs.Ends.{chain_leaves}
use Rattle.spg_bounds.specs.Inners.{behind}
use Rattle.spg_bounds.specs.Promises.{IsSettled, KeepsPromises}
use Rattle.spg_bounds.specs.Bounds.{unless, pages_left, ticks_left}
use Rattle.spg_bounds.specs.Spending.{Spends}
use Rattle.spg_bounds.proofs.Sections.{put_spends, put_empty, move_spends, split_spends, root_made, chain_made, node_spends, part_spends}
use Rattle.spg_core.proofs.Promised.{promises_none, nothing_promised, split_none, add_none, comes_in, comes_busy, widened_settled, parted_settled}

-- ---- what is left

left_none : {Recon : Type 0} (d : Descending Recon) → d.rose ≡ false → d.added ≡ false → (pages_left d ≡ 8) × (ticks_left d ≡ 3)
left_none d r a = (ap₂ (λ (x y : Bool). unless x 4 + unless y 3 + 1) r a, ap₂ (λ (x y : Bool). unless x 1 + unless y 1 + 1) r a)

left_least : {Recon : Type 0} (d : Descending Recon) → (1 ≤ pages_left d) × (1 ≤ ticks_left d)
left_least d = (omega arith, omega arith)

left_same : {Recon : Type 0} (d d2 : Descending Recon) → d2.rose ≡ d.rose → d2.added ≡ d.added → (pages_left d2 ≡ pages_left d) × (ticks_left d2 ≡ ticks_left d)
left_same d d2 r a = (ap₂ (λ (x y : Bool). unless x 4 + unless y 3 + 1) r a, ap₂ (λ (x y : Bool). unless x 1 + unless y 1 + 1) r a)

left_risen : {Recon : Type 0} (d : Descending Recon) → d.rose ≡ true → d.added ≡ false → (pages_left d ≡ 4) × (ticks_left d ≡ 2)
left_risen d r a = (ap₂ (λ (x y : Bool). unless x 4 + unless y 3 + 1) r a, ap₂ (λ (x y : Bool). unless x 1 + unless y 1 + 1) r a)

left_added : {Recon : Type 0} (d d2 : Descending Recon) → d2.rose ≡ d.rose → d.added ≡ false → d2.added ≡ true → (pages_left d2 + 3 ≡ pages_left d) × (ticks_left d2 + 1 ≡ ticks_left d)
left_added d d2 r a b =
    let p = ap (λ (x : Bool). unless x 4) r in
    let q = ap (λ (x : Bool). unless x 1) r in
    let e : unless d.added 3 ≡ 3 = ap (λ (x : Bool). unless x 3) a in
    let f : unless d.added 1 ≡ 1 = ap (λ (x : Bool). unless x 1) a in
    let g : unless d2.added 3 ≡ 0 = ap (λ (x : Bool). unless x 3) b in
    let h : unless d2.added 1 ≡ 0 = ap (λ (x : Bool). unless x 1) b in
    (omega arith, omega arith)

-- ---- the same pages

spends_same : (t t2 : Table) → SamePages t t2 → Spends t t2 0 0
spends_same t t2 (e, l) =
    let n = ap (λ (S : Sheets). length S.sheets) e in
    let c = ap (λ (S : Sheets). S.clock) e in
    let b = ap behind e in
    record { pages = omega arith; clock = omega arith }

-- what an insert has left after a section with this outcome, and what it promises then
abbrev pub left_then : {Recon : Type 0} → (Descending Recon → ℕ) → Descending Recon → InsertOut → ℕ
left_then f d outs.Descended = f d
left_then f d outs.Restructured = f d
left_then f d (outs.Restarted block by) = f d
left_then f d outs.Put = 0

abbrev pub ThenPromises : {Key Recon Cond : Type 0} → Meaning Key Recon Cond → Table → Descending Recon → InsertOut → Type 0
ThenPromises m t d outs.Descended = KeepsPromises m t d
ThenPromises m t d outs.Restructured = KeepsPromises m t d
ThenPromises m t d (outs.Restarted block by) = KeepsPromises m t d
ThenPromises m t d outs.Put = Unit {0}

-- a section is paid for by what the insert has left
pub record IsPaid {Key Recon Cond : Type 0} (m : Meaning Key Recon Cond) (t t2 : Table) (d d2 : Descending Recon) (out : InsertOut) : Type 0 where
  pub pages : ℕ
  pub ticks : ℕ
  pub spends : Spends t t2 pages ticks
  pub pays : pages + left_then pages_left d2 out ≤ pages_left d
  pub pays_ticks : ticks + left_then ticks_left d2 out ≤ ticks_left d
  pub promises : ThenPromises m t2 d2 out

-- latches alone are changed then
spends_but : (t t1 t2 : Table) (p q : ℕ) → IsButLatches t1 t2 → Spends t t1 p q → Spends t t2 p q
spends_but t t1 t2 p q e C = subst (λ (z : Table). Spends t z p q) (sym e) (record { pages = C.pages; clock = C.clock })

promises_but : {Key Recon Cond : Type 0} (m : Meaning Key Recon Cond) (t1 t2 : Table) (d : Descending Recon) → IsButLatches t1 t2 → KeepsPromises m t1 d → KeepsPromises m t2 d
promises_but m t1 t2 d e P = subst (λ (z : Table). KeepsPromises m z d) (sym e) (record { rose = P.rose; added = P.added })

abbrev settled_promises : {Key Recon Cond : Type 0} (m : Meaning Key Recon Cond) (t : Table) (d : Descending Recon) → IsSettled m t d → KeepsPromises m t d
settled_promises m t d s = record { rose = λ r. inl s; added = λ r. s }

is_empty : (st : Stand) → (st ≡ Empty) ⊎ (st ≡ Empty → ⊥)
is_empty Start = inr (λ e. cc)
is_empty (Root b) = inr (λ e. cc)
is_empty (At x) = inr (λ e. cc)
is_empty Empty = inl refl

module _ {Key Recon Cond : Type 0} (m : Meaning Key Recon Cond) (adds : AddLaw m) (splits : SplitLaw m) (t : Table) (d d2 : Descending Recon) (seat : ℕ) (H : Shape m (sheets_of t)) (K : (key : Option Key) × IsCarried m (sheets_of t) d key) (at : Stands t d) (P : KeepsPromises m t d) where
  -- ---- it comes to its root, or goes down

  same_flags : (t2 : Table) (out : Entered) → Comes m t t2 d d2 seat out → (d2.rose ≡ d.rose) × (d2.added ≡ d.added)
  same_flags t2 In (inl (start, (free, et, ed))) = (ap (λ (z : Descending Recon). z.rose) ed, ap (λ (z : Descending Recon). z.added) ed)
  same_flags t2 (Busy block by) (inl (start, (eb, held, other, et, ed))) = (ap (λ (z : Descending Recon). z.rose) ed, ap (λ (z : Descending Recon). z.added) ed)
  same_flags t2 In (inr (i, (node, rest, by_turn, is, t1, (free, et, ed), turned))) = (ap (λ (z : Descending Recon). z.rose) ed, ap (λ (z : Descending Recon). z.added) ed)
  same_flags t2 (Busy block by) (inr (i, (node, rest, by_turn, is, t1, (eb, held, other, et, ed), turned))) = (ap (λ (z : Descending Recon). z.rose) ed, ap (λ (z : Descending Recon). z.added) ed)

  -- ---- it changes pages

  module _ (t1 : Table) where
    record Rewritten : Type 0 where
      pages : ℕ
      ticks : ℕ
      spends : Spends t t1 pages ticks
      pays : pages + pages_left d2 ≤ pages_left d
      pays_ticks : ticks + ticks_left d2 ≤ ticks_left d
      promises : KeepsPromises m t1 d2

    -- the leaves are divided without its own
    left_out : (more : ℕ) → (d.rose ≡ false) × (d.added ≡ false) → Spends t t1 (4 * more) more → ((more ≡ 0) × (d2.rose ≡ d.rose)) ⊎ ((more ≡ 1) × (d2.rose ≡ true)) → d2.added ≡ d.added → IsAtInner t1 d2.stand → (more ≡ 0) ⊎ LeadsNowhere m t1 d2 → Rewritten
    left_out more (r, a) C (inl (none, e)) f inner settles =
        let (x, y) = left_same d d2 e f in record { pages = 4 * more; ticks = more; spends = C; pays = omega arith; pays_ticks = omega arith; promises = promises_none m t1 d2 (e ∙ r) (f ∙ a) }
    left_out more (r, a) C (inr (one, e)) f inner settles =
        let (x, y) = left_none d r a in
        let (u, v) = left_risen d2 e (f ∙ a) in
        let n : LeadsNowhere m t1 d2 = ⊎_elim (λ z. absurd (omega arith)) (λ n. n) settles in
        record { pages = 4 * more; ticks = more; spends = C; pays = omega arith; pays_ticks = omega arith; promises = settled_promises m t1 d2 (inr (inner, n)) }

    restructured : Rewrites m t t1 d d2 seat outs.Restructured → Rewritten
    restructured (inl (i, main, inl (n, label, answered, ways, table))) = ⊎_elim
        (λ (e, quiet, makes, link, W).
        widened (λ x. x) (ap (λ (z : Descending Recon). z.recon) e) (ap (λ (z : Descending Recon). z.rest) e) (ap (λ (z : Descending Recon). z.rose) e) (ap (λ (z : Descending Recon). z.added) e) W)
        (λ (big, y, e, ticked, makes, parity, led, W).
        widened (moved (tuple_place d.stand) y) (ap (λ (z : Descending Recon). z.recon) e) (ap (λ (z : Descending Recon). z.rest) e) (ap (λ (z : Descending Recon). z.rose) e) (ap (λ (z : Descending Recon). z.added) e) W)
        ways
      where
        widened : (f : Place → Place) → d2.recon ≡ d.recon → d2.rest ≡ d.rest → d2.rose ≡ d.rose → d2.added ≡ true → Widens m t t1 d d2 n label f → Rewritten
        widened f er es rose added W =
            let none = add_none m t d P i n label answered in
            let (x, y) = left_added d d2 rose none added in
            record {
              pages = 3;
              ticks = 1;
              spends = node_spends m t t1 d d2 n label seat f W table;
              pays = omega arith;
              pays_ticks = omega arith;
              promises = settled_promises m t1 d2 (widened_settled m t t1 d d2 H K at i main adds n label f er es answered W);
            }
    restructured (inl (i, main, inr (up, labels, child, low, answered, W, table))) =
        let (r, a) = split_none m t d P i up labels child low answered in
        let (x, y) = left_none d r a in
        let added : d2.added ≡ false = ap (λ (z : Descending Recon). z.added) W.after ∙ a in
        let (u, v) = left_risen d2 (ap (λ (z : Descending Recon). z.rose) W.after) added in
        record {
          pages = 3;
          ticks = 0;
          spends = part_spends m t t1 d d2 up labels child low seat i W table;
          pays = omega arith;
          pays_ticks = omega arith;
          promises = record {
            rose = λ e. parted_settled m t t1 d d2 H K at i main splits up labels child low answered W;
            added = λ e. absurd (let c : false ≡ true = sym added ∙ e in cc);
          };
        }
    restructured (inr ((off, room, long), inl (low, (calm, makes, ways), table, cause, rise))) =
        let none = nothing_promised m t d P (not_empty t d room) off.1 in
        let made = root_made m t t1 d seat H low (root_leaves m t d H at off low) table in
        ⊎_elim
        (λ (e, W). left_out 0 none (split_spends m t t1 d seat H 0 W.leaves.section.within made) (inl (refl, ap (λ (z : Descending Recon). z.rose) e)) (ap (λ (z : Descending Recon). z.added) e) W.inner W.settles)
        (λ (e, W). left_out 1 none (split_spends m t t1 d seat H 1 W.leaves.section.within made) (inr (refl, ap (λ (z : Descending Recon). z.rose) e)) (ap (λ (z : Descending Recon). z.added) e) W.inner W.settles)
        ways
    restructured (inr ((off, room, long), inr (below, (z, makes, ways), ticked, table, cause, rise))) =
        let empty = not_empty t d room in
        let none = nothing_promised m t d P empty off.1 in
        let made = chain_made m t t1 d seat H d2 division.LeftOut (at_chain t d at off below empty) table in
        ⊎_elim
        (λ (e, W).
        left_out 0 none (split_spends m t t1 d seat H 0 W.leaves.section.within made) (inl (refl, ap (λ (x : Descending Recon). x.rose) e)) (ap (λ (x : Descending Recon). x.added) e)
        (subst (λ (s : Stand). IsAtInner t1 s) (sym (ap (λ (x : Descending Recon). x.stand) e)) W.inner) W.settles)
        (λ (e, W).
        left_out 1 none (split_spends m t t1 d seat H 1 W.leaves.section.within made) (inr (refl, ap (λ (x : Descending Recon). x.rose) e)) (ap (λ (x : Descending Recon). x.added) e)
        (subst (λ (s : Stand). IsAtInner t1 s) (sym (ap (λ (x : Descending Recon). x.stand) e)) W.inner) W.settles)
        ways

    -- the leaf is put
    record PutPaid : Type 0 where
      pages : ℕ
      ticks : ℕ
      spends : Spends t t1 pages ticks
      pays : pages ≤ pages_left d
      pays_ticks : ticks ≤ ticks_left d

    put : Rewrites m t t1 d d2 seat outs.Put → PutPaid
    put (e, inl ((off, fits), done, table)) = ⊎_elim
        (λ empty. let (x, y) = left_least d in record { pages = 1; ticks = 0; spends = put_empty m t t1 d seat K empty done table; pays = x; pays_ticks = omega arith })
        (λ full.
        let (r, a) = nothing_promised m t d P full off.1 in
        let (x, y) = left_none d r a in
        record { pages = 4; ticks = 1; spends = put_spends m t t1 d seat K done table; pays = omega arith; pays_ticks = omega arith })
        (is_empty d.stand)
    put (e, inr (inl ((off, room, short), moves, ticked, makes, table))) =
        let empty = not_empty t d room in
        let (r, a) = nothing_promised m t d P empty off.1 in
        let (x, y) = left_none d r a in
        let leaves = chain_leaves t (in_nulls d) d.stand d.parent (at_chain t d at off (moves_below t d short) empty) in
        record { pages = 5; ticks = 2; spends = move_spends m t t1 d seat H K leaves moves table; pays = omega arith; pays_ticks = omega arith }
    put (e, inr (inr ((off, room, long), inl (low, (parts, calm, makes, same), table, cause, rise)))) =
        let (r, a) = nothing_promised m t d P (not_empty t d room) off.1 in
        let (x, y) = left_none d r a in
        let made = root_made m t t1 d seat H low (root_leaves m t d H at off low) table in
        record { pages = 4; ticks = 1; spends = split_spends m t t1 d seat H 1 (parts K.0 K.1).section.within made; pays = omega arith; pays_ticks = omega arith }
    put (e, inr (inr ((off, room, long), inr (below, (z, makes, parts, same), ticked, table, cause, rise)))) =
        let empty = not_empty t d room in
        let (r, a) = nothing_promised m t d P empty off.1 in
        let (x, y) = left_none d r a in
        let made = chain_made m t t1 d seat H d2 division.Put (at_chain t d at off below empty) table in
        record { pages = 4; ticks = 1; spends = split_spends m t t1 d seat H 1 (parts K.0 K.1).section.within made; pays = omega arith; pays_ticks = omega arith }

  -- ---- any section

  pub paid : (t2 : Table) (out : InsertOut) → IsStepOut m t t2 d d2 seat out → StepTells m t t2 d d2 seat out → IsPaid m t t2 d d2 out
  paid t2 outs.Descended ok C =
      let (r, a) = same_flags t2 In C in
      let (x, y) = left_same d d2 r a in
      record { pages = 0; ticks = 0; spends = spends_same t t2 ok.1; pays = omega arith; pays_ticks = omega arith; promises = comes_in m t d P t2 d2 seat C }
  paid t2 (outs.Restarted block by) ok C =
      let (r, a) = same_flags t2 (Busy block by) C in
      let (x, y) = left_same d d2 r a in
      record { pages = 0; ticks = 0; spends = spends_same t t2 ok.3; pays = omega arith; pays_ticks = omega arith; promises = comes_busy m t d P t2 d2 seat block by C }
  paid t2 outs.Restructured ok (t1, but, R, exact) =
      let Q = restructured t1 R in
      record { pages = Q.pages; ticks = Q.ticks; spends = spends_but t t1 t2 Q.pages Q.ticks but Q.spends; pays = Q.pays; pays_ticks = Q.pays_ticks; promises = promises_but m t1 t2 d2 but Q.promises }
  paid t2 outs.Put ok (t1, but, R, exact) =
      let Q = put t1 R in
      record { pages = Q.pages; ticks = Q.ticks; spends = spends_but t t1 t2 Q.pages Q.ticks but Q.spends; pays = (let a = Q.pays in omega arith); pays_ticks = (let a = Q.pays_ticks in omega arith); promises = tt }
