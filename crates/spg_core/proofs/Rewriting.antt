-- What a section that changed pages leaves, before the latches of the insert are settled.
use Rattle.std.proofs.Common.{◌≡◌, ◌≤◌, ℕ, Option, length, sym, ap, subst, inl, inr}
use Rattle.spg_opclass.specs.Meaning.{Meaning}
use Rattle.spg_opclass.specs.Laws.{AddLaw, SplitLaw}
use Rattle.spg_forest.specs.Pages.{moved}
use Rattle.spg_forest.specs.Shape.{Shape}
use Rattle.spg_forest.specs.Tuples.{IsAmong}
use Rattle.spg_tree.specs.Table.{Table, sheets_of, sheet_at, latch_at}
use Rattle.spg_tree.specs.Descents.{Descending, in_nulls}
use Rattle.spg_tree.specs.declared.stand.Stand.{Stand}
use Rattle.spg_descend.specs.Carried.{IsCarried}
use Rattle.spg_descend.specs.Follows.{IsAtInner, tuple_place}
use Rattle.spg_descend.specs.Puts.{cost_at}
use Rattle.spg_split.specs.Splits.{split_cost}
use Rattle.spg_move.specs.Moves.{move_cost}
use Rattle.spg_move.specs.Splits as tuples
use Rattle.spg_seats.specs.Descending.{Stands}
use Rattle.spg_core.specs.declared.answer.InsertOut.{InsertOut}
use Rattle.spg_core.specs.declared.answer.InsertOut.TheVariants as outs
use Rattle.spg_core.specs.Stepping.{IsStepOut, MakesAtMostOne}
use Rattle.spg_core.specs.Ends.{TakesOne}
use Rattle.spg_core.specs.Telling.{Rewrites}
use Rattle.spg_core.proofs.Moves.{root_full, root_leaves, root_out, chain_out, below_root, kinds_grow, calm_grow, at_chain, not_empty, makes_below}
use Rattle.spg_core.proofs.Inners.{stays_out, widen_out}
use Rattle.spg_core.proofs.Ends.{widen_ends, split_ends, root_ends, chain_ends, chain_leaves}

module _ {Key Recon Cond : Type 0} (m : Meaning Key Recon Cond) (t t1 : Table) (d d2 : Descending Recon) (seat : ℕ) where
  -- no latch is changed
  pub rewritten_latches : (out : InsertOut) → Rewrites m t t1 d d2 seat out → (b : ℕ) → latch_at t1 b ≡ latch_at t b
  rewritten_latches outs.Descended R = absurd R
  rewritten_latches (outs.Restarted block by) R = absurd R
  rewritten_latches outs.Restructured (inl (i, main, inl (at, label, answered, inl (e, quiet, makes, link, W), table))) = quiet.latches
  rewritten_latches outs.Restructured (inl (i, main, inl (at, label, answered, inr (big, y, e, ticked, makes, parity, led, W), table))) = ticked.latches
  rewritten_latches outs.Restructured (inl (i, main, inr (up, labels, child, low, answered, P, table))) = P.quiet.latches
  rewritten_latches outs.Restructured (inr (rule, inl (low, (calm, makes, ways), table, cause, rise))) = calm.latches
  rewritten_latches outs.Restructured (inr (rule, inr (below, split, ticked, table, cause, rise))) = ticked.latches
  rewritten_latches outs.Put (e, inl (rule, (fits, puts, quiet, makes), table)) = quiet.latches
  rewritten_latches outs.Put (e, inr (inl (rule, moves, ticked, makes, table))) = ticked.latches
  rewritten_latches outs.Put (e, inr (inr (rule, inl (low, (parts, calm, makes, same), table, cause, rise)))) = calm.latches
  rewritten_latches outs.Put (e, inr (inr (rule, inr (below, split, ticked, table, cause, rise)))) = ticked.latches

  -- the tuple above stays
  pub rewritten_parent : (out : InsertOut) → Rewrites m t t1 d d2 seat out → d2.parent ≡ d.parent
  rewritten_parent outs.Descended R = absurd R
  rewritten_parent (outs.Restarted block by) R = absurd R
  rewritten_parent outs.Restructured (inl (i, main, inl (at, label, answered, inl (e, quiet, makes, link, W), table))) = ap (λ (x : Descending Recon). x.parent) e
  rewritten_parent outs.Restructured (inl (i, main, inl (at, label, answered, inr (big, y, e, ticked, makes, parity, led, W), table))) = ap (λ (x : Descending Recon). x.parent) e
  rewritten_parent outs.Restructured (inl (i, main, inr (up, labels, child, low, answered, P, table))) = ap (λ (x : Descending Recon). x.parent) P.after
  rewritten_parent outs.Restructured (inr (rule, inl (low, (calm, makes, inl (e, W)), table, cause, rise))) = ap (λ (x : Descending Recon). x.parent) e
  rewritten_parent outs.Restructured (inr (rule, inl (low, (calm, makes, inr (e, W)), table, cause, rise))) = ap (λ (x : Descending Recon). x.parent) e
  rewritten_parent outs.Restructured (inr (rule, inr (below, (z, makes, inl (e, W)), ticked, table, cause, rise))) = ap (λ (x : Descending Recon). x.parent) e
  rewritten_parent outs.Restructured (inr (rule, inr (below, (z, makes, inr (e, W)), ticked, table, cause, rise))) = ap (λ (x : Descending Recon). x.parent) e
  rewritten_parent outs.Put (e, ways) = ap (λ (x : Descending Recon). x.parent) e

  -- and where the leaf is not put the insert stands at an inner tuple
  pub rewritten_inner : Rewrites m t t1 d d2 seat outs.Restructured → IsAtInner t1 d2.stand
  rewritten_inner (inl (i, main, inl (at, label, answered, inl (e, quiet, makes, link, W), table))) = W.inner
  rewritten_inner (inl (i, main, inl (at, label, answered, inr (big, y, e, ticked, makes, parity, led, W), table))) = W.inner
  rewritten_inner (inl (i, main, inr (up, labels, child, low, answered, P, table))) = P.inner
  rewritten_inner (inr (rule, inl (low, (calm, makes, inl (e, W)), table, cause, rise))) = W.inner
  rewritten_inner (inr (rule, inl (low, (calm, makes, inr (e, W)), table, cause, rise))) = W.inner
  rewritten_inner (inr (rule, inr (below, (z, makes, inl (e, W)), ticked, table, cause, rise))) = subst (λ (s : Stand). IsAtInner t1 s) (sym (ap (λ (x : Descending Recon). x.stand) e)) W.inner
  rewritten_inner (inr (rule, inr (below, (z, makes, inr (e, W)), ticked, table, cause, rise))) = subst (λ (s : Stand). IsAtInner t1 s) (sym (ap (λ (x : Descending Recon). x.stand) e)) W.inner

  -- one inner tuple is made at most
  pub rewritten_makes : (out : InsertOut) → Rewrites m t t1 d d2 seat out → MakesAtMostOne t t1
  rewritten_makes outs.Descended R = absurd R
  rewritten_makes (outs.Restarted block by) R = absurd R
  rewritten_makes outs.Restructured (inl (i, main, inl (at, label, answered, inl (e, quiet, makes, link, W), table))) = (tuple_place d.stand, λ x off inner. makes x inner)
  rewritten_makes outs.Restructured (inl (i, main, inl (at, label, answered, inr (big, y, e, ticked, makes, parity, led, W), table))) = (y, makes)
  rewritten_makes outs.Restructured (inl (i, main, inr (up, labels, child, low, answered, P, table))) = (P.lower.0, P.lower.2)
  rewritten_makes outs.Restructured (inr (rule, inl (low, (calm, makes, ways), table, cause, rise))) = (tuple_place d.stand, makes)
  rewritten_makes outs.Restructured (inr (rule, inr (below, (z, makes, ways), ticked, table, cause, rise))) = (z, makes_below t t1 d.parent z makes)
  rewritten_makes outs.Put (e, inl (rule, (fits, puts, quiet, makes), table)) = (tuple_place d.stand, λ x off inner. makes x inner)
  rewritten_makes outs.Put (e, inr (inl (rule, moves, ticked, makes, table))) = (tuple_place d.stand, λ x off inner. makes x inner)
  rewritten_makes outs.Put (e, inr (inr (rule, inl (low, (parts, calm, makes, same), table, cause, rise)))) = (tuple_place d.stand, makes)
  rewritten_makes outs.Put (e, inr (inr (rule, inr (below, (z, makes, splits, same), ticked, table, cause, rise)))) = (z, makes_below t t1 d.parent z makes)

  module _ (H : Shape m (sheets_of t)) (K : (key : Option Key) × IsCarried m (sheets_of t) d key) (at : Stands t d) where
    pub rewritten_out : (out : InsertOut) → Rewrites m t t1 d d2 seat out → IsStepOut m t t1 d d2 seat out
    rewritten_out outs.Descended R = absurd R
    rewritten_out (outs.Restarted block by) R = absurd R
    rewritten_out outs.Restructured (inl (i, main, inl (n, label, answered, added, table))) = widen_out m t t1 d d2 seat n label H K at i added
    rewritten_out outs.Restructured (inl (i, main, inr (up, labels, child, low, answered, P, table))) = stays_out m t t1 d d2 seat tuples.split_cost H at i P.quiet
        (ap (λ (x : Descending Recon). x.row) P.after) (ap (λ (x : Descending Recon). in_nulls x) P.after) (ap (λ (x : Descending Recon). x.stand) P.after) (ap (λ (x : Descending Recon). x.parent) P.after) P.link P.leaves P.carries
    rewritten_out outs.Restructured (inr ((off, room, long), inl (low, split, table, cause, rise))) = root_out m t t1 d d2 seat at off low (root_full m t d H at off room low) split
    rewritten_out outs.Restructured (inr ((off, room, long), inr (below, split, ticked, table, cause, rise))) = chain_out m t t1 d d2 seat K off (below_root t d at off below) ticked split
    rewritten_out outs.Put (e, inl ((off, fits), (fitted, puts, quiet, makes), table)) = (off, (λ key C. (cost_at d.stand, (λ x. x), puts key C)), quiet.limit, kinds_grow t t1 d quiet.roots, ap (λ (x : Descending Recon). x.row) e)
    rewritten_out outs.Put (e, inr (inl ((off, room, short), moves, ticked, makes, table))) =
        (off, (λ key C. let (y, A) = moves key C in (move_cost, moved (tuple_place d.stand) y, A)), ticked.limit, kinds_grow t t1 d ticked.roots, ap (λ (x : Descending Recon). x.row) e)
    rewritten_out outs.Put (e, inr (inr ((off, room, long), inl (low, (parts, calm, makes, same), table, cause, rise)))) =
        (off, (λ key C. (split_cost d.stand 1, (λ x. x), parts key C)), calm.limit, calm_grow t t1 d calm (root_full m t d H at off room low), ap (λ (x : Descending Recon). x.row) e)
    rewritten_out outs.Put (e, inr (inr ((off, room, long), inr (below, (z, makes, splits, same), ticked, table, cause, rise)))) =
        (off, (λ key C. (split_cost d.stand 1, moved (tuple_place d.stand) z, splits key C)), ticked.limit, kinds_grow t t1 d ticked.roots, ap (λ (x : Descending Recon). x.row) e)

    -- it takes one of the sections that may come
    pub rewritten_ends : AddLaw m → SplitLaw m → (out : InsertOut) → Rewrites m t t1 d d2 seat out → TakesOne m t t1 d d2 out
    rewritten_ends adds splits outs.Descended R = absurd R
    rewritten_ends adds splits (outs.Restarted block by) R = absurd R
    rewritten_ends adds splits outs.Restructured (inl (i, main, inl (n, label, answered, added, table))) = widen_ends m adds t t1 d d2 n label H K at i main answered added
    rewritten_ends adds splits outs.Restructured (inl (i, main, inr (up, labels, child, low, answered, P, table))) = split_ends m splits t t1 d d2 up labels child low H K at i main answered P
    rewritten_ends adds splits outs.Restructured (inr ((off, room, long), inl (low, split, table, cause, rise))) = root_ends m t t1 d d2 H (root_leaves m t d H at off low) off.1 split
    rewritten_ends adds splits outs.Restructured (inr ((off, room, long), inr (below, split, ticked, table, cause, rise))) =
        chain_ends m t t1 d d2 H (chain_leaves t (in_nulls d) d.stand d.parent (at_chain t d at off below (not_empty t d room))) off.1 split
    rewritten_ends adds splits outs.Put R = λ n h. tt

    -- the pages are a forest still, no fewer, and the others are as they were
    pub record Kept : Type 0 where
      pub shape : Shape m (sheets_of t1)
      pub pages : length t.pages ≤ length t1.pages
      pub others : (b : ℕ) → (IsAmong b t1.touched → ⊥) → sheet_at t1 b ≡ sheet_at t b

    pub rewritten_kept : (out : InsertOut) → Rewrites m t t1 d d2 seat out → Kept
    rewritten_kept out R = go out (rewritten_out out R) R
      where
        go : (out : InsertOut) → IsStepOut m t t1 d d2 seat out → Rewrites m t t1 d d2 seat out → Kept
        go outs.Descended h R = absurd R
        go (outs.Restarted block by) h R = absurd R
        go outs.Restructured (off, (cost, f, L), limit, grow, goes) R = record { shape = L.section.shape; pages = L.section.within.pages.0; others = L.section.within.others }
        go outs.Put (off, adds, limit, grow, row) R = let (cost, f, A) = adds K.0 K.1 in record { shape = A.section.shape; pages = A.section.within.pages.0; others = A.section.within.others }
