-- An insert at an inner tuple that gains a node, or that is split.
use Rattle.std.proofs.Common.{◌≡◌, ℕ, Bool, ⊎_elim, Option, Some, None, sym, ap, ◌∙◌, subst, inl}
use Rattle.std.specs.Prelude.{ℤ}
use Rattle.spg_opclass.specs.Meaning.{Meaning}
use Rattle.spg_forest.specs.View.{Place}
use Rattle.spg_forest.specs.Pages.{moved}
use Rattle.spg_forest.specs.Shape.{Shape}
use Rattle.spg_forest.specs.Section.{Leaves, Cost}
use Rattle.spg_tree.specs.Table.{Table, sheets_of}
use Rattle.spg_tree.specs.Descents.{Descending, in_nulls}
use Rattle.spg_tree.specs.declared.stand.Stand.{Stand}
use Rattle.spg_tree.specs.declared.stand.Stand.TheVariants.{Start, Root, At, Empty}
use Rattle.spg_descend.specs.Carried.{root_of, IsCarried}
use Rattle.spg_descend.specs.Follows.{IsAtInner, tuple_place}
use Rattle.spg_descend.specs.Puts.{IsQuiet}
use Rattle.spg_move.specs.Answers.{IsInnerOf}
use Rattle.spg_move.specs.Nodes.{node_cost, IsNodeAdded}
use Rattle.spg_core.specs.declared.answer.InsertOut.TheVariants as outs
use Rattle.spg_seats.specs.Descending.{HasInnerRoot, StandsAt, Stands}
use Rattle.spg_core.specs.Stepping.{IsStepOut}
use Rattle.spg_core.proofs.Stands.{root_range, inner_stand}
use Rattle.spg_core.proofs.Moves.{kinds_grow, led_goes}

-- at an inner tuple it is not at its start
pub off_start : {Recon : Type 0} (t : Table) (d : Descending Recon) → IsAtInner t d.stand → d.stand ≡ Start → ⊥
off_start t d i e = (subst (λ (s : Stand). IsAtInner t s) e i).0

-- and its root is an inner tuple
pub inner_root : {Key Recon Cond : Type 0} (m : Meaning Key Recon Cond) (t : Table) (d : Descending Recon) → Shape m (sheets_of t) → Stands t d → IsAtInner t d.stand → HasInnerRoot t (in_nulls d)
inner_root m t d H at i = (inner_stand m t (in_nulls d) d.stand d.parent H at i).0

-- where the tuple stays in its place the insert stands as it did, and goes on from there
stands_inner : (t t1 : Table) (nulls : Bool) (st : Stand) (p : Option (Place × ℕ)) → StandsAt t nulls st p → HasInnerRoot t1 nulls → IsInnerOf t1 nulls st p → StandsAt t1 nulls st p
stands_inner t t1 nulls Start p a root i = absurd i
stands_inner t t1 nulls (Root b) p a root i = a
stands_inner t t1 nulls (At x) None a root i = absurd i
stands_inner t t1 nulls (At x) (Some (p, j)) a root (inner, tree, link) = (root, tree, link, inl inner)
stands_inner t t1 nulls Empty p a root i = absurd i

pub stays_out : {Key Recon Cond : Type 0} (m : Meaning Key Recon Cond) (t t1 : Table) (d d2 : Descending Recon) (seat : ℕ) (cost : Cost) → Shape m (sheets_of t) → Stands t d → IsAtInner t d.stand → IsQuiet t t1 →
    d2.row ≡ d.row → in_nulls d2 ≡ in_nulls d → d2.stand ≡ d.stand → d2.parent ≡ d.parent → IsInnerOf t1 (in_nulls d) d2.stand d2.parent → Leaves m (sheets_of t) (sheets_of t1) t1.touched cost 0 (λ x. x) →
    ((key : Option Key) → IsCarried m (sheets_of t) d key → IsCarried m (sheets_of t1) d2 key) → IsStepOut m t t1 d d2 seat outs.Restructured
stays_out {Key} {Recon} m t t1 d d2 seat cost H at i quiet row nulls stand parent link L carries =
    let root : HasInnerRoot t1 (in_nulls d) = quiet.roots (root_of (in_nulls d)) (root_range (in_nulls d)).1 ∙ inner_root m t d H at i in
    let at2 : StandsAt t (in_nulls d) d2.stand d2.parent = subst (λ (p : Option (Place × ℕ)). StandsAt t (in_nulls d) d2.stand p) (sym parent) (subst (λ (s : Stand). StandsAt t (in_nulls d) s d.parent) (sym stand) at) in
    let there : StandsAt t1 (in_nulls d2) d2.stand d2.parent = subst (λ (b : Bool). StandsAt t1 b d2.stand d2.parent) (sym nulls) (stands_inner t t1 (in_nulls d) d2.stand d2.parent at2 root link) in
    (off_start t d i, (cost, (λ x. x), L), quiet.limit, kinds_grow t t1 d quiet.roots, (row, nulls, there, carries))

-- a node was put into the tuple
pub widen_out : {Key Recon Cond : Type 0} (m : Meaning Key Recon Cond) (t t1 : Table) (d d2 : Descending Recon) (seat at : ℕ) (label : ℤ) → Shape m (sheets_of t) → ((key : Option Key) × IsCarried m (sheets_of t) d key) → Stands t d → IsAtInner t d.stand →
    IsNodeAdded m t t1 d d2 at label → IsStepOut m t t1 d d2 seat outs.Restructured
widen_out {Key} {Recon} m t t1 d d2 seat at label H of_key stands i added = ⊎_elim
    (λ (e, quiet, makes, link, W).
    stays_out m t t1 d d2 seat node_cost H stands i quiet (ap (λ (x : Descending Recon). x.row) e) (ap (λ (x : Descending Recon). in_nulls x) e) (ap (λ (x : Descending Recon). x.stand) e) (ap (λ (x : Descending Recon). x.parent) e) link W.leaves W.carries)
    (λ (big, y, e, ticked, makes, parity, led, W).
    let stand : d2.stand ≡ At y = ap (λ (x : Descending Recon). x.stand) e in (
      off_start t d i,
      (node_cost, moved (tuple_place d.stand) y, W.leaves),
      ticked.limit,
      kinds_grow t t1 d ticked.roots,
      led_goes m t t1 d d2 y of_key (inner_root m t d H stands i) ticked (ap (λ (x : Descending Recon). x.row) e) (ap (λ (x : Descending Recon). in_nulls x) e) stand (ap (λ (x : Descending Recon). x.parent) e) W.leaves.section.shape (subst (λ (s : Stand). IsAtInner t1 s) stand W.inner) led W.carries,
    ))
    added
