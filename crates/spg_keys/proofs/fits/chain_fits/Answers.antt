use Rattle.std.proofs.Common.{◌≡◌, ℕ, ◌+◌, ◌-◌, ◌<◌, ◌≤◌, ◌++◌, ◌∷◌, [], List, false, true, length, sym, refl, ap, ◌∙◌, subst, arith}
use Rattle.std.proofs.lemmas.Bool.{false≢true}
use Rattle.spg_forest.specs.View.{Leaf}
use Rattle.spg_forest.specs.Spot.{IsIn}
use Rattle.spg_forest.specs.Pages.{tuple_on}
use Rattle.spg_forest.specs.Tuples.{next_of}
use Rattle.spg_page.specs.Kinds.{IsLive}
use Rattle.spg_page.specs.Reads.{leaf_in}
use Rattle.spg_chain.specs.Chains.{Member, member_at, members, chain_members, leaves_of}
use Rattle.spg_keys.specs.Ways.{IsFit, AllFit}
use Rattle.spg_keys.specs.Paths.{path_of}
use Rattle.spg_keys.specs.Listings.{Lists}
use Rattle.spg_keys.proofs.Gathering.{lists_none}
use Rattle.spg_keys.proofs.Chaining.{chain_more, chain_done, chain_in, done_more, fit_more, lists_leaf}
use Rattle.spg_keys.proofs.fits.chain_fits.Goals as goal

pub loop-step-init : goal.loop-step-init
loop-step-init g c = record {
  done = [];
  whole = ap (λ k. members (tuple_on c.args.page.now.tuples) k c.args.head.offset) (let e : length c.args.page.now.tuples ≡ length c.args.page.now.tuples - 0 = omega arith in e);
  fit = λ l h. absurd h;
  lists = lists_none g.O.OpClass.meaning c.args.recon.now c.args.head.block c.args.page.now.tuples c.args.list.now;
}

pub returns-then-not-is_leaf-clause-yes : goal.returns-then-not-is_leaf-clause-yes
returns-then-not-is_leaf-clause-yes g c = λ t l h.
    let ts = c.args.page.now.tuples in
    let I = c.loop-step.invariant in
    I.fit l (subst (λ (ms : List Member). IsIn l (leaves_of ms)) (chain_done (tuple_on ts) (length ts - c.loop-step.step) c.loop-step.offset (chain_members ts c.args.head.offset) I.done I.whole (c.if-not-is_leaf.ensures.no refl)) h)

pub returns-then-not-is_leaf-clause-lists : goal.returns-then-not-is_leaf-clause-lists
returns-then-not-is_leaf-clause-lists g c = λ t.
    let ts = c.args.page.now.tuples in
    let I = c.loop-step.invariant in
    subst (λ (ms : List Member). Lists g.O.OpClass.meaning c.args.recon.now c.args.head.block ts c.args.list.now c.loop-step.list (leaves_of ms))
    (sym (chain_done (tuple_on ts) (length ts - c.loop-step.step) c.loop-step.offset (chain_members ts c.args.head.offset) I.done I.whole (c.if-not-is_leaf.ensures.no refl))) I.lists

pub returns-then-not-branch-clause-no : goal.returns-then-not-branch-clause-no
returns-then-not-branch-clause-no g c = λ f.
    let ts = c.args.page.now.tuples in
    let I = c.loop-step.invariant in
    let left : 0 < length ts - c.loop-step.step = let a = c.loop-step-test.true in let b = c.count-step-end.ensures.value in omega arith in
    let (at, live) = c.if-not-is_leaf.ensures.yes refl in (
      leaf_in (tuple_on ts c.loop-step.offset),
      chain_in (tuple_on ts) (length ts - c.loop-step.step) c.loop-step.offset (chain_members ts c.args.head.offset) I.done I.whole left live,
      (λ h. false≢true (sym c.if-not-branch.true ∙ c.in_ok-leaf_fits.ensures.fits.1 (subst (λ (rest : List ℕ). IsFit g.O.OpClass.meaning (path_of c.args.path.now) c.args.recon.now rest) (sym c.rest_at-rest.ensures.value) h))),
    )

pub loop-step-preserved : goal.loop-step-preserved
loop-step-preserved g c =
    let m = g.O.OpClass.meaning in
    let ts = c.args.page.now.tuples in
    let T = tuple_on ts in
    let o = c.loop-step.offset in
    let I = c.loop-step.invariant in
    let left : 0 < length ts - c.loop-step.step = let a = c.loop-step-test.true in let b = c.count-step-end.ensures.value in omega arith in
    let less : length ts - c.loop-step.step - 1 ≡ length ts - (c.loop-step.step + 1) = omega arith in
    let (at, live) = c.if-not-is_leaf.ensures.yes refl in
    record {
      done = I.done ++ member_at (T o) o ∷ [];
      whole = chain_more T (length ts - c.loop-step.step) o (chain_members ts c.args.head.offset) I.done I.whole left live ∙ ap (λ k. (I.done ++ member_at (T o) o ∷ []) ++ members T k (next_of (T o))) less ∙ ap (λ k. (I.done ++ member_at (T o) o ∷ []) ++ members T (length ts - (c.loop-step.step + 1)) k) (sym c.next_of-offset.ensures);
      fit = subst (λ (ls : List Leaf). AllFit m (path_of c.args.path.now) c.args.recon.now ls) (sym (done_more I.done (member_at (T o) o)))
          (fit_more m (path_of c.args.path.now) c.args.recon.now (leaves_of I.done) (leaf_in (T o)) I.fit (subst (λ (rest : List ℕ). IsFit m (path_of c.args.path.now) c.args.recon.now rest) c.rest_at-rest.ensures.value (c.in_ok-leaf_fits.ensures.fits.0 c.if-not-branch.false)));
      lists = subst (λ (ls : List Leaf). Lists m c.args.recon.now c.args.head.block ts c.args.list.now c.leaf_fits.new.list ls) (sym (done_more I.done (member_at (T o) o)))
          (lists_leaf m c.args.recon.now c.args.head.block ts c.args.list.now c.loop-step.list c.leaf_fits.new.list (leaves_of I.done) o c.row_at-row.result c.rest_at-rest.result.now live c.row_at-row.ensures c.rest_at-rest.ensures.value I.lists c.in_ok-leaf_fits.ensures.wanted (c.in_ok-leaf_fits.ensures.notes c.if-not-branch.false));
    }
