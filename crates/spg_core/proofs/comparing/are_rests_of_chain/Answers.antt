use Rattle.std.proofs.Common.{◌≡◌, ◌<◌, ◌+◌, ◌++◌, ◌∷◌, [], ℕ, List, Some, length, length-append, get_or, sym, ap, ◌∙◌, subst, arith}
use Rattle.std.specs.Prelude.{slice_get}
use Rattle.std.proofs.lemmas.Bool.{false≢true}
use Rattle.std.proofs.lemmas.Iterator.Consumers.{YieldsList-end, YieldsList-turn, YieldsList-from_first}
use Rattle.spg_forest.specs.Divisions.{rests_of}
use Rattle.spg_chain.specs.Chains.{member_of, members_left, chain_members, leaves_of}
use Rattle.spg_chain.proofs.Members.{length-chain_members}
use Rattle.spg_descend.specs.Carried.{carried}
use Rattle.spg_core.proofs.Resting.{one_more, ends_same, chain_rest, chain_last, chain_count}
use Rattle.spg_core.proofs.comparing.are_rests_of_chain.Given.{Over}
use Rattle.spg_core.proofs.comparing.are_rests_of_chain.Goals as goal
use Rattle.spg_core.proofs.comparing.are_rests_of_chain.Goals.{In-Some}

-- the leaf tuple is the next of the chain
turn : (g : Over) (c : In-Some g) → (c.loop-leaf.at < length (chain_members c.args.page.now.tuples c.args.head)) × (member_of c.in-Some.leaf ≡ get_or (chain_members c.args.page.now.tuples c.args.head) c.loop-leaf.at (member_of c.in-Some.leaf))
turn g c =
    let ms = chain_members c.args.page.now.tuples c.args.head in
    let e : members_left c.into_iter-leaf-iterator.result ≡ ms = cc in
    let t = YieldsList-turn (YieldsList-from_first member_of members_left ms e) c.loop-leaf.yielded c.loop-leaf.leaf-iterator c.loop-leaf.yielded_by _ c.next.new.self c.in-Some.leaf c.in-Some.is c.next.ensures.steps in
    subst (λ (i : ℕ). (i < length ms) × (member_of c.in-Some.leaf ≡ get_or ms i (member_of c.in-Some.leaf))) (sym c.loop-leaf.invariant.0) t

-- and its rest the next of the rests
next_rest : (g : Over) (c : In-Some g) → slice_get (rests_of (leaves_of (chain_members c.args.page.now.tuples c.args.head) ++ carried c.args.descent.now ∷ [])) c.loop-leaf.at ≡ Some c.in-Some.leaf.rest.now
next_rest g c =
    let (there, is) = turn g c in
    chain_rest (chain_members c.args.page.now.tuples c.args.head) (carried c.args.descent.now) c.loop-leaf.at (member_of c.in-Some.leaf) there is

pub returns-then-not-has_at : goal.returns-then-not-has_at
returns-then-not-has_at g c = (
  λ t. absurd (false≢true t),
  λ e. absurd (false≢true (sym c.if-not-has_at.true ∙ c.has_at.ensures.1 (ap (λ (l : List (List ℕ)). slice_get l c.loop-leaf.at) e ∙ next_rest g ((goal.at.returns-then-not-has_at g c).In-Some)))),
)

pub overflow_add-at : goal.overflow_add-at
overflow_add-at g c =
    let few = length-chain_members c.args.page.now.tuples c.args.head in
    let (there, is) = turn g ((goal.at.overflow_add-at g c).In-Some) in
    omega (arith, there)

pub loop-leaf-preserved : goal.loop-leaf-preserved
loop-leaf-preserved g c = (
  omega (arith, c.loop-leaf.invariant.0, length-append c.loop-leaf.yielded (c.in-Some.leaf ∷ [])),
  one_more c.args.rests.now (rests_of (leaves_of (chain_members c.args.page.now.tuples c.args.head) ++ carried c.args.descent.now ∷ [])) c.loop-leaf.at c.in-Some.leaf.rest.now c.loop-leaf.invariant.1 (c.has_at.ensures.0 c.if-not-has_at.false)
      (next_rest g ((goal.at.loop-leaf-preserved g c).In-Some)),
)

pub returns : goal.returns
returns g c =
    let ms = chain_members c.args.page.now.tuples c.args.head in
    let new = carried c.args.descent.now in
    let all = rests_of (leaves_of ms ++ new ∷ []) in
    let e : members_left c.into_iter-leaf-iterator.result ≡ ms = cc in
    let t = YieldsList-end (YieldsList-from_first member_of members_left ms e) c.loop-leaf.yielded c.loop-leaf.leaf-iterator c.loop-leaf.yielded_by _ c.next.new.self c.in-None.is c.next.ensures.steps in
    let k : c.loop-leaf.at ≡ length ms = c.loop-leaf.invariant.0 ∙ t.1 in
    let last : slice_get all c.loop-leaf.at ≡ Some c.as_slice.result.now = ap (λ (i : ℕ). slice_get all i) k ∙ chain_last ms new ∙ ap Some (sym (c.as_slice.ensures.value ∙ c.rest.ensures)) in (
      λ yes.
          let (count, there) = c.ends_at.ensures.0 yes in
          ends_same c.args.rests.now all c.loop-leaf.at c.as_slice.result.now c.loop-leaf.invariant.1 there last count (chain_count ms new ∙ ap (λ (i : ℕ). i + 1) (sym k)),
      λ same. c.ends_at.ensures.1 (ap length same ∙ chain_count ms new ∙ ap (λ (i : ℕ). i + 1) (sym k), ap (λ (l : List (List ℕ)). slice_get l c.loop-leaf.at) same ∙ last),
    )
