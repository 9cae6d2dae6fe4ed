-- A division below a root names exactly the blocks that it writes or adds: from its parts and its plan.
use Rattle.std.proofs.Common.{◌≡◌, ℕ, ◌+◌, ◌-◌, ◌≤◌, ◌<◌, ◌^◌, true, List, [], ◌∷◌, ◌++◌, ⊎_elim, Option, Some, None, is_none, get_or, nat_le, length, refl, sym, ap, ◌∙◌, subst, inl, inr, arith}
use Rattle.std.proofs.lemmas.Bool.{leb-true}
use Rattle.std.proofs.lemmas.List.{length-take-le}
use Rattle.spg_opclass.specs.Meaning.{Meaning}
use Rattle.spg_opclass.specs.Laws.{CodeLaw}
use Rattle.spg_forest.specs.View.{Place, Leaf}
use Rattle.spg_forest.specs.Spot.{Frame}
use Rattle.spg_forest.specs.Tuples.{Tuple, Inner, Live, IsAmong}
use Rattle.spg_forest.specs.Pages.{tuple_on}
use Rattle.spg_forest.specs.Sheets.{Sheets, sheet_at, size_of}
use Rattle.spg_forest.specs.Shape.{Shape}
use Rattle.spg_forest.specs.Divisions.{rests_of}
use Rattle.spg_forest.specs.Exact.{IsWritten, AreOnce, IsExact}
use Rattle.spg_forest.proofs.Exact.{among_cases, once_both, exact_range}
use Rattle.spg_tree.specs.Table.{Table, sheets_of, tuple_at}
use Rattle.spg_tree.specs.Descents.{Descending, in_nulls}
use Rattle.spg_tree.specs.declared.stand.Stand.TheVariants.{At}
use Rattle.spg_descend.specs.Carried.{carried, IsCarried}
use Rattle.spg_descend.specs.Rules.{MayMove}
use Rattle.spg_descend.specs.Below.{IsAtChain}
use Rattle.spg_split.specs.declared.division.Division.{Division}
use Rattle.spg_split.specs.declared.parts.Parts.{Parts}
use Rattle.spg_split.specs.declared.plan.Plan.{Plan}
use Rattle.spg_split.specs.declared.homes.Homes.{Homes}
use Rattle.spg_split.specs.declared.chain.ChainOut.{ChainOut}
use Rattle.spg_split.specs.Planning.{from_node}
use Rattle.spg_split.specs.Dividing.{IsDivided, rows_of}
use Rattle.spg_split.specs.Homes.{fits_above, inner_want, rest_want}
use Rattle.spg_tree.specs.Another.{another}
use Rattle.spg_split.specs.Placing.{taken_by}
use Rattle.spg_split.specs.Parts.{ArePartsOf, AreReady}
use Rattle.spg_split.specs.Divides.{MayDivide, IsDividedBelow, put_by}
use Rattle.spg_split.specs.Writing.{table_below, MayPart}
use Rattle.spg_split.proofs.Housing.{IsHoused}
use Rattle.spg_split.proofs.Deciding.{plan_of_put, homes_housed, may_part}
use Rattle.spg_tree.proofs.Among.{another_is, another_once}
use Rattle.spg_split.proofs.ChainExact.{rest_away, count_T, p_written, x_written, q_written, c_written}
use Rattle.spg_split.proofs.Plans.{total_from, length-leaves_in}
use Rattle.spg_split.proofs.Totals.{total, count_sum}
use Rattle.spg_chain.proofs.ListTotals.{count}
use Rattle.spg_split.proofs.ChainStanding as standing

module _ {Key Recon Cond : Type 0} (m : Meaning Key Recon Cond) (codes : CodeLaw m) (t : Table) (d : Descending Recon) (x p : Place) (i : ℕ) (H : Shape m (sheets_of t)) (st : d.stand ≡ At x) (pr : d.parent ≡ Some (p, i)) (A : IsAtChain t d)
    (K : (key : Option Key) × IsCarried m (sheets_of t) d key) (long : MayMove t d.stand (Live (carried d) 0) → ⊥) (tick : t.clock + 1 < 2 ^ 48)
    (dv : Division) (D : IsDivided m d.recon (rests_of (standing.vs m codes t d x p i H st pr A K)) dv) (same : is_none d.recon ≡ in_nulls d) (p2 : Parts) (P : ArePartsOf (rows_of (standing.vs m codes t d x p i H st pr A K)) dv p2)
    (seat : ℕ) (t2 : Table) (done : ChainOut) (W : IsDividedBelow t t2 x p i seat p2 done) where
  abbrev u : Table
  u = W.housed

  abbrev h : Homes
  h = W.homes

  abbrev plan : Plan
  plan = W.plan

  abbrev ws : List Tuple
  ws = put_by p2 W.plan

  abbrev L : ℕ → List Leaf
  L j = taken_by j (put_by p2 W.plan) p2.node_of

  abbrev n : ℕ
  n = length p2.links

  R : AreReady p2
  R = standing.ready m codes t d x p i H st pr A K long dv D p2 P

  some : 0 < length p2.leaves
  some = standing.some_leaves m codes t d x p i H st pr A K long dv D p2 P

  MD : MayDivide t x p i
  MD = standing.may_divide m codes t d x p i H st pr A K long tick

  HH : IsHoused t u x.block (size_of p2.inner + 4) plan.rest h
  HH = homes_housed t u x p i seat p2 W.left plan h MD some W.is_plan H.pages.count W.picks

  abbrev S : Sheets
  S = sheets_of t

  abbrev n0 : ℕ
  n0 = length t.pages

  M2 : MayPart u x p i h.inner h.rest p2.inner L plan.cut n
  M2 = may_part t u x p i p2 W.left plan h MD R some W.is_left W.is_plan HH

  abbrev T2 : Table
  T2 = table_below u x p i h.inner h.rest p2.inner L plan.cut n

  above : (v : Frame) × (ks : List (Option Place)) × (tuple_at t p ≡ Inner v ks) × (get_or ks i None ≡ Some x)
  above = standing.above m codes t d x p i H st pr A K

  above_u : tuple_at u p ≡ Inner above.0 above.1
  above_u = ap (λ ts. tuple_on ts p.offset) (HH.tuples p.block) ∙ above.2

  some_away : (h.rest ≡ x.block → ⊥) → 0 < total count L plan.cut (n - plan.cut)
  some_away d =
      let away : nat_le 1 plan.rest.tuples ≡ true = rest_away (fits_above t p.block (size_of p2.inner + 4)) (nat_le 1 plan.rest.tuples) t u x.block p.block (inner_want (sheet_at S x.block).nulls p.block (size_of p2.inner + 4) seat) (rest_want (sheet_at S x.block).nulls x.block plan.rest seat) h W.picks d in
      let one : 1 ≤ plan.rest.tuples = leb-true 1 plan.rest.tuples away in
      let (Q, fits) = plan_of_put p2 W.left plan some W.is_plan in
      let e : plan.rest.tuples ≡ length (from_node plan.cut ws p2.node_of) = Q.tuples in
      let l = length-take-le plan.count p2.leaves fits in
      let r = R.each in let c = M2.cut in
      let a = total_from (λ l. 1) count count_sum ws p2.node_of plan.cut (n - plan.cut) (omega arith) (λ j g. let z = R.there j g in omega arith) in
      let b = length-leaves_in (from_node plan.cut ws p2.node_of) in omega arith

  abbrev front : List ℕ
  front = (x.block ∷ p.block ∷ []) ++ another h.inner p.block n0

  each_written : (e : ℕ) → IsAmong e (front ++ another h.rest x.block n0) → (e < n0) × IsWritten S (sheets_of T2) e
  each_written e a = ⊎_elim
      (λ f. ⊎_elim (λ j. first e j) (λ j. let (r, k, l) = another_is e h.inner p.block n0 j in (omega arith, subst (IsWritten S (sheets_of T2)) (sym r) (q_written t u x p i h.inner h.rest p2.inner L plan.cut n M2 HH.tuples above.0 above.1 above_u above.3))) (among_cases e (x.block ∷ p.block ∷ []) (another h.inner p.block n0) f))
      (λ j. let (r, k, l) = another_is e h.rest x.block n0 j in (omega arith, subst (IsWritten S (sheets_of T2)) (sym r) (c_written t u x p i h.inner h.rest p2.inner L plan.cut n M2 HH.tuples above.0 above.1 above_u above.3 k (some_away k)))) (among_cases e front (another h.rest x.block n0) a)
    where
      first : (e : ℕ) → IsAmong e (x.block ∷ p.block ∷ []) → (e < n0) × IsWritten S (sheets_of T2) e
      first e (inl r) = let b = MD.x_there in (omega arith, subst (IsWritten S (sheets_of T2)) (sym r) (x_written t u x p i h.inner h.rest p2.inner L plan.cut n M2 HH.tuples above.0 above.1 above_u above.3))
      first e (inr (inl r)) = let b = MD.p_there in (omega arith, subst (IsWritten S (sheets_of T2)) (sym r) (p_written t u x p i h.inner h.rest p2.inner L plan.cut n M2 HH.tuples above.0 above.1 above_u above.3))
      first e (inr (inr j)) = absurd j

  named_once : AreOnce (front ++ another h.rest x.block n0)
  named_once = once_both front (another h.rest x.block n0) (once_both (x.block ∷ p.block ∷ []) (another h.inner p.block n0) ((λ j. two j), ((λ j. j), tt)) (another_once h.inner p.block n0) (λ e j g. with_inner e j (another_is e h.inner p.block n0 g)))
      (another_once h.rest x.block n0) (λ e f g. ⊎_elim (λ j. with_rest e j (another_is e h.rest x.block n0 g)) (λ j. M2.c_not_q (sym (another_is e h.rest x.block n0 g).0 ∙ (another_is e h.inner p.block n0 j).0)) (among_cases e (x.block ∷ p.block ∷ []) (another h.inner p.block n0) f))
    where
      two : IsAmong x.block (p.block ∷ []) → ⊥
      two (inl e) = M2.x_not_p e
      two (inr j) = j

      with_inner : (e : ℕ) → IsAmong e (x.block ∷ p.block ∷ []) → (e ≡ h.inner) × (h.inner ≡ p.block → ⊥) × (h.inner < n0) → ⊥
      with_inner e (inl q) (r, k, l) = M2.x_not_q (sym q ∙ r)
      with_inner e (inr (inl q)) (r, k, l) = k (sym r ∙ q)
      with_inner e (inr (inr j)) r = j

      with_rest : (e : ℕ) → IsAmong e (x.block ∷ p.block ∷ []) → (e ≡ h.rest) × (h.rest ≡ x.block → ⊥) × (h.rest < n0) → ⊥
      with_rest e (inl q) (r, k, l) = k (sym r ∙ q)
      with_rest e (inr (inl q)) (r, k, l) = M2.c_not_p (sym r ∙ q)
      with_rest e (inr (inr j)) r = j

  pub chain_exact : IsExact S (sheets_of t2) t2.touched
  chain_exact = subst (λ (v : Table). IsExact S (sheets_of v) v.touched) (sym W.after)
      (exact_range S (sheets_of T2) (front ++ another h.rest x.block n0) n0 (length u.pages) refl (sym (count_T t u x p i h.inner h.rest p2.inner L plan.cut n M2 HH.tuples above.0 above.1 above_u above.3)) HH.pages.count named_once each_written)
