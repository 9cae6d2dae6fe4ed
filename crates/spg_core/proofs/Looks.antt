-- What a look at an insert finds, and what is done as the class chose for a copy.
use Rattle.std.proofs.Common.{◌≡◌, ◌⊎◌, ℕ, ◌<◌, zero, suc, Bool, true, false, List, [], ◌∷◌, ◌++◌, Option, Some, None, length, get_or, map, refl, sym, ap, ◌∙◌, subst, inl, inr, arith, ⊎_elim}
use Rattle.std.specs.Prelude.{is_none, if◌then◌else◌}
use Rattle.std.proofs.lemmas.Bool.{cases_order}
use Rattle.std.proofs.lemmas.List.{length-append, length-replicate, map-append, get_or_append_left}
use Rattle.std.proofs.Math.Seq.{get_or-append_seam}
use Rattle.spg_opclass.specs.Meaning.{Meaning}
use Rattle.spg_opclass.specs.Laws.{MatchLaw}
use Rattle.spg_opclass.specs.Copies.{AtTuple, RestsAt, answer_at, recons_at, recons_of, first_nodes, downs}
use Rattle.spg_opclass.specs.declared.view.Choice.{Choice}
use Rattle.spg_opclass.specs.declared.view.Choice.TheVariants as choice
use Rattle.spg_forest.specs.Spot.{Frame}
use Rattle.spg_forest.specs.Sheets.{links}
use Rattle.spg_forest.specs.Shape.{Shape}
use Rattle.spg_forest.specs.Classes.{down_of}
use Rattle.spg_forest.specs.Follows.{GoesBelow}
use Rattle.spg_page.specs.Reads.{frame_in}
use Rattle.spg_tree.specs.Table.{Table, sheets_of, tuple_at}
use Rattle.spg_tree.specs.Descents.{Descending, in_nulls}
use Rattle.spg_descend.specs.declared.rule.Rule.TheVariants as rules
use Rattle.spg_descend.specs.Carried.{IsCarried}
use Rattle.spg_descend.specs.Follows.{IsAtInner, tuple_place}
use Rattle.spg_split.specs.Cases.{IsSplitSpot}
use Rattle.spg_split.specs.Parting.{IsPartedAt}
use Rattle.spg_seats.specs.Descending.{Stands}
use Rattle.spg_core.specs.Stepping.{IsToFollow, named}
use Rattle.spg_core.specs.Telling.{IsRuleFor}
use Rattle.spg_core.specs.Guides.{IsSpottedAt, IsBunchAt, AsksAt, IsTold}
use Rattle.spg_core.proofs.Weights.{nulls_key, recon_key}
use Rattle.spg_core.proofs.Moves.{at_chain, not_empty, root_leaves, root_or_below}
use Rattle.spg_core.proofs.Chooses.{framed, node_there, rest_ok, goes}

-- ---- where leaves are divided

pub split_spot : {Key Recon Cond : Type 0} (m : Meaning Key Recon Cond) (t : Table) (d : Descending Recon) → Shape m (sheets_of t) → Stands t d → IsRuleFor t d rules.Divide → IsSplitSpot t d
split_spot m t d shape stands (off, room, long) = ⊎_elim (λ root. inl (root, root_leaves m t d shape stands off root)) (λ below. inr (at_chain t d stands off below (not_empty t d room))) (root_or_below d.stand)

-- ---- where the class has a say

-- an insert that has a rebuilt value is in the main tree
pub main_of : {Key Recon Cond : Type 0} (m : Meaning Key Recon Cond) (t : Table) (d : Descending Recon) (key : Option Key) (r : Recon) → IsCarried m (sheets_of t) d key → d.recon ≡ Some r → in_nulls d ≡ false
main_of m t d key r C e = nulls_key m (sheets_of t) d key C ∙ sym (recon_key m (sheets_of t) d key C) ∙ ap is_none e

-- where the class has none, an insert that stands at an inner tuple or divides leaves has no rebuilt value
unasked_recon : {Key Recon Cond : Type 0} (m : Meaning Key Recon Cond) (t : Table) (d : Descending Recon) (key : Option Key) → IsCarried m (sheets_of t) d key → (AsksAt t d → ⊥) → IsAtInner t d.stand ⊎ IsRuleFor t d rules.Divide → d.recon ≡ None
unasked_recon {Key} {Recon} m t d key C unasked at = go d.recon refl
  where
    go : (r : Option Recon) → d.recon ≡ r → d.recon ≡ None
    go None e = e
    go (Some r) e = absurd (unasked (main_of m t d key r C e, at))

pub told_inner : {Key Recon Cond : Type 0} (m : Meaning Key Recon Cond) (t : Table) (d : Descending Recon) (key : Option Key) → IsCarried m (sheets_of t) d key → (parted : Option (RestsAt Recon)) → IsTold t d parted → IsAtInner t d.stand → d.recon ≡ None
told_inner m t d key C None told at = unasked_recon m t d key C told (inl at)
told_inner m t d key C (Some x) told at = absurd (told.0.0.1 at)

pub told_parted : {Key Recon Cond : Type 0} (m : Meaning Key Recon Cond) (t : Table) (d : Descending Recon) (key : Option Key) → IsCarried m (sheets_of t) d key → (parted : Option (RestsAt Recon)) → IsTold t d parted → IsRuleFor t d rules.Divide → IsPartedAt t d parted
told_parted m t d key C None told rule = unasked_recon m t d key C told (inr rule)
told_parted m t d key C (Some x) told rule = told.1

-- a copy is given where the class has a say
module _ {Key Recon Cond : Type 0} (m : Meaning Key Recon Cond) (t : Table) (d : Descending Recon) (key : Option Key) (C : IsCarried m (sheets_of t) d key) where
  pub spotted_asks : (x : AtTuple Recon) → IsSpottedAt t d x → AsksAt t d
  spotted_asks x a = (main_of m t d key x.recon C a.1, inl a.0)

  pub bunch_asks : (x : RestsAt Recon) → IsBunchAt t d x → AsksAt t d
  bunch_asks x a = (main_of m t d key x.recon C a.1.0, inr a.0)

-- ---- what is done as the class chose

module _ {Key Recon Cond : Type 0} (m : Meaning Key Recon Cond) (matches : MatchLaw m) (t : Table) (d : Descending Recon) (H : Shape m (sheets_of t)) (st : Stands t d) (key : Option Key) (C : IsCarried m (sheets_of t) d key) (x : AtTuple Recon) (S : IsSpottedAt t d x) where
  abbrev w : Frame
  w = frame_in (tuple_at t (tuple_place d.stand))

  main : in_nulls d ≡ false
  main = main_of m t d key x.recon C S.1

  here : m.answer x.recon w d.rest ≡ answer_at m x
  here = sym (ap (λ (v : Frame). m.answer x.recon v x.rest) S.2 ∙ ap (λ (r : List ℕ). m.answer x.recon w r) S.3)

  pub to_follow : (answer node : ℕ) (rest : List ℕ) (by_turn : Bool) (below : Option Recon) → t.counter < 8 → answer_at m x ≡ choice.Match answer rest → node ≡ named t.counter x.tuple answer → by_turn ≡ x.tuple.all_same → below ≡ Some (m.down x.recon x.tuple node) → IsToFollow m t d node rest by_turn below
  to_follow answer node rest by_turn below low e n b z =
      let is : m.answer x.recon w d.rest ≡ choice.Match answer rest = here ∙ e in
      let en : node ≡ named t.counter w answer = n ∙ ap (λ (v : Frame). named t.counter v answer) S.2 in (
        subst (λ (k : ℕ). k < length (links (tuple_at t (tuple_place d.stand)))) (sym en) (node_there m matches t d H S.0 st x.recon S.1 main key C answer rest t.counter low is),
        rest_ok m matches t d H S.0 st x.recon S.1 main key C answer rest is,
        (λ other D. subst (λ (k : ℕ). GoesBelow m d.recon w k rest other) (sym en) (goes m matches t d H S.0 st x.recon S.1 main other D answer rest t.counter low is)),
        inr (answer, (x.recon, S.1, is), en, b ∙ ap (λ (v : Frame). v.all_same) S.2),
        z ∙ ap Some (ap (λ (v : Frame). m.down x.recon v node) S.2) ∙ ap (λ (r : Option Recon). down_of m r w node) (sym S.1),
      )

  -- the counter names a node of an all-the-same tuple
  pub turn_there : t.counter < 8 → x.tuple.all_same ≡ true → t.counter < length x.tuple.labels
  turn_there low same =
      let (label, l) = (framed m t d H S.0 st).nodes.same (sym (ap (λ (v : Frame). v.all_same) S.2) ∙ same) in
      let c : length x.tuple.labels ≡ 8 = ap (λ (v : Frame). length v.labels) S.2 ∙ ap (λ ls. length ls) l ∙ length-replicate 8 label in
      omega (arith, low, c)

-- the rebuilt values below all nodes are in their order
module _ {A : Type 0} (f : ℕ → A) where
  length-first : (n : ℕ) → length (map f (first_nodes n)) ≡ n
  length-first zero = refl
  length-first (suc n) = ap length (map-append f (first_nodes n) (n ∷ [])) ∙ length-append (map f (first_nodes n)) (f n ∷ []) ∙ (let h = length-first n in omega (arith, h))

  read-first : (n i : ℕ) (z : A) → i < n → get_or (map f (first_nodes n)) i z ≡ f i
  read-first zero i z h = absurd (omega (arith, h))
  read-first (suc n) i z h = ap (λ (l : List A). get_or l i z) (map-append f (first_nodes n) (n ∷ [])) ∙ go (cases_order i n) (read-first n i z)
    where
      go : (i ≡ n) ⊎ ((i < n) ⊎ (n < i)) → (i < n → get_or (map f (first_nodes n)) i z ≡ f i) → get_or (map f (first_nodes n) ++ f n ∷ []) i z ≡ f i
      go (inl same) below =
          subst (λ (k : ℕ). get_or (map f (first_nodes n) ++ f n ∷ []) k z ≡ f k) (sym same)
          (subst (λ (k : ℕ). get_or (map f (first_nodes n) ++ f n ∷ []) k z ≡ f n) (length-first n) (get_or-append_seam (map f (first_nodes n)) (f n) [] z))
      go (inr (inl less)) below = get_or_append_left (map f (first_nodes n)) (f n ∷ []) z i (let l = length-first n in omega (arith, l, less)) ∙ below less
      go (inr (inr more)) below = absurd (omega (arith, more, h))

-- where the rebuilt value below the node that is followed stands among them
abbrev pub at_of : Bool → ℕ → ℕ
at_of all_same turn = if all_same then turn else 0

module _ {Key Recon Cond : Type 0} (m : Meaning Key Recon Cond) (x : AtTuple Recon) (turn node : ℕ) (rest : List ℕ) (is : answer_at m x ≡ choice.Match node rest) (there : x.tuple.all_same ≡ true → turn < length x.tuple.labels) where
  abbrev recons : Choice → List Recon
  recons c = recons_of m x.recon x.tuple c

  -- those of a tuple that is all-the-same, or is not
  abbrev picks : Bool → List Recon
  picks b = if b then downs m x.recon x.tuple (first_nodes (length x.tuple.labels)) else downs m x.recon x.tuple (node ∷ [])

  pub at_there : at_of x.tuple.all_same turn < length (recons_at m x)
  at_there = subst (λ (c : Choice). at_of x.tuple.all_same turn < length (recons c)) (sym is) (go x.tuple.all_same refl)
    where
      go : (b : Bool) → x.tuple.all_same ≡ b → at_of b turn < length (picks b)
      go true s = subst (λ (k : ℕ). turn < k) (sym (length-first (λ (i : ℕ). m.down x.recon x.tuple i) (length x.tuple.labels))) (there s)
      go false s = omega arith

  pub below_is : (z : Recon) → get_or (recons_at m x) (at_of x.tuple.all_same turn) z ≡ m.down x.recon x.tuple (named turn x.tuple node)
  below_is z = ap (λ (c : Choice). get_or (recons c) (at_of x.tuple.all_same turn) z) is ∙ go x.tuple.all_same refl
    where
      go : (b : Bool) → x.tuple.all_same ≡ b → get_or (picks b) (at_of b turn) z ≡ m.down x.recon x.tuple (if b then turn else node)
      go true s = read-first (λ (i : ℕ). m.down x.recon x.tuple i) (length x.tuple.labels) turn z (there s)
      go false s = refl
