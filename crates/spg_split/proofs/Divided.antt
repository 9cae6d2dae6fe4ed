-- What the class divides goes below the nodes of the new tuple.
use Rattle.std.proofs.Common.{◌≡◌, ℕ, zero, suc, ◌+◌, ◌-◌, ◌≤◌, ◌<◌, ◌%◌, ℤ, pos, true, List, [], ◌∷◌, Option, Some, None, IsSome, All, length, take, get_or, option_map, slice_get, slice_index, replicate, refl, sym, ap, ◌∙◌, subst, inl, inr, arith}
use Rattle.std.proofs.lemmas.List.{length-replicate, get_or-take, length-take-le}
use Rattle.std.proofs.lemmas.List.Elements.{All-cons, All-head, All-tail, All-get_or, All-from_get_or}
use Rattle.std.proofs.lemmas.List.FromFn.{length-map-range_with_len, get_or-map-range_with_len}
use Rattle.std.proofs.lemmas.Option.{slice_get_within, slice_get-get_or}
use Rattle.std.specs.Prelude.{Result, Ok, Err, IfOk}
use Rattle.spg_opclass.specs.Meaning.{Meaning, divided, eightfold}
use Rattle.spg_opclass.specs.Copies.{AreKeys}
use Rattle.spg_opclass.specs.Laws.{PickLaw, IsDivision, IsPart, InOneNode}
use Rattle.spg_opclass.specs.declared.view.Picked.{Picked}
use Rattle.spg_forest.specs.View.{Leaf}
use Rattle.spg_forest.specs.Spot.{Frame}
use Rattle.spg_forest.specs.Classes.{class_of}
use Rattle.spg_forest.specs.Divisions.{EachGoes, rests_of, HaveKeys}
use Rattle.spg_forest.proofs.Divisions.{pick_goes, one_node_goes, nulls_go}
use Rattle.spg_split.specs.Nodes.{turns, IsOnlyNode}
use Rattle.spg_split.specs.Dividing.{GiveKeys, IsDivided, division_by, nulls_divided}
use Rattle.spg_split.proofs.Onlys.{only_some, only_none}
use Rattle.spg_split.proofs.Shrinking.{last_apart}

-- a rest that gives a key
gives : {Key : Type 0} (o : Option Key) → IsSome (option_map Some o) → (key : Key) × (o ≡ Some key)
gives (Some key) h = (key, refl)
gives None h = cc

pub give_all : {Key Recon Cond : Type 0} (m : Meaning Key Recon Cond) (recon : Recon) (rests : List (List ℕ)) → GiveKeys m (Some recon) rests → All (λ r. IsSome (m.rebuild recon r)) rests
give_all m recon [] h = All-from_get_or (λ r. IsSome (m.rebuild recon r)) [] [] (λ i h. absurd (omega arith))
give_all m recon (q ∷ qs) (h, t) = All-cons (λ r. IsSome (m.rebuild recon r)) q qs (let (k, e) = gives (m.rebuild recon q) h in subst (λ o. IsSome o) (sym e) refl) (give_all m recon qs t)

-- and the other way round
some_mapped : {Key : Type 0} (o : Option Key) → IsSome o → IsSome (option_map Some o)
some_mapped (Some key) h = refl
some_mapped None h = cc

pub keys_given : {Key Recon Cond : Type 0} (m : Meaning Key Recon Cond) (recon : Recon) (rests : List (List ℕ)) → AreKeys m recon rests → GiveKeys m (Some recon) rests
keys_given m recon [] h = tt
keys_given m recon (q ∷ qs) h = (some_mapped (m.rebuild recon q) (All-head (λ r. IsSome (m.rebuild recon r)) q qs h), keys_given m recon qs (All-tail (λ r. IsSome (m.rebuild recon r)) q qs h))

pub give_keys : {Key Recon Cond : Type 0} (m : Meaning Key Recon Cond) (recon : Recon) (ls : List Leaf) → GiveKeys m (Some recon) (rests_of ls) → HaveKeys m recon ls
give_keys m recon [] h l a = absurd a
give_keys m recon (v ∷ vs) (h, t) l (inl e) = subst (λ (u : Leaf). (key : _) × (m.rebuild recon u.rest ≡ Some key)) e (gives (m.rebuild recon v.rest) h)
give_keys m recon (v ∷ vs) (h, t) l (inr a) = give_keys m recon vs t l a

-- the nodes in turn
pub turns_length : (n : ℕ) → length (turns n) ≡ n
turns_length n = length-map-range_with_len (λ i. i % 8) 0 n

turn_at : (n i : ℕ) → i < n → get_or (turns n) i 0 ≡ i % 8
turn_at n i h = get_or-map-range_with_len (λ i. i % 8) 0 n i i 0 h (omega arith)

pub turn_small : (n i : ℕ) → i < length (turns n) → get_or (turns n) i 0 < 8
turn_small n i h = let a = turn_at n i (let e = turns_length n in omega arith) in omega arith

turn_got : (n i k : ℕ) → slice_get (turns n) i ≡ Some k → k < 8
turn_got n i k e =
    let w = slice_get_within (turns n) i k e in
    let g : Some (get_or (turns n) i 0) ≡ Some k = sym (slice_get-get_or (turns n) i 0 w) ∙ e in
    let c : get_or (turns n) i 0 ≡ k = cc in
    let s = turn_small n i w in omega arith

pub turns_apart : (n : ℕ) → 2 ≤ n → (i j : ℕ) × (i < length (turns n)) × (j < length (turns n)) × (slice_index (turns n) i ≡ slice_index (turns n) j → ⊥)
turns_apart n h =
    let e = turns_length n in let a = turn_at n 0 (omega arith) in let b = turn_at n 1 (omega arith) in
    (0, 1, omega arith, omega arith, λ q. absurd (omega arith))

-- two values are in two of them
turns_apart_first : (n k c : ℕ) → n ≡ c + 1 → 2 ≤ c → IsOnlyNode (take c (turns n)) (Some k) → ⊥
turns_apart_first n k c e two (some, only) =
    let l = turns_length n in let t = length-take-le c (turns n) (omega arith) in
    let a = only 0 (omega arith) in let b = only 1 (omega arith) in
    let p = get_or-take c (turns n) 0 0 (omega arith) in let q = get_or-take c (turns n) 1 0 (omega arith) in
    let x = turn_at n 0 (omega arith) in let y = turn_at n 1 (omega arith) in absurd (omega arith)

section_rests : (rests qs : List (List ℕ)) → length qs ≡ length rests → (i : ℕ) (q : List ℕ) → slice_get qs i ≡ Some q → slice_get rests i ≡ Some (get_or rests i [])
section_rests rests qs e i q a = slice_get-get_or rests i [] (let w = slice_get_within qs i q a in omega arith)

module _ {Key Recon Cond : Type 0} (m : Meaning Key Recon Cond) (law : PickLaw m) (recon : Recon) (rests : List (List ℕ)) (two : 2 ≤ length rests) (keys : GiveKeys m (Some recon) rests) where
  abbrev P : Picked
  P = m.parts recon rests

  pub the_division : IsDivision m recon rests P
  the_division = law recon rests (omega arith) (give_all m recon rests keys)

  rest_ok : (i : ℕ) (p q : List ℕ) → slice_get rests i ≡ Some p → slice_get P.rests i ≡ Some q → (length q ≤ length p) × (m.is_rest q ≡ true)
  rest_ok i p q a b = the_division.not_longer i p (get_or P.node_of i 0) q (record { whole_at = a; node_at = slice_get-get_or P.node_of i 0 (let w = slice_get_within rests i p a in let e = the_division.node_each in omega arith); rest_at = b })

  -- the values are in several nodes
  pub several : IsOnlyNode P.node_of None → IsDivided m (Some recon) rests (record { frame = divided P; node_of = P.node_of; rests = P.rests })
  several apart = record {
    exact = sym (ap (division_by P (length rests)) (only_none P.node_of apart));
    node_each = the_division.node_each;
    rest_each = the_division.rest_each;
    goes = λ ls e. subst (λ (qs : List (List ℕ)). EachGoes (class_of m) (Some recon) (divided (m.parts recon qs)) ls (m.parts recon qs).node_of (m.parts recon qs).rests) e
        (pick_goes m law recon ls (let n = ap length e in let k = length-rests ls in omega arith) (give_keys m recon ls (subst (λ qs. GiveKeys m (Some recon) qs) (sym e) keys)));
    there = λ i h. All-get_or (λ n. n < length P.labels) P.node_of i 0 h the_division.node_there;
    tuple = the_division.well_formed;
    some = the_division.some_node;
    same = λ e. cc;
    well_formed = λ i q a. (rest_ok i (get_or rests i []) q (section_rests rests P.rests the_division.rest_each i q a) a).1;
    not_longer = λ i p q a b. (rest_ok i p q a b).0;
    apart = let e = the_division.node_each in let (j, h, n) = apart (omega arith) in (j, 0, h, omega arith, n);
    alone = λ k c last n two only e.
        let at : length rests - 1 ≡ c = omega arith in
        let ne = the_division.node_each in let re = the_division.rest_each in
        let (j, h, differ) = apart (omega arith) in
        let node : slice_get P.node_of c ≡ Some (slice_index P.node_of c) = slice_get-get_or P.node_of c 0 (omega arith) in
        let left : slice_get P.rests c ≡ Some (get_or P.rests c []) = slice_get-get_or P.rests c [] (omega arith) in
        let part : IsPart rests P (length rests - 1) last (slice_index P.node_of c) (get_or P.rests c []) = subst (λ i. IsPart rests P i last (slice_index P.node_of c) (get_or P.rests c [])) (sym at) (record { whole_at = e; node_at = node; rest_at = left }) in
        let others : All (λ i. i ≡ k) (take (length rests - 1) P.node_of) = subst (λ i. All (λ z. z ≡ k) (take i P.node_of)) (sym at) (All-from_get_or (λ z. z ≡ k) (take c P.node_of) 0 only.1) in
        let differs = last_apart P.node_of k c (omega arith) only j 0 h (omega arith) differ in
        (recon, get_or P.rests c [], refl, the_division.alone k (slice_index P.node_of c) last (get_or P.rests c []) part others (λ q. differs (sym q)), refl);
  }
    where
      length-rests : (ls : List Leaf) → length (rests_of ls) ≡ length ls
      length-rests [] = refl
      length-rests (l ∷ ls) = ap suc (length-rests ls)

  -- they are all in one
  pub in_one : (node : ℕ) (label : ℤ) → IsOnlyNode P.node_of (Some node) → slice_get P.labels node ≡ Some label → IsDivided m (Some recon) rests (record { frame = eightfold P.prefix label; node_of = turns (length rests); rests = P.rests })
  in_one node label (some, only) at = record {
    exact = sym (ap (division_by P (length rests)) (only_some P.node_of node (some, only)) ∙ ap (λ (l : ℤ). record { frame = eightfold P.prefix l; node_of = turns (length rests); rests = P.rests }) label_is);
    node_each = turns_length (length rests);
    rest_each = the_division.rest_each;
    goes = λ ls e. let k = length-rests ls in let n = ap length e in
        let one : InOneNode (m.parts recon (rests_of ls)) node = subst (λ (qs : List (List ℕ)). InOneNode (m.parts recon qs) node) (sym e) all in
        let l : slice_get (m.parts recon (rests_of ls)).labels node ≡ Some label = subst (λ (qs : List (List ℕ)). slice_get (m.parts recon qs).labels node ≡ Some label) (sym e) at in
        subst (λ (qs : List (List ℕ)). EachGoes (class_of m) (Some recon) (eightfold (m.parts recon qs).prefix label) ls (turns (length rests)) (m.parts recon qs).rests) e
        (one_node_goes m law recon ls node label (turns (length rests)) (omega arith) (give_keys m recon ls (subst (λ qs. GiveKeys m (Some recon) qs) (sym e) keys)) one l (turns_length (length rests) ∙ sym n ∙ k) (λ i k a. turn_got (length rests) i k a));
    there = λ i h. turn_small (length rests) i h;
    tuple = the_division.one_well_formed node label two all at;
    some = omega arith;
    same = λ e. (label, refl);
    well_formed = λ i q a. (rest_ok i (get_or rests i []) q (section_rests rests P.rests the_division.rest_each i q a) a).1;
    not_longer = λ i p q a b. (rest_ok i p q a b).0;
    apart = turns_apart (length rests) two;
    alone = λ k c last n more only e. absurd (turns_apart_first (length rests) k c n more only);
  }
    where
      label_is : get_or P.labels node (pos 0) ≡ label
      label_is = let g : Some (get_or P.labels node (pos 0)) ≡ Some label = sym (slice_get-get_or P.labels node (pos 0) (slice_get_within P.labels node label at)) ∙ at in cc

      all : InOneNode P node
      all = All-from_get_or (λ n. n ≡ node) P.node_of 0 only

      length-rests : (ls : List Leaf) → length (rests_of ls) ≡ length ls
      length-rests [] = refl
      length-rests (l ∷ ls) = ap suc (length-rests ls)

  -- as the code has them
  pub node_below : (picked : Picked) (ns : List ℕ) (node : ℕ) → picked ≡ P → ns ≡ picked.node_of → IsOnlyNode ns (Some node) → node < length picked.labels
  node_below picked ns node e f (some, only) =
      let n : ns ≡ P.node_of = f ∙ ap (λ (z : Picked). z.node_of) e in
      let l = ap (λ (z : Picked). length z.labels) e in
      let k = ap length n in
      let a : slice_index P.node_of 0 < length P.labels = All-get_or (λ n. n < length P.labels) P.node_of 0 0 (omega arith) the_division.node_there in
      let b : slice_index ns 0 ≡ node = only 0 some in
      let c : slice_index ns 0 ≡ slice_index P.node_of 0 = ap (λ xs. slice_index xs 0) n in
      omega arith

  pub several_at : (picked : Picked) (ns : List ℕ) → picked ≡ P → ns ≡ picked.node_of → IsOnlyNode ns None → IsDivided m (Some recon) rests (record { frame = divided picked; node_of = picked.node_of; rests = picked.rests })
  several_at picked ns e f apart =
      subst (λ (z : Picked). IsDivided m (Some recon) rests (record { frame = divided z; node_of = z.node_of; rests = z.rests })) (sym e)
      (several (subst (λ (xs : List ℕ). IsOnlyNode xs None) (f ∙ ap (λ (z : Picked). z.node_of) e) apart))

  pub in_one_at : (picked : Picked) (ns : List ℕ) (node : ℕ) (label : ℤ) (frame : Frame) (nodes : List ℕ) → picked ≡ P → ns ≡ picked.node_of → IsOnlyNode ns (Some node) → slice_get picked.labels node ≡ Some label → frame ≡ eightfold picked.prefix label → nodes ≡ turns (length rests) →
      IsDivided m (Some recon) rests (record { frame = frame; node_of = nodes; rests = picked.rests })
  in_one_at picked ns node label frame nodes e f only at a b =
      let l : slice_get P.labels node ≡ Some label = subst (λ (z : Picked). slice_get z.labels node ≡ Some label) e at in
      let o : IsOnlyNode P.node_of (Some node) = subst (λ (xs : List ℕ). IsOnlyNode xs (Some node)) (f ∙ ap (λ (z : Picked). z.node_of) e) only in
      let D = in_one node label o l in
      subst (λ (w : Frame). IsDivided m (Some recon) rests (record { frame = w; node_of = nodes; rests = picked.rests })) (sym a)
      (subst (λ (xs : List ℕ). IsDivided m (Some recon) rests (record { frame = eightfold picked.prefix label; node_of = xs; rests = picked.rests })) (sym b)
      (subst (λ (z : Picked). IsDivided m (Some recon) rests (record { frame = eightfold z.prefix label; node_of = turns (length rests); rests = z.rests })) (sym e) D))

-- nulls
abbrev bare_rests : ℕ → List (List ℕ)
bare_rests n = replicate n []

empty_at : (n i : ℕ) (q : List ℕ) → slice_get (bare_rests n) i ≡ Some q → q ≡ []
empty_at zero i q e = cc
empty_at (suc n) zero q e = let c : [] ≡ q = cc in sym c
empty_at (suc n) (suc i) q e = empty_at n i q e

pub nulls_are_divided : {Key Recon Cond : Type 0} (m : Meaning Key Recon Cond) (rests : List (List ℕ)) → 2 ≤ length rests → IsDivided m None rests (nulls_divided (length rests))
nulls_are_divided {Key} {Recon} {Cond} m rests two = record {
  exact = refl;
  node_each = turns_length (length rests);
  rest_each = length-replicate (length rests) [];
  goes = λ ls e. let n = ap length e in let k = length-rests ls in nulls_go m (eightfold [] (pos 0)) ls (turns (length rests)) (replicate (length rests) []) (turns_length (length rests) ∙ sym n ∙ k) (length-replicate (length rests) [] ∙ sym n ∙ k);
  there = λ i h. turn_small (length rests) i h;
  tuple = refl;
  some = omega arith;
  same = λ e. (pos 0, refl);
  well_formed = λ i q a. empty_at (length rests) i q a;
  not_longer = λ i p q a b. let e = ap length (empty_at (length rests) i q b) in omega arith;
  apart = turns_apart (length rests) two;
  alone = λ k c last n more only e. absurd (turns_apart_first (length rests) k c n more only);
}
  where
    length-rests : (ls : List Leaf) → length (rests_of ls) ≡ length ls
    length-rests [] = refl
    length-rests (l ∷ ls) = ap suc (length-rests ls)

-- so many of them, whatever rests they have
pub nulls_divide : {Key Recon Cond : Type 0} (m : Meaning Key Recon Cond) (n : ℕ) → 2 ≤ n → (rests : List (List ℕ)) → length rests ≡ n → IsDivided m None rests (nulls_divided n)
nulls_divide m n two rests e = subst (λ (k : ℕ). IsDivided m None rests (nulls_divided k)) e (nulls_are_divided m rests (omega arith))

-- of an outcome that is a known one where there is one
pub if_ok_same : {A E : Type 0} (r : Result A E) (x : A) (P : A → Type 0) → IfOk r (λ a. a ≡ x) → P x → IfOk r P
if_ok_same (Ok a) x P e p = subst P (sym e) p
if_ok_same (Err b) x P e p = tt
