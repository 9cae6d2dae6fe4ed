-- What a search among the openings in order finds.
use Rattle.std.proofs.Common.{◌≡◌, ◌<◌, ◌≤◌, ◌+◌, ◌-◌, ℕ, Bool, true, false, cond, List, [], ◌∷◌, ◌++◌, length, get_or, Option, Some, None, IsSome, inl, inr, refl, sym, ap, ◌∙◌, subst, arith}
use Rattle.std.specs.Prelude.{All, Contains, slice_get, option_and_then}
use Rattle.std.specs.Cmp.{IsTotalOrder, nat_cmp_is, ranks, tied_itself}
use Rattle.std.specs.Ordering.{nat_cmp, ordering_then, ordering_index, is_lt, is_eq, MatchOrdering}
use Rattle.std.specs.declared.cmp.Ordering.{Ordering}
use Rattle.std.specs.declared.cmp.Ordering.TheVariants.{Less, Equal, Greater}
use Rattle.std.specs.List.Sorted.{IsSorted, IsPermutation, IsPartitionPoint, IsPartitionedBy}
use Rattle.std.proofs.lemmas.Bool.{cases_lt}
use Rattle.std.proofs.lemmas.Cmp.{nat_cmp_total, on_total, then_total}
use Rattle.std.proofs.lemmas.Option.{slice_get_within}
use Rattle.std.proofs.lemmas.List.{length-append, get_or-append_right, get_or_append_left, get_or_default}
use Rattle.std.proofs.lemmas.List.Elements.{All-append}
use Rattle.std.proofs.lemmas.List.Sorted.{All-permutation, Contains-permutation, ranks_by, sorted_far, searchable_from_sorted}
use Rattle.spg_base.specs.Row.{RowAt, row_cmp, same_row}
use Rattle.spg_rows.specs.declared.event.Event.{Event}
use Rattle.spg_rows.specs.declared.event.Event.TheVariants.{OpenInsert, Put, Drop, Kill, OpenScan, CloseScan, OpenVacuum, Sweep, CloseVacuum, Leave}
use Rattle.spg_rows.specs.Rows.{key_of}
use Rattle.spg_calls.specs.Calls.{past_at}
use Rattle.spg_rows.proofs.RowOrder.{row_total, row-equal, same_row-refl}
use Rattle.spg_inserts.proofs.Keys.{key_last}
use Rattle.spg_inserts.specs.declared.opening.Opening.{Opening}
use Rattle.spg_inserts.specs.Openings.{opened_key, opened_at, opening_cmp, opening_of, opening_key, is_before, AreListed, AreOpenings, IsUnopened, IsLastOpening}

opening_total : IsTotalOrder opening_cmp
opening_total = then_total (on_total (λ o. o.row) row_total) (on_total (λ o. o.at) nat_cmp_total)

abbrev pub opening : RowAt → ℕ → Opening
opening row at = record { row = row; at = at }

-- ---- the test of the search

index_below : (t : Ordering) → is_lt t ≡ true → ordering_index t ≡ 0
index_below Less is = refl
index_below Equal is = (cc)
index_below Greater is = (cc)

below_index : (t : Ordering) → ordering_index t ≤ 0 → is_lt t ≡ true
below_index Less low = refl
below_index Equal low = absurd (omega arith)
below_index Greater low = absurd (omega arith)

pub parted : (openings : List Opening) (x : Opening) → IsSorted opening_cmp openings → IsPartitionedBy (is_before x) openings
parted openings x sorted i j d le within up =
    let rises = searchable_from_sorted opening_total (λ o. o) openings x sorted i j d le within in
    below_index (opening_cmp (get_or openings i d) x) (omega (arith, rises, index_below (opening_cmp (get_or openings j d) x) up))

-- ---- two openings of one row go by position

equal_then : (s t : Ordering) → s ≡ Equal → ordering_then s t ≡ t
equal_then s t same = ap (λ (o : Ordering). ordering_then o t) same

row_same : (o : Opening) (r : RowAt) (at : ℕ) → o.row ≡ r → opening_cmp o (opening r at) ≡ nat_cmp o.at at
row_same o r at same = equal_then (row_cmp o.row r) (nat_cmp o.at at) (ap (λ (q : RowAt). row_cmp q r) same ∙ tied_itself row_total r)

before_less : (a b : ℕ) → a < b → is_lt (nat_cmp a b) ≡ true
before_less a b low = ap is_lt (sym (nat_cmp_is a b Less low))

less_before : (a b : ℕ) → is_lt (nat_cmp a b) ≡ true → a < b
less_before a b is = by (nat_cmp a b) (ranks a b) is
  where
    by : (t : Ordering) → MatchOrdering t (a < b) (a ≡ b) (b < a) → is_lt t ≡ true → a < b
    by Less low is = low
    by Equal same is = (cc)
    by Greater high is = (cc)

-- a row below or above another is another
pub row_apart : (a b : RowAt) (t : Ordering) → row_cmp a b ≡ t → (t ≡ Equal → ⊥) → a ≡ b → ⊥
row_apart a b t is other same = other (sym is ∙ ap (λ (q : RowAt). row_cmp q b) same ∙ tied_itself row_total b)

-- an opening of another row that comes before one of this row comes before all of it
other_row : (s : Ordering) (t u : Ordering) → (s ≡ Equal → ⊥) → is_lt (ordering_then s t) ≡ true → is_lt (ordering_then s u) ≡ true
other_row Less t u other is = refl
other_row Equal t u other is = absurd (other refl)
other_row Greater t u other is = (cc)

not_some : {X : Type 0} (o : Option X) → (IsSome o → ⊥) → o ≡ None
not_some None other = refl
not_some (Some x) other = absurd (other refl)

some_of : {X : Type 0} (o : Option X) → IsSome o → (x : X) × (o ≡ Some x)
some_of None is = (cc)
some_of (Some x) is = (x, refl)

clashing : (b : Bool) → b ≡ true → b ≡ false → ⊥
clashing b one other = let two : true ≡ false = sym one ∙ other in (cc)

-- ---- one event

contains_left : {X : Type 0} (xs ys : List X) (x : X) → Contains xs x → Contains (xs ++ ys) x
contains_left xs ys x (k, low, is) = (k, omega (arith, low, length-append xs ys), get_or_append_left xs ys x k low ∙ is)

contains_right : {X : Type 0} (xs ys : List X) (x : X) → ys ≡ x ∷ [] → Contains (xs ++ ys) x
contains_right xs ys x only = (
  length xs,
  (let long : length ys ≡ 1 = ap length only in omega (arith, length-append xs ys, long)),
  (let at : length xs - length xs ≡ 0 = omega arith in get_or-append_right xs ys (length xs) (length xs) x refl (omega arith) ∙ ap (λ (k : ℕ). get_or ys k x) at ∙ ap (λ l. get_or l 0 x) only),
)

kept_by : {X : Type 0} (b : Bool) (x : X) → IsSome (cond b (Some x) None) → b ≡ true
kept_by true x some = refl
kept_by false x some = (cc)

module _ {O Key Recon Cond : Type 0} where
  -- an event that opens an insert of the row is listed with it
  new_listed : (n : ℕ) (e : Event O Key Recon Cond) (r : RowAt) → IsSome (opened_key r e) → opening_of n e ≡ opening r n ∷ []
  new_listed n (OpenInsert seat row key) r some = ap (λ (q : RowAt). opening q n ∷ []) (row-equal row r (kept_by (same_row row r) key some))
  new_listed n (Put seat row) r some = (cc)
  new_listed n (Drop seat row why) r some = (cc)
  new_listed n (Kill seat row) r some = (cc)
  new_listed n (OpenScan seat query) r some = (cc)
  new_listed n (CloseScan seat rows) r some = (cc)
  new_listed n (OpenVacuum seat) r some = (cc)
  new_listed n (Sweep seat row) r some = (cc)
  new_listed n (CloseVacuum seat swept) r some = (cc)
  new_listed n (Leave seat) r some = (cc)

  -- the event that opens an insert of the row has its key
  with_key_one : (r : RowAt) (e : Event O Key Recon Cond) (key : Option Key) → opened_key r e ≡ Some key → opening_key e ≡ Some key
  with_key_one r (OpenInsert seat row k) key is = by (same_row row r) is
    where
      by : (b : Bool) → cond b (Some k) None ≡ Some key → Some k ≡ Some key
      by true is = is
      by false is = (cc)
  with_key_one r (Put seat row) key is = (cc)
  with_key_one r (Drop seat row why) key is = (cc)
  with_key_one r (Kill seat row) key is = (cc)
  with_key_one r (OpenScan seat query) key is = (cc)
  with_key_one r (CloseScan seat rows) key is = (cc)
  with_key_one r (OpenVacuum seat) key is = (cc)
  with_key_one r (Sweep seat row) key is = (cc)
  with_key_one r (CloseVacuum seat swept) key is = (cc)
  with_key_one r (Leave seat) key is = (cc)

  with_key : (r : RowAt) (o : Option (Event O Key Recon Cond)) (key : Option Key) → option_and_then (opened_key r) o ≡ Some key → option_and_then opening_key o ≡ Some key
  with_key r None key is = (cc)
  with_key r (Some e) key is = with_key_one r e key is

  -- what no arm names opens none
  pub no_opening : (e : Event O Key Recon Cond) (n : ℕ) → ((seat : ℕ) (row : RowAt) (key : Option Key) → e ≡ OpenInsert seat row key → ⊥) → (opening_of n e ≡ []) × (opening_key e ≡ None)
  no_opening (OpenInsert seat row key) n other = absurd (other seat row key refl)
  no_opening (Put seat row) n other = (refl, refl)
  no_opening (Drop seat row why) n other = (refl, refl)
  no_opening (Kill seat row) n other = (refl, refl)
  no_opening (OpenScan seat query) n other = (refl, refl)
  no_opening (CloseScan seat rows) n other = (refl, refl)
  no_opening (OpenVacuum seat) n other = (refl, refl)
  no_opening (Sweep seat row) n other = (refl, refl)
  no_opening (CloseVacuum seat swept) n other = (refl, refl)
  no_opening (Leave seat) n other = (refl, refl)

-- ---- what is found

module _ {O Key Recon Cond : Type 0} (journal : List (Event O Key Recon Cond)) where
  opened_within : (r : RowAt) (at : ℕ) → IsSome (opened_at journal r at) → at < length journal
  opened_within r at is = by (slice_get journal at) refl is
    where
      by : (o : Option (Event O Key Recon Cond)) → slice_get journal at ≡ o → IsSome (option_and_then (opened_key r) o) → at < length journal
      by None there none = (cc)
      by (Some e) there some = slice_get_within journal at e there

  module _ (openings : List Opening) (are : AreOpenings openings journal) (r : RowAt) (to count : ℕ) (point : IsPartitionPoint (λ o. is_before (opening r to) o ≡ true) (λ o. is_before (opening r to) o ≡ false) openings count) where
    -- an opening of the row stands before the place that was found
    stands : (at : ℕ) → at < to → IsSome (opened_at journal r at) → (k : ℕ) × (k < count) × (k < length openings) × (get_or openings k (opening r at) ≡ opening r at)
    stands at low opens =
        let there = are.listed.all r at (opened_within r at opens) opens in
        let before : is_before (opening r to) (opening r at) ≡ true = ap is_lt (row_same (opening r at) r to refl) ∙ before_less at to low in
        elim (cases_lt there.0 count) [
          | inl below ↦ (there.0, below, there.1, there.2)
          | inr above ↦ absurd (clashing _ before (subst (λ (o : Opening). is_before (opening r to) o ≡ false) there.2 (point.1 there.0 (opening r at) above there.1)))
        ]

    pub none_before : count ≡ 0 → IsUnopened journal r to
    none_before zero_is at low = not_some (opened_at journal r at) (λ opens. let s = stands at low opens in absurd (omega (arith, s.1, zero_is)))

    module _ (last : Opening) (some : 0 < count) (in_range : count ≤ length openings) (is : last ≡ get_or openings (count - 1) last) where
      passes : is_before (opening r to) last ≡ true
      passes = subst (λ (o : Opening). is_before (opening r to) o ≡ true) (sym is) (point.0 (count - 1) last (omega arith) (omega (arith, some)))

      -- no opening of the row that stands before the place is above the last one there
      highest : (at : ℕ) → at < to → IsSome (opened_at journal r at) → is_lt (opening_cmp last (opening r at)) ≡ false
      highest at low opens =
          let s = stands at low opens in
          let far = sorted_far (λ a b. is_lt (opening_cmp a b)) (ranks_by opening_total (λ o. o)) openings are.sorted s.0 (count - 1) last (omega (arith, s.1)) (omega (arith, some, in_range)) in
          let here : get_or openings s.0 last ≡ opening r at = get_or_default openings s.0 last (opening r at) s.2 ∙ s.3 in
          subst (λ (o : Opening). is_lt (opening_cmp last o) ≡ false) here (subst (λ (o : Opening). is_lt (opening_cmp o (get_or openings s.0 last)) ≡ false) (sym is) far)

      -- the last one there is of another row
      pub other_before : (last.row ≡ r → ⊥) → IsUnopened journal r to
      other_before other at low = not_some (opened_at journal r at) (λ opens.
          clashing _ (other_row (row_cmp last.row r) (nat_cmp last.at to) (nat_cmp last.at at) (λ same. other (row-equal last.row r (ap is_eq same))) passes) (highest at low opens))

      -- it is of this row
      pub last_before : last.row ≡ r → IsLastOpening journal r to last.at
      last_before same = record {
        before = less_before last.at to (sym (ap is_lt (row_same last r to same)) ∙ passes);
        opens = subst (λ (q : RowAt). IsSome (opened_at journal q last.at)) same (subst (λ (o : Opening). IsSome (opened_at journal o.row o.at)) (sym is) (are.listed.each (count - 1) last (omega (arith, some, in_range))));
        last = λ later after low. not_some (opened_at journal r later) (λ opens. clashing _ (ap is_lt (row_same last r later same) ∙ before_less last.at later after) (highest later low opens));
      }

  -- the key that the last opening has
  pub found_key : (r : RowAt) (to at : ℕ) → IsLastOpening journal r to at → option_and_then opening_key (slice_get journal at) ≡ key_of r (past_at to journal)
  found_key r to at L =
      let opens = some_of (opened_at journal r at) L.opens in
      with_key r (slice_get journal at) opens.0 opens.1 ∙ sym (key_last r journal to at opens.0 L.before opens.1 L.last)

  -- ---- they are listed and put in order

  pub listed_sorted : (n : ℕ) (xs ys : List Opening) → IsPermutation xs ys → AreListed n xs journal → AreListed n ys journal
  listed_sorted n xs ys moved l = record {
    each = All-permutation (λ o. IsSome (opened_at journal o.row o.at)) xs ys moved l.each;
    all = λ r at low opens. Contains-permutation xs ys (opening r at) moved (l.all r at low opens);
  }

  new_opens : (n : ℕ) (e : Event O Key Recon Cond) → slice_get journal n ≡ Some e → All (λ o. IsSome (opened_at journal o.row o.at)) (opening_of n e)
  new_opens n (OpenInsert seat row key) there k d low =
      let first : k ≡ 0 = omega (arith, low) in
      subst (λ (i : ℕ). let o = get_or (opening row n ∷ []) i d in IsSome (opened_at journal o.row o.at)) (sym first)
      (subst (λ (o : Option (Event O Key Recon Cond)). IsSome (option_and_then (opened_key row) o)) (sym there) (rw (same_row-refl row) refl))
  new_opens n (Put seat row) there k d low = absurd (omega (arith, low))
  new_opens n (Drop seat row why) there k d low = absurd (omega (arith, low))
  new_opens n (Kill seat row) there k d low = absurd (omega (arith, low))
  new_opens n (OpenScan seat query) there k d low = absurd (omega (arith, low))
  new_opens n (CloseScan seat rows) there k d low = absurd (omega (arith, low))
  new_opens n (OpenVacuum seat) there k d low = absurd (omega (arith, low))
  new_opens n (Sweep seat row) there k d low = absurd (omega (arith, low))
  new_opens n (CloseVacuum seat swept) there k d low = absurd (omega (arith, low))
  new_opens n (Leave seat) there k d low = absurd (omega (arith, low))

  -- one event more
  pub listed_next : (n : ℕ) (xs : List Opening) (e : Event O Key Recon Cond) → slice_get journal n ≡ Some e → AreListed n xs journal → AreListed (n + 1) (xs ++ opening_of n e) journal
  listed_next n xs e there l = record {
    each = All-append (λ o. IsSome (opened_at journal o.row o.at)) xs (opening_of n e) l.each (new_opens n e there);
    all = λ r at low opens. elim (cases_lt at n) [
      | inl below ↦ contains_left xs (opening_of n e) (opening r at) (l.all r at below opens)
      | inr above ↦
          let same : at ≡ n = omega arith in
          let now : IsSome (opened_key r e) = subst (λ (o : Option (Event O Key Recon Cond)). IsSome (option_and_then (opened_key r) o)) there (subst (λ (k : ℕ). IsSome (opened_at journal r k)) same opens) in
          subst (λ (k : ℕ). Contains (xs ++ opening_of n e) (opening r k)) (sym same) (contains_right xs (opening_of n e) (opening r n) (new_listed n e r now))
    ];
  }
