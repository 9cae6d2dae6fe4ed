-- What passes know, turn after turn.
use Rattle.std.proofs.Common.{◌≡◌, ◌≢◌, ◌<◌, ◌≤◌, ◌+◌, ◌⊎◌, inl, inr, ⊎_elim, ℕ, zero, suc, cond, eqb, List, [], ◌∷◌, ◌++◌, length, take, drop, reverse, All, refl, sym, ap, ◌∙◌, subst, arith, length-append, take-append-drop}
use Rattle.std.specs.List.{AllByRecursion}
use Rattle.std.proofs.lemmas.Bool.{eq-eqb}
use Rattle.std.proofs.lemmas.Bool.Decides.{eqb_tells}
use Rattle.std.proofs.lemmas.List.{append_assoc, append-nil, drop-append-le, take-append-le, drop_at, take_at, take_all, nil_from_length}
use Rattle.spg_base.specs.declared.names.Span.{Span}
use Rattle.spg_base.specs.declared.recorded.Origin.{Origin}
use Rattle.spg_opclass.specs.Meaning.{Meaning}
use Rattle.spg_rows.specs.declared.event.Event.{Event}
use Rattle.spg_rows.specs.History.{History, Opened, nothing, inserting, scanning, vacuuming, open_of, seat_of, own}
use Rattle.spg_rows.specs.Right.{Right}
use Rattle.spg_turn.specs.declared.rule.View.{View}
use Rattle.spg_turn.specs.Views.{StartsWith, by_seat, kept_of, longer, first_view, after_split, dealt, after_join, grown}
use Rattle.spg_calls.specs.Calls.{past_at, between, GrewTo, Watched, Called, span_at, joined}
use Rattle.spg_calls.specs.Doing.{Doing, idle, doing_after, doing_of}
use Rattle.spg_calls.proofs.Journals.{own-append, own-all}
use Rattle.spg_calls.proofs.Calls.{call_one, call_after, call_add}
use Rattle.spg_calls.proofs.Doing.{doing_parts, doing_alone, doing_whole}
use Rattle.spg_desk.specs.Knowing.{doing_at, own_since, IsAtRest, IsPassed, IsLent}
use Rattle.spg_desk.specs.Told.{Told}

pub all_each : {X : Type 0} (P : X → Type 0) (xs : List X) → AllByRecursion P xs → All P xs
all_each P [] each k d below = absurd (omega arith)
all_each P (x ∷ xs) each zero d below = each.0
all_each P (x ∷ xs) each (suc k) d below = all_each P xs each.1 k d (omega arith)

cancel : {X : Type 0} (xs ys zs : List X) → (xs ++ ys) ++ zs ≡ xs → zs ≡ []
cancel xs ys zs same = nil_from_length zs (omega (arith, ap length same, length-append (xs ++ ys) zs, length-append xs ys))

module _ {O Key Recon Cond : Type 0} where
  pub own_is : (n : ℕ) (es : List (Event O Key Recon Cond)) → by_seat (λ e. seat_of e) n es ≡ own n es
  own_is n [] = refl
  own_is n (e ∷ es) = elim (eqb_tells (seat_of e) n) [
    | inl same ↦ ap (λ b. cond b (e ∷ by_seat (λ x. seat_of x) n es) (by_seat (λ x. seat_of x) n es)) same.0 ∙ (ap (λ l. e ∷ l) (own_is n es) ∙ sym (ap (λ b. cond b (e ∷ own n es) (own n es)) same.0))
    | inr other ↦ ap (λ b. cond b (e ∷ by_seat (λ x. seat_of x) n es) (by_seat (λ x. seat_of x) n es)) other.0 ∙ (own_is n es ∙ sym (ap (λ b. cond b (e ∷ own n es) (own n es)) other.0))
  ]

  -- ---- a turn begins

  -- the events of the seat in a longer journal
  own_on : (n base : ℕ) (seen more : List (Event O Key Recon Cond)) → base ≤ length seen → own n (drop base (seen ++ more)) ≡ own n (drop base seen) ++ own n more
  own_on n base seen more fits = ap (own n) (drop-append-le base seen more fits) ∙ own-append n (drop base seen) more

  past_on : (base : ℕ) (seen list : List (Event O Key Recon Cond)) → base ≤ length seen → GrewTo seen list → past_at base list ≡ past_at base seen
  past_on base seen list fits grew = ap (λ l. reverse (take base l)) grew.1 ∙ ap reverse (take-append-le base seen grew.0 fits)

  long_on : (seen list : List (Event O Key Recon Cond)) → GrewTo seen list → length seen ≤ length list
  long_on seen list grew = omega (arith, ap length grew.1, length-append seen grew.0)

  -- what the pass added, and what of it was seen besides
  known_more : (v : View (Event O Key Recon Cond)) → IsPassed v → own_since v ≡ v.mine ++ drop (length v.mine) (own_since v)
  known_more v p = sym (take-append-drop (length v.mine) (own_since v)) ∙ ap (λ l. l ++ drop (length v.mine) (own_since v)) p.known

  -- no event of the seat came since
  pub turn_watched : (v : View (Event O Key Recon Cond)) (lent : List (Event O Key Recon Cond)) → IsPassed v → GrewTo v.seen lent → own v.number (drop v.base lent) ≡ v.mine → Watched v.number v.seen lent
  turn_watched v lent passed grew mine =
      let more = grew.0 in
      let rest = drop (length v.mine) (own_since v) in
      let all : (v.mine ++ rest) ++ own v.number more ≡ v.mine =
      ap (λ l. l ++ own v.number more) (sym (known_more v passed)) ∙ (sym (own_on v.number v.base v.seen more passed.based) ∙ (ap (λ l. own v.number (drop v.base l)) (sym grew.1) ∙ mine)) in
      record {
        grew = grew;
        none = ap (λ l. own v.number (drop (length v.seen) l)) grew.1 ∙ (ap (own v.number) (drop_at v.seen more (length v.seen) refl) ∙ cancel v.mine rest (own v.number more) all);
      }

  pub turn_lent : (v : View (Event O Key Recon Cond)) (lent : List (Event O Key Recon Cond)) → IsPassed v → GrewTo v.seen lent → own v.number (drop v.base lent) ≡ v.mine → IsLent (record v { seen = lent })
  turn_lent v lent passed grew mine = record {
    based = (let long = long_on v.seen lent grew in let fits = passed.based in omega arith);
    whole = mine;
    before = λ n. ap (open_of n) (past_on v.base v.seen lent passed.based grew) ∙ passed.before n;
    kept = passed.kept;
  }

  -- what the seat does by the journal is what it does by what its pass added
  pub lent_doing : (v : View (Event O Key Recon Cond)) → IsLent v → doing_of (open_of v.number (reverse v.seen)) ≡ doing_at v
  lent_doing v lent =
      let old = take v.base v.seen in
      let new = drop v.base v.seen in
      let was : doing_after v.number idle old ≡ idle = sym (doing_whole v.number old) ∙ ap doing_of (lent.before v.number) in
      doing_whole v.number v.seen ∙ (ap (doing_after v.number idle) (sym (take-append-drop v.base v.seen)) ∙ (doing_parts v.number idle old new
      ∙ (ap (λ d. doing_after v.number d new) was ∙ (doing_alone v.number idle new ∙ ap (doing_after v.number idle) lent.whole))))

  -- ---- a turn ends

  -- what came since is told by its events
  pub turn_told : (m : Meaning Key Recon Cond) (h w : View (Event O Key Recon Cond)) (journal more : List (Event O Key Recon Cond)) → IsLent h → journal ≡ h.seen ++ more → AllByRecursion (λ e. seat_of e ≡ h.number) more → Right m journal → w ≡ grown h journal
      → Told m h w (span_at (length h.seen) (length journal)) more
  turn_told m h w journal more lent is each right view =
      let seen : w.seen ≡ journal = ap (λ (z : View (Event O Key Recon Cond)). z.seen) view in
      let number : w.number ≡ h.number = ap (λ (z : View (Event O Key Recon Cond)). z.number) view in
      let base : w.base ≡ h.base = ap (λ (z : View (Event O Key Recon Cond)). z.base) view in
      let added : drop (length h.seen) journal ≡ more = ap (drop (length h.seen)) is ∙ drop_at h.seen more (length h.seen) refl in
      let mine : w.mine ≡ h.mine ++ more = ap (λ (z : View (Event O Key Recon Cond)). z.mine) view ∙ ap (λ l. h.mine ++ l) added in
      let here : Watched h.number h.seen h.seen = record { grew = ([], sym (append-nil h.seen)); none = ap (own h.number) (take_nothing h.seen) } in
      record {
        same = view ∙ (λ i. record h { seen = sym seen i; mine = h.mine ++ added i });
        called = subst (λ (j : List (Event O Key Recon Cond)). Called h.number h.seen j (span_at (length h.seen) (length journal)) more) (sym is ∙ sym seen)
            (subst (λ (j : List (Event O Key Recon Cond)). Called h.number h.seen (h.seen ++ more) (span_at (length h.seen) (length j)) more) (sym is) (call_one h.number h.seen h.seen more here each));
        whole = (λ i. own (number i) (drop (base i) (seen i))) ∙ (ap (λ l. own h.number (drop h.base l)) is ∙ (own_on h.number h.base h.seen more lent.based ∙ (ap (λ l. l ++ own h.number more) lent.whole ∙ (ap (λ l. h.mine ++ l) (own-all h.number more each) ∙ sym mine))));
        right = subst (Right m) (sym seen) right;
      }
    where
      take_nothing : (xs : List (Event O Key Recon Cond)) → drop (length xs) xs ≡ []
      take_nothing [] = refl
      take_nothing (x ∷ xs) = take_nothing xs

  pub turn_left : (m : Meaning Key Recon Cond) (h w : View (Event O Key Recon Cond)) (journal : List (Event O Key Recon Cond)) (from to : ℕ) → IsLent h → (more : List (Event O Key Recon Cond)) × (journal ≡ h.seen ++ more) × AllByRecursion (λ e. seat_of e ≡ h.number) more → Right m journal
      → w ≡ grown h journal → from ≡ length h.seen → to ≡ length journal → Told m h w (span_at from to) (drop (length h.seen) journal)
  turn_left m h w journal from to lent (more, is, each) right view begins ends =
      let told : Told m h w (span_at (length h.seen) (length journal)) more = turn_told m h w journal more lent is each right view in
      let added : more ≡ drop (length h.seen) journal = sym (ap (drop (length h.seen)) is ∙ drop_at h.seen more (length h.seen) refl) in
      subst (λ (z : ℕ × ℕ). Told m h w (span_at z.0 z.1) (drop (length h.seen) journal)) (λ i. (sym begins i, sym ends i)) (subst (Told m h w (span_at (length h.seen) (length journal))) added told)

  -- the pass knows then what it must
  pub told_passed : (m : Meaning Key Recon Cond) (v w : View (Event O Key Recon Cond)) (span : Span) (events : List (Event O Key Recon Cond)) → v.base ≤ length v.seen → ((n : ℕ) → open_of n (past_at v.base v.seen) ≡ nothing) → ((n : ℕ) → doing_after n idle (kept_of v.kept n) ≡ idle)
      → Told m v w span events → IsPassed w
  told_passed m v w span events fits before kept told =
      let base : w.base ≡ v.base = ap (λ (z : View (Event O Key Recon Cond)). z.base) told.same in
      let long = long_on v.seen w.seen told.called.grew in
      record {
        based = omega arith;
        known = ap (take (length w.mine)) told.whole ∙ take_all (length w.mine) w.mine (omega arith);
        before = λ n. ap (λ b. open_of n (past_at b w.seen)) base ∙ (ap (open_of n) (past_on v.base v.seen w.seen fits told.called.grew) ∙ before n);
        kept = λ n. ap (λ (z : View (Event O Key Recon Cond)). doing_after n idle (kept_of z.kept n)) told.same ∙ kept n;
      }

  -- ---- sections

  -- the turn of a section as its pass sees it
  pub told_watched : (m : Meaning Key Recon Cond) (v h w : View (Event O Key Recon Cond)) (span : Span) (events : List (Event O Key Recon Cond)) → h ≡ record v { seen = h.seen } → Watched v.number v.seen h.seen → Told m h w span events → Told m v w span events
  told_watched m v h w span events view watched told =
      let number : h.number ≡ v.number = ap (λ (z : View (Event O Key Recon Cond)). z.number) view in
      record {
        same = told.same ∙ ap (λ (z : View (Event O Key Recon Cond)). record z { seen = w.seen; mine = z.mine ++ events }) view;
        called = call_after v.number v.seen h.seen w.seen span events watched (subst (λ (n : ℕ). Called n h.seen w.seen span events) number told.called);
        whole = told.whole;
        right = told.right;
      }

  -- one section after another
  pub told_add : (m : Meaning Key Recon Cond) (v w x : View (Event O Key Recon Cond)) (s1 s2 : Span) (es1 es2 : List (Event O Key Recon Cond)) → Told m v w s1 es1 → Told m w x s2 es2 → Told m v x (joined s1 s2) (es1 ++ es2)
  told_add m v w x s1 s2 es1 es2 a b =
      let number : w.number ≡ v.number = ap (λ (z : View (Event O Key Recon Cond)). z.number) a.same in
      record {
        same = b.same ∙ (ap (λ (z : View (Event O Key Recon Cond)). record z { seen = x.seen; mine = z.mine ++ es2 }) a.same ∙ ap (λ l. record v { seen = x.seen; mine = l }) (append_assoc v.mine es1 es2));
        called = call_add v.number v.seen w.seen x.seen s1 s2 es1 es2 a.called (subst (λ (n : ℕ). Called n w.seen x.seen s2 es2) number b.called);
        whole = b.whole;
        right = b.right;
      }

  pub told_doing : (m : Meaning Key Recon Cond) (v w : View (Event O Key Recon Cond)) (span : Span) (events : List (Event O Key Recon Cond)) → Told m v w span events → doing_at w ≡ doing_after v.number (doing_at v) events
  told_doing m v w span events told = ap doing_at told.same ∙ doing_parts v.number idle v.mine events

  -- ---- passes are made, given and taken back

  pub first_passed : (journal : List (Event O Key Recon Cond)) (origin : Origin) → ((n : ℕ) → open_of n (reverse journal) ≡ nothing) → IsPassed (first_view journal origin)
  first_passed journal origin none = record {
    based = omega arith;
    known = refl;
    before = λ n. ap (λ l. open_of n (reverse l)) (take_all (length journal) journal (omega arith)) ∙ none n;
    kept = λ n. refl;
  }

  pub split_passed : (v : View (Event O Key Recon Cond)) → IsPassed v → IsPassed (after_split v)
  split_passed v p = record { based = p.based; known = p.known; before = p.before; kept = p.kept }

  pub dealt_passed : (v : View (Event O Key Recon Cond)) → IsPassed v → IsPassed (dealt v)
  dealt_passed v p = record { based = p.based; known = refl; before = p.before; kept = λ n. refl }

  pub join_passed : (v w : View (Event O Key Recon Cond)) → IsPassed v → doing_at w ≡ idle → StartsWith (longer v.seen w.seen) v.seen → IsPassed (after_join v w)
  join_passed v w p done begins =
      let long = long_on v.seen (longer v.seen w.seen) begins in
      let fits = p.based in
      let rest = drop (length v.mine) (own_since v) in
      record {
        based = omega arith;
        known =
            ap (λ l. take (length v.mine) (own v.number (drop v.base l))) begins.1 ∙ (ap (take (length v.mine)) (own_on v.number v.base v.seen begins.0 fits ∙ (ap (λ l. l ++ own v.number begins.0) (known_more v p) ∙ append_assoc v.mine rest (own v.number begins.0)))
            ∙ take_at v.mine (rest ++ own v.number begins.0) (length v.mine) refl);
        before = λ n. ap (open_of n) (past_on v.base v.seen (longer v.seen w.seen) fits begins) ∙ p.before n;
        kept = λ n. elim (eqb_tells w.number n) [
          | inl same ↦ ap (λ b. doing_after n idle (cond b w.mine (kept_of v.kept n))) same.0 ∙ (ap (λ k. doing_after k idle w.mine) (sym same.1) ∙ done)
          | inr other ↦ ap (λ b. doing_after n idle (cond b w.mine (kept_of v.kept n))) other.0 ∙ p.kept n
        ];
      }

  idle_nothing : (has : Opened O Key Recon Cond) → doing_of has ≡ idle → has ≡ nothing
  idle_nothing nothing does = refl
  idle_nothing (inserting row key) does = absurd (cc)
  idle_nothing (scanning before query) does = absurd (cc)
  idle_nothing (vacuuming before) does = absurd (cc)

  -- once its call has ended the seat has nothing open
  pub at_rest : (m : Meaning Key Recon Cond) (v w : View (Event O Key Recon Cond)) (span : Span) (events : List (Event O Key Recon Cond)) → IsPassed w → Told m v w span events → doing_at w ≡ idle → IsAtRest w
  at_rest m v w span events p told done = idle_nothing (open_of w.number (reverse w.seen)) (lent_doing w (record { based = p.based; whole = told.whole; before = p.before; kept = p.kept }) ∙ done)

  -- so it is after a call that did nothing
  pub rest_on : (m : Meaning Key Recon Cond) (v w : View (Event O Key Recon Cond)) (span : Span) → IsPassed w → Told m v w span [] → doing_at v ≡ idle → IsAtRest w
  rest_on m v w span p told done = at_rest m v w span [] p told (told_doing m v w span [] told ∙ done)

  -- nothing is open in the journal that a first pass has seen, once each other pass was joined
  pub closed_idle : (v : View (Event O Key Recon Cond)) (journal : List (Event O Key Recon Cond)) → journal ≡ v.seen → v.number ≡ 0 → IsPassed v → doing_at v ≡ idle
      → by_seat (λ e. seat_of e) 0 (drop v.base journal) ≡ v.mine → ((n : ℕ) → 0 < n → by_seat (λ e. seat_of e) n (drop v.base journal) ≡ kept_of v.kept n) → (n : ℕ) → open_of n (reverse journal) ≡ nothing
  closed_idle v journal is zeroth p done mine others n = idle_nothing (open_of n (reverse journal)) (go n (of_own n))
    where
      of_own : (k : ℕ) → doing_of (open_of k (reverse journal)) ≡ doing_after k idle (own k (drop v.base journal))
      of_own k =
          let old = take v.base journal in
          let was : doing_after k idle old ≡ idle = sym (doing_whole k old) ∙ (ap (λ l. doing_of (open_of k (past_at v.base l))) is ∙ ap doing_of (p.before k)) in
          doing_whole k journal ∙ (ap (doing_after k idle) (sym (take-append-drop v.base journal)) ∙ (doing_parts k idle old (drop v.base journal)
          ∙ (ap (λ d. doing_after k d (drop v.base journal)) was ∙ doing_alone k idle (drop v.base journal))))

      go : (k : ℕ) → doing_of (open_of k (reverse journal)) ≡ doing_after k idle (own k (drop v.base journal)) → doing_of (open_of k (reverse journal)) ≡ idle
      go zero e = e ∙ (ap (doing_after 0 idle) (sym (own_is 0 (drop v.base journal)) ∙ mine) ∙ (ap (λ k. doing_after k idle v.mine) (sym zeroth) ∙ done))
      go (suc k) e = e ∙ (ap (doing_after (suc k) idle) (sym (own_is (suc k) (drop v.base journal)) ∙ others (suc k) (omega arith)) ∙ p.kept (suc k))
