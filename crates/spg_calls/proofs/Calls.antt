-- Calls of a seat, one after another.
use Rattle.std.proofs.Common.{◌≡◌, ◌<◌, ◌≤◌, ◌+◌, ◌-◌, ◌⊎◌, inl, inr, ℕ, zero, suc, true, false, List, [], ◌∷◌, ◌++◌, length, take, drop, refl, sym, ap, ◌∙◌, subst, arith, length-append, length-drop, take-append-drop}
use Rattle.std.specs.Prelude.{nat_lt}
use Rattle.std.specs.List.{AllByRecursion}
use Rattle.std.proofs.lemmas.Bool.{cases_lt, lt-ltb, le-ltb}
use Rattle.std.proofs.lemmas.List.{append_assoc, append-nil, drop_at, take_all}
use Rattle.spg_base.specs.declared.names.Span.{Span}
use Rattle.spg_rows.specs.declared.event.Event.{Event}
use Rattle.spg_rows.specs.History.{seat_of, own}
use Rattle.spg_calls.specs.Calls.{IsBySeat, between, GrewTo, Watched, Called, span_at, joined, CallsAdd}
use Rattle.spg_calls.proofs.Journals.{between-grows, by_seat-grows, own-append, own-all, drop_drop, new_by_seat}

-- one number is below another, or is not
pub lt_tells : (a b : ℕ) → ((nat_lt a b ≡ true) × (a < b)) ⊎ ((nat_lt a b ≡ false) × (b ≤ a))
lt_tells a b = elim (cases_lt a b) [ inl less ↦ inl (lt-ltb a b less, less) | inr more ↦ inr (le-ltb a b more, more) ]

module _ {O Key Recon Cond : Type 0} where
  abbrev nothing_yet : List (Event O Key Recon Cond)
  nothing_yet = []

  take_none : (n : ℕ) → take n nothing_yet ≡ nothing_yet
  take_none zero = refl
  take_none (suc n) = refl

  take_parts : (a b : ℕ) (xs : List (Event O Key Recon Cond)) → take (a + b) xs ≡ take a xs ++ take b (drop a xs)
  take_parts zero b xs = let same : 0 + b ≡ b = omega arith in ap (λ n. take n xs) same
  take_parts (suc a) b [] = take_none (suc a + b) ∙ sym (take_none b)
  take_parts (suc a) b (x ∷ xs) = let same : suc a + b ≡ suc (a + b) = omega arith in ap (λ n. take n (x ∷ xs)) same ∙ ap (λ l. x ∷ l) (take_parts a b xs)

  between_parts : (low mid high : ℕ) (journal : List (Event O Key Recon Cond)) → low ≤ mid → mid ≤ high → between low high journal ≡ between low mid journal ++ between mid high journal
  between_parts low mid high journal le le2 =
      let sum : high - low ≡ (mid - low) + (high - mid) = omega arith in
      let at : low + (mid - low) ≡ mid = omega arith in
      ap (λ n. take n (drop low journal)) sum ∙ take_parts (mid - low) (high - mid) (drop low journal) ∙ ap (λ l. between low mid journal ++ take (high - mid) l) (drop_drop low (mid - low) journal ∙ ap (λ n. drop n journal) at)

  drop_parts : (low mid : ℕ) (journal : List (Event O Key Recon Cond)) → low ≤ mid → drop low journal ≡ between low mid journal ++ drop mid journal
  drop_parts low mid journal le =
      let at : low + (mid - low) ≡ mid = omega arith in
      sym (take-append-drop (mid - low) (drop low journal)) ∙ ap (λ l. between low mid journal ++ l) (drop_drop low (mid - low) journal ∙ ap (λ n. drop n journal) at)

  pub own_between : (seat low mid high : ℕ) (journal : List (Event O Key Recon Cond)) → low ≤ mid → mid ≤ high → own seat (between low high journal) ≡ own seat (between low mid journal) ++ own seat (between mid high journal)
  own_between seat low mid high journal le le2 = ap (own seat) (between_parts low mid high journal le le2) ∙ own-append seat (between low mid journal) (between mid high journal)

  pub own_drop : (seat low mid : ℕ) (journal : List (Event O Key Recon Cond)) → low ≤ mid → own seat (drop low journal) ≡ own seat (between low mid journal) ++ own seat (drop mid journal)
  own_drop seat low mid journal le = ap (own seat) (drop_parts low mid journal le) ∙ own-append seat (between low mid journal) (drop mid journal)

  -- up to where the list was before
  up_to : (low : ℕ) (old more : List (Event O Key Recon Cond)) → low ≤ length old → between low (length old) (old ++ more) ≡ drop low old
  up_to low old more le = between-grows low (length old) old more le (omega arith) ∙ take_all (length old - low) (drop low old) (omega (arith, length-drop low old))

  pub long_grew : (old new : List (Event O Key Recon Cond)) → GrewTo old new → length old ≤ length new
  long_grew old new (more, is) = omega (arith, ap length is, length-append old more)

  pub grew_on : (a b c : List (Event O Key Recon Cond)) → GrewTo a b → GrewTo b c → GrewTo a c
  grew_on a b c (more, is) (rest, is2) = (more ++ rest, is2 ∙ ap (λ l. l ++ rest) is ∙ append_assoc a more rest)

  pub between_grew : (low high : ℕ) (old new : List (Event O Key Recon Cond)) → GrewTo old new → low ≤ high → high ≤ length old → between low high new ≡ between low high old
  between_grew low high old new (more, is) le within = ap (between low high) is ∙ between-grows low high old more le within

  pub up_to_grew : (low : ℕ) (old new : List (Event O Key Recon Cond)) → GrewTo old new → low ≤ length old → between low (length old) new ≡ drop low old
  up_to_grew low old new (more, is) le = ap (between low (length old)) is ∙ up_to low old more le

  pub by_grew : (seat : ℕ) (old new : List (Event O Key Recon Cond)) (at : ℕ) → GrewTo old new → at < length old → IsBySeat seat old at → IsBySeat seat new at
  by_grew seat old new at (more, is) within by = subst (λ (j : List (Event O Key Recon Cond)). IsBySeat seat j at) (sym is) (by_seat-grows seat old more at within by)

  -- ---- one section

  pub call_one : (seat : ℕ) (seen lent events : List (Event O Key Recon Cond)) → Watched seat seen lent → AllByRecursion (λ e. seat_of e ≡ seat) events → Called seat seen (lent ++ events) (span_at (length lent) (length (lent ++ events))) events
  call_one seat seen lent events watched each =
      let long : length (lent ++ events) ≡ length lent + length events = length-append lent events in
      let none_left : length (lent ++ events) - length (lent ++ events) ≡ 0 = omega arith in
      record {
        grew = grew_on seen lent (lent ++ events) watched.grew (events, refl);
        low = long_grew seen lent watched.grew;
        order = omega (arith, long);
        high = omega arith;
        none_before = ap (own seat) (up_to (length seen) lent events (long_grew seen lent watched.grew)) ∙ watched.none;
        within = ap (λ l. own seat (take (length (lent ++ events) - length lent) l)) (drop_at lent events (length lent) refl) ∙ ap (own seat) (take_all (length (lent ++ events) - length lent) events (omega (arith, long))) ∙ own-all seat events each;
        none_after = ap (own seat) (drop_whole (lent ++ events));
        first = λ some. new_by_seat seat lent events (length lent) each (omega arith) (omega (arith, some, long));
        last = λ some. new_by_seat seat lent events (length (lent ++ events) - 1) each (omega (arith, some)) (omega (arith, some, long));
      }
    where
      drop_whole : (xs : List (Event O Key Recon Cond)) → drop (length xs) xs ≡ []
      drop_whole [] = refl
      drop_whole (x ∷ xs) = drop_whole xs

  -- ---- sections after it

  after_none : (seat at : ℕ) (later last : List (Event O Key Recon Cond)) → at ≤ length later → own seat (drop at later) ≡ [] → Watched seat later last → own seat (drop at last) ≡ []
  after_none seat at later last le none watched =
      own_drop seat at (length later) last le ∙ ap (λ l. own seat l ++ own seat (drop (length later) last)) (up_to_grew at later last watched.grew le) ∙ ap (λ l. l ++ own seat (drop (length later) last)) none ∙ watched.none

  pub call_watch : (seat : ℕ) (seen later last : List (Event O Key Recon Cond)) (span : Span) (events : List (Event O Key Recon Cond)) → Called seat seen later span events → Watched seat later last → Called seat seen last span events
  call_watch seat seen later last span events c w = record {
    grew = grew_on seen later last c.grew w.grew;
    low = c.low;
    order = c.order;
    high = omega (arith, c.high, long_grew later last w.grew);
    none_before = ap (own seat) (between_grew (length seen) span.from later last w.grew c.low (omega (arith, c.order, c.high))) ∙ c.none_before;
    within = ap (own seat) (between_grew span.from span.to later last w.grew c.order c.high) ∙ c.within;
    none_after = after_none seat span.to later last c.high c.none_after w;
    first = λ some. by_grew seat later last span.from w.grew (omega (arith, some, c.high)) (c.first some);
    last = λ some. by_grew seat later last (span.to - 1) w.grew (omega (arith, some, c.high)) (c.last some);
  }

  pub call_next : (seat : ℕ) (seen later last : List (Event O Key Recon Cond)) (s1 s2 : Span) (es1 es2 : List (Event O Key Recon Cond)) → s1.from < s1.to → s2.from < s2.to → Called seat seen later s1 es1 → Called seat later last s2 es2
      → Called seat seen last (span_at s1.from s2.to) (es1 ++ es2)
  call_next seat seen later last s1 s2 es1 es2 some1 some2 a b = record {
    grew = grew_on seen later last a.grew b.grew;
    low = a.low;
    order = omega (arith, a.order, a.high, b.low, b.order);
    high = b.high;
    none_before = ap (own seat) (between_grew (length seen) s1.from later last b.grew a.low (omega (arith, a.order, a.high))) ∙ a.none_before;
    within =
        own_between seat s1.from s1.to s2.to last a.order (omega (arith, a.high, b.low, b.order))
        ∙ ap (λ l. own seat l ++ own seat (between s1.to s2.to last)) (between_grew s1.from s1.to later last b.grew a.order a.high) ∙ ap (λ l. l ++ own seat (between s1.to s2.to last)) a.within
        ∙ ap (λ l. es1 ++ l) (own_between seat s1.to (length later) s2.to last a.high (omega (arith, b.low, b.order)) ∙ ap (λ l. own seat l ++ own seat (between (length later) s2.to last)) (up_to_grew s1.to later last b.grew a.high)
        ∙ ap (λ l. l ++ own seat (between (length later) s2.to last)) a.none_after ∙ own_between seat (length later) s2.from s2.to last b.low b.order ∙ ap (λ l. l ++ own seat (between s2.from s2.to last)) b.none_before ∙ b.within);
    none_after = b.none_after;
    first = λ some. by_grew seat later last s1.from b.grew (omega (arith, some1, a.high)) (a.first some1);
    last = λ some. b.last some2;
  }

  -- ---- sections of any kind

  -- a span without a position has no event
  pub call_quiet : (seat : ℕ) (seen later : List (Event O Key Recon Cond)) (span : Span) (events : List (Event O Key Recon Cond)) → span.to ≤ span.from → Called seat seen later span events → (events ≡ []) × Watched seat seen later
  call_quiet seat seen later span events empty c =
      let none : span.to - span.from ≡ 0 = omega arith in
      let nothing : own seat (between span.from span.to later) ≡ [] = ap (λ n. own seat (take n (drop span.from later))) none in (
        sym c.within ∙ nothing,
        record {
          grew = c.grew;
          none = own_drop seat (length seen) span.from later c.low ∙ ap (λ l. l ++ own seat (drop span.from later)) c.none_before
              ∙ own_drop seat span.from span.to later c.order ∙ ap (λ l. l ++ own seat (drop span.to later)) nothing ∙ c.none_after;
        },
      )

  -- sections without an event came before
  pub call_after : (seat : ℕ) (seen later last : List (Event O Key Recon Cond)) (span : Span) (events : List (Event O Key Recon Cond)) → Watched seat seen later → Called seat later last span events → Called seat seen last span events
  call_after seat seen later last span events w c =
      let long = long_grew seen later w.grew in
      record {
        grew = grew_on seen later last w.grew c.grew;
        low = omega (arith, long, c.low);
        order = c.order;
        high = c.high;
        none_before = own_between seat (length seen) (length later) span.from last long c.low
            ∙ ap (λ l. own seat l ++ own seat (between (length later) span.from last)) (up_to_grew (length seen) later last c.grew long)
            ∙ ap (λ l. l ++ own seat (between (length later) span.from last)) w.none ∙ c.none_before;
        within = c.within;
        none_after = c.none_after;
        first = c.first;
        last = c.last;
      }

  pub call_add : (seat : ℕ) (seen later last : List (Event O Key Recon Cond)) (s1 s2 : Span) (es1 es2 : List (Event O Key Recon Cond)) → Called seat seen later s1 es1 → Called seat later last s2 es2 → Called seat seen last (joined s1 s2) (es1 ++ es2)
  call_add seat seen later last s1 s2 es1 es2 a b = elim (lt_tells s2.from s2.to) [
    | inl some2 ↦ elim (lt_tells s1.from s1.to) [
      | inl some1 ↦ rw (some2.0, some1.0) (call_next seat seen later last s1 s2 es1 es2 some1.1 some2.1 a b)
      | inr none1 ↦ let q = call_quiet seat seen later s1 es1 none1.1 a in rw (some2.0, none1.0, q.0) (call_after seat seen later last s2 es2 q.1 b)
    ]
    | inr none2 ↦ let q = call_quiet seat later last s2 es2 none2.1 b in rw (none2.0, q.0) (subst (λ (es : List (Event O Key Recon Cond)). Called seat seen last s1 es) (sym (append-nil es1)) (call_watch seat seen later last s1 es1 a q.1))
  ]

pub calls_add : (O Key Recon Cond : Type 0) → CallsAdd O Key Recon Cond
calls_add O Key Recon Cond = record { one = call_one; watch = call_watch; next = call_next; add = call_add }
