-- A run goes on by a block.
use Rattle.std.proofs.Common.{◌≡◌, ◌⊎◌, inl, inr, ◌<◌, ◌≤◌, ◌+◌, ◌-◌, ◌*◌, ℕ, zero, suc, Bool, List, [], ◌∷◌, ◌++◌, length, take, drop, reverse, Option, refl, sym, ap, ◌∙◌, subst, arith, length-append, take-append-drop}
use Rattle.std.specs.Prelude.{slice_get, IsSomeAnd}
use Rattle.std.specs.List.{AllByRecursion, AllZip}
use Rattle.std.proofs.lemmas.Bool.{cases_lt, eq-eqb}
use Rattle.std.proofs.lemmas.Bool.Decides.{eqb_tells}
use Rattle.std.proofs.lemmas.List.{append_assoc, append-nil, take_at, drop_at, take_all}
use Rattle.spg_rows.specs.declared.event.Event.{Event}
use Rattle.spg_rows.specs.History.{seat_of, own}
use Rattle.spg_script.specs.declared.command.Command.{Command}
use Rattle.spg_script.specs.Speech.{Speech}
use Rattle.spg_report.specs.declared.outcome.Outcome.TheVariants as outcome
use Rattle.spg_report.specs.declared.record.Record.{Record}
use Rattle.spg_histories.specs.Tasks.{Task, lane_tasks, lanes_tasks}
use Rattle.spg_histories.specs.Run.{Does, past_at, between, IsBySeat, Did, Follows, AreInOrder, IsWithin, IsOwned, Entry, load_events, RunOf}
use Rattle.spg_histories.specs.Blocks.{joined, BlockOf, Performed, Spans, spanned, LaneRan, LanesRan, AreRefused, SpansTold, RunsGrow}
use Rattle.spg_calls.proofs.Journals.{between-grows, past_at-grows, by_seat-grows, new_by_seat, own-append, own-all, drop_drop}
use Rattle.spg_histories.proofs.Lists.{get-drop, get-between, get-some}
use Rattle.spg_histories.proofs.Owners.{load_long}

-- ---- lists

pub zip_append : {A B : Type 0} (R : A → B → Type 0) (xs xs2 : List A) (ys ys2 : List B) → AllZip R xs ys → AllZip R xs2 ys2 → AllZip R (xs ++ xs2) (ys ++ ys2)
zip_append R [] xs2 [] ys2 all more = more
zip_append R [] xs2 (y ∷ ys) ys2 all more = absurd all
zip_append R (x ∷ xs) xs2 [] ys2 all more = absurd all
zip_append R (x ∷ xs) xs2 (y ∷ ys) ys2 all more = (all.0, zip_append R xs xs2 ys ys2 all.1 more)

pub each_append : {A : Type 0} (P : A → Type 0) (xs ys : List A) → AllByRecursion P xs → AllByRecursion P ys → AllByRecursion P (xs ++ ys)
each_append P [] ys each more = more
each_append P (x ∷ xs) ys each more = (each.0, each_append P xs ys each.1 more)

pub each_weaker : {A : Type 0} (P Q : A → Type 0) (xs : List A) → ((x : A) → P x → Q x) → AllByRecursion P xs → AllByRecursion Q xs
each_weaker P Q [] from each = tt
each_weaker P Q (x ∷ xs) from each = (from x each.0, each_weaker P Q xs from each.1)

-- as many, and each of the second is such
zip_seconds : {A B : Type 0} (R : A → B → Type 0) (P : B → Type 0) (Q : A → B → Type 0) (xs : List A) (ys : List B) → AllZip R xs ys → AllByRecursion P ys → ((x : A) (y : B) → P y → Q x y) → AllZip Q xs ys
zip_seconds R P Q [] [] all each from = tt
zip_seconds R P Q [] (y ∷ ys) all each from = absurd all
zip_seconds R P Q (x ∷ xs) [] all each from = absurd all
zip_seconds R P Q (x ∷ xs) (y ∷ ys) all each from = (from x y each.0, zip_seconds R P Q xs ys all.1 each.1 from)

-- ---- order

in_order_append : (Q : Task → Record → Type 0) (ts bs : List Task) (rs ss : List Record) → AllZip Q ts rs → ((t : Task) (r : Record) → Q t r → AllZip (Follows t r) bs ss) → AreInOrder ts rs → AreInOrder bs ss → AreInOrder (ts ++ bs) (rs ++ ss)
in_order_append Q [] bs [] ss all cross order more = more
in_order_append Q [] bs (r ∷ rs) ss all cross order more = absurd all
in_order_append Q (t ∷ ts) bs [] ss all cross order more = absurd all
in_order_append Q (t ∷ ts) bs (r ∷ rs) ss all cross order more = (zip_append (Follows t r) ts bs rs ss order.0 (cross t r all.0), in_order_append Q ts bs rs ss all.1 cross order.1 more)

later_within : (low low2 high : ℕ) (rs : List Record) → low ≤ low2 → AllByRecursion (IsWithin low2 high) rs → AllByRecursion (IsWithin low high) rs
later_within low low2 high rs le within = each_weaker (IsWithin low2 high) (IsWithin low high) rs (λ r is. record { after = omega (arith, is.after, le); order = is.order; before = is.before }) within

-- a later lane has another seat
abbrev IsOther : ℕ → ℕ → Task → Type 0
IsOther block low t = (t.block ≡ block) × (low ≤ t.seat)

lane_other : (block seat low : ℕ) (alone : Bool) (cs : List Command) → low ≤ seat → AllByRecursion (IsOther block low) (lane_tasks block seat alone cs)
lane_other block seat low alone [] le = tt
lane_other block seat low alone (c ∷ cs) le = ((refl, le), lane_other block seat low alone cs le)

lanes_other : (block seat low : ℕ) (alone : Bool) (lanes : List (List Command)) → low ≤ seat → AllByRecursion (IsOther block low) (lanes_tasks block seat alone lanes)
lanes_other block seat low alone [] le = tt
lanes_other block seat low alone (lane ∷ lanes) le = each_append (IsOther block low) (lane_tasks block seat alone lane) (lanes_tasks block (seat + 1) alone lanes) (lane_other block seat low alone lane le) (lanes_other block (seat + 1) low alone lanes (omega arith))

follows_none : (R : Task → Record → Type 0) (block seat : ℕ) (t : Task) (r : Record) (ts : List Task) (rs : List Record) → AllZip R ts rs → AllByRecursion (IsOther block (seat + 1)) ts → t.block ≡ block → t.seat ≡ seat → AllZip (Follows t r) ts rs
follows_none R block seat t r [] [] all each of_block of_seat = tt
follows_none R block seat t r [] (s ∷ rs) all each of_block of_seat = absurd all
follows_none R block seat t r (x ∷ ts) [] all each of_block of_seat = absurd all
follows_none R block seat t r (x ∷ ts) (s ∷ rs) all each of_block of_seat =
    ((λ same. absurd (omega (arith, each.0.1, of_seat, same (of_block ∙ sym each.0.0)))), follows_none R block seat t r ts rs all.1 each.1 of_block of_seat)

lane_same : (block seat : ℕ) (alone : Bool) (cs : List Command) (rs : List Record) (R : Task → Record → Type 0) → AllZip R (lane_tasks block seat alone cs) rs → AllZip (λ t r. (t.block ≡ block) × (t.seat ≡ seat)) (lane_tasks block seat alone cs) rs
lane_same block seat alone [] [] R all = tt
lane_same block seat alone [] (r ∷ rs) R all = absurd all
lane_same block seat alone (c ∷ cs) [] R all = absurd all
lane_same block seat alone (c ∷ cs) (r ∷ rs) R all = ((refl, refl), lane_same block seat alone cs rs R all.1)

refused_within : (at : ℕ) (ts : List Task) (rs : List Record) → AreRefused at ts rs → AllByRecursion (IsWithin at at) rs
refused_within at [] [] are = tt
refused_within at [] (r ∷ rs) are = absurd are
refused_within at (t ∷ ts) [] are = absurd are
refused_within at (t ∷ ts) (r ∷ rs) are =
    (subst (IsWithin at at) (sym are.0) (record { after = omega arith; order = omega arith; before = omega arith }), refused_within at ts rs are.1)

within_order : (R : Task → Record → Type 0) (at : ℕ) (ts : List Task) (rs : List Record) → AllZip R ts rs → AllByRecursion (IsWithin at at) rs → AreInOrder ts rs
within_order R at [] [] all within = tt
within_order R at [] (r ∷ rs) all within = absurd all
within_order R at (t ∷ ts) [] all within = absurd all
within_order R at (t ∷ ts) (r ∷ rs) all within =
    (zip_seconds R (IsWithin at at) (Follows t r) ts rs all.1 within.1 (λ t2 r2 is same. omega (arith, is.after, within.0.before)), within_order R at ts rs all.1 within.1)

module _ {O Key Recon Cond : Type 0} where
  -- an event of the seat is among its own
  own_some : (seat : ℕ) (xs : List (Event O Key Recon Cond)) (i : ℕ) → IsBySeat seat xs i → 0 < length (own seat xs)
  own_some seat [] i by = absurd by
  own_some seat (e ∷ xs) zero by = rw (eq-eqb (seat_of e) seat by) (omega arith)
  own_some seat (e ∷ xs) (suc i) by = elim (eqb_tells (seat_of e) seat) [
    | inl same ↦ rw same.0 (omega arith)
    | inr other ↦ rw other.0 (own_some seat xs i by)
  ]

  by_seat_from : (seat low : ℕ) (journal : List (Event O Key Recon Cond)) (at : ℕ) → low ≤ at → IsBySeat seat journal at → IsBySeat seat (drop low journal) (at - low)
  by_seat_from seat low journal at from by =
      let same : low + (at - low) ≡ at = omega arith in
      subst (λ (o : Option (Event O Key Recon Cond)). IsSomeAnd o (λ e. seat_of e ≡ seat)) (sym (get-drop low journal (at - low) ∙ ap (slice_get journal) same)) by

  by_seat_between : (seat low high : ℕ) (journal : List (Event O Key Recon Cond)) (at : ℕ) → low ≤ at → at < high → IsBySeat seat journal at → IsBySeat seat (between low high journal) (at - low)
  by_seat_between seat low high journal at from to by = subst (λ (o : Option (Event O Key Recon Cond)). IsSomeAnd o (λ e. seat_of e ≡ seat)) (sym (get-between low high journal at from to)) by

  -- the events from low on are those up to mid and those from mid on
  own_parts : (seat low mid : ℕ) (journal : List (Event O Key Recon Cond)) → low ≤ mid → length (own seat (drop low journal)) ≡ length (own seat (between low mid journal)) + length (own seat (drop mid journal))
  own_parts seat low mid journal le =
      let same : low + (mid - low) ≡ mid = omega arith in
      let split : drop low journal ≡ between low mid journal ++ drop mid journal = sym (take-append-drop (mid - low) (drop low journal)) ∙ ap (λ l. between low mid journal ++ l) (drop_drop low (mid - low) journal ∙ ap (λ n. drop n journal) same) in
      ap (λ l. length (own seat l)) split ∙ ap length (own-append seat (between low mid journal) (drop mid journal)) ∙ length-append (own seat (between low mid journal)) (own seat (drop mid journal))

  -- ---- owners

  owned_left : (journal : List (Event O Key Recon Cond)) (at : ℕ) (ts bs : List Task) (rs ss : List Record) → IsOwned journal at ts rs → IsOwned journal at (ts ++ bs) (rs ++ ss)
  owned_left journal at [] bs rs ss owned = absurd owned
  owned_left journal at (t ∷ ts) bs [] ss owned = absurd owned
  owned_left journal at (t ∷ ts) bs (r ∷ rs) ss (inl owns) = inl owns
  owned_left journal at (t ∷ ts) bs (r ∷ rs) ss (inr later) = inr (owned_left journal at ts bs rs ss later)

  owned_right : (R : Task → Record → Type 0) (journal : List (Event O Key Recon Cond)) (at : ℕ) (ts bs : List Task) (rs ss : List Record) → AllZip R ts rs → IsOwned journal at bs ss → IsOwned journal at (ts ++ bs) (rs ++ ss)
  owned_right R journal at [] bs [] ss all owned = owned
  owned_right R journal at [] bs (r ∷ rs) ss all owned = absurd all
  owned_right R journal at (t ∷ ts) bs [] ss all owned = absurd all
  owned_right R journal at (t ∷ ts) bs (r ∷ rs) ss all owned = inr (owned_right R journal at ts bs rs ss all.1 owned)

  owned_grows : (journal more : List (Event O Key Recon Cond)) (at : ℕ) (ts : List Task) (rs : List Record) → at < length journal → IsOwned journal at ts rs → IsOwned (journal ++ more) at ts rs
  owned_grows journal more at [] rs within owned = absurd owned
  owned_grows journal more at (t ∷ ts) [] within owned = absurd owned
  owned_grows journal more at (t ∷ ts) (r ∷ rs) within (inl owns) = inl (record { by_seat = by_seat-grows t.seat journal more at within owns.by_seat; from = owns.from; to = owns.to })
  owned_grows journal more at (t ∷ ts) (r ∷ rs) within (inr later) = inr (owned_grows journal more at ts rs within later)

  module _ (speech : Speech Key Cond) where
    did_grows : (journal more : List (Event O Key Recon Cond)) (t : Task) (r : Record) → r.span.from ≤ r.span.to → r.span.to ≤ length journal → Did speech journal t r → Did speech (journal ++ more) t r
    did_grows journal more t r le within did = record {
      does = rw (between-grows r.span.from r.span.to journal more le within, past_at-grows r.span.from journal more (omega arith)) did.does;
      first = λ some. by_seat-grows t.seat journal more r.span.from (omega arith) (did.first some);
      last = λ some. by_seat-grows t.seat journal more (r.span.to - 1) (omega arith) (did.last some);
    }

    each_grows : (low : ℕ) (journal more : List (Event O Key Recon Cond)) (ts : List Task) (rs : List Record) → AllByRecursion (IsWithin low (length journal)) rs → AllZip (Did speech journal) ts rs → AllZip (Did speech (journal ++ more)) ts rs
    each_grows low journal more [] [] within all = tt
    each_grows low journal more [] (r ∷ rs) within all = absurd all
    each_grows low journal more (t ∷ ts) [] within all = absurd all
    each_grows low journal more (t ∷ ts) (r ∷ rs) within all = (did_grows journal more t r within.0.order within.0.before all.0, each_grows low journal more ts rs within.1 all.1)

    -- ---- a run begins, and goes on by a block

    pub run_begins : (loaded : List (Entry Key)) → RunOf {O = O} {Recon = Recon} speech loaded [] (load_events loaded) []
    run_begins loaded = record {
      begins = ([], sym (append-nil (load_events loaded)));
      each = tt;
      in_order = tt;
      within = tt;
      covered = λ at above below. absurd (omega (arith, above, below, load_long O Key Recon Cond loaded));
    }

    module _ (loaded : List (Entry Key)) (old new : List (Event O Key Recon Cond)) (ts bs : List Task) (rs ss : List Record) (run : RunOf speech loaded ts old rs) (block : BlockOf speech old new bs ss) where
      long : length new ≡ length old + length block.events
      long = ap length block.journal ∙ length-append old block.events

      old_each : AllZip (Did speech new) ts rs
      old_each = subst (λ (j : List (Event O Key Recon Cond)). AllZip (Did speech j) ts rs) (sym block.journal) (each_grows (2 * length loaded) old block.events ts rs run.within run.each)

      loaded_old : 2 * length loaded ≤ length old
      loaded_old = omega (arith, ap length run.begins.1, length-append (load_events loaded) run.begins.0, load_long O Key Recon Cond loaded)

      covers : (at : ℕ) → 2 * length loaded ≤ at → at < length new → (at < length old) ⊎ (length old ≤ at) → IsOwned new at (ts ++ bs) (rs ++ ss)
      covers at above below (inl was) =
          subst (λ (j : List (Event O Key Recon Cond)). IsOwned j at (ts ++ bs) (rs ++ ss)) (sym block.journal) (owned_left (old ++ block.events) at ts bs rs ss (owned_grows old block.events at ts rs was (run.covered at above was)))
      covers at above below (inr is_new) = owned_right (Did speech new) new at ts bs rs ss old_each (block.covered at is_new below)

      pub run_goes_on : RunOf speech loaded (ts ++ bs) new (rs ++ ss)
      run_goes_on = record {
        begins = (run.begins.0 ++ block.events, block.journal ∙ ap (λ l. l ++ block.events) run.begins.1 ∙ append_assoc (load_events loaded) run.begins.0 block.events);
        each = zip_append (Did speech new) ts bs rs ss old_each block.each;
        in_order = in_order_append (λ t r. r.span.to ≤ length old) ts bs rs ss
            (zip_seconds (Did speech new) (IsWithin (2 * length loaded) (length old)) (λ t r. r.span.to ≤ length old) ts rs old_each run.within (λ t r is. is.before))
            (λ t r below. zip_seconds (Did speech new) (IsWithin (length old) (length new)) (Follows t r) bs ss block.each block.within (λ t2 r2 is same. omega (arith, is.after, below))) run.in_order block.in_order;
        within = each_append (IsWithin (2 * length loaded) (length new)) rs ss
            (each_weaker (IsWithin (2 * length loaded) (length old)) (IsWithin (2 * length loaded) (length new)) rs (λ r is. record { after = is.after; order = is.order; before = omega (arith, is.before, long) }) run.within)
            (each_weaker (IsWithin (length old) (length new)) (IsWithin (2 * length loaded) (length new)) ss (λ r is. record { after = omega (arith, is.after, loaded_old); order = is.order; before = is.before }) block.within);
        covered = λ at above below. covers at above below (cases_lt at (length old));
      }

    -- ---- one command outside lanes

    module _ (old new : List (Event O Key Recon Cond)) (t : Task) (r : Record) (p : Performed speech old new t r) where
      total : r.span.to ≡ length old + length p.events
      total = p.to ∙ ap length p.journal ∙ length-append old p.events

      its_events : between r.span.from r.span.to new ≡ p.events
      its_events = ap (between r.span.from r.span.to) p.journal ∙ ap (take (r.span.to - r.span.from)) (drop_at old p.events r.span.from (sym p.from)) ∙ take_all (r.span.to - r.span.from) p.events (omega (arith, total, p.from))

      its_past : past_at r.span.from new ≡ reverse old
      its_past = ap (past_at r.span.from) p.journal ∙ ap reverse (take_at old p.events r.span.from (sym p.from))

      its_seat : (at : ℕ) → length old ≤ at → at < length new → IsBySeat t.seat new at
      its_seat at from to = subst (λ (j : List (Event O Key Recon Cond)). IsBySeat t.seat j at) (sym p.journal) (new_by_seat t.seat old p.events at p.by_seat from (omega (arith, to, total, p.to)))

      it_did : Did speech new t r
      it_did = record {
        does = rw (its_events, own-all t.seat p.events p.by_seat, its_past) p.does;
        first = λ some. its_seat r.span.from (omega (arith, p.from)) (omega (arith, p.to, some));
        last = λ some. its_seat (r.span.to - 1) (omega (arith, p.from, some)) (omega (arith, p.to, some));
      }

      pub alone_block : BlockOf speech old new (t ∷ []) (r ∷ [])
      alone_block = record {
        events = p.events;
        journal = p.journal;
        each = (it_did, tt);
        in_order = (tt, tt);
        within = (record { after = omega (arith, p.from); order = omega (arith, p.from, total); before = omega (arith, p.to) }, tt);
        covered = λ at from to. inl (record { by_seat = its_seat at from to; from = omega (arith, p.from, from); to = omega (arith, p.to, to) });
      }

    -- ---- one lane of a block

    spans_le : (journal : List (Event O Key Recon Cond)) (low : ℕ) (ts : List Task) (rs : List Record) → Spans speech journal low ts rs → low ≤ length journal
    spans_le journal low [] [] spans = spans
    spans_le journal low [] (r ∷ rs) spans = absurd spans
    spans_le journal low (t ∷ ts) [] spans = absurd spans
    spans_le journal low (t ∷ ts) (r ∷ rs) spans = omega (arith, spans.0, spans.1, spans_le journal r.span.to ts rs spans.3)

    spans_did : (journal : List (Event O Key Recon Cond)) (low : ℕ) (ts : List Task) (rs : List Record) → Spans speech journal low ts rs → AllZip (Did speech journal) ts rs
    spans_did journal low [] [] spans = tt
    spans_did journal low [] (r ∷ rs) spans = absurd spans
    spans_did journal low (t ∷ ts) [] spans = absurd spans
    spans_did journal low (t ∷ ts) (r ∷ rs) spans = (spans.2, spans_did journal r.span.to ts rs spans.3)

    spans_within : (journal : List (Event O Key Recon Cond)) (low : ℕ) (ts : List Task) (rs : List Record) → Spans speech journal low ts rs → AllByRecursion (IsWithin low (length journal)) rs
    spans_within journal low [] [] spans = tt
    spans_within journal low [] (r ∷ rs) spans = absurd spans
    spans_within journal low (t ∷ ts) [] spans = absurd spans
    spans_within journal low (t ∷ ts) (r ∷ rs) spans =
        (record { after = spans.0; order = spans.1; before = spans_le journal r.span.to ts rs spans.3 }, later_within low r.span.to (length journal) rs (omega (arith, spans.0, spans.1)) (spans_within journal r.span.to ts rs spans.3))

    spans_order : (journal : List (Event O Key Recon Cond)) (low : ℕ) (ts : List Task) (rs : List Record) → Spans speech journal low ts rs → AreInOrder ts rs
    spans_order journal low [] [] spans = tt
    spans_order journal low [] (r ∷ rs) spans = absurd spans
    spans_order journal low (t ∷ ts) [] spans = absurd spans
    spans_order journal low (t ∷ ts) (r ∷ rs) spans =
        (zip_seconds (Did speech journal) (IsWithin r.span.to (length journal)) (Follows t r) ts rs (spans_did journal r.span.to ts rs spans.3) (spans_within journal r.span.to ts rs spans.3) (λ t2 r2 is same. is.after), spans_order journal r.span.to ts rs spans.3)

    -- the seat has at least the events of its spans
    spanned_le : (seat : ℕ) (journal : List (Event O Key Recon Cond)) (low : ℕ) (ts : List Task) (rs : List Record) → Spans speech journal low ts rs → length (spanned seat journal rs) ≤ length (own seat (drop low journal))
    spanned_le seat journal low [] [] spans = omega arith
    spanned_le seat journal low [] (r ∷ rs) spans = absurd spans
    spanned_le seat journal low (t ∷ ts) [] spans = absurd spans
    spanned_le seat journal low (t ∷ ts) (r ∷ rs) spans =
        omega (
          arith,
          own_parts seat low r.span.from journal spans.0,
          own_parts seat r.span.from r.span.to journal spans.1,
          spanned_le seat journal r.span.to ts rs spans.3,
          length-append (own seat (between r.span.from r.span.to journal)) (spanned seat journal rs),
        )

    -- where it has no more, each of its events lies in one of them
    spans_cover : (block seat : ℕ) (alone : Bool) (journal : List (Event O Key Recon Cond)) (low : ℕ) (cs : List Command) (rs : List Record) → Spans speech journal low (lane_tasks block seat alone cs) rs
        → length (own seat (drop low journal)) ≡ length (spanned seat journal rs) → (at : ℕ) → low ≤ at → IsBySeat seat journal at → IsOwned journal at (lane_tasks block seat alone cs) rs
    spans_cover block seat alone journal low [] [] spans whole at from by = absurd (omega (arith, whole, own_some seat (drop low journal) (at - low) (by_seat_from seat low journal at from by)))
    spans_cover block seat alone journal low [] (r ∷ rs) spans whole at from by = absurd spans
    spans_cover block seat alone journal low (c ∷ cs) [] spans whole at from by = absurd spans
    spans_cover block seat alone journal low (c ∷ cs) (r ∷ rs) spans whole at from by =
        let first = own_parts seat low r.span.from journal spans.0 in
        let second = own_parts seat r.span.from r.span.to journal spans.1 in
        let rest = spanned_le seat journal r.span.to (lane_tasks block seat alone cs) rs spans.3 in
        let parts = length-append (own seat (between r.span.from r.span.to journal)) (spanned seat journal rs) in
        let later : length (own seat (drop r.span.to journal)) ≡ length (spanned seat journal rs) = omega (arith, first, second, rest, parts, whole) in
        elim (cases_lt at r.span.from) [
          | inl early ↦ absurd (omega (arith, first, second, rest, parts, whole, own_some seat (between low r.span.from journal) (at - low) (by_seat_between seat low r.span.from journal at from early by)))
          | inr begun ↦ elim (cases_lt at r.span.to) [
            | inl within ↦ inl (record { by_seat = by; from = begun; to = within })
            | inr past ↦ inr (spans_cover block seat alone journal r.span.to cs rs spans.3 later at past by)
          ]
        ]

    -- ---- the lanes of a block

    lanes_did : (low : ℕ) (journal : List (Event O Key Recon Cond)) (block seat : ℕ) (alone : Bool) (lanes : List (List Command)) (groups : List (List Record)) → LanesRan speech low journal block seat alone lanes groups
        → AllZip (Did speech journal) (lanes_tasks block seat alone lanes) (joined groups)
    lanes_did low journal block seat alone [] [] ran = tt
    lanes_did low journal block seat alone [] (rs ∷ groups) ran = absurd ran
    lanes_did low journal block seat alone (lane ∷ lanes) [] ran = absurd ran
    lanes_did low journal block seat alone (lane ∷ lanes) (rs ∷ groups) ran =
        zip_append (Did speech journal) (lane_tasks block seat alone lane) (lanes_tasks block (seat + 1) alone lanes) rs (joined groups) (spans_did journal low (lane_tasks block seat alone lane) rs ran.0.spans) (lanes_did low journal block (seat + 1) alone lanes groups ran.1)

    lanes_within : (low : ℕ) (journal : List (Event O Key Recon Cond)) (block seat : ℕ) (alone : Bool) (lanes : List (List Command)) (groups : List (List Record)) → LanesRan speech low journal block seat alone lanes groups
        → AllByRecursion (IsWithin low (length journal)) (joined groups)
    lanes_within low journal block seat alone [] [] ran = tt
    lanes_within low journal block seat alone [] (rs ∷ groups) ran = absurd ran
    lanes_within low journal block seat alone (lane ∷ lanes) [] ran = absurd ran
    lanes_within low journal block seat alone (lane ∷ lanes) (rs ∷ groups) ran =
        each_append (IsWithin low (length journal)) rs (joined groups) (spans_within journal low (lane_tasks block seat alone lane) rs ran.0.spans) (lanes_within low journal block (seat + 1) alone lanes groups ran.1)

    lanes_order : (low : ℕ) (journal : List (Event O Key Recon Cond)) (block seat : ℕ) (alone : Bool) (lanes : List (List Command)) (groups : List (List Record)) → LanesRan speech low journal block seat alone lanes groups
        → AreInOrder (lanes_tasks block seat alone lanes) (joined groups)
    lanes_order low journal block seat alone [] [] ran = tt
    lanes_order low journal block seat alone [] (rs ∷ groups) ran = absurd ran
    lanes_order low journal block seat alone (lane ∷ lanes) [] ran = absurd ran
    lanes_order low journal block seat alone (lane ∷ lanes) (rs ∷ groups) ran =
        in_order_append (λ t r. (t.block ≡ block) × (t.seat ≡ seat)) (lane_tasks block seat alone lane) (lanes_tasks block (seat + 1) alone lanes) rs (joined groups)
        (lane_same block seat alone lane rs (Did speech journal) (spans_did journal low (lane_tasks block seat alone lane) rs ran.0.spans))
        (λ t r is. follows_none (Did speech journal) block seat t r (lanes_tasks block (seat + 1) alone lanes) (joined groups) (lanes_did low journal block (seat + 1) alone lanes groups ran.1) (lanes_other block (seat + 1) (seat + 1) alone lanes (omega arith)) is.0 is.1)
        (spans_order journal low (lane_tasks block seat alone lane) rs ran.0.spans) (lanes_order low journal block (seat + 1) alone lanes groups ran.1)

    lanes_cover : (low : ℕ) (journal : List (Event O Key Recon Cond)) (block seat : ℕ) (alone : Bool) (lanes : List (List Command)) (groups : List (List Record)) → LanesRan speech low journal block seat alone lanes groups
        → (at by : ℕ) → low ≤ at → seat ≤ by → IsBySeat by journal at → IsOwned journal at (lanes_tasks block seat alone lanes) (joined groups)
    lanes_cover low journal block seat alone [] [] ran at by from le is = absurd (omega (arith, ap length (ran by le), own_some by (drop low journal) (at - low) (by_seat_from by low journal at from is)))
    lanes_cover low journal block seat alone [] (rs ∷ groups) ran at by from le is = absurd ran
    lanes_cover low journal block seat alone (lane ∷ lanes) [] ran at by from le is = absurd ran
    lanes_cover low journal block seat alone (lane ∷ lanes) (rs ∷ groups) ran at by from le is = elim (cases_lt seat by) [
      | inl other ↦ owned_right (Did speech journal) journal at (lane_tasks block seat alone lane) (lanes_tasks block (seat + 1) alone lanes) rs (joined groups) (spans_did journal low (lane_tasks block seat alone lane) rs ran.0.spans)
          (lanes_cover low journal block (seat + 1) alone lanes groups ran.1 at by from (omega arith) is)
      | inr same ↦
          let here : by ≡ seat = omega arith in
          owned_left journal at (lane_tasks block seat alone lane) (lanes_tasks block (seat + 1) alone lanes) rs (joined groups)
          (spans_cover block seat alone journal low lane rs ran.0.spans (ap length ran.0.whole) at from (subst (λ (s : ℕ). IsBySeat s journal at) here is))
    ]

    pub lanes_block : (old new more : List (Event O Key Recon Cond)) → new ≡ old ++ more → (block : ℕ) (alone : Bool) (lanes : List (List Command)) (groups : List (List Record)) → LanesRan speech (length old) new block 0 alone lanes groups
        → BlockOf speech old new (lanes_tasks block 0 alone lanes) (joined groups)
    lanes_block old new more is block alone lanes groups ran = record {
      events = more;
      journal = is;
      each = lanes_did (length old) new block 0 alone lanes groups ran;
      in_order = lanes_order (length old) new block 0 alone lanes groups ran;
      within = lanes_within (length old) new block 0 alone lanes groups ran;
      covered = λ at from to. let e = get-some new at to in
          lanes_cover (length old) new block 0 alone lanes groups ran at (seat_of e.0) from (omega arith) (subst (λ (o : Option (Event O Key Recon Cond)). IsSomeAnd o (λ x. seat_of x ≡ seat_of e.0)) (sym e.1) refl);
    }

    -- ---- a block whose lanes can't be made

    refused_did : (journal : List (Event O Key Recon Cond)) (ts : List Task) (rs : List Record) → AreRefused (length journal) ts rs → AllZip (Did speech journal) ts rs
    refused_did journal [] [] are = tt
    refused_did journal [] (r ∷ rs) are = absurd are
    refused_did journal (t ∷ ts) [] are = absurd are
    refused_did journal (t ∷ ts) (r ∷ rs) are = (subst (Did speech journal t) (sym are.0) (refused_one journal t), refused_did journal ts rs are.1)
      where
        refused_one : (journal : List (Event O Key Recon Cond)) (t : Task) → Did speech journal t (record { span = record { from = length journal; to = length journal }; outcome = outcome.Memory })
        refused_one journal t =
            let none : length journal - length journal ≡ 0 = omega arith in
            record { does = inl (ap (λ n. own t.seat (take n (drop (length journal) journal))) none); first = λ some. absurd (omega arith); last = λ some. absurd (omega arith) }

    pub refused_block : (old : List (Event O Key Recon Cond)) (ts : List Task) (rs : List Record) → AreRefused (length old) ts rs → BlockOf speech old old ts rs
    refused_block old ts rs are = record {
      events = [];
      journal = sym (append-nil old);
      each = refused_did old ts rs are;
      in_order = within_order (Did speech old) (length old) ts rs (refused_did old ts rs are) (refused_within (length old) ts rs are);
      within = refused_within (length old) ts rs are;
      covered = λ at from to. absurd (omega (arith, from, to));
    }

    -- ---- a lane as a desk tells it

    told_spans : (journal : List (Event O Key Recon Cond)) (low : ℕ) (ts : List Task) (rs : List Record) (ess : List (List (Event O Key Recon Cond))) → SpansTold speech journal low ts rs ess → Spans speech journal low ts rs
    told_spans journal low [] [] [] told = told
    told_spans journal low [] [] (es ∷ ess) told = absurd told
    told_spans journal low [] (r ∷ rs) ess told = absurd told
    told_spans journal low (t ∷ ts) [] ess told = absurd told
    told_spans journal low (t ∷ ts) (r ∷ rs) [] told = absurd told
    told_spans journal low (t ∷ ts) (r ∷ rs) (es ∷ ess) told =
        (told.0, told.1, record { does = subst (λ (l : List (Event O Key Recon Cond)). Does speech t (past_at r.span.from journal) l r.outcome) (sym told.2.own) told.2.does; first = told.2.first; last = told.2.last }, told_spans journal r.span.to ts rs ess told.3)

    told_whole : (journal : List (Event O Key Recon Cond)) (low block seat : ℕ) (alone : Bool) (cs : List Command) (rs : List Record) (ess : List (List (Event O Key Recon Cond))) → SpansTold speech journal low (lane_tasks block seat alone cs) rs ess
        → joined ess ≡ spanned seat journal rs
    told_whole journal low block seat alone [] [] [] told = refl
    told_whole journal low block seat alone [] [] (es ∷ ess) told = absurd told
    told_whole journal low block seat alone [] (r ∷ rs) ess told = absurd told
    told_whole journal low block seat alone (c ∷ cs) [] ess told = absurd told
    told_whole journal low block seat alone (c ∷ cs) (r ∷ rs) [] told = absurd told
    told_whole journal low block seat alone (c ∷ cs) (r ∷ rs) (es ∷ ess) told =
        ap (λ l. l ++ joined ess) (sym told.2.own) ∙ ap (λ l. own seat (between r.span.from r.span.to journal) ++ l) (told_whole journal r.span.to block seat alone cs rs ess told.3)

    pub lane_ran : (low : ℕ) (journal : List (Event O Key Recon Cond)) (block seat : ℕ) (alone : Bool) (cs : List Command) (rs : List Record) (ess : List (List (Event O Key Recon Cond))) → SpansTold speech journal low (lane_tasks block seat alone cs) rs ess
        → own seat (drop low journal) ≡ joined ess → LaneRan speech low journal seat (lane_tasks block seat alone cs) rs
    lane_ran low journal block seat alone cs rs ess told whole = record { spans = told_spans journal low (lane_tasks block seat alone cs) rs ess told; whole = whole ∙ told_whole journal low block seat alone cs rs ess told }

pub runs_grow : (O Key Recon Cond : Type 0) → RunsGrow O Key Recon Cond
runs_grow O Key Recon Cond = record { begins = run_begins; goes_on = run_goes_on; alone = alone_block; lanes = lanes_block; refused = refused_block; lane = lane_ran }
