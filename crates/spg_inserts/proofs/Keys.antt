-- The key of a row is that of its last opening.
use Rattle.std.proofs.Common.{◌≡◌, ◌<◌, ◌≤◌, ◌+◌, ℕ, zero, suc, Bool, true, false, cond, List, [], ◌∷◌, length, take, reverse, get_or, Option, Some, None, inl, inr, refl, sym, ap, ◌∙◌, subst, arith}
use Rattle.std.specs.Prelude.{slice_get, option_and_then}
use Rattle.std.proofs.lemmas.Bool.{cases_lt}
use Rattle.std.proofs.lemmas.List.{reverse-append, take_more, take_all}
use Rattle.std.proofs.lemmas.Option.{slice_get_within, get_or_from_slice_get}
use Rattle.spg_base.specs.Row.{RowAt, same_row}
use Rattle.spg_rows.specs.declared.event.Event.{Event}
use Rattle.spg_rows.specs.declared.event.Event.TheVariants.{OpenInsert, Put, Drop, Kill, OpenScan, CloseScan, OpenVacuum, Sweep, CloseVacuum, Leave}
use Rattle.spg_rows.specs.History.{History}
use Rattle.spg_rows.specs.Lives.{Life, begun, dropped, put_at, killed_at, swept_by, sweeper, last_on, lives}
use Rattle.spg_rows.specs.Rows.{key_in, key_of}
use Rattle.spg_calls.specs.Calls.{past_at}
use Rattle.spg_inserts.specs.Openings.{opened_key, opened_at, IsUnopened}

abbrev or_before : {X : Type 0} → Option X → Option X → Option X
or_before None before = before
or_before (Some x) before = Some x

-- what is done to the last life leaves its key
key_stays : {Key : Type 0} (b : Bool) (f : Life Key → Life Key) → ((life : Life Key) → (f life).key ≡ life.key) → (before : List (Life Key)) → key_in (cond b (last_on f before) before) ≡ key_in before
key_stays true f keeps [] = refl
key_stays {Key} true f keeps (life ∷ older) = ap (λ (k : Option Key). Some k) (keeps life)
key_stays false f keeps before = refl

key_begins : {Key : Type 0} (b : Bool) (key : Option Key) (before : List (Life Key)) → key_in (cond b (begun key ∷ before) before) ≡ or_before (cond b (Some key) None) (key_in before)
key_begins true key before = refl
key_begins false key before = refl

-- nothing stands past the end
get_past : {X : Type 0} (xs : List X) (n : ℕ) → slice_get xs n ≡ None → length xs ≤ n
get_past [] n none = omega arith
get_past (x ∷ xs) zero none = (cc)
get_past (x ∷ xs) (suc n) none = let le = get_past xs n none in omega (arith, le)

module _ {O Key Recon Cond : Type 0} (r : RowAt) where
  -- one event more
  key_next : (e : Event O Key Recon Cond) (past : History O Key Recon Cond) → key_of r (e ∷ past) ≡ or_before (opened_key r e) (key_of r past)
  key_next (OpenInsert seat row key) past = key_begins (same_row row r) key (lives r past)
  key_next (Put seat row) past = key_stays (same_row row r) (put_at (length past)) (λ life. refl) (lives r past)
  key_next (Drop seat row why) past = key_stays (same_row row r) dropped (λ life. refl) (lives r past)
  key_next (Kill seat row) past = key_stays (same_row row r) (killed_at (length past)) (λ life. refl) (lives r past)
  key_next (OpenScan seat query) past = refl
  key_next (CloseScan seat rows) past = refl
  key_next (OpenVacuum seat) past = refl
  key_next (Sweep seat row) past = key_stays (same_row row r) (swept_by (sweeper seat past)) (λ life. refl) (lives r past)
  key_next (CloseVacuum seat swept) past = refl
  key_next (Leave seat) past = refl

  module _ (journal : List (Event O Key Recon Cond)) where
    past_next : (n : ℕ) (e : Event O Key Recon Cond) → slice_get journal n ≡ Some e → past_at (n + 1) journal ≡ e ∷ past_at n journal
    past_next n e there =
        ap reverse (take_more journal n e (slice_get_within journal n e there)) ∙ reverse-append (take n journal) (get_or journal n e ∷ [])
        ∙ ap (λ (x : Event O Key Recon Cond). x ∷ past_at n journal) (get_or_from_slice_get journal n e e there)

    past_same : (n : ℕ) → length journal ≤ n → past_at (n + 1) journal ≡ past_at n journal
    past_same n past = ap reverse (take_all (n + 1) journal (omega (arith, past)) ∙ sym (take_all n journal past))

    key_by : (n : ℕ) (o : Option (Event O Key Recon Cond)) → slice_get journal n ≡ o → key_of r (past_at (n + 1) journal) ≡ or_before (option_and_then (opened_key r) o) (key_of r (past_at n journal))
    key_by n None there = ap (λ (h : History O Key Recon Cond). key_of r h) (past_same n (get_past journal n there))
    key_by n (Some e) there = ap (λ (h : History O Key Recon Cond). key_of r h) (past_next n e there) ∙ key_next e (past_at n journal)

    -- one position more
    key_later : (n : ℕ) (found : Option (Option Key)) → opened_at journal r n ≡ found → key_of r (past_at (suc n) journal) ≡ or_before found (key_of r (past_at n journal))
    key_later n found is =
        let more : suc n ≡ n + 1 = omega arith in
        ap (λ (k : ℕ). key_of r (past_at k journal)) more ∙ key_by n (slice_get journal n) refl ∙ ap (λ (o : Option (Option Key)). or_before o (key_of r (past_at n journal))) is

    pub key_none : (to : ℕ) → IsUnopened journal r to → key_of r (past_at to journal) ≡ None
    key_none zero none = refl
    key_none (suc n) none = key_later n None (none n (omega arith)) ∙ key_none n (λ at low. none at (omega (arith, low)))

    pub key_last : (to at : ℕ) (key : Option Key) → at < to → opened_at journal r at ≡ Some key → ((later : ℕ) → at < later → later < to → opened_at journal r later ≡ None) → key_of r (past_at to journal) ≡ Some key
    key_last zero at key low opens last = absurd (omega arith)
    key_last (suc n) at key low opens last = elim (cases_lt at n) [
      | inl below ↦ key_later n None (last n below (omega arith)) ∙ key_last n at key below opens (λ later a b. last later a (omega (arith, b)))
      | inr above ↦
          let same : at ≡ n = omega arith in
          key_later n (Some key) (subst (λ (k : ℕ). opened_at journal r k ≡ Some key) same opens)
    ]
