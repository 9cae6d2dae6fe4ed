-- Sections one after another.
use Rattle.std.proofs.Common.{◌≡◌, ◌<◌, ◌≤◌, ◌+◌, ◌⊎◌, inl, inr, ℕ, suc, cond, List, [], ◌∷◌, ◌++◌, length, map, drop, Some, None, refl, sym, ap, ◌∙◌, subst, arith}
use Rattle.std.proofs.lemmas.Bool.{eq-eqb}
use Rattle.std.proofs.lemmas.List.{append_assoc, append-nil}
use Rattle.spg_base.specs.Row.{RowAt}
use Rattle.spg_base.specs.declared.names.Span.{Span}
use Rattle.spg_opclass.specs.Meaning.{Meaning}
use Rattle.spg_rows.specs.declared.event.Event.{Event}
use Rattle.spg_rows.specs.declared.event.Event.TheVariants.{OpenVacuum, Sweep}
use Rattle.spg_rows.specs.History.{own}
use Rattle.spg_turn.specs.declared.rule.View.{View}
use Rattle.spg_calls.specs.Calls.{Watched, Called, joined, between}
use Rattle.spg_calls.specs.Swept.{swept_after}
use Rattle.spg_calls.proofs.Calls.{lt_tells, call_quiet, own_drop, grew_on}
use Rattle.spg_calls.proofs.Doing.{swept_parts}
use Rattle.spg_desk.specs.Told.{Told}
use Rattle.spg_desk.specs.Acting.{IsOn}
use Rattle.spg_desk.proofs.Views.{told_add, told_watched}

pub some_same : {X : Type 0} (x y : X) → Some x ≡ Some y → x ≡ y
some_same x y is = (cc)

pub never_some : {X : Type 0} (x : X) → Some x ≡ None → ⊥
never_some x is = absurd (cc)

pub never_none : {X : Type 0} (x : X) → None ≡ Some x → ⊥
never_none x is = absurd (cc)

module _ {O Key Recon Cond : Type 0} where
  -- a call without an event was only a look
  pub called_watched : (seat : ℕ) (seen later : List (Event O Key Recon Cond)) (span : Span) → Called seat seen later span [] → Watched seat seen later
  called_watched seat seen later span c = record {
    grew = c.grew;
    none = own_drop seat (length seen) span.from later c.low ∙ ap (λ l. l ++ own seat (drop span.from later)) c.none_before
        ∙ own_drop seat span.from span.to later c.order ∙ ap (λ l. l ++ own seat (drop span.to later)) c.within ∙ c.none_after;
  }

  pub told_on : (m : Meaning Key Recon Cond) (v w : View (Event O Key Recon Cond)) (span : Span) → Told m v w span [] → IsOn v w
  told_on m v w span told = (told.same ∙ ap (λ l. record v { seen = w.seen; mine = l }) (append-nil v.mine), called_watched v.number v.seen w.seen span told.called)

  pub on_first : (v : View (Event O Key Recon Cond)) → IsOn v v
  on_first v = (refl, record { grew = ([], sym (append-nil v.seen)); none = ap (own v.number) (drop_whole v.seen) })
    where
      drop_whole : (xs : List (Event O Key Recon Cond)) → drop (length xs) xs ≡ []
      drop_whole [] = refl
      drop_whole (x ∷ xs) = drop_whole xs

  -- sections follow looks
  pub on_told : (m : Meaning Key Recon Cond) (v w x : View (Event O Key Recon Cond)) (span : Span) (events : List (Event O Key Recon Cond)) → IsOn v w → Told m w x span events → Told m v x span events
  on_told m v w x span events on told = told_watched m v w x span events on.0 on.1 told

  -- the end of a call is that of its last section with an event
  pub joined_to : (seat : ℕ) (seen later : List (Event O Key Recon Cond)) (s1 s2 : Span) (e : Event O Key Recon Cond) (events : List (Event O Key Recon Cond)) → Called seat seen later s2 (e ∷ events) → (joined s1 s2).to ≡ s2.to
  joined_to seat seen later s1 s2 e events c = elim (lt_tells s2.from s2.to) [
    | inl some2 ↦ elim (lt_tells s1.from s1.to) [
      | inl some1 ↦ rw (some2.0, some1.0) refl
      | inr none1 ↦ rw (some2.0, none1.0) refl
    ]
    | inr none2 ↦ absurd (no (call_quiet seat seen later s2 (e ∷ events) none2.1 c).0)
  ]
    where
      no : e ∷ events ≡ [] → ⊥
      no is = cc

  -- ---- vacuums

  -- the sweeps of these rows
  abbrev pub swept_rows : ℕ → List RowAt → List (Event O Key Recon Cond)
  swept_rows n rows = map (λ (r : RowAt). Sweep n r) rows

  from_none : (n k : ℕ) (rs : List RowAt) (es : List (Event O Key Recon Cond)) → es ≡ swept_rows n rs → swept_after n k es ≡ k + length rs
  from_none n k [] es is = let zeroth : k ≡ k + 0 = omega arith in ap (swept_after n k) is ∙ zeroth
  from_none n k (r ∷ rs) es is =
      let same : (k + 1) + length rs ≡ k + suc (length rs) = omega arith in
      ap (swept_after n k) is ∙ (ap (λ b. swept_after n (cond b (k + 1) k) (swept_rows n rs)) (eq-eqb n n refl) ∙ (from_none n (k + 1) rs (swept_rows n rs) refl ∙ same))

  from_open : (n k : ℕ) (es : List (Event O Key Recon Cond)) → swept_after n k (OpenVacuum n ∷ es) ≡ swept_after n 0 es
  from_open n k es = ap (λ b. swept_after n (cond b 0 k) es) (eq-eqb n n refl)

  pub own_sweeps : (n was : ℕ) (mine : List (Event O Key Recon Cond)) (rows : List RowAt) → swept_after n was (mine ++ OpenVacuum n ∷ swept_rows n rows) ≡ length rows
  own_sweeps n was mine rows =
      let zeroth : 0 + length rows ≡ length rows = omega arith in
      swept_parts n was mine (OpenVacuum n ∷ swept_rows n rows) ∙ (from_open n (swept_after n was mine) (swept_rows n rows) ∙ (from_none n 0 rows (swept_rows n rows) refl ∙ zeroth))

  pub sweeps_on : (n : ℕ) (rows more : List RowAt) → swept_rows n (rows ++ more) ≡ swept_rows n rows ++ swept_rows n more
  sweeps_on n [] more = refl
  sweeps_on n (r ∷ rows) more = ap (λ l. Sweep n r ∷ l) (sweeps_on n rows more)
