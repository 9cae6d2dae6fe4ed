-- Of two killed rows one is a target.
use Rattle.std.proofs.Common.{◌≡◌, inl, inr, ◌||◌, ℕ, Bool, true, false, cond, [], ◌∷◌, length, Option, refl, sym, ap, ◌∙◌}
use Rattle.std.proofs.lemmas.Bool.{false≢true}
use Rattle.spg_base.specs.Row.{RowAt, same_row}
use Rattle.spg_rows.specs.declared.event.Event.TheVariants.{OpenInsert, Put, Kill, OpenVacuum}
use Rattle.spg_rows.specs.declared.table.RowState.{RowState}
use Rattle.spg_rows.specs.declared.table.RowState.TheVariants.{Free, Claimed, Live, Killed}
use Rattle.spg_rows.specs.History.{History, vacuuming, open_of}
use Rattle.spg_rows.specs.Targets.{is_killed, killed_before, killed_from}
use Rattle.spg_rows.specs.Examples.{KilledAround}
use Rattle.spg_rows.specs.Rows.{is_live}
use Rattle.spg_rows.proofs.RowOrder.{row_tells, same_row-refl}
use Rattle.spg_rows.proofs.Opened.{opened_cases}
use Rattle.spg_rows.proofs.Vacuums.{was_open}

-- the state of a row, where a tells whether it is the early one, and b whether it is the late one
abbrev last_state : Bool → Bool → RowState
last_state a b = cond b (Killed 6) (cond a (Killed 4) (cond b Live (cond b Claimed (cond a Live (cond a Claimed Free)))))

in_one : (a b : Bool) → (a || b) ≡ is_killed (last_state a b)
in_one true true = refl
in_one true false = refl
in_one false true = refl
in_one false false = refl

is_first : (a b : Bool) → (a ≡ true → b ≡ true → ⊥) → a ≡ killed_before 5 (last_state a b)
is_first true true h = absurd (h refl refl)
is_first true false h = refl
is_first false true h = refl
is_first false false h = refl

is_second : (a b : Bool) → b ≡ killed_from 5 (last_state a b)
is_second true true = refl
is_second true false = refl
is_second false true = refl
is_second false false = refl

apart : (early late : RowAt) → same_row early late ≡ false → (r : RowAt) → same_row early r ≡ true → same_row late r ≡ true → ⊥
apart early late o r a b = elim (row_tells late r) [
  | inl same ↦ false≢true (sym o ∙ ap (same_row early) same.1 ∙ a)
  | inr other ↦ false≢true (sym other ∙ b)
]

module _ {O Key Recon Cond : Type 0} (early late : RowAt) (key : Option Key) where
  abbrev h1 : History O Key Recon Cond
  h1 = OpenInsert 0 early key ∷ []

  abbrev h2 : History O Key Recon Cond
  h2 = Put 0 early ∷ h1

  abbrev h3 : History O Key Recon Cond
  h3 = OpenInsert 0 late key ∷ h2

  abbrev h4 : History O Key Recon Cond
  h4 = Put 0 late ∷ h3

  abbrev before : History O Key Recon Cond
  before = Kill 0 early ∷ h4

  none_else : (seat : ℕ) (then : History O Key Recon Cond) → open_of seat before ≡ vacuuming then → ⊥
  none_else seat then h =
      let a = was_open (Kill 0 early) h4 then seat (λ e. e) h in
      let b = was_open (Put 0 late) h3 then seat (λ e. absurd (cc e)) a in
      let c = was_open (OpenInsert 0 late key) h2 then seat (λ e. absurd (cc e)) b in
      let d = was_open (Put 0 early) h1 then seat (λ e. absurd (cc e)) c in
      cc (was_open (OpenInsert 0 early key) [] then seat (λ e. absurd (cc e)) d)

  opened_after : (seat : ℕ) (then : History O Key Recon Cond) → open_of seat (Kill 0 late ∷ OpenVacuum 1 ∷ before) ≡ vacuuming then → length then ≡ 5
  opened_after seat then h =
      let a = was_open (Kill 0 late) (OpenVacuum 1 ∷ before) then seat (λ e. e) h in
      elim (opened_cases (OpenVacuum 1) before seat) [
        | inl same ↦ let e : vacuuming before ≡ vacuuming then = sym same.1 ∙ a in let f : before ≡ then = cc e in sym (ap (λ (l : History O Key Recon Cond). length l) f)
        | inr other ↦ absurd (none_else seat then (sym other.1 ∙ a))
      ]

  pub killed_around : KilledAround O Key Recon Cond early late key
  killed_around o = (
    ((refl, rw (o, same_row-refl late) refl), ((refl, none_else), ((refl, is_live_then), ((key, refl), ((refl, rw o refl), ((key, refl), ((refl, refl), tt))))))),
    record {
      killed = λ r. in_one (same_row early r) (same_row late r);
      early = λ seat then h r. is_first (same_row early r) (same_row late r) (apart early late o r) ∙ ap (λ n. killed_before n (last_state (same_row early r) (same_row late r))) (sym (opened_after seat then h));
      late = λ seat then h r. is_second (same_row early r) (same_row late r) ∙ ap (λ n. killed_from n (last_state (same_row early r) (same_row late r))) (sym (opened_after seat then h));
    },
    sym (is_first (same_row early early) (same_row late early) (apart early late o early)) ∙ same_row-refl early,
    sym (is_first (same_row early late) (same_row late late) (apart early late o late)) ∙ o,
    refl,
  )
    where
      not_late : same_row late early ≡ false
      not_late = elim (row_tells late early) [
        | inl same ↦ absurd (false≢true (sym o ∙ ap (same_row early) same.1 ∙ same_row-refl early))
        | inr other ↦ other
      ]

      is_live_then : is_live early h4 ≡ true
      is_live_then = rw (not_late, same_row-refl early) refl
