-- Where one seat does all, the spans meet.
use Rattle.std.proofs.Common.{◌≡◌, inl, inr, ◌<◌, ◌≤◌, ◌*◌, ℕ, List, [], ◌∷◌, length, sym, ◌∙◌, arith}
use Rattle.std.specs.List.{AllByRecursion, AllZip}
use Rattle.std.proofs.lemmas.Bool.{cases_lt}
use Rattle.spg_rows.specs.declared.event.Event.{Event}
use Rattle.spg_script.specs.Speech.{Speech}
use Rattle.spg_report.specs.declared.record.Record.{Record}
use Rattle.spg_histories.specs.Tasks.{Task}
use Rattle.spg_histories.specs.Run.{Did, Follows, AreInOrder, IsWithin, IsOwned, load_events}
use Rattle.spg_histories.specs.Alone.{Meet, OneSeatMeets}
use Rattle.spg_histories.proofs.Owners.{load_long}
use Rattle.std.proofs.Common.{length-append, ap}

-- the records begin at or past this
abbrev Past : ℕ → List Record → Type 0
Past low records = AllByRecursion (λ (r : Record). low ≤ r.span.from) records

past_later : (low low2 : ℕ) (records : List Record) → low2 ≤ low → Past low records → Past low2 records
past_later low low2 [] le past = tt
past_later low low2 (r ∷ records) le past = (omega (arith, past.0, le), past_later low low2 records le past.1)

follow_past : (t : Task) (r : Record) (ts : List Task) (rs : List Record) → AllByRecursion (λ t2. t2.seat ≡ 0) ts → t.seat ≡ 0 → AllZip (Follows t r) ts rs → Past r.span.to rs
follow_past t r [] [] zero mine all = tt
follow_past t r [] (s ∷ rs) zero mine all = absurd all
follow_past t r (x ∷ ts) [] zero mine all = absurd all
follow_past t r (x ∷ ts) (s ∷ rs) zero mine all = (all.0 (λ same. mine ∙ sym zero.0), follow_past t r ts rs zero.1 mine all.1)

module _ {O Key Recon Cond : Type 0} where
  -- nobody owns what lies before all
  nobody : (journal : List (Event O Key Recon Cond)) (at low : ℕ) (ts : List Task) (rs : List Record) → at < low → Past low rs → IsOwned journal at ts rs → ⊥
  nobody journal at low [] rs below past owned = owned
  nobody journal at low (t ∷ ts) [] below past owned = owned
  nobody journal at low (t ∷ ts) (r ∷ rs) below past (inl owns) = absurd (omega (arith, owns.from, past.0, below))
  nobody journal at low (t ∷ ts) (r ∷ rs) below past (inr later) = nobody journal at low ts rs below past.1 later

  -- what an earlier command does not own, a later one does
  owned_later : (journal : List (Event O Key Recon Cond)) (at : ℕ) (t : Task) (r : Record) (ts : List Task) (rs : List Record) → r.span.to ≤ at → IsOwned journal at (t ∷ ts) (r ∷ rs) → IsOwned journal at ts rs
  owned_later journal at t r ts rs past (inl owns) = absurd (omega (arith, owns.to, past))
  owned_later journal at t r ts rs past (inr later) = later

  module _ (speech : Speech Key Cond) (journal : List (Event O Key Recon Cond)) where
    meet : (bound low : ℕ) (ts : List Task) (rs : List Record) → low ≤ length journal → AllByRecursion (λ t. t.seat ≡ 0) ts → AllZip (Did speech journal) ts rs → AreInOrder ts rs → AllByRecursion (IsWithin bound (length journal)) rs → Past low rs
        → ((at : ℕ) → low ≤ at → at < length journal → IsOwned journal at ts rs) → Meet low rs (length journal)
    meet bound low [] [] le zero each order within past covered = elim (cases_lt low (length journal)) [
      | inl below ↦ absurd (covered low (omega arith) below)
      | inr end ↦ omega arith
    ]
    meet bound low [] (r ∷ rs) le zero each order within past covered = absurd each
    meet bound low (t ∷ ts) [] le zero each order within past covered = absurd each
    meet bound low (t ∷ ts) (r ∷ rs) le zero each order within past covered =
        let later : Past r.span.to rs = follow_past t r ts rs zero.1 zero.0 order.0 in (
          elim (cases_lt low r.span.from) [
            | inl gap ↦ absurd (nobody journal low r.span.from (t ∷ ts) (r ∷ rs) gap (omega arith, past_later r.span.to r.span.from rs within.0.order later) (covered low (omega arith) (omega (arith, gap, within.0.order, within.0.before))))
            | inr none ↦ omega (arith, past.0, none)
          ],
          meet bound r.span.to ts rs within.0.before zero.1 each.1 order.1 within.1 later (λ at from to. owned_later journal at t r ts rs from (covered at (omega (arith, from, past.0, within.0.order)) to)),
        )

within_past : (low high : ℕ) (rs : List Record) → AllByRecursion (IsWithin low high) rs → Past low rs
within_past low high [] within = tt
within_past low high (r ∷ rs) within = (within.0.after, within_past low high rs within.1)

pub one_seat_meets : (O Key Recon Cond : Type 0) → OneSeatMeets O Key Recon Cond
one_seat_meets O Key Recon Cond speech loaded tasks journal records zero run =
    let long : 2 * length loaded ≤ length journal = omega (arith, ap length run.begins.1, length-append (load_events loaded) run.begins.0, load_long O Key Recon Cond loaded) in
    meet speech journal (2 * length loaded) (2 * length loaded) tasks records long zero run.each run.in_order run.within (within_past (2 * length loaded) (length journal) records run.within) run.covered
