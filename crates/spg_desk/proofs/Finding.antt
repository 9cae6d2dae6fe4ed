-- The sections of a scan.
use Rattle.std.proofs.Common.{◌≡◌, ◌⊎◌, inl, inr, ℕ, List, [], ◌∷◌, ◌++◌, Option, Some, None, Result, Ok, Err, refl, sym, ap, ◌∙◌, subst}
use Rattle.std.proofs.lemmas.Bool.{eq-eqb}
use Rattle.spg_base.specs.Row.{RowAt}
use Rattle.spg_base.specs.declared.names.Span.{Span}
use Rattle.spg_base.specs.declared.memory.Memory.{Memory}
use Rattle.spg_opclass.specs.Meaning.{Meaning}
use Rattle.spg_opclass.specs.declared.query.Query.{Query}
use Rattle.spg_rows.specs.declared.event.Event.{Event}
use Rattle.spg_rows.specs.declared.event.Event.TheVariants.{OpenScan, Leave}
use Rattle.spg_turn.specs.declared.rule.View.{View}
use Rattle.spg_calls.specs.Calls.{joined}
use Rattle.spg_calls.specs.Doing.{Doing, idle, puts, scans, sweeps, doing_after}
use Rattle.spg_desk.specs.Knowing.{doing_at}
use Rattle.spg_desk.specs.Told.{Told}
use Rattle.spg_desk.specs.Acting.{IsScan, IsOn, readings, closings, closed_by, no_memory, left_by}
use Rattle.spg_desk.specs.Answers.{DidFind, ended_find}
use Rattle.spg_desk.specs.declared.ended.Read.{Read}
use Rattle.spg_desk.specs.declared.ended.Read.TheVariants as read
use Rattle.spg_desk.proofs.Views.{told_add, told_doing}
use Rattle.spg_desk.proofs.Composing.{some_same, never_some, never_none, on_told}
use Rattle.spg_desk.proofs.Inserting.{on_doing, still_on}

module _ {O Key Recon Cond : Type 0} where
  pub scan_left : (n : ℕ) (d : Doing O Key Recon Cond) → IsScan d → left_by n d ≡ Leave n
  scan_left n idle is = absurd is
  scan_left n (puts row key) is = absurd is
  scan_left n (scans query) is = refl
  scan_left n sweeps is = absurd is

  pub scan_not_idle : (d : Doing O Key Recon Cond) → IsScan d → d ≡ idle → ⊥
  scan_not_idle idle is same = is
  scan_not_idle (puts row key) is same = is
  scan_not_idle (scans query) is same = absurd (cc)
  scan_not_idle sweeps is same = is

  pub on_scan : (v w : View (Event O Key Recon Cond)) → IsOn v w → IsScan (doing_at v) → IsScan (doing_at w)
  on_scan v w on is = subst IsScan (sym (on_doing v w on)) is

module _ {O Key Recon Cond : Type 0} (m : Meaning Key Recon Cond) where
  pub on_reads : (v w x : View (Event O Key Recon Cond)) (span : Span) (r : Read O Key Recon Cond) → IsOn v w → Told m w x span (readings w.number r) → Told m v x span (readings v.number r)
  on_reads v w x span r on told = on_told m v w x span (readings v.number r) on (subst (λ (n : ℕ). Told m w x span (readings n r)) (ap (λ (z : View (Event O Key Recon Cond)). z.number) on.0) told)

  pub reads_closed : (u v w : View (Event O Key Recon Cond)) (span : Span) (r : Read O Key Recon Cond) (closed : Result (List RowAt) Memory) → IsOn u v → Told m v w span (readings v.number r) → closed_by r ≡ Some closed → Told m u w span (closings u.number closed)
  reads_closed u v w span read.On closed on told is = absurd (never_none closed is)
  reads_closed u v w span (read.Sift item copied) closed on told is = absurd (never_none closed is)
  reads_closed u v w span (read.Closed rows) closed on told is = subst (λ (x : Result (List RowAt) Memory). Told m u w span (closings u.number x)) (some_same (Ok rows) closed is) (on_reads u v w span (read.Closed rows) on told)
  reads_closed u v w span read.Refused closed on told is = subst (λ (x : Result (List RowAt) Memory). Told m u w span (closings u.number x)) (some_same (Err no_memory) closed is) (on_reads u v w span read.Refused on told)

  pub reads_on : (u v w : View (Event O Key Recon Cond)) (span : Span) (r : Read O Key Recon Cond) → IsOn u v → Told m v w span (readings v.number r) → closed_by r ≡ None → IsOn u w
  reads_on u v w span read.On on told is = still_on m u v w span on told
  reads_on u v w span (read.Sift item copied) on told is = still_on m u v w span on told
  reads_on u v w span (read.Closed rows) on told is = let x : Result (List RowAt) Memory = Ok rows in absurd (never_some x is)
  reads_on u v w span read.Refused on told is = let x : Result (List RowAt) Memory = Err no_memory in absurd (never_some x is)

  pub scan_doing : (v w : View (Event O Key Recon Cond)) (span : Span) (query : Query O Key Recon Cond) → Told m v w span (OpenScan v.number query ∷ []) → IsScan (doing_at w)
  scan_doing v w span query told =
      let does : doing_at w ≡ scans query = told_doing m v w span (OpenScan v.number query ∷ []) told ∙ (rw (eq-eqb v.number v.number refl) refl) in
      subst IsScan (sym does) tt

  pub found : (v w x : View (Event O Key Recon Cond)) (first last : Span) (query : Query O Key Recon Cond) (r : Result (List RowAt) Memory) → Told m v w first (OpenScan v.number query ∷ []) → Told m w x last (closings w.number r) → DidFind m v x query (ended_find r (joined first last))
  found v w x first last query (Ok rows) opened closed = told_add m v w x first last (OpenScan v.number query ∷ []) (closings v.number (Ok rows)) opened (subst (λ (n : ℕ). Told m w x last (closings n (Ok rows))) (ap (λ (z : View (Event O Key Recon Cond)). z.number) opened.same) closed)
  found v w x first last query (Err e) opened closed = inr (told_add m v w x first last (OpenScan v.number query ∷ []) (closings v.number (Err e)) opened (subst (λ (n : ℕ). Told m w x last (closings n (Err e))) (ap (λ (z : View (Event O Key Recon Cond)). z.number) opened.same) closed))

  pub find_idle : (w x : View (Event O Key Recon Cond)) (last : Span) (r : Result (List RowAt) Memory) → Told m w x last (closings w.number r) → doing_at x ≡ idle
  find_idle w x last r closed = told_doing m w x last (closings w.number r) closed ∙ ends w.number (doing_at w) r
    where
      ends : (n : ℕ) (d : Doing O Key Recon Cond) (y : Result (List RowAt) Memory) → doing_after n d (closings n y) ≡ idle
      ends n d (Ok rows) = rw (eq-eqb n n refl) refl
      ends n d (Err e) = rw (eq-eqb n n refl) refl

  pub none_idle : (v w : View (Event O Key Recon Cond)) (span : Span) → doing_at v ≡ idle → Told m v w span [] → doing_at w ≡ idle
  none_idle v w span done told = told_doing m v w span [] told ∙ done
