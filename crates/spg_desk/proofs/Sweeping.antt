-- The sections of a vacuum.
use Rattle.std.proofs.Common.{◌≡◌, ◌⊎◌, inl, inr, ◌+◌, ℕ, cond, List, [], ◌∷◌, ◌++◌, length, map, take, drop, reverse, Option, Some, None, Result, Ok, Err, IsErrOf, ◌↔◌, refl, sym, ap, ◌∙◌, subst, arith, take-append-drop}
use Rattle.std.proofs.lemmas.Bool.{eq-eqb}
use Rattle.std.proofs.lemmas.List.{append_assoc, reverse-append}
use Rattle.spg_base.specs.Row.{RowAt}
use Rattle.spg_base.specs.declared.names.Span.{Span}
use Rattle.spg_base.specs.declared.memory.Memory.{Memory}
use Rattle.spg_opclass.specs.Meaning.{Meaning}
use Rattle.spg_rows.specs.declared.event.Event.{Event}
use Rattle.spg_rows.specs.declared.event.Event.TheVariants.{OpenVacuum, Sweep, CloseVacuum, Leave}
use Rattle.spg_rows.specs.History.{History, Opened, nothing, inserting, scanning, vacuuming, open_of}
use Rattle.spg_rows.specs.Legal.{IsLegal}
use Rattle.spg_rows.specs.Right.{Right, AnswersRight}
use Rattle.spg_rows.specs.Rows.{sweep_count}
use Rattle.spg_turn.specs.declared.rule.View.{View}
use Rattle.spg_core.specs.Seen.{Seen, stage_at, past_of}
use Rattle.spg_core.specs.Stage.{Stage, free, descending, reading, sweeping, IsStageOf, IsSweeping}
use Rattle.spg_core.specs.Calls.{IsWhole}
use Rattle.spg_core.proofs.Slots.{fits_stage}
use Rattle.spg_core.specs.declared.answer.VacuumRefused.{VacuumRefused}
use Rattle.spg_core.specs.declared.answer.VacuumRefused.TheVariants as vacuum_refused
use Rattle.spg_calls.specs.Calls.{past_at, Watched, joined}
use Rattle.spg_calls.specs.Doing.{Doing, idle, sweeps, doing_of, doing_after}
use Rattle.spg_calls.specs.Swept.{swept_after}
use Rattle.spg_calls.proofs.Doing.{sweeps_tell, swept_parts, swept_alone, doing_parts}
use Rattle.spg_desk.specs.Knowing.{doing_at, own_since, IsLent}
use Rattle.spg_desk.specs.Told.{Told}
use Rattle.spg_desk.specs.Acting.{Adds, sweepings, vacuum_events, HasVacuum, IsCounted, TellsSweep, OpensSweep, EndsSweep, sweep_end, no_memory}
use Rattle.spg_desk.specs.Answers.{NoneSweeps, DidVacuum, ended_vacuum, refused_vacuum, swept_then}
use Rattle.spg_desk.specs.declared.ended.Swept.{Swept}
use Rattle.spg_desk.specs.declared.ended.Swept.TheVariants as swept
use Rattle.spg_desk.proofs.Views.{lent_doing, told_add, told_doing}
use Rattle.spg_desk.proofs.Sections.{section_did}
use Rattle.spg_desk.proofs.Composing.{some_same, never_some, never_none, own_sweeps, sweeps_on, swept_rows}

module _ {O Key Recon Cond : Type 0} where
  sweeps_open : (has : Opened O Key Recon Cond) → doing_of has ≡ sweeps → (before : History O Key Recon Cond) × (has ≡ vacuuming before)
  sweeps_open nothing does = absurd (cc)
  sweeps_open (inserting row key) does = absurd (cc)
  sweeps_open (scanning before query) does = absurd (cc)
  sweeps_open (vacuuming before) does = (before, refl)

  pub of_stage : (has : Opened O Key Recon Cond) (stage : Stage O Key Recon Cond) → IsStageOf has stage → IsSweeping stage → (before : History O Key Recon Cond) × (has ≡ vacuuming before)
  of_stage has free of is = absurd is
  of_stage has (descending k d) of is = absurd is
  of_stage has (reading s) of is = absurd is
  of_stage has (sweeping v) of is = of

  does_sweep : (before : History O Key Recon Cond) (stage : Stage O Key Recon Cond) → IsStageOf (vacuuming before) stage → IsSweeping stage
  does_sweep before free of = absurd (cc of)
  does_sweep before (descending k d) of = absurd (cc of)
  does_sweep before (reading s) of = let clash = of.1 in absurd (cc clash)
  does_sweep before (sweeping v) of = tt

  -- by the journal that its turn was lent, the seat has swept what its pass added
  swept_since : (h : View (Event O Key Recon Cond)) → IsLent h → swept_after h.number 0 h.seen ≡ swept_after h.number (swept_after h.number 0 (take h.base h.seen)) h.mine
  swept_since h lent =
      ap (swept_after h.number 0) (sym (take-append-drop h.base h.seen)) ∙ (swept_parts h.number 0 (take h.base h.seen) (drop h.base h.seen)
      ∙ (swept_alone h.number (swept_after h.number 0 (take h.base h.seen)) (drop h.base h.seen) ∙ ap (swept_after h.number (swept_after h.number 0 (take h.base h.seen))) lent.whole))

  still_sweeps : (n : ℕ) (rows : List RowAt) (es : List (Event O Key Recon Cond)) → es ≡ swept_rows n rows → doing_after n sweeps es ≡ sweeps
  still_sweeps n [] es is = ap (doing_after n sweeps) is
  still_sweeps n (r ∷ rows) es is = ap (doing_after n sweeps) is ∙ (ap (λ b. doing_after n (cond b sweeps sweeps) (swept_rows n rows)) (eq-eqb n n refl) ∙ still_sweeps n rows (swept_rows n rows) refl)

module _ {O Key Recon Cond : Type 0} (m : Meaning Key Recon Cond) where
  -- what a seat has open is what the journal says
  whole_stage : (seen : Seen O Key Recon Cond) → IsWhole m seen → (by : ℕ) → IsStageOf (open_of by (past_of seen)) (stage_at seen by)
  whole_stage seen (s, same, kept, bounded) by =
      subst (λ (x : Seen O Key Recon Cond). IsStageOf (open_of by (past_of x)) (stage_at x by)) same (fits_stage m s.table (reverse s.journal) by _ (kept.stages by))

  pub none_sweeps : (seen : Seen O Key Recon Cond) → IsWhole m seen → ((by : ℕ) → IsSweeping (stage_at seen by) → ⊥) → NoneSweeps (past_of seen)
  none_sweeps seen whole none by before is = none by (does_sweep before (stage_at seen by) (subst (λ (has : Opened O Key Recon Cond). IsStageOf has (stage_at seen by)) is (whole_stage seen whole by)))

  -- the number in the close of a vacuum
  close_counted : (h : View (Event O Key Recon Cond)) (journal : List (Event O Key Recon Cond)) (count : ℕ) → IsLent h → doing_at h ≡ sweeps → journal ≡ h.seen ++ CloseVacuum h.number count ∷ [] → Right m journal → (was : ℕ) × (count ≡ swept_after h.number was h.mine)
  close_counted h journal count lent does is right =
      let past = reverse h.seen in
      let back : reverse journal ≡ CloseVacuum h.number count ∷ past = ap reverse is ∙ reverse-append h.seen (CloseVacuum h.number count ∷ []) in
      let legal : IsLegal (CloseVacuum h.number count ∷ past) = subst IsLegal back right.legal in
      let answers : AnswersRight m (CloseVacuum h.number count ∷ past) = subst (AnswersRight m) back right.answers in
      let open_is = sweeps_open (open_of h.number past) (lent_doing h lent ∙ does) in
      let a : sweep_count past ≡ sweep_count open_is.0 + count = (answers.0 open_is.0 open_is.1).count in
      let b : sweep_count past ≡ sweep_count open_is.0 + swept_after h.number 0 h.seen = (sweeps_tell O Key Recon Cond).count h.number h.seen open_is.0 legal.1 open_is.1 in
      let same : count ≡ swept_after h.number 0 h.seen = omega arith in
      (swept_after h.number 0 (take h.base h.seen), same ∙ swept_since h lent)

  pub sweep_counted : (v h w : View (Event O Key Recon Cond)) (span : Span) (rows : List RowAt) (out : Swept) → IsLent h → h ≡ record v { seen = h.seen } → doing_at v ≡ sweeps → w.seen ≡ h.seen ++ sweepings h.number rows out → Right m w.seen → IsCounted m v out
  sweep_counted v h w span rows swept.On lent view does is right = tt
  sweep_counted v h w span rows (swept.Closed count) lent view does is right =
      let same : doing_at h ≡ doing_at v = ap doing_at view in
      let (was, counts) = close_counted h w.seen count lent (same ∙ does) is right in
      (was, counts ∙ (λ i. swept_after ((view i).number) was ((view i).mine)))
  sweep_counted v h w span rows swept.Refused lent view does is right = tt

  pub sweep_told : (v h w : View (Event O Key Recon Cond)) (lent old new : Seen O Key Recon Cond) (seat : ℕ) (span : Span) (rows : List RowAt) (out : Swept) → h ≡ record v { seen = lent.journal } → old ≡ lent → seat ≡ h.number → Watched v.number v.seen lent.journal → IsLent h → doing_at v ≡ sweeps → Adds old new (sweepings seat rows out)
      → w.seen ≡ new.journal → Told m h w span (drop (length h.seen) new.journal) → TellsSweep m v w span out
  sweep_told v h w lent old new seat span rows out view is number watched held does adds seen told =
      let here : h.seen ≡ old.journal = ap (λ (z : View (Event O Key Recon Cond)). z.seen) view ∙ sym (ap (λ (s : Seen O Key Recon Cond). s.journal) is) in
      let all : Told m v w span (sweepings v.number rows out) = section_did m v h w lent old new seat span (λ n. sweepings n rows out) view is number watched adds told in
      let after : w.seen ≡ h.seen ++ sweepings h.number rows out = seen ∙ (adds.0 ∙ (λ i. sym here i ++ sweepings (number i) rows out)) in
      let own : h ≡ record v { seen = h.seen } = view ∙ ap (λ l. record v { seen = l }) (sym (ap (λ (z : View (Event O Key Recon Cond)). z.seen) view)) in
      ((rows, all), sweep_counted v h w span rows out held own does after all.right)

  pub open_swept : (v w : View (Event O Key Recon Cond)) (old : Seen O Key Recon Cond) (span : Span) (r : Result (Unit {0}) VacuumRefused) → Told m v w span (vacuum_events v.number r) → past_at span.from w.seen ≡ past_of old
      → ((by : ℕ) → IsErrOf r (vacuum_refused.Open by) → HasVacuum (past_of old) by) → (IsErrOf r vacuum_refused.Memory → NoneSweeps (past_of old)) → OpensSweep m v w span r
  open_swept v w old span (Ok x) told past opens none = told
  open_swept v w old span (Err (vacuum_refused.Open by)) told past opens none = let found = opens by refl in (told, (found.0, ap (open_of by) past ∙ found.1))
  open_swept v w old span (Err vacuum_refused.Memory) told past opens none = (told, λ by before is. none refl by before (sym (ap (open_of by) past) ∙ is))

  pub vacuum_doing : (v w : View (Event O Key Recon Cond)) (span : Span) → Told m v w span (OpenVacuum v.number ∷ []) → doing_at w ≡ sweeps
  vacuum_doing v w span told = told_doing m v w span (OpenVacuum v.number ∷ []) told ∙ (rw (eq-eqb v.number v.number refl) refl)

  pub sweep_doing : (v w : View (Event O Key Recon Cond)) (span : Span) (rows : List RowAt) → doing_at v ≡ sweeps → Told m v w span (map (λ (r : RowAt). Sweep v.number r) rows) → doing_at w ≡ sweeps
  sweep_doing v w span rows does told = told_doing m v w span (swept_rows v.number rows) told ∙ (ap (λ d. doing_after v.number d (swept_rows v.number rows)) does ∙ still_sweeps v.number rows (swept_rows v.number rows) refl)

  -- one more section
  pub sweeps_more : (u v w : View (Event O Key Recon Cond)) (s1 s2 : Span) (rows more : List RowAt) → Told m u v s1 (OpenVacuum u.number ∷ map (λ (r : RowAt). Sweep u.number r) rows) → Told m v w s2 (map (λ (r : RowAt). Sweep v.number r) more)
      → Told m u w (joined s1 s2) (OpenVacuum u.number ∷ map (λ (r : RowAt). Sweep u.number r) (rows ++ more))
  sweeps_more u v w s1 s2 rows more a b =
      let number : v.number ≡ u.number = ap (λ (z : View (Event O Key Recon Cond)). z.number) a.same in
      let all : List (Event O Key Recon Cond) = map (λ (r : RowAt). Sweep u.number r) rows ++ map (λ (r : RowAt). Sweep u.number r) more in
      let both : Told m u w (joined s1 s2) (OpenVacuum u.number ∷ all) = told_add m u v w s1 s2 (OpenVacuum u.number ∷ map (λ (r : RowAt). Sweep u.number r) rows) (map (λ (r : RowAt). Sweep u.number r) more) a (subst (λ (n : ℕ). Told m v w s2 (map (λ (r : RowAt). Sweep n r) more)) number b) in
      subst (λ (es : List (Event O Key Recon Cond)). Told m u w (joined s1 s2) (OpenVacuum u.number ∷ es)) (sym (sweeps_on u.number rows more)) both

  -- the last one
  sweeps_last : (u v w : View (Event O Key Recon Cond)) (s1 s2 : Span) (rows : List RowAt) (last : ℕ → Event O Key Recon Cond) → Told m u v s1 (OpenVacuum u.number ∷ map (λ (r : RowAt). Sweep u.number r) rows) → Told m v w s2 (last v.number ∷ []) → Told m u w (joined s1 s2) (swept_then m u w rows (last u.number))
  sweeps_last u v w s1 s2 rows last a b =
      let number : v.number ≡ u.number = ap (λ (z : View (Event O Key Recon Cond)). z.number) a.same in
      told_add m u v w s1 s2 (OpenVacuum u.number ∷ map (λ (r : RowAt). Sweep u.number r) rows) (last u.number ∷ []) a (subst (λ (n : ℕ). Told m v w s2 (last n ∷ [])) number b)

  pub sweeps_closed : (u v w : View (Event O Key Recon Cond)) (s1 s2 : Span) (rows : List RowAt) (count : ℕ) → Told m u v s1 (OpenVacuum u.number ∷ map (λ (r : RowAt). Sweep u.number r) rows) → Told m v w s2 (CloseVacuum v.number count ∷ []) → IsCounted m v (swept.Closed count) → EndsSweep m u w (joined s1 s2) (Ok count)
  sweeps_closed u v w s1 s2 rows count a b (was, counts) =
      let same : count ≡ swept_after u.number was (u.mine ++ OpenVacuum u.number ∷ map (λ (r : RowAt). Sweep u.number r) rows) = counts ∙ ap (λ (z : View (Event O Key Recon Cond)). swept_after z.number was z.mine) a.same in
      (rows, sym (same ∙ own_sweeps u.number was u.mine rows), sweeps_last u v w s1 s2 rows (λ n. CloseVacuum n count) a b)

  pub sweeps_refused : (u v w : View (Event O Key Recon Cond)) (s1 s2 : Span) (rows : List RowAt) (e : Memory) → Told m u v s1 (OpenVacuum u.number ∷ map (λ (r : RowAt). Sweep u.number r) rows) → Told m v w s2 (Leave v.number ∷ []) → EndsSweep m u w (joined s1 s2) (Err e)
  sweeps_refused u v w s1 s2 rows e a b = (rows, sweeps_last u v w s1 s2 rows (λ n. Leave n) a b)

  -- a section of a vacuum that goes on
  pub sweep_step : (u v w : View (Event O Key Recon Cond)) (s1 s2 : Span) (out : Swept) → (rows : List RowAt) × Told m u v s1 (OpenVacuum u.number ∷ swept_rows u.number rows) → TellsSweep m v w s2 out → sweep_end out ≡ None → (rows : List RowAt) × Told m u w (joined s1 s2) (OpenVacuum u.number ∷ swept_rows u.number rows)
  sweep_step u v w s1 s2 swept.On (rows, a) ((more, b), counted) is = (rows ++ more, sweeps_more u v w s1 s2 rows more a b)
  sweep_step u v w s1 s2 (swept.Closed count) had tells is = let x : Result ℕ Memory = Ok count in absurd (never_some x is)
  sweep_step u v w s1 s2 swept.Refused had tells is = let x : Result ℕ Memory = Err no_memory in absurd (never_some x is)

  pub sweep_still : (v w : View (Event O Key Recon Cond)) (span : Span) (out : Swept) → doing_at v ≡ sweeps → TellsSweep m v w span out → sweep_end out ≡ None → doing_at w ≡ sweeps
  sweep_still v w span swept.On does ((more, b), counted) is = sweep_doing v w span more does b
  sweep_still v w span (swept.Closed count) does tells is = let x : Result ℕ Memory = Ok count in absurd (never_some x is)
  sweep_still v w span swept.Refused does tells is = let x : Result ℕ Memory = Err no_memory in absurd (never_some x is)

  -- one that ended it
  pub sweep_ends : (u v w : View (Event O Key Recon Cond)) (s1 s2 : Span) (out : Swept) (r : Result ℕ Memory) → (rows : List RowAt) × Told m u v s1 (OpenVacuum u.number ∷ swept_rows u.number rows) → TellsSweep m v w s2 out → sweep_end out ≡ Some r → EndsSweep m u w (joined s1 s2) r
  sweep_ends u v w s1 s2 swept.On r had tells is = absurd (never_none r is)
  sweep_ends u v w s1 s2 (swept.Closed count) r (rows, a) ((more, b), counted) is = subst (EndsSweep m u w (joined s1 s2)) (some_same (Ok count) r is) (sweeps_closed u v w s1 s2 rows count a b counted)
  sweep_ends u v w s1 s2 swept.Refused r (rows, a) ((more, b), counted) is = subst (EndsSweep m u w (joined s1 s2)) (some_same (Err no_memory) r is) (sweeps_refused u v w s1 s2 rows no_memory a b)

  pub vacuumed : (v w : View (Event O Key Recon Cond)) (span : Span) (r : Result ℕ Memory) → EndsSweep m v w span r → DidVacuum m v w (ended_vacuum r span)
  vacuumed v w span (Ok count) ends = ends
  vacuumed v w span (Err e) ends = inr ends

  -- one that was not opened has done nothing
  pub not_opened : (v w : View (Event O Key Recon Cond)) (span : Span) (refused : VacuumRefused) → OpensSweep m v w span (Err refused) → Told m v w span []
  not_opened v w span (vacuum_refused.Open by) h = h.0
  not_opened v w span vacuum_refused.Memory h = h.0

  pub vacuum_refused_did : (v w : View (Event O Key Recon Cond)) (span : Span) (refused : VacuumRefused) → OpensSweep m v w span (Err refused) → DidVacuum m v w (refused_vacuum refused span)
  vacuum_refused_did v w span (vacuum_refused.Open by) h = h
  vacuum_refused_did v w span vacuum_refused.Memory h = inl h

  -- the events that it is told with
  pub vacuum_told : (v w : View (Event O Key Recon Cond)) (span : Span) (r : Result ℕ Memory) → EndsSweep m v w span r → (events : List (Event O Key Recon Cond)) × Told m v w span events
  vacuum_told v w span (Ok count) (rows, long, told) = (swept_then m v w rows (CloseVacuum v.number count), told)
  vacuum_told v w span (Err e) (rows, told) = (swept_then m v w rows (Leave v.number), told)

  then_idle : (n : ℕ) (d : Doing O Key Recon Cond) (xs : List (Event O Key Recon Cond)) (last : Event O Key Recon Cond) → ((d2 : Doing O Key Recon Cond) → doing_after n d2 (last ∷ []) ≡ idle) → doing_after n d (xs ++ last ∷ []) ≡ idle
  then_idle n d xs last ends = doing_parts n d xs (last ∷ []) ∙ ends (doing_after n d xs)

  pub vacuum_idle : (v w : View (Event O Key Recon Cond)) (span : Span) (r : Result ℕ Memory) → EndsSweep m v w span r → doing_at w ≡ idle
  vacuum_idle v w span (Ok count) (rows, long, told) = told_doing m v w span (swept_then m v w rows (CloseVacuum v.number count)) told ∙ then_idle v.number (doing_at v) (OpenVacuum v.number ∷ map (λ (r : RowAt). Sweep v.number r) rows) (CloseVacuum v.number count) (λ d. rw (eq-eqb v.number v.number refl) refl)
  vacuum_idle v w span (Err e) (rows, told) = told_doing m v w span (swept_then m v w rows (Leave v.number)) told ∙ then_idle v.number (doing_at v) (OpenVacuum v.number ∷ map (λ (r : RowAt). Sweep v.number r) rows) (Leave v.number) (λ d. rw (eq-eqb v.number v.number refl) refl)
