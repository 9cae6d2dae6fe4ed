-- One section: what it does to the index that its turn lends, and what its pass is told.
use Rattle.std.proofs.Common.{◌≡◌, ◌≢◌, ◌<◌, ◌≤◌, ◌+◌, ◌*◌, ◌^◌, ℕ, true, false, Bool, List, [], ◌∷◌, ◌++◌, length, map, take, drop, reverse, Option, Some, None, Result, Ok, Err, IfOk, OnOk, OnErr, IsErrOf, ◌↔◌, refl, sym, ap, ◌∙◌, subst, arith}
use Rattle.std.specs.Prelude.{is_none}
use Rattle.std.specs.List.{AllByRecursion}
use Rattle.std.proofs.lemmas.List.{append-nil, drop_at, take_at, take_all, reverse-append}
use Rattle.spg_base.specs.declared.recorded.Origin.{Origin}
use Rattle.spg_base.specs.Row.{RowAt}
use Rattle.spg_base.specs.declared.names.Span.{Span}
use Rattle.spg_base.specs.declared.memory.Memory.{Memory}
use Rattle.spg_opclass.specs.Meaning.{Meaning}
use Rattle.spg_opclass.specs.declared.query.Query.{Query}
use Rattle.spg_forest.specs.Walk.{weight_of}
use Rattle.spg_rows.specs.declared.event.Event.{Event}
use Rattle.spg_rows.specs.declared.event.Event.TheVariants.{OpenInsert, Put, Drop, Kill, OpenScan, CloseScan, OpenVacuum, Sweep, CloseVacuum, Leave}
use Rattle.spg_rows.specs.declared.event.Why.{Why}
use Rattle.spg_rows.specs.declared.event.Why.TheVariants as why
use Rattle.spg_rows.specs.History.{History, Opened, nothing, inserting, scanning, vacuuming, open_of, seat_of, own}
use Rattle.spg_rows.specs.Right.{Right}
use Rattle.spg_rows.specs.Rows.{held_by}
use Rattle.spg_rows.specs.Told.{IsUsed}
use Rattle.spg_turn.specs.declared.rule.View.{View}
use Rattle.spg_core.specs.Seen.{Seen, stage_at, past_of}
use Rattle.spg_core.specs.Stage.{Stage, free, descending, reading, sweeping, IsStageOf, IsInserting, IsReading, IsSweeping, given_up}
use Rattle.spg_core.specs.Sections.{IsOutOf, IsHeavyFor, KillsRow, OpensInsert, OpensScan, OpensVacuum, GivesUp}
use Rattle.spg_core.specs.declared.answer.InsertOut.{InsertOut}
use Rattle.spg_core.specs.declared.answer.InsertOut.TheVariants as outs
use Rattle.spg_core.specs.declared.answer.OpenRefused.{OpenRefused}
use Rattle.spg_core.specs.declared.answer.OpenRefused.TheVariants as open_refused
use Rattle.spg_core.specs.declared.answer.VacuumRefused.{VacuumRefused}
use Rattle.spg_bounds.specs.Bounds.{IsLate, DropsAreLate}
use Rattle.spg_desk.specs.Full.{IsFullFor}
use Rattle.spg_desk.specs.declared.ended.Read.{Read}
use Rattle.spg_desk.specs.declared.ended.Read.TheVariants as read
use Rattle.spg_desk.specs.declared.ended.Swept.{Swept}
use Rattle.spg_desk.specs.declared.ended.Swept.TheVariants as swept
use Rattle.spg_core.specs.Weight.{opened_keys}
use Rattle.spg_calls.specs.Calls.{past_at, GrewTo, Watched, span_at}
use Rattle.spg_calls.specs.Doing.{Doing, idle, puts, scans, sweeps, doing_of}
use Rattle.spg_desk.specs.Knowing.{doing_at, IsPassed, IsLent}
use Rattle.spg_desk.specs.Told.{Told}
use Rattle.spg_desk.specs.Acting.{Adds, IsPutting, IsScanning, IsStageFor, IsPut, IsScan, left_by, kill_events, open_events, scan_events, vacuum_events, readings, sweepings, ended_of, ending, endings, IsDue, OpensPut}
use Rattle.spg_desk.specs.declared.ended.Ended.{Ended}
use Rattle.spg_desk.specs.declared.ended.Ended.TheVariants as ended
use Rattle.spg_desk.proofs.Views.{told_watched, lent_doing}

module _ {O Key Recon Cond : Type 0} where
  -- ---- the stage of a seat

  abbrev row_in : RowAt → Doing O Key Recon Cond → RowAt
  row_in r idle = r
  row_in r (puts row key) = row
  row_in r (scans query) = r
  row_in r sweeps = r

  abbrev key_in : Option Key → Doing O Key Recon Cond → Option Key
  key_in x idle = x
  key_in x (puts row key) = key
  key_in x (scans query) = x
  key_in x sweeps = x

  abbrev query_in : Query O Key Recon Cond → Doing O Key Recon Cond → Query O Key Recon Cond
  query_in q idle = q
  query_in q (puts row key) = q
  query_in q (scans query) = query
  query_in q sweeps = q

  pub stage_for : (has : Opened O Key Recon Cond) (stage : Stage O Key Recon Cond) (doing : Doing O Key Recon Cond) → IsStageOf has stage → doing_of has ≡ doing → IsStageFor doing stage
  stage_for has free idle is does = refl
  stage_for has free (puts row key) is does = absurd (cc)
  stage_for has free (scans query) is does = absurd (cc)
  stage_for has free sweeps is does = absurd (cc)
  stage_for has (descending k d) idle is does = absurd (cc)
  stage_for has (descending k d) (puts row key) is does = let e : puts d.row k ≡ puts row key = sym (ap doing_of is) ∙ does in (ap (row_in row) e, ap (key_in key) e)
  stage_for has (descending k d) (scans query) is does = absurd (cc)
  stage_for has (descending k d) sweeps is does = absurd (cc)
  stage_for has (reading s) idle (before, is) does = absurd (cc)
  stage_for has (reading s) (puts row key) (before, is) does = absurd (cc)
  stage_for has (reading s) (scans query) (before, is) does = let e : scans s.query ≡ scans query = sym (ap doing_of is) ∙ does in ap (query_in query) e
  stage_for has (reading s) sweeps (before, is) does = absurd (cc)
  stage_for has (sweeping v) idle (before, is) does = absurd (cc)
  stage_for has (sweeping v) (puts row key) (before, is) does = absurd (cc)
  stage_for has (sweeping v) (scans query) (before, is) does = absurd (cc)
  stage_for has (sweeping v) sweeps (before, is) does = tt

  pub enter_stage : (v h : View (Event O Key Recon Cond)) (s : Seen O Key Recon Cond) (seat : ℕ) → h ≡ record v { seen = s.journal } → IsLent h → seat ≡ h.number → IsStageOf (open_of seat (past_of s)) (stage_at s seat) → IsStageFor (doing_at v) (stage_at s v.number)
  enter_stage v h s seat view lent number is =
      let same : seat ≡ v.number = number ∙ ap (λ (z : View (Event O Key Recon Cond)). z.number) view in
      let here : IsLent (record v { seen = s.journal }) = subst IsLent view lent in
      stage_for (open_of v.number (past_of s)) (stage_at s v.number) (doing_at v) (subst (λ (n : ℕ). IsStageOf (open_of n (past_of s)) (stage_at s n)) same is) (lent_doing (record v { seen = s.journal }) here)

  pub putting_inserts : (row : RowAt) (key : Option Key) (stage : Stage O Key Recon Cond) → IsPutting row key stage → IsInserting stage
  putting_inserts row key free is = absurd is
  putting_inserts row key (descending k d) is = tt
  putting_inserts row key (reading s) is = absurd is
  putting_inserts row key (sweeping v) is = absurd is

  pub put_inserts : (doing : Doing O Key Recon Cond) (stage : Stage O Key Recon Cond) → IsPut doing → IsStageFor doing stage → IsInserting stage
  put_inserts idle stage is fits = absurd is
  put_inserts (puts row key) stage is fits = putting_inserts row key stage fits
  put_inserts (scans query) stage is fits = absurd is
  put_inserts sweeps stage is fits = absurd is

  scanning_reads : (query : Query O Key Recon Cond) (stage : Stage O Key Recon Cond) → IsScanning query stage → IsReading stage
  scanning_reads query free is = absurd is
  scanning_reads query (descending k d) is = absurd is
  scanning_reads query (reading s) is = tt
  scanning_reads query (sweeping v) is = absurd is

  pub scan_reads : (doing : Doing O Key Recon Cond) (stage : Stage O Key Recon Cond) → IsScan doing → IsStageFor doing stage → IsReading stage
  scan_reads idle stage is fits = absurd is
  scan_reads (puts row key) stage is fits = absurd is
  scan_reads (scans query) stage is fits = scanning_reads query stage fits
  scan_reads sweeps stage is fits = absurd is

  pub inserting_open : (stage : Stage O Key Recon Cond) → IsInserting stage → stage ≢ free
  inserting_open free is e = absurd is
  inserting_open (descending k d) is e = absurd (cc)
  inserting_open (reading s) is e = absurd is
  inserting_open (sweeping v) is e = absurd is

  pub reading_open : (stage : Stage O Key Recon Cond) → IsReading stage → stage ≢ free
  reading_open free is e = absurd is
  reading_open (descending k d) is e = absurd is
  reading_open (reading s) is e = absurd (cc)
  reading_open (sweeping v) is e = absurd is

  pub sweeping_open : (stage : Stage O Key Recon Cond) → IsSweeping stage → stage ≢ free
  sweeping_open free is e = absurd is
  sweeping_open (descending k d) is e = absurd is
  sweeping_open (reading s) is e = absurd is
  sweeping_open (sweeping v) is e = absurd (cc)

  pub doing_open : (doing : Doing O Key Recon Cond) (stage : Stage O Key Recon Cond) → doing ≢ idle → IsStageFor doing stage → stage ≢ free
  doing_open idle stage other fits = absurd (other refl)
  doing_open (puts row key) stage other fits = inserting_open stage (putting_inserts row key stage fits)
  doing_open (scans query) stage other fits = reading_open stage (scanning_reads query stage fits)
  doing_open sweeps stage other fits = sweeping_open stage fits

  -- ---- what a section adds

  pub adds_none : (old new : Seen O Key Recon Cond) → new ≡ old → Adds old new []
  adds_none old new same = (ap (λ (s : Seen O Key Recon Cond). s.journal) same ∙ sym (append-nil old.journal), ap (λ (s : Seen O Key Recon Cond). s.origin) same)

  -- what was given up
  left_with : (seat : ℕ) (stage : Stage O Key Recon Cond) (doing : Doing O Key Recon Cond) → IsStageFor doing stage → stage ≢ free → given_up seat stage why.Given ≡ left_by seat doing
  left_with seat stage idle fits out = absurd (out fits)
  left_with seat free (puts row key) fits out = absurd fits
  left_with seat (descending k d) (puts row key) fits out = ap (λ (r : RowAt). Drop seat r why.Given) fits.0
  left_with seat (reading s) (puts row key) fits out = absurd fits
  left_with seat (sweeping v) (puts row key) fits out = absurd fits
  left_with seat free (scans query) fits out = absurd fits
  left_with seat (descending k d) (scans query) fits out = absurd fits
  left_with seat (reading s) (scans query) fits out = refl
  left_with seat (sweeping v) (scans query) fits out = absurd fits
  left_with seat free sweeps fits out = absurd fits
  left_with seat (descending k d) sweeps fits out = absurd fits
  left_with seat (reading s) sweeps fits out = absurd fits
  left_with seat (sweeping v) sweeps fits out = refl

  pub gives_up : (old new : Seen O Key Recon Cond) (seat : ℕ) (doing : Doing O Key Recon Cond) → IsStageFor doing (stage_at old seat) → stage_at old seat ≢ free → GivesUp old new seat why.Given → Adds old new (left_by seat doing ∷ [])
  gives_up old new seat doing fits out gave =
      (ap (λ (s : Seen O Key Recon Cond). s.journal) gave.is ∙ ap (λ e. old.journal ++ e ∷ []) (left_with seat (stage_at old seat) doing fits out), ap (λ (s : Seen O Key Recon Cond). s.origin) gave.is)

  drops : (seat : ℕ) (stage : Stage O Key Recon Cond) (row : RowAt) (key : Option Key) (cause : Why) → IsPutting row key stage → given_up seat stage cause ≡ Drop seat row cause
  drops seat free row key cause is = absurd is
  drops seat (descending k d) row key cause is = ap (λ (r : RowAt). Drop seat r cause) is.0
  drops seat (reading s) row key cause is = absurd is
  drops seat (sweeping v) row key cause is = absurd is

  -- after a refusal that changed nothing
  pub gives_put_up : (old mid new : Seen O Key Recon Cond) (seat : ℕ) (row : RowAt) (key : Option Key) (cause : Why) → mid ≡ old → IsPutting row key (stage_at old seat) → GivesUp mid new seat cause → Adds old new (Drop seat row cause ∷ [])
  gives_put_up old mid new seat row key cause same is gave =
      let is_mid : IsPutting row key (stage_at mid seat) = subst (λ (s : Seen O Key Recon Cond). IsPutting row key (stage_at s seat)) (sym same) is in (
        ap (λ (s : Seen O Key Recon Cond). s.journal) gave.is ∙ (ap (λ e. mid.journal ++ e ∷ []) (drops seat (stage_at mid seat) row key cause is_mid) ∙ ap (λ (s : Seen O Key Recon Cond). s.journal ++ Drop seat row cause ∷ []) same),
        ap (λ (s : Seen O Key Recon Cond). s.origin) gave.is ∙ ap (λ (s : Seen O Key Recon Cond). s.origin) same,
      )

  leaves : (seat : ℕ) (stage : Stage O Key Recon Cond) (cause : Why) → (IsInserting stage → ⊥) → given_up seat stage cause ≡ Leave seat
  leaves seat free cause never = refl
  leaves seat (descending k d) cause never = absurd (never tt)
  leaves seat (reading s) cause never = refl
  leaves seat (sweeping v) cause never = refl

  reading_puts_none : (stage : Stage O Key Recon Cond) → IsReading stage → IsInserting stage → ⊥
  reading_puts_none free is never = absurd is
  reading_puts_none (descending k d) is never = absurd is
  reading_puts_none (reading s) is never = absurd never
  reading_puts_none (sweeping v) is never = absurd is

  sweeping_puts_none : (stage : Stage O Key Recon Cond) → IsSweeping stage → IsInserting stage → ⊥
  sweeping_puts_none free is never = absurd is
  sweeping_puts_none (descending k d) is never = absurd is
  sweeping_puts_none (reading s) is never = absurd is
  sweeping_puts_none (sweeping v) is never = absurd never

  leaves_up : (old mid new : Seen O Key Recon Cond) (seat : ℕ) (cause : Why) → mid ≡ old → (IsInserting (stage_at old seat) → ⊥) → GivesUp mid new seat cause → Adds old new (Leave seat ∷ [])
  leaves_up old mid new seat cause same never gave =
      let none : IsInserting (stage_at mid seat) → ⊥ = λ is. never (subst (λ (s : Seen O Key Recon Cond). IsInserting (stage_at s seat)) same is) in (
        ap (λ (s : Seen O Key Recon Cond). s.journal) gave.is ∙ (ap (λ e. mid.journal ++ e ∷ []) (leaves seat (stage_at mid seat) cause none) ∙ ap (λ (s : Seen O Key Recon Cond). s.journal ++ Leave seat ∷ []) same),
        ap (λ (s : Seen O Key Recon Cond). s.origin) gave.is ∙ ap (λ (s : Seen O Key Recon Cond). s.origin) same,
      )

  pub leaves_scan : (old mid new : Seen O Key Recon Cond) (seat : ℕ) (cause : Why) → mid ≡ old → IsReading (stage_at old seat) → GivesUp mid new seat cause → Adds old new (Leave seat ∷ [])
  leaves_scan old mid new seat cause same is gave = leaves_up old mid new seat cause same (reading_puts_none (stage_at old seat) is) gave

  pub leaves_vacuum : (old mid new : Seen O Key Recon Cond) (seat : ℕ) (cause : Why) → mid ≡ old → IsSweeping (stage_at old seat) → GivesUp mid new seat cause → Adds old new (Leave seat ∷ [])
  leaves_vacuum old mid new seat cause same is gave = leaves_up old mid new seat cause same (sweeping_puts_none (stage_at old seat) is) gave

  -- a section of an insert
  pub steps_put : (old new : Seen O Key Recon Cond) (seat : ℕ) (row : RowAt) (key : Option Key) (out : InsertOut) (stage : Stage O Key Recon Cond) → IsPutting row key stage → IsOutOf old new seat out stage → Adds old new (endings seat row (ended_of out))
  steps_put old new seat row key out free is done = absurd is
  steps_put old new seat row key outs.Descended (descending k d) is (stood, (d2, same_row, pages, same, stage)) = (ap (λ (s : Seen O Key Recon Cond). s.journal) same ∙ sym (append-nil old.journal), ap (λ (s : Seen O Key Recon Cond). s.origin) same)
  steps_put old new seat row key outs.Restructured (descending k d) is (stood, (d2, same_row, same, stage)) = (ap (λ (s : Seen O Key Recon Cond). s.journal) same ∙ sym (append-nil old.journal), ap (λ (s : Seen O Key Recon Cond). s.origin) same)
  steps_put old new seat row key (outs.Restarted block by) (descending k d) is (stood, (d2, same_row, start, pages, same, stage)) = (ap (λ (s : Seen O Key Recon Cond). s.journal) same ∙ sym (append-nil old.journal), ap (λ (s : Seen O Key Recon Cond). s.origin) same)
  steps_put old new seat row key outs.Put (descending k d) is (stood, (same, stage)) =
      (ap (λ (s : Seen O Key Recon Cond). s.journal) same ∙ ap (λ (r : RowAt). old.journal ++ Put seat r ∷ []) is.0, ap (λ (s : Seen O Key Recon Cond). s.origin) same)
  steps_put old new seat row key out (reading s) is done = absurd is
  steps_put old new seat row key out (sweeping v) is done = absurd is

  -- ---- what its pass is told

  -- the events of the seat, under the number that the pass has
  pub each_one : (n : ℕ) (e : Event O Key Recon Cond) → seat_of e ≡ n → AllByRecursion (λ (x : Event O Key Recon Cond). seat_of x ≡ n) (e ∷ [])
  each_one n e is = (is, tt)

  pub adds_grown : (h : View (Event O Key Recon Cond)) (old new : Seen O Key Recon Cond) (events : List (Event O Key Recon Cond)) → h.seen ≡ old.journal → AllByRecursion (λ (e : Event O Key Recon Cond). seat_of e ≡ h.number) events → Adds old new events
      → (more : List (Event O Key Recon Cond)) × (new.journal ≡ h.seen ++ more) × AllByRecursion (λ (e : Event O Key Recon Cond). seat_of e ≡ h.number) more
  adds_grown h old new events seen each adds = (events, adds.0 ∙ ap (λ l. l ++ events) (sym seen), each)

  pub section_told : (m : Meaning Key Recon Cond) (v h w : View (Event O Key Recon Cond)) (old new : Seen O Key Recon Cond) (span : Span) (events : List (Event O Key Recon Cond)) → h ≡ record v { seen = old.journal } → Watched v.number v.seen old.journal → Adds old new events
      → Told m h w span (drop (length h.seen) new.journal) → Told m v w span events
  section_told m v h w old new span events view watched adds told =
      let seen : h.seen ≡ old.journal = ap (λ (z : View (Event O Key Recon Cond)). z.seen) view in
      let added : drop (length h.seen) new.journal ≡ events = ap (drop (length h.seen)) (adds.0 ∙ ap (λ l. l ++ events) (sym seen)) ∙ drop_at h.seen events (length h.seen) refl in
      told_watched m v h w span events (view ∙ ap (λ l. record v { seen = l }) (sym seen)) (subst (Watched v.number v.seen) (sym seen) watched) (subst (Told m h w span) added told)

  -- a section that added these events, of which each is of the seat
  pub section_grown : (v h : View (Event O Key Recon Cond)) (lent old new : Seen O Key Recon Cond) (seat : ℕ) (E : ℕ → List (Event O Key Recon Cond)) → h ≡ record v { seen = lent.journal } → old ≡ lent → seat ≡ h.number → ((n : ℕ) → AllByRecursion (λ (e : Event O Key Recon Cond). seat_of e ≡ n) (E n)) → Adds old new (E seat)
      → (more : List (Event O Key Recon Cond)) × (new.journal ≡ h.seen ++ more) × AllByRecursion (λ (e : Event O Key Recon Cond). seat_of e ≡ h.number) more
  section_grown v h lent old new seat E view is number each adds =
      let seen : h.seen ≡ old.journal = ap (λ (z : View (Event O Key Recon Cond)). z.seen) view ∙ sym (ap (λ (s : Seen O Key Recon Cond). s.journal) is) in
      adds_grown h old new (E seat) seen (subst (λ (n : ℕ). AllByRecursion (λ (e : Event O Key Recon Cond). seat_of e ≡ n) (E seat)) number (each seat)) adds

  pub section_origin : (h : View (Event O Key Recon Cond)) (lent old new : Seen O Key Recon Cond) (events : List (Event O Key Recon Cond)) → old ≡ lent → lent.origin ≡ h.origin → Adds old new events → new.origin ≡ h.origin
  section_origin h lent old new events is origin adds = adds.1 ∙ (ap (λ (s : Seen O Key Recon Cond). s.origin) is ∙ origin)

  pub section_did : (m : Meaning Key Recon Cond) (v h w : View (Event O Key Recon Cond)) (lent old new : Seen O Key Recon Cond) (seat : ℕ) (span : Span) (E : ℕ → List (Event O Key Recon Cond)) → h ≡ record v { seen = lent.journal } → old ≡ lent → seat ≡ h.number → Watched v.number v.seen lent.journal → Adds old new (E seat)
      → Told m h w span (drop (length h.seen) new.journal) → Told m v w span (E v.number)
  section_did m v h w lent old new seat span E view is number watched adds told =
      let same : lent.journal ≡ old.journal = sym (ap (λ (s : Seen O Key Recon Cond). s.journal) is) in
      let its : seat ≡ v.number = number ∙ ap (λ (z : View (Event O Key Recon Cond)). z.number) view in
      subst (λ (n : ℕ). Told m v w span (E n)) its
      (section_told m v h w old new span (E seat) (view ∙ ap (λ l. record v { seen = l }) same) (subst (Watched v.number v.seen) same watched) adds told)

  -- what stands before a section's span is what its turn was lent
  pub lent_past : (h w : View (Event O Key Recon Cond)) (old new : Seen O Key Recon Cond) (events : List (Event O Key Recon Cond)) (span : Span) → h.seen ≡ old.journal → Adds old new events → w.seen ≡ new.journal → span ≡ span_at (length h.seen) (length w.seen) → past_at span.from w.seen ≡ past_of old
  lent_past h w old new events span seen adds after is =
      ap (λ (s : Span). past_at s.from w.seen) is ∙ (ap (λ l. past_at (length l) w.seen) seen ∙ (ap (past_at (length old.journal)) (after ∙ adds.0) ∙ ap reverse (take_at old.journal events (length old.journal) refl)))

  -- what the journal was that its turn was lent
  pub section_past : (v h w : View (Event O Key Recon Cond)) (lent old new : Seen O Key Recon Cond) (span : Span) (events : List (Event O Key Recon Cond)) → h ≡ record v { seen = lent.journal } → old ≡ lent → Adds old new events → w.seen ≡ new.journal → span ≡ span_at (length h.seen) (length w.seen) → past_at span.from w.seen ≡ past_of old
  section_past v h w lent old new span events view is adds after at =
      lent_past h w old new events span (ap (λ (z : View (Event O Key Recon Cond)). z.seen) view ∙ sym (ap (λ (s : Seen O Key Recon Cond). s.journal) is)) adds after at

  -- what stands before its end is all
  pub whole_past : (h w : View (Event O Key Recon Cond)) (span : Span) → span ≡ span_at (length h.seen) (length w.seen) → past_at span.to w.seen ≡ reverse w.seen
  whole_past h w span is = ap (λ (s : Span). past_at s.to w.seen) is ∙ ap reverse (take_all (length w.seen) w.seen (omega arith))

  ended_keys : (seat : ℕ) (row : RowAt) (end : Ended) (past : History O Key Recon Cond) → opened_keys (ending seat row end ∷ past) ≡ opened_keys past
  ended_keys seat row ended.Put past = refl
  ended_keys seat row ended.Full past = refl
  ended_keys seat row ended.Clock past = refl
  ended_keys seat row ended.Refused past = refl

  -- the keys that were ever inserted, once the insert has ended
  pub keys_then : (w : View (Event O Key Recon Cond)) (old new : Seen O Key Recon Cond) (seat : ℕ) (row : RowAt) (end : Ended) → Adds old new (ending seat row end ∷ []) → w.seen ≡ new.journal → opened_keys (reverse w.seen) ≡ opened_keys (past_of old)
  keys_then w old new seat row end adds after = ap (λ l. opened_keys (reverse l)) (after ∙ adds.0) ∙ (ap opened_keys (reverse-append old.journal (ending seat row end ∷ [])) ∙ ended_keys seat row end (past_of old))

  -- what an insert may be given up for is told by the inserts that were opened
  full_then : (m : Meaning Key Recon Cond) (origin later : Origin) (key : Option Key) (past past2 : History O Key Recon Cond) (cause : Why) → origin ≡ later → opened_keys past2 ≡ opened_keys past → IsFullFor m origin key past cause → IsFullFor m later key past2 cause
  full_then m origin later key past past2 cause same keys full = subst (λ (o : Origin). IsFullFor m o key past2 cause) same (record {
    outgrown = λ fresh. subst (λ (l : List (Option Key)). 8160 < weight_of m (is_none key) l) (sym keys) (full.outgrown fresh);
    late = record {
      full = λ e. subst (λ (l : List (Option Key)). origin.limit < origin.pages + 8 * length l + 4) (sym keys) (full.late.full e);
      clock = λ e. subst (λ (l : List (Option Key)). 2 ^ 48 ≤ origin.clock + 3 * length l + 1) (sym keys) (full.late.clock e);
    };
  })

  pub due_then : (m : Meaning Key Recon Cond) (h w : View (Event O Key Recon Cond)) (old new : Seen O Key Recon Cond) (seat : ℕ) (row : RowAt) (key : Option Key) (end : Option Ended) (span : Span) → Adds old new (endings seat row end) → w.seen ≡ new.journal → span ≡ span_at (length h.seen) (length w.seen)
      → (origin : Origin) → old.origin ≡ origin → IsDue m old.origin key (past_of old) end → IsDue m origin key (past_at span.to w.seen) end
  due_then m h w old new seat row key None span adds after is origin same due = tt
  due_then m h w old new seat row key (Some ended.Put) span adds after is origin same due = tt
  due_then m h w old new seat row key (Some ended.Full) span adds after is origin same due = full_then m old.origin origin key (past_of old) (past_at span.to w.seen) why.Full same (ap opened_keys (whole_past h w span is) ∙ keys_then w old new seat row ended.Full adds after) due
  due_then m h w old new seat row key (Some ended.Clock) span adds after is origin same due = full_then m old.origin origin key (past_of old) (past_at span.to w.seen) why.Clock same (ap opened_keys (whole_past h w span is) ∙ keys_then w old new seat row ended.Clock adds after) due
  due_then m h w old new seat row key (Some ended.Refused) span adds after is origin same due = tt

  -- an insert at the stage of its row
  pub heavy_due : (m : Meaning Key Recon Cond) (seen : Seen O Key Recon Cond) (row : RowAt) (key : Option Key) (stage : Stage O Key Recon Cond) → IsPutting row key stage → IsHeavyFor m seen stage → seen.origin.loaded ≡ false → 8160 < weight_of m (is_none key) (opened_keys (past_of seen))
  heavy_due m seen row key free is heavy = absurd is
  heavy_due m seen row key (descending k d) is heavy = λ fresh. subst (λ (x : Option Key). 8160 < weight_of m (is_none x) (opened_keys (past_of seen))) is.1 (heavy fresh)
  heavy_due m seen row key (reading s) is heavy = absurd is
  heavy_due m seen row key (sweeping v) is heavy = absurd is

  -- one that was given up for this cause, of a state whose inserts were given up only where enough were opened
  late_drop : (seat : ℕ) (old new : Seen O Key Recon Cond) (cause : Why) (stage : Stage O Key Recon Cond) → IsInserting stage → new.journal ≡ old.journal ++ given_up seat stage cause ∷ [] → DropsAreLate old.origin (past_of new) → IsLate old.origin (past_of old) cause
  late_drop seat old new cause free is grew drops = absurd is
  late_drop seat old new cause (descending k d) is grew drops = (subst (λ (p : History O Key Recon Cond). DropsAreLate old.origin p) (ap reverse grew ∙ reverse-append old.journal (Drop seat d.row cause ∷ [])) drops).0
  late_drop seat old new cause (reading s) is grew drops = absurd is
  late_drop seat old new cause (sweeping v) is grew drops = absurd is

  pub gave_late : (old new : Seen O Key Recon Cond) (seat : ℕ) (cause : Why) → IsInserting (stage_at old seat) → GivesUp old new seat cause → DropsAreLate new.origin (past_of new) → IsLate old.origin (past_of old) cause
  gave_late old new seat cause is gave drops =
      late_drop seat old new cause (stage_at old seat) is (ap (λ (s : Seen O Key Recon Cond). s.journal) gave.is) (subst (λ (o : Origin). DropsAreLate o (past_of new)) (ap (λ (s : Seen O Key Recon Cond). s.origin) gave.is) drops)

  pub never_due : (m : Meaning Key Recon Cond) (origin : Origin) (key : Option Key) (past : History O Key Recon Cond) (out : InsertOut) → IsDue m origin key past (ended_of out)
  never_due m origin key past outs.Descended = tt
  never_due m origin key past outs.Restructured = tt
  never_due m origin key past (outs.Restarted block by) = tt
  never_due m origin key past outs.Put = tt

  -- ---- the calls of the index

  pub kill_adds : (old new : Seen O Key Recon Cond) (seat : ℕ) (row : RowAt) (r : Result Bool Memory) → IfOk r (λ killed. KillsRow old new seat row killed) → OnErr r (new ≡ old) → Adds old new (kill_events seat row r)
  kill_adds old new seat row (Ok true) ok err = (ap (λ (s : Seen O Key Recon Cond). s.journal) ok.1, ap (λ (s : Seen O Key Recon Cond). s.origin) ok.1)
  kill_adds old new seat row (Ok false) ok err = adds_none old new ok.1
  kill_adds old new seat row (Err e) ok err = adds_none old new err

  pub kill_each : (E : ℕ → List (Event O Key Recon Cond)) (row : RowAt) (r : Result Bool Memory) → ((n : ℕ) → E n ≡ kill_events n row r) → (n : ℕ) → AllByRecursion (λ (e : Event O Key Recon Cond). seat_of e ≡ n) (E n)
  kill_each E row (Ok true) is n = subst (AllByRecursion (λ (e : Event O Key Recon Cond). seat_of e ≡ n)) (sym (is n)) (refl, tt)
  kill_each E row (Ok false) is n = subst (AllByRecursion (λ (e : Event O Key Recon Cond). seat_of e ≡ n)) (sym (is n)) tt
  kill_each E row (Err x) is n = subst (AllByRecursion (λ (e : Event O Key Recon Cond). seat_of e ≡ n)) (sym (is n)) tt

  -- ---- opens

  pub open_adds : (m : Meaning Key Recon Cond) (old new : Seen O Key Recon Cond) (seat : ℕ) (row : RowAt) (key : Option Key) (r : Result (Unit {0}) OpenRefused) → OnOk r (OpensInsert m old new seat row key) → OnErr r (new ≡ old) → Adds old new (open_events seat row key r)
  open_adds m old new seat row key (Ok x) ok err = (ap (λ (s : Seen O Key Recon Cond). s.journal) ok.0, ap (λ (s : Seen O Key Recon Cond). s.origin) ok.0)
  open_adds m old new seat row key (Err e) ok err = adds_none old new err

  pub open_each : (row : RowAt) (key : Option Key) (E : ℕ → List (Event O Key Recon Cond)) (r : Result (Unit {0}) OpenRefused) → ((n : ℕ) → E n ≡ open_events n row key r) → (n : ℕ) → AllByRecursion (λ (e : Event O Key Recon Cond). seat_of e ≡ n) (E n)
  open_each row key E (Ok x) is n = subst (AllByRecursion (λ (e : Event O Key Recon Cond). seat_of e ≡ n)) (sym (is n)) (refl, tt)
  open_each row key E (Err x) is n = subst (AllByRecursion (λ (e : Event O Key Recon Cond). seat_of e ≡ n)) (sym (is n)) tt

  pub open_told : (m : Meaning Key Recon Cond) (v w : View (Event O Key Recon Cond)) (old : Seen O Key Recon Cond) (span : Span) (row : RowAt) (key : Option Key) (r : Result (Unit {0}) OpenRefused) → Told m v w span (open_events v.number row key r) → past_at span.from w.seen ≡ past_of old
      → IsErrOf r open_refused.RowUsed ↔ IsUsed (past_of old) row → ((by : ℕ) → IsErrOf r (open_refused.RowHeld by) ↔ (held_by row (past_of old) ≡ Some by)) → OpensPut m v w span row key r
  open_told m v w old span row key (Ok x) told past used held = told
  open_told m v w old span row key (Err open_refused.RowUsed) told past used held = (told, subst (λ (l : History O Key Recon Cond). IsUsed l row) (sym past) (used.0 refl))
  open_told m v w old span row key (Err (open_refused.RowHeld by)) told past used held = (told, ap (held_by row) past ∙ (held by).0 refl)
  open_told m v w old span row key (Err open_refused.Memory) told past used held = told

  pub scan_adds : (m : Meaning Key Recon Cond) (old new : Seen O Key Recon Cond) (seat : ℕ) (query : Query O Key Recon Cond) (r : Result (Unit {0}) Memory) → OnOk r (OpensScan m old new seat query) → OnErr r (new ≡ old) → Adds old new (scan_events seat query r)
  scan_adds m old new seat query (Ok x) ok err = (ap (λ (s : Seen O Key Recon Cond). s.journal) ok.0, ap (λ (s : Seen O Key Recon Cond). s.origin) ok.0)
  scan_adds m old new seat query (Err e) ok err = adds_none old new err

  pub scan_each : (query : Query O Key Recon Cond) (r : Result (Unit {0}) Memory) (n : ℕ) → AllByRecursion (λ (e : Event O Key Recon Cond). seat_of e ≡ n) (scan_events n query r)
  scan_each query (Ok x) n = (refl, tt)
  scan_each query (Err x) n = tt

  pub sweep_adds : (old new : Seen O Key Recon Cond) (seat : ℕ) (r : Result (Unit {0}) VacuumRefused) → OnOk r (OpensVacuum old new seat) → OnErr r (new ≡ old) → Adds old new (vacuum_events seat r)
  sweep_adds old new seat (Ok x) ok err = (ap (λ (s : Seen O Key Recon Cond). s.journal) ok.0, ap (λ (s : Seen O Key Recon Cond). s.origin) ok.0)
  sweep_adds old new seat (Err e) ok err = adds_none old new err

  pub sweep_each : (E : ℕ → List (Event O Key Recon Cond)) (r : Result (Unit {0}) VacuumRefused) → ((n : ℕ) → E n ≡ vacuum_events n r) → (n : ℕ) → AllByRecursion (λ (e : Event O Key Recon Cond). seat_of e ≡ n) (E n)
  sweep_each E (Ok x) is n = subst (AllByRecursion (λ (e : Event O Key Recon Cond). seat_of e ≡ n)) (sym (is n)) (refl, tt)
  sweep_each E (Err x) is n = subst (AllByRecursion (λ (e : Event O Key Recon Cond). seat_of e ≡ n)) (sym (is n)) tt

  -- ---- the events of a section are its seat's

  pub endings_each : (E : ℕ → List (Event O Key Recon Cond)) (row : RowAt) (end : Option Ended) → ((n : ℕ) → E n ≡ endings n row end) → (n : ℕ) → AllByRecursion (λ (e : Event O Key Recon Cond). seat_of e ≡ n) (E n)
  endings_each E row None is n = subst (AllByRecursion (λ (e : Event O Key Recon Cond). seat_of e ≡ n)) (sym (is n)) tt
  endings_each E row (Some ended.Put) is n = subst (AllByRecursion (λ (e : Event O Key Recon Cond). seat_of e ≡ n)) (sym (is n)) (refl, tt)
  endings_each E row (Some ended.Full) is n = subst (AllByRecursion (λ (e : Event O Key Recon Cond). seat_of e ≡ n)) (sym (is n)) (refl, tt)
  endings_each E row (Some ended.Clock) is n = subst (AllByRecursion (λ (e : Event O Key Recon Cond). seat_of e ≡ n)) (sym (is n)) (refl, tt)
  endings_each E row (Some ended.Refused) is n = subst (AllByRecursion (λ (e : Event O Key Recon Cond). seat_of e ≡ n)) (sym (is n)) (refl, tt)

  pub readings_each : (r : Read O Key Recon Cond) (n : ℕ) → AllByRecursion (λ (e : Event O Key Recon Cond). seat_of e ≡ n) (readings n r)
  readings_each read.On n = tt
  readings_each (read.Sift item copied) n = tt
  readings_each (read.Closed rows) n = (refl, tt)
  readings_each read.Refused n = (refl, tt)

  pub left_each : (doing : Doing O Key Recon Cond) (n : ℕ) → AllByRecursion (λ (e : Event O Key Recon Cond). seat_of e ≡ n) (left_by n doing ∷ [])
  left_each idle n = (refl, tt)
  left_each (puts row key) n = (refl, tt)
  left_each (scans query) n = (refl, tt)
  left_each sweeps n = (refl, tt)

  pub sweepings_each : (E : ℕ → List (Event O Key Recon Cond)) (rows : List RowAt) (out : Swept) → ((n : ℕ) → E n ≡ sweepings n rows out) → (n : ℕ) → AllByRecursion (λ (e : Event O Key Recon Cond). seat_of e ≡ n) (E n)
  sweepings_each E rows swept.On is n = subst (AllByRecursion (λ (e : Event O Key Recon Cond). seat_of e ≡ n)) (sym (is n)) (go rows)
    where
      go : (rs : List RowAt) → AllByRecursion (λ (e : Event O Key Recon Cond). seat_of e ≡ n) (map (λ (r : RowAt). Sweep n r) rs)
      go [] = tt
      go (r ∷ rs) = (refl, go rs)
  sweepings_each E rows (swept.Closed count) is n = subst (AllByRecursion (λ (e : Event O Key Recon Cond). seat_of e ≡ n)) (sym (is n)) (refl, tt)
  sweepings_each E rows swept.Refused is n = subst (AllByRecursion (λ (e : Event O Key Recon Cond). seat_of e ≡ n)) (sym (is n)) (refl, tt)
