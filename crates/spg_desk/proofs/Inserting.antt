-- The sections of an insert.
use Rattle.std.proofs.Common.{◌≡◌, ◌≢◌, ◌<◌, ◌⊎◌, inl, inr, ℕ, List, [], ◌∷◌, ◌++◌, length, drop, Option, Some, None, Err, refl, sym, ap, ◌∙◌, subst}
use Rattle.std.specs.Prelude.{is_none}
use Rattle.std.specs.List.{AllByRecursion}
use Rattle.std.proofs.lemmas.Bool.{eq-eqb}
use Rattle.spg_base.specs.declared.recorded.Origin.{Origin}
use Rattle.spg_base.specs.Row.{RowAt}
use Rattle.spg_base.specs.declared.names.Span.{Span}
use Rattle.spg_opclass.specs.Meaning.{Meaning}
use Rattle.spg_forest.specs.Walk.{weight_of}
use Rattle.spg_rows.specs.declared.event.Event.{Event}
use Rattle.spg_rows.specs.declared.event.Event.TheVariants.{OpenInsert}
use Rattle.spg_rows.specs.History.{seat_of}
use Rattle.spg_turn.specs.declared.rule.View.{View}
use Rattle.spg_core.specs.Seen.{Seen, stage_at, past_of}
use Rattle.spg_core.specs.Stage.{IsInserting}
use Rattle.spg_core.specs.Weight.{opened_keys}
use Rattle.spg_calls.specs.Calls.{past_at, Watched, span_at, joined}
use Rattle.spg_calls.specs.Doing.{Doing, idle, puts, scans, sweeps, doing_after}
use Rattle.spg_core.specs.declared.answer.OpenRefused.{OpenRefused}
use Rattle.spg_core.specs.declared.answer.OpenRefused.TheVariants as open_refused
use Rattle.spg_desk.specs.Knowing.{doing_at}
use Rattle.spg_desk.specs.Told.{Told}
use Rattle.spg_desk.specs.Acting.{Adds, IsPutting, IsStageFor, IsPut, IsOn, endings, ending, IsDue, StepsPut, LooksPut, TellsPut, TellsLook, OpensPut}
use Rattle.spg_desk.specs.Answers.{DidInsert, ended_insert}
use Rattle.spg_desk.specs.declared.ended.Ended.{Ended}
use Rattle.spg_desk.specs.declared.ended.Ended.TheVariants as ended
use Rattle.spg_desk.specs.declared.ended.Looked.{Looked}
use Rattle.spg_desk.specs.declared.ended.Looked.TheVariants as looked
use Rattle.spg_desk.proofs.Views.{told_add, told_doing}
use Rattle.spg_desk.proofs.Sections.{section_grown, section_origin, section_did, endings_each, due_then}
use Rattle.spg_desk.proofs.Composing.{told_on, on_told, joined_to}

module _ {O Key Recon Cond : Type 0} where
  pub put_is : (d : Doing O Key Recon Cond) → IsPut d → (row : RowAt) × (key : Option Key) × (d ≡ puts row key)
  put_is idle is = absurd is
  put_is (puts row key) is = (row, key, refl)
  put_is (scans query) is = absurd is
  put_is sweeps is = absurd is

  -- the stage that the turn was lent, where the section begins
  pub stage_here : (v h : View (Event O Key Recon Cond)) (lent old : Seen O Key Recon Cond) (seat : ℕ) (d : Doing O Key Recon Cond) → h ≡ record v { seen = lent.journal } → old ≡ lent → seat ≡ h.number → IsStageFor d (stage_at lent v.number) → IsStageFor d (stage_at old seat)
  stage_here v h lent old seat d view is number stage =
      let its : seat ≡ v.number = number ∙ ap (λ (z : View (Event O Key Recon Cond)). z.number) view in
      subst (λ (z : Seen O Key Recon Cond × ℕ). IsStageFor d (stage_at z.0 z.1)) (λ i. (sym is i, sym its i)) stage

  pub on_doing : (v w : View (Event O Key Recon Cond)) → IsOn v w → doing_at w ≡ doing_at v
  on_doing v w on = ap doing_at on.0

  pub on_put : (v w : View (Event O Key Recon Cond)) → IsOn v w → IsPut (doing_at v) → IsPut (doing_at w)
  on_put v w on is = subst IsPut (sym (on_doing v w on)) is

  pub still_on : (m : Meaning Key Recon Cond) (u v w : View (Event O Key Recon Cond)) (span : Span) → IsOn u v → Told m v w span [] → IsOn u w
  still_on m u v w span on told = told_on m u w span (on_told m u v w span [] on told)

  abbrev look_events : ℕ → RowAt → Looked O Key Recon Cond → List (Event O Key Recon Cond)
  look_events n row (looked.Stepped end) = endings n row end
  look_events n row (looked.Choose spotted) = []
  look_events n row (looked.Part bunch) = []

  look_each : (row : RowAt) (l : Looked O Key Recon Cond) (n : ℕ) → AllByRecursion (λ (e : Event O Key Recon Cond). seat_of e ≡ n) (look_events n row l)
  look_each row (looked.Stepped end) n = endings_each (λ k. endings k row end) row end (λ k. refl) n
  look_each row (looked.Choose spotted) n = tt
  look_each row (looked.Part bunch) n = tt

module _ {O Key Recon Cond : Type 0} (m : Meaning Key Recon Cond) where
  look_adds : (old new : Seen O Key Recon Cond) (seat : ℕ) (row : RowAt) (key : Option Key) (l : Looked O Key Recon Cond) → LooksPut m old new seat row key l → Adds old new (look_events seat row l)
  look_adds old new seat row key (looked.Stepped end) did = did.0
  look_adds old new seat row key (looked.Choose spotted) did = did
  look_adds old new seat row key (looked.Part bunch) did = did.0

  pub look_grown : (v h : View (Event O Key Recon Cond)) (lent old new : Seen O Key Recon Cond) (seat : ℕ) (l : Looked O Key Recon Cond) → h ≡ record v { seen = lent.journal } → old ≡ lent → seat ≡ h.number → IsStageFor (doing_at v) (stage_at lent v.number) → IsPut (doing_at v)
      → ((row : RowAt) (key : Option Key) → IsPutting row key (stage_at old seat) → LooksPut m old new seat row key l)
      → (more : List (Event O Key Recon Cond)) × (new.journal ≡ h.seen ++ more) × AllByRecursion (λ (e : Event O Key Recon Cond). seat_of e ≡ h.number) more
  look_grown v h lent old new seat l view is number stage putting did =
      let (row, key, does) = put_is (doing_at v) putting in
      let here : IsPutting row key (stage_at old seat) = stage_here v h lent old seat (puts row key) view is number (subst (λ (d : Doing O Key Recon Cond). IsStageFor d (stage_at lent v.number)) does stage) in
      section_grown v h lent old new seat (λ n. look_events n row l) view is number (look_each row l) (look_adds old new seat row key l (did row key here))

  pub look_origin : (v h : View (Event O Key Recon Cond)) (lent old new : Seen O Key Recon Cond) (seat : ℕ) (l : Looked O Key Recon Cond) → h ≡ record v { seen = lent.journal } → old ≡ lent → seat ≡ h.number → IsStageFor (doing_at v) (stage_at lent v.number) → IsPut (doing_at v)
      → ((row : RowAt) (key : Option Key) → IsPutting row key (stage_at old seat) → LooksPut m old new seat row key l) → lent.origin ≡ h.origin → new.origin ≡ h.origin
  look_origin v h lent old new seat l view is number stage putting did origin =
      let (row, key, does) = put_is (doing_at v) putting in
      let here : IsPutting row key (stage_at old seat) = stage_here v h lent old seat (puts row key) view is number (subst (λ (d : Doing O Key Recon Cond). IsStageFor d (stage_at lent v.number)) does stage) in
      section_origin h lent old new (look_events seat row l) is origin (look_adds old new seat row key l (did row key here))

  look_one : (v h w : View (Event O Key Recon Cond)) (lent old new : Seen O Key Recon Cond) (seat : ℕ) (span : Span) (l : Looked O Key Recon Cond) (row : RowAt) (key : Option Key) → h ≡ record v { seen = lent.journal } → old ≡ lent → seat ≡ h.number → Watched v.number v.seen lent.journal → IsStageFor (doing_at v) (stage_at lent v.number) → doing_at v ≡ puts row key
      → ((r : RowAt) (k : Option Key) → IsPutting r k (stage_at old seat) → LooksPut m old new seat r k l) → Told m h w span (drop (length h.seen) new.journal) → LooksPut m old new seat row key l × Told m v w span (look_events v.number row l)
  look_one v h w lent old new seat span l row key view is number watched stage does did told =
      let here : IsPutting row key (stage_at old seat) = stage_here v h lent old seat (puts row key) view is number (subst (λ (d : Doing O Key Recon Cond). IsStageFor d (stage_at lent v.number)) does stage) in
      let looks : LooksPut m old new seat row key l = did row key here in
      (looks, section_did m v h w lent old new seat span (λ n. look_events n row l) view is number watched (look_adds old new seat row key l looks) told)

  pub look_told : (v h w : View (Event O Key Recon Cond)) (lent old new : Seen O Key Recon Cond) (seat : ℕ) (span : Span) (l : Looked O Key Recon Cond) → h ≡ record v { seen = lent.journal } → old ≡ lent → seat ≡ h.number → Watched v.number v.seen lent.journal → IsStageFor (doing_at v) (stage_at lent v.number) → IsPut (doing_at v)
      → ((row : RowAt) (key : Option Key) → IsPutting row key (stage_at old seat) → LooksPut m old new seat row key l) → lent.origin ≡ h.origin → w.seen ≡ new.journal → span ≡ span_at (length h.seen) (length w.seen) → Told m h w span (drop (length h.seen) new.journal) → TellsLook m v w span l
  look_told v h w lent old new seat span (looked.Stepped end) view is number watched stage putting did origin seen at told = λ row key does.
      let both = look_one v h w lent old new seat span (looked.Stepped end) row key view is number watched stage does did told in
      let same : old.origin ≡ v.origin = ap (λ (o : Seen O Key Recon Cond). o.origin) is ∙ (origin ∙ ap (λ (z : View (Event O Key Recon Cond)). z.origin) view) in
      (both.1, due_then m h w old new seat row key end span both.0.0 seen at v.origin same both.0.1)
  look_told v h w lent old new seat span (looked.Choose spotted) view is number watched stage putting did origin seen at told =
      let (row, key, does) = put_is (doing_at v) putting in
      (look_one v h w lent old new seat span (looked.Choose spotted) row key view is number watched stage does did told).1
  look_told v h w lent old new seat span (looked.Part bunch) view is number watched stage putting did origin seen at told =
      let (row, key, does) = put_is (doing_at v) putting in
      let both = look_one v h w lent old new seat span (looked.Part bunch) row key view is number watched stage does did told in
      (both.1, both.0.1)

  -- after a refusal that changed nothing
  pub refused_puts : (old mid new : Seen O Key Recon Cond) (seat : ℕ) (end : Option Ended) → mid ≡ old → ((row : RowAt) (key : Option Key) → IsPutting row key (stage_at mid seat) → StepsPut m mid new seat row key end) → (row : RowAt) (key : Option Key) → IsPutting row key (stage_at old seat) → StepsPut m old new seat row key end
  refused_puts old mid new seat end same steps = subst (λ (s : Seen O Key Recon Cond). (row : RowAt) (key : Option Key) → IsPutting row key (stage_at s seat) → StepsPut m s new seat row key end) same steps

  -- ---- sections one after another

  pub on_puts : (v w x : View (Event O Key Recon Cond)) (span : Span) (end : Option Ended) → IsOn v w → TellsPut m w x span end → TellsPut m v x span end
  on_puts v w x span end on tells = λ row key does.
      let number : w.number ≡ v.number = ap (λ (z : View (Event O Key Recon Cond)). z.number) on.0 in
      let both = tells row key (on_doing v w on ∙ does) in
      let origin : w.origin ≡ v.origin = ap (λ (z : View (Event O Key Recon Cond)). z.origin) on.0 in
      (on_told m v w x span (endings v.number row end) on (subst (λ (n : ℕ). Told m w x span (endings n row end)) number both.0), subst (λ (o : Origin). IsDue m o key (past_at span.to x.seen) end) origin both.1)

  -- a section that did not end the insert was only a look
  pub puts_on : (u v w : View (Event O Key Recon Cond)) (span : Span) → IsOn u v → IsPut (doing_at v) → TellsPut m v w span None → IsOn u w
  puts_on u v w span on putting tells =
      let (row, key, does) = put_is (doing_at v) putting in
      still_on m u v w span on (tells row key does).0

  pub gives_up_put : (v w : View (Event O Key Recon Cond)) (span : Span) (d : Doing O Key Recon Cond) → doing_at v ≡ d → ((row : RowAt) (key : Option Key) → d ≡ puts row key → Told m v w span (endings v.number row (Some ended.Refused))) → TellsPut m v w span (Some ended.Refused)
  gives_up_put v w span d same told = λ row key does. (told row key (sym same ∙ does), tt)

  -- the insert opened, and has ended
  pub insert_doing : (v w : View (Event O Key Recon Cond)) (span : Span) (row : RowAt) (key : Option Key) → Told m v w span (OpenInsert v.number row key ∷ []) → doing_at w ≡ puts row key
  insert_doing v w span row key told = told_doing m v w span (OpenInsert v.number row key ∷ []) told ∙ (rw (eq-eqb v.number v.number refl) refl)

  -- one that was not opened has done nothing
  pub refused_told : (v w : View (Event O Key Recon Cond)) (span : Span) (row : RowAt) (key : Option Key) (refused : OpenRefused) → OpensPut m v w span row key (Err refused) → Told m v w span []
  refused_told v w span row key open_refused.RowUsed h = h.0
  refused_told v w span row key (open_refused.RowHeld by) h = h.0
  refused_told v w span row key open_refused.Memory h = h

  insert_both : (v w x : View (Event O Key Recon Cond)) (first last : Span) (row : RowAt) (key : Option Key) (end : Ended) → Told m v w first (OpenInsert v.number row key ∷ []) → TellsPut m w x last (Some end) → Told m v x (joined first last) (OpenInsert v.number row key ∷ ending v.number row end ∷ []) × IsDue m v.origin key (past_at (joined first last).to x.seen) (Some end)
  insert_both v w x first last row key end told tells =
      let number : w.number ≡ v.number = ap (λ (z : View (Event O Key Recon Cond)). z.number) told.same in
      let origin : w.origin ≡ v.origin = ap (λ (z : View (Event O Key Recon Cond)). z.origin) told.same in
      let both = tells row key (insert_doing v w first row key told) in
      let to : (joined first last).to ≡ last.to = joined_to w.number w.seen x.seen first last (ending w.number row end) [] both.0.called in (
        told_add m v w x first last (OpenInsert v.number row key ∷ []) (ending v.number row end ∷ []) told (subst (λ (n : ℕ). Told m w x last (ending n row end ∷ [])) number both.0),
        subst (λ (n : ℕ). IsDue m v.origin key (past_at n x.seen) (Some end)) (sym to) (subst (λ (o : Origin). IsDue m o key (past_at last.to x.seen) (Some end)) origin both.1),
      )

  pub inserted : (v w x : View (Event O Key Recon Cond)) (first last : Span) (row : RowAt) (key : Option Key) (end : Ended) → Told m v w first (OpenInsert v.number row key ∷ []) → TellsPut m w x last (Some end) → DidInsert m v x row key (ended_insert end (joined first last))
  inserted v w x first last row key ended.Put told tells = (insert_both v w x first last row key ended.Put told tells).0
  inserted v w x first last row key ended.Full told tells = insert_both v w x first last row key ended.Full told tells
  inserted v w x first last row key ended.Clock told tells = insert_both v w x first last row key ended.Clock told tells
  inserted v w x first last row key ended.Refused told tells = inr (insert_both v w x first last row key ended.Refused told tells).0

  pub insert_idle : (v w x : View (Event O Key Recon Cond)) (first last : Span) (row : RowAt) (key : Option Key) (end : Ended) → Told m v w first (OpenInsert v.number row key ∷ []) → TellsPut m w x last (Some end) → doing_at x ≡ idle
  insert_idle v w x first last row key end told tells =
      let both = tells row key (insert_doing v w first row key told) in
      told_doing m w x last (ending w.number row end ∷ []) both.0 ∙ ends w.number (doing_at w) end
    where
      ends : (n : ℕ) (d : Doing O Key Recon Cond) (e : Ended) → doing_after n d (ending n row e ∷ []) ≡ idle
      ends n d ended.Put = rw (eq-eqb n n refl) refl
      ends n d ended.Full = rw (eq-eqb n n refl) refl
      ends n d ended.Clock = rw (eq-eqb n n refl) refl
      ends n d ended.Refused = rw (eq-eqb n n refl) refl
