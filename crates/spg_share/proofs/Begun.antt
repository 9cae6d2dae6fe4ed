-- A call of the desk leaves what its seat knew first.
use Rattle.std.proofs.Common.{◌≡◌, ◌≤◌, inl, inr, ℕ, List, [], take, length, Option, Some, sym, ap, ◌∙◌}
use Rattle.std.proofs.lemmas.List.{take-append-le}
use Rattle.spg_base.specs.Row.{RowAt}
use Rattle.spg_base.specs.declared.point.Point.{Point}
use Rattle.spg_base.specs.declared.names.Span.{Span}
use Rattle.spg_opclass.specs.Meaning.{Meaning}
use Rattle.spg_opclass.specs.declared.class.OpClass.{Ghosts}
use Rattle.spg_opclass.specs.declared.query.Query.{Query}
use Rattle.spg_rows.specs.declared.event.Event.{Event}
use Rattle.spg_turn.specs.declared.rule.View.{View}
use Rattle.spg_desk.specs.Told.{Told}
use Rattle.spg_desk.specs.Answers.{DidInsert, DidKill, DidFind, DidNear, DidVacuum}
use Rattle.spg_desk.specs.Looks.{DidAskKey, DidCopy}
use Rattle.spg_desk.specs.declared.answer.InsertAnswer.{InsertAnswer}
use Rattle.spg_desk.specs.declared.answer.InsertAnswer.TheVariants as inserts
use Rattle.spg_desk.specs.declared.answer.KillAnswer.{KillAnswer}
use Rattle.spg_desk.specs.declared.answer.KillAnswer.TheVariants as kills
use Rattle.spg_desk.specs.declared.answer.FindAnswer.{FindAnswer}
use Rattle.spg_desk.specs.declared.answer.FindAnswer.TheVariants as finds
use Rattle.spg_desk.specs.declared.answer.NearAnswer.{NearAnswer}
use Rattle.spg_desk.specs.declared.answer.NearAnswer.TheVariants as nears
use Rattle.spg_desk.specs.declared.answer.VacuumAnswer.{VacuumAnswer}
use Rattle.spg_desk.specs.declared.answer.VacuumAnswer.TheVariants as vacuums
use Rattle.spg_desk.specs.declared.looked.KeyAnswer.{KeyAnswer}
use Rattle.spg_desk.specs.declared.looked.KeyAnswer.TheVariants as keys
use Rattle.spg_desk.specs.declared.looked.PagesAnswer.{PagesAnswer}
use Rattle.spg_desk.specs.declared.looked.PagesAnswer.TheVariants as copies
use Rattle.spg_desk.specs.declared.pass.Pass.{Pass}
use Rattle.spg_desk.specs.Passes.{desk_of, view_of}
use Rattle.spg_share.specs.Seats.{begun, pass_name}

module _ {O Key Recon Cond : Type 0} {laws : Ghosts O Key Recon Cond} where
  pub same_name : (old : Option (Pass O Key Recon Cond laws)) (p q : Pass O Key Recon Cond laws) → old ≡ Some p → desk_of q ≡ desk_of p → begun (view_of q) ≡ begun (view_of p) → pass_name (Some q) ≡ pass_name old
  same_name old p q had own first = (λ i. Some (own i, first i)) ∙ sym (ap pass_name had)

module _ {O Key Recon Cond : Type 0} (m : Meaning Key Recon Cond) (v w : View (Event O Key Recon Cond)) (based : v.base ≤ length v.seen) where
  pub told_begun : (span : Span) (events : List (Event O Key Recon Cond)) → Told m v w span events → begun w ≡ begun v
  told_begun span events told =
      let (more, grew) = told.called.grew in
      ap begun told.same ∙ ap (λ (l : List (Event O Key Recon Cond)). record v { seen = l; mine = [] }) (ap (take v.base) grew ∙ take-append-le v.base v.seen more based)

  pub insert_begun : (row : RowAt) (key : Option Key) (answer : InsertAnswer) → DidInsert m v w row key answer → begun w ≡ begun v
  insert_begun row key (inserts.Added span) told = told_begun span _ told
  insert_begun row key (inserts.RowUsed span) told = told_begun span _ told.0
  insert_begun row key (inserts.RowHeld by span) told = told_begun span _ told.0
  insert_begun row key (inserts.IndexFull span) told = told_begun span _ told.0
  insert_begun row key (inserts.ClockFull span) told = told_begun span _ told.0
  insert_begun row key (inserts.Memory span) (inl told) = told_begun span _ told
  insert_begun row key (inserts.Memory span) (inr told) = told_begun span _ told

  pub kill_begun : (row : RowAt) (answer : KillAnswer) → DidKill m v w row answer → begun w ≡ begun v
  kill_begun row (kills.Killed span) told = told_begun span _ told
  kill_begun row (kills.NotLive span) told = told_begun span _ told.0
  kill_begun row (kills.Memory span) told = told_begun span _ told.0

  pub find_begun : (query : Query O Key Recon Cond) (answer : FindAnswer) → DidFind m v w query answer → begun w ≡ begun v
  find_begun query (finds.Found rows span) told = told_begun span _ told
  find_begun query (finds.Memory span) (inl told) = told_begun span _ told
  find_begun query (finds.Memory span) (inr told) = told_begun span _ told

  pub vacuum_begun : (answer : VacuumAnswer) → DidVacuum m v w answer → begun w ≡ begun v
  vacuum_begun (vacuums.Vacuumed swept span) told = told_begun span _ told.2
  vacuum_begun (vacuums.Open by span) told = told_begun span _ told.0
  vacuum_begun (vacuums.Memory span) (inl told) = told_begun span _ told.0
  vacuum_begun (vacuums.Memory span) (inr told) = told_begun span _ told.1

  pub key_begun : (row : RowAt) (answer : KeyAnswer Key) → DidAskKey m v w row answer → begun w ≡ begun v
  key_begun row (keys.Copied key at) did = told_begun _ _ did.0.told
  key_begun row (keys.Memory at) did = told_begun _ _ did.told

  pub copy_begun : (answer : PagesAnswer) → DidCopy m v w answer → begun w ≡ begun v
  copy_begun (copies.Copied pages at) did = told_begun _ _ did.0.told
  copy_begun (copies.Memory at) did = told_begun _ _ did.told

module _ {O Recon Cond : Type 0} (m : Meaning Point Recon Cond) (v w : View (Event O Point Recon Cond)) (based : v.base ≤ length v.seen) where
  pub near_begun : (target : Point) (limit : ℕ) (answer : NearAnswer) → DidNear m v w target limit answer → begun w ≡ begun v
  near_begun target limit (nears.Near rows span) did = told_begun m v w based span [] did.0
  near_begun target limit (nears.Memory span) did = told_begun m v w based span [] did.0
