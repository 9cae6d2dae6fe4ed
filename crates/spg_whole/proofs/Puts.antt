-- An insert.
use Rattle.std.specs.Prelude.{is_none}
use Rattle.std.proofs.Common.{◌≡◌, ◌<◌, ◌+◌, ◌^◌, inl, inr, ℕ, List, [], ◌∷◌, ◌++◌, reverse, Option, Some, None, refl, sym, ap, ◌∙◌, subst}
use Rattle.std.proofs.lemmas.List.{reverse-append}
use Rattle.spg_base.specs.Row.{RowAt}
use Rattle.spg_base.specs.declared.recorded.Origin.{Origin}
use Rattle.spg_opclass.specs.Meaning.{Meaning}
use Rattle.spg_forest.specs.Walk.{weight_of}
use Rattle.spg_rows.specs.declared.event.Event.{Event}
use Rattle.spg_rows.specs.declared.event.Event.TheVariants.{OpenInsert, Put, Drop}
use Rattle.spg_rows.specs.declared.event.Why.{Why}
use Rattle.spg_rows.specs.declared.event.Why.TheVariants as why
use Rattle.spg_rows.specs.History.{nothing, open_of}
use Rattle.spg_rows.specs.Legal.{IsLegal}
use Rattle.spg_rows.specs.Rows.{held_by}
use Rattle.spg_rows.specs.Told.{IsUsed}
use Rattle.spg_rows.proofs.Told.{held_says}
use Rattle.spg_tree.specs.Table.{Table, sheets_of}
use Rattle.spg_core.specs.Stage.{Stage, free, descending, reading, sweeping, given_up, IsInserting}
use Rattle.spg_core.specs.Seen.{Seen, stage_at, past_of}
use Rattle.spg_core.specs.Stepping.{SamePages, IsNearLimit, Grows}
use Rattle.spg_core.specs.Sections.{OpensInsert, GivesUp}
use Rattle.spg_core.specs.Through.{IsInsertOf, StillInserts, PutsRow}
use Rattle.spg_core.specs.Weight.{opened_keys}
use Rattle.spg_core.proofs.Growing.{grows_as, grows_then}
use Rattle.spg_core.specs.declared.answer.OpenRefused.{OpenRefused}
use Rattle.spg_core.specs.declared.answer.OpenRefused.TheVariants as open_refused
use Rattle.spg_whole.specs.declared.refused.InsertRefused.{InsertRefused}
use Rattle.spg_whole.specs.Calls.{AllClosed, Did, Inserts, GaveUp, KeepsOut, IsOutgrown}
use Rattle.spg_whole.specs.Underway.{HasOutgrown, IsUnopened}
use Rattle.spg_whole.proofs.Lists.{two_events}
use Rattle.spg_whole.proofs.Alone.{OthersClosed, others_closed}
use Rattle.spg_whole.proofs.Closing.{ends_closed}

module _ {O Key Recon Cond : Type 0} where
  -- where nothing is open no row waits
  pub waits_not : (past : List (Event O Key Recon Cond)) (r : RowAt) (by : ℕ) → IsLegal past → AllClosed past → held_by r past ≡ Some by → ⊥
  waits_not past r by legal closed held =
      let (claimed, (life, sweeper, last, swept, how)) = (held_says past legal r by).0 held in
      elim how [
        | inl (same, (before, runs, long)) ↦ cc (sym (closed by) ∙ runs)
        | inr (v, ended, (at, before, query, was, then, now), lowest) ↦ cc (sym (closed by) ∙ now)
      ]

  pub held_then : (s0 s1 : Seen O Key Recon Cond) (row : RowAt) (by : ℕ) → s1 ≡ s0 → held_by row (past_of s0) ≡ Some by → held_by row (past_of s1) ≡ Some by
  held_then s0 s1 row by same held = ap (λ (s : Seen O Key Recon Cond). held_by row (past_of s)) same ∙ held

module _ {O Key Recon Cond : Type 0} (m : Meaning Key Recon Cond) where
  -- no insert was opened
  pub not_opened : (s0 s1 : Seen O Key Recon Cond) (seat : ℕ) (row : RowAt) (key : Option Key) (opened : OpenRefused) (e : InsertRefused) → IsUnopened opened e → s1 ≡ s0 → (opened ≡ open_refused.RowUsed → IsUsed (past_of s0) row) → KeepsOut m s0 s1 seat row key e
  not_opened s0 s1 seat row key open_refused.RowUsed e is same used = subst (KeepsOut m s0 s1 seat row key) (sym is) (same, used refl)
  not_opened s0 s1 seat row key (open_refused.RowHeld by) e is same used = absurd is
  not_opened s0 s1 seat row key open_refused.Memory e is same used = subst (KeepsOut m s0 s1 seat row key) (sym is) (inl same)

  drops : (seat : ℕ) (row : RowAt) (key : Option Key) (cause : Why) (stage : Stage O Key Recon Cond) → IsInsertOf row key stage → given_up seat stage cause ≡ Drop seat row cause
  drops seat row key cause free is = absurd is
  drops seat row key cause (descending k d) (a, b) = ap (λ (x : RowAt). Drop seat x cause) b
  drops seat row key cause (reading s) is = absurd is
  drops seat row key cause (sweeping v) is = absurd is

  module _ (s0 s1 : Seen O Key Recon Cond) (seat : ℕ) (row : RowAt) (k : Option Key) (opens : OpensInsert m s0 s1 seat row k) where
    inserts : IsInsertOf row k (stage_at s1 seat)
    inserts = go k opens
      where
        go : (k2 : Option Key) → OpensInsert m s0 s1 seat row k2 → IsInsertOf row k2 (stage_at s1 seat)
        go None o = subst (λ (s : Stage O Key Recon Cond). IsInsertOf row None s) (sym o.1) (refl, refl)
        go (Some x) o = subst (λ (s : Stage O Key Recon Cond). IsInsertOf row (Some x) s) (sym o.1) (refl, refl)

    is_inserting : (stage : Stage O Key Recon Cond) → IsInsertOf row k stage → IsInserting stage
    is_inserting free is = is
    is_inserting (descending key d) is = tt
    is_inserting (reading s) is = is
    is_inserting (sweeping v) is = is

    pub opened_inserting : IsInserting (stage_at s1 seat)
    opened_inserting = is_inserting (stage_at s1 seat) inserts

    pub still_inserting : (s2 : Seen O Key Recon Cond) → StillInserts s1 s2 seat → IsInserting (stage_at s2 seat)
    still_inserting s2 goes = is_inserting (stage_at s2 seat) (goes.insert row k inserts)

    pub not_free : (s2 : Seen O Key Recon Cond) → StillInserts s1 s2 seat → stage_at s2 seat ≡ free → ⊥
    not_free s2 goes is = subst (λ (s : Stage O Key Recon Cond). IsInsertOf row k s) is (goes.insert row k inserts)

    opened_journal : s1.journal ≡ s0.journal ++ OpenInsert seat row k ∷ []
    opened_journal = ap (λ (s : Seen O Key Recon Cond). s.journal) opens.0

    pub others_idle : AllClosed (past_of s0) → OthersClosed seat (past_of s1)
    others_idle closed = others_closed seat s0.journal s1.journal (OpenInsert seat row k) opened_journal refl closed

    opened_grew : (t2 : Table) → Grows s1.table t2 → Grows s0.table t2
    opened_grew t2 grown =
        let same : SamePages s0.table s1.table = (ap (λ (s : Seen O Key Recon Cond). sheets_of s.table) opens.0, ap (λ (s : Seen O Key Recon Cond). s.table.limit) opens.0) in
        grows_then s0.table s1.table t2 (grows_as s0.table s1.table same) grown

    pub put_done : (s2 : Seen O Key Recon Cond) → AllClosed (past_of s0) → PutsRow s1 s2 seat → Grows s1.table s2.table → Inserts s0 s2 seat row k
    put_done s2 closed puts grown =
        let last : s2.journal ≡ s1.journal ++ Put seat row ∷ [] = puts.journal row k inserts in
        let told : s2.journal ≡ s0.journal ++ OpenInsert seat row k ∷ Put seat row ∷ [] = two_events s0.journal s1.journal s2.journal (OpenInsert seat row k) (Put seat row) opened_journal last in
        record {
          journal = told;
          closed = ends_closed s0.journal s1.journal s2.journal (OpenInsert seat row k ∷ Put seat row ∷ []) (Put seat row) told last (λ past before. refl) (refl, (refl, tt)) closed;
          origin = puts.origin ∙ ap (λ (s : Seen O Key Recon Cond). s.origin) opens.0;
          class = puts.class ∙ ap (λ (s : Seen O Key Recon Cond). s.class) opens.0;
          grows = opened_grew s2.table grown;
        }

    -- the insert is given up
    module _ (cause : Why) (s2 s3 : Seen O Key Recon Cond) (goes : StillInserts s1 s2 seat) (gives : GivesUp s2 s3 seat cause) where
      dropped : s3.journal ≡ s1.journal ++ Drop seat row cause ∷ []
      dropped = ap (λ (s : Seen O Key Recon Cond). s.journal) gives.is ∙ ap (λ (e : Event O Key Recon Cond). s2.journal ++ e ∷ []) (drops seat row k cause (stage_at s2 seat) (goes.insert row k inserts))
          ∙ ap (λ (j : List (Event O Key Recon Cond)). j ++ Drop seat row cause ∷ []) goes.journal

      pub gave_up : AllClosed (past_of s0) → Grows s1.table s2.table → GaveUp s0 s3 seat row k cause
      gave_up closed grown =
          let told : s3.journal ≡ s0.journal ++ OpenInsert seat row k ∷ Drop seat row cause ∷ [] = two_events s0.journal s1.journal s3.journal (OpenInsert seat row k) (Drop seat row cause) opened_journal dropped in
          let same : SamePages s2.table s3.table = (ap sheets_of gives.table, ap (λ (t : Table). t.limit) gives.table) in
          record {
            journal = told;
            closed = ends_closed s0.journal s1.journal s3.journal (OpenInsert seat row k ∷ Drop seat row cause ∷ []) (Drop seat row cause) told dropped (λ past before. refl) (refl, (refl, tt)) closed;
            origin = ap (λ (s : Seen O Key Recon Cond). s.origin) gives.is ∙ goes.origin ∙ ap (λ (s : Seen O Key Recon Cond). s.origin) opens.0;
            class = ap (λ (s : Seen O Key Recon Cond). s.class) gives.is ∙ goes.class ∙ ap (λ (s : Seen O Key Recon Cond). s.class) opens.0;
            grows = opened_grew s3.table (grows_then s1.table s2.table s3.table grown (grows_as s2.table s3.table same));
          }

      same_keys : opened_keys (reverse s1.journal) ≡ opened_keys (reverse s3.journal)
      same_keys = sym (ap opened_keys (ap reverse dropped ∙ reverse-append s1.journal (Drop seat row cause ∷ [])))

      origin_then : s3.origin ≡ s1.origin
      origin_then = ap (λ (s : Seen O Key Recon Cond). s.origin) gives.is ∙ goes.origin

      pub heavy : HasOutgrown m s1 seat → IsOutgrown m k s3
      heavy outgrown = λ fresh. subst (λ (keys : List (Option Key)). 8160 < weight_of m (is_none k) keys) same_keys (outgrown row k inserts (sym (ap (λ (o : Origin). o.loaded) origin_then) ∙ fresh))

      pub near : IsNearLimit s2.table → IsNearLimit s3.table
      near is = subst IsNearLimit (sym gives.table) is

      pub at_end : s2.table.clock + 1 ≡ 2 ^ 48 → s3.table.clock + 1 ≡ 2 ^ 48
      at_end is = subst (λ (t : Table). t.clock + 1 ≡ 2 ^ 48) (sym gives.table) is
