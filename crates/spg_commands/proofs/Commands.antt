-- What a whole call does is what its command does.
use Rattle.std.specs.Prelude.{map, is_none}
use Rattle.std.proofs.Common.{◌≡◌, ◌<◌, ◌+◌, ◌^◌, inl, inr, ℕ, Bool, true, false, List, [], ◌∷◌, ◌++◌, length, Option, Some, None, Result, Ok, Err, OnOk, IfOk, OnErr, IfErr, refl, sym, ap, ◌∙◌, subst, arith}
use Rattle.std.specs.List.{AllByRecursion}
use Rattle.spg_base.specs.Row.{RowAt}
use Rattle.spg_base.specs.declared.recorded.Origin.{Origin}
use Rattle.spg_base.specs.declared.memory.Memory.{Memory as NoMemory}
use Rattle.spg_opclass.specs.Meaning.{Meaning}
use Rattle.spg_opclass.specs.declared.query.Query.{Query}
use Rattle.spg_forest.specs.Walk.{weight_of}
use Rattle.spg_rows.specs.declared.event.Event.{Event}
use Rattle.spg_rows.specs.declared.event.Event.TheVariants.{OpenInsert, Put, Drop, Kill, OpenScan, CloseScan, OpenVacuum, Sweep, CloseVacuum, Leave}
use Rattle.spg_rows.specs.declared.event.Why.{Why}
use Rattle.spg_rows.specs.History.{History, nothing, vacuuming, seat_of, open_of}
use Rattle.spg_rows.specs.Right.{Right}
use Rattle.spg_rows.specs.Rows.{present_count}
use Rattle.spg_tree.specs.Table.{sheets_of}
use Rattle.spg_scan.specs.declared.walk.Closed.{Closed}
use Rattle.spg_seats.specs.Opening.{sweeps}
use Rattle.spg_core.specs.Stage.{free}
use Rattle.spg_core.specs.Seen.{Seen, stage_at, past_of}
use Rattle.spg_core.specs.Weight.{opened_keys}
use Rattle.spg_whole.specs.declared.refused.InsertRefused.{InsertRefused}
use Rattle.spg_whole.specs.declared.refused.InsertRefused.TheVariants as refused
use Rattle.spg_whole.specs.Calls.{AllClosed, Did, Inserts, KeepsOut, Deletes, Finds, FindsNone, Vacuums, VacuumsNot, swept_then}
use Rattle.spg_whole.proofs.Lists.{each_append}
use Rattle.spg_whole.proofs.Sections.{sweeps_by}
use Rattle.spg_script.specs.declared.any_key.AnyKey.{AnyKey}
use Rattle.spg_script.specs.declared.any_query.AnyQuery.{AnyQuery}
use Rattle.spg_script.specs.declared.command.Command.{Command}
use Rattle.spg_script.specs.declared.command.Command.TheVariants.{Insert, Delete, Find, Vacuum}
use Rattle.spg_script.specs.Speech.{Speech, key_or_null_in, query_in}
use Rattle.spg_report.specs.declared.outcome.Outcome.{Outcome}
use Rattle.spg_report.specs.declared.outcome.Outcome.TheVariants as outcome
use Rattle.spg_report.specs.declared.record.Record.{Record}
use Rattle.spg_histories.specs.Run.{Does}
use Rattle.spg_histories.specs.Telling.{TellsOf, LeafIs, is_quiet_command}
use Rattle.spg_histories.specs.Causes.{IsDue, IsCaused, PrintsPages}
use Rattle.spg_commands.specs.Acted.{Acts, task_of}
use Rattle.spg_commands.specs.Outcomes.{insert_outcome, delete_outcome, find_outcome, vacuum_outcome}
use Rattle.spg_commands.proofs.Keys.{same_null}
use Rattle.spg_commands.proofs.Rows.{unclaimed}
use Rattle.spg_commands.proofs.Acting.{Spans, acts, rests, grew_into}

module _ {O Key Recon Cond : Type 0} (m : Meaning Key Recon Cond) (speech : Speech Key Cond) (s0 s1 : Seen O Key Recon Cond) (seat : ℕ) (alone : Bool) (idle : stage_at s0 seat ≡ free) (idle_then : stage_at s1 seat ≡ free) (right : Right m s1.journal) where
  abbrev By : List (Event O Key Recon Cond) → Type 0
  By events = AllByRecursion (λ (e : Event O Key Recon Cond). seat_of e ≡ seat) events

  pub did : (c : Command) (o : Outcome) (r : Record) → Spans r o (length s0.journal) (length s1.journal) → (events : List (Event O Key Recon Cond)) → Did s0 s1 events → By events
      → ((block : ℕ) → Does {O = O} {Key = Key} {Recon = Recon} {Cond = Cond} speech (task_of block seat alone c) (past_of s0) events o)
      → IsDue m s0.origin c (past_of s0) (past_of s1) o → IsCaused s0.origin.limit (sheets_of s1.table) o → (is_quiet_command c ≡ true → sheets_of s1.table ≡ sheets_of s0.table) → (alone ≡ true → TellsOf O m speech (sheets_of s1.table) c o)
      → LeafIs (present_count (past_of s0)) o → PrintsPages (sheets_of s1.table) o → Acts m speech s0 s1 seat alone c r
  did c o r spans events D by does due caused quiet tells leaf prints = acts m speech s0 s1 seat alone c o r spans events D.journal by does due caused (grew_into s0.table s1.table D.grows) D.origin quiet tells leaf prints idle_then

  -- ---- inserts

  module _ (row : RowAt) (key : Option AnyKey) (k : Option Key) (named : key_or_null_in speech key ≡ Some k) (limit : s0.table.limit ≡ s0.origin.limit) (r : Record) where
    heavy : 8160 < weight_of m (is_none k) (opened_keys (past_of s1)) → 8160 < weight_of m (is_none key) (opened_keys (past_of s1))
    heavy is = subst (λ (b : Bool). 8160 < weight_of m b (opened_keys (past_of s1))) (same_null speech key k named) is

    pub inserted : (result : Result (Unit {0}) InsertRefused) → OnOk result (Inserts s0 s1 seat row k) → IfErr result (λ e. KeepsOut m s0 s1 seat row k e) → Spans r (insert_outcome result) (length s0.journal) (length s1.journal) → Acts m speech s0 s1 seat alone (Insert row key) r
    inserted (Ok x) D e spans = did (Insert row key) outcome.Added r spans (OpenInsert seat row k ∷ Put seat row ∷ []) D (refl, (refl, tt)) (λ block. (k, named, refl))
        (unclaimed m s0.journal s1.journal seat row k (Put seat row) D.journal right) tt (λ q. absurd (cc)) (λ q. tt) tt tt
    inserted (Err refused.RowUsed) D (same, used) spans = rests m speech s0 s1 seat alone (Insert row key) outcome.RowUsed r spans same idle (λ block. (used, refl)) tt tt (λ q. tt) tt tt
    inserted (Err refused.IndexFull) D (G, weighs, near) spans = did (Insert row key) outcome.Full r spans (OpenInsert seat row k ∷ Drop seat row _ ∷ []) G (refl, (refl, tt)) (λ block. (k, named, refl))
        (unclaimed m s0.journal s1.journal seat row k (Drop seat row _) G.journal right, λ loaded. heavy (weighs (ap (λ (o : Origin). o.loaded) G.origin ∙ loaded))) (omega (arith, near, limit, G.grows.0)) (λ q. absurd (cc)) (λ q. tt) tt tt
    inserted (Err refused.ClockFull) D (G, weighs, end) spans = did (Insert row key) outcome.ClockFull r spans (OpenInsert seat row k ∷ Drop seat row _ ∷ []) G (refl, (refl, tt)) (λ block. (k, named, refl))
        (unclaimed m s0.journal s1.journal seat row k (Drop seat row _) G.journal right, λ loaded. heavy (weighs (ap (λ (o : Origin). o.loaded) G.origin ∙ loaded))) (omega (arith, end)) (λ q. absurd (cc)) (λ q. tt) tt tt
    inserted (Err refused.Memory) D (inl same) spans = rests m speech s0 s1 seat alone (Insert row key) outcome.Memory r spans same idle (λ block. inl refl) tt tt (λ q. tt) tt tt
    inserted (Err refused.Memory) D (inr G) spans = did (Insert row key) outcome.Memory r spans (OpenInsert seat row k ∷ Drop seat row _ ∷ []) G (refl, (refl, tt)) (λ block. inr (k, named, refl)) tt tt (λ q. absurd (cc)) (λ q. tt) tt tt

  -- ---- deletes

  pub deleted : (row : RowAt) (r : Record) (result : Result Bool NoMemory) → IfOk result (λ killed. Deletes s0 s1 seat row killed) → OnErr result (s1 ≡ s0) → Spans r (delete_outcome result) (length s0.journal) (length s1.journal) → Acts m speech s0 s1 seat alone (Delete row) r
  deleted row r (Ok true) (live, D, pages) e spans = did (Delete row) outcome.Killed r spans (Kill seat row ∷ []) D (refl, tt) (λ block. refl) live tt (λ q. absurd (cc)) (λ q. tt) tt tt
  deleted row r (Ok false) (other, same) e spans = rests m speech s0 s1 seat alone (Delete row) outcome.NotLive r spans same idle (λ block. (other, refl)) tt tt (λ q. tt) tt tt
  deleted row r (Err n) o same spans = rests m speech s0 s1 seat alone (Delete row) outcome.Memory r spans same idle (λ block. inl refl) tt tt (λ q. tt) tt tt

  -- ---- vacuums

  sweeps_map : (rows : List RowAt) → ◌≡◌ {A = List (Event O Key Recon Cond)} (sweeps seat rows) (map (λ x. Sweep seat x) rows)
  sweeps_map [] = refl
  sweeps_map (row ∷ rows) = ap (λ (l : List (Event O Key Recon Cond)). Sweep seat row ∷ l) (sweeps_map rows)

  swept_by : (rows : List RowAt) (last : Event O Key Recon Cond) → seat_of last ≡ seat → By (swept_then seat rows last)
  swept_by rows last by = (refl, each_append (λ (e : Event O Key Recon Cond). seat_of e ≡ seat) (sweeps seat rows) (last ∷ []) (sweeps_by O Key Recon Cond seat rows) (by, tt))

  then_map : (rows : List RowAt) (last : Event O Key Recon Cond) → swept_then seat rows last ≡ OpenVacuum seat ∷ (map (λ x. Sweep seat x) rows ++ last ∷ [])
  then_map rows last = ap (λ (l : List (Event O Key Recon Cond)). OpenVacuum seat ∷ (l ++ last ∷ [])) (sweeps_map rows)

  pub vacuumed : AllClosed (past_of s0) → (r : Record) (result : Result ℕ NoMemory) → IfOk result (λ n. Vacuums s0 s1 seat n) → OnErr result (VacuumsNot s0 s1 seat) → Spans r (vacuum_outcome result) (length s0.journal) (length s1.journal) → Acts m speech s0 s1 seat alone Vacuum r
  vacuumed closed r (Ok n) V e spans = did Vacuum (outcome.Vacuumed n) r spans (swept_then seat V.rows (CloseVacuum seat n)) V.did (swept_by V.rows (CloseVacuum seat n) refl) (λ block. (V.rows, V.count, then_map V.rows (CloseVacuum seat n)))
      (λ other opened is. let clash : nothing ≡ vacuuming opened = sym (closed other) ∙ is in absurd (cc clash)) tt (λ q. absurd (cc)) (λ q. tt) tt tt
  vacuumed closed r (Err x) V (inl same) spans = rests m speech s0 s1 seat alone Vacuum outcome.Memory r spans same idle (λ block. inl refl) tt tt (λ q. tt) tt tt
  vacuumed closed r (Err x) V (inr (rows, D)) spans = did Vacuum outcome.Memory r spans (swept_then seat rows (Leave seat)) D (swept_by rows (Leave seat) refl) (λ block. inr (length rows, (rows, refl, then_map rows (Leave seat)))) tt tt (λ q. absurd (cc)) (λ q. tt) tt tt

-- ---- searches, outside lanes

module _ {O Key Recon Cond : Type 0} (m : Meaning Key Recon Cond) (speech : Speech Key Cond) (s0 s1 : Seen O Key Recon Cond) (seat : ℕ) (idle : stage_at s0 seat ≡ free) (idle_then : stage_at s1 seat ≡ free) (right : Right m s1.journal) where
  pub found : (query : AnyQuery) (q : Query O Key Recon Cond) → query_in speech query ≡ Some q → (r : Record) (result : Result Closed NoMemory) → IfOk result (λ closed. Finds m s0 s1 seat q closed) → OnErr result (FindsNone s0 s1 seat q)
      → Spans r (find_outcome result) (length s0.journal) (length s1.journal) → Acts m speech s0 s1 seat true (Find query) r
  found query q asked r (Ok closed) F e spans =
      did m speech s0 s1 seat true idle idle_then right (Find query) (outcome.Found closed.rows (Some closed.met)) r spans (OpenScan seat q ∷ CloseScan seat closed.rows ∷ []) F.rows.did (refl, (refl, tt)) (λ block. ((q, asked, refl), refl)) tt tt (λ z. F.rows.pages.0)
      (λ z. (q, closed.met, asked, F.walk, refl)) tt tt
  found query q asked r (Err n) F (inl same) spans = rests m speech s0 s1 seat true (Find query) outcome.Memory r spans same idle (λ block. inl refl) tt tt (λ z. tt) tt tt
  found query q asked r (Err n) F (inr (D, pages)) spans = did m speech s0 s1 seat true idle idle_then right (Find query) outcome.Memory r spans (OpenScan seat q ∷ Leave seat ∷ []) D (refl, (refl, tt)) (λ block. inr (q, asked, refl)) tt tt (λ z. pages.0) (λ z. tt) tt tt
