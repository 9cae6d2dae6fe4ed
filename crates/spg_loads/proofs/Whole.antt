-- Which rows of a generated load stand at its end, where all were added.
use Rattle.std.proofs.Common.{◌≡◌, ◌≢◌, ◌<◌, ◌≤◌, ◌+◌, ◌-◌, ◌%◌, ◌==◌, ◌&&◌, not, ℕ, Bool, true, false, List, [], ◌∷◌, ◌++◌, length, take, drop, Option, Some, None, refl, sym, ap, ◌∙◌, subst, arith, inl, inr}
use Rattle.std.specs.Prelude.{count_by, is_some, is_none}
use Rattle.std.specs.List.{AllZip, range_with_len}
use Rattle.std.proofs.lemmas.Bool.{cases_lt, eq-eqb}
use Rattle.std.proofs.lemmas.Bool.Decides.{eqb_tells}
use Rattle.spg_base.specs.Row.{RowAt}
use Rattle.spg_opclass.specs.Meaning.{Meaning}
use Rattle.spg_opclass.specs.declared.query.Query.{Query}
use Rattle.spg_rows.specs.declared.event.Event.{Event}
use Rattle.spg_rows.specs.History.{History, own}
use Rattle.spg_rows.specs.Rows.{is_live, live_in}
use Rattle.spg_rows.specs.Right.{Right}
use Rattle.spg_rows.proofs.RowOrder.{same_row-refl}
use Rattle.spg_script.specs.declared.any_key.AnyKey.{AnyKey}
use Rattle.spg_script.specs.declared.any_query.AnyQuery.{AnyQuery}
use Rattle.spg_script.specs.declared.any_query.AnyQuery.TheVariants.{All}
use Rattle.spg_script.specs.declared.class_name.ClassName.{ClassName}
use Rattle.spg_script.specs.declared.command.Command.{Command}
use Rattle.spg_script.specs.declared.command.Command.TheVariants as asked
use Rattle.spg_script.specs.Generated.{load_key, load_row, first_query, second_query, generated}
use Rattle.spg_script.specs.Speech.{Speech}
use Rattle.spg_report.specs.declared.outcome.Outcome.{Outcome}
use Rattle.spg_report.specs.declared.outcome.Outcome.TheVariants as outcome
use Rattle.spg_report.specs.declared.record.Record.{Record}
use Rattle.spg_histories.specs.Tasks.{Task, tasks_of}
use Rattle.spg_histories.specs.Run.{Does, Did, Follows, AreInOrder, past_at, between}
use Rattle.spg_loads.specs.Loads.{is_added, added_count, LoadRan}
use Rattle.spg_loads.specs.Finds.{is_third, matches_some, is_kept, inserts_row, deletes_row, is_killed, adds_row, was_added, ends_row, was_killed, is_standing, GivesWanted, AllGive}
use Rattle.spg_loads.proofs.Counting.{one, count}
use Rattle.spg_loads.proofs.Sums.{count_reverse, count_take, is_insert}
use Rattle.spg_loads.proofs.Zips.{InZip, zip_all, zip_in, all_in, task_in, pair_there, pair_some, zip_split, order_left}
use Rattle.spg_loads.proofs.Generated.{weigh, weigh_append}
use Rattle.spg_loads.proofs.Asked.{front, rear, in_parts, Asks, front_behind, insert_asked, delete_asked, paired, weighed_in, weighed_once}
use Rattle.spg_loads.proofs.Numbers.{number_back, counted_same}
use Rattle.spg_loads.proofs.Lives.{puts_row, kills_row, put_in, kill_in, put_field, kill_field, seen, unseen}
use Rattle.spg_loads.proofs.Events.{IsKilled, kill_named}
use Rattle.spg_loads.proofs.Loads.{IsAddedInsert, inserts_added}
use Rattle.spg_loads.proofs.Found.{insert_of, delete_of, outcome_added, by_case, both, both_true, at_front, asks_all, events, legal_at, few_at, put_by, finds}

-- a task and a record before all others
abbrev first_task : Task
first_task = record { block = 9; seat = 0; alone = false; command = asked.Vacuum }

abbrev first_record : Record
first_record = record { span = record { from = 0; to = 0 }; outcome = outcome.Memory }

-- a row that was added stands unless it was killed
kept_of : (a b d c : Bool) → a ≡ true → b ≡ d → (a && (not b && c)) ≡ (not d && c)
kept_of true b d c e f = ap (λ x. not x && c) f
kept_of false b d c e f = cc

module _ {O Key Recon Cond : Type 0} (speech : Speech Key Cond) (size seed lanes : ℕ) (class : ClassName) (journal : List (Event O Key Recon Cond)) (fronts rears : List Record)
    (L : LoadRan speech size seed lanes class journal (fronts ++ rears)) (whole : added_count (fronts ++ rears) ≡ size)
    (did : AllZip (Did speech journal) (front size seed lanes class) fronts) (did_rear : AllZip (Did speech journal) (rear class) rears) where
  abbrev F : List Task
  F = front size seed lanes class

  abbrev records : List Record
  records = fronts ++ rears

  abbrev tasks : List Task
  tasks = tasks_of (generated size seed lanes class)

  parts : tasks ≡ F ++ rear class
  parts = in_parts size seed lanes class

  order : AreInOrder (F ++ rear class) records
  order = subst (λ (ts : List Task). AreInOrder ts records) parts L.run.in_order

  weigh_front : (w : Task → ℕ) → weigh w (rear class) ≡ 0 → weigh w tasks ≡ weigh w F
  weigh_front w none = let a = ap (weigh w) parts in let b = weigh_append w F (rear class) in omega arith

  -- each number's insert, and each third one's delete
  inserted : (j : ℕ) → j < size → (t : Task) × (r : Record) × InZip t r F fronts × ((key : Option AnyKey) × (t.command ≡ asked.Insert (load_row j) key))
  inserted j low =
      let a = insert_asked j size seed lanes class L.some low in
      let b = weigh_front (λ t. one (inserts_row (load_row j) t.command)) refl in
      let (t, r, at, is) = weighed_in (λ t. inserts_row (load_row j) t.command) (Did speech journal) F fronts did (omega arith) in
      (t, r, at, insert_of (load_row j) t.command is)

  deleted : (j : ℕ) → j < size → j % 3 ≡ 2 → (t : Task) × (r : Record) × InZip t r F fronts × (t.command ≡ asked.Delete (load_row j))
  deleted j low third =
      let a = delete_asked j size seed lanes class L.some low third in
      let b = weigh_front (λ t. one (deletes_row (load_row j) t.command)) refl in
      let (t, r, at, is) = weighed_in (λ t. deletes_row (load_row j) t.command) (Did speech journal) F fronts did (omega arith) in
      (t, r, at, delete_of (load_row j) t.command is)

  added_there : (t : Task) (r : Record) (row : RowAt) (key : Option AnyKey) → InZip t r F fronts → t.command ≡ asked.Insert row key → r.outcome ≡ outcome.Added
  added_there t r row key at is = outcome_added r.outcome (zip_in IsAddedInsert t r tasks records (inserts_added speech size seed lanes class journal records L whole) (at_front speech size seed lanes class journal fronts rears L did did_rear t r at) ∙ ap (λ (c : Command). one (is_insert c)) is)

  -- a delete begins where its row was put
  put_there : (q : Task) (qr : Record) (row : RowAt) (key : Option AnyKey) (n : ℕ) → InZip q qr (first_task ∷ F) (first_record ∷ fronts) → q.command ≡ asked.Insert row key → qr.span.to ≤ n → 1 ≤ count (puts_row row) (past_at n journal)
  put_there q qr row key n (inl same) is low = let z : asked.Vacuum ≡ asked.Insert row key = ap (λ (x : Task). x.command) same.0 ∙ is in cc
  put_there q qr row key n (inr at) is low = put_by speech size seed lanes class journal fronts rears L did did_rear q qr row key n at is (added_there q qr row key at is) low

  inner : AreInOrder (first_task ∷ F) (first_record ∷ fronts)
  inner = (zip_all (Did speech journal) (Follows first_task first_record) F fronts (λ x y here d e. omega arith) did, order_left (Did speech journal) F (rear class) fronts rears did order)

  put_first : (t : Task) (r : Record) (row : RowAt) → InZip t r F fronts → t.command ≡ asked.Delete row → 1 ≤ count (puts_row row) (past_at r.span.from journal)
  put_first t r row at is =
      let (q, qr, key, qat, ins, early) = paired first_task first_record F fronts (front_behind seed class size lanes first_task) inner t r row at is in
      put_there q qr row key r.span.from qat ins early

  -- where a delete of a third number finds its row dead, no kill of it is in the journal
  none_killed : (j : ℕ) → j < size → j % 3 ≡ 2 → (t : Task) (r : Record) → InZip t r F fronts → t.command ≡ asked.Delete (load_row j) → r.outcome ≡ outcome.NotLive → count (kills_row (load_row j)) journal ≡ 0
  none_killed j low third t r at is out = elim (cases_lt 0 (count (kills_row (load_row j)) journal)) [
    | inr none ↦ omega arith
    | inl some ↦ absurd (other (kill_named speech size seed class tasks records (load_row j) journal (events speech size seed lanes class journal fronts rears L did did_rear) (omega arith)))
  ]
    where
      by_test : (c : Command) → c ≡ asked.Delete (load_row j) → deletes_row (load_row j) c ≡ true
      by_test c is = ap (deletes_row (load_row j)) is ∙ same_row-refl (load_row j)

      other : IsKilled size tasks records (load_row j) → ⊥
      other (i, below, is_third, here, (t2, r2, at2, is2, killed)) =
          let a = delete_asked j size seed lanes class L.some low third in
          let same = weighed_once (λ t. deletes_row (load_row j) t.command) t2 r2 t r tasks records (omega arith) at2 (by_test t2.command is2) (at_front speech size seed lanes class journal fronts rears L did did_rear t r at) (by_test t.command is) in
          let z : outcome.Killed ≡ outcome.NotLive = sym killed ∙ ap (λ (x : Record). x.outcome) same ∙ out in cc

  -- a delete finds its row live, so it kills it
  not_dead : (j : ℕ) → j < size → j % 3 ≡ 2 → (t : Task) (r : Record) → InZip t r F fronts → t.command ≡ asked.Delete (load_row j) → r.outcome ≡ outcome.NotLive → ⊥
  not_dead j low third t r at is out =
      let before : History O Key Recon Cond = past_at r.span.from journal in
      let mine : List (Event O Key Recon Cond) = own t.seat (between r.span.from r.span.to journal) in
      let done = zip_in (Did speech journal) t r F fronts did at in
      let dead : is_live (load_row j) before ≡ false = (subst (λ (c : Command). Does speech (record { block = t.block; seat = t.seat; alone = t.alone; command = c }) before mine outcome.NotLive) is (subst (λ (o : Outcome). Does speech t before mine o) out done.does)).0 in
      let (life, lies, (a, has, in_past)) = seen put_in puts_row put_field (load_row j) before (legal_at speech size seed lanes class journal fronts rears L did did_rear r.span.from) (few_at speech size seed lanes class journal fronts rears L did did_rear (load_row j) r.span.from) (put_first t r (load_row j) at is) in
      let unkilled : count (kills_row (load_row j)) before ≡ 0 = (let k = none_killed j low third t r at is out in let c = count_reverse (kills_row (load_row j)) (take r.span.from journal) in let d = count_take (kills_row (load_row j)) r.span.from journal in omega arith) in
      let alive = unseen kill_in kills_row kill_field (load_row j) before (few_at speech size seed lanes class journal fronts rears L did did_rear (load_row j) r.span.from) unkilled life lies in
      let live : is_live (load_row j) before ≡ true = ap live_in lies ∙ ap (λ (o : Option ℕ). is_some o && is_none life.kill) has ∙ ap (λ (o : Option ℕ). is_none o) alive in
      let z : true ≡ false = sym live ∙ dead in cc

  kill_events : (row : RowAt) (block seat : ℕ) (alone : Bool) (before : History O Key Recon Cond) (mine : List (Event O Key Recon Cond)) (o : Outcome) → (o ≢ outcome.Memory) → (o ≢ outcome.NotLive) → Does speech (record { block = block; seat = seat; alone = alone; command = asked.Delete row }) before mine o → 1 ≤ count (kills_row row) mine
  kill_events row block seat alone before mine outcome.Killed nm nl does = let a = ap (count (kills_row row)) does in let b = ap one (same_row-refl row) in omega arith
  kill_events row block seat alone before mine outcome.NotLive nm nl does = absurd (nl refl)
  kill_events row block seat alone before mine outcome.Memory nm nl does = absurd (nm refl)
  kill_events row block seat alone before mine o nm nl does = absurd does

  kills_it : (row : RowAt) (block seat : ℕ) (alone : Bool) (before : History O Key Recon Cond) (mine : List (Event O Key Recon Cond)) (o : Outcome) → (o ≢ outcome.Memory) → (o ≢ outcome.NotLive) → Does speech (record { block = block; seat = seat; alone = alone; command = asked.Delete row }) before mine o → o ≡ outcome.Killed
  kills_it row block seat alone before mine outcome.Killed nm nl does = refl
  kills_it row block seat alone before mine outcome.NotLive nm nl does = absurd (nl refl)
  kills_it row block seat alone before mine outcome.Memory nm nl does = absurd (nm refl)
  kills_it row block seat alone before mine o nm nl does = absurd does

  -- each third number's row was killed, and no other
  third_killed : (j : ℕ) → j < size → j % 3 ≡ 2 → was_killed (load_row j) tasks records ≡ true
  third_killed j low third =
      let (t, r, at, is) = deleted j low third in
      let before : History O Key Recon Cond = past_at r.span.from journal in
      let mine : List (Event O Key Recon Cond) = own t.seat (between r.span.from r.span.to journal) in
      let done = zip_in (Did speech journal) t r F fronts did at in
      let there = at_front speech size seed lanes class journal fronts rears L did did_rear t r at in
      let does : Does speech (record { block = t.block; seat = t.seat; alone = t.alone; command = asked.Delete (load_row j) }) before mine r.outcome = subst (λ (c : Command). Does speech (record { block = t.block; seat = t.seat; alone = t.alone; command = c }) before mine r.outcome) is done.does in
      let killed = kills_it (load_row j) t.block t.seat t.alone before mine r.outcome (all_in (λ (r : Record). r.outcome ≢ outcome.Memory) t r tasks records there L.memory) (λ e. not_dead j low third t r at is e) does in
      pair_some (ends_row (load_row j)) t r tasks records there (both_true (deletes_row (load_row j) t.command) (is_killed r.outcome) (ap (deletes_row (load_row j)) is ∙ same_row-refl (load_row j)) (ap is_killed killed))

  other_alive : (j : ℕ) → (j % 3 ≡ 2 → ⊥) → was_killed (load_row j) tasks records ≡ false
  other_alive j other = by_case (was_killed (load_row j) tasks records) (λ is.
      let (t, r, at, so) = pair_there (ends_row (load_row j)) tasks records is in
      let (asks, killed) = both (deletes_row (load_row j) t.command) (is_killed r.outcome) so in
      wrong (subst (Asks size seed class) (delete_of (load_row j) t.command asks) (task_in (λ (t : Task). Asks size seed class t.command) t r tasks records at (asks_all speech size seed lanes class journal fronts rears L did did_rear))))
    where
      wrong : Asks size seed class (asked.Delete (load_row j)) → ⊥
      wrong (i, low, third, here) = let q = number_back j i here in other (omega arith)

  kill_same : (j : ℕ) → j < size → was_killed (load_row j) tasks records ≡ is_third j
  kill_same j low = elim (eqb_tells (j % 3) 2) [
    | inl is ↦ third_killed j low is.1 ∙ sym is.0
    | inr off ↦ other_alive j (λ third. let z : true ≡ false = sym (eq-eqb (j % 3) 2 third) ∙ off.0 in cc) ∙ sym off.0
  ]

  add_same : (j : ℕ) → j < size → was_added (load_row j) tasks records ≡ true
  add_same j low =
      let (t, r, at, (key, is)) = inserted j low in
      pair_some (adds_row (load_row j)) t r tasks records (at_front speech size seed lanes class journal fronts rears L did did_rear t r at)
      (both_true (inserts_row (load_row j) t.command) (is_added r.outcome) (ap (inserts_row (load_row j)) is ∙ same_row-refl (load_row j)) (ap is_added (added_there t r (load_row j) key at is)))

  pub killed_count : count_by (λ i. was_killed (load_row i) tasks records) (range_with_len 0 size) ≡ count_by is_third (range_with_len 0 size)
  killed_count = counted_same (λ i. was_killed (load_row i) tasks records) is_third size (λ i low. kill_same i low)

  module _ (m : Meaning Key Recon Cond) where
    gives_same : (query : AnyQuery) (r : Record) → GivesWanted O speech (is_standing m speech class seed tasks records) size query r → GivesWanted O speech (is_kept m speech class seed) size query r
    gives_same query r (q, known, (rows, walk, is, long)) = (
      q,
      known,
      (
        rows,
        walk,
        is,
        long ∙ counted_same (is_standing m speech class seed tasks records q) (is_kept m speech class seed q) size (λ i low.
            kept_of (was_added (load_row i) tasks records) (was_killed (load_row i) tasks records) (is_third i) (matches_some m q (speech.key_in (load_key class seed i))) (add_same i low) (kill_same i low)),
      ),
    )

    pub all_same : (rs : List Record) → AllGive O speech class (is_standing m speech class seed tasks records) size rs → AllGive O speech class (is_kept m speech class seed) size rs
    all_same [] gives = absurd gives
    all_same (a ∷ []) gives = absurd gives
    all_same (a ∷ f ∷ []) gives = absurd gives
    all_same (a ∷ f ∷ s ∷ []) gives = (gives_same All a gives.0, gives_same (first_query class) f gives.1, gives_same (second_query class) s gives.2)
    all_same (a ∷ f ∷ s ∷ x ∷ rs) gives = absurd gives

module _ {O Key Recon Cond : Type 0} (m : Meaning Key Recon Cond) (speech : Speech Key Cond) (size seed lanes : ℕ) (class : ClassName) (journal : List (Event O Key Recon Cond)) where
  pub finds_kept : (records : List Record) → LoadRan speech size seed lanes class journal records → Right m journal → added_count records ≡ size → AllGive O speech class (is_kept m speech class seed) size (drop (length records - 3) records)
  finds_kept records L right whole =
      let (fronts, rears, is, did, after) = zip_split (Did speech journal) (front size seed lanes class) (rear class) records (subst (λ (ts : List Task). AllZip (Did speech journal) ts records) (in_parts size seed lanes class) L.run.each) in
      let M : LoadRan speech size seed lanes class journal (fronts ++ rears) = subst (LoadRan speech size seed lanes class journal) is L in
      subst (λ (rs : List Record). AllGive O speech class (is_kept m speech class seed) size (drop (length rs - 3) rs)) (sym is)
      (all_same speech size seed lanes class journal fronts rears M (ap added_count (sym is) ∙ whole) did after m (drop (length (fronts ++ rears) - 3) (fronts ++ rears)) (finds m speech size seed lanes class journal right (fronts ++ rears) M))

  pub third_count : (records : List Record) → LoadRan speech size seed lanes class journal records → added_count records ≡ size → count_by (λ i. was_killed (load_row i) (tasks_of (generated size seed lanes class)) records) (range_with_len 0 size) ≡ count_by is_third (range_with_len 0 size)
  third_count records L whole =
      let (fronts, rears, is, did, after) = zip_split (Did speech journal) (front size seed lanes class) (rear class) records (subst (λ (ts : List Task). AllZip (Did speech journal) ts records) (in_parts size seed lanes class) L.run.each) in
      subst (λ (rs : List Record). count_by (λ i. was_killed (load_row i) (tasks_of (generated size seed lanes class)) rs) (range_with_len 0 size) ≡ count_by is_third (range_with_len 0 size)) (sym is)
      (killed_count speech size seed lanes class journal fronts rears (subst (LoadRan speech size seed lanes class journal) is L) (ap added_count (sym is) ∙ whole) did after)
