-- What came of the rows of a generated load.
use Rattle.std.proofs.Common.{◌≡◌, ◌≢◌, ℕ, ◌-◌, ◌++◌, Bool, true, false, List, [], ◌∷◌, drop, length, count_by, codes, Option, refl, sym, ap, ◌∙◌, subst, arith}
use Rattle.std.specs.Fmt.{decimal}
use Rattle.std.specs.List.{AllByRecursion, range_with_len}
use Rattle.std.proofs.lemmas.Bool.{or_parts}
use Rattle.spg_base.specs.declared.recorded.Origin.{Origin}
use Rattle.spg_opclass.specs.Meaning.{Meaning}
use Rattle.spg_opclass.specs.declared.query.Query.{Query}
use Rattle.spg_rows.specs.declared.event.Event.{Event}
use Rattle.spg_rows.specs.Right.{Right}
use Rattle.spg_bounds.specs.Bounds.{DropsAreLate}
use Rattle.spg_core.specs.Seen.{Seen, past_of}
use Rattle.spg_script.specs.declared.any_query.AnyQuery.{AnyQuery}
use Rattle.spg_script.specs.declared.any_query.AnyQuery.TheVariants.{All}
use Rattle.spg_script.specs.declared.class_name.ClassName.{ClassName}
use Rattle.spg_script.specs.Generated.{first_query, second_query}
use Rattle.spg_script.specs.Speech.{Speech, query_in}
use Rattle.spg_report.specs.declared.outcome.Outcome.{Outcome}
use Rattle.spg_report.specs.declared.outcome.Outcome.TheVariants as outcome
use Rattle.spg_report.specs.declared.record.Record.{Record}
use Rattle.spg_report.specs.Text.{ended}
use Rattle.spg_histories.specs.Tasks.{tasks_of}
use Rattle.spg_histories.specs.Ending.{is_memory, any_outcome}
use Rattle.spg_histories.specs.declared.status.Status.{Status}
use Rattle.spg_histories.specs.declared.status.Status.TheVariants.{Done}
use Rattle.spg_histories.proofs.Ending.{statuses_tell}
use Rattle.spg_loads.specs.Loads.{LoadRan, added_count}
use Rattle.spg_loads.specs.Finds.{is_sweep, is_third, is_kept, is_standing, GivesWanted, AllGive}
use Rattle.spg_loads.proofs.Loads.{load_adds}
use Rattle.spg_loads.proofs.Swept.{load_finds}
use Rattle.spg_words.specs.declared.load.Load.{Load}
use Rattle.spg_words.specs.Lines.{IsLoad}
use Rattle.spg_app.specs.Ending.{Outlets}
use Rattle.spg_streams.specs.Summary.{find_line, find_lines, summary}
use Rattle.spg_app.specs.Loads.{RanLoad, script_of, wanted_by, killed_count, lines_of, rows_summary, load_summary, GenRan}

not_memory : (o : Outcome) → is_memory o ≡ false → o ≢ outcome.Memory
not_memory o is = λ same. let z : is_memory o ≡ true = ap is_memory same in cc

none_memory : (records : List Record) → any_outcome is_memory records ≡ false → AllByRecursion (λ (r : Record). r.outcome ≢ outcome.Memory) records
none_memory [] is = tt
none_memory (r ∷ records) is = let parts = or_parts (is_memory r.outcome) (any_outcome is_memory records) is in (not_memory r.outcome parts.0, none_memory records parts.1)

three : (x x2 y y2 z z2 : List ℕ) → x ≡ x2 → y ≡ y2 → z ≡ z2 → x ∷ y ∷ z ∷ [] ≡ x2 ∷ y2 ∷ z2 ∷ []
three x x2 y y2 z z2 a b c = cc

module _ {O Key Recon Cond : Type 0} (m : Meaning Key Recon Cond) (speech : Speech Key Cond) where
  -- the run of a load that was not short of memory
  load_ran : (code : ℕ) (load : Load) (out : Outlets) (status : Status) (seen : Seen O Key Recon Cond) → IsLoad load → (ran : RanLoad m speech code (script_of load) out status seen) → status ≡ Done →
      LoadRan speech load.count load.seed load.lanes load.class seen.journal ran.records
  load_ran code load out status seen in_range ran done = record {
    few = in_range.count;
    some = omega (arith, in_range.one_lane);
    run = ran.session.run;
    legal = ran.session.right.legal;
    drops = subst (λ (o : Origin). DropsAreLate o (past_of seen)) ran.session.made ran.late;
    memory = none_memory ran.records ((statuses_tell.done ran.writing ran.records).0 (sym ran.status_is ∙ done)).2;
  }

-- the line of a find that gave what is wanted
line_is : (O : Type 0) {Key Recon Cond : Type 0} (speech : Speech Key Cond) (wants : Query O Key Recon Cond → ℕ → Bool) (count : ℕ) (asked : AnyQuery) (r : Record) (word : List ℕ) → GivesWanted O speech wants count asked r → find_line word r.outcome ≡ word ++ decimal (wanted_by wants count (query_in speech asked))
line_is O {Key} {Recon} {Cond} speech wants count asked r word (query, known, (rows, walk, is, long)) =
    ap (λ (o : Outcome). find_line word o) is ∙ ap (λ (n : ℕ). word ++ decimal n) (long ∙ sym (ap (λ (q : Option (Query O Key Recon Cond)). wanted_by wants count q) known))

lines_are : (O : Type 0) {Key Recon Cond : Type 0} (speech : Speech Key Cond) (name : ClassName) (wants : Query O Key Recon Cond → ℕ → Bool) (count : ℕ) (records : List Record) → AllGive O speech name wants count records →
    find_lines records
    ≡ (codes "live " ++ decimal (wanted_by wants count (query_in speech All)))
    ∷ (codes "first " ++ decimal (wanted_by wants count (query_in speech (first_query name))))
    ∷ (codes "second " ++ decimal (wanted_by wants count (query_in speech (second_query name))))
    ∷ []
lines_are O speech name wants count (all ∷ first ∷ second ∷ []) gives =
    three _ _ _ _ _ _ (line_is O speech wants count All all (codes "live ") gives.0) (line_is O speech wants count (first_query name) first (codes "first ") gives.1) (line_is O speech wants count (second_query name) second (codes "second ") gives.2)
lines_are O speech name wants count [] gives = absurd gives
lines_are O speech name wants count (a ∷ []) gives = absurd gives
lines_are O speech name wants count (a ∷ b ∷ []) gives = absurd gives
lines_are O speech name wants count (a ∷ b ∷ c ∷ d ∷ records) gives = absurd gives

module _ {O Key Recon Cond : Type 0} (m : Meaning Key Recon Cond) (speech : Speech Key Cond) where
  -- the summary, where the finds gave what is wanted
  summary_of : (name : ClassName) (wants : Query O Key Recon Cond → ℕ → Bool) (count added swept : ℕ) (journal : List (Event O Key Recon Cond)) (records : List Record) → AllGive O speech name wants count (drop (length records - 3) records) → added_count records ≡ added → count_by is_sweep journal ≡ swept →
      summary journal records ≡ ended (lines_of name added (λ asked. wanted_by wants count (query_in speech asked)) swept)
  summary_of name wants count added swept journal records gives is_added is_swept =
      let gave : AnyQuery → ℕ = λ asked. wanted_by wants count (query_in speech asked) in
      ap ended (
      ap (λ (n : ℕ). (codes "added " ++ decimal n) ∷ (find_lines (drop (length records - 3) records) ++ (codes "swept " ++ decimal (count_by is_sweep journal)) ∷ [])) is_added
      ∙ ap (λ (ls : List (List ℕ)). (codes "added " ++ decimal added) ∷ (ls ++ (codes "swept " ++ decimal (count_by is_sweep journal)) ∷ [])) (lines_are O speech name wants count (drop (length records - 3) records) gives)
      ∙ ap (λ (n : ℕ). (codes "added " ++ decimal added) ∷ (codes "live " ++ decimal (gave All)) ∷ (codes "first " ++ decimal (gave (first_query name))) ∷ (codes "second " ++ decimal (gave (second_query name))) ∷ (codes "swept " ++ decimal n) ∷ []) is_swept)

  summary_stands : (load : Load) (journal : List (Event O Key Recon Cond)) (records : List Record) → LoadRan speech load.count load.seed load.lanes load.class journal records → Right m journal → summary journal records ≡ rows_summary O m speech load records
  summary_stands load journal records run right =
      let found = load_finds O Key Recon Cond in
      summary_of load.class (is_standing m speech load.class load.seed (tasks_of (script_of load)) records) load.count (added_count records) (killed_count load records) journal records
      (found.standing m speech load.count load.seed load.lanes load.class journal records run right) refl (found.killed m speech load.count load.seed load.lanes load.class journal records run right)

  summary_is : (load : Load) (journal : List (Event O Key Recon Cond)) (records : List Record) → LoadRan speech load.count load.seed load.lanes load.class journal records → Right m journal → added_count records ≡ load.count →
      summary journal records ≡ load_summary O m speech load
  summary_is load journal records run right added =
      let found = load_finds O Key Recon Cond in
      summary_of load.class (is_kept m speech load.class load.seed) load.count load.count (count_by is_third (range_with_len 0 load.count)) journal records
      (found.finds m speech load.count load.seed load.lanes load.class journal records run right added) added (found.swept m speech load.count load.seed load.lanes load.class journal records run right added)

  pub gen_ran : (code : ℕ) (load : Load) (out : Outlets) (status : Status) (seen : Seen O Key Recon Cond) → IsLoad load → RanLoad m speech code (script_of load) out status seen → GenRan m speech code load out status seen
  gen_ran code load out status seen in_range ran = record {
    ran = ran;
    rows = λ done.
        let run = load_ran m speech code load out status seen in_range ran done in
        record {
          few = (load_adds O Key Recon Cond).all speech load.count load.seed load.lanes load.class seen.journal ran.records run;
          many = (load_adds O Key Recon Cond).many speech load.count load.seed load.lanes load.class seen.journal ran.records run;
          others = (load_adds O Key Recon Cond).others speech load.count load.seed load.lanes load.class seen.journal ran.records run;
          stand = summary_stands load seen.journal ran.records run ran.session.right;
          all = summary_is load seen.journal ran.records run ran.session.right;
        };
  }
