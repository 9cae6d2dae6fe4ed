-- A block of lanes: from what it did to what all commands so far did.
use Rattle.std.proofs.Common.{◌≡◌, ◌≢◌, ◌<◌, ◌+◌, ◌==◌, ℕ, zero, suc, Bool, true, false, List, [], ◌∷◌, ◌++◌, length, reverse, Option, refl, sym, ap, ◌∙◌, subst, arith}
use Rattle.std.specs.Prelude.{All}
use Rattle.std.specs.List.{AllZip, AllByRecursion}
use Rattle.std.proofs.lemmas.Bool.{eq-eqb}
use Rattle.std.proofs.lemmas.List.{append-nil}
use Rattle.std.proofs.lemmas.List.Elements.{recursion_from_All}
use Rattle.spg_base.specs.declared.recorded.Origin.{Origin}
use Rattle.spg_opclass.specs.Meaning.{Meaning}
use Rattle.spg_io.specs.Held.{Holding}
use Rattle.spg_rows.specs.declared.event.Event.{Event}
use Rattle.spg_rows.specs.History.{History, own}
use Rattle.spg_rows.specs.Right.{Right}
use Rattle.spg_tree.specs.Table.{Table, sheets_of}
use Rattle.spg_seats.specs.Drops.{HaveCauses}
use Rattle.spg_core.specs.Seen.{Seen, past_of}
use Rattle.spg_script.specs.declared.command.Command.{Command}
use Rattle.spg_script.specs.Script.{IsLaneCommand}
use Rattle.spg_script.specs.Speech.{Speech}
use Rattle.spg_report.specs.declared.outcome.Outcome.{Outcome}
use Rattle.spg_report.specs.declared.outcome.Outcome.TheVariants as outcome
use Rattle.spg_report.specs.declared.record.Record.{Record}
use Rattle.spg_histories.specs.Tasks.{Task, lane_tasks, lanes_tasks}
use Rattle.spg_histories.specs.Run.{Does, Did, IsWithin, past_at, between}
use Rattle.spg_histories.specs.Blocks.{joined, BlockOf, AreRefused}
use Rattle.spg_histories.specs.Pages.{HoldsAt}
use Rattle.spg_histories.specs.Telling.{steps_of, AreOfLanes, TellAll}
use Rattle.spg_histories.specs.Causes.{IsTooFullIn, IsDueIn, TellDrops, Causes}
use Rattle.spg_histories.proofs.Blocks.{runs_grow, run_goes_on, each_weaker, each_append}
use Rattle.spg_histories.proofs.Causes.{causes_grow, no_save_in}
use Rattle.spg_histories.proofs.Telling.{lanes_more}
use Rattle.spg_perform.specs.Session.{AllClosed, told_of, ReadsBack, is_image_fault, image_faults, RoseBy, Session, LeadsOn, standing}
use Rattle.spg_perform.specs.Remains.{Remains}
use Rattle.spg_perform.proofs.Remaining.{remains_lanes, counted_lanes}
use Rattle.spg_commands.specs.Acted.{CanBeDone}
use Rattle.spg_perform.specs.Lanes.{refusals}
use Rattle.spg_perform.specs.Posts.{RanBeside}
use Rattle.spg_perform.proofs.LaneCalls.{lanes_ran, lanes_full}
use Rattle.spg_perform.proofs.Tasks.{lanes_length}

-- ---- lane commands

faults_none : (records added : List Record) → AllByRecursion (λ (r : Record). is_image_fault r.outcome ≡ 0) added → image_faults (records ++ added) ≡ image_faults records
faults_none [] [] none = refl
faults_none [] (r ∷ added) none = omega (arith, none.0, faults_none [] added none.1)
faults_none (x ∷ records) added none = omega (arith, faults_none records added none)

lane_of_lanes : (block seat : ℕ) (cs : List Command) → AllByRecursion IsLaneCommand cs → AreOfLanes (lane_tasks block seat false cs)
lane_of_lanes block seat [] are = tt
lane_of_lanes block seat (c ∷ cs) are = ((refl, are.0), lane_of_lanes block seat cs are.1)

of_lanes : (block seat : ℕ) (lanes : List (List Command)) → AllByRecursion (AllByRecursion IsLaneCommand) lanes → AreOfLanes (lanes_tasks block seat false lanes)
of_lanes block seat [] are = tt
of_lanes block seat (lane ∷ lanes) are =
    each_append (λ (t : Task). (t.alone ≡ false) × IsLaneCommand t.command) (lane_tasks block seat false lane) (lanes_tasks block (seat + 1) false lanes) (lane_of_lanes block seat lane are.0) (of_lanes block (seat + 1) lanes are.1)

module _ {Key Cond : Type 0} (speech : Speech Key Cond) where
  lane_commands : (cs : List Command) → AllByRecursion (CanBeDone speech false) cs → AllByRecursion IsLaneCommand cs
  lane_commands [] can = tt
  lane_commands (c ∷ cs) can = (can.0.in_lane refl, lane_commands cs can.1)

  lanes_commands : (lanes : List (List Command)) → AllByRecursion (λ (lane : List Command). All (CanBeDone speech false) lane) lanes → AllByRecursion (AllByRecursion IsLaneCommand) lanes
  lanes_commands [] can = tt
  lanes_commands (lane ∷ lanes) can = (lane_commands lane (recursion_from_All (CanBeDone speech false) lane can.0), lanes_commands lanes can.1)

  pub are_of_lanes : (number : ℕ) (lanes : List (List Command)) → All (λ (lane : List Command). All (CanBeDone speech false) lane) lanes → AreOfLanes (lanes_tasks number 0 false lanes)
  are_of_lanes number lanes can = of_lanes number 0 lanes (lanes_commands lanes (recursion_from_All (λ (lane : List Command). All (CanBeDone speech false) lane) lanes can))

-- ---- commands that were not begun

pub are_refused : (at : ℕ) (tasks : List Task) (n : ℕ) → n ≡ length tasks → AreRefused at tasks (refusals at n)
are_refused at [] zero is = tt
are_refused at [] (suc n) is = absurd (omega (arith, is))
are_refused at (t ∷ tasks) zero is = absurd (omega (arith, is))
are_refused at (t ∷ tasks) (suc n) is = (refl, are_refused at tasks n (omega (arith, is)))

module _ {O Key Recon Cond : Type 0} (m : Meaning Key Recon Cond) (speech : Speech Key Cond) where
  refused_full : (origin : Origin) (journal : List (Event O Key Recon Cond)) (at : ℕ) (tasks : List Task) (n : ℕ) → n ≡ length tasks → AllZip (IsTooFullIn m origin journal) tasks (refusals at n)
  refused_full origin journal at [] zero is = tt
  refused_full origin journal at [] (suc n) is = absurd (omega (arith, is))
  refused_full origin journal at (t ∷ tasks) zero is = absurd (omega (arith, is))
  refused_full origin journal at (t ∷ tasks) (suc n) is = (tt, refused_full origin journal at tasks n (omega (arith, is)))

  -- ---- a block goes on

  no_fault : (t : Task) (before : History O Key Recon Cond) (events : List (Event O Key Recon Cond)) (o : Outcome) → IsLaneCommand t.command → Does speech t before events o → is_image_fault o ≡ 0
  no_fault t before events outcome.ImageFault lane does = absurd (no_save_in (events ≡ []) t.command lane does)
  no_fault t before events o lane does = refl

  no_faults : (journal : List (Event O Key Recon Cond)) (tasks : List Task) (added : List Record) → AreOfLanes tasks → AllZip (Did speech journal) tasks added → AllByRecursion (λ (r : Record). is_image_fault r.outcome ≡ 0) added
  no_faults journal [] [] lanes each = tt
  no_faults journal [] (r ∷ added) lanes each = absurd each
  no_faults journal (t ∷ tasks) [] lanes each = absurd each
  no_faults journal (t ∷ tasks) (r ∷ added) lanes each =
      (no_fault t (past_at r.span.from journal) (own t.seat (between r.span.from r.span.to journal)) r.outcome lanes.0.1 each.0.does, no_faults journal tasks added lanes.1 each.1)

  module _ (code : ℕ) (s0 s1 : Seen O Key Recon Cond) (held : Option Holding) (faults : ℕ) (records : List Record) where
    leads_by : (added : List Record) (tasks : List Task) → BlockOf speech s0.journal s1.journal tasks added → AllZip (IsTooFullIn m s0.origin s1.journal) tasks added → AreOfLanes tasks → (tasks ≡ [] → sheets_of s1.table ≡ sheets_of s0.table)
        → Right m s1.journal → TellDrops s1.origin.limit (sheets_of s1.table) (past_of s1) → AllClosed (past_of s1) → s1.origin ≡ s0.origin
        → LeadsOn m speech code (standing s0 held faults records) (standing s1 held faults (records ++ added)) tasks
    leads_by added tasks block full lanes none right drops closed made loaded origin start before S =
        let longer : List (Event O Key Recon Cond) = s0.journal ++ block.events in
        let each : AllZip (Did speech longer) tasks added = subst (λ (j : List (Event O Key Recon Cond)). AllZip (Did speech j) tasks added) block.journal block.each in
        let within : AllByRecursion (IsWithin 0 (length s1.journal)) added =
        each_weaker (IsWithin (length s0.journal) (length s1.journal)) (IsWithin 0 (length s1.journal)) added (λ r is. record { after = omega arith; order = is.order; before = is.before }) block.within in
        let due_there : AllZip (IsDueIn m s0.origin s1.journal) tasks added = (causes_grow O Key Recon Cond).due m speech s0.origin s1.journal tasks added right.legal block.each full within in
        let due : AllZip (IsDueIn m origin longer) tasks added = subst (λ (o : Origin). AllZip (IsDueIn m o longer) tasks added) S.made (subst (λ (j : List (Event O Key Recon Cond)). AllZip (IsDueIn m s0.origin j) tasks added) block.journal due_there) in
        let drops_there : TellDrops origin.limit (sheets_of s1.table) (past_of s1) = subst (λ (o : Origin). TellDrops o.limit (sheets_of s1.table) (past_of s1)) (made ∙ S.made) drops in
        let drops_here : TellDrops origin.limit (sheets_of s1.table) (reverse longer) = subst (λ (j : List (Event O Key Recon Cond)). TellDrops origin.limit (sheets_of s1.table) (reverse j)) block.journal drops_there in
        record {
          run = run_goes_on speech loaded s0.journal s1.journal before tasks records added S.run block;
          right = right;
          causes = subst (λ (j : List (Event O Key Recon Cond)). Causes m origin (sheets_of s1.table) j (before ++ tasks) (records ++ added)) (sym block.journal)
              ((causes_grow O Key Recon Cond).lanes m speech origin loaded s0.journal block.events (sheets_of s0.table) (sheets_of s1.table) before tasks records added S.run S.causes lanes each due drops_here);
          tells = subst (λ (j : List (Event O Key Recon Cond)). TellAll O m speech (ReadsBack code) j (told_of start.held start.held) (told_of start.held held) (sheets_of s1.table) (before ++ tasks) (records ++ added)) (sym block.journal)
              (lanes_more O Key Recon Cond (Option (Option (List ℕ))) m speech (ReadsBack code) loaded s0.journal block.events before records (told_of start.held start.held) (told_of start.held held) (sheets_of s0.table) S.run S.tells (sheets_of s1.table) tasks added lanes each none);
          remains = λ name. subst (λ (j : List (Event O Key Recon Cond)). Remains code (HoldsAt m j) (told_of start.held held name) (told_of start.held start.held name) name (steps_of (before ++ tasks) (records ++ added))) (sym block.journal)
              (remains_lanes m speech code loaded s0.journal block.events before records S.run (told_of start.held held name) (told_of start.held start.held name) name tasks added lanes (S.remains name));
          counted = counted_lanes m speech code loaded s0.journal block.events before records S.run tasks added lanes S.counted;
          closed = closed;
          made = made ∙ S.made;
          images = S.images;
          faults = subst (λ (n : ℕ). RoseBy n start.faults faults) (sym (faults_none records added (no_faults s1.journal tasks added lanes block.each))) S.faults;
          unfailed = λ nothing. S.unfailed (sym (faults_none records added (no_faults s1.journal tasks added lanes block.each)) ∙ nothing);
        }

    -- the lanes ran beside each other
    pub leads_beside : (number : ℕ) (lanes : List (List Command)) (groups : List (List Record)) (noted : List Record) → All (λ (lane : List Command). All (CanBeDone speech false) lane) lanes → length (lanes_tasks 0 0 true lanes) ≢ 0
        → RanBeside m speech s0 s1 lanes groups → Right m s1.journal → TellDrops s1.origin.limit (sheets_of s1.table) (past_of s1) → noted ≡ records ++ joined groups
        → LeadsOn m speech code (standing s0 held faults records) (standing s1 held faults noted) (lanes_tasks number 0 false lanes)
    leads_beside number lanes groups noted can some ran right drops are =
        let tasks : List Task = lanes_tasks number 0 false lanes in
        let block : BlockOf speech s0.journal s1.journal tasks (joined groups) = (runs_grow O Key Recon Cond).lanes speech s0.journal s1.journal ran.grew.0 ran.grew.1 number false lanes groups (lanes_ran m speech s0.origin number 0 s0.journal s1.journal lanes groups ran.done) in
        subst (λ (rs : List Record). LeadsOn m speech code (standing s0 held faults records) (standing s1 held faults rs) tasks) (sym are)
        (leads_by (joined groups) tasks block (lanes_full m speech s0.origin number 0 s0.journal s1.journal lanes groups ran.done) (are_of_lanes speech number lanes can)
        (λ none. absurd (some (lanes_length 0 0 true number 0 false lanes ∙ ap length none))) right drops ran.closed ran.made)

  -- none could be begun
  pub leads_refused : (code : ℕ) (s0 : Seen O Key Recon Cond) (held : Option Holding) (faults : ℕ) (records : List Record) (number : ℕ) (lanes : List (List Command)) (noted : List Record) → All (λ (lane : List Command). All (CanBeDone speech false) lane) lanes
      → Right m s0.journal → TellDrops s0.origin.limit (sheets_of s0.table) (past_of s0) → AllClosed (past_of s0) → noted ≡ records ++ refusals (length s0.journal) (length (lanes_tasks 0 0 true lanes))
      → LeadsOn m speech code (standing s0 held faults records) (standing s0 held faults noted) (lanes_tasks number 0 false lanes)
  leads_refused code s0 held faults records number lanes noted can right drops closed are =
      let tasks : List Task = lanes_tasks number 0 false lanes in
      let count : length (lanes_tasks 0 0 true lanes) ≡ length tasks = lanes_length 0 0 true number 0 false lanes in
      let added : List Record = refusals (length s0.journal) (length (lanes_tasks 0 0 true lanes)) in
      subst (λ (rs : List Record). LeadsOn m speech code (standing s0 held faults records) (standing s0 held faults rs) tasks) (sym are)
      (leads_by code s0 s0 held faults records added tasks ((runs_grow O Key Recon Cond).refused speech s0.journal tasks added (are_refused (length s0.journal) tasks (length (lanes_tasks 0 0 true lanes)) count))
      (refused_full s0.origin s0.journal (length s0.journal) tasks (length (lanes_tasks 0 0 true lanes)) count) (are_of_lanes speech number lanes can) (λ none. refl) right drops closed refl)

  -- there was none
  pub leads_none : (code : ℕ) (s0 : Seen O Key Recon Cond) (held : Option Holding) (faults : ℕ) (records : List Record) (number : ℕ) (lanes : List (List Command)) → length (lanes_tasks 0 0 true lanes) ≡ 0
      → LeadsOn m speech code (standing s0 held faults records) (standing s0 held faults records) (lanes_tasks number 0 false lanes)
  leads_none code s0 held faults records number lanes none loaded origin start before S =
      let empty : lanes_tasks number 0 false lanes ≡ [] = nil_of (lanes_tasks number 0 false lanes) (sym (lanes_length 0 0 true number 0 false lanes) ∙ none) in
      let same : before ++ lanes_tasks number 0 false lanes ≡ before = ap (λ (ts : List Task). before ++ ts) empty ∙ append-nil before in
      subst (λ (ts : List Task). Session m speech code loaded origin start (record { held = held; faults = faults }) ts s0 records) (sym same) S
    where
      nil_of : (ts : List Task) → length ts ≡ 0 → ts ≡ []
      nil_of [] is = refl
      nil_of (t ∷ ts) is = absurd (omega (arith, is))

-- what the pages of a state show
pub tell_drops : {O Key Recon Cond : Type 0} (past : History O Key Recon Cond) (t : Table) (limit : ℕ) → HaveCauses past t → t.limit ≡ limit → TellDrops limit (sheets_of t) past
tell_drops past t limit has same = (λ is. subst (λ (n : ℕ). n < length t.pages + 4) same (has.full is), has.clock)

pub not_idle : (n : ℕ) (test : Bool) → test ≡ (n == 0) → test ≡ false → n ≢ 0
not_idle n test is told none = let clash : true ≡ false = sym (is ∙ eq-eqb n 0 none) ∙ told in (cc)
