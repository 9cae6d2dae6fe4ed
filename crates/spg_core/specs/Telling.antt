-- What a section of an insert did: which of its ways it took, and what that way tells of pages, clock, counter and limit.
use Rattle.std.specs.Prelude.{◌≡◌, ◌⊎◌, ◌+◌, ◌%◌, ℕ, ℤ, Bool, false, List, Option, if◌then◌else◌}
use Rattle.spg_opclass.specs.Meaning.{Meaning}
use Rattle.spg_opclass.specs.declared.view.Choice.TheVariants as choice
use Rattle.spg_forest.specs.Exact.{IsExact}
use Rattle.spg_forest.specs.Tuples.{Live}
use Rattle.spg_forest.specs.View.{Place}
use Rattle.spg_tree.specs.Table.{Table, sheets_of, with_counter}
use Rattle.spg_tree.specs.Descents.{Descending, in_nulls}
use Rattle.spg_descend.specs.declared.enter.Entered.{Entered}
use Rattle.spg_descend.specs.declared.enter.Entered.TheVariants.{In, Busy}
use Rattle.spg_descend.specs.declared.put.PutOut.TheVariants as puts
use Rattle.spg_descend.specs.declared.rule.Rule.{Rule}
use Rattle.spg_descend.specs.declared.rule.Rule.TheVariants as rules
use Rattle.spg_descend.specs.Carried.{carried}
use Rattle.spg_descend.specs.Answers.{IsAnswered}
use Rattle.spg_descend.specs.Below.{IsTicked}
use Rattle.spg_descend.specs.Enters.{EntersRoot}
use Rattle.spg_descend.specs.Follows.{FollowsNode, tuple_place}
use Rattle.spg_descend.specs.Held.{TouchesFree, StandsFree}
use Rattle.spg_descend.specs.Makes.{MakesNone}
use Rattle.spg_descend.specs.Puts.{IsPutOut}
use Rattle.spg_descend.specs.PutTables.{PutsTable}
use Rattle.spg_descend.specs.Rules.{IsRule}
use Rattle.spg_split.specs.declared.split.SplitOut.{SplitOut}
use Rattle.spg_split.specs.declared.split.SplitOut.TheVariants as splits
use Rattle.spg_split.specs.Splits.{IsAtRoot, IsSplitOut}
use Rattle.spg_split.specs.Cases.{NotesRoot}
use Rattle.spg_split.specs.Below.{SplitsWithout, IsChainSplit}
use Rattle.spg_split.specs.Causes.{IsCause, root_bytes, chain_bytes, chain_in_one}
use Rattle.spg_split.specs.Tables.{RootTable, ChainTable}
use Rattle.spg_move.specs.Moves.{MovesCarried}
use Rattle.spg_move.specs.Nodes.{IsNodeAdded}
use Rattle.spg_move.specs.Splits.{PartsTuple, upper_at, lower_at}
use Rattle.spg_move.specs.Splitting.{IsParted}
use Rattle.spg_move.specs.Tables.{MovesTable, NodeTable}
use Rattle.spg_seats.specs.Descending.{HoldsIts, ChangesHeld}
use Rattle.spg_seats.specs.Latching.{InsertHolds}
use Rattle.spg_core.specs.Stepping.{IsNamed, IsStepOut, MakesAtMostOne}
use Rattle.spg_core.specs.Ends.{TakesOne}
use Rattle.spg_core.specs.Latches.{HoldsAfter}
use Rattle.spg_core.specs.declared.answer.InsertOut.{InsertOut}
use Rattle.spg_core.specs.declared.answer.InsertOut.TheVariants.{Descended, Restructured, Restarted, Put}

-- but for its latches the table is as it was
abbrev pub IsButLatches : Table → Table → Type 0
IsButLatches t t2 = t2 ≡ record t { latches = t2.latches }

-- the counter is raised by one, from 7 to 0, where it named the node
abbrev pub turned : Bool → Table → Table
turned by_turn t = if by_turn then with_counter t ((t.counter + 1) % 8) else t

-- the rule of insertion that applies where the insert stands
abbrev pub IsRuleFor : {Recon : Type 0} → Table → Descending Recon → Rule → Type 0
IsRuleFor t d rule = IsRule t d.stand (Live (carried d) 0) rule

-- it follows the node of the tuple at which it stands that the class answers, or that the counter names; or it gives way to the seat that holds the block there
abbrev pub GoesDown : {Key Recon Cond : Type 0} → Meaning Key Recon Cond → Table → Table → Descending Recon → Descending Recon → ℕ → Entered → Type 0
GoesDown m t t2 d d2 seat out =
    (node : ℕ) × (rest : List ℕ) × (by_turn : Bool) × IsNamed m t d node rest by_turn × (t1 : Table) × FollowsNode m t t1 d d2 seat node rest out × (t2 ≡ turned by_turn t1)

-- it enters the root of its tree, or gives way there; or it goes down a node
abbrev pub Comes : {Key Recon Cond : Type 0} → Meaning Key Recon Cond → Table → Table → Descending Recon → Descending Recon → ℕ → Entered → Type 0
Comes m t t2 d d2 seat out = (IsRuleFor t d rules.Start × EntersRoot t t2 d d2 seat out) ⊎ (IsRuleFor t d rules.Choose × GoesDown m t t2 d d2 seat out)

-- the class asks for a node at the inner tuple, and it is added; or for a split, and the tuple is split
abbrev pub ChangesTuple : {Key Recon Cond : Type 0} → Meaning Key Recon Cond → Table → Table → Descending Recon → Descending Recon → ℕ → Type 0
ChangesTuple m t t2 d d2 seat =
    ((at : ℕ) × (label : ℤ) × IsAnswered m t d (choice.Add at label) × IsNodeAdded m t t2 d d2 at label × NodeTable t t2 d d2 at label seat)
    ⊎ ((up : List ℕ) × (labels : List ℤ) × (child : ℕ) × (low : List ℕ) × IsAnswered m t d (choice.Split up labels child low) × PartsTuple m t t2 d d2 up labels child
    × IsParted t t2 (tuple_place d.stand) child seat (upper_at up labels) (lower_at t d low))

-- the leaves of the root page are divided; the insert notes a rise exactly where its leaf is left out and the others are all in one list
abbrev pub DividesRoot : {Key Recon Cond : Type 0} → Meaning Key Recon Cond → Table → Table → Descending Recon → Descending Recon → ℕ → SplitOut → Type 0
DividesRoot m t t2 d d2 seat out =
    IsAtRoot d.stand × IsSplitOut m t t2 d d2 out × RootTable m t t2 d seat × IsCause (root_bytes m t d) out × NotesRoot m t d d2 out

-- so are those of the chain
abbrev pub DividesChain : {Key Recon Cond : Type 0} → Meaning Key Recon Cond → Table → Table → Descending Recon → Descending Recon → ℕ → SplitOut → Type 0
DividesChain m t t2 d d2 seat out =
    (IsAtRoot d.stand → ⊥) × IsChainSplit m t t2 d d2 out × IsTicked t t2 × ChainTable m t t2 d d2 seat out × IsCause (chain_bytes m t d) out
    × ((out ≡ splits.LeftOut → (z : Place) × SplitsWithout m t t2 d d2 z 0) ⊎ chain_in_one m t d)

abbrev pub Divides : {Key Recon Cond : Type 0} → Meaning Key Recon Cond → Table → Table → Descending Recon → Descending Recon → ℕ → SplitOut → Type 0
Divides m t t2 d d2 seat out = DividesRoot m t t2 d d2 seat out ⊎ DividesChain m t t2 d d2 seat out

-- the leaf is put where it fits, or with its chain that moves, or with the leaves that are divided; the insert stays where it is
abbrev pub PutsLeaf : {Key Recon Cond : Type 0} → Meaning Key Recon Cond → Table → Table → Descending Recon → Descending Recon → ℕ → Type 0
PutsLeaf m t t2 d d2 seat = (d2 ≡ d) × (
    (IsRuleFor t d rules.Put × IsPutOut m t t2 d puts.Put × PutsTable t t2 d seat)
    ⊎ (IsRuleFor t d rules.Move × MovesCarried m t t2 d × IsTicked t t2 × MakesNone t t2 × MovesTable t t2 d seat)
    ⊎ (IsRuleFor t d rules.Divide × Divides m t t2 d d2 seat splits.Put))

-- a section that changes pages puts the leaf; or it changes the inner tuple, or divides the leaves without that of the insert
abbrev pub Rewrites : {Key Recon Cond : Type 0} → Meaning Key Recon Cond → Table → Table → Descending Recon → Descending Recon → ℕ → InsertOut → Type 0
Rewrites m t t2 d d2 seat Descended = ⊥
Rewrites m t t2 d d2 seat Restructured = (IsRuleFor t d rules.Choose × (in_nulls d ≡ false) × ChangesTuple m t t2 d d2 seat) ⊎ (IsRuleFor t d rules.Divide × Divides m t t2 d d2 seat splits.LeftOut)
Rewrites m t t2 d d2 seat (Restarted block by) = ⊥
Rewrites m t t2 d d2 seat Put = PutsLeaf m t t2 d d2 seat

-- What a section did. Where it changed pages, the latches were changed after that, and it touched exactly the blocks that were written or added
abbrev pub StepTells : {Key Recon Cond : Type 0} → Meaning Key Recon Cond → Table → Table → Descending Recon → Descending Recon → ℕ → InsertOut → Type 0
StepTells m t t2 d d2 seat Descended = Comes m t t2 d d2 seat In
StepTells m t t2 d d2 seat Restructured = (t1 : Table) × IsButLatches t1 t2 × Rewrites m t t1 d d2 seat Restructured × IsExact (sheets_of t) (sheets_of t2) t2.touched
StepTells m t t2 d d2 seat (Restarted block by) = Comes m t t2 d d2 seat (Busy block by)
StepTells m t t2 d d2 seat Put = (t1 : Table) × IsButLatches t1 t2 × Rewrites m t t1 d d2 seat Put × IsExact (sheets_of t) (sheets_of t2) t2.touched

-- ---- the whole of a section

-- what comes of a section, once the latches are settled
pub record StepDone {Key Recon Cond : Type 0} (m : Meaning Key Recon Cond) (t t2 : Table) (d d2 : Descending Recon) (seat : ℕ) (out : InsertOut) : Type 0 where
  pub ok : IsStepOut m t t2 d d2 seat out
  pub told : StepTells m t t2 d d2 seat out
  pub latches : (rest : ℕ → Option ℕ) → InsertHolds t seat rest d → HoldsAfter t2 seat rest d2 out
  pub within : HoldsIts t seat d → ChangesHeld t t2 seat
  pub ends : TakesOne m t t2 d d2 out
  pub makes : MakesAtMostOne t t2

-- what comes of one that changed pages, before that
pub record Rewritten {Key Recon Cond : Type 0} (m : Meaning Key Recon Cond) (t t2 : Table) (d d2 : Descending Recon) (seat : ℕ) (out : InsertOut) : Type 0 where
  pub told : Rewrites m t t2 d d2 seat out
  pub exact : IsExact (sheets_of t) (sheets_of t2) t2.touched
  pub held : TouchesFree t t2 d seat
  pub stood : StandsFree t t2 d d2 seat

-- where it changed no pages the latches are settled
abbrev pub Does : {Key Recon Cond : Type 0} → Meaning Key Recon Cond → Table → Table → Descending Recon → Descending Recon → ℕ → InsertOut → Type 0
Does m t t2 d d2 seat Descended = StepDone m t t2 d d2 seat Descended
Does m t t2 d d2 seat Restructured = Rewritten m t t2 d d2 seat Restructured
Does m t t2 d d2 seat (Restarted block by) = StepDone m t t2 d d2 seat (Restarted block by)
Does m t t2 d d2 seat Put = Rewritten m t t2 d d2 seat Put
