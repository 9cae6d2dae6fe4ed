-- What one command does to the images outside, as far as they tell.
use Rattle.std.proofs.Common.{◌≡◌, ◌≢◌, ◌+◌, ◌⊎◌, inl, inr, ℕ, true, false, List, [], ◌∷◌, ◌++◌, length, reverse, Option, Some, None, refl, sym, ap, ◌∙◌, subst, arith}
use Rattle.std.specs.Prelude.{bytes_eq, ⊤}
use Rattle.std.proofs.lemmas.List.{take_all}
use Rattle.std.proofs.lemmas.Slice.Eq.{bytes_eq-Decides}
use Rattle.spg_opclass.specs.Meaning.{Meaning}
use Rattle.spg_forest.specs.Sheets.{Sheets}
use Rattle.spg_forest.specs.Shape.{Represents}
use Rattle.spg_io.specs.Held.{Holding, Stays, Changes}
use Rattle.spg_rows.specs.declared.event.Event.{Event}
use Rattle.spg_rows.specs.History.{History}
use Rattle.spg_rows.specs.Present.{IsPresentWith}
use Rattle.spg_tree.specs.Table.{Table, sheets_of}
use Rattle.spg_script.specs.declared.command.Command.{Command}
use Rattle.spg_script.specs.declared.command.Command.TheVariants.{Insert, Delete, Find, Vacuum, Save, Stat, Near}
use Rattle.spg_script.specs.Speech.{Speech}
use Rattle.spg_report.specs.declared.outcome.Outcome.{Outcome}
use Rattle.spg_report.specs.declared.outcome.Outcome.TheVariants as outcome
use Rattle.spg_report.specs.declared.record.Record.{Record}
use Rattle.spg_histories.specs.Tasks.{Task}
use Rattle.spg_histories.specs.Run.{OfSave, Does, past_at}
use Rattle.spg_histories.specs.Pages.{HoldsAt}
use Rattle.spg_histories.specs.Telling.{IsQuiet, is_save, SaveGave}
use Rattle.spg_commands.specs.Acted.{task_of}
use Rattle.spg_perform.specs.Remains.{Leaves, LeftBy, CountTells}
use Rattle.spg_perform.specs.Saved.{LeavesAt, IsSaved}
use Rattle.spg_perform.specs.Session.{told_of, ReadsBack, StillTell, is_image_fault, image_faults, RoseBy, StaysUnless}
use Rattle.spg_perform.proofs.Remaining.{Gave}

-- ---- the count of faults

pub faults_append : (records : List Record) (r : Record) → image_faults (records ++ r ∷ []) ≡ image_faults records + is_image_fault r.outcome
faults_append [] r = omega arith
faults_append (x ∷ records) r = omega (arith, faults_append records r)

pub rose_then : (n k a b c : ℕ) → RoseBy n a b → RoseBy k b c → RoseBy (n + k) a c
rose_then n k a b c first second = (omega (arith, first.0, second.0), omega (arith, first.0, first.1, second.0, second.1))

stays_same : (o : Outcome) (n : ℕ) → StaysUnless o n n
stays_same outcome.ImageFault n = tt
stays_same o n = refl

pub stays_where : (o : Outcome) (before now : ℕ) → StaysUnless o before now → is_image_fault o ≡ 0 → now ≡ before
stays_where outcome.ImageFault before now stays none = absurd (omega (arith, none))
stays_where o before now stays none = stays

-- no name but this changed
abbrev TouchesOnly : Option Holding → Option Holding → List ℕ → Type 0
TouchesOnly old now name = Stays old now ⊎ Changes old now name (λ _ _. ⊤)

-- a command but a save
abbrev pub SavesNone : Command → Type 0
SavesNone (Insert row key) = ⊤
SavesNone (Delete row) = ⊤
SavesNone (Find query) = ⊤
SavesNone Vacuum = ⊤
SavesNone (Save name) = ⊥
SavesNone Stat = ⊤
SavesNone (Near target limit) = ⊤

no_save : (name : List ℕ) (c : Command) → SavesNone c → is_save name c ≡ true → ⊥
no_save name (Insert row key) none is = let clash : false ≡ true = is in (cc)
no_save name (Delete row) none is = let clash : false ≡ true = is in (cc)
no_save name (Find query) none is = let clash : false ≡ true = is in (cc)
no_save name Vacuum none is = let clash : false ≡ true = is in (cc)
no_save name (Save other) none is = absurd none
no_save name Stat none is = let clash : false ≡ true = is in (cc)
no_save name (Near target limit) none is = let clash : false ≡ true = is in (cc)

not_of_save : (A : Type 0) (c : Command) → SavesNone c → OfSave A c → ⊥
not_of_save A (Insert row key) none of = of
not_of_save A (Delete row) none of = of
not_of_save A (Find query) none of = of
not_of_save A Vacuum none of = of
not_of_save A (Save other) none of = none
not_of_save A Stat none of = of
not_of_save A (Near target limit) none of = of

-- an image fault is a save's
no_fault : {O Key Recon Cond : Type 0} (speech : Speech Key Cond) (t : Task) (before : History O Key Recon Cond) (events : List (Event O Key Recon Cond)) (o : Outcome) → SavesNone t.command → Does speech t before events o → is_image_fault o ≡ 0
no_fault speech t before events outcome.ImageFault none does = absurd (not_of_save (events ≡ []) t.command none does)
no_fault speech t before events o none does = refl

-- ---- one command

-- what a command does to images that told their bytes at the start, beside a journal and pages
pub record Outward {O Key Recon Cond : Type 0} (m : Meaning Key Recon Cond) (speech : Speech Key Cond) (code : ℕ) (journal : List (Event O Key Recon Cond)) (S : Sheets) (held held2 : Option Holding) (faults faults2 : ℕ) (t : Task) (r : Record) : Type 0 where
  pub still : (start : Option Holding) → StillTell start held → StillTell start held2
  pub quiet : (name : List ℕ) → is_save name t.command ≡ true → IsQuiet (record { task = t; done = r })
  pub saved : (start : Option Holding) → StillTell start held → (name : List ℕ) → is_save name t.command ≡ true → SaveGave O m speech (ReadsBack code) (HoldsAt m journal) S r.span.from (told_of start held2 name) r.outcome
  -- what it left there, where it went wrong too
  pub left : (start : Option Holding) → StillTell start held → (name : List ℕ) → is_save name t.command ≡ true → Gave code (HoldsAt m journal) (told_of start held name) (told_of start held2 name) r.span.from r.outcome
  pub counts : CountTells t.command r.outcome
  pub kept : (start : Option Holding) → StillTell start held → (name : List ℕ) → is_save name t.command ≡ false → told_of start held2 name ≡ told_of start held name
  pub rose : RoseBy (is_image_fault r.outcome) faults faults2
  pub unless : StaysUnless r.outcome faults faults2

module _ {O Key Recon Cond : Type 0} (m : Meaning Key Recon Cond) (speech : Speech Key Cond) (code : ℕ) (journal : List (Event O Key Recon Cond)) (held : Option Holding) (faults : ℕ) (r : Record) where
  -- a command that calls no images
  pub inward : (S : Sheets) (t : Task) (before : History O Key Recon Cond) (events : List (Event O Key Recon Cond)) → SavesNone t.command → CountTells t.command r.outcome → Does speech t before events r.outcome → Outward m speech code journal S held held faults faults t r
  inward S t before events none counts does = record {
    still = λ start is. is;
    quiet = λ name is. absurd (no_save name t.command none is);
    saved = λ start is name save. absurd (no_save name t.command none save);
    left = λ start is name save. absurd (no_save name t.command none save);
    counts = counts;
    kept = λ start is name other. refl;
    rose = (omega arith, omega (arith, no_fault speech t before events r.outcome none does));
    unless = stays_same r.outcome faults;
  }

  -- ---- a save

  module _ (held2 : Option Holding) (faults2 : ℕ) (t : Table) (name : List ℕ) where
    -- no other name is touched
    any_change : (o : Outcome) (old now : Option Holding) → LeavesAt code t old now name o → TouchesOnly old now name
    any_change o None now changes = inr tt
    any_change o (Some old) None changes = absurd changes
    any_change o (Some old) (Some now) changes = inr (tt, changes.1)

    or_change : (o : Outcome) → Stays held held2 ⊎ LeavesAt code t held held2 name o → TouchesOnly held held2 name
    or_change o (inl stays) = inl stays
    or_change o (inr changes) = any_change o held held2 changes

    touches : (o : Outcome) → IsSaved code t held held2 name o → TouchesOnly held held2 name
    touches (outcome.Saved pages) is = any_change (outcome.Saved pages) held held2 is.1
    touches outcome.ImageFault is = or_change outcome.ImageFault is
    touches outcome.Memory is = or_change outcome.Memory is
    touches o is = absurd is

    touched_still : (start old now : Option Holding) → TouchesOnly old now name → StillTell start old → StillTell start now
    touched_still None old now touched is = tt
    touched_still (Some start) None now touched is = absurd is
    touched_still (Some start) (Some old) None (inl stays) is = absurd stays
    touched_still (Some start) (Some old) None (inr changes) is = absurd changes
    touched_still (Some start) (Some old) (Some now) touched is = tt

    touched_kept : (start old now : Option Holding) (other : List ℕ) → TouchesOnly old now name → StillTell start old → other ≢ name → told_of start now other ≡ told_of start old other
    touched_kept None old now other touched is apart = refl
    touched_kept (Some start) None now other touched is apart = absurd is
    touched_kept (Some start) (Some old) None other (inl stays) is apart = absurd stays
    touched_kept (Some start) (Some old) None other (inr changes) is apart = absurd changes
    touched_kept (Some start) (Some old) (Some now) other (inl stays) is apart = ap (λ (x : Option (List ℕ)). Some x) (stays other)
    touched_kept (Some start) (Some old) (Some now) other (inr changes) is apart = ap (λ (x : Option (List ℕ)). Some x) (changes.1 other apart)

    told_stays : (start old now : Option Holding) → Stays old now → StillTell start old → told_of start now name ≡ told_of start old name
    told_stays None old now stays is = refl
    told_stays (Some start) None now stays is = absurd is
    told_stays (Some start) (Some old) None stays is = absurd stays
    told_stays (Some start) (Some old) (Some now) stays is = ap (λ (x : Option (List ℕ)). Some x) (stays name)

    left_told : (o : Outcome) → Leaves code o None (sheets_of t) → (start old now : Option Holding) → LeavesAt code t old now name o → StillTell start old → Leaves code o (told_of start now name) (sheets_of t)
    left_told o none None old now changes is = none
    left_told o none (Some start) None now changes is = absurd is
    left_told o none (Some start) (Some old) None changes is = absurd changes
    left_told o none (Some start) (Some old) (Some now) changes is = changes.0

    module _ (start : Option Holding) (tells : StillTell start held) (holds : HoldsAt m journal (sheets_of t) r.span.from) where
      gave : (o : Outcome) → IsSaved code t held held2 name o → SaveGave O m speech (ReadsBack code) (HoldsAt m journal) (sheets_of t) r.span.from (told_of start held2 name) o
      gave (outcome.Saved pages) is = (left_told (outcome.Saved pages) tt start held held2 is.1 tells, sym is.0, holds)
      gave o is = tt

      wrong : (o : Outcome) → Leaves code o None (sheets_of t) → Stays held held2 ⊎ LeavesAt code t held held2 name o → (told_of start held2 name ≡ told_of start held name) ⊎ LeftBy code (HoldsAt m journal) (told_of start held2 name) r.span.from o
      wrong o none (inl stays) = inl (told_stays start held held2 stays tells)
      wrong o none (inr left) = inr (sheets_of t, left_told o none start held held2 left tells, holds)

      left : (o : Outcome) → IsSaved code t held held2 name o → Gave code (HoldsAt m journal) (told_of start held name) (told_of start held2 name) r.span.from o
      left (outcome.Saved pages) is = (sheets_of t, left_told (outcome.Saved pages) tt start held held2 is.1 tells, holds)
      left outcome.ImageFault is = wrong outcome.ImageFault tt is
      left outcome.Memory is = wrong outcome.Memory tt is
      left o is = absurd is

    -- the pages hold the rows that are present at the end
    holds_at : r.span.from ≡ length journal → Represents m (sheets_of t) (IsPresentWith (reverse journal)) → HoldsAt m journal (sheets_of t) r.span.from
    holds_at from holds =
        let past : past_at r.span.from journal ≡ reverse journal = ap reverse (take_all r.span.from journal (omega (arith, from))) in
        subst (λ (p : History O Key Recon Cond). Represents m (sheets_of t) (IsPresentWith p)) (sym past) holds

    pub outward : (block seat : ℕ) → IsSaved code t held held2 name r.outcome → RoseBy (is_image_fault r.outcome) faults faults2 → StaysUnless r.outcome faults faults2 → r.span.from ≡ length journal → Represents m (sheets_of t) (IsPresentWith (reverse journal))
        → Outward m speech code journal (sheets_of t) held held2 faults faults2 (task_of block seat true (Save name)) r
    outward block seat is rose unless from holds = record {
      still = λ start tells. touched_still start held held2 (touches r.outcome is) tells;
      quiet = λ other save. refl;
      saved = λ start tells other save.
          let same : name ≡ other = (bytes_eq-Decides name other).0 save in
          subst (λ (n : List ℕ). SaveGave O m speech (ReadsBack code) (HoldsAt m journal) (sheets_of t) r.span.from (told_of start held2 n) r.outcome) same (gave start tells (holds_at from holds) r.outcome is);
      left = λ start tells other save.
          let same : name ≡ other = (bytes_eq-Decides name other).0 save in
          subst (λ (n : List ℕ). Gave code (HoldsAt m journal) (told_of start held n) (told_of start held2 n) r.span.from r.outcome) same (left start tells (holds_at from holds) r.outcome is);
      counts = tt;
      kept = λ start tells other save. touched_kept start held held2 other (touches r.outcome is) tells
          (λ same. let hit : bytes_eq name other ≡ true = (bytes_eq-Decides name other).1 (sym same) in let clash : true ≡ false = sym hit ∙ save in (cc));
      rose = rose;
      unless = unless;
    }
