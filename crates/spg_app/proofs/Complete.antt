-- What the answers of a run decide.
use Rattle.std.proofs.Common.{◌≡◌, ◌⊎◌, ◌<◌, ◌≤◌, ◌+◌, ◌-◌, inl, inr, ℕ, List, [], ◌∷◌, ◌++◌, length, take, drop, Option, Some, None, Bool, true, false, ◌||◌, if◌then◌else◌, refl, sym, ap, ◌∙◌, subst, arith, length-append, append-nil}
use Rattle.std.specs.Io.KnownBytes.{Consumes, IsAtEnd}
use Rattle.std.proofs.lemmas.List.{append_assoc}
use Rattle.std.proofs.Math.Seq.{take-add}
use Rattle.std.proofs.lemmas.Bool.{cases_lt}
use Rattle.spg_io.specs.Causes.{Rose}
use Rattle.spg_script.specs.Blocks.{Script}
use Rattle.spg_script.specs.Script.{lines_of, IsScript, CanGoOn, IsFirstBad}
use Rattle.spg_report.specs.declared.outcome.Outcome.{Outcome}
use Rattle.spg_report.specs.declared.outcome.Outcome.TheVariants as outcome
use Rattle.spg_report.specs.declared.record.Record.{Record}
use Rattle.spg_histories.specs.Ending.{Writing, all_taken, write_failed, memory_wanting, any_outcome, is_fault, is_memory, status_after}
use Rattle.spg_histories.specs.declared.status.Status.{Status}
use Rattle.spg_histories.specs.declared.status.Status.TheVariants.{Done, Usage, BadScript, ReadFault, WriteFault, ImageFault, BadImage, Memory, Full}
use Rattle.spg_perform.specs.Session.{is_image_fault, image_faults, RoseBy}
use Rattle.spg_app.specs.declared.end_state.EndState.{EndState}
use Rattle.spg_app.specs.Ending.{Outlets}
use Rattle.spg_app.specs.Headline.{Streams, GaveScript, IsBadScript, IsRefusal, EndsRun, IsStopped, IsRun, HoldsScript, HoldsNoScript, HoldsImageFor, NoFault}
use Rattle.spg_app.proofs.Images.{good_fails, refusal_complete}
use Rattle.spg_script.proofs.Scripts.{exact}

-- ---- what a source that tells its bytes gave

pub whole : (all : List ℕ) (left : Option (List ℕ)) (bytes : List ℕ) → Consumes (Some all) left bytes → IsAtEnd left → all ≡ bytes
whole all None bytes read at_end = absurd read
whole all (Some rest) bytes read at_end = read ∙ ap (λ l. bytes ++ l) at_end ∙ append-nil bytes

pub no_shorter : (all : List ℕ) (left : Option (List ℕ)) (bytes : List ℕ) → Consumes (Some all) left bytes → length bytes ≤ length all
no_shorter all None bytes read = absurd read
no_shorter all (Some rest) bytes read = omega (arith, ap length read, length-append bytes rest)

pub gave_script : (left left_after : Option (List ℕ)) (n : ℕ) (P : Script → Type 0) → HoldsScript left P → IsBadScript left left_after n → ⊥
gave_script None left_after n P holds gave = holds
gave_script (Some all) left_after n P holds (inl refused) = refused.none holds.0.0 (subst (λ l. IsScript l holds.0.0) (whole all left_after refused.bytes refused.read.0 refused.read.1) holds.0.1)
gave_script (Some all) left_after n P holds (inr more) = omega (arith, no_shorter all left_after more.1.0 more.1.1, more.1.2, holds.1)

-- the script that was given is the one that is held
pub same_script : (left left_after : Option (List ℕ)) (P : Script → Type 0) (script : Script) → HoldsScript left P → GaveScript left left_after script → P script
same_script None left_after P script holds gave = absurd holds
same_script (Some all) left_after P script holds gave =
    let is : IsScript all script = subst (λ l. IsScript l script) (sym (whole all left_after gave.bytes gave.read.0 gave.read.1)) gave.is_script in
    subst P (exact.one all holds.0.0 script holds.0.1 is) holds.0.2

-- ---- completeness

-- a record that says so is a fault of the images
one_fault : (o : Outcome) (rest : Bool) (n : ℕ) → (rest ≡ true → 1 ≤ n) → is_fault o || rest ≡ true → 1 ≤ is_image_fault o + n
one_fault outcome.ImageFault rest n more is = omega arith
one_fault o rest n more is = omega (arith, more is)

fault_counts : (records : List Record) → any_outcome is_fault records ≡ true → 1 ≤ image_faults records
fault_counts [] is = absurd (cc)
fault_counts (r ∷ records) is = one_fault r.outcome (any_outcome is_fault records) (image_faults records) (fault_counts records) is

rose : (n before now : ℕ) → 1 ≤ n → RoseBy n before now → Rose before now
rose n before now some by = omega (arith, by.1)

decide : (fault memory : Bool) → (fault ≡ true → ⊥) → ((if fault then ImageFault else (if memory then Memory else Done)) ≡ Done) ⊎ ((if fault then ImageFault else (if memory then Memory else Done)) ≡ Memory)
decide true memory not_so = absurd (not_so refl)
decide false true not_so = inr refl
decide false false not_so = inl refl

pub done_or_memory : (writing : Writing) (records : List Record) (f f_after g g_after : ℕ) → (writing ≡ write_failed → Rose f f_after) → RoseBy (image_faults records) g g_after → (Rose f f_after → ⊥) → (Rose g g_after → ⊥)
    → (status_after writing records ≡ Done) ⊎ (status_after writing records ≡ Memory)
done_or_memory write_failed records f f_after g g_after cause by no_write no_image = absurd (no_write (cause refl))
done_or_memory memory_wanting records f f_after g g_after cause by no_write no_image = inr refl
done_or_memory all_taken records f f_after g g_after cause by no_write no_image =
    decide (any_outcome is_fault records) (any_outcome is_memory records) (λ is. no_image (rose (image_faults records) g g_after (fault_counts records is) by))

ran_complete : (limit : ℕ) (from : Option (List ℕ)) (io : Streams) (out : Outlets) (status : Status) (end : EndState) → EndsRun limit from io out status end → NoFault io out → (status ≡ Done) ⊎ (status ≡ Memory)
ran_complete limit from io out status end ran no_fault =
    subst (λ s. (s ≡ Done) ⊎ (s ≡ Memory)) (sym ran.run.status_is) (done_or_memory ran.run.writing ran.run.records _ _ _ _ ran.run.cause ran.run.session.faults no_fault.writing no_fault.saving)

-- where a script is held and no read fails, memory was wanting
pub script_refused : (io : Streams) (status : Status) (P : Script → Type 0) → IsRefusal io.left io.left_after io.read_faults io.read_faults_after status → HoldsScript io.left P → (Rose io.read_faults io.read_faults_after → ⊥) → status ≡ Memory
script_refused io Memory P r holds no_fault = refl
script_refused io (BadScript n) P r holds no_fault = absurd (gave_script io.left io.left_after n P holds r)
script_refused io ReadFault P r holds no_fault = absurd (no_fault r)
script_refused io Done P r holds no_fault = absurd r
script_refused io Usage P r holds no_fault = absurd r
script_refused io WriteFault P r holds no_fault = absurd r
script_refused io Full P r holds no_fault = absurd r
script_refused io ImageFault P r holds no_fault = absurd r
script_refused io (BadImage block reason) P r holds no_fault = absurd r

stopped_complete : (limit : ℕ) (name : List ℕ) (io : Streams) (out : Outlets) (status : Status) → IsStopped limit name io out status → HoldsScript io.left (HoldsImageFor limit (Some name) out.images.held) → NoFault io out → (status ≡ Done) ⊎ (status ≡ Memory)
stopped_complete limit name io out status stopped holds no_fault =
    refusal_complete _ _ (good_fails stopped.script.class limit) name out.images out.images_after status stopped.refusal
    (same_script io.left io.left_after (HoldsImageFor limit (Some name) out.images.held) stopped.script holds stopped.gave) no_fault.saving

pub complete : (limit : ℕ) (from : Option (List ℕ)) (io : Streams) (out : Outlets) (status : Status) (end : Option EndState) → IsRun limit from io out status end → HoldsScript io.left (HoldsImageFor limit from out.images.held) → NoFault io out → (status ≡ Done) ⊎ (status ≡ Memory)
complete limit from io out status (Some end) run holds no_fault = ran_complete limit from io out status end run no_fault
complete limit from io out status None (inl (refusal, left)) holds no_fault = inr (script_refused io status (HoldsImageFor limit from out.images.held) refusal holds no_fault.reading)
complete limit None io out status None (inr stopped) holds no_fault = absurd stopped
complete limit (Some name) io out status None (inr stopped) holds no_fault = stopped_complete limit name io out status stopped holds no_fault

-- ---- the first bad line is one line

CanGoOn-front : (front back : List (List ℕ)) → CanGoOn (front ++ back) → CanGoOn front
CanGoOn-front front back (more, script, are) = (back ++ more, script, rw (append_assoc front back more) at are)

not_earlier : (bytes : List ℕ) (m n : ℕ) → IsFirstBad bytes m → IsFirstBad bytes n → m < n → ⊥
not_earlier bytes m n bad later less =
    let there : m ≤ length (lines_of bytes) = omega (arith, later.within) in
    let split : n - 1 ≡ m + (n - 1 - m) = omega arith in
    bad.bad there (CanGoOn-front (take m (lines_of bytes)) (take (n - 1 - m) (drop m (lines_of bytes))) (subst CanGoOn (ap (λ k. take k (lines_of bytes)) split ∙ take-add m (n - 1 - m) (lines_of bytes)) later.before))

one_line : (bytes : List ℕ) (m n : ℕ) → IsFirstBad bytes m → IsFirstBad bytes n → m ≡ n
one_line bytes m n bad other = elim (cases_lt m n) [
  | inl less ↦ absurd (not_earlier bytes m n bad other less)
  | inr not_less ↦ elim (cases_lt n m) [ inl more ↦ absurd (not_earlier bytes n m other bad more) | inr not_more ↦ omega arith ]
]

-- ---- what is no script is refused

no_script_given : (left left_after : Option (List ℕ)) (n : ℕ) (script : Script) → HoldsNoScript left n → GaveScript left left_after script → ⊥
no_script_given None left_after n script holds gave = holds
no_script_given (Some all) left_after n script (inl bad) gave = exact.not_bad all n bad.1 script (subst (λ l. IsScript l script) (sym (whole all left_after gave.bytes gave.read.0 gave.read.1)) gave.is_script)
no_script_given (Some all) left_after n script (inr long) gave = omega (arith, gave.short, long.0, ap length (whole all left_after gave.bytes gave.read.0 gave.read.1))

no_run : (limit : ℕ) (from : Option (List ℕ)) (io : Streams) (out : Outlets) (status : Status) (n : ℕ) (end : EndState) → HoldsNoScript io.left n → EndsRun limit from io out status end → ⊥
no_run limit from io out status n end holds ran = no_script_given io.left io.left_after n ran.script holds ran.gave

same_line : (left left_after : Option (List ℕ)) (m n : ℕ) → HoldsNoScript left n → IsBadScript left left_after m → m ≡ n
same_line None left_after m n holds gave = absurd holds
same_line (Some all) left_after m n (inl bad) (inl gave) = one_line all m n (subst (λ l. IsFirstBad l m) (sym (whole all left_after gave.bytes gave.read.0 gave.read.1)) gave.first_bad) bad.1
same_line (Some all) left_after m n (inl bad) (inr more) = absurd (omega (arith, no_shorter all left_after more.1.0 more.1.1, more.1.2, bad.0))
same_line (Some all) left_after m n (inr long) (inl gave) = absurd (omega (arith, gave.short, long.0, ap length (whole all left_after gave.bytes gave.read.0 gave.read.1)))
same_line (Some all) left_after m n (inr long) (inr more) = more.0 ∙ sym long.1

line_refused : (io : Streams) (status : Status) (n : ℕ) → IsRefusal io.left io.left_after io.read_faults io.read_faults_after status → HoldsNoScript io.left n → (Rose io.read_faults io.read_faults_after → ⊥) → (status ≡ BadScript n) ⊎ (status ≡ Memory)
line_refused io Memory n r holds no_fault = inr refl
line_refused io (BadScript m) n r holds no_fault = inl (ap (λ k. BadScript k) (same_line io.left io.left_after m n holds r))
line_refused io Done n r holds no_fault = absurd r
line_refused io Usage n r holds no_fault = absurd r
line_refused io ReadFault n r holds no_fault = absurd (no_fault r)
line_refused io WriteFault n r holds no_fault = absurd r
line_refused io Full n r holds no_fault = absurd r
line_refused io ImageFault n r holds no_fault = absurd r
line_refused io (BadImage block reason) n r holds no_fault = absurd r

pub refused : (limit : ℕ) (from : Option (List ℕ)) (io : Streams) (out : Outlets) (status : Status) (end : Option EndState) → IsRun limit from io out status end → (n : ℕ) → HoldsNoScript io.left n → (Rose io.read_faults io.read_faults_after → ⊥)
    → (status ≡ BadScript n) ⊎ (status ≡ Memory)
refused limit from io out status (Some end) run n holds no_fault = absurd (no_run limit from io out status n end holds run)
refused limit from io out status None (inl (refusal, left)) n holds no_fault = line_refused io status n refusal holds no_fault
refused limit None io out status None (inr stopped) n holds no_fault = absurd stopped
refused limit (Some name) io out status None (inr stopped) n holds no_fault = absurd (no_script_given io.left io.left_after n stopped.script holds stopped.gave)
