-- With what the commands of a run begin.
use Rattle.std.proofs.Common.{◌≡◌, ◌≤◌, ◌==◌, ℕ, Bool, true, false, if◌then◌else◌, List, [], ◌∷◌, ◌++◌, reverse, Option, Some, None, Result, Ok, Err, MatchResult, IfOk, IsErr, IsErrAnd, refl, sym, ap, ◌∙◌, subst, append_assoc, append-nil, arith}
use Rattle.std.specs.Borrow.{Bor}
use Rattle.std.proofs.lemmas.List.{reverse-append}
use Rattle.spg_opclass.specs.Meaning.{Meaning}
use Rattle.spg_io.specs.Held.{Holding, Holds, Stays}
use Rattle.spg_clauses.specs.declared.reason.Fault.{Fault}
use Rattle.spg_verify.specs.declared.refused.ImageRefused.{ImageRefused}
use Rattle.spg_verify.specs.declared.refused.ImageRefused.TheVariants as refused
use Rattle.spg_verify.specs.Refusals.{IfBad, HasImageCause}
use Rattle.spg_verify.specs.Verdict.{FailsFirst}
use Rattle.spg_verify.proofs.Holding.{stays_same, holds_map}
use Rattle.spg_verdict.specs.Entries.{entries_of}
use Rattle.spg_rows.specs.declared.entry.Entry.{Entry}
use Rattle.spg_rows.specs.declared.event.Event.{Event}
use Rattle.spg_rows.specs.declared.event.Event.TheVariants.{OpenInsert, Put}
use Rattle.spg_rows.specs.History.{History, Opened, nothing, inserting, open_of}
use Rattle.spg_rows.specs.Loads.{load_events}
use Rattle.spg_core.specs.Seen.{Seen, past_of}
use Rattle.spg_core.specs.Sections.{IsNew}
use Rattle.spg_verify.specs.declared.reading.Verified.{Verified}
use Rattle.spg_words.specs.Reading.{word_in}
use Rattle.spg_image.specs.Verifying.{IsLoadOf, IsMade, IsBadImage}
use Rattle.spg_histories.specs.declared.status.Status.{Status}
use Rattle.spg_histories.specs.declared.status.Status.TheVariants.{Done, Usage, BadScript, ReadFault, WriteFault, ImageFault, BadImage, Memory, Full}
use Rattle.spg_perform.specs.Session.{Outside, AllClosed}
use Rattle.spg_app.specs.Beginning.{outside, IsBegun, status_of, IsImageRefusal, FailsAs, IsUnbegun, OnlyRead, IsLeft, IsBeginning}

-- ---- nothing is open after a load

closed_by : {O Key Recon Cond : Type 0} (b : Bool) (x rest : Opened O Key Recon Cond) → rest ≡ nothing → (if b then nothing else (if b then x else rest)) ≡ nothing
closed_by true x rest e = refl
closed_by false x rest e = e

module _ {O Key Recon Cond : Type 0} where
  twice : (xs : List (Event O Key Recon Cond)) (a b : Event O Key Recon Cond) (past : History O Key Recon Cond) → reverse (b ∷ a ∷ xs) ++ past ≡ reverse xs ++ (a ∷ b ∷ past)
  twice xs a b past = ap (λ l. l ++ past) (reverse-append (b ∷ a ∷ []) xs) ∙ append_assoc (reverse xs) (a ∷ b ∷ []) past

  closed_onto : (es : List (Entry Key)) (past : History O Key Recon Cond) → AllClosed past → AllClosed (reverse (load_events es) ++ past)
  closed_onto [] past h = h
  closed_onto (e ∷ es) past h =
      subst (λ (p : History O Key Recon Cond). AllClosed p) (sym (twice (load_events es) (Put 0 e.row) (OpenInsert 0 e.row e.key) past))
      (closed_onto es (Put 0 e.row ∷ OpenInsert 0 e.row e.key ∷ past) (λ seat. closed_by (0 == seat) (inserting e.row e.key) (open_of seat past) (h seat)))

  loaded_closed : (es : List (Entry Key)) (seen : Seen O Key Recon Cond) → seen.journal ≡ load_events es → AllClosed (past_of seen)
  loaded_closed es seen e =
      subst (λ (j : List (Event O Key Recon Cond)). AllClosed (reverse j)) (sym e)
      (subst (λ (p : History O Key Recon Cond). AllClosed p) (append-nil (reverse (load_events es))) (closed_onto es [] (λ seat. refl)))

  -- ---- what the commands begin with

  module _ (m : Meaning Key Recon Cond) (code limit : ℕ) where
    begun_new : (held : Option Holding) (seen : Seen O Key Recon Cond) → IsNew limit seen → IsBegun m code limit None held seen
    begun_new held seen n = record { loaded = []; journal = n.journal; begins = (refl, n.origin) }

    begun_loaded : (name : List ℕ) (held : Option Holding) (seen : Seen O Key Recon Cond) → IsMade m code limit held name seen → IsBegun m code limit (Some name) held seen
    begun_loaded name held seen (t, A, H) = record {
      loaded = entries_of A.entries;
      journal = A.loaded.journal;
      begins = record { table = t; spelled = H; shape = A.shape; listed = A.entries; exact = A.exact; entries = refl; numbers = A.loaded.origin };
    }

    pub new_begins : (from : Option (Bor (List ℕ))) (old : Outside) (seen : Seen O Key Recon Cond) → from ≡ None → IsNew limit seen → IsBeginning m code limit (word_in from) old old (Ok seen)
    new_begins None old seen e n = record { state = begun_new old.held seen n; closed = loaded_closed [] seen n.journal; refused = tt; left = refl; unfailed = refl }
    new_begins (Some name) old seen e n = absurd (cc e)

    pub new_refused : (from : Option (Bor (List ℕ))) (old : Outside) (result : Result (Seen O Key Recon Cond) ImageRefused) → from ≡ None → IsErr result → IsErrAnd result (λ e. e ≡ refused.Memory) → IsBeginning m code limit (word_in from) old old result
    new_refused from old (Ok seen) is err memory = absurd (cc err)
    new_refused None old (Err e) is err memory = record { state = tt; closed = tt; refused = ap status_of memory; left = refl; unfailed = tt }
    new_refused (Some name) old (Err e) is err memory = absurd (cc is)

    -- why an image was not loaded
    why : (name : List ℕ) (held now : Option Holding) (f g : ℕ) (e : ImageRefused)
        → Holds held name (λ bytes. IfBad e (λ (x : Fault). FailsFirst m code limit bytes x))
        → HasImageCause {T = Seen O Key Recon Cond} f g (Err e) → IsUnbegun m code limit (Some name) (outside held f) (outside now g) (status_of e)
    why name held now f g (refused.BadImage block reason) h cause = h
    why name held now f g refused.ImageFault h cause = cause.fault refl
    why name held now f g refused.Memory h cause = cause.refused (λ same. (cc))

    loaded_or_not : (name : List ℕ) (held now : Option Holding) (f g : ℕ) (result : Result (Seen O Key Recon Cond) ImageRefused)
        → Holds held name (λ bytes. MatchResult result (λ seen. IsLoadOf m code limit bytes seen) (λ e. IfBad e (λ (x : Fault). FailsFirst m code limit bytes x)))
        → IfOk result (λ seen. IsMade m code limit held name seen) → Stays held now → HasImageCause f g result → IsBeginning m code limit (Some name) (outside held f) (outside now g) result
    loaded_or_not name held now f g (Ok seen) value made stays cause = record {
      state = begun_loaded name held seen made;
      closed = loaded_closed (entries_of made.1.entries) seen made.1.loaded.journal;
      refused = tt;
      left = record { stays = stays; later = cause.later };
      unfailed = cause.answered;
    }
    loaded_or_not name held now f g (Err e) value made stays cause = record {
      state = tt;
      closed = tt;
      refused = why name held now f g e value cause;
      left = record { stays = stays; later = cause.later };
      unfailed = tt;
    }

    pub loaded_begins : (from : Option (Bor (List ℕ))) (name : Bor (List ℕ)) (held now : Option Holding) (f g : ℕ) (result : Result (Seen O Key Recon Cond) ImageRefused) → from ≡ Some name
        → Holds held name.now (λ bytes. MatchResult result (λ seen. IsLoadOf m code limit bytes seen) (λ e. IfBad e (λ (x : Fault). FailsFirst m code limit bytes x)))
        → IfOk result (λ seen. IsMade m code limit held name.now seen) → Stays held now → HasImageCause f g result → IsBeginning m code limit (word_in from) (outside held f) (outside now g) result
    loaded_begins from name held now f g result is value made stays cause =
        subst (λ (x : Option (Bor (List ℕ))). IsBeginning m code limit (word_in x) (outside held f) (outside now g) result) (sym is) (loaded_or_not name.now held now f g result value made stays cause)

-- why an image was not verified
pub bad_refusal : (name : List ℕ) (held now : Option Holding) (f g : ℕ) (e : ImageRefused) → Holds held name (λ bytes. IfBad e (λ (x : Fault). IsBadImage bytes x)) → HasImageCause {T = Verified} f g (Err e)
    → IsImageRefusal IsBadImage name (outside held f) (outside now g) (status_of e)
bad_refusal name held now f g (refused.BadImage block reason) h cause = h
bad_refusal name held now f g refused.ImageFault h cause = cause.fault refl
bad_refusal name held now f g refused.Memory h cause = cause.refused (λ same. (cc))

pub refusal_as : (fails : Option (List ℕ) → Fault → Type 0) (name : List ℕ) (old now : Outside) (e : ImageRefused) (status : Status) → status ≡ status_of e → IsImageRefusal fails name old now (status_of e) → IsImageRefusal fails name old now status
refusal_as fails name old now e status is refusal = subst (λ (s : Status). IsImageRefusal fails name old now s) (sym is) refusal

pub memory_unbegun : {Key Recon Cond : Type 0} (m : Meaning Key Recon Cond) (code limit : ℕ) (from : Option (List ℕ)) (old now : Outside) → now.faults ≡ old.faults → IsUnbegun m code limit from old now Memory
memory_unbegun m code limit None old now same = refl
memory_unbegun m code limit (Some name) old now same = same

pub unbegun_as : {Key Recon Cond : Type 0} (m : Meaning Key Recon Cond) (code limit : ℕ) (from : Option (List ℕ)) (old now : Outside) (e : ImageRefused) (status : Status) → status ≡ status_of e → IsUnbegun m code limit from old now (status_of e) → IsUnbegun m code limit from old now status
unbegun_as m code limit from old now e status is unbegun = subst (λ (s : Status). IsUnbegun m code limit from old now s) (sym is) unbegun

-- ---- images that were only read

pub left_read : (from : Option (List ℕ)) (old now : Outside) → IsLeft from old now → OnlyRead old now
left_read None old now e = subst (λ (x : Outside). OnlyRead old x) (sym e) (record { stays = stays_same old.held; later = omega arith })
left_read (Some name) old now r = r

pub refusal_weaker : (P Q : Option (List ℕ) → Fault → Type 0) (name : List ℕ) (old now : Outside) (status : Status) → ((bytes : Option (List ℕ)) (f : Fault) → P bytes f → Q bytes f)
    → IsImageRefusal P name old now status → IsImageRefusal Q name old now status
refusal_weaker P Q name old now (BadImage block reason) more r =
    holds_map old.held name (λ bytes. P bytes (record { block = block; reason = reason })) (λ bytes. Q bytes (record { block = block; reason = reason })) (λ bytes p. more bytes (record { block = block; reason = reason }) p) r
refusal_weaker P Q name old now ImageFault more r = r
refusal_weaker P Q name old now Memory more r = r
refusal_weaker P Q name old now Done more r = r
refusal_weaker P Q name old now Usage more r = r
refusal_weaker P Q name old now (BadScript n) more r = r
refusal_weaker P Q name old now ReadFault more r = r
refusal_weaker P Q name old now WriteFault more r = r
refusal_weaker P Q name old now Full more r = r
