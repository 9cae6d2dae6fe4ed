-- What is read of saved bytes is what was saved: one table alone is spelled by them.
use Rattle.std.proofs.Common.{◌≡◌, ◌↔◌, ℕ, zero, suc, ◌<◌, ◌⊎◌, inl, inr, List, length, max, Option, Some, None, Result, Ok, Err, MatchResult, refl, sym, ap, subst, ◌∙◌, arith, false}
use Rattle.std.proofs.lemmas.List.{same_lists, get_or_default}
use Rattle.spg_opclass.specs.Meaning.{Meaning}
use Rattle.spg_io.specs.Held.{Holding, Holds}
use Rattle.spg_forest.specs.Sheets.{Sheet, Sheets, blank}
use Rattle.spg_forest.specs.Shape.{Shape, Represents, spots}
use Rattle.spg_page.specs.Versions.{version_in}
use Rattle.spg_page.specs.Came.{sheet_in}
use Rattle.spg_tree.specs.Table.{Table, sheet_of, sheets_of, table_with, with_meta}
use Rattle.spg_core.specs.Seen.{Seen, past_of, IsPresentWith}
use Rattle.spg_rows.specs.Loads.{IsListed}
use Rattle.spg_forest.specs.Classes.{HasEntry}
use Rattle.spg_verify.specs.Counts.{lives_in}
use Rattle.spg_verdict.specs.Images.{HaveCome}
use Rattle.spg_verdict.specs.Entries.{entries_of}
use Rattle.spg_verify.specs.Meta.{count_in, clock_in, remembered_in, counter_in}
use Rattle.spg_verify.specs.Verdict.{page_at, IsTableOf, Spells, FailsFirst, IsGood, IsVerified}
use Rattle.spg_verify.specs.declared.reading.Verified.{Verified}
use Rattle.spg_verify.specs.declared.refused.ImageRefused.{ImageRefused}
use Rattle.spg_verify.specs.declared.refused.ImageRefused.TheVariants as refused
use Rattle.spg_verify.specs.Refusals.{IfBad}
use Rattle.spg_verify.proofs.Apart.{same_bytes, good_fails_none}
use Rattle.spg_image.specs.Image.{Image, image_of, sheets_in}
use Rattle.spg_image.specs.Saving.{Saves, HoldsImage}
use Rattle.spg_image.specs.Verifying.{IsVerifiedAs, IsImageOf, IsBadImage, IsLoadOf}
use Rattle.spg_image.specs.declared.class.ImageClass.{ImageClass}
use Rattle.spg_image.proofs.Classes.{of_both, of_any}
use Rattle.spg_image.proofs.Apart.{image_is_not_bad, same_class}
use Rattle.spg_saved.specs.Saved.{table_in, numbers_of, HasShape}
use Rattle.spg_saved.specs.Answers.{IsSaved, SavedLoads, SavedVerifies}
use Rattle.spg_saved.proofs.Saved.{saved_good, saved_image}

-- ---- one table

module _ {Key Recon Cond : Type 0} (m : Meaning Key Recon Cond) where
  come_same : (version : ℕ) (image : ℕ → List ℕ) (n : ℕ) (ps qs : List Sheet) → HaveCome m version (λ b page. page ≡ image b) n ps → HaveCome m version (λ b page. page ≡ image b) n qs → ps ≡ qs
  come_same version image n ps qs C D = same_lists ps qs (C.long ∙ sym D.long) (λ k d h.
      get_or_default ps k d (blank false) h ∙ same k (omega (arith, h, C.long)) ∙ get_or_default qs k (blank false) d (omega (arith, h, C.long, D.long)))
    where
      same : (k : ℕ) → k < n → sheet_of ps k ≡ sheet_of qs k
      same zero l = C.meta ∙ sym D.meta
      same (suc k) l =
          let (p, e, r, s) = C.each (suc k) (omega arith) l in
          let (q, d, u, v) = D.each (suc k) (omega arith) l in
          s ∙ ap sheet_in (e ∙ sym d) ∙ sym v

  same_table : (bytes : List ℕ) (limit : ℕ) (t u : Table) → IsTableOf m bytes limit t → IsTableOf m bytes limit u → t ≡ u
  same_table bytes limit t u T U =
      let page = page_at bytes 0 in
      let pages : t.pages ≡ u.pages = come_same (version_in page) (page_at bytes) (count_in page) t.pages u.pages T.come U.come in
      T.is ∙ ap (λ (ps : List Sheet). with_meta (table_with ps (max limit (count_in page)) (clock_in page)) (clock_in page) (remembered_in page) (counter_in page)) pages ∙ sym U.is

  pub spelled_same : (code : ℕ) (limit : ℕ) (held : Option (List ℕ)) (t u : Table) → Spells m code limit held t → Spells m code limit held u → t ≡ u
  spelled_same code limit held t u (b, e, M, T) (c, d, N, U) = same_table b limit t u T (subst (λ (x : List ℕ). IsTableOf m x limit u) (same_bytes held c b d e) U)

-- ---- what a save left

held_by : (i : Image) (old : Holding) (now : Option Holding) (name : List ℕ) (pages : ℕ) → Saves i (Some old) now name (Ok pages) → (h : Holding) × (now ≡ Some h) × HoldsImage i (h name)
held_by i old None name pages (e, c) = absurd c
held_by i old (Some h) name pages (e, c) = (h, refl, c.0)

good_held : {Key Recon Cond : Type 0} (m : Meaning Key Recon Cond) (code : ℕ) (i : Image) (limit : ℕ) (held : Option (List ℕ)) → HoldsImage i held → i.class ≡ code → Shape m (sheets_in i) → IsGood m code limit held (table_in limit i)
good_held m code i limit held (bytes, e, R) c H = subst (λ (x : Option (List ℕ)). IsGood m code limit x (table_in limit i)) (sym e) (saved_good m code limit i bytes R c H)

module _ {O Key Recon Cond : Type 0} (m : Meaning Key Recon Cond) (code : ℕ) where
  abbrev Answers : ℕ → Option (List ℕ) → Result (Seen O Key Recon Cond) ImageRefused → Type 0
  Answers limit held result = MatchResult result (λ seen. IsLoadOf m code limit held seen) (λ e. IfBad e (λ f. FailsFirst m code limit held f))

  abbrev IsAnswer : ℕ → Seen O Key Recon Cond → Result (Seen O Key Recon Cond) ImageRefused → Type 0
  IsAnswer limit saved result = MatchResult result (λ seen. IsSaved code limit saved seen) (λ e. IfBad e (λ f. ⊥))

  module _ (saved : Seen O Key Recon Cond) (limit : ℕ) (held : Option (List ℕ)) (R : Represents m (sheets_in (image_of code saved.table)) (IsPresentWith (past_of saved))) where
    abbrev table : Table
    table = table_in limit (image_of code saved.table)

    loaded : (seen : Seen O Key Recon Cond) → IsGood m code limit held table → IsLoadOf m code limit held seen → IsSaved code limit saved seen
    loaded seen G (t, S, A) =
        let e : t ≡ table = spelled_same m code limit held t table S G.0 in
        let was : sheets_of t ≡ sheets_in (image_of code saved.table) = ap (λ (x : Table). sheets_of x) e in
        record {
          table = A.loaded.table ∙ e;
          entries = entries_of A.entries;
          journal = A.loaded.journal;
          exact = λ row key.
              let a = R.entries row key in
              let b = subst (λ (S : Sheets). HasEntry m (spots S) row key ↔ IsListed (entries_of A.entries) row key) was (A.exact.exact row key) in
              ((λ p. b.0 (a.1 p)), (λ q. a.0 (b.1 q)));
        }

    answer : (result : Result (Seen O Key Recon Cond) ImageRefused) → IsGood m code limit held table → Answers limit held result → IsAnswer limit saved result
    answer (Ok seen) G h = loaded seen G h
    answer (Err (refused.BadImage b r)) G h = good_fails_none m code limit held limit (record { block = b; reason = r }) table h G
    answer (Err refused.ImageFault) G h = tt
    answer (Err refused.Memory) G h = tt

  pub saved_loads : SavedLoads O Key Recon Cond m code
  saved_loads saved old now name pages limit result S R A =
      let (h, e, held) = held_by (image_of code saved.table) old now name pages S in
      answer saved limit (h name) R result (good_held m code (image_of code saved.table) limit (h name) held refl R.shape)
      (subst (λ (x : Option Holding). Holds x name (λ held. Answers limit held result)) e A)

-- ---- what is verified

same_numbers : (v w : Verified) → v.pages ≡ w.pages → v.entries ≡ w.entries → v ≡ w
same_numbers v w a b = ap (λ p. verified p v.entries) a ∙ ap (λ (e : ℕ). verified w.pages e) b
  where
    verified : ℕ → ℕ → Verified
    verified p e = record { pages = p; entries = e }

abbrev AreNumbers : Image → Result Verified ImageRefused → Type 0
AreNumbers i result = MatchResult result (λ v. v ≡ numbers_of i) (λ e. IfBad e (λ f. ⊥))

-- two counts of one image are the same
one_count : {Key Recon Cond : Type 0} (m : Meaning Key Recon Cond) (code : ℕ) (held : Option (List ℕ)) (v w : Verified) → IsVerified m code held v → IsVerified m code held w → v ≡ w
one_count m code held v w (t, G, a, b) (u, K, c, d) =
    let e : t.pages ≡ u.pages = ap (λ (x : Table). x.pages) (spelled_same m code 4 held t u G.0 K.0) in
    same_numbers v w (a ∙ ap (λ (ps : List Sheet). length ps) e ∙ sym c) (b ∙ ap lives_in e ∙ sym d)

one_image : (held : Option (List ℕ)) (v w : Verified) → IsImageOf held v → IsImageOf held w → v ≡ w
one_image held v w (c, V) (d, W) = of_any (v ≡ w) c
    (of_both (λ Key Recon Cond m code. IsVerified m code held v) (λ Key Recon Cond m code. IsVerified m code held w) (λ Key Recon Cond m code. v ≡ w)
    (λ Key Recon Cond m code V W. one_count m code held v w V W) c V (subst (λ (x : ImageClass). IsVerifiedAs held w x) (sym (same_class held v w c d V W)) W))

numbers : (i : Image) (held : Option (List ℕ)) (result : Result Verified ImageRefused) → IsImageOf held (numbers_of i) → MatchResult result (λ v. IsImageOf held v) (λ e. IfBad e (λ f. IsBadImage held f)) → AreNumbers i result
numbers i held (Ok v) G h = one_image held v (numbers_of i) h G
numbers i held (Err (refused.BadImage b r)) G h = image_is_not_bad held (record { block = b; reason = r }) (numbers_of i) G h
numbers i held (Err refused.ImageFault) G h = tt
numbers i held (Err refused.Memory) G h = tt

image_held : (i : Image) (held : Option (List ℕ)) → HoldsImage i held → HasShape i → IsImageOf held (numbers_of i)
image_held i held (bytes, e, R) H = subst (λ (x : Option (List ℕ)). IsImageOf x (numbers_of i)) (sym e) (saved_image i bytes R H)

pub saved_verifies : SavedVerifies
saved_verifies i old now name pages result S H A =
    let (h, e, held) = held_by i old now name pages S in
    numbers i (h name) result (image_held i (h name) held H)
    (subst (λ (x : Option Holding). Holds x name (λ held. MatchResult result (λ v. IsImageOf held v) (λ e. IfBad e (λ f. IsBadImage held f)))) e A)
