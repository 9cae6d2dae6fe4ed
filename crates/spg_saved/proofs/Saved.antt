-- Bytes that read as an image of well formed pages meet all clauses.
use Rattle.std.proofs.Common.{◌≡◌, ℕ, zero, suc, ◌-◌, ◌<◌, ◌==◌, ◌⊎◌, ⊎_elim, true, false, inl, inr, List, length, get_or, map, Some, refl, sym, ap, subst, ◌∙◌, arith, slice_index}
use Rattle.std.specs.List.{range_with_len}
use Rattle.std.proofs.lemmas.Bool.{false≢true}
use Rattle.std.proofs.lemmas.List.FromFn.{get_or-map-range_with_len, length-map-range_with_len}
use Rattle.spg_opclass.specs.Meaning.{Meaning}
use Rattle.spg_forest.specs.Sheets.{Sheet, blank}
use Rattle.spg_forest.specs.Shape.{Shape}
use Rattle.spg_page.specs.Bytes.{HasHeader}
use Rattle.spg_page.specs.Versions.{version_in, HasMark}
use Rattle.spg_page.specs.Came.{IsGood as IsGoodPage, sheet_in}
use Rattle.spg_survey.specs.Flat.{AreStanding}
use Rattle.spg_verdict.specs.Images.{HaveCome}
use Rattle.spg_verify.specs.Versions.{version_of}
use Rattle.spg_verify.specs.Meta.{HasHeadOf}
use Rattle.spg_verify.specs.Verdict.{page_at, HasTop, HasMeta, IsTableOf, IsGood, IsVerified}
use Rattle.spg_verify.proofs.Versions.{known_version}
use Rattle.spg_image.specs.Classes.{code_of}
use Rattle.spg_image.proofs.Classes.{of_both, of_code}
use Rattle.spg_image.specs.Image.{Image, IsImage, Reads, meta_in, image_in, sheets_in}
use Rattle.spg_saved.specs.Saved.{table_in, numbers_of, SavedIsImage}

-- ---- the header of a page

main_byte : (n : ℕ) → (n ≡ 0) ⊎ (n ≡ 1) → (n == 1) ≡ false → n ≡ 0
main_byte n (inl e) h = e
main_byte n (inr e) h = absurd (false≢true (sym (sym (ap (λ k. k == 1) e) ∙ h)))

nulls_byte : (n : ℕ) → (n ≡ 0) ⊎ (n ≡ 1) → (n == 1) ≡ true → n ≡ 1
nulls_byte n (inl e) h = absurd (false≢true (sym (ap (λ k. k == 1) e) ∙ h))
nulls_byte n (inr e) h = e

module _ {Key Recon Cond : Type 0} (m : Meaning Key Recon Cond) (code limit : ℕ) (bytes : List ℕ) (is : IsImage bytes) where
  abbrev count : ℕ
  count = (meta_in bytes).count

  abbrev page : ℕ → List ℕ
  page b = page_at bytes b

  abbrev pages : List Sheet
  pages = (image_in bytes).pages

  abbrev version : ℕ
  version = version_in (page 0)

  of_class : version ≡ version_of (meta_in bytes).class
  of_class = is.meta.head.mark.version_is

  long : length pages ≡ count
  long =
      let l : length (map (λ b. sheet_in (page_at bytes b)) (range_with_len 1 (count - 1))) ≡ count - 1 = length-map-range_with_len (λ b. sheet_in (page_at bytes b)) 1 (count - 1) in
      let f = is.from in omega (arith, l, f)

  at : (b : ℕ) → 0 < b → b < count → get_or pages b (blank false) ≡ sheet_in (page b)
  at zero a l = absurd (omega arith)
  at (suc b) a l = get_or-map-range_with_len (λ k. sheet_in (page_at bytes k)) 1 (count - 1) b (suc b) (blank false) (omega arith) (omega arith)

  header : (b : ℕ) → 0 < b → b < count → HasHeader version b (page b)
  header b a l = (let p = is.pages b a l in record {
    mark = subst (λ n. HasMark n (page b)) (sym of_class) p.mark;
    kind = p.kind;
    tree = p.tree;
    block = p.block;
    zeros = p.zeros;
    tail = p.tail;
    main = λ e. main_byte (slice_index (page b) 7) p.tree (subst (λ k. (sheet_in (page k)).nulls ≡ false) (sym e) is.main);
    nulls = λ e. nulls_byte (slice_index (page b) 7) p.tree (subst (λ k. (sheet_in (page k)).nulls ≡ true) (sym e) is.nulls);
  })

  good_page : (b : ℕ) → 0 < b → b < count → IsGoodPage version b (page b)
  good_page b a l = (let p = is.pages b a l in record {
    header = header b a l;
    items = record {
      pointers = p.laid.tiled.pointers;
      within = λ i k q. (p.laid.tiled.above i k, p.laid.tiled.below i k);
      apart = λ i j k l n q r. p.laid.tiled.apart i j k l n;
      whole = p.laid.tiled.whole;
    };
    tuples = p.tuples;
  })

  module _ (shape : Shape m (sheets_in (image_in bytes))) where
    standing : (b : ℕ) → 0 < b → b < count → AreStanding m (sheet_in (page b))
    standing b a l = subst (λ (s : Sheet). AreStanding m s) (at b a l) (shape.pages.each b).kinds

    come : HaveCome m version (λ b p. p ≡ page_at bytes b) count pages
    come = record {
      long = long;
      meta = refl;
      each = λ b a l. (page b, refl, record { good = good_page b a l; standing = standing b a l }, at b a l);
    }

    top : HasTop bytes
    top = record {
      long = (let f = is.from in let e = is.len in omega (arith, f, e));
      head = ⊎_elim (λ e. inl (subst (λ n. HasHeadOf n (page 0)) e is.meta.head)) (λ e. inr (subst (λ n. HasHeadOf n (page 0)) e is.meta.head)) (known_version (meta_in bytes).class);
    }

    meta : (image_in bytes).class ≡ code → HasMeta code bytes
    meta e = record {
      top = top;
      class = record { named = e; version = of_class ∙ ap version_of e };
      count = record { from = is.from; to = is.to; len = is.len };
      numbers = record { zeros = is.meta.more_zeros; clock = is.clock; remembered = is.remembered; counter = is.counter };
    }

    table : IsTableOf m bytes limit (table_in limit (image_in bytes))
    table = record {
      come = come;
      is = rw long refl;
    }

    pub good_in : (image_in bytes).class ≡ code → IsGood m code limit (Some bytes) (table_in limit (image_in bytes))
    good_in e = ((bytes, refl, meta e, table), shape)

pub saved_good : {Key Recon Cond : Type 0} (m : Meaning Key Recon Cond) (code limit : ℕ) (i : Image) (bytes : List ℕ) → Reads i bytes → i.class ≡ code → Shape m (sheets_in i) → IsGood m code limit (Some bytes) (table_in limit i)
saved_good m code limit i bytes R e H =
    subst (λ (x : Image). IsGood m code limit (Some bytes) (table_in limit x)) R.value
    (good_in m code limit bytes R.is (subst (λ (x : Image). Shape m (sheets_in x)) (sym R.value) H) (ap (λ (x : Image). x.class) R.value ∙ e))

pub saved_verified : {Key Recon Cond : Type 0} (m : Meaning Key Recon Cond) (code : ℕ) (i : Image) (bytes : List ℕ) → Reads i bytes → i.class ≡ code → Shape m (sheets_in i) → IsVerified m code (Some bytes) (numbers_of i)
saved_verified m code i bytes R e H = (table_in 4 i, saved_good m code 4 i bytes R e H, refl, refl)

-- ---- the class

pub saved_image : SavedIsImage
saved_image i bytes R (c, e, H) = (
  c,
  of_both (λ Key Recon Cond m code. Shape m (sheets_in i)) (λ Key Recon Cond m code. (Shape m (sheets_in i)) × (code ≡ code_of c)) (λ Key Recon Cond m code. IsVerified m code (Some bytes) (numbers_of i))
      (λ Key Recon Cond m code H (h, q). saved_verified m code i bytes R (e ∙ sym q) H) c H (of_code (λ Key Recon Cond m code. Shape m (sheets_in i)) c H),
)
