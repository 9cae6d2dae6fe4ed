-- The first pages of an image, one more page, and all of them.
use Rattle.std.proofs.Common.{◌≡◌, ℕ, zero, suc, ◌+◌, ◌-◌, ◌*◌, ◌<◌, ◌≤◌, ◌^◌, true, false, inl, inr, List, [], ◌∷◌, ◌++◌, length, get_or, drop, map, Option, Some, refl, sym, ap, subst, ◌∙◌, arith}
use Rattle.std.specs.List.{range_with_len}
use Rattle.std.proofs.lemmas.Bool.{cases_eq}
use Rattle.std.proofs.lemmas.List.{same_lists, length-append, length-drop, append-nil, get_or_append_left, get_or-append-add, get_or_default}
use Rattle.std.proofs.lemmas.List.FromFn.{get_or-map-range_with_len, length-map-range_with_len}
use Rattle.std.proofs.lemmas.List.Edits.{length-between, get_or-between}
use Rattle.std.proofs.lemmas.Grind.{same_number_lists, get_or_after_one}
use Rattle.spg_forest.specs.Sheets.{Sheet, blank}
use Rattle.spg_page.proofs.Layouts.{same_pieces}
use Rattle.spg_tree.specs.declared.meta.Meta.{Meta}
use Rattle.spg_tree.specs.Marks.{meta_of}
use Rattle.spg_tree.specs.Table.{Table, sheet_at, IsSound, AreRemembered}
use Rattle.spg_io.specs.Held.{HasPageMore, HasFrontMore, page_size}
use Rattle.spg_page.specs.Came.{sheet_in}
use Rattle.spg_verify.specs.Versions.{version_of}
use Rattle.spg_verify.specs.Verdict.{page_at}
use Rattle.spg_image.specs.Page.{IsPageAt}
use Rattle.spg_image.specs.Meta.{IsMeta, Said, said_in}
use Rattle.spg_image.specs.Image.{Image, IsImage, Reads, image_of, meta_in}
use Rattle.spg_image.specs.Saving.{AreFirst, IsBlockOf, HoldsPages, HoldsFirstAndFront, said_of}

-- ---- one page more

front_page : (bytes page : List ℕ) (k b : ℕ) → length bytes ≡ page_size * k → length page ≡ page_size → b < k → page_at (bytes ++ page) b ≡ page_at bytes b
front_page bytes page k b len size l =
    same_pieces (bytes ++ page) bytes (page_size * b) (page_size * b) page_size (omega (arith, length-append bytes page)) (omega arith) (λ j h. get_or_append_left bytes page 0 (page_size * b + j) (omega arith))

last_page : (bytes page : List ℕ) (k : ℕ) → length bytes ≡ page_size * k → length page ≡ page_size → page_at (bytes ++ page) k ≡ page
last_page bytes page k len size =
    let all : length (bytes ++ page) ≡ page_size * k + page_size = length-append bytes page ∙ omega arith in
    let long : length (page_at (bytes ++ page) k) ≡ page_size = length-between (bytes ++ page) (page_size * k) (page_size * k + page_size) (omega arith) ∙ omega arith in
    same_number_lists (page_at (bytes ++ page) k) page (long ∙ sym size) (λ j h.
    get_or-between (bytes ++ page) (page_size * k) (page_size * k + page_size) j 0 (omega (arith, long, h))
    ∙ ap (λ x. get_or (bytes ++ page) (x + j) 0) (sym len) ∙ get_or-append-add bytes page j 0)

pub first_none : (i : Image) → AreFirst i 0 []
first_none i = record { len = refl; each = λ b h. absurd (omega arith) }

pub first_more : (i : Image) (k : ℕ) (bytes page : List ℕ) → AreFirst i k bytes → length page ≡ page_size → IsBlockOf i k page → AreFirst i (k + 1) (bytes ++ page)
first_more i k bytes page first size here = record {
  len = length-append bytes page ∙ omega (arith, first.len, size);
  each = λ b h. elim (cases_eq b k) [
    | inl e ↦ subst (λ n. IsBlockOf i n (page_at (bytes ++ page) n)) (sym e) (rw (last_page bytes page k first.len size) here)
    | inr ne ↦ (let l : b < k = omega arith in rw (front_page bytes page k b first.len size l) (first.each b l))
  ];
}

-- ---- the name

pub holds_none : (i : Image) → HoldsPages i 0 (Some [])
holds_none i = ([], refl, first_none i)

pub holds_more : (i : Image) (k : ℕ) (page : List ℕ) (old now : Option (List ℕ)) → HoldsPages i k old → length page ≡ page_size → IsBlockOf i k page → HasPageMore page old now → HoldsPages i (k + 1) now
holds_more i k page old now h size here more =
    let m = rw h.1 at more in
    (h.0 ++ page, m, first_more i k h.0 page h.2 size here)

pub holds_front : (i : Image) (k : ℕ) (page : List ℕ) (old now : Option (List ℕ)) → HoldsPages i k old → k < length i.pages → IsBlockOf i k page → HasFrontMore page old now → HoldsFirstAndFront i now
holds_front i k page old now h l here more = elim more [
  | inl same ↦ (k, 0, h.0, page, l, same ∙ h.1 ∙ ap Some (sym (append-nil h.0)), h.2, here)
  | inr front ↦ (let m = rw h.1 at front.1 in (k, front.0, h.0, page, l, m, h.2, here))
]

-- ---- all pages

said_count : (bytes : List ℕ) (i : Image) → said_in (page_at bytes 0) ≡ said_of i → (meta_in bytes).count ≡ length i.pages
said_count bytes i e = ap (λ (s : Said). s.count) e

pub tail_at : (t : Table) (b : ℕ) → get_or (drop 1 t.pages) b (blank false) ≡ sheet_at t (suc b)
tail_at t b = get_or_after_one t.pages b (blank false) ∙ ap (λ k. get_or t.pages k (blank false)) (let e : 1 + b ≡ suc b = omega arith in e)

abbrev image : ℕ → ℕ → List Sheet → List ℕ → ℕ → Image
image class clock pages remembered counter = record { class = class; clock = clock; pages = pages; remembered = remembered; counter = counter }

same_images : {a b k l n m : ℕ} {ss ts : List Sheet} {r q : List ℕ} → a ≡ b → k ≡ l → ss ≡ ts → r ≡ q → n ≡ m → image a k ss r n ≡ image b l ts q m
same_images e1 e2 e3 e4 e5 = rw (e1, e2, e3, e4, e5) refl

module _ (class : ℕ) (t : Table) (bytes : List ℕ) (sound : IsSound t) (main : (sheet_at t 1).nulls ≡ false) (nulls : (sheet_at t 2).nulls ≡ true) (all : AreFirst (image_of class t) (length t.pages) bytes) where
  count : length (image_of class t).pages ≡ length t.pages
  count = omega (arith, length-drop 1 t.pages, sound.roots)

  said : said_in (page_at bytes 0) ≡ said_of (image_of class t)
  said = (all.each 0 (omega (arith, sound.roots))).1

  count_is : (meta_in bytes).count ≡ length t.pages
  count_is = said_count bytes (image_of class t) said ∙ count

  block : (b : ℕ) → suc b < length t.pages → IsPageAt (version_of class) (suc b) (page_at bytes (suc b)) × (sheet_in (page_at bytes (suc b)) ≡ sheet_at t (suc b))
  block b h = (let x = all.each (suc b) h in (x.0, x.1 ∙ tail_at t b))

  pages_is : map (λ b. sheet_in (page_at bytes b)) (range_with_len 1 ((meta_in bytes).count - 1)) ≡ drop 1 t.pages
  pages_is =
      let n : ℕ = (meta_in bytes).count - 1 in
      let f : ℕ → Sheet = λ b. sheet_in (page_at bytes b) in
      let ln : n ≡ length t.pages - 1 = ap (λ k. k - 1) count_is in
      same_lists (map f (range_with_len 1 n)) (drop 1 t.pages) (length-map-range_with_len f 1 n ∙ ln ∙ sym (length-drop 1 t.pages)) (λ k d h.
      let l : k < n = omega (arith, length-map-range_with_len f 1 n) in
      let in_table : suc k < length t.pages = omega (arith, sound.roots) in
      get_or-map-range_with_len f 1 n k (suc k) d l (omega arith) ∙ (block k in_table).1 ∙ sym (tail_at t k) ∙ get_or_default (drop 1 t.pages) k (blank false) d (omega (arith, length-drop 1 t.pages)))

  pages_at : (b : ℕ) → 0 < b → b < length t.pages → IsPageAt (version_of class) b (page_at bytes b)
  pages_at zero a l = absurd (omega arith)
  pages_at (suc b) a l = (block b l).0

  is_image : IsImage bytes
  is_image =
      let named : (meta_in bytes).class ≡ class = ap (λ (s : Said). s.class) said in
      let clock : (meta_in bytes).clock ≡ t.clock = ap (λ (s : Said). s.clock) said in
      let remembered : (meta_in bytes).remembered ≡ t.remembered = ap (λ (s : Said). s.remembered) said in
      let counter : (meta_in bytes).counter ≡ t.counter = ap (λ (s : Said). s.counter) said in
      record {
        meta = (all.each 0 (omega (arith, sound.roots))).0;
        from = omega (arith, count_is, sound.roots);
        to = omega (arith, count_is, sound.within, sound.limit_to);
        len = all.len ∙ ap (λ k. page_size * k) (sym count_is);
        clock = subst (λ n. n < 2 ^ 48) (sym clock) sound.clock;
        remembered = subst (λ n. AreRemembered n (meta_in bytes).remembered) (sym count_is) (subst (λ r. AreRemembered (length t.pages) r) (sym remembered) sound.remembered);
        counter = subst (λ n. n < 8) (sym counter) sound.counter;
        pages = λ b a l. subst (λ n. IsPageAt (version_of n) b (page_at bytes b)) (sym named) (pages_at b a (omega (arith, count_is)));
        main = ap (λ (s : Sheet). s.nulls) (block 0 (omega (arith, sound.roots))).1 ∙ main;
        nulls = ap (λ (s : Sheet). s.nulls) (block 1 (omega (arith, sound.roots))).1 ∙ nulls;
      }

  pub reads_whole : Reads (image_of class t) bytes
  reads_whole = record {
    is = is_image;
    value = same_images (ap (λ (s : Said). s.class) said) (ap (λ (s : Said). s.clock) said) (ap (λ ss. blank false ∷ ss) pages_is) (ap (λ (s : Said). s.remembered) said) (ap (λ (s : Said). s.counter) said);
  }

-- ---- the blocks that come

abbrev saying : ℕ → ℕ → ℕ → List ℕ → ℕ → Said
saying class count clock remembered counter = record { class = class; count = count; clock = clock; remembered = remembered; counter = counter }

same_said : {a b k l n m c d : ℕ} {r q : List ℕ} → a ≡ b → c ≡ d → k ≡ l → r ≡ q → n ≡ m → saying a c k r n ≡ saying b d l q m
same_said e1 e2 e3 e4 e5 = rw (e1, e2, e3, e4, e5) refl

pub meta_block : (class : ℕ) (t : Table) (page : List ℕ) (n : ℕ) (numbers : Meta) → 3 ≤ length t.pages → n ≡ length t.pages → numbers ≡ meta_of t → IsMeta page → said_in page ≡ record { class = class; count = n; clock = numbers.clock; remembered = numbers.remembered; counter = numbers.counter } → IsBlockOf (image_of class t) 0 page
meta_block class t page n numbers three e m is says =
    let count_is : n ≡ length (image_of class t).pages = omega (arith, length-drop 1 t.pages) in
    (is, says ∙ same_said refl count_is (ap (λ (x : Meta). x.clock) m) (ap (λ (x : Meta). x.remembered) m) (ap (λ (x : Meta). x.counter) m))

pub page_block : (class : ℕ) (t : Table) (b : ℕ) (page : List ℕ) → 0 < b → IsPageAt (version_of class) b page → sheet_in page ≡ sheet_at t b → IsBlockOf (image_of class t) b page
page_block class t zero page h is shows = absurd (omega arith)
page_block class t (suc b) page h is shows = (is, shows ∙ sym (tail_at t b))

pub image_count : (class : ℕ) (t : Table) → 3 ≤ length t.pages → length (image_of class t).pages ≡ length t.pages
image_count class t three = omega (arith, length-drop 1 t.pages)
