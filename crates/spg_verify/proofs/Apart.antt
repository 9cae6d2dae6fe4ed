-- The answers on the bytes under a name exclude each other, and one clause alone fails first.
use Rattle.std.proofs.Common.{◌≡◌, ℕ, zero, suc, false, ◌≤◌, ◌<◌, List, [], ◌∷◌, ◌++◌, Option, Some, None, inl, inr, length, get_or, refl, sym, ap, ◌∙◌, subst, arith}
use Rattle.std.specs.List.{AllByRecursion}
use Rattle.std.proofs.lemmas.Bool.{cases_eq, cases_lt}
use Rattle.std.proofs.lemmas.List.{same_lists, get_or_default}
use Rattle.spg_opclass.specs.Meaning.{Meaning}
use Rattle.spg_io.specs.Held.{page_size}
use Rattle.spg_page.specs.Versions.{version_in}
use Rattle.spg_page.specs.Came.{sheet_in}
use Rattle.spg_forest.specs.Sheets.{Sheet, Sheets, blank}
use Rattle.spg_forest.specs.Shape.{Shape}
use Rattle.spg_tree.specs.Table.{Table, sheet_of, sheets_of}
use Rattle.spg_clauses.specs.declared.reason.Reason.{Reason}
use Rattle.spg_clauses.specs.declared.reason.Reason.TheVariants as reasons
use Rattle.spg_clauses.specs.declared.reason.Fault.{Fault}
use Rattle.spg_clauses.specs.Order.{fault, pass, link_tests, tests, Holds, IsFirst}
use Rattle.spg_clauses.proofs.FromShape.{from_shape}
use Rattle.spg_verdict.specs.Blocks.{FailsAt}
use Rattle.spg_verdict.specs.Images.{IsRead, HaveCome, IsFirstBad}
use Rattle.spg_verify.specs.Meta.{count_in, clock_in}
use Rattle.spg_verify.specs.Verdict.{page_at, HasTop, HasMeta, TopFails, NumbersFail, IsTableOf, FailsFirst, IsGood}

pub same_bytes : (held : Option (List ℕ)) (a b : List ℕ) → held ≡ Some a → held ≡ Some b → a ≡ b
same_bytes held a b e f = let q : Some a ≡ Some b = sym e ∙ f in let s : a ≡ b = cc in s

pub same_fault : (f g : Fault) → f.block ≡ g.block → f.reason ≡ g.reason → f ≡ g
same_fault f g e r = let p : fault f.block f.reason ≡ fault g.block g.reason = ap (λ b. fault b f.reason) e ∙ ap (λ (x : Reason). fault g.block x) r in p

-- ---- lists of tests

first_not_all : (P : Fault → Type 0) (ts : List Fault) (t : Fault) → IsFirst P ts t → AllByRecursion P ts → ⊥
first_not_all P [] t h a = h
first_not_all P (u ∷ us) t (inl (e, n)) (p, a) = n p
first_not_all P (u ∷ us) t (inr (q, h)) (p, a) = first_not_all P us t h a

all_behind : (P : Fault → Type 0) (xs ys : List Fault) → AllByRecursion P (xs ++ ys) → AllByRecursion P ys
all_behind P [] ys a = a
all_behind P (x ∷ xs) ys (p, a) = all_behind P xs ys a

one_first : (P : Fault → Type 0) (ts : List Fault) (t u : Fault) → IsFirst P ts t → IsFirst P ts u → t ≡ u
one_first P [] t u h k = absurd h
one_first P (x ∷ xs) t u (inl (e, n)) (inl (d, o)) = sym e ∙ d
one_first P (x ∷ xs) t u (inl (e, n)) (inr (p, k)) = absurd (n p)
one_first P (x ∷ xs) t u (inr (p, h)) (inl (d, o)) = absurd (o p)
one_first P (x ∷ xs) t u (inr (p, h)) (inr (q, k)) = one_first P xs t u h k

-- ---- block 0

pub top_held : (bytes : List ℕ) (r : Reason) → HasTop bytes → TopFails (Some bytes) r → ⊥
top_held bytes reasons.Length T F = omega (arith, T.long, F)
top_held bytes reasons.Header T F = F.1 T.head
top_held bytes r T F = F

pub one_top : (held : Option (List ℕ)) (r s : Reason) → TopFails held r → TopFails held s → r ≡ s
one_top None reasons.Missing reasons.Missing F G = refl
one_top None reasons.Missing s F G = absurd G
one_top None r s F G = absurd F
one_top (Some bytes) reasons.Length reasons.Length F G = refl
one_top (Some bytes) reasons.Length reasons.Header F G = absurd (omega (arith, F, G.0))
one_top (Some bytes) reasons.Length s F G = absurd G
one_top (Some bytes) reasons.Header reasons.Header F G = refl
one_top (Some bytes) reasons.Header reasons.Length F G = absurd (omega (arith, F.0, G))
one_top (Some bytes) reasons.Header s F G = absurd G
one_top (Some bytes) r s F G = absurd F

numbers_held : (code : ℕ) (bytes : List ℕ) (r : Reason) → HasMeta code bytes → NumbersFail code bytes r → ⊥
numbers_held code bytes reasons.Class M F = F M.class
numbers_held code bytes reasons.Length M F = F.1 M.count
numbers_held code bytes reasons.Meta M F = F.2 M.numbers
numbers_held code bytes r M F = F

one_number : (code : ℕ) (bytes : List ℕ) (r s : Reason) → NumbersFail code bytes r → NumbersFail code bytes s → r ≡ s
one_number code bytes reasons.Class reasons.Class F G = refl
one_number code bytes reasons.Class reasons.Length F G = absurd (F G.0)
one_number code bytes reasons.Class reasons.Meta F G = absurd (F G.0)
one_number code bytes reasons.Class s F G = absurd G
one_number code bytes reasons.Length reasons.Length F G = refl
one_number code bytes reasons.Length reasons.Class F G = absurd (G F.0)
one_number code bytes reasons.Length reasons.Meta F G = absurd (F.1 G.1)
one_number code bytes reasons.Length s F G = absurd G
one_number code bytes reasons.Meta reasons.Meta F G = refl
one_number code bytes reasons.Meta reasons.Class F G = absurd (G F.0)
one_number code bytes reasons.Meta reasons.Length F G = absurd (G.1 F.1)
one_number code bytes reasons.Meta s F G = absurd G
one_number code bytes r s F G = absurd F

module _ {Key Recon Cond : Type 0} (m : Meaning Key Recon Cond) where
  -- ---- the blocks of tuples, in an image of one version

  read_not : (version b : ℕ) (page : List ℕ) (r : Reason) → IsRead m version b page → FailsAt m version b page r → ⊥
  read_not version b page reasons.Header R F = F R.good.header
  read_not version b page reasons.Items R F = F.1 R.good.items
  read_not version b page reasons.Tuple R F = F.2 R.good.tuples
  read_not version b page reasons.Kind R F = F.1 R.standing
  read_not version b page r R F = F

  one_reason : (version b : ℕ) (page : List ℕ) (r s : Reason) → FailsAt m version b page r → FailsAt m version b page s → r ≡ s
  one_reason version b page reasons.Header reasons.Header F G = refl
  one_reason version b page reasons.Header reasons.Items F G = absurd (F G.0)
  one_reason version b page reasons.Header reasons.Tuple F G = absurd (F G.0)
  one_reason version b page reasons.Header reasons.Kind F G = absurd (F G.0.header)
  one_reason version b page reasons.Header s F G = absurd G
  one_reason version b page reasons.Items reasons.Items F G = refl
  one_reason version b page reasons.Items reasons.Header F G = absurd (G F.0)
  one_reason version b page reasons.Items reasons.Tuple F G = absurd (F.1 G.1)
  one_reason version b page reasons.Items reasons.Kind F G = absurd (F.1 G.0.items)
  one_reason version b page reasons.Items s F G = absurd G
  one_reason version b page reasons.Tuple reasons.Tuple F G = refl
  one_reason version b page reasons.Tuple reasons.Header F G = absurd (G F.0)
  one_reason version b page reasons.Tuple reasons.Items F G = absurd (G.1 F.1)
  one_reason version b page reasons.Tuple reasons.Kind F G = absurd (F.2 G.0.tuples)
  one_reason version b page reasons.Tuple s F G = absurd G
  one_reason version b page reasons.Kind reasons.Kind F G = refl
  one_reason version b page reasons.Kind reasons.Header F G = absurd (G F.0.header)
  one_reason version b page reasons.Kind reasons.Items F G = absurd (G.1 F.0.items)
  one_reason version b page reasons.Kind reasons.Tuple F G = absurd (G.2 F.0.tuples)
  one_reason version b page reasons.Kind s F G = absurd G
  one_reason version b page r s F G = absurd F

  not_before : (version : ℕ) (image : ℕ → List ℕ) (n : ℕ) (f g : Fault) → IsFirstBad m version image n f → IsFirstBad m version image n g → f.block < g.block → ⊥
  not_before version image n f g B C l = read_not version f.block (image f.block) f.reason (C.before f.block B.from l) B.fails

  one_bad : (version : ℕ) (image : ℕ → List ℕ) (n : ℕ) (f g : Fault) → IsFirstBad m version image n f → IsFirstBad m version image n g → f ≡ g
  one_bad version image n f g B C = elim (cases_lt f.block g.block) [
    | inl l ↦ absurd (not_before version image n f g B C l)
    | inr h ↦ elim (cases_lt g.block f.block) [
      | inl l ↦ absurd (not_before version image n g f C B l)
      | inr k ↦ (let e : f.block ≡ g.block = omega (arith, h, k) in
          same_fault f g e (one_reason version g.block (image g.block) f.reason g.reason (subst (λ b. FailsAt m version b (image b) f.reason) e B.fails) C.fails))
    ]
  ]

  come_same : (version : ℕ) (image : ℕ → List ℕ) (n : ℕ) (ps qs : List Sheet) → HaveCome m version (λ b page. page ≡ image b) n ps → HaveCome m version (λ b page. page ≡ image b) n qs → ps ≡ qs
  come_same version image n ps qs C D = same_lists ps qs (C.long ∙ sym D.long) (λ k d h.
      get_or_default ps k d (blank false) h ∙ same k (omega (arith, h, C.long)) ∙ get_or_default qs k (blank false) d (omega (arith, h, C.long, D.long)))
    where
      same : (k : ℕ) → k < n → sheet_of ps k ≡ sheet_of qs k
      same zero l = C.meta ∙ sym D.meta
      same (suc k) l =
          let (p, e, r, s) = C.each (suc k) (omega arith) l in
          let (q, d, u, v) = D.each (suc k) (omega arith) l in
          s ∙ ap sheet_in (e ∙ sym d) ∙ sym v

  -- ---- the table

  abbrev IsFirstIn : Sheets → Fault → Type 0
  IsFirstIn S f = IsFirst (Holds m S) (link_tests (length S.sheets)) f

  abbrev sheets : ℕ → List Sheet → Sheets
  sheets clock ss = record { clock = clock; sheets = ss }

  same_sheets : (bytes : List ℕ) (limit k : ℕ) (t u : Table) → IsTableOf m bytes limit t → IsTableOf m bytes k u → sheets_of t ≡ sheets_of u
  same_sheets bytes limit k t u T U =
      let clock : t.clock ≡ u.clock = ap (λ (x : Table). x.clock) T.is ∙ sym (ap (λ (x : Table). x.clock) U.is) in
      let pages : t.pages ≡ u.pages = come_same (version_in (page_at bytes 0)) (page_at bytes) (count_in (page_at bytes 0)) t.pages u.pages T.come U.come in
      ap (λ n. sheets n t.pages) clock ∙ ap (λ (ss : List Sheet). sheets u.clock ss) pages

  not_shape : (S : Sheets) (f : Fault) → IsFirstIn S f → Shape m S → ⊥
  not_shape S f F H = first_not_all (Holds m S) (link_tests (length S.sheets)) f F (all_behind (Holds m S) (pass (reasons.Kind ∷ []) (length S.sheets)) (link_tests (length S.sheets)) (from_shape m S H))

  page_held : (bytes : List ℕ) (limit : ℕ) (t : Table) (f : Fault) → IsTableOf m bytes limit t → IsFirstBad m (version_in (page_at bytes 0)) (page_at bytes) (count_in (page_at bytes 0)) f → ⊥
  page_held bytes limit t f T B =
      let (p, e, r, s) = T.come.each f.block B.from B.there in
      read_not (version_in (page_at bytes 0)) f.block (page_at bytes f.block) f.reason (subst (λ (x : List ℕ). IsRead m (version_in (page_at bytes 0)) f.block x) e r) B.fails

  -- ---- all clauses

  module _ (code : ℕ) (limit : ℕ) where
    -- where the first clause fails that fails
    data First (bytes : List ℕ) (f : Fault) : Type 0 where
      at_top : f.block ≡ 0 → TopFails (Some bytes) f.reason → First bytes f
      at_numbers : f.block ≡ 0 → HasTop bytes → NumbersFail code bytes f.reason → First bytes f
      at_page : HasMeta code bytes → IsFirstBad m (version_in (page_at bytes 0)) (page_at bytes) (count_in (page_at bytes 0)) f → First bytes f
      at_link : (t : Table) → HasMeta code bytes → IsTableOf m bytes limit t → IsFirstIn (sheets_of t) f → First bytes f

    first_of : (held : Option (List ℕ)) (bytes : List ℕ) (f : Fault) → held ≡ Some bytes → FailsFirst m code limit held f → First bytes f
    first_of held bytes f e (inl (inl (z, inl top))) = at_top z (subst (λ (x : Option (List ℕ)). TopFails x f.reason) e top)
    first_of held bytes f e (inl (inl (z, inr (c, d, T, N)))) = let s = same_bytes held c bytes d e in at_numbers z (subst HasTop s T) (subst (λ (x : List ℕ). NumbersFail code x f.reason) s N)
    first_of held bytes f e (inl (inr (c, d, M, B))) = let s = same_bytes held c bytes d e in
        at_page (subst (λ (x : List ℕ). HasMeta code x) s M) (subst (λ (x : List ℕ). IsFirstBad m (version_in (page_at x 0)) (page_at x) (count_in (page_at x 0)) f) s B)
    first_of held bytes f e (inr (t, (c, d, M, T), F)) = let s = same_bytes held c bytes d e in
        at_link t (subst (λ (x : List ℕ). HasMeta code x) s M) (subst (λ (x : List ℕ). IsTableOf m x limit t) s T) F

    one_of : (bytes : List ℕ) (f g : Fault) → First bytes f → First bytes g → f ≡ g
    one_of bytes f g (at_top z F) (at_top y G) = same_fault f g (z ∙ sym y) (one_top (Some bytes) f.reason g.reason F G)
    one_of bytes f g (at_top z F) (at_numbers y T N) = absurd (top_held bytes f.reason T F)
    one_of bytes f g (at_top z F) (at_page M B) = absurd (top_held bytes f.reason M.top F)
    one_of bytes f g (at_top z F) (at_link t M T G) = absurd (top_held bytes f.reason M.top F)
    one_of bytes f g (at_numbers z T N) (at_top y G) = absurd (top_held bytes g.reason T G)
    one_of bytes f g (at_numbers z T N) (at_numbers y U O) = same_fault f g (z ∙ sym y) (one_number code bytes f.reason g.reason N O)
    one_of bytes f g (at_numbers z T N) (at_page M B) = absurd (numbers_held code bytes f.reason M N)
    one_of bytes f g (at_numbers z T N) (at_link t M U G) = absurd (numbers_held code bytes f.reason M N)
    one_of bytes f g (at_page M B) (at_top y G) = absurd (top_held bytes g.reason M.top G)
    one_of bytes f g (at_page M B) (at_numbers y T N) = absurd (numbers_held code bytes g.reason M N)
    one_of bytes f g (at_page M B) (at_page L C) = one_bad (version_in (page_at bytes 0)) (page_at bytes) (count_in (page_at bytes 0)) f g B C
    one_of bytes f g (at_page M B) (at_link t L T G) = absurd (page_held bytes limit t f T B)
    one_of bytes f g (at_link t M T F) (at_top y G) = absurd (top_held bytes g.reason M.top G)
    one_of bytes f g (at_link t M T F) (at_numbers y U N) = absurd (numbers_held code bytes g.reason M N)
    one_of bytes f g (at_link t M T F) (at_page L C) = absurd (page_held bytes limit t g T C)
    one_of bytes f g (at_link t M T F) (at_link u L U G) =
        one_first (Holds m (sheets_of u)) (link_tests (length u.pages)) f g (subst (λ (S : Sheets). IsFirstIn S f) (same_sheets bytes limit limit t u T U) F) G

    none_good : (bytes : List ℕ) (k : ℕ) (f : Fault) (t : Table) → First bytes f → HasMeta code bytes → IsTableOf m bytes k t → Shape m (sheets_of t) → ⊥
    none_good bytes k f t (at_top z F) M T H = top_held bytes f.reason M.top F
    none_good bytes k f t (at_numbers z U N) M T H = numbers_held code bytes f.reason M N
    none_good bytes k f t (at_page L B) M T H = page_held bytes k t f T B
    none_good bytes k f t (at_link u L U F) M T H = not_shape (sheets_of t) f (subst (λ (S : Sheets). IsFirstIn S f) (same_sheets bytes limit k u t U T) F) H

    -- what a name without bytes fails
    none_there : (f : Fault) → FailsFirst m code limit None f → (f.block ≡ 0) × TopFails None f.reason
    none_there f (inl (inl (z, inl top))) = (z, top)
    none_there f (inl (inl (z, inr (c, d, T, N)))) = absurd (cc d)
    none_there f (inl (inr (c, d, M, B))) = absurd (cc d)
    none_there f (inr (t, (c, d, M, T), F)) = absurd (cc d)

    -- one clause alone fails first
    pub one_fault : (held : Option (List ℕ)) (f g : Fault) → FailsFirst m code limit held f → FailsFirst m code limit held g → f ≡ g
    one_fault None f g F G =
        let a = none_there f F in
        let b = none_there g G in
        same_fault f g (a.0 ∙ sym b.0) (one_top None f.reason g.reason a.1 b.1)
    one_fault (Some bytes) f g F G = one_of bytes f g (first_of (Some bytes) bytes f refl F) (first_of (Some bytes) bytes g refl G)

    -- no clause of a good image fails
    pub good_fails_none : (held : Option (List ℕ)) (k : ℕ) (f : Fault) (t : Table) → FailsFirst m code limit held f → IsGood m code k held t → ⊥
    good_fails_none held k f t F ((bytes, e, M, T), H) = none_good bytes k f t (first_of held bytes f e F) M T H
