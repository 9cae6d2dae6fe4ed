-- The handling of a page as a step of the index.
use Rattle.std.proofs.Common.{◌≡◌, ℕ, ◌≤◌, ◌<◌, suc, List, [], ◌∷◌, ⊎_elim, Bool, true, false, length, map, get_or, refl, sym, ap, ◌∙◌, subst, inl, arith}
use Rattle.std.specs.Prelude.{cond, nat_lt}
use Rattle.std.proofs.lemmas.Bool.{ltb-true, ltb-false, cases_Bool}
use Rattle.std.proofs.lemmas.List.{set-get_or}
use Rattle.spg_base.specs.Row.{RowAt}
use Rattle.spg_opclass.specs.Meaning.{Meaning}
use Rattle.spg_forest.specs.View.{Place, Leaf}
use Rattle.spg_forest.specs.Spot.{Spot}
use Rattle.spg_forest.specs.Tuples.{Tuple, Inner, Live, Dead, Redirect, Placeholder, IsAmong}
use Rattle.spg_forest.specs.Pages.{tuple_on, all_live}
use Rattle.spg_forest.specs.Sheets.{Sheet, Sheets, sheet_at, with_tuples, blank}
use Rattle.spg_forest.specs.Shape.{Shape, spots, IsKindOf}
use Rattle.spg_forest.specs.Edits.{with_sheet}
use Rattle.spg_forest.specs.Section.{Takes, Cost}
use Rattle.spg_forest.specs.Steps.{HasRow}
use Rattle.spg_forest.specs.Classes.{HasEntry}
use Rattle.spg_forest.specs.Puts.{spreads}
use Rattle.spg_forest.proofs.Edits.{page_is}
use Rattle.spg_forest.proofs.Sections.{shape_shown}
use Rattle.spg_cover.specs.Vacuum.{HandlesPage}
use Rattle.spg_cover.specs.Swept.{kept, targets_on, found_on, aged, handled}
use Rattle.spg_cover.proofs.PageLaws.{handles_leaves, handles_inner}
use Rattle.spg_cover.proofs.Roots.{handles_root, handles_nothing}
use Rattle.spg_cover.proofs.SweptRows.{swept_rows}
use Rattle.spg_chain.specs.Told.{without_targets}
use Rattle.spg_chain.proofs.Calls.{trimmed_same, roots_swept, roots_lead}
use Rattle.spg_vacuum.specs.Handled.{AreHandled, found_at, rows_at}

-- what the handling of block b's page does, where these are the rows it sweeps
abbrev pub Handling : {Key Recon Cond : Type 0} → Meaning Key Recon Cond → Sheets → Sheets → ℕ → ℕ → ℕ → List RowAt → List Place → (RowAt → Bool) → Type 0
Handling m S S2 b c horizon rows found test = ((V1 : Place → Spot) × HandlesPage S S2 V1 b c horizon rows found test) × Takes m S S2 (b ∷ []) (spreads 0) horizon (HasRow rows)

-- with other blocks touched
pub retouched : {Key Recon Cond : Type 0} (m : Meaning Key Recon Cond) (S S2 : Sheets) {ts : List ℕ} {cost : Cost} {since : ℕ} (rows : List RowAt) (us : List ℕ) → Takes m S S2 ts cost since (HasRow rows) → ((d : ℕ) → (IsAmong d us → ⊥) → sheet_at S2 d ≡ sheet_at S d) → length us ≤ 8 → Takes m S S2 us cost since (HasRow rows)
retouched m S S2 rows us T others few = record {
  section = record {
    shape = T.section.shape;
    stable = T.section.stable;
    fits = T.section.fits;
    within = record { others = others; few = few; pages = T.section.within.pages; clock = T.section.within.clock; spread = T.section.within.spread };
    redirects = T.section.redirects;
    kinds = T.section.kinds;
  };
  entries = T.entries;
}

-- no leaf stands on an inner page
inner_none : {Key Recon Cond : Type 0} (m : Meaning Key Recon Cond) (nulls : Bool) (test : RowAt → Bool) (ts : List Tuple) → ((k : ℕ) → IsKindOf m true nulls (get_or ts k Placeholder)) → targets_on test ts ≡ []
inner_none m nulls test [] h = refl
inner_none m nulls test (Live l n ∷ ts) h = let e = (h 0).0 in cc
inner_none m nulls test (Inner w ns ∷ ts) h = inner_none m nulls test ts (λ k. h (suc k))
inner_none m nulls test (Dead ∷ ts) h = inner_none m nulls test ts (λ k. h (suc k))
inner_none m nulls test (Redirect y u ∷ ts) h = inner_none m nulls test ts (λ k. h (suc k))
inner_none m nulls test (Placeholder ∷ ts) h = inner_none m nulls test ts (λ k. h (suc k))

pub sheet_back : (S : Sheets) (b : ℕ) → with_sheet S b (sheet_at S b) ≡ S
sheet_back S b = ap (λ (ss : List Sheet). let T : Sheets = record { clock = S.clock; sheets = ss } in T) (set-get_or S.sheets b (blank false))

module _ {Key Recon Cond : Type 0} (m : Meaning Key Recon Cond) (S : Sheets) (b : ℕ) (test : RowAt → Bool) (H : Shape m S) where
  pub inner_rows : (sheet_at S b).inner ≡ true → targets_on test (sheet_at S b).tuples ≡ []
  inner_rows e = inner_none m (sheet_at S b).nulls test (sheet_at S b).tuples (λ k. subst (λ (i : Bool). IsKindOf m i (sheet_at S b).nulls (get_or (sheet_at S b).tuples k Placeholder)) e ((H.pages.each b).kinds (suc k)))

  pub rows_are : rows_at test (sheet_at S b) ≡ targets_on test (sheet_at S b).tuples
  rows_are = ⊎_elim
      (λ e. ap (λ (i : Bool). cond i [] (targets_on test (sheet_at S b).tuples)) e ∙ sym (inner_rows e))
      (λ e. ap (λ (i : Bool). cond i [] (targets_on test (sheet_at S b).tuples)) e) (cases_Bool (sheet_at S b).inner)

  root_live : 0 < b → b < 3 → (sheet_at S b).inner ≡ false → (ls : List Leaf) × ((sheet_at S b).tuples ≡ all_live ls)
  root_live pos low leaf = ⊎_elim
      (λ (w, ns, a, q). let k = (subst (λ (ts : List Tuple). IsKindOf m (sheet_at S b).inner (sheet_at S b).nulls (tuple_on ts 1)) (sym (page_is S b) ∙ a) ((H.pages.each b).kinds 1)).0 in let c = sym leaf ∙ k in cc)
      (λ (ls, a, q). (ls, sym (page_is S b) ∙ a)) ((shape_shown m S H).root b pos low)

  module _ (c horizon : ℕ) (pos : 0 < b) (there : b < length S.sheets) (le : horizon ≤ c) where
    pub stepped : (us : List Tuple) (root inner : Bool) → nat_lt b 3 ≡ root → (sheet_at S b).inner ≡ inner → AreHandled root inner test horizon (sheet_at S b).tuples us → Handling m S (with_sheet S b (with_tuples (sheet_at S b) us)) b c horizon (targets_on test (sheet_at S b).tuples) (found_at c (sheet_at S b)) test
    stepped us true true r i e =
        let N = handles_nothing m S b c horizon test H i le in
        let T : Takes m S S (b ∷ []) (spreads 0) horizon (HasRow []) = retouched m S S [] (b ∷ []) N.1 (λ d n. refl) (omega arith) in
        subst (λ (X : Sheets). Handling m S X b c horizon (targets_on test (sheet_at S b).tuples) (found_at c (sheet_at S b)) test) (sym (ap (λ (ts : List Tuple). with_sheet S b (with_tuples (sheet_at S b) ts)) e ∙ sheet_back S b))
        (subst (λ (rows : List RowAt). Handling m S S b c horizon rows (found_at c (sheet_at S b)) test) (sym (inner_rows i))
        (subst (λ (ps : List Place). Handling m S S b c horizon [] ps test) (sym (ap (λ (k : Bool). cond k [] (found_on c (sheet_at S b).tuples)) i)) ((spots S, N.0), T)))
    stepped us true false r i e =
        let (ls, f) = root_live pos (ltb-true b 3 r) i in
        let N = handles_root m S b c horizon test ls H pos (ltb-true b 3 r) le f in
        subst (λ (vs : List Tuple). Handling m S (with_sheet S b (with_tuples (sheet_at S b) vs)) b c horizon (targets_on test (sheet_at S b).tuples) (found_at c (sheet_at S b)) test) (sym (e ∙ ap (without_targets test) f ∙ roots_swept test ls))
        (subst (λ (ps : List Place). Handling m S (with_sheet S b (with_tuples (sheet_at S b) (all_live (kept test ls)))) b c horizon (targets_on test (sheet_at S b).tuples) ps test)
        (sym (ap (λ (k : Bool). cond k [] (found_on c (sheet_at S b).tuples)) i ∙ ap (found_on c) f ∙ roots_lead c ls)) N)
    stepped us false true r i e =
        let N = handles_inner m S b c horizon test H (ltb-false b 3 r) there i le in
        subst (λ (vs : List Tuple). Handling m S (with_sheet S b (with_tuples (sheet_at S b) vs)) b c horizon (targets_on test (sheet_at S b).tuples) (found_at c (sheet_at S b)) test) (sym (e ∙ trimmed_same (map (aged horizon) (sheet_at S b).tuples)))
        (subst (λ (rows : List RowAt). Handling m S (handled S b horizon (sheet_at S b).tuples) b c horizon rows (found_at c (sheet_at S b)) test) (sym (inner_rows i))
        (subst (λ (ps : List Place). Handling m S (handled S b horizon (sheet_at S b).tuples) b c horizon [] ps test) (sym (ap (λ (k : Bool). cond k [] (found_on c (sheet_at S b).tuples)) i)) N))
    stepped us false false r i (vs, w, e) =
        let N = handles_leaves m S b c horizon test vs H (ltb-false b 3 r) there i le w in
        subst (λ (xs : List Tuple). Handling m S (with_sheet S b (with_tuples (sheet_at S b) xs)) b c horizon (targets_on test (sheet_at S b).tuples) (found_at c (sheet_at S b)) test) (sym (e ∙ trimmed_same (map (aged horizon) vs)))
        (subst (λ (ps : List Place). Handling m S (handled S b horizon vs) b c horizon (targets_on test (sheet_at S b).tuples) ps test) (sym (ap (λ (k : Bool). cond k [] (found_on c (sheet_at S b).tuples)) i)) N)

    -- where rows are swept, the tuples are others
    pub swept_others : (us : List Tuple) → AreHandled (nat_lt b 3) (sheet_at S b).inner test horizon (sheet_at S b).tuples us → (r : RowAt) (rs : List RowAt) → targets_on test (sheet_at S b).tuples ≡ r ∷ rs → us ≡ (sheet_at S b).tuples → ⊥
    swept_others us h r rs e q =
        let T = (stepped us (nat_lt b 3) (sheet_at S b).inner refl refl h).1 in
        let has : HasRow (targets_on test (sheet_at S b).tuples) r = subst (λ (xs : List RowAt). HasRow xs r) (sym e) (inl refl) in
        let (k, (key, entry)) = (swept_rows m S b test H).0 r has in
        let same : with_sheet S b (with_tuples (sheet_at S b) us) ≡ S = ap (λ (ts : List Tuple). with_sheet S b (with_tuples (sheet_at S b) ts)) q ∙ sheet_back S b in
        ((T.entries r key).0 (subst (λ (X : Sheets). HasEntry m (spots X) r key) (sym same) entry)).1 has
