-- The pages once a page was picked.
use Rattle.std.proofs.Common.{◌≡◌, ℕ, ◌+◌, ◌≤◌, ◌<◌, Bool, true, false, [], ◌⊎◌, ⊎_elim, Option, length, length-set, sym, ap, ◌∙◌, subst, inl, inr, arith}
use Rattle.std.specs.Prelude.{if◌then◌else◌}
use Rattle.std.proofs.lemmas.Bool.{cases_eq, cases_lt}
use Rattle.spg_forest.specs.Sheets.{Sheet}
use Rattle.spg_forest.specs.Edits.{IsPicked as IsPickedIn}
use Rattle.spg_forest.proofs.Edits.{sheet_same}
use Rattle.spg_tree.specs.Table.{Table, sheets_of, sheet_at, tuples_at}
use Rattle.spg_tree.specs.declared.want.Want.{Want}
use Rattle.spg_tree.specs.Pick.{Picks, first_from, has_parity, fresh}
use Rattle.spg_tree.specs.Picked.{IsPicked}
use Rattle.spg_tree.proofs.Pages.{past_none}

first_past : (n : ℕ) (p : Option ℕ) → n ≤ first_from n p
first_past n p = go (has_parity p n) (has_parity p (n + 1))
  where
    go : (a b : Bool) → n ≤ (if a then n else (if b then n + 1 else n + 2))
    go true b = omega arith
    go false true = omega arith
    go false false = omega arith

-- what a pick of a page says of the pages
pub record PicksPage (t t1 : Table) (b : ℕ) : Type 0 where
  pub pages : IsPickedIn (sheets_of t) (sheets_of t1)
  pub others : (c : ℕ) → (c ≡ b → ⊥) → (c < length t.pages) ⊎ (length t1.pages ≤ c) → sheet_at t1 c ≡ sheet_at t c

pub picks_page : (t t1 : Table) (w : Want) (b : ℕ) → 3 ≤ length t.pages → IsPicked t w b t1 → Picks t w b t1 → PicksPage t t1 b
picks_page t t1 w b roots P Q = record {
  pages = record { clock = P.clock; count = P.least; same = λ c. ⊎_elim (λ e. subst (λ i. Same i) (sym e) (here Q)) (λ n. ⊎_elim (λ h. inl (P.others c h n)) (λ h. behind c h) (cases_lt c (length t.pages))) (cases_eq c b) };
  others = λ c n k. ⊎_elim (λ h. P.others c h n) (λ h. let m = P.least in past_none t1 c h ∙ sym (past_none t c (omega arith))) k;
}
  where
    Same : ℕ → Type 0
    Same c = (sheet_at t1 c ≡ sheet_at t c) ⊎ ((3 ≤ c) × (tuples_at t c ≡ []) × (tuples_at t1 c ≡ []))

    behind : (c : ℕ) → length t.pages ≤ c → Same c
    behind c h = let e : tuples_at t c ≡ [] = ap (λ (s : Sheet). s.tuples) (past_none t c h) in inr (omega arith, e, P.tuples c ∙ e)

    here : Picks t w b t1 → Same b
    here (inl R) = inl (ap (λ (z : Table). sheet_at z b) R.same)
    here (inr (inl V)) =
        let k = ap (λ (z : Table). length z.pages) V.after ∙ length-set t.pages b (fresh w) in
        let e : tuples_at t1 b ≡ [] = ap (λ (z : Table). tuples_at z b) V.after ∙ ap (λ (s : Sheet). s.tuples) (sheet_same (sheets_of t) b (fresh w) (let a = P.there in omega arith)) in
        inr (P.from, sym (P.tuples b) ∙ e, e)
    here (inr (inr N)) = let e = N.block in let f = first_past (length t.pages) w.parity in behind b (omega arith)

-- a page with a tuple is as it was
pub held : (t t2 : Table) (c : ℕ) → IsPickedIn (sheets_of t) (sheets_of t2) → (tuples_at t c ≡ [] → ⊥) → sheet_at t2 c ≡ sheet_at t c
held t t2 c A n = ⊎_elim (λ e. e) (λ (g, e, f). absurd (n e)) (A.same c)
