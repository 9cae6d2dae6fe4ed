-- What is right of a time in which nothing happened is exact.
use Rattle.std.specs.Prelude.{is_some, is_none}
use Rattle.std.specs.List.Sorted.{IsStrictlySortedBy}
use Rattle.std.proofs.Common.{◌≡◌, ◌<◌, ⊎_elim, inl, inr, ℕ, true, ◌&&◌, List, [], ◌∷◌, Option, Some, None, IsSome, refl, sym, ap, ◌∙◌, subst, arith}
use Rattle.std.proofs.lemmas.Bool.{false≢true}
use Rattle.spg_base.specs.Row.{RowAt}
use Rattle.spg_base.specs.declared.point.Point.{Point}
use Rattle.spg_opclass.specs.declared.query.Query.TheVariants.{All}
use Rattle.spg_rows.specs.declared.event.Event.TheVariants.{OpenScan}
use Rattle.spg_rows.specs.History.{History}
use Rattle.spg_rows.specs.Legal.{IsLegal}
use Rattle.spg_rows.specs.Lives.{Life, lives, IsOneOf, HasLife}
use Rattle.spg_rows.specs.Right.{HasLived}
use Rattle.spg_rows.specs.Rows.{live_in, key_in}
use Rattle.spg_rows.proofs.Histories.{older, sane_from_legal}
use Rattle.spg_scan.proofs.CoverNodes.{contains_none}
use Rattle.spg_near.specs.declared.near_row.NearRow.{NearRow}
use Rattle.spg_near.specs.Nearing.{near_cmp}
use Rattle.spg_near.specs.NearRight.{NearRight}
use Rattle.spg_near.specs.Nearest.{IsAt, AreNearest}

module _ {Key : Type 0} where
  -- a row whose last life was put and not killed is live, with its key
  live_first : (ls : List (Life Key)) (life : Life Key) → IsOneOf life ls → (IsOneOf life (older ls) → ⊥) → IsSome life.put → life.kill ≡ None → (live_in ls ≡ true) × (key_in ls ≡ Some life.key)
  live_first [] life is other put kill = absurd is
  live_first (l ∷ ls) life (inr h) other put kill = absurd (other h)
  live_first (l ∷ ls) life (inl e) other put kill = subst (λ (x : Life Key). (is_some x.put && is_none x.kill ≡ true) × (Some x.key ≡ Some life.key)) (sym e) (go life.put put, refl)
    where
      go : (p : Option ℕ) → IsSome p → is_some p && is_none life.kill ≡ true
      go None h = absurd (false≢true h)
      go (Some at) h = rw kill refl

  -- a live row has a life that was put and not killed
  life_of : (ls : List (Life Key)) → live_in ls ≡ true → (life : Life Key) × IsOneOf life ls × (key_in ls ≡ Some life.key) × ((at : ℕ) × (life.put ≡ Some at)) × (life.kill ≡ None)
  life_of [] e = absurd (false≢true e)
  life_of (l ∷ ls) e = go l.put l.kill e refl refl
    where
      go : (p k : Option ℕ) → is_some p && is_none k ≡ true → l.put ≡ p → l.kill ≡ k → (life : Life Key) × IsOneOf life (l ∷ ls) × (Some l.key ≡ Some life.key) × ((at : ℕ) × (life.put ≡ Some at)) × (life.kill ≡ None)
      go None k is a b = absurd (false≢true is)
      go (Some at) (Some killed) is a b = absurd (false≢true is)
      go (Some at) None is a b = (l, inl refl, refl, (at, a), b)

module _ {O Recon Cond : Type 0} (past : History O Point Recon Cond) where
  rises_none : IsStrictlySortedBy near_cmp []
  unfolding IsStrictlySortedBy
  rises_none = tt

  -- where none is wanted
  pub none_nearest : (p : Point) → AreNearest past p 0 []
  none_nearest p = record {
    few = omega arith;
    rises = rises_none;
    found = λ h c. absurd (contains_none h c);
    complete = λ row key at reach. absurd (⊎_elim (λ (l : 0 < 0). omega (arith, l)) (λ x. let (last, c, before) = x in contains_none last c) reach);
  }

module _ {O Recon Cond : Type 0} (past : History O Point Recon Cond) (legal : IsLegal past) where
  -- a life that was put and not killed is that of a live row
  is_at : (row : RowAt) (life : Life Point) (key : Point) → HasLife past row life → HasLived past life → life.key ≡ Some key → IsAt past row key
  is_at row life key of_row lived is =
      let S = sane_from_legal past legal in
      let unkilled : life.kill ≡ None = go life.kill refl in
      let (live, k) = live_first (lives row past) life of_row (λ h. let (at, killed, rest) = (S.old row life h).killed lived.put in let clash : None ≡ Some at = sym unkilled ∙ killed in absurd (cc clash)) lived.put unkilled in (
        live,
        k ∙ ap (λ (x : Option Point). Some x) is,
      )
    where
      go : (k : Option ℕ) → life.kill ≡ k → life.kill ≡ None
      go None e = e
      go (Some at) e = absurd (lived.not_killed (at, e, ((sane_from_legal past legal).sound row life of_row).kill at e))

  -- the rows of a search of one moment
  pub exact : (seat : ℕ) (p : Point) (limit : ℕ) (found : List NearRow) → NearRight past (OpenScan seat All ∷ past) p limit found → AreNearest past p limit found
  exact seat p limit found R = record {
    few = R.few;
    rises = R.rises;
    found = λ h c. let (life, key, is, e, lived, here) = R.found h c in (key, is_at h.row life key is lived e, here);
    complete = λ row key at reach.
        let (live, k) = at in
        let (life, one, last, (put_at, put), unkilled) = life_of (lives row past) live in
        let same : Some (Some key) ≡ Some life.key = sym k ∙ last in
        let has : life.key ≡ Some key = cc in
        R.complete row life key one has (put_at, put, ((sane_from_legal past legal).sound row life one).put put_at put) unkilled reach;
  }
