-- The calls of a save, counted by the pages that were put.
use Rattle.std.proofs.Common.{◌≡◌, ℕ, suc, ◌+◌, ◌<◌, inl, inr, List, length, Ok, Err, subst, arith}
use Rattle.std.specs.Prelude.{Result}
use Rattle.std.specs.Result.{IsErr, IsErrAnd}
use Rattle.spg_io.specs.declared.sink.IoRefused.{IoRefused}
use Rattle.spg_image.specs.declared.refused.SaveRefused.{SaveRefused}
use Rattle.spg_image.specs.Image.{Image}
use Rattle.spg_image.specs.Refusals.{refusal_of}
use Rattle.spg_image.specs.Saving.{IsBlockOf, PutFirst, SavesBy}

module _ {M : Type 0} (clears : M → List ℕ → Result Unit IoRefused → M → Type 0) (puts : M → List ℕ → List ℕ → Result Unit IoRefused → M → Type 0) (i : Image) (name : List ℕ) (old : M) where
  pub put_next : (k : ℕ) (between now : M) (page : List ℕ) (u : Unit {0}) → PutFirst clears puts i name old k between → IsBlockOf i k page → puts between name page (Ok u) now → PutFirst clears puts i name old (k + 1) now
  put_next k between now page u first here put =
      let more : suc k ≡ k + 1 = omega arith in
      subst (λ n. PutFirst clears puts i name old n now) more (u, between, page, first, here, put)

  pub stops_clearing : (now : M) (r : Result ℕ SaveRefused) (e : IoRefused) → IsErr r → IsErrAnd r (λ x. x ≡ refusal_of e) → clears old name (Err e) now → SavesBy clears puts i name old now r
  stops_clearing now (Ok n) e is and clear = absurd (cc is)
  stops_clearing now (Err x) e is and clear = (e, and, inl clear)

  pub stops_putting : (k : ℕ) (between now : M) (page : List ℕ) (r : Result ℕ SaveRefused) (e : IoRefused) → IsErr r → IsErrAnd r (λ x. x ≡ refusal_of e)
      → k < length i.pages → PutFirst clears puts i name old k between → IsBlockOf i k page → puts between name page (Err e) now → SavesBy clears puts i name old now r
  stops_putting k between now page (Ok n) e is and less first here put = absurd (cc is)
  stops_putting k between now page (Err x) e is and less first here put = (e, and, inr (k, between, page, less, first, here, put))
