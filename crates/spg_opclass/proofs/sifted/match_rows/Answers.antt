use Rattle.std.proofs.Common.{◌≡◌, ◌∙◌, ◌++◌, ◌∷◌, [], List, ℕ, zero, suc, ◌<◌, get_or, refl, arith, length, take, ap, sym}
use Rattle.std.proofs.lemmas.List.{append-nil}
use Rattle.spg_base.specs.Row.{RowAt}
use Rattle.spg_opclass.specs.Meaning.{matches_rebuilt}
use Rattle.spg_opclass.specs.Copies.{matching}
use Rattle.spg_opclass.proofs.Sifts.{matching_in, matching_out}
use Rattle.spg_opclass.proofs.sifted.match_rows.Goals as goal
use Rattle.spg_opclass.proofs.sifted.match_rows.Goals.{then-leaf_consistent+in_ok-push, else-leaf_consistent}

-- a row to read past the end
none : RowAt
none = record { block = 0; offset = 0 }

here : (rows : List RowAt) (i : ℕ) (d : RowAt) → i < length rows → get_or rows i d ≡ get_or rows i (get_or rows i d)
here [] i d h = absurd (omega arith)
here (r ∷ rows) zero d h = refl
here (r ∷ rows) (suc i) d h = here rows i d (omega arith)

pub loop-i-preserved : goal.loop-i-preserved
loop-i-preserved g c =
    let m = g.O.OpClass.meaning in
    let recon = c.recon-recon.result.now in
    let conds = c.args.conds.now in
    let rows = c.as_slice-copied.result.now in
    let rests = c.as_slice-rests.result.now in
    let rest = c.index-rests-i.result in
    let i = c.loop-i.i in
    let each : length rests ≡ length rows = ap length (c.as_slice-rests.ensures ∙ c.rests.ensures.value) ∙ c.rests.ensures.known.each ∙ sym (ap length (c.as_slice-copied.ensures ∙ c.rows.ensures.value)) in
    let asked : matches_rebuilt m conds (m.rebuild recon rest) ≡ c.leaf_consistent.result = ap (λ (r : List ℕ). matches_rebuilt m conds (m.rebuild recon r)) (sym c.as_slice.ensures.value) ∙ sym c.leaf_consistent.ensures in
    elim c.if-leaf_consistent.branch [
      | then-leaf_consistent+in_ok-push w ↦
          let row = w.index-copied-i.result in
          w.rows-is ∙ w.in_ok-push.ensures.ok ∙ ap (λ (z : List RowAt). z ++ row ∷ []) c.loop-i.invariant
          ∙ sym (matching_in m recon conds rows rests i row rest c.loop-i-test.true each w.index-copied-i.is c.index-rests-i.is (asked ∙ w.if-leaf_consistent.true))
      | else-leaf_consistent w ↦
          w.rows-is ∙ c.loop-i.invariant
          ∙ sym (matching_out m recon conds rows rests i (get_or rows i none) rest c.loop-i-test.true each (here rows i none c.loop-i-test.true) c.index-rests-i.is (asked ∙ w.if-leaf_consistent.false) ∙ append-nil (matching m recon conds (take i rows) (take i rests)))
    ]
