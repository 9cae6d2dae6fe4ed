use Rattle.std.proofs.Common.{sym, ◌∙◌, refl, inl, inr}
use Rattle.std.proofs.lemmas.Bool.{false≢true}
use Rattle.spg_rows.proofs.RunRows.{behind_last, last_below}
use Rattle.spg_rows.proofs.run.Run.is_behind.Goals as goal

pub returns-in-Less : goal.returns-in-Less
returns-in-Less g c =
    let item = c.in-Some.ensures.item in (
      λ _. rw (← c.self.view_is, ← c.deref.ensures.value)
          (behind_last _ (rw c.deref.ensures.value c.self.invariant) c.args.row c.in-Some.last.now item.3.0 (sym (item.3.1 c.in-Some.last.now)) (sym c.cmp.ensures ∙ c.in-Less.is)),
      λ _. refl,
    )

pub returns-in-Equal : goal.returns-in-Equal
returns-in-Equal g c =
    let item = c.in-Some.ensures.item in (
      λ no. absurd (false≢true no),
      λ behind.
          let less = last_below _ (rw c.deref.ensures.value c.self.invariant) c.args.row c.in-Some.last.now item.3.0 (sym (item.3.1 c.in-Some.last.now)) (rw (c.deref.ensures.value, c.self.view_is) behind) in
          elim c.in-Equal.is [
            | inl same ↦ absurd (cc (less, c.cmp.ensures, same))
            | inr over ↦ absurd (cc (less, c.cmp.ensures, over))
          ],
    )
