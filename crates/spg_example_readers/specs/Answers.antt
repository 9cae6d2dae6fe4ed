-- What threads answer that read one index.
use Rattle.std.specs.Prelude.{◌≡◌, ◌∷◌, [], List, IfSome}
use Rattle.spgist.specs.Row.{RowAt}
use Rattle.spgist.specs.Meaning.{Meaning}
use Rattle.spgist.specs.Words.{Point, PointCond, Where, Inside}
use Rattle.spgist.specs.Seen.{Seen, past_of}
use Rattle.spgist.specs.Peeking.{AreSome}
use Rattle.spg_example_readers.specs.declared.question.Question.{Question}

-- houses in the rectangle, 50 at most; all of them where they are fewer
abbrev pub AreIn : {O Key Recon : Type 0} → Meaning Key Recon PointCond → Seen O Key Recon PointCond → Point → Point → List RowAt → Type 0
AreIn m town low high rows = AreSome m (past_of town) (Where (Inside low.x low.y high.x high.y ∷ [])) 50 rows

-- the same question; its houses, where there are any, lie in its rectangle
pub record IsAnswered {O Key Recon : Type 0} (m : Meaning Key Recon PointCond) (town : Seen O Key Recon PointCond) (before after : Question) : Type 0 where
  pub low : after.low ≡ before.low
  pub high : after.high ≡ before.high
  pub houses : IfSome after.houses (AreIn m town before.low before.high)
