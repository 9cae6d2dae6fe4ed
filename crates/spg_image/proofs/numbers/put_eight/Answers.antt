use Rattle.std.proofs.Common.{◌≡◌, ◌+◌, ◌%◌, ◌/◌, ◌^◌, ◌∙◌, arith}
use Rattle.spg_page.specs.Numbers.{four_at}
use Rattle.spg_page.proofs.Numbers.{four_same}
use Rattle.spg_image.proofs.numbers.put_eight.Goals as goal

pub returns-clause-value : goal.returns-clause-value
returns-clause-value c =
    let low : four_at c.put_four-2.new.page c.args.at ≡ c.args.number % 2 ^ 32 =
    four_same c.put_four-2.new.page c.put_four.new.page c.args.at (λ i a b. c.put_four-2.ensures.below i (omega arith)) ∙ c.put_four.ensures.value in
    let high : four_at c.put_four-2.new.page (c.args.at + 4) ≡ c.args.number / 2 ^ 32 = c.put_four-2.ensures.value in
    omega arith
