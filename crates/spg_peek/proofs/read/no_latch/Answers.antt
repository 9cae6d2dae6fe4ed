use Rattle.std.proofs.Common.{◌≡◌, arith}
use Rattle.spg_whole.proofs.Alone.{own_latches}
use Rattle.spg_peek.proofs.read.no_latch.Goals as goal

-- it would be that of two seats
pub returns : goal.returns
returns g c =
    let one : c.args.by ≡ 0 = own_latches c.args.state.now 0 c.args.block c.args.by (λ other apart. c.requires.closed other) c.pages.ensures.latches c.open_of.ensures.journal c.requires.latched in
    let two : c.args.by ≡ 1 = own_latches c.args.state.now 1 c.args.block c.args.by (λ other apart. c.requires.closed other) c.pages.ensures.latches c.open_of.ensures.journal c.requires.latched in
    absurd (omega (arith, one, two))
