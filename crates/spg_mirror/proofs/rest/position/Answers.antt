use Rattle.spg_whole.proofs.Alone.{free_by}
use Rattle.spg_mirror.proofs.rest.position.Goals as goal

pub returns-clause-free : goal.returns-clause-free
returns-clause-free g c =
    let at_first = free_by c.primary-state.result.now c.first.result c.primary-state.ensures.closed c.open_of.ensures.journal in
    rw (c.first.ensures, c.primary-state.ensures.value) at at_first
