use Rattle.std.proofs.Common.{◌≡◌}
use Rattle.spg_turn.specs.Passes.{pass_turn, pass_view}
use Rattle.spg_calls.specs.Doing.{idle}
use Rattle.spg_desk.specs.Knowing.{doing_at}
use Rattle.spg_desk.specs.Acting.{IsOn}
use Rattle.spg_desk.specs.Passes.{desk_id}
use Rattle.spg_desk.proofs.desk.Desk.near.Given as goal

abbrev pub invariant-loop : goal.invariant-loop
invariant-loop g l = record {
  own : pass_turn l.going.pass ≡ desk_id l.self;
  idle : doing_at (pass_view l.going.pass) ≡ idle;
  on : IsOn (pass_view l.initial.going.pass) (pass_view l.going.pass);
}
