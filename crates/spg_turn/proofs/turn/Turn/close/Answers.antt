use Rattle.std.proofs.Common.{◌≡◌, drop, sym, ap, ◌∙◌}
use mathlib.Core.Option.{some-injective}
use Rattle.spg_turn.specs.Views.{by_seat}
use Rattle.spg_turn.proofs.Ends.{closes}
use Rattle.spg_turn.proofs.Views.{some_same}
use Rattle.spg_turn.proofs.turn.Turn.close.Goals as goal

pub unreachable-requires : goal.unreachable-requires
unreachable-requires g c =
    let first = c.args.first in
    let rest = first.resting in
    let z = closes g.S.Recorded.entries g.S.Recorded.seat_of g.S.Recorded.origin_of _ _ _ _ c.close_with-closed.ensures.values.2.1 c.close_with-closed.ensures.values.2.4 c.requires.first rest.2 rest.1 c.requires.all in
    c.in_default.not-Some z.0 (some-injective _ _ (sym c.take-found.ensures.value ∙ z.1))

pub returns-clause-origin : goal.returns-clause-origin
returns-clause-origin g c =
    let rest = c.args.first.resting in
    let z = closes g.S.Recorded.entries g.S.Recorded.seat_of g.S.Recorded.origin_of _ _ _ _ c.close_with-closed.ensures.values.2.1 c.close_with-closed.ensures.values.2.4 c.requires.first rest.2 rest.1 c.requires.all in
    let is : c.in-Some.state ≡ z.0 = some_same _ _ (sym c.in-Some.is ∙ some-injective _ _ (sym c.take-found.ensures.value ∙ z.1)) in
    ap g.S.Recorded.origin_of is ∙ z.3

pub returns-clause-list : goal.returns-clause-list
returns-clause-list g c =
    let rest = c.args.first.resting in
    let z = closes g.S.Recorded.entries g.S.Recorded.seat_of g.S.Recorded.origin_of _ _ _ _ c.close_with-closed.ensures.values.2.1 c.close_with-closed.ensures.values.2.4 c.requires.first rest.2 rest.1 c.requires.all in
    let is : c.in-Some.state ≡ z.0 = some_same _ _ (sym c.in-Some.is ∙ some-injective _ _ (sym c.take-found.ensures.value ∙ z.1)) in
    ap g.S.Recorded.entries is ∙ z.2

pub returns-clause-first : goal.returns-clause-first
returns-clause-first g c =
    let rest = c.args.first.resting in
    let base = c.args.first.seat.me.0.base in
    let z = closes g.S.Recorded.entries g.S.Recorded.seat_of g.S.Recorded.origin_of _ _ _ _ c.close_with-closed.ensures.values.2.1 c.close_with-closed.ensures.values.2.4 c.requires.first rest.2 rest.1 c.requires.all in
    let is : c.in-Some.state ≡ z.0 = some_same _ _ (sym c.in-Some.is ∙ some-injective _ _ (sym c.take-found.ensures.value ∙ z.1)) in
    ap (λ l. by_seat g.S.Recorded.seat_of 0 (drop base l)) (ap g.S.Recorded.entries is ∙ z.2) ∙ z.4

pub returns-clause-others : goal.returns-clause-others
returns-clause-others g c =
    let rest = c.args.first.resting in
    let base = c.args.first.seat.me.0.base in
    let z = closes g.S.Recorded.entries g.S.Recorded.seat_of g.S.Recorded.origin_of _ _ _ _ c.close_with-closed.ensures.values.2.1 c.close_with-closed.ensures.values.2.4 c.requires.first rest.2 rest.1 c.requires.all in
    let is : c.in-Some.state ≡ z.0 = some_same _ _ (sym c.in-Some.is ∙ some-injective _ _ (sym c.take-found.ensures.value ∙ z.1)) in
    λ n pos. ap (λ l. by_seat g.S.Recorded.seat_of n (drop base l)) (ap g.S.Recorded.entries is ∙ z.2) ∙ z.5 n pos
