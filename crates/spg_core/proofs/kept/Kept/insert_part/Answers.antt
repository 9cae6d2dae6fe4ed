use Rattle.std.proofs.Common.{Some, refl, sym, ◌∙◌}
use Rattle.std.proofs.lemmas.Bool.{false≢true}
use Rattle.spg_core.specs.declared.guide.Guide.TheVariants as guides
use Rattle.spg_core.specs.Looking.{IsBunch, StepsInsert}
use Rattle.spg_core.proofs.Refusals.{ok_with}
use Rattle.spg_core.proofs.Inserts.{is_insert, guide_seen, bunch_seen, bunch_kept, may_step}
use Rattle.spg_core.proofs.kept.Kept.insert_part.Given.{Over}
use Rattle.spg_core.proofs.kept.Kept.insert_part.Goals as goal
use Rattle.spg_core.proofs.kept.Kept.insert_part.Goals.{Then-not-is_bunch}

pub descent_at-descent-requires-clause-insert : goal.descent_at-descent-requires-clause-insert
descent_at-descent-requires-clause-insert g c = is_insert c.self.inside c.args.self.now c.self.view_is c.args.seat c.deref.result.now c.deref.ensures.value c.requires.inserting

pub is_bunch-requires : goal.is_bunch-requires
is_bunch-requires g c = record { can = may_step g.O.OpClass.meaning g.O.OpClass.codes c.self.inside c.self.invariant.0 c.args.seat c.descent_at-descent.result.now c.deref.result.now c.deref.ensures.value c.descent_at-descent.ensures }

-- a look would not give the copy
no_copy : (g : Over) (c : Then-not-is_bunch g) → IsBunch c.args.self.now c.args.seat c.args.parted.now → ⊥
no_copy g c is = false≢true (sym c.if-not-is_bunch.true ∙ c.is_bunch.ensures.1 (bunch_kept c.self.inside c.args.self.now c.self.view_is c.args.seat c.descent_at-descent.result.now c.deref.result.now c.deref.ensures.value c.descent_at-descent.ensures c.args.parted.now is))

pub returns-then-not-is_bunch-clause-changed : goal.returns-then-not-is_bunch-clause-changed
returns-then-not-is_bunch-clause-changed g c = (λ h is. no_copy g c is, λ h. refl)

pub returns-then-not-is_bunch-clause-clock_first : goal.returns-then-not-is_bunch-clause-clock_first
returns-then-not-is_bunch-clause-clock_first g c = λ is ticks last. absurd (no_copy g c is)

pub returns-then-not-is_bunch-clause-no_page : goal.returns-then-not-is_bunch-clause-no_page
returns-then-not-is_bunch-clause-no_page g c = λ is none apart. absurd (no_copy g c is)

pub apply-requires-clause-guided : goal.apply-requires-clause-guided
apply-requires-clause-guided g c =
    guide_seen c.self.inside c.args.self.now c.self.view_is c.args.seat c.descent_at-descent.result.now c.deref.result.now c.deref.ensures.value c.descent_at-descent.ensures g.O.OpClass.meaning (guides.Parted (Some c.args.parted))
    (c.is_bunch.ensures.0 c.if-not-is_bunch.false)

pub returns-clause-ok : goal.returns-clause-ok
returns-clause-ok g c =
    ok_with (IsBunch c.args.self.now c.args.seat c.args.parted.now) (λ out. StepsInsert g.O.OpClass.meaning c.args.self.now c.apply.new.self c.args.seat out) c.apply.result (bunch_seen c.self.inside c.args.self.now c.self.view_is c.args.seat c.descent_at-descent.result.now c.deref.result.now c.deref.ensures.value c.descent_at-descent.ensures c.args.parted.now (c.is_bunch.ensures.0 c.if-not-is_bunch.false)) c.apply.ensures.ok

pub returns-clause-full : goal.returns-clause-full
returns-clause-full g c = λ h. (bunch_seen c.self.inside c.args.self.now c.self.view_is c.args.seat c.descent_at-descent.result.now c.deref.result.now c.deref.ensures.value c.descent_at-descent.ensures c.args.parted.now (c.is_bunch.ensures.0 c.if-not-is_bunch.false), (c.apply.ensures.full h).0, (c.apply.ensures.full h).1)

pub returns-clause-clock : goal.returns-clause-clock
returns-clause-clock g c = λ h. (bunch_seen c.self.inside c.args.self.now c.self.view_is c.args.seat c.descent_at-descent.result.now c.deref.result.now c.deref.ensures.value c.descent_at-descent.ensures c.args.parted.now (c.is_bunch.ensures.0 c.if-not-is_bunch.false), (c.apply.ensures.clock h).0, (c.apply.ensures.clock h).1)

pub returns-clause-changed : goal.returns-clause-changed
returns-clause-changed g c = (λ h. absurd (c.apply.ensures.unchanged h), λ no. absurd (no (bunch_seen c.self.inside c.args.self.now c.self.view_is c.args.seat c.descent_at-descent.result.now c.deref.result.now c.deref.ensures.value c.descent_at-descent.ensures c.args.parted.now (c.is_bunch.ensures.0 c.if-not-is_bunch.false))))
