use Rattle.std.proofs.lemmas.Result.{err_from_is_err_and}
use Rattle.std.proofs.Common.{Option, refl, sym, subst, inl, inr, ⊎_elim}
use Rattle.spg_tree.specs.declared.stand.StepRefused.TheVariants.{IndexFull, ClockFull, Memory}
use Rattle.spg_core.specs.declared.found.Found.{Found}
use Rattle.spg_core.specs.declared.guide.Guide.TheVariants as guides
use Rattle.spg_core.specs.Guides.{IsFound, IsTold, AsksAt, IsSpottedAt, IsBunchAt}
use Rattle.spg_core.specs.Looking.{Asks}
use Rattle.spg_core.proofs.Refusals.{not_err, same_err}
use Rattle.spg_core.proofs.Looks.{spotted_asks, bunch_asks}
use Rattle.spg_core.proofs.Inserts.{is_insert, guide_seen, spotted_seen, bunch_seen, asks_seen, asks_kept, may_step}
use Rattle.spg_core.proofs.kept.Kept.insert_look.Given.{Over}
use Rattle.spg_core.proofs.kept.Kept.insert_look.Goals as goal
use Rattle.spg_core.proofs.kept.Kept.insert_look.Goals.{In-Choose, In-Part, In-Unasked}

pub descent_at-descent-requires-clause-insert : goal.descent_at-descent-requires-clause-insert
descent_at-descent-requires-clause-insert g c = is_insert c.self.inside c.args.self.now c.self.view_is c.args.seat c.deref.result.now c.deref.ensures.value c.requires.inserting

pub look_at-requires : goal.look_at-requires
look_at-requires g c = record { can = may_step g.O.OpClass.meaning g.O.OpClass.codes c.self.inside c.self.invariant.0 c.args.seat c.descent_at-descent.result.now c.deref.result.now c.deref.ensures.value c.descent_at-descent.ensures }

-- the class has no say in what comes next
unasked : (g : Over) (c : In-Unasked g) → AsksAt c.self.inside.table c.descent_at-descent.result.now → ⊥
unasked g c = subst (λ (f : Found _ _ _ _). IsFound g.O.OpClass.meaning c.self.inside.table c.descent_at-descent.result.now f) c.in-Unasked.is c.in_ok-spotted.ensures

no_say : (g : Over) (c : In-Unasked g) → Asks c.args.self.now c.args.seat → ⊥
no_say g c asks = unasked g c (asks_kept c.self.inside c.args.self.now c.self.view_is c.args.seat c.descent_at-descent.result.now c.deref.result.now c.deref.ensures.value c.descent_at-descent.ensures asks)

pub go_on-requires-clause-guided : goal.go_on-requires-clause-guided
go_on-requires-clause-guided g c =
    guide_seen c.self.inside c.args.self.now c.self.view_is c.args.seat c.descent_at-descent.result.now c.deref.result.now c.deref.ensures.value c.descent_at-descent.ensures g.O.OpClass.meaning (guides.Parted c.as_ref.result)
    (subst (λ (o : Option _). IsTold c.self.inside.table c.descent_at-descent.result.now o) (sym c.as_ref.ensures.value) (unasked g ((goal.at.go_on-requires-clause-guided g c).In-Unasked)))

pub returns-in_err-go_on-in-Unasked-clause-clock_first : goal.returns-in_err-go_on-in-Unasked-clause-clock_first
returns-in_err-go_on-in-Unasked-clause-clock_first g c = λ no ticks last.
    let r = c.from_residual-in_err-go_on-in-Unasked.result in
    let f = c.in_err-go_on-in-Unasked.field-0.0 in
    let (e, is, same) = err_from_is_err_and r c.from_residual-in_err-go_on-in-Unasked.ensures.1 in
    ⊎_elim (λ a. inl (same_err r e f ClockFull is same a)) (λ a. inr (same_err r e f Memory is same a)) (c.in_err-go_on-in-Unasked.ensures.clock_first ticks last)

pub returns-in_err-go_on-in-Unasked-clause-no_page : goal.returns-in_err-go_on-in-Unasked-clause-no_page
returns-in_err-go_on-in-Unasked-clause-no_page g c = λ no none apart.
    let r = c.from_residual-in_err-go_on-in-Unasked.result in
    let f = c.in_err-go_on-in-Unasked.field-0.0 in
    let (e, is, same) = err_from_is_err_and r c.from_residual-in_err-go_on-in-Unasked.ensures.1 in
    ⊎_elim (λ a. inl (same_err r e f IndexFull is same a)) (λ a. inr (same_err r e f Memory is same a)) (c.in_err-go_on-in-Unasked.ensures.no_page none apart)

pub returns-in_err-go_on-in-Unasked-clause-full_asks : goal.returns-in_err-go_on-in-Unasked-clause-full_asks
returns-in_err-go_on-in-Unasked-clause-full_asks g c = λ h asks. no_say g ((goal.at.returns-in_err-go_on-in-Unasked-clause-full_asks g c).In-Unasked) asks

pub returns-in_err-go_on-in-Unasked-clause-clock_asks : goal.returns-in_err-go_on-in-Unasked-clause-clock_asks
returns-in_err-go_on-in-Unasked-clause-clock_asks g c = λ h asks. no_say g ((goal.at.returns-in_err-go_on-in-Unasked-clause-clock_asks g c).In-Unasked) asks

-- a copy of an inner tuple
spotted : (g : Over) (c : In-Choose g) → IsSpottedAt c.self.inside.table c.descent_at-descent.result.now c.in-Choose.spotted
spotted g c = subst (λ (f : Found _ _ _ _). IsFound g.O.OpClass.meaning c.self.inside.table c.descent_at-descent.result.now f) c.in-Choose.is c.in_ok-spotted.ensures

pub returns-in-Choose-clause-ok : goal.returns-in-Choose-clause-ok
returns-in-Choose-clause-ok g c = (refl, spotted_seen c.self.inside c.args.self.now c.self.view_is c.args.seat c.descent_at-descent.result.now c.deref.result.now c.deref.ensures.value c.descent_at-descent.ensures c.in-Choose.spotted (spotted g c))

pub returns-in-Choose-clause-clock_first : goal.returns-in-Choose-clause-clock_first
returns-in-Choose-clause-clock_first g c = λ no ticks last.
    let (key, C) = (may_step g.O.OpClass.meaning g.O.OpClass.codes c.self.inside c.self.invariant.0 c.args.seat c.descent_at-descent.result.now c.deref.result.now c.deref.ensures.value c.descent_at-descent.ensures).of_key in
    absurd (no (asks_seen c.self.inside c.args.self.now c.self.view_is c.args.seat c.descent_at-descent.result.now c.deref.result.now c.deref.ensures.value c.descent_at-descent.ensures (spotted_asks g.O.OpClass.meaning c.self.inside.table c.descent_at-descent.result.now key C c.in-Choose.spotted (spotted g c))))

pub returns-in-Choose-clause-no_page : goal.returns-in-Choose-clause-no_page
returns-in-Choose-clause-no_page g c = λ no none apart.
    let (key, C) = (may_step g.O.OpClass.meaning g.O.OpClass.codes c.self.inside c.self.invariant.0 c.args.seat c.descent_at-descent.result.now c.deref.result.now c.deref.ensures.value c.descent_at-descent.ensures).of_key in
    absurd (no (asks_seen c.self.inside c.args.self.now c.self.view_is c.args.seat c.descent_at-descent.result.now c.deref.result.now c.deref.ensures.value c.descent_at-descent.ensures (spotted_asks g.O.OpClass.meaning c.self.inside.table c.descent_at-descent.result.now key C c.in-Choose.spotted (spotted g c))))

-- a copy of values
bunch : (g : Over) (c : In-Part g) → IsBunchAt c.self.inside.table c.descent_at-descent.result.now c.in-Part.bunch
bunch g c = subst (λ (f : Found _ _ _ _). IsFound g.O.OpClass.meaning c.self.inside.table c.descent_at-descent.result.now f) c.in-Part.is c.in_ok-spotted.ensures

pub returns-in-Part-clause-ok : goal.returns-in-Part-clause-ok
returns-in-Part-clause-ok g c = (refl, bunch_seen c.self.inside c.args.self.now c.self.view_is c.args.seat c.descent_at-descent.result.now c.deref.result.now c.deref.ensures.value c.descent_at-descent.ensures c.in-Part.bunch (bunch g c))

pub returns-in-Part-clause-clock_first : goal.returns-in-Part-clause-clock_first
returns-in-Part-clause-clock_first g c = λ no ticks last.
    let (key, C) = (may_step g.O.OpClass.meaning g.O.OpClass.codes c.self.inside c.self.invariant.0 c.args.seat c.descent_at-descent.result.now c.deref.result.now c.deref.ensures.value c.descent_at-descent.ensures).of_key in
    absurd (no (asks_seen c.self.inside c.args.self.now c.self.view_is c.args.seat c.descent_at-descent.result.now c.deref.result.now c.deref.ensures.value c.descent_at-descent.ensures (bunch_asks g.O.OpClass.meaning c.self.inside.table c.descent_at-descent.result.now key C c.in-Part.bunch (bunch g c))))

pub returns-in-Part-clause-no_page : goal.returns-in-Part-clause-no_page
returns-in-Part-clause-no_page g c = λ no none apart.
    let (key, C) = (may_step g.O.OpClass.meaning g.O.OpClass.codes c.self.inside c.self.invariant.0 c.args.seat c.descent_at-descent.result.now c.deref.result.now c.deref.ensures.value c.descent_at-descent.ensures).of_key in
    absurd (no (asks_seen c.self.inside c.args.self.now c.self.view_is c.args.seat c.descent_at-descent.result.now c.deref.result.now c.deref.ensures.value c.descent_at-descent.ensures (bunch_asks g.O.OpClass.meaning c.self.inside.table c.descent_at-descent.result.now key C c.in-Part.bunch (bunch g c))))

pub returns-in_ok-go_on-in-Unasked-clause-ok : goal.returns-in_ok-go_on-in-Unasked-clause-ok
returns-in_ok-go_on-in-Unasked-clause-ok g c = (
  (λ asks. no_say g ((goal.at.returns-in_ok-go_on-in-Unasked-clause-ok g c).In-Unasked) asks),
  record {
    ok = c.in_ok-go_on-in-Unasked.ensures.ok;
    told = c.in_ok-go_on-in-Unasked.ensures.told;
    latches = c.in_ok-go_on-in-Unasked.ensures.latches;
    makes = c.in_ok-go_on-in-Unasked.ensures.makes;
    ends = c.in_ok-go_on-in-Unasked.ensures.ends;
  },
)

pub returns-in_ok-go_on-in-Unasked-clause-clock_first : goal.returns-in_ok-go_on-in-Unasked-clause-clock_first
returns-in_ok-go_on-in-Unasked-clause-clock_first g c = λ no ticks last.
    ⊎_elim (λ h. absurd (not_err c.in_ok-go_on-in-Unasked.field-0 ClockFull h)) (λ h. absurd (not_err c.in_ok-go_on-in-Unasked.field-0 Memory h)) (c.in_ok-go_on-in-Unasked.ensures.clock_first ticks last)

pub returns-in_ok-go_on-in-Unasked-clause-no_page : goal.returns-in_ok-go_on-in-Unasked-clause-no_page
returns-in_ok-go_on-in-Unasked-clause-no_page g c = λ no none apart.
    ⊎_elim (λ h. absurd (not_err c.in_ok-go_on-in-Unasked.field-0 IndexFull h)) (λ h. absurd (not_err c.in_ok-go_on-in-Unasked.field-0 Memory h)) (c.in_ok-go_on-in-Unasked.ensures.no_page none apart)
