use Rattle.std.proofs.Common.{rules, ◌≡◌, List, Ok, Err, get_or, sym, ap, ◌∙◌, subst}
use Rattle.std.proofs.lemmas.List.Sorted.{answers_always}
use Rattle.spg_rows.specs.Vacuums.{find_end}
use Rattle.spg_core.specs.declared.vacuums.VacuumSpan.{VacuumSpan}
use Rattle.spg_core.specs.Spans.{spans_of, IsDescending}
use Rattle.spg_core.proofs.Spanning.{sought}
use Rattle.spg_core.proofs.vacuums.Vacuums.end_of.Goals as goal

pub returns-in-Ok : goal.returns-in-Ok
returns-in-Ok c =
    let items : List VacuumSpan = c.deref.result.now in
    let e : items ≡ c.self.inside.spans.items = c.deref.ensures.value in
    let by_key = c.in-Ok.ensures.position (λ span. span.opened) (answers_always _ _ _ (λ f a r g called. search rules)) in
    let at = sought items (subst (λ (xs : List VacuumSpan). IsDescending (spans_of xs)) (sym e) c.self.invariant) c.args.opened (Ok c.in-Ok.index) c.in-Ok.ensures.bound by_key in
    ap (λ (s : VacuumSpan). s.ended) c.index.ensures
    ∙ ap (λ (xs : List VacuumSpan). (get_or xs c.in-Ok.index c.index.result.now).ended) (sym e)
    ∙ sym (at c.index.result.now)
    ∙ ap (λ (xs : List VacuumSpan). find_end c.args.opened (spans_of xs)) e
    ∙ ap (find_end c.args.opened) c.self.view_is

pub returns-in-Err : goal.returns-in-Err
returns-in-Err c =
    let items : List VacuumSpan = c.deref.result.now in
    let e : items ≡ c.self.inside.spans.items = c.deref.ensures.value in
    let by_key = c.in-Err.ensures.position (λ span. span.opened) (answers_always _ _ _ (λ f a r g called. search rules)) in
    let none = sought items (subst (λ (xs : List VacuumSpan). IsDescending (spans_of xs)) (sym e) c.self.invariant) c.args.opened (Err c.in-Err.field-0) c.in-Err.ensures.bound by_key in
    sym none ∙ ap (λ (xs : List VacuumSpan). find_end c.args.opened (spans_of xs)) e ∙ ap (find_end c.args.opened) c.self.view_is
