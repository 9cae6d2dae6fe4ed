use Rattle.std.proofs.Common.{◌≡◌, ◌∷◌, [], ◌++◌, refl, sym, ap, ◌∙◌, subst}
use Rattle.spg_vacuum.specs.declared.pending.Pending.TheInside.{Inside}
use Rattle.spg_vacuum.specs.Listing.{Listing, with_listed}
use Rattle.spg_vacuum.proofs.Places.{split, listed_same, listed_new}
use Rattle.spg_vacuum.proofs.PendingSet.{pending_more}
use Rattle.spg_vacuum.proofs.pending.Pending.list.Goals as goal

pub returns-then-contains-clause-ok : goal.returns-then-contains-clause-ok
returns-then-contains-clause-ok c = subst (λ (l : Listing). l ≡ with_listed l (c.args.place ∷ [])) c.self.view_is
    (listed_same c.self.inside.done c.self.inside.places.items c.args.place (sym (c.self.invariant.same c.args.place) ∙ sym c.contains.ensures ∙ c.if-contains.true))

pub invariant_of-self-2 : goal.invariant_of-self-2
invariant_of-self-2 c =
    let p2 : Inside = record { places = c.push.new.self; done = c.self.inside.done; listed = c.insert.new.self } in
    pending_more c.self.inside p2 c.args.place c.self.invariant refl
    (c.in_ok-push.ensures.items ∙ ap (λ xs. xs ++ c.args.place ∷ []) c.in_ok-reserve.ensures.items) c.in_ok-insert.ensures.updates
    (sym (c.self.invariant.same c.args.place) ∙ sym c.contains.ensures ∙ c.if-contains.false) c.requires

pub returns-clause-ok : goal.returns-clause-ok
returns-clause-ok c =
    ap (split c.self.inside.done) (c.in_ok-push.ensures.items ∙ ap (λ xs. xs ++ c.args.place ∷ []) c.in_ok-reserve.ensures.items)
    ∙ listed_new c.self.inside.done c.self.inside.places.items c.args.place (sym (c.self.invariant.same c.args.place) ∙ sym c.contains.ensures ∙ c.if-contains.false) c.self.invariant.few
    ∙ ap (λ (l : Listing). with_listed l (c.args.place ∷ [])) c.self.view_is
