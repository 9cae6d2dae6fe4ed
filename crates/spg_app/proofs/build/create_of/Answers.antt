use Rattle.std.proofs.Common.{sym, subst}
use Rattle.spg_perform.specs.Session.{IsOfClass}
use Rattle.spg_create.proofs.OfClass.{inserts_known}
use Rattle.spg_app.proofs.Created.{created_at}
use Rattle.spg_app.proofs.build.create_of.Goals as goal

pub create-requires-clause-known : goal.create-requires-clause-known
create-requires-clause-known g c κs within = inserts_known g.O.Spoken.speech c.args.inserts.now _ c.requires.written c.as_slice.ensures (subst (IsOfClass g.O.Spoken.speech) (sym c.requires.of_class) (g.met.O.Ended g.world.𝓛 g.world.𝓜 g.world.𝓡 ((λ s x. x), (λ x. x), (λ x. x), λ x. x)).is_class.known)

pub returns : goal.returns
returns g c = created_at _ _ c.requires.of_class _ _ c.as_slice.ensures _ _ _ _ _ _ ((g.met.O.Ended g.world.𝓛 g.world.𝓜 g.world.𝓡 ((λ s x. x), (λ x. x), (λ x. x), λ x. x)).is_class.created _ _ _ _ _ _ _ c.create.ensures)
