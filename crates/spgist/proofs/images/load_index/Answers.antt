use Rattle.std.proofs.Common.{sym, subst}
use Rattle.spg_core.specs.Seen.{Seen}
use Rattle.spg_io.specs.Held.{Holds}
use Rattle.spg_image.specs.Verifying.{IsLoadOf}
use Rattle.spg_verdict.specs.Entries.{entries_of}
use Rattle.spg_whole.proofs.Loaded.{loaded_closed}
use Rattle.spgist.proofs.images.load_index.Goals as goal

pub of-requires : goal.of-requires
of-requires g c = record { closed = let (t, A, held) = c.in-Ok.ensures.made in loaded_closed (entries_of A.entries) c.in-Ok.state A.loaded.journal }

pub returns-in-Ok-clause-value : goal.returns-in-Ok-clause-value
returns-in-Ok-clause-value g c =
    subst (λ (i : Seen _ _ _ _). Holds (g.M.Images.held c.args.images.now) c.args.name.now (λ held. IsLoadOf g.O.OpClass.meaning g.O.OpClass.code_number c.args.limit held i)) (sym c.of.ensures) c.in-Ok.ensures.value
