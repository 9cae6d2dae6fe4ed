use Rattle.spg_cover.proofs.Elsewhere.{finishes}
use Rattle.spg_cover.proofs.Own.{opens_law, block_law, pending_law, listing_law, settling_law}
use Rattle.spg_cover.proofs.Stands.{pending_stands, listed_high, takes_coming}
use Rattle.spg_cover.proofs.vacuum_laws.Goals as goal

pub returns : goal.returns
returns g c = record { opens = opens_law _; block = block_law _; pending = pending_law _; listing = listing_law _; settling = settling_law g.O.OpClass.meaning; finished = finishes _; stands = pending_stands _; high = listed_high _; coming = takes_coming _ }
