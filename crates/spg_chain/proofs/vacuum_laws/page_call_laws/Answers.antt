use Rattle.spg_chain.proofs.Calls.{leaf_pages, swept_then_aged, roots_swept, roots_lead}
use Rattle.spg_chain.proofs.vacuum_laws.page_call_laws.Goals as goal

pub returns : goal.returns
returns g c = record { leaf = leaf_pages _; joined = swept_then_aged; root = roots_swept; leads = roots_lead }
