use Rattle.spg_cover.proofs.PageLaws.{handles_leaves, handles_inner}
use Rattle.spg_cover.proofs.Roots.{handles_root, handles_nothing}
use Rattle.spg_cover.proofs.SweptRows.{swept_rows}
use Rattle.spg_cover.proofs.page_laws.Goals as goal

pub returns : goal.returns
returns g c = record { leaves = handles_leaves _; root = handles_root _; inner = handles_inner _; nothing = handles_nothing _; rows = swept_rows _ }
