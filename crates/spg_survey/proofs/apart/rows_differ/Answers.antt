use Rattle.std.proofs.Common.{◌≡◌, subst}
use Rattle.std.specs.List.Sorted.{IsStrictlySortedBy}
use Rattle.spg_base.specs.Row.{row_cmp}
use Rattle.spg_survey.proofs.Differing.{apart_of}
use Rattle.spg_survey.proofs.apart.rows_differ.Goals as goal

pub returns : goal.returns
returns c t = c.in_ok-rows.ensures (apart_of c.in_ok-rows.rows.items c.sort_rows.new.rows.items c.sort_rows.ensures.permutation (subst (IsStrictlySortedBy row_cmp) c.as_slice.ensures.value (c.ascend.ensures t)))
