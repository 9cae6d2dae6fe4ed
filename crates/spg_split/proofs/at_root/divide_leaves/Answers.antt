use Rattle.std.proofs.Common.{[], ◌∷◌, ◌++◌, is_none, option_copied, length, sym, ap, ◌∙◌, subst, arith}
use Rattle.std.proofs.lemmas.List.{length-map}
use Rattle.spg_forest.specs.View.{Leaf}
use Rattle.spg_forest.specs.Links.{leaves_on}
use Rattle.spg_tree.specs.Table.{sheets_of, tuples_at}
use Rattle.spg_tree.specs.declared.stand.Stand.TheVariants.{Root}
use Rattle.spg_descend.specs.Carried.{carried}
use Rattle.spg_descend.specs.Held.{TouchesFree}
use Rattle.spg_forest.specs.Sheets.{Sheet}
use Rattle.spg_split.specs.Dividing.{AreAllLive, rows_of}
use Rattle.spg_split.proofs.Joining.{if_ok_both, split_law}
use Rattle.spg_split.specs.Parts.{IsWay, PutsLists, going}
use Rattle.spg_split.specs.Causes.{IsCauseOf, IsWayFor, RisesOnly, root_bytes, root_in_one}
use Rattle.spg_split.specs.Ways.{IsSplitWay}
use Rattle.spg_split.specs.Tables.{RootTable}
use Rattle.spg_split.specs.Fulls.{IsRootFull}
use Rattle.spg_split.proofs.Tables.{root_table, root_not_full}
use Rattle.spg_split.proofs.RootExact.{several_leaves, going_some, root_exact}
use Rattle.spg_forest.specs.Exact.{IsExact}
use Rattle.spg_split.proofs.Causes.{root_cause, root_rise, root_way}
use Rattle.spg_split.proofs.Fulls.{root_full}
use Rattle.spg_split.proofs.Held.{root_held}
use Rattle.spg_tree.proofs.Outcomes.{on_ok_then, on_ok_both, if_ok_then}
use Rattle.spg_split.proofs.Standing.{at_root, live_there, several, rest_fits, tuple_fits, ready, leaf_count, count_vs, others_fit, parts_as, nulls_recon}
use Rattle.spg_split.proofs.Parting.{rows_are, count_is, division_is}
use Rattle.spg_split.proofs.at_root.divide_leaves.Goals as goal

pub rows_at_root-requires : goal.rows_at_root-requires
rows_at_root-requires g c =
    let a = live_there g.O.OpClass.meaning g.O.OpClass.codes c.args.table.now c.args.descent.now c.args.root c.requires.shape c.requires.stands c.requires.spot c.requires.of_key in
    subst (λ (s : Sheet). AreAllLive s.tuples) (sym c.page.ensures) a.0

pub divide-requires-clause-several : goal.divide-requires-clause-several
divide-requires-clause-several g c =
    let R = rows_are c.args.table.now c.args.root c.args.descent.now c.page.result.now c.in_ok-rows.rows c.page.ensures c.in_ok-rows.ensures in
    let n = ap length R in let l = c.len.ensures in
    let k = length-map (leaves_on (tuples_at c.args.table.now c.args.root) ++ carried c.args.descent.now ∷ []) (λ (l : Leaf). l.row) in
    let a = several_leaves (leaves_on (tuples_at c.args.table.now c.args.root) ++ carried c.args.descent.now ∷ []) (several g.O.OpClass.meaning g.O.OpClass.codes c.args.table.now c.args.descent.now c.args.root c.requires.shape c.requires.stands c.requires.spot c.requires.of_key c.requires.no_room) in omega arith

pub divide-requires-clause-count : goal.divide-requires-clause-count
divide-requires-clause-count g c =
    let R = rows_are c.args.table.now c.args.root c.args.descent.now c.page.result.now c.in_ok-rows.rows c.page.ensures c.in_ok-rows.ensures in
    count_is c.args.table.now c.args.descent.now (Root c.args.root) (option_copied c.args.parted) c.in_ok-rows.rows c.len.result c.requires.stands c.requires.parted R c.len.ensures

pub of-requires-clause-each : goal.of-requires-clause-each
of-requires-clause-each g c =
    let R = rows_are c.args.table.now c.args.root c.args.descent.now c.page.result.now c.in_ok-rows.rows c.page.ensures c.in_ok-rows.ensures in
    let D = division_is c.args.table.now c.args.descent.now (Root c.args.root) (option_copied c.args.parted) c.in_ok-rows.rows c.len.result c.requires.stands c.requires.parted R c.len.ensures g.O.OpClass.meaning c.in_ok-division.division c.in_ok-division.ensures in
    D.rest_each ∙ length-map (leaves_on (tuples_at c.args.table.now c.args.root) ++ carried c.args.descent.now ∷ []) (λ (l : Leaf). l.rest) ∙ sym (length-map (leaves_on (tuples_at c.args.table.now c.args.root) ++ carried c.args.descent.now ∷ []) (λ (l : Leaf). l.row)) ∙ sym (ap length (c.as_slice.ensures ∙ R))

pub of-requires-clause-some : goal.of-requires-clause-some
of-requires-clause-some g c =
    let R = rows_are c.args.table.now c.args.root c.args.descent.now c.page.result.now c.in_ok-rows.rows c.page.ensures c.in_ok-rows.ensures in
    let D = division_is c.args.table.now c.args.descent.now (Root c.args.root) (option_copied c.args.parted) c.in_ok-rows.rows c.len.result c.requires.stands c.requires.parted R c.len.ensures g.O.OpClass.meaning c.in_ok-division.division c.in_ok-division.ensures in
    D.some

pub of-requires-clause-small : goal.of-requires-clause-small
of-requires-clause-small g c =
    let R = rows_are c.args.table.now c.args.root c.args.descent.now c.page.result.now c.in_ok-rows.rows c.page.ensures c.in_ok-rows.ensures in
    let D = division_is c.args.table.now c.args.descent.now (Root c.args.root) (option_copied c.args.parted) c.in_ok-rows.rows c.len.result c.requires.stands c.requires.parted R c.len.ensures g.O.OpClass.meaning c.in_ok-division.division c.in_ok-division.ensures in
    λ i q e. rest_fits g.O.OpClass.meaning g.O.OpClass.codes (is_none c.args.descent.now.recon) q (D.well_formed i q e)

pub of-requires-clause-frame : goal.of-requires-clause-frame
of-requires-clause-frame g c =
    let R = rows_are c.args.table.now c.args.root c.args.descent.now c.page.result.now c.in_ok-rows.rows c.page.ensures c.in_ok-rows.ensures in
    let D = division_is c.args.table.now c.args.descent.now (Root c.args.root) (option_copied c.args.parted) c.in_ok-rows.rows c.len.result c.requires.stands c.requires.parted R c.len.ensures g.O.OpClass.meaning c.in_ok-division.division c.in_ok-division.ensures in
    tuple_fits g.O.OpClass.meaning g.O.OpClass.codes (is_none c.args.descent.now.recon) c.in_ok-division.division.frame D.tuple

pub put_division-requires-clause-live : goal.put_division-requires-clause-live
put_division-requires-clause-live g c = (live_there g.O.OpClass.meaning g.O.OpClass.codes c.args.table.now c.args.descent.now c.args.root c.requires.shape c.requires.stands c.requires.spot c.requires.of_key).0

pub put_division-requires-clause-parts : goal.put_division-requires-clause-parts
put_division-requires-clause-parts g c =
    let R = rows_are c.args.table.now c.args.root c.args.descent.now c.page.result.now c.in_ok-rows.rows c.page.ensures c.in_ok-rows.ensures in
    let D = division_is c.args.table.now c.args.descent.now (Root c.args.root) (option_copied c.args.parted) c.in_ok-rows.rows c.len.result c.requires.stands c.requires.parted R c.len.ensures g.O.OpClass.meaning c.in_ok-division.division c.in_ok-division.ensures in
    let N = nulls_recon c.args.descent.now.start c.args.descent.now.recon c.recon-recon.ensures.known in
    let P = parts_as c.as_slice.result.now (rows_of (leaves_on (tuples_at c.args.table.now c.args.root) ++ carried c.args.descent.now ∷ [])) c.in_ok-division.division c.in_ok-parts.parts (c.as_slice.ensures ∙ R) c.in_ok-parts.ensures in
    ready g.O.OpClass.meaning g.O.OpClass.codes c.args.table.now c.args.descent.now c.args.root c.requires.shape c.requires.stands c.requires.spot c.requires.of_key c.requires.no_room c.in_ok-division.division D N c.in_ok-parts.parts P

pub put_division-requires-clause-some : goal.put_division-requires-clause-some
put_division-requires-clause-some g c =
    let R = rows_are c.args.table.now c.args.root c.args.descent.now c.page.result.now c.in_ok-rows.rows c.page.ensures c.in_ok-rows.ensures in
    let D = division_is c.args.table.now c.args.descent.now (Root c.args.root) (option_copied c.args.parted) c.in_ok-rows.rows c.len.result c.requires.stands c.requires.parted R c.len.ensures g.O.OpClass.meaning c.in_ok-division.division c.in_ok-division.ensures in
    let N = nulls_recon c.args.descent.now.start c.args.descent.now.recon c.recon-recon.ensures.known in
    let P = parts_as c.as_slice.result.now (rows_of (leaves_on (tuples_at c.args.table.now c.args.root) ++ carried c.args.descent.now ∷ [])) c.in_ok-division.division c.in_ok-parts.parts (c.as_slice.ensures ∙ R) c.in_ok-parts.ensures in
    let a = leaf_count g.O.OpClass.meaning g.O.OpClass.codes c.args.table.now c.args.descent.now c.args.root c.requires.shape c.requires.stands c.requires.spot c.requires.of_key c.requires.no_room c.in_ok-division.division D N c.in_ok-parts.parts P in
    let b = count_vs g.O.OpClass.meaning g.O.OpClass.codes c.args.table.now c.args.descent.now c.args.root c.requires.shape c.requires.stands c.requires.spot c.requires.of_key in omega arith

pub put_division-requires-clause-others : goal.put_division-requires-clause-others
put_division-requires-clause-others g c =
    let R = rows_are c.args.table.now c.args.root c.args.descent.now c.page.result.now c.in_ok-rows.rows c.page.ensures c.in_ok-rows.ensures in
    let D = division_is c.args.table.now c.args.descent.now (Root c.args.root) (option_copied c.args.parted) c.in_ok-rows.rows c.len.result c.requires.stands c.requires.parted R c.len.ensures g.O.OpClass.meaning c.in_ok-division.division c.in_ok-division.ensures in
    let N = nulls_recon c.args.descent.now.start c.args.descent.now.recon c.recon-recon.ensures.known in
    let P = parts_as c.as_slice.result.now (rows_of (leaves_on (tuples_at c.args.table.now c.args.root) ++ carried c.args.descent.now ∷ [])) c.in_ok-division.division c.in_ok-parts.parts (c.as_slice.ensures ∙ R) c.in_ok-parts.ensures in
    others_fit g.O.OpClass.meaning g.O.OpClass.codes c.args.table.now c.args.descent.now c.args.root c.requires.shape c.requires.stands c.requires.spot c.requires.of_key c.requires.no_room c.in_ok-division.division D N c.in_ok-parts.parts P

pub returns-clause-ok : goal.returns-clause-ok
returns-clause-ok g c =
    let R = rows_are c.args.table.now c.args.root c.args.descent.now c.page.result.now c.in_ok-rows.rows c.page.ensures c.in_ok-rows.ensures in
    let D = division_is c.args.table.now c.args.descent.now (Root c.args.root) (option_copied c.args.parted) c.in_ok-rows.rows c.len.result c.requires.stands c.requires.parted R c.len.ensures g.O.OpClass.meaning c.in_ok-division.division c.in_ok-division.ensures in
    let N = nulls_recon c.args.descent.now.start c.args.descent.now.recon c.recon-recon.ensures.known in
    let P = parts_as c.as_slice.result.now (rows_of (leaves_on (tuples_at c.args.table.now c.args.root) ++ carried c.args.descent.now ∷ [])) c.in_ok-division.division c.in_ok-parts.parts (c.as_slice.ensures ∙ R) c.in_ok-parts.ensures in
    if_ok_both c.put_division.result (λ way. IsWay c.in_ok-parts.parts way) (λ way. PutsLists c.args.table.now c.put_division.new.table c.args.root c.args.seat c.in_ok-parts.parts (going c.in_ok-parts.parts way))
    (λ way. IsSplitWay g.O.OpClass.meaning c.args.table.now c.put_division.new.table c.args.descent.now way)
    (λ way a b. split_law g.O.OpClass.meaning g.O.OpClass.codes c.args.table.now c.args.descent.now c.args.root c.requires.shape c.requires.stands c.requires.spot c.requires.of_key c.requires.no_room c.in_ok-division.division D N c.in_ok-parts.parts P c.args.seat c.put_division.new.table way a b) c.put_division.ensures.way c.put_division.ensures.ok

pub returns-clause-held : goal.returns-clause-held
returns-clause-held g c = on_ok_then c.put_division.result (λ way. PutsLists c.args.table.now c.put_division.new.table c.args.root c.args.seat c.in_ok-parts.parts (going c.in_ok-parts.parts way)) (TouchesFree c.args.table.now c.put_division.new.table c.args.descent.now c.args.seat)
    (λ way a. root_held c.args.table.now c.put_division.new.table c.args.descent.now c.args.root c.args.seat c.in_ok-parts.parts (going c.in_ok-parts.parts way) c.requires.stands a) c.put_division.ensures.ok

pub returns-clause-cause : goal.returns-clause-cause
returns-clause-cause g c =
    let R = rows_are c.args.table.now c.args.root c.args.descent.now c.page.result.now c.in_ok-rows.rows c.page.ensures c.in_ok-rows.ensures in
    let D = division_is c.args.table.now c.args.descent.now (Root c.args.root) (option_copied c.args.parted) c.in_ok-rows.rows c.len.result c.requires.stands c.requires.parted R c.len.ensures g.O.OpClass.meaning c.in_ok-division.division c.in_ok-division.ensures in
    let P = parts_as c.as_slice.result.now (rows_of (leaves_on (tuples_at c.args.table.now c.args.root) ++ carried c.args.descent.now ∷ [])) c.in_ok-division.division c.in_ok-parts.parts (c.as_slice.ensures ∙ R) c.in_ok-parts.ensures in
    if_ok_then c.put_division.result (λ way. IsWay c.in_ok-parts.parts way) (λ way. IsCauseOf (root_bytes g.O.OpClass.meaning c.args.table.now c.args.descent.now) way)
    (λ way a. root_cause g.O.OpClass.meaning c.args.table.now c.args.descent.now c.args.root c.requires.stands c.in_ok-division.division D c.in_ok-parts.parts P way a) c.put_division.ensures.way

pub returns-clause-way : goal.returns-clause-way
returns-clause-way g c =
    let R = rows_are c.args.table.now c.args.root c.args.descent.now c.page.result.now c.in_ok-rows.rows c.page.ensures c.in_ok-rows.ensures in
    let D = division_is c.args.table.now c.args.descent.now (Root c.args.root) (option_copied c.args.parted) c.in_ok-rows.rows c.len.result c.requires.stands c.requires.parted R c.len.ensures g.O.OpClass.meaning c.in_ok-division.division c.in_ok-division.ensures in
    let P = parts_as c.as_slice.result.now (rows_of (leaves_on (tuples_at c.args.table.now c.args.root) ++ carried c.args.descent.now ∷ [])) c.in_ok-division.division c.in_ok-parts.parts (c.as_slice.ensures ∙ R) c.in_ok-parts.ensures in
    if_ok_then c.put_division.result (λ way. IsWay c.in_ok-parts.parts way) (λ way. IsWayFor (root_bytes g.O.OpClass.meaning c.args.table.now c.args.descent.now) (root_in_one g.O.OpClass.meaning c.args.table.now c.args.descent.now) way)
    (λ way a. root_way g.O.OpClass.meaning c.args.table.now c.args.descent.now c.args.root c.requires.stands c.in_ok-division.division D c.in_ok-parts.parts P way a) c.put_division.ensures.way

pub returns-clause-rise : goal.returns-clause-rise
returns-clause-rise g c =
    let R = rows_are c.args.table.now c.args.root c.args.descent.now c.page.result.now c.in_ok-rows.rows c.page.ensures c.in_ok-rows.ensures in
    let D = division_is c.args.table.now c.args.descent.now (Root c.args.root) (option_copied c.args.parted) c.in_ok-rows.rows c.len.result c.requires.stands c.requires.parted R c.len.ensures g.O.OpClass.meaning c.in_ok-division.division c.in_ok-division.ensures in
    let P = parts_as c.as_slice.result.now (rows_of (leaves_on (tuples_at c.args.table.now c.args.root) ++ carried c.args.descent.now ∷ [])) c.in_ok-division.division c.in_ok-parts.parts (c.as_slice.ensures ∙ R) c.in_ok-parts.ensures in
    if_ok_then c.put_division.result (λ way. IsWay c.in_ok-parts.parts way) (λ way. RisesOnly (root_in_one g.O.OpClass.meaning c.args.table.now c.args.descent.now) way)
    (λ way a. root_rise g.O.OpClass.meaning c.args.table.now c.args.descent.now c.args.root c.requires.stands c.in_ok-division.division D c.in_ok-parts.parts P way a) c.put_division.ensures.way

pub returns-clause-full : goal.returns-clause-full
returns-clause-full g c = λ h.
    let R = rows_are c.args.table.now c.args.root c.args.descent.now c.page.result.now c.in_ok-rows.rows c.page.ensures c.in_ok-rows.ensures in
    let D = division_is c.args.table.now c.args.descent.now (Root c.args.root) (option_copied c.args.parted) c.in_ok-rows.rows c.len.result c.requires.stands c.requires.parted R c.len.ensures g.O.OpClass.meaning c.in_ok-division.division c.in_ok-division.ensures in
    let P = parts_as c.as_slice.result.now (rows_of (leaves_on (tuples_at c.args.table.now c.args.root) ++ carried c.args.descent.now ∷ [])) c.in_ok-division.division c.in_ok-parts.parts (c.as_slice.ensures ∙ R) c.in_ok-parts.ensures in
    root_full g.O.OpClass.meaning c.args.table.now c.args.descent.now c.args.root c.args.seat c.requires.stands c.in_ok-division.division D c.in_ok-parts.parts P (c.put_division.ensures.full h)

pub returns-clause-table : goal.returns-clause-table
returns-clause-table g c =
    let R = rows_are c.args.table.now c.args.root c.args.descent.now c.page.result.now c.in_ok-rows.rows c.page.ensures c.in_ok-rows.ensures in
    let D = division_is c.args.table.now c.args.descent.now (Root c.args.root) (option_copied c.args.parted) c.in_ok-rows.rows c.len.result c.requires.stands c.requires.parted R c.len.ensures g.O.OpClass.meaning c.in_ok-division.division c.in_ok-division.ensures in
    let P = parts_as c.as_slice.result.now (rows_of (leaves_on (tuples_at c.args.table.now c.args.root) ++ carried c.args.descent.now ∷ [])) c.in_ok-division.division c.in_ok-parts.parts (c.as_slice.ensures ∙ R) c.in_ok-parts.ensures in
    on_ok_both c.put_division.result (λ way. IsWay c.in_ok-parts.parts way) (λ way. PutsLists c.args.table.now c.put_division.new.table c.args.root c.args.seat c.in_ok-parts.parts (going c.in_ok-parts.parts way)) (RootTable g.O.OpClass.meaning c.args.table.now c.put_division.new.table c.args.descent.now c.args.seat)
    (λ way a b. root_table g.O.OpClass.meaning c.args.table.now c.put_division.new.table c.args.descent.now c.args.root c.args.seat c.requires.stands c.in_ok-division.division D c.in_ok-parts.parts P way a b) c.put_division.ensures.way c.put_division.ensures.ok

pub returns-clause-exact : goal.returns-clause-exact
returns-clause-exact g c =
    let R = rows_are c.args.table.now c.args.root c.args.descent.now c.page.result.now c.in_ok-rows.rows c.page.ensures c.in_ok-rows.ensures in
    let D = division_is c.args.table.now c.args.descent.now (Root c.args.root) (option_copied c.args.parted) c.in_ok-rows.rows c.len.result c.requires.stands c.requires.parted R c.len.ensures g.O.OpClass.meaning c.in_ok-division.division c.in_ok-division.ensures in
    let N = nulls_recon c.args.descent.now.start c.args.descent.now.recon c.recon-recon.ensures.known in
    let P = parts_as c.as_slice.result.now (rows_of (leaves_on (tuples_at c.args.table.now c.args.root) ++ carried c.args.descent.now ∷ [])) c.in_ok-division.division c.in_ok-parts.parts (c.as_slice.ensures ∙ R) c.in_ok-parts.ensures in
    let Y = ready g.O.OpClass.meaning g.O.OpClass.codes c.args.table.now c.args.descent.now c.args.root c.requires.shape c.requires.stands c.requires.spot c.requires.of_key c.requires.no_room c.in_ok-division.division D N c.in_ok-parts.parts P in
    let k = leaf_count g.O.OpClass.meaning g.O.OpClass.codes c.args.table.now c.args.descent.now c.args.root c.requires.shape c.requires.stands c.requires.spot c.requires.of_key c.requires.no_room c.in_ok-division.division D N c.in_ok-parts.parts P in
    let two = several_leaves (leaves_on (tuples_at c.args.table.now c.args.root) ++ carried c.args.descent.now ∷ []) (several g.O.OpClass.meaning g.O.OpClass.codes c.args.table.now c.args.descent.now c.args.root c.requires.shape c.requires.stands c.requires.spot c.requires.of_key c.requires.no_room) in
    on_ok_both c.put_division.result (λ way. IsWay c.in_ok-parts.parts way) (λ way. PutsLists c.args.table.now c.put_division.new.table c.args.root c.args.seat c.in_ok-parts.parts (going c.in_ok-parts.parts way)) (IsExact (sheets_of c.args.table.now) (sheets_of c.put_division.new.table) c.put_division.new.table.touched)
    (λ way a b. let n = going_some c.in_ok-parts.parts way (omega arith) in
    root_exact c.args.table.now c.put_division.new.table c.args.root c.args.seat c.in_ok-parts.parts (going c.in_ok-parts.parts way) c.requires.shape.pages.count (at_root g.O.OpClass.meaning g.O.OpClass.codes c.args.table.now c.args.descent.now c.args.root c.requires.shape c.requires.stands c.requires.spot c.requires.of_key).1 (live_there g.O.OpClass.meaning g.O.OpClass.codes c.args.table.now c.args.descent.now c.args.root c.requires.shape c.requires.stands c.requires.spot c.requires.of_key).0 n.0 (let e = Y.each in let h = n.1 in omega arith) Y b) c.put_division.ensures.way c.put_division.ensures.ok

pub returns-clause-not_full : goal.returns-clause-not_full
returns-clause-not_full g c =
    let R = rows_are c.args.table.now c.args.root c.args.descent.now c.page.result.now c.in_ok-rows.rows c.page.ensures c.in_ok-rows.ensures in
    let D = division_is c.args.table.now c.args.descent.now (Root c.args.root) (option_copied c.args.parted) c.in_ok-rows.rows c.len.result c.requires.stands c.requires.parted R c.len.ensures g.O.OpClass.meaning c.in_ok-division.division c.in_ok-division.ensures in
    let P = parts_as c.as_slice.result.now (rows_of (leaves_on (tuples_at c.args.table.now c.args.root) ++ carried c.args.descent.now ∷ [])) c.in_ok-division.division c.in_ok-parts.parts (c.as_slice.ensures ∙ R) c.in_ok-parts.ensures in
    on_ok_both c.put_division.result (λ way. IsWay c.in_ok-parts.parts way) (λ way. PutsLists c.args.table.now c.put_division.new.table c.args.root c.args.seat c.in_ok-parts.parts (going c.in_ok-parts.parts way)) (IsRootFull g.O.OpClass.meaning c.args.table.now c.args.descent.now c.args.seat → ⊥)
    (λ way a b. root_not_full g.O.OpClass.meaning c.args.table.now c.put_division.new.table c.args.descent.now c.args.seat (root_table g.O.OpClass.meaning c.args.table.now c.put_division.new.table c.args.descent.now c.args.root c.args.seat c.requires.stands c.in_ok-division.division D c.in_ok-parts.parts P way a b)) c.put_division.ensures.way c.put_division.ensures.ok
