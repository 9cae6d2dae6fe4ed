use Rattle.std.proofs.Common.{[], ◌∷◌, ◌++◌, is_none, option_copied, length, sym, ap, ◌∙◌, arith}
use Rattle.std.proofs.lemmas.List.{length-map}
use Rattle.spg_forest.specs.View.{Leaf}
use Rattle.spg_chain.specs.Chains.{chain_members, leaves_of}
use Rattle.spg_forest.specs.Exact.{IsExact}
use Rattle.spg_tree.specs.Table.{sheets_of, tuples_at}
use Rattle.spg_tree.specs.declared.stand.Stand.TheVariants.{At}
use Rattle.spg_descend.specs.Carried.{carried}
use Rattle.spg_descend.specs.Below.{IsTicked}
use Rattle.spg_descend.specs.Held.{TouchesFree, IsFreeHome}
use Rattle.spg_split.specs.Dividing.{rows_of}
use Rattle.spg_split.specs.Divides.{IsDividedBelow}
use Rattle.spg_split.specs.Below.{MakesBelow}
use Rattle.spg_split.specs.Causes.{IsCauseOf, RisesOnly, chain_bytes, chain_in_one}
use Rattle.spg_split.specs.Ways.{IsChainWay}
use Rattle.spg_split.specs.Tables.{DividesBelow}
use Rattle.spg_split.proofs.Tables.{chain_table}
use Rattle.spg_split.proofs.Standing.{rest_fits, tuple_fits, parts_as, nulls_recon}
use Rattle.spg_split.proofs.Parting.{chain_rows_are, count_is, division_is}
use Rattle.spg_split.proofs.RootExact.{several_leaves}
use Rattle.spg_split.proofs.ChainStanding.{several, may_divide, ready, some_leaves, others_fit, inner_fits}
use Rattle.spg_split.proofs.ChainJoining.{chain_done, chain_cause}
use Rattle.spg_split.proofs.ChainNamed.{chain_exact}
use Rattle.spg_split.proofs.Causes.{chain_rise}
use Rattle.spg_split.proofs.Fulls.{chain_full}
use Rattle.spg_split.proofs.Held.{chain_held, chain_home}
use Rattle.spg_tree.proofs.Outcomes.{on_ok_then, if_ok_then}
use Rattle.spg_split.proofs.below.divide_below.Goals as goal

pub divide-requires-clause-several : goal.divide-requires-clause-several
divide-requires-clause-several g c =
    let R = chain_rows_are c.args.table.now c.args.head c.args.descent.now c.page.result.now c.in_ok-rows.rows c.page.ensures c.in_ok-rows.ensures in
    let n = ap length R in let l = c.len.ensures in
    let k = length-map (leaves_of (chain_members (tuples_at c.args.table.now c.args.head.block) c.args.head.offset) ++ carried c.args.descent.now ∷ []) (λ (l : Leaf). l.row) in
    let a = several_leaves (leaves_of (chain_members (tuples_at c.args.table.now c.args.head.block) c.args.head.offset) ++ carried c.args.descent.now ∷ []) (several g.O.OpClass.meaning g.O.OpClass.codes c.args.table.now c.args.descent.now c.args.head c.args.parent c.args.node c.requires.shape c.requires.stands c.requires.above c.requires.spot c.requires.of_key c.requires.long) in omega arith

pub divide-requires-clause-count : goal.divide-requires-clause-count
divide-requires-clause-count g c =
    let R = chain_rows_are c.args.table.now c.args.head c.args.descent.now c.page.result.now c.in_ok-rows.rows c.page.ensures c.in_ok-rows.ensures in
    count_is c.args.table.now c.args.descent.now (At c.args.head) (option_copied c.args.parted) c.in_ok-rows.rows c.len.result c.requires.stands c.requires.parted R c.len.ensures

pub of-requires-clause-each : goal.of-requires-clause-each
of-requires-clause-each g c =
    let R = chain_rows_are c.args.table.now c.args.head c.args.descent.now c.page.result.now c.in_ok-rows.rows c.page.ensures c.in_ok-rows.ensures in
    let D = division_is c.args.table.now c.args.descent.now (At c.args.head) (option_copied c.args.parted) c.in_ok-rows.rows c.len.result c.requires.stands c.requires.parted R c.len.ensures g.O.OpClass.meaning c.in_ok-division.division c.in_ok-division.ensures in
    D.rest_each ∙ length-map (leaves_of (chain_members (tuples_at c.args.table.now c.args.head.block) c.args.head.offset) ++ carried c.args.descent.now ∷ []) (λ (l : Leaf). l.rest) ∙ sym (length-map (leaves_of (chain_members (tuples_at c.args.table.now c.args.head.block) c.args.head.offset) ++ carried c.args.descent.now ∷ []) (λ (l : Leaf). l.row)) ∙ sym (ap length (c.as_slice.ensures ∙ R))

pub of-requires-clause-some : goal.of-requires-clause-some
of-requires-clause-some g c =
    let R = chain_rows_are c.args.table.now c.args.head c.args.descent.now c.page.result.now c.in_ok-rows.rows c.page.ensures c.in_ok-rows.ensures in
    let D = division_is c.args.table.now c.args.descent.now (At c.args.head) (option_copied c.args.parted) c.in_ok-rows.rows c.len.result c.requires.stands c.requires.parted R c.len.ensures g.O.OpClass.meaning c.in_ok-division.division c.in_ok-division.ensures in
    D.some

pub of-requires-clause-small : goal.of-requires-clause-small
of-requires-clause-small g c =
    let R = chain_rows_are c.args.table.now c.args.head c.args.descent.now c.page.result.now c.in_ok-rows.rows c.page.ensures c.in_ok-rows.ensures in
    let D = division_is c.args.table.now c.args.descent.now (At c.args.head) (option_copied c.args.parted) c.in_ok-rows.rows c.len.result c.requires.stands c.requires.parted R c.len.ensures g.O.OpClass.meaning c.in_ok-division.division c.in_ok-division.ensures in
    λ i q e. rest_fits g.O.OpClass.meaning g.O.OpClass.codes (is_none c.args.descent.now.recon) q (D.well_formed i q e)

pub of-requires-clause-frame : goal.of-requires-clause-frame
of-requires-clause-frame g c =
    let R = chain_rows_are c.args.table.now c.args.head c.args.descent.now c.page.result.now c.in_ok-rows.rows c.page.ensures c.in_ok-rows.ensures in
    let D = division_is c.args.table.now c.args.descent.now (At c.args.head) (option_copied c.args.parted) c.in_ok-rows.rows c.len.result c.requires.stands c.requires.parted R c.len.ensures g.O.OpClass.meaning c.in_ok-division.division c.in_ok-division.ensures in
    tuple_fits g.O.OpClass.meaning g.O.OpClass.codes (is_none c.args.descent.now.recon) c.in_ok-division.division.frame D.tuple

pub put_chain-requires-clause-may : goal.put_chain-requires-clause-may
put_chain-requires-clause-may g c = may_divide g.O.OpClass.meaning g.O.OpClass.codes c.args.table.now c.args.descent.now c.args.head c.args.parent c.args.node c.requires.shape c.requires.stands c.requires.above c.requires.spot c.requires.of_key c.requires.long c.requires.tick

pub put_chain-requires-clause-parts : goal.put_chain-requires-clause-parts
put_chain-requires-clause-parts g c =
    let R = chain_rows_are c.args.table.now c.args.head c.args.descent.now c.page.result.now c.in_ok-rows.rows c.page.ensures c.in_ok-rows.ensures in
    let D = division_is c.args.table.now c.args.descent.now (At c.args.head) (option_copied c.args.parted) c.in_ok-rows.rows c.len.result c.requires.stands c.requires.parted R c.len.ensures g.O.OpClass.meaning c.in_ok-division.division c.in_ok-division.ensures in
    let N = nulls_recon c.args.descent.now.start c.args.descent.now.recon c.recon-recon.ensures.known in
    let P = parts_as c.as_slice.result.now (rows_of (leaves_of (chain_members (tuples_at c.args.table.now c.args.head.block) c.args.head.offset) ++ carried c.args.descent.now ∷ [])) c.in_ok-division.division c.in_ok-parts.parts (c.as_slice.ensures ∙ R) c.in_ok-parts.ensures in
    ready g.O.OpClass.meaning g.O.OpClass.codes c.args.table.now c.args.descent.now c.args.head c.args.parent c.args.node c.requires.shape c.requires.stands c.requires.above c.requires.spot c.requires.of_key c.requires.long c.in_ok-division.division D c.in_ok-parts.parts P

pub put_chain-requires-clause-some : goal.put_chain-requires-clause-some
put_chain-requires-clause-some g c =
    let R = chain_rows_are c.args.table.now c.args.head c.args.descent.now c.page.result.now c.in_ok-rows.rows c.page.ensures c.in_ok-rows.ensures in
    let D = division_is c.args.table.now c.args.descent.now (At c.args.head) (option_copied c.args.parted) c.in_ok-rows.rows c.len.result c.requires.stands c.requires.parted R c.len.ensures g.O.OpClass.meaning c.in_ok-division.division c.in_ok-division.ensures in
    let N = nulls_recon c.args.descent.now.start c.args.descent.now.recon c.recon-recon.ensures.known in
    let P = parts_as c.as_slice.result.now (rows_of (leaves_of (chain_members (tuples_at c.args.table.now c.args.head.block) c.args.head.offset) ++ carried c.args.descent.now ∷ [])) c.in_ok-division.division c.in_ok-parts.parts (c.as_slice.ensures ∙ R) c.in_ok-parts.ensures in
    some_leaves g.O.OpClass.meaning g.O.OpClass.codes c.args.table.now c.args.descent.now c.args.head c.args.parent c.args.node c.requires.shape c.requires.stands c.requires.above c.requires.spot c.requires.of_key c.requires.long c.in_ok-division.division D c.in_ok-parts.parts P

pub put_chain-requires-clause-others : goal.put_chain-requires-clause-others
put_chain-requires-clause-others g c =
    let R = chain_rows_are c.args.table.now c.args.head c.args.descent.now c.page.result.now c.in_ok-rows.rows c.page.ensures c.in_ok-rows.ensures in
    let D = division_is c.args.table.now c.args.descent.now (At c.args.head) (option_copied c.args.parted) c.in_ok-rows.rows c.len.result c.requires.stands c.requires.parted R c.len.ensures g.O.OpClass.meaning c.in_ok-division.division c.in_ok-division.ensures in
    let N = nulls_recon c.args.descent.now.start c.args.descent.now.recon c.recon-recon.ensures.known in
    let P = parts_as c.as_slice.result.now (rows_of (leaves_of (chain_members (tuples_at c.args.table.now c.args.head.block) c.args.head.offset) ++ carried c.args.descent.now ∷ [])) c.in_ok-division.division c.in_ok-parts.parts (c.as_slice.ensures ∙ R) c.in_ok-parts.ensures in
    others_fit g.O.OpClass.meaning g.O.OpClass.codes c.args.table.now c.args.descent.now c.args.head c.args.parent c.args.node c.requires.shape c.requires.stands c.requires.above c.requires.spot c.requires.of_key c.requires.long c.in_ok-division.division D c.in_ok-parts.parts P

pub put_chain-requires-clause-inner : goal.put_chain-requires-clause-inner
put_chain-requires-clause-inner g c =
    let R = chain_rows_are c.args.table.now c.args.head c.args.descent.now c.page.result.now c.in_ok-rows.rows c.page.ensures c.in_ok-rows.ensures in
    let D = division_is c.args.table.now c.args.descent.now (At c.args.head) (option_copied c.args.parted) c.in_ok-rows.rows c.len.result c.requires.stands c.requires.parted R c.len.ensures g.O.OpClass.meaning c.in_ok-division.division c.in_ok-division.ensures in
    let N = nulls_recon c.args.descent.now.start c.args.descent.now.recon c.recon-recon.ensures.known in
    let P = parts_as c.as_slice.result.now (rows_of (leaves_of (chain_members (tuples_at c.args.table.now c.args.head.block) c.args.head.offset) ++ carried c.args.descent.now ∷ [])) c.in_ok-division.division c.in_ok-parts.parts (c.as_slice.ensures ∙ R) c.in_ok-parts.ensures in
    inner_fits g.O.OpClass.meaning g.O.OpClass.codes c.args.table.now c.args.descent.now c.args.head c.args.parent c.args.node c.requires.shape c.requires.stands c.requires.above c.requires.spot c.requires.of_key c.requires.long c.in_ok-division.division D c.in_ok-parts.parts P

pub returns-clause-ok : goal.returns-clause-ok
returns-clause-ok g c =
    let R = chain_rows_are c.args.table.now c.args.head c.args.descent.now c.page.result.now c.in_ok-rows.rows c.page.ensures c.in_ok-rows.ensures in
    let D = division_is c.args.table.now c.args.descent.now (At c.args.head) (option_copied c.args.parted) c.in_ok-rows.rows c.len.result c.requires.stands c.requires.parted R c.len.ensures g.O.OpClass.meaning c.in_ok-division.division c.in_ok-division.ensures in
    let N = nulls_recon c.args.descent.now.start c.args.descent.now.recon c.recon-recon.ensures.known in
    let P = parts_as c.as_slice.result.now (rows_of (leaves_of (chain_members (tuples_at c.args.table.now c.args.head.block) c.args.head.offset) ++ carried c.args.descent.now ∷ [])) c.in_ok-division.division c.in_ok-parts.parts (c.as_slice.ensures ∙ R) c.in_ok-parts.ensures in
    if_ok_then c.put_chain.result (λ done. IsDividedBelow c.args.table.now c.put_chain.new.table c.args.head c.args.parent c.args.node c.args.seat c.in_ok-parts.parts done)
    (λ done. IsChainWay g.O.OpClass.meaning c.args.table.now c.put_chain.new.table c.args.descent.now done.at done.way × IsTicked c.args.table.now c.put_chain.new.table × MakesBelow c.args.table.now c.put_chain.new.table c.args.descent.now.parent done.at)
    (λ done W. chain_done g.O.OpClass.meaning g.O.OpClass.codes c.args.table.now c.args.descent.now c.args.head c.args.parent c.args.node c.requires.shape c.requires.stands c.requires.above c.requires.spot c.requires.of_key c.requires.long c.requires.tick c.in_ok-division.division D N c.in_ok-parts.parts P c.args.seat c.put_chain.new.table done W) c.put_chain.ensures.ok

pub returns-clause-held : goal.returns-clause-held
returns-clause-held g c = on_ok_then c.put_chain.result (λ done. IsDividedBelow c.args.table.now c.put_chain.new.table c.args.head c.args.parent c.args.node c.args.seat c.in_ok-parts.parts done) (TouchesFree c.args.table.now c.put_chain.new.table c.args.descent.now c.args.seat)
    (λ done W. chain_held c.args.table.now c.put_chain.new.table c.args.descent.now c.args.head c.args.parent c.args.node c.args.seat c.in_ok-parts.parts done c.requires.stands c.requires.above c.put_chain.ensures.sound.latched W) c.put_chain.ensures.ok

pub returns-clause-cause : goal.returns-clause-cause
returns-clause-cause g c =
    let R = chain_rows_are c.args.table.now c.args.head c.args.descent.now c.page.result.now c.in_ok-rows.rows c.page.ensures c.in_ok-rows.ensures in
    let D = division_is c.args.table.now c.args.descent.now (At c.args.head) (option_copied c.args.parted) c.in_ok-rows.rows c.len.result c.requires.stands c.requires.parted R c.len.ensures g.O.OpClass.meaning c.in_ok-division.division c.in_ok-division.ensures in
    let N = nulls_recon c.args.descent.now.start c.args.descent.now.recon c.recon-recon.ensures.known in
    let P = parts_as c.as_slice.result.now (rows_of (leaves_of (chain_members (tuples_at c.args.table.now c.args.head.block) c.args.head.offset) ++ carried c.args.descent.now ∷ [])) c.in_ok-division.division c.in_ok-parts.parts (c.as_slice.ensures ∙ R) c.in_ok-parts.ensures in
    if_ok_then c.put_chain.result (λ done. IsDividedBelow c.args.table.now c.put_chain.new.table c.args.head c.args.parent c.args.node c.args.seat c.in_ok-parts.parts done)
    (λ done. IsCauseOf (chain_bytes g.O.OpClass.meaning c.args.table.now c.args.descent.now) done.way)
    (λ done W. chain_cause g.O.OpClass.meaning g.O.OpClass.codes c.args.table.now c.args.descent.now c.args.head c.args.parent c.args.node c.requires.shape c.requires.stands c.requires.above c.requires.spot c.requires.of_key c.requires.long c.requires.tick c.in_ok-division.division D N c.in_ok-parts.parts P c.args.seat c.put_chain.new.table done W) c.put_chain.ensures.ok

pub returns-clause-rise : goal.returns-clause-rise
returns-clause-rise g c =
    let R = chain_rows_are c.args.table.now c.args.head c.args.descent.now c.page.result.now c.in_ok-rows.rows c.page.ensures c.in_ok-rows.ensures in
    let D = division_is c.args.table.now c.args.descent.now (At c.args.head) (option_copied c.args.parted) c.in_ok-rows.rows c.len.result c.requires.stands c.requires.parted R c.len.ensures g.O.OpClass.meaning c.in_ok-division.division c.in_ok-division.ensures in
    let P = parts_as c.as_slice.result.now (rows_of (leaves_of (chain_members (tuples_at c.args.table.now c.args.head.block) c.args.head.offset) ++ carried c.args.descent.now ∷ [])) c.in_ok-division.division c.in_ok-parts.parts (c.as_slice.ensures ∙ R) c.in_ok-parts.ensures in
    if_ok_then c.put_chain.result (λ done. IsDividedBelow c.args.table.now c.put_chain.new.table c.args.head c.args.parent c.args.node c.args.seat c.in_ok-parts.parts done)
    (λ done. RisesOnly (chain_in_one g.O.OpClass.meaning c.args.table.now c.args.descent.now) done.way)
    (λ done W. chain_rise g.O.OpClass.meaning c.args.table.now c.args.descent.now c.args.head c.requires.stands c.in_ok-division.division D c.in_ok-parts.parts P W.plan done.way W.way) c.put_chain.ensures.ok

pub returns-clause-full : goal.returns-clause-full
returns-clause-full g c = λ h.
    let R = chain_rows_are c.args.table.now c.args.head c.args.descent.now c.page.result.now c.in_ok-rows.rows c.page.ensures c.in_ok-rows.ensures in
    let D = division_is c.args.table.now c.args.descent.now (At c.args.head) (option_copied c.args.parted) c.in_ok-rows.rows c.len.result c.requires.stands c.requires.parted R c.len.ensures g.O.OpClass.meaning c.in_ok-division.division c.in_ok-division.ensures in
    let P = parts_as c.as_slice.result.now (rows_of (leaves_of (chain_members (tuples_at c.args.table.now c.args.head.block) c.args.head.offset) ++ carried c.args.descent.now ∷ [])) c.in_ok-division.division c.in_ok-parts.parts (c.as_slice.ensures ∙ R) c.in_ok-parts.ensures in
    chain_full g.O.OpClass.meaning c.args.table.now c.args.descent.now c.args.head c.args.parent c.args.node c.args.seat c.requires.stands c.requires.above c.in_ok-division.division D c.in_ok-parts.parts P (c.put_chain.ensures.full h)

pub returns-clause-home : goal.returns-clause-home
returns-clause-home g c = if_ok_then c.put_chain.result (λ done. IsDividedBelow c.args.table.now c.put_chain.new.table c.args.head c.args.parent c.args.node c.args.seat c.in_ok-parts.parts done)
    (λ done. IsFreeHome c.args.table.now c.put_chain.new.table c.args.descent.now.parent done.at.block c.args.seat)
    (λ done W. chain_home c.args.table.now c.put_chain.new.table c.args.descent.now c.args.head c.args.parent c.args.node c.args.seat c.in_ok-parts.parts done c.requires.above W) c.put_chain.ensures.ok

pub returns-clause-table : goal.returns-clause-table
returns-clause-table g c =
    let R = chain_rows_are c.args.table.now c.args.head c.args.descent.now c.page.result.now c.in_ok-rows.rows c.page.ensures c.in_ok-rows.ensures in
    let D = division_is c.args.table.now c.args.descent.now (At c.args.head) (option_copied c.args.parted) c.in_ok-rows.rows c.len.result c.requires.stands c.requires.parted R c.len.ensures g.O.OpClass.meaning c.in_ok-division.division c.in_ok-division.ensures in
    let P = parts_as c.as_slice.result.now (rows_of (leaves_of (chain_members (tuples_at c.args.table.now c.args.head.block) c.args.head.offset) ++ carried c.args.descent.now ∷ [])) c.in_ok-division.division c.in_ok-parts.parts (c.as_slice.ensures ∙ R) c.in_ok-parts.ensures in
    if_ok_then c.put_chain.result (λ done. IsDividedBelow c.args.table.now c.put_chain.new.table c.args.head c.args.parent c.args.node c.args.seat c.in_ok-parts.parts done)
    (λ done. DividesBelow g.O.OpClass.meaning c.args.table.now c.put_chain.new.table c.args.descent.now c.args.descent.now.stand c.args.descent.now.parent c.args.seat done)
    (λ done W. chain_table g.O.OpClass.meaning c.args.table.now c.put_chain.new.table c.args.descent.now c.args.head c.args.parent c.args.node c.args.seat c.requires.stands c.requires.above c.in_ok-division.division D c.in_ok-parts.parts P done W) c.put_chain.ensures.ok

pub returns-clause-exact : goal.returns-clause-exact
returns-clause-exact g c =
    let R = chain_rows_are c.args.table.now c.args.head c.args.descent.now c.page.result.now c.in_ok-rows.rows c.page.ensures c.in_ok-rows.ensures in
    let D = division_is c.args.table.now c.args.descent.now (At c.args.head) (option_copied c.args.parted) c.in_ok-rows.rows c.len.result c.requires.stands c.requires.parted R c.len.ensures g.O.OpClass.meaning c.in_ok-division.division c.in_ok-division.ensures in
    let N = nulls_recon c.args.descent.now.start c.args.descent.now.recon c.recon-recon.ensures.known in
    let P = parts_as c.as_slice.result.now (rows_of (leaves_of (chain_members (tuples_at c.args.table.now c.args.head.block) c.args.head.offset) ++ carried c.args.descent.now ∷ [])) c.in_ok-division.division c.in_ok-parts.parts (c.as_slice.ensures ∙ R) c.in_ok-parts.ensures in
    on_ok_then c.put_chain.result (λ done. IsDividedBelow c.args.table.now c.put_chain.new.table c.args.head c.args.parent c.args.node c.args.seat c.in_ok-parts.parts done) (IsExact (sheets_of c.args.table.now) (sheets_of c.put_chain.new.table) c.put_chain.new.table.touched)
    (λ done W. chain_exact g.O.OpClass.meaning g.O.OpClass.codes c.args.table.now c.args.descent.now c.args.head c.args.parent c.args.node c.requires.shape c.requires.stands c.requires.above c.requires.spot c.requires.of_key c.requires.long c.requires.tick c.in_ok-division.division D N c.in_ok-parts.parts P c.args.seat c.put_chain.new.table done W) c.put_chain.ensures.ok
