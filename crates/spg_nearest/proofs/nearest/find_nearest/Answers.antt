use Rattle.std.proofs.Common.{◌≤◌, length, Result, Ok, Err, OnErr, refl, subst, arith}
use Rattle.spg_tree.specs.Table.{Table, IsSound}
use Rattle.spg_whole.proofs.Alone.{free_by}
use Rattle.spg_nearest.proofs.Lone.{refused, found, not_latched}
use Rattle.spg_nearest.proofs.nearest.find_nearest.Goals as goal

few_pages : (t : Table) → IsSound t → length t.pages ≤ 131072
few_pages t is = let a = is.within in let b = is.limit_to in omega (arith, a, b)

on_err : {A B : Type 0} (P : Type 0) (r : Result A B) → P → OnErr r P
on_err P (Ok x) p = tt
on_err P (Err e) p = p

pub near_among-requires-clause-free : goal.near_among-requires-clause-free
near_among-requires-clause-free g c = free_by c.args.state.now c.args.seat c.requires.closed c.open_of.ensures.journal

pub returns-in_err-answer-clause-err : goal.returns-in_err-answer-clause-err
returns-in_err-answer-clause-err g c = on_err _ _ (refused c.args.state.now c.near_among.new.state c.args.seat c.requires.closed (c.in_err-answer.ensures.refused_alone refl))

pub unreachable-requires : goal.unreachable-requires
unreachable-requires g c =
    not_latched g.O.OpClass.meaning g.O.NearClass.box_below c.args.state.now c.near_among.new.state c.args.seat c.args.target c.args.limit c.requires.closed c.in_ok-answer.answer _ c.in-Latched.by c.in-Latched.is
    (c.in_ok-answer.ensures.alone refl) c.in_ok-answer.ensures.ok c.pages-in-Latched.ensures.latches c.open_of-in-Latched.ensures.journal

pub returns-clause-ok : goal.returns-clause-ok
returns-clause-ok g c =
    let few : length c.args.state.now.table.pages ≤ 131072 = few_pages c.args.state.now.table (subst IsSound c.pages.ensures.value c.page_count.ensures.sound) in
    found g.O.OpClass.meaning g.O.NearClass.box_below c.args.state.now c.near_among.new.state c.args.seat c.args.target c.args.limit c.requires.closed g.O.OpClass.keeps g.O.OpClass.codes c.pages.ensures.represents.shape few c.in_ok-answer.answer c.in-Near.rows c.in-Near.met _ c.in-Near.is
    (c.in_ok-answer.ensures.alone refl) c.in_ok-answer.ensures.ok (c.in_ok-answer.ensures.walk refl)
