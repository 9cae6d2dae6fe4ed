use Rattle.std.proofs.Common.{◌≡◌, ◌<◌, ◌⊎◌, ⊎_elim, sym, ap, ◌∙◌, subst, arith}
use Rattle.std.proofs.lemmas.Option.{slice_get_within}
use Rattle.spg_base.specs.declared.point.Point.{Point}
use Rattle.spg_tree.specs.Table.{Table, sheets_of}
use Rattle.spg_scan.specs.declared.walk.ReadOut.{ReadOut}
use Rattle.spg_core.specs.Stage.{Stage, IsReading}
use Rattle.spg_core.specs.Seen.{Seen}
use Rattle.spg_near.specs.Nearing.{Nearing}
use Rattle.spg_near.specs.Held.{IsHeldAt}
use Rattle.spg_near.specs.Left.{near_left}
use Rattle.spg_near.specs.Reads.{ReadsNear, IsNearOut}
use Rattle.spg_near.specs.NearRest.{IsNearAtRest}
use Rattle.spg_among.specs.Among.{IsAmong}
use Rattle.spg_among.proofs.Amongs.{goes, is_held, reads, rests, fewer}
use Rattle.spg_among.proofs.seek.read_on.Goals as goal

pub go-requires : goal.go-requires
go-requires g c =
    let (opened, before) = c.requires.among in
    let A = c.loop-item.invariant.0 opened before in
    record { reading = subst (λ (s : Stage _ Point _ _). IsReading s) (sym A.stage) tt }

pub read_item-requires-clause-item : goal.read_item-requires-clause-item
read_item-requires-clause-item g c =
    let (it, near, few) = c.in-Some.ensures.some in
    slice_get_within c.loop-item.near.items c.in-Some.item it near.at

pub read_item-requires-clause-held : goal.read_item-requires-clause-held
read_item-requires-clause-held g c = λ it at.
    let m = g.O.OpClass.meaning in
    let (opened, before) = c.requires.among in
    let A = c.loop-item.invariant.0 opened before in
    let B = goes m c.args.seat opened c.loop-item.state c.go.new.state c.loop-item.near c.journal.ensures.right.legal A (c.go.ensures.goes A.guard A.stage) in
    subst (λ (t : Table). IsHeldAt m (sheets_of t) c.loop-item.near.stamp it) (sym c.pages.ensures.value) (is_held m c.args.seat opened c.go.new.state c.loop-item.near B c.in-Some.item it at)

pub returns-in_err-read_item-in-Some-clause-among : goal.returns-in_err-read_item-in-Some-clause-among
returns-in_err-read_item-in-Some-clause-among g c = λ opened before.
    let m = g.O.OpClass.meaning in
    let A = c.loop-item.invariant.0 opened before in
    let B = goes m c.args.seat opened c.loop-item.state c.go.new.state c.loop-item.near c.journal.ensures.right.legal A (c.go.ensures.goes A.guard A.stage) in
    subst (IsAmong m c.args.seat opened c.go.new.state) (sym c.in_err-read_item-in-Some.ensures.err) B

pub returns-in-Latched-clause-among : goal.returns-in-Latched-clause-among
returns-in-Latched-clause-among g c = λ opened before.
    let m = g.O.OpClass.meaning in
    let A = c.loop-item.invariant.0 opened before in
    let B = goes m c.args.seat opened c.loop-item.state c.go.new.state c.loop-item.near c.journal.ensures.right.legal A (c.go.ensures.goes A.guard A.stage) in
    let out = subst (λ (o : ReadOut). IsNearOut m g.O.NearClass.box_below c.pages.result.now c.rows.result.now c.loop-item.near c.read_item.new.self c.in-Some.item c.args.seat o) c.in-Latched.is c.in_ok-read_item-in-Some.ensures.ok in
    let (here, held, other, same) = out in
    subst (IsAmong m c.args.seat opened c.go.new.state) (sym same) B

pub returns-in_err-read_item-in-Some-clause-rest : goal.returns-in_err-read_item-in-Some-clause-rest
returns-in_err-read_item-in-Some-clause-rest g c = λ none quiet.
    let m = g.O.OpClass.meaning in
    let (among, target, limit, left, at, rest) = c.loop-item.invariant in
    let same : c.go.new.state ≡ c.loop-item.state = ⊎_elim (λ s. s) (λ l. absurd (omega arith)) c.go.ensures.falls in
    let resting = subst (λ (s : Seen _ Point _ _). IsNearAtRest m g.O.NearClass.box_below (sheets_of s.table) c.loop-item.near) (sym same) (rest none quiet) in
    subst (IsNearAtRest m g.O.NearClass.box_below (sheets_of c.go.new.state.table)) (sym c.in_err-read_item-in-Some.ensures.err) resting

pub returns-in-Latched-clause-rest : goal.returns-in-Latched-clause-rest
returns-in-Latched-clause-rest g c = λ none quiet.
    let m = g.O.OpClass.meaning in
    let (among, target, limit, left, at, rest) = c.loop-item.invariant in
    let same : c.go.new.state ≡ c.loop-item.state = ⊎_elim (λ s. s) (λ l. absurd (omega arith)) c.go.ensures.falls in
    let resting = subst (λ (s : Seen _ Point _ _). IsNearAtRest m g.O.NearClass.box_below (sheets_of s.table) c.loop-item.near) (sym same) (rest none quiet) in
    let out = subst (λ (o : ReadOut). IsNearOut m g.O.NearClass.box_below c.pages.result.now c.rows.result.now c.loop-item.near c.read_item.new.self c.in-Some.item c.args.seat o) c.in-Latched.is c.in_ok-read_item-in-Some.ensures.ok in
    let (here, held, other, unchanged) = out in
    subst (IsNearAtRest m g.O.NearClass.box_below (sheets_of c.go.new.state.table)) (sym unchanged) resting

pub returns-then-left-clause-among : goal.returns-then-left-clause-among
returns-then-left-clause-among g c = λ opened before.
    let m = g.O.OpClass.meaning in
    let out = subst (λ (o : ReadOut). IsNearOut m g.O.NearClass.box_below c.pages.result.now c.rows.result.now c.loop-item.near c.read_item.new.self c.in-Some.item c.args.seat o) c.in-Read.is c.in_ok-read_item-in-Some.ensures.ok in
    let R = subst (λ (t : Table). ReadsNear m g.O.NearClass.box_below (sheets_of t) c.rows.result.now c.loop-item.near c.read_item.new.self c.in-Some.item) c.pages.ensures.value out.1 in
    let A = c.loop-item.invariant.0 opened before in
    let B = goes m c.args.seat opened c.loop-item.state c.go.new.state c.loop-item.near c.journal.ensures.right.legal A (c.go.ensures.goes A.guard A.stage) in
    reads m c.args.seat g.O.NearClass.box_below g.O.OpClass.keeps g.O.OpClass.codes g.met.O.NearClass.cuts g.met.O.NearClass.points opened c.go.new.state c.rows.result.now c.loop-item.near c.read_item.new.self c.in-Some.item
    c.journal.ensures.right.legal c.pages.ensures.represents c.rows.ensures.states R B

pub loop-item-smaller : goal.loop-item-smaller
loop-item-smaller g c =
    let m = g.O.OpClass.meaning in
    let out = subst (λ (o : ReadOut). IsNearOut m g.O.NearClass.box_below c.pages.result.now c.rows.result.now c.loop-item.near c.read_item.new.self c.in-Some.item c.args.seat o) c.in-Read.is c.in_ok-read_item-in-Some.ensures.ok in
    let R = subst (λ (t : Table). ReadsNear m g.O.NearClass.box_below (sheets_of t) c.rows.result.now c.loop-item.near c.read_item.new.self c.in-Some.item) c.pages.ensures.value out.1 in
    let (among, target, limit, left, at, rest) = c.loop-item.invariant in
    let now = c.left.ensures in
    let first = c.left-left.ensures in
    let still = c.if-left.false in
    let same : c.go.new.state ≡ c.loop-item.state = ⊎_elim (λ s. s) (λ l. absurd (omega arith)) c.go.ensures.falls in
    let (opened, before) = c.requires.among in
    let A = among opened before in
    let B = goes m c.args.seat opened c.loop-item.state c.go.new.state c.loop-item.near c.journal.ensures.right.legal A (c.go.ensures.goes A.guard A.stage) in
    let less = fewer m c.args.seat g.O.NearClass.box_below opened c.go.new.state c.rows.result.now c.loop-item.near c.read_item.new.self c.in-Some.item c.pages.ensures.represents R B in
    subst (λ (s : Seen _ Point _ _). near_left (sheets_of s.table) c.read_item.new.self < near_left (sheets_of s.table) c.loop-item.near) (same ∙ at) less

pub loop-item-preserved : goal.loop-item-preserved
loop-item-preserved g c =
    let m = g.O.OpClass.meaning in
    let out = subst (λ (o : ReadOut). IsNearOut m g.O.NearClass.box_below c.pages.result.now c.rows.result.now c.loop-item.near c.read_item.new.self c.in-Some.item c.args.seat o) c.in-Read.is c.in_ok-read_item-in-Some.ensures.ok in
    let R = subst (λ (t : Table). ReadsNear m g.O.NearClass.box_below (sheets_of t) c.rows.result.now c.loop-item.near c.read_item.new.self c.in-Some.item) c.pages.ensures.value out.1 in
    let (among, target, limit, left, at, rest) = c.loop-item.invariant in
    let now = c.left.ensures in
    let first = c.left-left.ensures in
    let still = c.if-left.false in
    let never = c.go.ensures.never_more in
    let same : c.go.new.state ≡ c.loop-item.state = ⊎_elim (λ s. s) (λ l. absurd (omega arith)) c.go.ensures.falls in (
      λ opened before.
          let A = among opened before in
          let B = goes m c.args.seat opened c.loop-item.state c.go.new.state c.loop-item.near c.journal.ensures.right.legal A (c.go.ensures.goes A.guard A.stage) in
          reads m c.args.seat g.O.NearClass.box_below g.O.OpClass.keeps g.O.OpClass.codes g.met.O.NearClass.cuts g.met.O.NearClass.points opened c.go.new.state c.rows.result.now c.loop-item.near c.read_item.new.self c.in-Some.item
          c.journal.ensures.right.legal c.pages.ensures.represents c.rows.ensures.states R B,
      ap (λ (n : Nearing _). n.target) R.after ∙ target,
      ap (λ (n : Nearing _). n.limit) R.after ∙ limit,
      omega arith,
      same ∙ at,
      λ none quiet.
          let resting = subst (λ (s : Seen _ Point _ _). IsNearAtRest m g.O.NearClass.box_below (sheets_of s.table) c.loop-item.near) (sym same) (rest none quiet) in
          let (opened, before) = c.requires.among in
          let A = among opened before in
          let B = goes m c.args.seat opened c.loop-item.state c.go.new.state c.loop-item.near c.journal.ensures.right.legal A (c.go.ensures.goes A.guard A.stage) in
          rests m c.args.seat g.O.NearClass.box_below g.O.OpClass.codes g.met.O.NearClass.cuts g.met.O.NearClass.narrows g.met.O.NearClass.points opened c.go.new.state c.rows.result.now c.loop-item.near c.read_item.new.self c.in-Some.item
          c.pages.ensures.represents c.in-Some.ensures.some R B resting,
    )
