use Rattle.std.proofs.Common.{◌≡◌, ◌<◌, ◌^◌, ⊎_elim, inr, ℕ, length, sym, ap, ◌∙◌, subst, arith}
use Rattle.std.specs.Result.{OnErr}
use Rattle.spg_base.specs.declared.point.Point.{Point}
use Rattle.std.specs.declared.result.Result.{Result}
use Rattle.std.specs.declared.result.Result.TheVariants.{Ok, Err}
use Rattle.spg_rows.specs.declared.event.Why.TheVariants.{Given}
use Rattle.spg_tree.specs.Table.{Table, sheets_of}
use Rattle.spg_scan.specs.Scanning.{counted}
use Rattle.spg_near.specs.NearRest.{IsNearAtRest, NearWalk, IsReach}
use Rattle.spg_near.proofs.Resting.{near_rests, near_meets}
use Rattle.spg_core.specs.Stage.{Stage, free, reading}
use Rattle.spg_core.specs.Sections.{GivesUp}
use Rattle.spg_core.specs.Seen.{Seen, stage_at, past_of}
use Rattle.spg_near.specs.Nearing.{Nearing}
use Rattle.spg_among.specs.declared.seek.Stop.{Stop}
use Rattle.spg_among.specs.Among.{IsSoughtTo}
use Rattle.spg_among.proofs.Amongs.{from_open, ended, right, alone, alone_or}
use Rattle.spg_among.proofs.among.near_among.Goals as goal

fits_as : (n k : ℕ) → k ≡ n → k < 2 ^ 64 → counted n ≡ n
fits_as n k e l = omega arith

on_err : {A B : Type 0} (P : Type 0) (r : Result A B) → P → OnErr r P
on_err P (Ok x) p = tt
on_err P (Err e) p = p

-- a stage that reads is not free
not_free : {O Key Recon Cond : Type 0} (s : Stage O Key Recon Cond) (q : _) → s ≡ reading q → s ≡ free → ⊥
not_free s q e f = cc (sym e ∙ f)

pub seek-sought-requires : goal.seek-sought-requires
seek-sought-requires g c =
    let m = g.O.OpClass.meaning in
    let old = c.args.state.now in
    let began = from_open m c.args.seat g.O.OpClass.codes g.met.O.NearClass.points old c.open_scan.new.self c.args.target c.args.limit c.in_ok-near.near c.len-from.result c.at.result c.journal.ensures.right.legal c.pages.ensures.represents c.in_ok-open_scan.ensures.ok c.in_ok-near.ensures
    (c.len-from.ensures ∙ ap length c.journal.ensures.events) (c.at.ensures ∙ c.clock.ensures.value ∙ ap (λ (t : Table). t.clock) c.pages.ensures.value) in
    record { among = (old, began) }

pub abandon-requires-clause-open : goal.abandon-requires-clause-open
abandon-requires-clause-open g c =
    let m = g.O.OpClass.meaning in
    let old = c.args.state.now in
    let began = from_open m c.args.seat g.O.OpClass.codes g.met.O.NearClass.points old c.open_scan.new.self c.args.target c.args.limit c.in_ok-near.near c.len-from.result c.at.result c.journal.ensures.right.legal c.pages.ensures.represents c.in_ok-open_scan.ensures.ok c.in_ok-near.ensures
    (c.len-from.ensures ∙ ap length c.journal.ensures.events) (c.at.ensures ∙ c.clock.ensures.value ∙ ap (λ (t : Table). t.clock) c.pages.ensures.value) in
    let now = c.seek-sought.new.state in
    let n = c.seek-sought.new.near in
    let A = c.seek-sought.ensures.among old began in
    not_free (stage_at now c.args.seat) A.guard A.stage

pub returns-in_err-block-clause-err : goal.returns-in_err-block-clause-err
returns-in_err-block-clause-err g c =
    let m = g.O.OpClass.meaning in
    let old = c.args.state.now in
    let began = from_open m c.args.seat g.O.OpClass.codes g.met.O.NearClass.points old c.open_scan.new.self c.args.target c.args.limit c.in_ok-near.near c.len-from.result c.at.result c.journal.ensures.right.legal c.pages.ensures.represents c.in_ok-open_scan.ensures.ok c.in_ok-near.ensures
    (c.len-from.ensures ∙ ap length c.journal.ensures.events) (c.at.ensures ∙ c.clock.ensures.value ∙ ap (λ (t : Table). t.clock) c.pages.ensures.value) in
    let now = c.seek-sought.new.state in
    let n = c.seek-sought.new.near in
    let A = c.seek-sought.ensures.among old began in
    on_err _ _ (inr (past_of now, ended m c.args.seat old now c.abandon.new.self n A c.abandon.ensures.up))

pub returns-in-Latched-clause-ok : goal.returns-in-Latched-clause-ok
returns-in-Latched-clause-ok g c =
    let m = g.O.OpClass.meaning in
    let old = c.args.state.now in
    let began = from_open m c.args.seat g.O.OpClass.codes g.met.O.NearClass.points old c.open_scan.new.self c.args.target c.args.limit c.in_ok-near.near c.len-from.result c.at.result c.journal.ensures.right.legal c.pages.ensures.represents c.in_ok-open_scan.ensures.ok c.in_ok-near.ensures
    (c.len-from.ensures ∙ ap length c.journal.ensures.events) (c.at.ensures ∙ c.clock.ensures.value ∙ ap (λ (t : Table). t.clock) c.pages.ensures.value) in
    let now = c.seek-sought.new.state in
    let n = c.seek-sought.new.near in
    let A = c.seek-sought.ensures.among old began in
    let (held, other) = subst (λ (s : Stop). IsSoughtTo now n c.args.seat s) c.in-Latched.is c.in_ok-block.ensures.stop in
    let E = ended m c.args.seat old now c.abandon.new.self n A c.abandon.ensures.up in
    ((past_of now, E), (c.abandon.ensures.up.others c.in-Latched.by c.in-Latched.block other).1 held, other)

pub returns-in-Latched-clause-alone : goal.returns-in-Latched-clause-alone
returns-in-Latched-clause-alone g c = λ none.
    let m = g.O.OpClass.meaning in
    ⊎_elim
    (λ same. alone m c.args.seat c.args.state.now c.open_scan.new.self c.abandon.new.self c.in_ok-open_scan.ensures.ok (subst (λ (s : Seen _ Point _ _). GivesUp s c.abandon.new.self c.args.seat Given) same c.abandon.ensures.up))
    (λ l. absurd (omega arith))
    c.seek-sought.ensures.alone

pub returns-in-Latched-clause-walk : goal.returns-in-Latched-clause-walk
returns-in-Latched-clause-walk g c = λ none. tt

pub returns-in_err-rows-in-Done-clause-err : goal.returns-in_err-rows-in-Done-clause-err
returns-in_err-rows-in-Done-clause-err g c =
    let m = g.O.OpClass.meaning in
    let old = c.args.state.now in
    let began = from_open m c.args.seat g.O.OpClass.codes g.met.O.NearClass.points old c.open_scan.new.self c.args.target c.args.limit c.in_ok-near.near c.len-from.result c.at.result c.journal.ensures.right.legal c.pages.ensures.represents c.in_ok-open_scan.ensures.ok c.in_ok-near.ensures
    (c.len-from.ensures ∙ ap length c.journal.ensures.events) (c.at.ensures ∙ c.clock.ensures.value ∙ ap (λ (t : Table). t.clock) c.pages.ensures.value) in
    let now = c.seek-sought.new.state in
    let n = c.seek-sought.new.near in
    let A = c.seek-sought.ensures.among old began in
    on_err _ _ (inr (past_of now, ended m c.args.seat old now c.abandon.new.self n A c.abandon.ensures.up))

pub returns-clause-ok : goal.returns-clause-ok
returns-clause-ok g c =
    let m = g.O.OpClass.meaning in
    let old = c.args.state.now in
    let began = from_open m c.args.seat g.O.OpClass.codes g.met.O.NearClass.points old c.open_scan.new.self c.args.target c.args.limit c.in_ok-near.near c.len-from.result c.at.result c.journal.ensures.right.legal c.pages.ensures.represents c.in_ok-open_scan.ensures.ok c.in_ok-near.ensures
    (c.len-from.ensures ∙ ap length c.journal.ensures.events) (c.at.ensures ∙ c.clock.ensures.value ∙ ap (λ (t : Table). t.clock) c.pages.ensures.value) in
    let now = c.seek-sought.new.state in
    let n = c.seek-sought.new.near in
    let A = c.seek-sought.ensures.among old began in
    let E = ended m c.args.seat old now c.abandon.new.self n A c.abandon.ensures.up in
    let done = subst (λ (s : Stop). IsSoughtTo now n c.args.seat s) c.in-Done.is c.in_ok-block.ensures.stop in
    let target : n.target ≡ c.args.target = c.seek-sought.ensures.target ∙ ap (λ (z : Nearing _). z.target) c.in_ok-near.ensures in
    let limit : n.limit ≡ c.args.limit = c.seek-sought.ensures.limit ∙ ap (λ (z : Nearing _). z.limit) c.in_ok-near.ensures in (
      (past_of now, E, right m c.args.seat old now c.abandon.new.self c.args.target c.args.limit n c.in_ok-rows-in-Done.rows c.journal-in-Done.ensures.right.legal c.abandon.ensures.up A target limit c.in_ok-rows-in-Done.ensures done),
      c.len-from.ensures ∙ ap length c.journal.ensures.events,
      c.len-to.ensures ∙ ap length c.journal-in-Done.ensures.events,
    )

pub returns-clause-alone : goal.returns-clause-alone
returns-clause-alone g c = λ none.
    let m = g.O.OpClass.meaning in
    ⊎_elim
    (λ same. alone m c.args.seat c.args.state.now c.open_scan.new.self c.abandon.new.self c.in_ok-open_scan.ensures.ok (subst (λ (s : Seen _ Point _ _). GivesUp s c.abandon.new.self c.args.seat Given) same c.abandon.ensures.up))
    (λ l. absurd (omega arith))
    c.seek-sought.ensures.alone

pub returns-in_err-block-clause-refused_alone : goal.returns-in_err-block-clause-refused_alone
returns-in_err-block-clause-refused_alone g c = on_err _ _ (alone_or g.O.OpClass.meaning c.args.seat c.args.state.now c.open_scan.new.self c.seek-sought.new.state c.abandon.new.self _ _ c.in_ok-open_scan.ensures.ok c.seek-sought.ensures.alone c.abandon.ensures.up)

pub returns-in_err-rows-in-Done-clause-refused_alone : goal.returns-in_err-rows-in-Done-clause-refused_alone
returns-in_err-rows-in-Done-clause-refused_alone g c = on_err _ _ (alone_or g.O.OpClass.meaning c.args.seat c.args.state.now c.open_scan.new.self c.seek-sought.new.state c.abandon.new.self _ _ c.in_ok-open_scan.ensures.ok c.seek-sought.ensures.alone c.abandon.ensures.up)

pub returns-clause-walk : goal.returns-clause-walk
returns-clause-walk g c = λ none last r.
    let m = g.O.OpClass.meaning in
    let box = g.O.NearClass.box_below in
    let old = c.args.state.now in
    let now = c.seek-sought.new.state in
    let n = c.seek-sought.new.near in
    let same : now ≡ c.open_scan.new.self = ⊎_elim (λ s. s) (λ l. absurd (omega arith)) c.seek-sought.ensures.alone in
    let pages0 = ap (λ (s : Seen _ Point _ _). sheets_of s.table) c.in_ok-open_scan.ensures.ok.0 in
    let began : IsNearAtRest m box (sheets_of c.open_scan.new.self.table) c.in_ok-near.near =
    subst (λ S. IsNearAtRest m box S c.in_ok-near.near) (sym pages0) (subst (IsNearAtRest m box (sheets_of old.table)) (sym c.in_ok-near.ensures)
    (near_rests m box (sheets_of old.table) c.args.target c.args.limit c.len-from.result c.at.result g.O.OpClass.codes g.met.O.NearClass.points c.pages.ensures.represents.shape)) in
    let ended : IsNearAtRest m box (sheets_of now.table) n = c.seek-sought.ensures.rest none began in
    let pages : sheets_of now.table ≡ sheets_of old.table = ap (λ (s : Seen _ Point _ _). sheets_of s.table) same ∙ pages0 in
    let done = subst (λ (s : Stop). IsSoughtTo now n c.args.seat s) c.in-Done.is c.in_ok-block.ensures.stop in
    let target : n.target ≡ c.args.target = c.seek-sought.ensures.target ∙ ap (λ (z : Nearing _). z.target) c.in_ok-near.ensures in
    let limit : n.limit ≡ c.args.limit = c.seek-sought.ensures.limit ∙ ap (λ (z : Nearing _). z.limit) c.in_ok-near.ensures in
    let (w, walk, is) = near_meets m box (sheets_of now.table) n c.in_ok-rows-in-Done.rows last ended done c.in_ok-rows-in-Done.ensures (subst (λ k. IsReach k c.in_ok-rows-in-Done.rows last) (sym limit) r) in
    let fits : counted n.met ≡ n.met = fits_as n.met c.met.result c.met.ensures c.met.type_inv in
    (w, subst (λ S. NearWalk m box S c.args.target last w) pages (subst (λ p. NearWalk m box (sheets_of now.table) p last w) target walk), is ∙ fits ∙ sym c.met.ensures)
