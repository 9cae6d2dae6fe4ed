use Rattle.std.proofs.Common.{◌≡◌, ◌<◌, ◌+◌, ℕ, List, [], ◌++◌, length, get_or, map, take, drop, sym, ap, ◌∙◌, subst, arith}
use Rattle.std.specs.Prelude.{All, false}
use Rattle.std.proofs.lemmas.List.Elements.{All-get_or}
use Rattle.spg_script.specs.declared.command.Command.{Command}
use Rattle.spg_core.specs.Seen.{Seen}
use Rattle.spg_commands.specs.Acted.{CanBeDone}
use Rattle.spg_perform.specs.Lanes.{LaneDone}
use Rattle.spg_perform.specs.Posts.{IsVacant, RanBeside}
use Rattle.spg_perform.proofs.Besides.{back_in, start_whole, lane_done, by_lane}
use Rattle.spg_perform.proofs.together.beside.Goals as goal

pub share-requires-clause-ready : goal.share-requires-clause-ready
share-requires-clause-ready g c = λ lives outlives i d below.
    let speech = g.O.Spoken.speech in
    let lanes = c.args.lanes.now in
    let posts = c.deref_mut.result.now in
    let count : length posts ≡ length lanes = ap length c.deref_mut.ensures.value ∙ sym c.in-Ok.posts.ok.0 ∙ c.in-Ok.ensures.count in
    let inside : i < length lanes = omega (arith, below, count) in
    let post = get_or posts i d in
    let vacant : IsVacant (get_or lanes i []) post.task = subst (λ (xs : List _). IsVacant (get_or lanes i []) (get_or xs i d).task) (sym c.deref_mut.ensures.value) (c.in-Ok.ensures.vacant i d [] inside) in
    let can = All-get_or (λ (lane : List Command). All (CanBeDone speech false) lane) lanes i [] inside c.requires.can in
    record {
      can = subst (λ (cs : List Command). All (CanBeDone speech false) cs) (sym vacant.lane) can;
      vacant = subst (λ (cs : List Command). IsVacant cs post.task) (sym vacant.lane) vacant;
      whole = start_whole c.of.result.journal c.of.result.origin (length posts) i;
    }

pub returns-in-Ok-share-clause-ok : goal.returns-in-Ok-share-clause-ok
returns-in-Ok-share-clause-ok g c =
    let m = g.O.OpClass.meaning in
    let speech = g.O.Spoken.speech in
    let lanes = c.args.lanes.now in
    let posts = c.deref_mut.result.now in
    let after = c.share.new.lanes in
    let old = c.of.result in
    let new = c.in-Ok-share.index in
    let shared = c.in-Ok-share.ensures in
    let count : length posts ≡ length lanes = ap length c.deref_mut.ensures.value ∙ sym c.in-Ok.posts.ok.0 ∙ c.in-Ok.ensures.count in
    let ran : RanBeside m speech old new lanes (map (λ p. p.task.records.items) after) = record {
      grew = shared.ok.journal;
      done = by_lane m speech (λ p. p.task.records.items) old.origin 0 old.journal new.journal lanes after (c.share.ensures.count ∙ count)
          (λ i d below.
          let inside : i < length posts = omega (arith, below, count) in
          let vacant : IsVacant (get_or lanes i []) (get_or posts i d).task = subst (λ (xs : List _). IsVacant (get_or lanes i []) (get_or xs i d).task) (sym c.deref_mut.ensures.value) (c.in-Ok.ensures.vacant i d [] below) in
          let one = shared.ran i d inside in
          let at : i ≡ 0 + i = omega arith in
          subst (λ (s : ℕ). LaneDone m speech old.origin s old.journal new.journal (get_or lanes i []) (get_or after i d).task.records.items) at
          (subst (λ (cs : List Command). LaneDone m speech old.origin i old.journal new.journal cs (get_or after i d).task.records.items) vacant.lane
          (lane_done m speech old new (length posts) i (get_or posts i d).task.commands.now (get_or after i d).task.records.items one.end one.did one.seen one.mine)))
          (λ other above. shared.others other (omega (arith, above, count)));
      made = shared.ok.origin;
      closed = shared.ok.closed;
    } in
    let groups = back_in c.in-Ok.posts.len after c.in-Ok.posts.items (c.share.ensures.count ∙ ap length c.deref_mut.ensures.value ∙ sym c.in-Ok.posts.ok.0) in
    let back = take c.in-Ok.posts.len (after ++ drop (length after) c.in-Ok.posts.items) in
    let told : RanBeside m speech old new lanes (map (λ p. p.task.records.items) back) = subst (λ xs. RanBeside m speech old new lanes (map (λ p. p.task.records.items) xs)) (sym groups) ran in
    subst (λ (s : Seen g.row.O.Denot g.row.O-Key.Denot g.row.O-Recon.Denot g.row.O-Cond.Denot). RanBeside m speech s c.into_state.result lanes (map (λ p. p.task.records.items) back)) c.of.ensures
    (subst (λ (s : Seen g.row.O.Denot g.row.O-Key.Denot g.row.O-Recon.Denot g.row.O-Cond.Denot). RanBeside m speech old s lanes (map (λ p. p.task.records.items) back)) (sym c.into_state.ensures.value) told)
