use Rattle.std.proofs.Common.{◌≡◌, ◌<◌, ◌∙◌, ℕ, List, length, get_or, sym, ap, subst, arith}
use Rattle.std.specs.List.{AllByRecursion}
use Rattle.spg_build.specs.declared.lot.Group.{Group}
use Rattle.spg_build.specs.declared.run.Post.{Post}
use Rattle.spg_build.specs.declared.run.Run.{Run}
use Rattle.spg_build.specs.Lots.{IsLot}
use Rattle.spg_build.specs.Posts.{groups_at, IsPosted}
use Rattle.spg_build.specs.Runs.{posts_in, AreToPart}
use Rattle.spg_build.proofs.Rounds.{all_back}
use Rattle.spg_build.proofs.Runs.{if_more, runs_to_part, parted_joined}
use Rattle.spg_build.proofs.run.part_round.Goals as goal

pub part_runs-requires-clause-lots : goal.part_runs-requires-clause-lots
part_runs-requires-clause-lots g c = λ lives outlives i d h.
    let m = g.O.OpClass.meaning in
    let rs : List (Run g.row.O-Recon.Denot) = c.in_ok-runs.runs.items in
    let L : (i : ℕ) (d : Run g.row.O-Recon.Denot) → i < length rs → AreToPart m (get_or rs i d).posts.items =
    runs_to_part m rs (subst (λ (gs : List (Group g.row.O-Recon.Denot)). AllByRecursion (λ (g : Group _). IsLot m g.lot) gs) (sym c.in_ok-runs.ensures.groups) c.requires.lots) in
    (subst (λ (us : List (Run g.row.O-Recon.Denot)). (i : ℕ) (d : Run g.row.O-Recon.Denot) → i < length us → AreToPart m (get_or us i d).posts.items) (sym c.deref_mut.ensures.value) L) i d h

pub returns-clause-groups : goal.returns-clause-groups
returns-clause-groups g c =
    let m = g.O.OpClass.meaning in
    let rs : List (Run g.row.O-Recon.Denot) = c.deref_mut.result.now in
    let ss : List (Run g.row.O-Recon.Denot) = c.part_runs.new.runs in
    let k : length ss ≡ length rs = c.part_runs.auto.runs in
    let v : rs ≡ c.in_ok-runs.runs.items = c.deref_mut.ensures.value in
    let l : length ss ≡ c.in_ok-runs.runs.len = let a = ap length v in let b = c.in_ok-runs.runs.ok.0 in omega arith in
    let (e, p) = parted_joined m c.args.round rs ss _ (all_back c.in_ok-runs.runs.len ss c.in_ok-runs.runs.items l) k c.part_runs.ensures c.requires.lots (ap (λ (us : List (Run g.row.O-Recon.Denot)). groups_at (posts_in us)) v ∙ c.in_ok-runs.ensures.groups) in
    if_more _ _ (λ posts f. ap groups_at f ∙ e) c.join_runs.result c.join_runs.ensures

pub returns-clause-posted : goal.returns-clause-posted
returns-clause-posted g c =
    let m = g.O.OpClass.meaning in
    let rs : List (Run g.row.O-Recon.Denot) = c.deref_mut.result.now in
    let ss : List (Run g.row.O-Recon.Denot) = c.part_runs.new.runs in
    let k : length ss ≡ length rs = c.part_runs.auto.runs in
    let v : rs ≡ c.in_ok-runs.runs.items = c.deref_mut.ensures.value in
    let l : length ss ≡ c.in_ok-runs.runs.len = let a = ap length v in let b = c.in_ok-runs.runs.ok.0 in omega arith in
    let (e, p) = parted_joined m c.args.round rs ss _ (all_back c.in_ok-runs.runs.len ss c.in_ok-runs.runs.items l) k c.part_runs.ensures c.requires.lots (ap (λ (us : List (Run g.row.O-Recon.Denot)). groups_at (posts_in us)) v ∙ c.in_ok-runs.ensures.groups) in
    if_more _ _ (λ posts f. subst (λ (ps : List (Post g.row.O-Recon.Denot)). AllByRecursion (IsPosted m) ps) (sym f) p) c.join_runs.result c.join_runs.ensures
