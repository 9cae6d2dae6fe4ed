-- Runs of posts, one for each worker.
use Rattle.std.specs.Prelude.{◌≡◌, ℕ, ◌+◌, ◌<◌, List, [], ◌∷◌, ◌++◌, length, get_or}
use Rattle.spg_opclass.specs.Meaning.{Meaning}
use Rattle.spg_build.specs.declared.lot.Group.{Group}
use Rattle.spg_build.specs.declared.run.Post.{Post}
use Rattle.spg_build.specs.declared.run.Run.{Run}
use Rattle.spg_build.specs.Lots.{IsLot}
use Rattle.spg_build.specs.Posts.{IsParted}

-- the posts of runs, one run behind another
abbrev pub posts_in : {R : Type 0} → List (Run R) → List (Post R)
posts_in [] = []
posts_in (r ∷ rs) = r.posts.items ++ posts_in rs

-- how many values groups have
abbrev pub values_in : {R : Type 0} → List (Group R) → ℕ
values_in [] = 0
values_in (g ∷ gs) = length g.lot.rows + values_in gs

-- each has a lot that can be divided
abbrev pub AreToPart : {Key Recon Cond : Type 0} → Meaning Key Recon Cond → List (Post Recon) → Type 0
AreToPart {Key} {Recon} {Cond} m ps = (i : ℕ) (d : Post Recon) → i < length ps → IsLot m (get_or ps i d).group.lot

-- each group stays, and a piece is made of it
pub record AreParted {Key Recon Cond : Type 0} (m : Meaning Key Recon Cond) (ps qs : List (Post Recon)) : Type 0 where
  pub count : length qs ≡ length ps
  pub each : (i : ℕ) (d : Post Recon) → i < length ps → IsParted m (get_or ps i d) (get_or qs i d)

-- the post at an index is divided, and the others stay
pub record PartsOne {Key Recon Cond : Type 0} (m : Meaning Key Recon Cond) (ps qs : List (Post Recon)) (k : ℕ) : Type 0 where
  pub one : (d : Post Recon) → IsParted m (get_or ps k d) (get_or qs k d)
  pub others : (j : ℕ) (d : Post Recon) → (j ≡ k → ⊥) → get_or qs j d ≡ get_or ps j d
