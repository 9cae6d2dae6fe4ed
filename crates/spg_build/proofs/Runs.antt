-- Runs of posts, one for each worker.
use Rattle.std.proofs.Common.{◌≡◌, ℕ, zero, suc, ◌+◌, ◌<◌, ◌≤◌, List, [], ◌∷◌, ◌++◌, append-nil, append_assoc, length, get_or, drop, Result, Ok, Err, IfOk, below_more, ap₂, refl, sym, ap, ◌∙◌, subst, arith}
use Rattle.std.specs.List.{AllByRecursion}
use Rattle.spg_opclass.specs.Meaning.{Meaning}
use Rattle.spg_forest.specs.Sheets.{Sheets}
use Rattle.spg_grow.specs.Growing.{IsWaiting}
use Rattle.spg_grow.proofs.Growing.{all_append}
use Rattle.spg_build.specs.declared.lot.Group.{Group}
use Rattle.spg_build.specs.declared.run.Post.{Post}
use Rattle.spg_build.specs.declared.run.Run.{Run}
use Rattle.spg_build.specs.Lots.{groups_waiting, IsLot, AreAtMost}
use Rattle.spg_build.specs.Posts.{groups_at, IsParted, IsPosted}
use Rattle.spg_build.specs.Runs.{posts_in, values_in, AreToPart, AreParted, PartsOne}
use Rattle.spg_build.proofs.Rounds.{lot_waits}

pub if_more : {A B : Type 0} (P Q : A → Type 0) → ((x : A) → P x → Q x) → (r : Result A B) → IfOk r P → IfOk r Q
if_more P Q f (Ok x) h = f x h
if_more P Q f (Err e) h = h

-- past the end there are no values
pub values_end : {R : Type 0} (gs : List (Group R)) (i : ℕ) → length gs ≤ i → values_in (drop i gs) ≡ 0
values_end [] zero h = refl
values_end [] (suc i) h = refl
values_end (g ∷ gs) zero h = absurd (omega arith)
values_end (g ∷ gs) (suc i) h = values_end gs i (omega arith)

module _ {R : Type 0} where
  groups_append : (ps qs : List (Post R)) → groups_at (ps ++ qs) ≡ groups_at ps ++ groups_at qs
  groups_append [] qs = refl
  groups_append (p ∷ ps) qs = ap (λ zs. p.group ∷ zs) (groups_append ps qs)

  posts_push : (rs : List (Run R)) (r : Run R) → posts_in (rs ++ r ∷ []) ≡ posts_in rs ++ r.posts.items
  posts_push [] r = append-nil r.posts.items
  posts_push (s ∷ rs) r = ap (λ zs. s.posts.items ++ zs) (posts_push rs r) ∙ sym (append_assoc s.posts.items (posts_in rs) r.posts.items)

  -- a post more in the run that is filled
  pub filling_turn : (rs : List (Run R)) (ps qs : List (Post R)) (p : Post R) (now next round : List (Group R)) → qs ≡ ps ++ p ∷ [] → now ≡ p.group ∷ next → groups_at (posts_in rs ++ ps) ++ now ≡ round → groups_at (posts_in rs ++ qs) ++ next ≡ round
  filling_turn rs ps qs p now next round e f h =
      ap (λ zs. groups_at (posts_in rs ++ zs) ++ next) e ∙ ap (λ zs. groups_at zs ++ next) (sym (append_assoc (posts_in rs) ps (p ∷ []))) ∙ ap (λ zs. zs ++ next) (groups_append (posts_in rs ++ ps) (p ∷ []))
      ∙ append_assoc (groups_at (posts_in rs ++ ps)) (p.group ∷ []) next ∙ ap (λ zs. groups_at (posts_in rs ++ ps) ++ zs) (sym f) ∙ h

  -- the run is full, and another begins
  pub filling_next : (rs ss : List (Run R)) (r : Run R) (ps qs : List (Post R)) (now round : List (Group R)) → ss ≡ rs ++ r ∷ [] → r.posts.items ≡ ps → qs ≡ [] → groups_at (posts_in rs ++ ps) ++ now ≡ round → groups_at (posts_in ss ++ qs) ++ now ≡ round
  filling_next rs ss r ps qs now round e f z h =
      ap (λ us. groups_at (posts_in us ++ qs) ++ now) e ∙ ap (λ zs. groups_at (zs ++ qs) ++ now) (posts_push rs r) ∙ ap (λ zs. groups_at ((posts_in rs ++ zs) ++ qs) ++ now) f
      ∙ ap (λ zs. groups_at ((posts_in rs ++ ps) ++ zs) ++ now) z ∙ ap (λ zs. groups_at zs ++ now) (append-nil (posts_in rs ++ ps)) ∙ h

  -- no group is left
  pub filling_end : (rs ss : List (Run R)) (r : Run R) (ps : List (Post R)) (now round : List (Group R)) → ss ≡ rs ++ r ∷ [] → r.posts.items ≡ ps → now ≡ [] → groups_at (posts_in rs ++ ps) ++ now ≡ round → groups_at (posts_in ss) ≡ round
  filling_end rs ss r ps now round e f z h =
      ap (λ us. groups_at (posts_in us)) e ∙ ap groups_at (posts_push rs r) ∙ ap (λ zs. groups_at (posts_in rs ++ zs)) f ∙ sym (append-nil (groups_at (posts_in rs ++ ps))) ∙ ap (λ zs. groups_at (posts_in rs ++ ps) ++ zs) (sym z) ∙ h

  -- no run is left
  pub joined_end : (ps : List (Post R)) (now : List (Run R)) (all : List (Post R)) → now ≡ [] → ps ++ posts_in now ≡ all → ps ≡ all
  joined_end ps now all e h = sym (append-nil ps) ∙ ap (λ us. ps ++ posts_in us) (sym e) ∙ h

module _ {Key Recon Cond : Type 0} (m : Meaning Key Recon Cond) where
  -- groups that wait have lots that can be divided
  pub lots_of_waiting : (S : Sheets) (n : ℕ) (gs : List (Group Recon)) → AllByRecursion (IsWaiting m S) (groups_waiting gs) → AreAtMost n gs → AllByRecursion (λ (g : Group Recon). IsLot m g.lot) gs
  lots_of_waiting S n [] w a = tt
  lots_of_waiting S n (g ∷ gs) (w, ws) (a, as1) = (lot_waits m S g.place g.lot a.0 w, lots_of_waiting S n gs ws as1)

  front : (ps qs : List (Post Recon)) → AllByRecursion (λ (g : Group Recon). IsLot m g.lot) (groups_at (ps ++ qs)) → AllByRecursion (λ (g : Group Recon). IsLot m g.lot) (groups_at ps)
  front [] qs a = tt
  front (p ∷ ps) qs (h, t) = (h, front ps qs t)

  back : (ps qs : List (Post Recon)) → AllByRecursion (λ (g : Group Recon). IsLot m g.lot) (groups_at (ps ++ qs)) → AllByRecursion (λ (g : Group Recon). IsLot m g.lot) (groups_at qs)
  back [] qs a = a
  back (p ∷ ps) qs (h, t) = back ps qs t

  to_part : (ps : List (Post Recon)) → AllByRecursion (λ (g : Group Recon). IsLot m g.lot) (groups_at ps) → AreToPart m ps
  to_part [] a i d h = absurd (omega arith)
  to_part (p ∷ ps) (h, t) zero d k = h
  to_part (p ∷ ps) (h, t) (suc i) d k = to_part ps t i d (omega arith)

  -- so have those of each run
  pub runs_to_part : (rs : List (Run Recon)) → AllByRecursion (λ (g : Group Recon). IsLot m g.lot) (groups_at (posts_in rs)) → (i : ℕ) (d : Run Recon) → i < length rs → AreToPart m (get_or rs i d).posts.items
  runs_to_part [] a i d h = absurd (omega arith)
  runs_to_part (r ∷ rs) a zero d h = to_part r.posts.items (front r.posts.items (posts_in rs) a)
  runs_to_part (r ∷ rs) a (suc i) d h = runs_to_part rs (back r.posts.items (posts_in rs) a) i d (omega arith)

  groups_stay : (ps qs : List (Post Recon)) → AreParted m ps qs → groups_at qs ≡ groups_at ps
  groups_stay [] [] a = refl
  groups_stay [] (q ∷ qs) a = let e = a.count in absurd (omega arith)
  groups_stay (p ∷ ps) [] a = let e = a.count in absurd (omega arith)
  groups_stay (p ∷ ps) (q ∷ qs) a = ap₂ (λ (g : Group Recon) (gs : List (Group Recon)). g ∷ gs) (a.each 0 p (omega arith)).0 (groups_stay ps qs (record { count = let e = a.count in omega arith; each = λ i d k. a.each (suc i) d (omega arith) }))

  all_posted : (ps qs : List (Post Recon)) → AreParted m ps qs → AllByRecursion (λ (g : Group Recon). IsLot m g.lot) (groups_at ps) → AllByRecursion (IsPosted m) qs
  all_posted [] [] a l = tt
  all_posted [] (q ∷ qs) a l = let e = a.count in absurd (omega arith)
  all_posted (p ∷ ps) [] a l = let e = a.count in absurd (omega arith)
  all_posted (p ∷ ps) (q ∷ qs) a (l, ls) =
      let (f, piece) = a.each 0 p (omega arith) in (
        (ap (λ (g : Group Recon). length g.lot.rests) f ∙ l.each ∙ ap (λ (g : Group Recon). length g.lot.rows) (sym f), piece),
        all_posted ps qs (record { count = let e = a.count in omega arith; each = λ i d k. a.each (suc i) d (omega arith) }) ls,
      )

  -- when each run is divided the groups are the same, and each has its piece
  pub runs_parted : (rs ss : List (Run Recon)) → length ss ≡ length rs → ((i : ℕ) (d : Run Recon) → i < length rs → AreParted m (get_or rs i d).posts.items (get_or ss i d).posts.items) → AllByRecursion (λ (g : Group Recon). IsLot m g.lot) (groups_at (posts_in rs)) →
      (groups_at (posts_in ss) ≡ groups_at (posts_in rs)) × AllByRecursion (IsPosted m) (posts_in ss)
  runs_parted [] [] e h a = (refl, tt)
  runs_parted [] (s ∷ ss) e h a = absurd (omega arith)
  runs_parted (r ∷ rs) [] e h a = absurd (omega arith)
  runs_parted (r ∷ rs) (s ∷ ss) e h a =
      let (f, p) = runs_parted rs ss (omega arith) (λ i d k. h (suc i) d (omega arith)) (back r.posts.items (posts_in rs) a) in
      let b = h 0 r (omega arith) in (
        groups_append s.posts.items (posts_in ss) ∙ ap (λ zs. zs ++ groups_at (posts_in ss)) (groups_stay r.posts.items s.posts.items b) ∙ ap (λ zs. groups_at r.posts.items ++ zs) f ∙ sym (groups_append r.posts.items (posts_in rs)),
        all_append (IsPosted m) s.posts.items (posts_in ss) (all_posted r.posts.items s.posts.items b (front r.posts.items (posts_in rs) a)) p,
      )

  -- one post more of a run is divided
  pub parted_turn : (ps qs us : List (Post Recon)) (k : ℕ) → ((j : ℕ) (d : Post Recon) → j < k → IsParted m (get_or ps j d) (get_or qs j d)) → ((j : ℕ) (d : Post Recon) → k ≤ j → get_or qs j d ≡ get_or ps j d) → PartsOne m qs us k →
      ((j : ℕ) (d : Post Recon) → j < k + 1 → IsParted m (get_or ps j d) (get_or us j d)) × ((j : ℕ) (d : Post Recon) → k + 1 ≤ j → get_or us j d ≡ get_or ps j d)
  parted_turn ps qs us k done left one = (
    λ j d h. below_more (λ i. IsParted m (get_or ps i d) (get_or us i d)) k
        (λ i u. subst (λ (p : Post Recon). IsParted m (get_or ps i d) p) (sym (one.others i d (λ e. omega arith))) (done i d u))
        (subst (λ (p : Post Recon). IsParted m p (get_or us k d)) (left k d (omega arith)) (one.one d))
        j h,
    λ j d h. one.others j d (λ e. omega arith) ∙ left j d (omega arith),
  )

  -- what is joined of runs that were divided
  pub parted_joined : (all : List (Group Recon)) (rs ss us : List (Run Recon)) → us ≡ ss → length ss ≡ length rs → ((i : ℕ) (d : Run Recon) → i < length rs → AreParted m (get_or rs i d).posts.items (get_or ss i d).posts.items) → AllByRecursion (λ (g : Group Recon). IsLot m g.lot) all → groups_at (posts_in rs) ≡ all →
      (groups_at (posts_in us) ≡ all) × AllByRecursion (IsPosted m) (posts_in us)
  parted_joined all rs ss us e l h a f =
      let (g, p) = runs_parted rs ss l h (subst (λ gs. AllByRecursion (λ (g : Group Recon). IsLot m g.lot) gs) (sym f) a) in
      (ap (λ ts. groups_at (posts_in ts)) e ∙ g ∙ f, subst (λ ts. AllByRecursion (IsPosted m) (posts_in ts)) (sym e) p)
