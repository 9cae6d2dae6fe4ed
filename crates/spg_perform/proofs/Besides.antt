-- A block of lanes: from what is told of the task of each to what its lane did.
use Rattle.std.proofs.Common.{◌≡◌, inl, inr, ◌<◌, ◌≤◌, ◌+◌, get_or, ℕ, suc, List, [], ◌∷◌, ◌++◌, length, map, take, drop, refl, sym, ap, ◌∙◌, subst, arith, length-append}
use Rattle.std.proofs.lemmas.List.{get_or_append_left, take_at}
use Rattle.std.proofs.lemmas.Bool.{cases_lt}
use Rattle.std.proofs.Math.Seq.{get_or-append_seam}
use Rattle.spg_base.specs.declared.recorded.Origin.{Origin}
use Rattle.spg_opclass.specs.Meaning.{Meaning}
use Rattle.spg_rows.specs.declared.event.Event.{Event}
use Rattle.spg_rows.specs.History.{own}
use Rattle.spg_calls.proofs.Calls.{long_grew, own_drop, up_to_grew}
use Rattle.spg_core.specs.Seen.{Seen}
use Rattle.spg_script.specs.declared.command.Command.{Command}
use Rattle.spg_script.specs.Speech.{Speech}
use Rattle.spg_report.specs.declared.record.Record.{Record}
use Rattle.spg_turn.specs.declared.rule.View.{View}
use Rattle.spg_turn.specs.Views.{StartsWith, first_view}
use Rattle.spg_share.specs.Shares.{start_view}
use Rattle.spg_share.proofs.Gathers.{start_same, start_number}
use Rattle.spg_perform.specs.Lanes.{CommandsDone, Went, LaneDone, LanesDone}
use Rattle.spg_perform.specs.Posts.{IsWhole}
use Rattle.spg_perform.proofs.LaneCalls.{commands_grew}

-- what stands in a list once the front that was lent has come back
pub back_in : {A : Type 0} (n : ℕ) (xs ys : List A) → length xs ≡ n → take n (xs ++ drop (length xs) ys) ≡ xs
back_in {A} n xs ys long = take_at xs (drop (length xs) ys) n long

-- so is each of a list with one more at its end
pub push_each : {A : Type 0} (P : ℕ → A → Type 0) (xs : List A) (k : ℕ) (x : A) → length xs ≡ k → ((i : ℕ) (d : A) → i < k → P i (get_or xs i d)) → P k x → (i : ℕ) (d : A) → i < k + 1 → P i (get_or (xs ++ x ∷ []) i d)
push_each {A} P xs k x long before one i d below = elim (cases_lt i k) [
  | inl under ↦ subst (P i) (sym (get_or_append_left xs (x ∷ []) d i (omega (arith, under, long)))) (before i d under)
  | inr last ↦
      let same : k ≡ i = omega (arith, last, below) in
      let seam : get_or (xs ++ x ∷ []) i d ≡ x = subst (λ (n : ℕ). get_or (xs ++ x ∷ []) n d ≡ x) (long ∙ same) (get_or-append_seam xs x [] d) in
      subst (P i) (sym seam) (subst (λ (n : ℕ). P n x) same one)
]

module _ {O Key Recon Cond : Type 0} where
  -- ---- what a seat knows at the start

  drop_whole : (xs : List (Event O Key Recon Cond)) → drop (length xs) xs ≡ []
  drop_whole [] = refl
  drop_whole (x ∷ xs) = drop_whole xs

  module _ (old : List (Event O Key Recon Cond)) (origin : Origin) (n i : ℕ) where
    abbrev start : View (Event O Key Recon Cond)
    start = start_view (first_view old origin) n i

    start_base : start.base ≡ length old
    start_base = start_same (λ (z : View (Event O Key Recon Cond)). z.base) (first_view old origin) n i (length old) refl (λ k. refl)

    start_seen : start.seen ≡ old
    start_seen = start_same (λ (z : View (Event O Key Recon Cond)). z.seen) (first_view old origin) n i old refl (λ k. refl)

    start_origin : start.origin ≡ origin
    start_origin = start_same (λ (z : View (Event O Key Recon Cond)). z.origin) (first_view old origin) n i origin refl (λ k. refl)

    pub start_whole : IsWhole start
    start_whole =
        let rest = start_same (λ (z : View (Event O Key Recon Cond)). drop z.base z.seen) (first_view old origin) n i [] (drop_whole old) (λ k. drop_whole old) in
        let mine = start_same (λ (z : View (Event O Key Recon Cond)). z.mine) (first_view old origin) n i [] refl (λ k. refl) in
        ap (own start.number) rest ∙ sym mine

  none_behind : (xs ys : List (Event O Key Recon Cond)) → xs ≡ xs ++ ys → ys ≡ []
  none_behind xs [] is = refl
  none_behind xs (y ∷ ys) is = absurd (omega (arith, ap length is, length-append xs (y ∷ ys)))

  module _ (m : Meaning Key Recon Cond) (speech : Speech Key Cond) where
    -- ---- one lane

    commands_done : (old : List (Event O Key Recon Cond)) (origin : Origin) (n i : ℕ) (cs : List Command) (rs : List Record) (v w : View (Event O Key Recon Cond)) → v ≡ start_view (first_view old origin) n i → Went m speech v w cs rs → CommandsDone m speech origin i old cs rs w.seen
    commands_done old origin n i cs rs v w is went =
        let number : v.number ≡ i = ap (λ (z : View (Event O Key Recon Cond)). z.number) is ∙ start_number (first_view old origin) n i refl in
        let seen : v.seen ≡ old = ap (λ (z : View (Event O Key Recon Cond)). z.seen) is ∙ start_seen old origin n i in
        let made : v.origin ≡ origin = ap (λ (z : View (Event O Key Recon Cond)). z.origin) is ∙ start_origin old origin n i in
        subst (λ (k : ℕ). CommandsDone m speech origin k old cs rs w.seen) number (subst (λ (s : List (Event O Key Recon Cond)). CommandsDone m speech origin v.number s cs rs w.seen) seen (subst (λ (o : Origin). CommandsDone m speech o v.number v.seen cs rs w.seen) made went.done))

    pub lane_done : (old new : Seen O Key Recon Cond) (n i : ℕ) (cs : List Command) (rs : List Record) (w : View (Event O Key Recon Cond)) → Went m speech (start_view (first_view old.journal old.origin) n i) w cs rs → StartsWith new.journal w.seen
        → own i (drop (length old.journal) new.journal) ≡ w.mine → LaneDone m speech old.origin i old.journal new.journal cs rs
    lane_done old new n i cs rs w went grew all =
        let v = start_view (first_view old.journal old.origin) n i in
        let done = commands_done old.journal old.origin n i cs rs v w refl went in
        let number : w.number ≡ i = ap (λ (z : View (Event O Key Recon Cond)). z.number) went.same ∙ start_number (first_view old.journal old.origin) n i refl in
        let base : w.base ≡ length old.journal = ap (λ (z : View (Event O Key Recon Cond)). z.base) went.same ∙ start_base old.journal old.origin n i in
        let whole : own i (drop (length old.journal) w.seen) ≡ w.mine = ap (λ (k : ℕ). own k (drop (length old.journal) w.seen)) (sym number) ∙ ap (λ (k : ℕ). own w.number (drop k w.seen)) (sym base) ∙ went.whole in
        let le : length old.journal ≤ length w.seen = long_grew old.journal w.seen (commands_grew m speech old.origin i old.journal w.seen cs rs done) in
        let parts : w.mine ≡ w.mine ++ own i (drop (length w.seen) new.journal) = sym all ∙ own_drop i (length old.journal) (length w.seen) new.journal le
        ∙ ap (λ l. own i l ++ own i (drop (length w.seen) new.journal)) (up_to_grew (length old.journal) w.seen new.journal grew le) ∙ ap (λ l. l ++ own i (drop (length w.seen) new.journal)) whole in
        record { seen = w.seen; done = done; watched = record { grew = grew; none = none_behind w.mine (own i (drop (length w.seen) new.journal)) parts } }

    -- ---- all lanes

    pub by_lane : {A : Type 0} (records : A → List Record) (origin : Origin) (seat : ℕ) (old journal : List (Event O Key Recon Cond)) (lanes : List (List Command)) (posts : List A) → length posts ≡ length lanes
        → ((i : ℕ) (d : A) → i < length lanes → LaneDone m speech origin (seat + i) old journal (get_or lanes i []) (records (get_or posts i d)))
        → ((other : ℕ) → seat + length lanes ≤ other → own other (drop (length old) journal) ≡ []) → LanesDone m speech origin seat old journal lanes (map records posts)
    by_lane {A} records origin seat old journal [] [] long each others = λ other above. others other (omega (arith, above))
    by_lane {A} records origin seat old journal [] (p ∷ posts) long each others = absurd (omega (arith, long))
    by_lane {A} records origin seat old journal (lane ∷ lanes) [] long each others = absurd (omega (arith, long))
    by_lane {A} records origin seat old journal (lane ∷ lanes) (p ∷ posts) long each others =
        let here : seat + 0 ≡ seat = omega arith in (
          subst (λ (s : ℕ). LaneDone m speech origin s old journal lane (records p)) here (each 0 p (omega arith)),
          by_lane records origin (seat + 1) old journal lanes posts (omega (arith, long))
              (λ i d below. let next : seat + suc i ≡ (seat + 1) + i = omega arith in subst (λ (s : ℕ). LaneDone m speech origin s old journal (get_or lanes i []) (records (get_or posts i d))) next (each (suc i) d (omega (arith, below))))
              (λ other above. others other (omega (arith, above))),
        )
