-- The index that the first pass closes, once all others came back.
use Rattle.std.proofs.Common.{◌≡◌, ◌<◌, ℕ, zero, suc, List, ◌++◌, length, drop, Option, Some, None, sym, ap, ◌∙◌, subst, arith}
use Rattle.std.proofs.lemmas.List.{take-append-drop}
use Rattle.atomic_table.specs.Seated.{TableId}
use Rattle.spg_opclass.specs.declared.class.OpClass.{Ghosts}
use Rattle.spg_rows.specs.declared.event.Event.{Event}
use Rattle.spg_rows.specs.History.{own}
use Rattle.spg_turn.specs.declared.rule.View.{View}
use Rattle.spg_turn.specs.Views.{StartsWith, kept_of, first_view}
use Rattle.spg_core.specs.Seen.{Seen, past_of, KeepsClass}
use Rattle.spg_desk.specs.declared.pass.Pass.{Pass}
use Rattle.spg_desk.specs.Passes.{view_of}
use Rattle.spg_whole.specs.Calls.{AllClosed}
use Rattle.spg_share.specs.Seats.{begun, Grew, pass_knows}
use Rattle.spg_share.specs.Shares.{start_view, added_by, Gathered, IsDealt, HasRun, IsKept, Ran, NoOthers}
use Rattle.spg_share.proofs.Gathers.{starts_then, added_suc}

-- what was seen begins with what was seen first
begins : {E : Type 0} (w s : View E) → begun w ≡ s → StartsWith w.seen s.seen
begins {E} w s is = (drop w.base w.seen, sym (take-append-drop w.base w.seen) ∙ ap (λ (z : View E). z.seen ++ drop w.base w.seen) is)

module _ {O Key Recon Cond : Type 0} where
  pub closed_as : (a b : Seen O Key Recon Cond) → b ≡ a → AllClosed (past_of a) → AllClosed (past_of b)
  closed_as a b e closed = subst (λ (s : Seen O Key Recon Cond). AllClosed (past_of s)) (sym e) closed

  -- an index was shared: the first pass knew this at the end of its task, and that once the others came back
  module _ (old new : Seen O Key Recon Cond) (count : ℕ) (v w : View (Event O Key Recon Cond)) (lead : begun v ≡ record (first_view old.journal old.origin) { given = count }) (all : Gathered v count count w) (list : new.journal ≡ w.seen) where
    pub grew_so : {laws : Ghosts O Key Recon Cond} → (q : Option (Pass O Key Recon Cond laws)) → pass_knows q ≡ v → IsKept w 0 q → new.origin ≡ w.origin → KeepsClass old new → AllClosed (past_of new) → Grew old new
    grew_so {laws} None knows kept made class idle = absurd kept
    grew_so {laws} (Some q) knows kept made class idle = record {
      journal = subst (λ (l : List (Event O Key Recon Cond)). StartsWith l old.journal) (sym list)
          (starts_then w.seen v.seen old.journal (subst (λ (z : View (Event O Key Recon Cond)). StartsWith w.seen z.seen) knows kept.0) (begins v (record (first_view old.journal old.origin) { given = count }) lead));
      origin = made ∙ all.origin_is ∙ ap (λ (z : View (Event O Key Recon Cond)). z.origin) lead;
      class = class;
      closed = idle;
    }

    module _ (first : own 0 (drop w.base new.journal) ≡ w.mine) (others : (n : ℕ) → 0 < n → own n (drop w.base new.journal) ≡ kept_of w.kept n) where
      base : w.base ≡ length old.journal
      base = all.base_is ∙ ap (λ (z : View (Event O Key Recon Cond)). z.base) lead

      added : (n : ℕ) → own n (drop w.base new.journal) ≡ added_by n w
      added zero = first
      added (suc n) = others (suc n) (omega arith) ∙ sym (added_suc w (suc n) (omega arith))

      pub own_so : (n : ℕ) → own n (drop (length old.journal) new.journal) ≡ added_by n w
      own_so n = ap (λ (k : ℕ). own n (drop k new.journal)) (sym base) ∙ added n

      pub no_others : 0 < count → NoOthers old new count
      no_others some n above = own_so n ∙ added_suc w n (omega (arith, some, above)) ∙ all.rest n above

      pub ran_so : {laws : Ghosts O Key Recon Cond} {T : Type 0} → (does : T → T → View (Event O Key Recon Cond) → View (Event O Key Recon Cond) → Type 0) (t : TableId) (i : ℕ) (a b c d : T) (p q : Option (Pass O Key Recon Cond laws))
          → IsDealt t (first_view old.journal old.origin) count i a b p → HasRun does b c p q → IsKept w i q → d ≡ c → Ran does old new count i a d
      ran_so {laws} {T} does t i a b c d None q dealt ran kept same = absurd dealt.1
      ran_so {laws} {T} does t i a b c d (Some p) None dealt ran kept same = absurd kept
      ran_so {laws} {T} does t i a b c d (Some p) (Some q) dealt ran kept same =
          let start = start_view (first_view old.journal old.origin) count i in
          record {
            end = view_of q;
            did = subst (λ (x : T). does x d start (view_of q)) dealt.0 (subst (λ (x : T). does b x start (view_of q)) (sym same) (subst (λ (v : View (Event O Key Recon Cond)). does b c v (view_of q)) dealt.1.1 ran.1));
            seen = subst (λ (l : List (Event O Key Recon Cond)). StartsWith l (view_of q).seen) (sym list) kept.0;
            mine = own_so i ∙ kept.1;
          }
