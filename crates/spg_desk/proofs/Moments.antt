-- A turn in which nothing is done.
use Rattle.std.proofs.Common.{◌≡◌, ℕ, true, false, List, [], length, drop, take, reverse, Result, Ok, Err, IfOk, refl, sym, ap, ◌∙◌, subst, arith}
use Rattle.std.proofs.lemmas.List.{append-nil, drop_at, get_or_default}
use Rattle.spg_base.specs.declared.names.Span.{Span}
use Rattle.spg_base.specs.declared.memory.Memory.{Memory}
use Rattle.spg_base.specs.declared.recorded.Origin.{Origin}
use Rattle.spg_opclass.specs.Meaning.{Meaning}
use Rattle.spg_forest.specs.Sheets.{Sheet, blank}
use Rattle.spg_forest.specs.Shape.{Shape}
use Rattle.spg_tree.specs.Table.{Table, sheets_of, sheet_at, AreRoots}
use Rattle.spg_rows.specs.declared.event.Event.{Event}
use Rattle.spg_rows.specs.History.{History}
use Rattle.spg_core.specs.Seen.{Seen}
use Rattle.spg_turn.specs.declared.rule.View.{View}
use Rattle.spg_calls.specs.Calls.{Watched, span_at}
use Rattle.spg_desk.specs.Told.{Told}
use Rattle.spg_copy.specs.Copies.{unlatched}
use Rattle.spg_desk.specs.Looks.{MayStand, IsCopyOf, LooksAt}
use Rattle.spg_desk.proofs.Views.{told_watched}

module _ {O Key Recon Cond : Type 0} (m : Meaning Key Recon Cond) where
  -- the turn as the one who has the state out sees it
  pub ended_look : (h w : View (Event O Key Recon Cond)) (journal : List (Event O Key Recon Cond)) (span : Span) (at : ℕ) → journal ≡ h.seen → w.seen ≡ journal → span ≡ span_at (length h.seen) (length w.seen) → at ≡ length journal
      → Told m h w span (drop (length h.seen) journal) → LooksAt m h w at
  ended_look h w journal span at same after is long told = record {
    told = subst (λ (es : List (Event O Key Recon Cond)). Told m h w (span_at at at) es) none (subst (λ (s : Span). Told m h w s (drop (length h.seen) journal)) spans told);
    length_is = long ∙ ap length (sym after);
  }
    where
      none : drop (length h.seen) journal ≡ []
      none = ap (drop (length h.seen)) (same ∙ sym (append-nil h.seen)) ∙ drop_at h.seen [] (length h.seen) refl

      spans : span ≡ span_at at at
      spans = is ∙ (ap (λ (l : List (Event O Key Recon Cond)). span_at (length l) (length w.seen)) (sym same) ∙ (ap (λ (l : List (Event O Key Recon Cond)). span_at (length journal) (length l)) after ∙ ap (λ (n : ℕ). span_at n n) (sym long)))

  -- and as its pass sees it
  pub looks_then : (v h w : View (Event O Key Recon Cond)) (lent : Seen O Key Recon Cond) (at : ℕ) → h ≡ record v { seen = lent.journal } → Watched v.number v.seen lent.journal → LooksAt m h w at → LooksAt m v w at
  looks_then v h w lent at view watched looks =
      let seen : h.seen ≡ lent.journal = ap (λ (z : View (Event O Key Recon Cond)). z.seen) view in
      record {
        told = told_watched m v h w (span_at at at) [] (view ∙ ap (λ (l : List (Event O Key Recon Cond)). record v { seen = l }) (sym seen)) (subst (Watched v.number v.seen) (sym seen) watched) looks.told;
        length_is = looks.length_is;
      }

  -- what holds of the index that the turn lent holds after the journal that the pass has seen then
  pub moment_then : (P : Origin → List (Event O Key Recon Cond) → Type 0) (v h w : View (Event O Key Recon Cond)) (lent state : Seen O Key Recon Cond) → state ≡ lent → lent.origin ≡ h.origin → h ≡ record v { seen = lent.journal } → w.seen ≡ lent.journal
      → P state.origin state.journal → P v.origin w.seen
  moment_then P v h w lent state is made view after holds =
      subst (λ (o : Origin). P o w.seen) (ap (λ (s : Seen O Key Recon Cond). s.origin) is ∙ (made ∙ ap (λ (z : View (Event O Key Recon Cond)). z.origin) view))
      (subst (λ (l : List (Event O Key Recon Cond)). P state.origin l) (ap (λ (s : Seen O Key Recon Cond). s.journal) is ∙ sym after) holds)

  pub copied_in : (origin : Origin) (past : History O Key Recon Cond) (t : Table) (r : Result Table Memory) → MayStand m origin past t → AreRoots t.pages → IfOk r (λ copy. copy ≡ unlatched t) → IfOk r (λ copy. IsCopyOf m origin past copy)
  copied_in origin past t (Ok copy) stands roots is = subst (λ (x : Table). IsCopyOf m origin past x) (sym is) (record {
    stands = record { holds = stands.holds; bounds = record { pages = stands.bounds.pages; clock = stands.bounds.clock }; limit = stands.limit };
    roots = roots;
    free = refl;
  })
  copied_in origin past t (Err e) stands roots is = tt

-- well formed pages have their roots
pub roots : {Key Recon Cond : Type 0} (m : Meaning Key Recon Cond) (t : Table) → Shape m (sheets_of t) → sheet_at t 0 ≡ blank false → AreRoots t.pages
roots m t shape meta = record {
  meta = meta;
  main = shape.pages.main;
  nulls = ap (λ (s : Sheet). s.nulls) (get_or_default t.pages 2 (blank true) (blank false) (omega (arith, shape.pages.count))) ∙ shape.pages.nulls;
}
