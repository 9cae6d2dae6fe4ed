-- A search of an index that no one else uses.
use Rattle.std.proofs.Common.{◌≡◌, ◌≤◌, ◌⊎◌, ⊎_elim, inl, inr, ℕ, List, [], ◌∷◌, ◌++◌, length, refl, sym, ◌∙◌, subst}
use Rattle.std.specs.Prelude.{◌≢◌, Some}
use Rattle.std.proofs.lemmas.List.{append_assoc}
use Rattle.spg_base.specs.declared.point.Point.{Point}
use Rattle.spg_opclass.specs.Meaning.{Meaning}
use Rattle.spg_opclass.specs.Laws.{KeptLaw, CodeLaw}
use Rattle.spg_opclass.specs.declared.query.Query.TheVariants.{All}
use Rattle.spg_forest.specs.Shape.{Shape}
use Rattle.spg_rows.specs.declared.event.Event.{Event}
use Rattle.spg_rows.specs.declared.event.Event.TheVariants.{OpenScan, Leave}
use Rattle.spg_rows.specs.History.{History, open_of}
use Rattle.spg_tree.specs.Table.{sheets_of, latch_at}
use Rattle.spg_seats.specs.Slots.{LatchesAre}
use Rattle.spg_core.specs.Stage.{IsStageOf}
use Rattle.spg_core.specs.Seen.{Seen, stage_at, past_of}
use Rattle.spg_core.proofs.Growing.{grows_as}
use Rattle.spg_near.specs.declared.near_row.NearRow.{NearRow}
use Rattle.spg_near.specs.Nearing.{Boxing}
use Rattle.spg_near.specs.NearRight.{NearRight}
use Rattle.spg_among.specs.declared.among.NearOut.{NearOut}
use Rattle.spg_among.specs.declared.among.NearOut.TheVariants as out
use Rattle.spg_among.specs.Among.{IsAlone, IsEndedAt, IsNearOut, HasWalked}
use Rattle.spg_whole.specs.Calls.{AllClosed, Did, FindsNone}
use Rattle.spg_whole.proofs.Alone.{own_latches}
use Rattle.spg_whole.proofs.Closing.{ends_closed}
use Rattle.spg_whole.proofs.Lists.{past_with_two}
use Rattle.spg_nearest.specs.Finds.{FindsNearest}
use Rattle.spg_nearest.proofs.Fewer.{walk_told}

module _ {O Key Recon Cond : Type 0} (old new : Seen O Key Recon Cond) (seat : ℕ) (closed : AllClosed (past_of old)) where
  -- the two events
  pub did : IsAlone old new seat → Did old new (OpenScan seat All ∷ Leave seat ∷ [])
  did a = record {
    journal = a.journal;
    closed = ends_closed old.journal (old.journal ++ OpenScan seat All ∷ []) new.journal (OpenScan seat All ∷ Leave seat ∷ []) (Leave seat) a.journal (a.journal ∙ sym (append_assoc old.journal (OpenScan seat All ∷ []) (Leave seat ∷ []))) (λ past before. refl) (refl, (refl, tt)) closed;
    origin = a.origin;
    class = a.class;
    grows = grows_as old.table new.table a.pages;
  }

  pub refused : (new ≡ old) ⊎ IsAlone old new seat → FindsNone old new seat All
  refused r = ⊎_elim (λ same. inl same) (λ a. inr (did a, a.pages)) r

  -- no other seat holds a block
  pub no_latch : IsAlone old new seat → LatchesAre new.table new.stages → (block by : ℕ) → IsStageOf (open_of by (past_of new)) (stage_at new by) → latch_at new.table block ≡ Some by → by ≢ seat → ⊥
  no_latch a latches block by stage latched other = other (own_latches new seat block by (λ s apart. Did.closed (did a) s) latches stage latched)

module _ {O Recon Cond : Type 0} (m : Meaning Point Recon Cond) (boxing : Boxing Recon) (old new : Seen O Point Recon Cond) (seat : ℕ) (target : Point) (limit : ℕ) (closed : AllClosed (past_of old)) where
  abbrev e : Event O Point Recon Cond
  e = OpenScan seat All

  -- the journal before the end is that at the begin with one event more
  before_end : (past : History O Point Recon Cond) → IsAlone old new seat → IsEndedAt m old new seat past → past ≡ e ∷ past_of old
  before_end past a E =
      let two : past_of new ≡ Leave seat ∷ e ∷ past_of old = past_with_two old.journal new.journal e (Leave seat) a.journal in
      let all : Leave seat ∷ past ≡ Leave seat ∷ e ∷ past_of old = sym E.journal ∙ two in
      (cc)

  finds : KeptLaw m → CodeLaw m → Shape m (sheets_of old.table) → length old.table.pages ≤ 131072 → (rows : List NearRow) (met : ℕ) (span : _) → IsAlone old new seat → IsNearOut m old new seat target limit (out.Near rows met span) → HasWalked m boxing old target limit (out.Near rows met span) → FindsNearest m boxing old new seat target limit rows met
  finds K L H pages rows met span a ((past, E, right), from, to) walked = record {
    did = did old new seat closed a;
    pages = a.pages;
    right = subst (λ (h : History O Point Recon Cond). NearRight (past_of old) h target limit rows) (before_end past a E) right;
    walk = λ last r. let (n, walk, is) = walked last r in walk_told O m boxing (sheets_of old.table) target last K L H pages n met walk is;
  }

  pub found : KeptLaw m → CodeLaw m → Shape m (sheets_of old.table) → length old.table.pages ≤ 131072 → (answer : NearOut) (rows : List NearRow) (met : ℕ) (span : _) → answer ≡ out.Near rows met span → IsAlone old new seat → IsNearOut m old new seat target limit answer → HasWalked m boxing old target limit answer → FindsNearest m boxing old new seat target limit rows met
  found K L H pages answer rows met span is a near walked = finds K L H pages rows met span a (subst (λ (x : NearOut). IsNearOut m old new seat target limit x) is near) (subst (λ (x : NearOut). HasWalked m boxing old target limit x) is walked)

  -- it did not stop at a block that another seat holds
  pub not_latched : (answer : NearOut) (block by : ℕ) → answer ≡ out.Latched block by → IsAlone old new seat → IsNearOut m old new seat target limit answer → LatchesAre new.table new.stages → IsStageOf (open_of by (past_of new)) (stage_at new by) → ⊥
  not_latched answer block by is a near latches stage =
      let (ended, held, other) = subst (λ (x : NearOut). IsNearOut m old new seat target limit x) is near in
      no_latch old new seat closed a latches block by stage held other
