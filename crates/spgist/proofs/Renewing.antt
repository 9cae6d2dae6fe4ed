-- An index whose journal begins anew.
use Rattle.std.proofs.Common.{◌≡◌, ◌∙◌, ◌&&◌, ℕ, suc, Bool, true, false, if◌then◌else◌, List, [], ◌∷◌, ◌++◌, length, reverse, append_assoc, append-nil, Option, None, is_some, is_none, refl, sym, ap, subst}
use Rattle.std.proofs.lemmas.List.{reverse-append}
use Rattle.spg_base.specs.Row.{RowAt, same_row}
use Rattle.spg_opclass.specs.Meaning.{Meaning}
use Rattle.spg_forest.specs.Shape.{Represents}
use Rattle.spg_rows.specs.declared.entry.Entry.{Entry}
use Rattle.spg_rows.specs.declared.event.Event.{Event}
use Rattle.spg_rows.specs.declared.event.Event.TheVariants.{OpenInsert, Put}
use Rattle.spg_rows.specs.History.{History}
use Rattle.spg_rows.specs.Lives.{Life, lives, begun, put_at, last_on}
use Rattle.spg_rows.specs.Rows.{live_in, present_in, is_live, is_present}
use Rattle.spg_rows.specs.Loads.{load_events}
use Rattle.spg_tree.specs.Table.{Table, sheets_of}
use Rattle.spg_verdict.specs.Entries.{entries_of}
use Rattle.spg_copy.specs.Copies.{unlatched}
use Rattle.spg_core.specs.Seen.{Seen, past_of, IsPresentWith}
use Rattle.spg_core.specs.Loading.{IsAdopted}
use Rattle.spgist.specs.Builds.{IsRenewed}

-- ---- the rows of a load are live

-- the last life was not ended
abbrev Goes : {Key : Type 0} → List (Life Key) → Type 0
Goes [] = Unit {0}
Goes (life ∷ older) = (life.kill ≡ None) × (life.sweep ≡ None)

goes_opened : {Key : Type 0} (b : Bool) (key : Option Key) (ls : List (Life Key)) → Goes ls → Goes (if b then begun key ∷ ls else ls)
goes_opened true key ls h = (refl, refl)
goes_opened false key ls h = h

goes_put : {Key : Type 0} (b : Bool) (at : ℕ) (ls : List (Life Key)) → Goes ls → Goes (if b then last_on (put_at at) ls else ls)
goes_put true at [] h = h
goes_put true at (life ∷ older) h = h
goes_put false at ls h = h

as_live : {Key : Type 0} (ls : List (Life Key)) → Goes ls → live_in ls ≡ present_in ls
as_live [] h = refl
as_live (life ∷ older) (k, s) = ap (λ x. is_some life.put && is_none x) k ∙ sym (ap (λ x. is_some life.put && is_none x) s)

module _ {O Key Recon Cond : Type 0} where
  goes_on : (es : List (Entry Key)) (past : History O Key Recon Cond) → ((r : RowAt) → Goes (lives r past)) → (r : RowAt) → Goes (lives r (reverse (load_events es) ++ past))
  goes_on [] past h r = h r
  goes_on (e ∷ es) past h r =
      let two : List (Event O Key Recon Cond) = OpenInsert 0 e.row e.key ∷ Put 0 e.row ∷ [] in
      let on : History O Key Recon Cond = Put 0 e.row ∷ OpenInsert 0 e.row e.key ∷ past in
      subst (λ (p : History O Key Recon Cond). Goes (lives r p)) (sym (ap (λ l. l ++ past) (reverse-append two (load_events es)) ∙ append_assoc (reverse (load_events es)) (reverse two) past))
      (goes_on es on (λ q. goes_put (same_row e.row q) (suc (length past)) (lives q (OpenInsert 0 e.row e.key ∷ past)) (goes_opened (same_row e.row q) e.key (lives q past) (h q))) r)

  all_live : (es : List (Entry Key)) (seen : Seen O Key Recon Cond) → seen.journal ≡ load_events es → (r : RowAt) → is_live r (past_of seen) ≡ is_present r (past_of seen)
  all_live es seen e r = as_live (lives r (past_of seen))
      (subst (λ (j : List (Event O Key Recon Cond)). Goes (lives r (reverse j))) (sym e)
      (subst (λ (p : History O Key Recon Cond). Goes (lives r p)) (append-nil (reverse (load_events es))) (goes_on es [] (λ q. tt) r)))

-- ---- the index that is made

pub renewed : {O Key Recon Cond : Type 0} (m : Meaning Key Recon Cond) (old new : Seen O Key Recon Cond) (copy : Table) → Represents m (sheets_of old.table) (IsPresentWith (past_of old)) → Represents m (sheets_of new.table) (IsPresentWith (past_of new)) → copy ≡ unlatched old.table → IsAdopted m copy new → IsRenewed m old new
renewed m old new copy was is_now is A =
    let table : new.table ≡ unlatched old.table = A.loaded.table ∙ is in
    let now : Represents m (sheets_of old.table) (IsPresentWith (past_of new)) = subst (λ (x : Table). Represents m (sheets_of x) (IsPresentWith (past_of new))) table is_now in
    record {
      table = table;
      present = λ row key. let a = was.entries row key in let b = now.entries row key in ((λ h. a.0 (b.1 h)), (λ h. b.0 (a.1 h)));
      live = all_live (entries_of A.entries) new A.loaded.journal;
      adopted = subst (λ (x : Table). IsAdopted m x new) (sym A.loaded.table) A;
    }
