-- A table that was built is adopted: no clause fails.
use Rattle.std.proofs.Common.{◌≡◌, ◌≤◌, ◌+◌, ◌*◌, inl, inr, ℕ, false, true, List, [], ◌∷◌, length, sym, ap, ◌∙◌, subst, arith}
use Rattle.std.specs.Prelude.{Result, Ok, Err, MatchResult}
use Rattle.std.specs.List.{AllByRecursion}
use Rattle.std.proofs.lemmas.List.{get_or_default}
use Rattle.spg_opclass.specs.Meaning.{Meaning}
use Rattle.spg_forest.specs.Sheets.{Sheet, Sheets, blank}
use Rattle.spg_forest.specs.Shape.{Shape, Represents}
use Rattle.spg_rows.specs.Present.{IsPresentWith}
use Rattle.spg_tree.specs.Table.{Table, sheets_of, sheet_at, AreRoots}
use Rattle.spg_clauses.specs.declared.reason.Fault.{Fault}
use Rattle.spg_clauses.specs.Order.{Holds, IsFirst, tests}
use Rattle.spg_clauses.proofs.FromShape.{from_shape}
use Rattle.spg_build.specs.declared.entry.Entry.{Entry}
use Rattle.spg_build.specs.Built.{HasIn, AreRowsOnce, IsAtRest}
use Rattle.spg_build.specs.Journal.{built_past}
use Rattle.spg_build.proofs.Journals.{built_present}
use Rattle.spg_core.specs.Seen.{Seen}
use Rattle.spg_core.specs.Loading.{IsAdopted}
use Rattle.spgist.specs.Builds.{IsBuilt}

pub roots : {Key Recon Cond : Type 0} (m : Meaning Key Recon Cond) (t : Table) → Shape m (sheets_of t) → sheet_at t 0 ≡ blank false → AreRoots t.pages
roots m t shape meta = record {
  meta = meta;
  main = shape.pages.main;
  nulls = ap (λ (s : Sheet). s.nulls) (get_or_default t.pages 2 (blank true) (blank false) (omega (arith, shape.pages.count))) ∙ shape.pages.nulls;
}

none_first : (holds : Fault → Type 0) (us : List Fault) (f : Fault) → AllByRecursion holds us → IsFirst holds us f → ⊥
none_first holds [] f all first = first
none_first holds (u ∷ us) f all (inl (is, fails)) = fails all.0
none_first holds (u ∷ us) f all (inr (held, first)) = none_first holds us f all.1 first

pub no_fault : {Key Recon Cond : Type 0} (m : Meaning Key Recon Cond) (t : Table) (f : Fault) → Shape m (sheets_of t) → IsFirst (Holds m (sheets_of t)) (tests (length t.pages)) f → ⊥
no_fault m t f shape first = none_first (Holds m (sheets_of t)) (tests (length t.pages)) f (from_shape m (sheets_of t) shape) first

-- the pages hold just the entries
holds_entries : (O : Type 0) {Key Recon Cond : Type 0} (m : Meaning Key Recon Cond) (S : Sheets) (es : List (Entry Key)) → AreRowsOnce es → Represents m S (IsPresentWith (built_past O Recon Cond es)) → Represents m S (HasIn es)
holds_entries O {Key} {Recon} {Cond} m S es once represents = record {
  shape = represents.shape;
  entries = λ row key. let a = represents.entries row key in let b = built_present O Recon Cond es once row key in ((λ h. b.0 (a.0 h)), (λ h. a.1 (b.1 h)));
}

pub built_index : (O : Type 0) {Key Recon Cond : Type 0} (m : Meaning Key Recon Cond) (es : List (Entry Key)) (limit : ℕ) (t : Table) (seen : Seen O Key Recon Cond) → AreRowsOnce es → Represents m (sheets_of t) (IsPresentWith (built_past O Recon Cond es)) → IsAtRest t limit → length t.pages ≤ 4 * length es + 3 → IsAdopted m t seen
    → IsBuilt m es limit seen
built_index O m es limit t seen once represents at_rest few adopted =
    let same : t ≡ seen.table = sym adopted.loaded.table in
    record {
      represents = subst (λ (x : Table). Represents m (sheets_of x) (HasIn es)) same (holds_entries O m (sheets_of t) es once represents);
      few = subst (λ (x : Table). length x.pages ≤ 4 * length es + 3) same few;
      at_rest = subst (λ (x : Table). IsAtRest x limit) same at_rest;
      adopted = subst (λ (x : Table). IsAdopted m x seen) same adopted;
    }

-- ---- what a call that answers one of two tells of the one it answered

pub of_ok : {T E : Type 0} (P : T → Type 0) (Q : E → Type 0) (came : Result T E) (t : T) → came ≡ Ok t → MatchResult came P Q → P t
of_ok {T} {E} P Q came t is told = subst (λ (r : Result T E). MatchResult r P Q) is told

pub of_err : {T E : Type 0} (P : T → Type 0) (Q : E → Type 0) (came : Result T E) (e : E) → came ≡ Err e → MatchResult came P Q → Q e
of_err {T} {E} P Q came e is told = subst (λ (r : Result T E). MatchResult r P Q) is told
