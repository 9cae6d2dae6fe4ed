-- What is seen of an index that keeps all says that it is such a small state.
use Rattle.std.proofs.Common.{◌≡◌, ◌≤◌, ℕ, true, Option, Some, None, refl, sym, ap, subst}
use Rattle.std.proofs.lemmas.Bool.{false≢true}
use Rattle.spg_opclass.specs.Meaning.{Meaning}
use Rattle.spg_forest.specs.Pages.{tuple_on}
use Rattle.spg_forest.specs.Sheets.{Sheet}
use Rattle.spg_tree.specs.Table.{Table, sheet_at}
use Rattle.spg_seats.specs.Slots.{StageFits, stage_holds}
use Rattle.spg_core.specs.Stage.{Stage, free, descending, reading, sweeping}
use Rattle.spg_core.specs.Seen.{Seen, stage_at, past_of}
use Rattle.spg_core.specs.Since.{opened_at}
use Rattle.spg_core.specs.Calls.{IsWhole}
use Rattle.spg_test_states.specs.States.{InsertsBelow, ScansCopy, SweepsOn, IsRedirectSince, Redirects, IsSmall, HasDone, HasCopy}

abbrev stamp_in : Option (ℕ × ℕ) → ℕ
stamp_in None = 0
stamp_in (Some (at, stamp)) = stamp

-- a redirect on a page
pub found : (t : Table) (block offset since : ℕ) (s : Sheet) → s ≡ sheet_at t block → IsRedirectSince (tuple_on s.tuples offset) since → Redirects t since
found t block offset since s e R = record { at = record { block = block; offset = offset }; redirect = subst (λ (z : Sheet). IsRedirectSince (tuple_on z.tuples offset) since) e R }

module _ {O Key Recon Cond : Type 0} (m : Meaning Key Recon Cond) (seen : Seen O Key Recon Cond) (whole : IsWhole m seen) where
  -- what each seat has open fits
  fits : (seat : ℕ) → StageFits m seen.table (past_of seen) seat (stage_at seen seat)
  fits seat =
      let (s, e, K, B) = whole in
      subst (λ (v : Seen O Key Recon Cond). StageFits m v.table (past_of v) seat (stage_at v seat)) e (K.stages seat)

  inserts : (seat block : ℕ) → 3 ≤ block → stage_holds (stage_at seen seat) block ≡ true → InsertsBelow m seen seat
  inserts seat block low holds = by (stage_at seen seat) refl holds (fits seat)
    where
      by : (x : Stage O Key Recon Cond) → stage_at seen seat ≡ x → stage_holds x block ≡ true → StageFits m seen.table (past_of seen) seat x → InsertsBelow m seen seat
      by free at h F = absurd (false≢true h)
      by (descending key d) at h F = record { key = key; descent = d; stage = at; block = block; below = low; holds = h; is = F }
      by (reading s) at h F = absurd (false≢true h)
      by (sweeping v) at h F = absurd (false≢true h)

  scans : (seat : ℕ) → HasCopy (stage_at seen seat) → ScansCopy m seen seat
  scans seat copy = by (stage_at seen seat) refl copy (fits seat)
    where
      by : (x : Stage O Key Recon Cond) → stage_at seen seat ≡ x → HasCopy x → StageFits m seen.table (past_of seen) seat x → ScansCopy m seen seat
      by free at h F = absurd h
      by (descending key d) at h F = absurd h
      by (reading s) at (item, recon, tuple, links, copied) (before, opens, is) = record { scan = s; stage = at; item = item; recon = recon; tuple = tuple; links = links; copied = copied; before = before; is = is }
      by (sweeping v) at h F = absurd h

  sweeps : (seat at since : ℕ) → HasDone (stage_at seen seat) → opened_at (stage_at seen seat) ≡ Some (at, since) → Redirects seen.table since → SweepsOn m seen seat
  sweeps seat at since done opened R = by (stage_at seen seat) refl done opened (fits seat)
    where
      by : (x : Stage O Key Recon Cond) → stage_at seen seat ≡ x → HasDone x → opened_at x ≡ Some (at, since) → StageFits m seen.table (past_of seen) seat x → SweepsOn m seen seat
      by free e h o F = absurd h
      by (descending key d) e h o F = absurd h
      by (reading s) e h o F = absurd h
      by (sweeping v) e (place, places, d) o (before, opens, V) = record {
        vacuum = v;
        stage = e;
        place = place;
        places = places;
        done = d;
        redirects = let h : v.stamp ≡ since = ap stamp_in o in subst (λ (n : ℕ). Redirects seen.table n) (sym h) R;
        before = before;
        cover = V.vacuum.cover;
      }

  pub small : (inserter scanner sweeper block at since : ℕ) → 3 ≤ block → stage_holds (stage_at seen inserter) block ≡ true → HasCopy (stage_at seen scanner) →
      HasDone (stage_at seen sweeper) → opened_at (stage_at seen sweeper) ≡ Some (at, since) → Redirects seen.table since → IsSmall m seen
  small inserter scanner sweeper block at since low holds copy done opened R = record {
    whole = whole;
    inserter = inserter;
    inserts = inserts inserter block low holds;
    scanner = scanner;
    scans = scans scanner copy;
    sweeper = sweeper;
    sweeps = sweeps sweeper at since done opened R;
  }
