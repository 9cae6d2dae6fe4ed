-- A vacuum at its opening, and under sections of other seats.
use Rattle.std.proofs.Common.{ℕ, [], sym, subst, arith}
use Rattle.spg_opclass.specs.Meaning.{Meaning}
use Rattle.spg_cover.specs.Vacuum.{VacuumHolds, Of}
use Rattle.spg_cover.proofs.Own.{opens_law}
use Rattle.spg_cover.proofs.Elsewhere.{kept_by_adds, kept_by_leaves}
use Rattle.spg_tree.specs.Table.{sheets_of}
use Rattle.spg_vacuum.specs.Listing.{Listing}
use Rattle.spg_vacuum.specs.Kept.{OpensVacuum, AddsKeepVacuum, LeavesKeepVacuum}

pub opens_vacuum : {Key Recon Cond : Type 0} (m : Meaning Key Recon Cond) → OpensVacuum m
opens_vacuum m t v targets H c n p there = record {
  from = (omega arith);
  past = (omega arith);
  cover = subst (λ (l : Listing). VacuumHolds m (sheets_of t) v.stamp v.next l.done l.todo (Of targets)) (sym p)
      (subst (λ (b : ℕ). VacuumHolds m (sheets_of t) v.stamp b [] [] (Of targets)) (sym n) (subst (λ (s : ℕ). VacuumHolds m (sheets_of t) s 1 [] [] (Of targets)) (sym c) (opens_law m (sheets_of t) targets H there)));
}

pub adds_keep : {Key Recon Cond : Type 0} (m : Meaning Key Recon Cond) → AddsKeepVacuum m
adds_keep m t t2 v touched cost row key moved targets H A out K =
    let (lo, hi) = A.section.within.clock in let p = K.past in
    record { from = K.from; past = (omega arith); cover = kept_by_adds m (sheets_of t) (sheets_of t2) touched cost row key moved v.stamp v.next v.pending.done v.pending.todo targets H A K.past out K.cover }

pub leaves_keep : {Key Recon Cond : Type 0} (m : Meaning Key Recon Cond) → LeavesKeepVacuum m
leaves_keep m t t2 v touched cost since moved targets H L le K =
    let (lo, hi) = L.section.within.clock in let p = K.past in
    record { from = K.from; past = (omega arith); cover = kept_by_leaves m (sheets_of t) (sheets_of t2) touched cost since moved v.stamp v.next v.pending.done v.pending.todo targets H L le K.past K.cover }
