-- An insert that goes on has done a section, or has changed.
use Rattle.std.proofs.Common.{◌≡◌, ◌⊎◌, inl, inr, ℕ, refl}
use Rattle.spg_opclass.specs.Meaning.{Meaning}
use Rattle.spg_core.specs.declared.answer.InsertOut.{InsertOut}
use Rattle.spg_core.specs.declared.answer.InsertOut.TheVariants as outs
use Rattle.spg_core.specs.declared.look.ApplyRefused.{ApplyRefused}
use Rattle.spg_core.specs.declared.look.ApplyRefused.TheVariants as refused
use Rattle.spg_core.specs.Seen.{Seen}
use Rattle.spg_core.specs.Looking.{StepsInsert}
use Rattle.spg_desk.specs.declared.ended.Looked.TheVariants as looked
use Rattle.spg_desk.specs.Acting.{ended_of}
use Rattle.spg_desk.specs.Progress.{GoesOn, LooksOn, refused_end}

module _ {O Key Recon Cond : Type 0} (m : Meaning Key Recon Cond) (old new : Seen O Key Recon Cond) (seat : ℕ) where
  pub stepped_on : (Asked : Type 0) (out : InsertOut) → StepsInsert m old new seat out → GoesOn m old new seat Asked (ended_of out)
  stepped_on Asked outs.Descended steps = inl (outs.Descended, refl, steps)
  stepped_on Asked outs.Restructured steps = inl (outs.Restructured, refl, steps)
  stepped_on Asked (outs.Restarted block by) steps = inl (outs.Restarted block by, refl, steps)
  stepped_on Asked outs.Put steps = tt

  pub looked_on : (out : InsertOut) → StepsInsert m old new seat out → LooksOn m old new seat (looked.Stepped (ended_of out))
  looked_on outs.Descended steps = inl (outs.Descended, refl, steps)
  looked_on outs.Restructured steps = inl (outs.Restructured, refl, steps)
  looked_on (outs.Restarted block by) steps = inl (outs.Restarted block by, refl, steps)
  looked_on outs.Put steps = tt

  pub refused_on : (Asked : Type 0) (why : ApplyRefused) → (why ≡ refused.Changed → Asked → ⊥) → GoesOn m old new seat Asked (refused_end why)
  refused_on Asked refused.Changed changed = inr (changed refl)
  refused_on Asked refused.IndexFull changed = tt
  refused_on Asked refused.ClockFull changed = tt
  refused_on Asked refused.Memory changed = tt
