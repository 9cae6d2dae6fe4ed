-- The commands of a lane, as far as they have come; what a lane's pass knows before and after.
use Rattle.std.proofs.Common.{◌≡◌, ◌≤◌, ◌+◌, ℕ, List, [], ◌∷◌, ◌++◌, length, take, refl, sym, ap, ◌∙◌, subst}
use Rattle.std.proofs.lemmas.List.{take_all, length-take-le}
use Rattle.spg_base.specs.declared.recorded.Origin.{Origin}
use Rattle.spg_opclass.specs.Meaning.{Meaning}
use Rattle.spg_rows.specs.declared.event.Event.{Event}
use Rattle.spg_script.specs.declared.command.Command.{Command}
use Rattle.spg_script.specs.Speech.{Speech}
use Rattle.spg_report.specs.declared.record.Record.{Record}
use Rattle.spg_turn.specs.declared.rule.View.{View}
use Rattle.spg_desk.specs.Knowing.{own_since}
use Rattle.spg_perform.specs.Lanes.{CommandDone, CommandsDone, Went, WentOne}
use Rattle.spg_commands.proofs.Next.{IsNext, up_to_next}
use Rattle.spg_perform.proofs.LaneCalls.{commands_push, commands_long}

module _ {O Key Recon Cond : Type 0} (m : Meaning Key Recon Cond) (speech : Speech Key Cond) where
  pub went_none : (v : View (Event O Key Recon Cond)) → own_since v ≡ v.mine → Went m speech v v [] []
  went_none v whole = record { same = refl; done = refl; whole = whole }

  pub went_next : (v w x : View (Event O Key Recon Cond)) (commands : List Command) (k : ℕ) (rs : List Record) (c : Command) (r : Record) → IsNext commands k c
      → Went m speech v w (take k commands) rs → WentOne m speech w x c r → Went m speech v x (take (k + 1) commands) (rs ++ r ∷ [])
  went_next v w x commands k rs c r next went one =
      let number : w.number ≡ v.number = ap (λ (z : View (Event O Key Recon Cond)). z.number) went.same in
      let origin : w.origin ≡ v.origin = ap (λ (z : View (Event O Key Recon Cond)). z.origin) went.same in
      let done : CommandDone m speech v.origin v.number c w.seen x.seen r one.events = subst (λ (n : ℕ). CommandDone m speech v.origin n c w.seen x.seen r one.events) number (subst (λ (o : Origin). CommandDone m speech o w.number c w.seen x.seen r one.events) origin one.done) in
      record {
        same = one.same ∙ ap (λ (z : View (Event O Key Recon Cond)). record z { seen = x.seen; mine = x.mine }) went.same;
        done = subst (λ (cs : List Command). CommandsDone m speech v.origin v.number v.seen cs (rs ++ r ∷ []) x.seen) (sym (up_to_next commands k c next))
            (commands_push m speech v.origin v.number v.seen w.seen x.seen one.events (take k commands) rs c r went.done done);
        whole = one.whole;
      }

  pub went_count : (v w : View (Event O Key Recon Cond)) (commands : List Command) (k : ℕ) (rs : List Record) → k ≤ length commands → Went m speech v w (take k commands) rs → length rs ≡ k
  went_count v w commands k rs within went = commands_long m speech v.origin v.number v.seen w.seen (take k commands) rs went.done ∙ length-take-le k commands within

  pub went_all : (v w : View (Event O Key Recon Cond)) (commands : List Command) (k : ℕ) (rs : List Record) → length commands ≤ k → Went m speech v w (take k commands) rs → Went m speech v w commands rs
  went_all v w commands k rs all went = subst (λ (cs : List Command). Went m speech v w cs rs) (take_all k commands all) went
