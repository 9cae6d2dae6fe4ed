-- Commands, lanes and blocks, one after another.
use Rattle.std.proofs.Common.{◌≡◌, ◌≤◌, ◌+◌, ℕ, not, List, ◌++◌, length, take, sym, subst}
use Rattle.std.proofs.lemmas.List.{append_assoc, take_all}
use Rattle.spg_opclass.specs.Meaning.{Meaning}
use Rattle.spg_script.specs.Blocks.{Part}
use Rattle.spg_script.specs.Speech.{Speech}
use Rattle.spg_histories.specs.Tasks.{Task, lanes_tasks, parts_tasks}
use Rattle.spg_perform.specs.Session.{Session, Standing, LeadsOn}
use Rattle.spg_commands.proofs.Next.{IsNext}
use Rattle.spg_perform.proofs.BlocksTasks.{parts_next}

module _ {O Key Recon Cond : Type 0} (m : Meaning Key Recon Cond) (speech : Speech Key Cond) (code : ℕ) where
  -- commands that lead on, and then others
  leads_then : (a b c : Standing O Key Recon Cond) (first more all : List Task) → all ≡ first ++ more → LeadsOn m speech code a b first → LeadsOn m speech code b c more → LeadsOn m speech code a c all
  leads_then a b c first more all is one two = λ loaded origin start tasks s.
      let both : Session m speech code loaded origin start c.outside (tasks ++ (first ++ more)) c.seen c.records =
      subst (λ (ts : List Task). Session m speech code loaded origin start c.outside ts c.seen c.records) (append_assoc tasks first more) (two loaded origin start (tasks ++ first) (one loaded origin start tasks s)) in
      subst (λ (ts : List Task). Session m speech code loaded origin start c.outside (tasks ++ ts) c.seen c.records) (sym is) both

  -- ---- one more

  pub parts_lead : (a b c : Standing O Key Recon Cond) (parts : List Part) (i : ℕ) (p : Part) → IsNext parts i p
      → LeadsOn m speech code a b (parts_tasks 0 (take i parts)) → ((block : ℕ) → LeadsOn m speech code b c (lanes_tasks block 0 (not p.together) p.lanes))
      → LeadsOn m speech code a c (parts_tasks 0 (take (i + 1) parts))
  parts_lead a b c parts i p next so_far does =
      leads_then a b c (parts_tasks 0 (take i parts)) (lanes_tasks i 0 (not p.together) p.lanes) (parts_tasks 0 (take (i + 1) parts)) (parts_next parts i p next) so_far (does i)

  -- ---- all of them

  module _ (a b : Standing O Key Recon Cond) (i : ℕ) where
    pub parts_led : (parts : List Part) → length parts ≤ i → LeadsOn m speech code a b (parts_tasks 0 (take i parts)) → LeadsOn m speech code a b (parts_tasks 0 parts)
    parts_led parts all so_far = subst (λ (l : List Part). LeadsOn m speech code a b (parts_tasks 0 l)) (take_all i parts all) so_far
