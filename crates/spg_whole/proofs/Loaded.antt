-- In a state that was made of entries nothing is open.
use Rattle.std.proofs.Common.{◌≡◌, ◌==◌, Bool, true, false, if◌then◌else◌, List, [], ◌∷◌, ◌++◌, reverse, refl, sym, ap, ◌∙◌, subst, append_assoc, append-nil}
use Rattle.std.proofs.lemmas.List.{reverse-append}
use Rattle.spg_rows.specs.declared.entry.Entry.{Entry}
use Rattle.spg_rows.specs.declared.event.Event.{Event}
use Rattle.spg_rows.specs.declared.event.Event.TheVariants.{OpenInsert, Put}
use Rattle.spg_rows.specs.History.{History, Opened, nothing, inserting, open_of}
use Rattle.spg_rows.specs.Loads.{load_events}
use Rattle.spg_core.specs.Seen.{Seen, past_of}
use Rattle.spg_whole.specs.Calls.{AllClosed}

closed_by : {O Key Recon Cond : Type 0} (b : Bool) (x rest : Opened O Key Recon Cond) → rest ≡ nothing → (if b then nothing else (if b then x else rest)) ≡ nothing
closed_by true x rest e = refl
closed_by false x rest e = e

module _ {O Key Recon Cond : Type 0} where
  twice : (xs : List (Event O Key Recon Cond)) (a b : Event O Key Recon Cond) (past : History O Key Recon Cond) → reverse (b ∷ a ∷ xs) ++ past ≡ reverse xs ++ (a ∷ b ∷ past)
  twice xs a b past = ap (λ l. l ++ past) (reverse-append (b ∷ a ∷ []) xs) ∙ append_assoc (reverse xs) (a ∷ b ∷ []) past

  closed_onto : (es : List (Entry Key)) (past : History O Key Recon Cond) → AllClosed past → AllClosed (reverse (load_events es) ++ past)
  closed_onto [] past h = h
  closed_onto (e ∷ es) past h =
      subst (λ (p : History O Key Recon Cond). AllClosed p) (sym (twice (load_events es) (Put 0 e.row) (OpenInsert 0 e.row e.key) past))
      (closed_onto es (Put 0 e.row ∷ OpenInsert 0 e.row e.key ∷ past) (λ seat. closed_by (0 == seat) (inserting e.row e.key) (open_of seat past) (h seat)))

  pub loaded_closed : (es : List (Entry Key)) (seen : Seen O Key Recon Cond) → seen.journal ≡ load_events es → AllClosed (past_of seen)
  loaded_closed es seen e =
      subst (λ (j : List (Event O Key Recon Cond)). AllClosed (reverse j)) (sym e)
      (subst (λ (p : History O Key Recon Cond). AllClosed p) (append-nil (reverse (load_events es))) (closed_onto es [] (λ seat. refl)))
