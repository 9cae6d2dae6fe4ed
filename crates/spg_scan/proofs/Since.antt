-- That a row which lived since a scan opened is not used again.
use Rattle.std.proofs.Common.{◌≡◌, inl, inr, ℕ, List, [], ◌∷◌, Option, sym, ap, ◌∙◌}
use Rattle.spg_base.specs.Row.{RowAt}
use Rattle.spg_opclass.specs.declared.query.Query.{Query}
use Rattle.spg_rows.specs.History.{History, scanning, open_of}
use Rattle.spg_rows.specs.Lives.{Life, lives, IsOneOf, IsLast, HasLast}
use Rattle.spg_rows.specs.Legal.{IsLegal}
use Rattle.spg_rows.specs.Right.{HasLived}
use Rattle.spg_rows.specs.Scans.{HasLivedWith}
use Rattle.spg_rows.proofs.Histories.{sane_from_legal}
use Rattle.spg_scan.specs.Since.{older, NoneReused, ScanReuses}

one_last : {Key : Type 0} (ls : List (Life Key)) (a b : Life Key) → IsLast a ls → IsLast b ls → a ≡ b
one_last [] a b h k = absurd h
one_last (l ∷ ls) a b h k = sym h ∙ k

module _ {O Key Recon Cond : Type 0} where
  pub scan_reuses : ScanReuses O Key Recon Cond
  scan_reuses past before query seat legal scans r life h lived =
      let (at, is, since) = ((sane_from_legal past legal).old r life h).killed lived.put in
      lived.not_killed (at, is, since seat before query scans)

  -- the life that has lived is the last one
  pub lived_is_last : (before : History O Key Recon Cond) (ls : List (Life Key)) → ((life : Life Key) → IsOneOf life (older ls) → HasLived before life → ⊥) → (life : Life Key) → IsOneOf life ls → HasLived before life → IsLast life ls
  lived_is_last before [] none life h lived = absurd h
  lived_is_last before (l ∷ ls) none life (inl is) lived = is
  lived_is_last before (l ∷ ls) none life (inr h) lived = absurd (none life h lived)

  -- the key with which a row has lived since is that of its last life
  pub lived_key_since : (before past : History O Key Recon Cond) → NoneReused before past → (r : RowAt) (key : Option Key) → HasLivedWith before past r key → (life : Life Key) → HasLast past r life → life.key ≡ key
  lived_key_since before past none r key (was, has, is, lived) life last = ap (λ (x : Life Key). x.key) (one_last (lives r past) life was last (lived_is_last before (lives r past) (none r) was has lived)) ∙ is
