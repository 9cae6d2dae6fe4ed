-- The small scans hold what they must.
use Rattle.std.proofs.Common.{◌≡◌, ◌≤◌, inl, inr, true, false, [], ◌∷◌, Option, Some, None, refl, sym, ap, ◌∙◌, subst, arith}
use Rattle.std.proofs.lemmas.Bool.{false≢true}
use Rattle.spg_base.specs.Row.{RowAt, same_row}
use Rattle.spg_opclass.specs.Meaning.{Meaning}
use Rattle.spg_opclass.specs.Laws.{KeptLaw, CodeLaw, leaf_size}
use Rattle.spg_opclass.specs.declared.query.Query.TheVariants.{All}
use Rattle.spg_forest.specs.View.{Leaf}
use Rattle.spg_forest.specs.Pages.{place}
use Rattle.spg_forest.specs.Shape.{Represents}
use Rattle.spg_forest.specs.Examples.{new_sheets, one_sheets}
use Rattle.spg_forest.proofs.Examples.{new_index, one_entry}
use Rattle.spg_rows.specs.declared.event.Event.TheVariants.{OpenInsert, Put, OpenScan}
use Rattle.spg_rows.specs.declared.table.Stand.TheVariants as stand
use Rattle.spg_rows.specs.History.{History}
use Rattle.spg_rows.specs.Lives.{Life, lives}
use Rattle.spg_rows.specs.Rows.{present_in, key_in, is_present, state_of}
use Rattle.spg_rows.specs.Rows.{key_of as row_key}
use Rattle.spg_rows.specs.Legal.{IsLegal}
use Rattle.spg_rows.specs.Present.{IsPresentWith}
use Rattle.spg_rows.specs.Scans.{IsNeeded}
use Rattle.spg_rows.specs.Table as rows
use Rattle.spg_rows.proofs.RowOrder.{row_tells, same_row-refl}
use Rattle.spg_scan.specs.Items.{held}
use Rattle.spg_scan.specs.Scanning.{taken_of}
use Rattle.spg_scan.specs.Examples.{NewScan, one_put, all_opened, OneScan}
use Rattle.spg_scan.proofs.Opening.{scan_opens}
use Rattle.spg_scan.proofs.Gathering.{reads}

pub new_scan : {O Key Recon Cond : Type 0} (m : Meaning Key Recon Cond) → NewScan O Key Recon Cond m
new_scan m seat query = scan_opens m new_sheets [] seat query tt (let R = (new_index m).0 in record { shape = R.shape; entries = λ row key. (λ h. absurd ((R.entries row key).0 h), λ h. absurd (false≢true h.0)) })

-- ---- one row

same_from : (a b : RowAt) → a ≡ b → same_row a b ≡ true
same_from a b e = subst (λ (z : RowAt). same_row a z ≡ true) e (same_row-refl a)

abbrev its_life : {Key : Type 0} → Key → Life Key
its_life key = record { key = Some key; dropped = false; put = Some 1; kill = None; sweep = None }

module _ (O Key Recon Cond : Type 0) (row : RowAt) (key : Key) where
  -- the table of rows with this row live
  abbrev table : rows.Table O Key Recon Cond
  table = (row, record { key = Some key; stand = stand.Live }) ∷ []

  told : (r : RowAt) → rows.state_in table r ≡ state_of {O = O} {Key = Key} {Recon = Recon} {Cond = Cond} r (OpenScan 1 All ∷ Put 0 row ∷ OpenInsert 0 row (Some key) ∷ [])
  told r = elim (row_tells row r) [
    | inl same ↦ rw (same.0, same_from r row (sym same.1)) refl
    | inr other ↦ rw (other, apart r other) refl
  ]
    where
      apart : (r : RowAt) → same_row row r ≡ false → same_row r row ≡ false
      apart r other = elim (row_tells r row) [
        | inl same ↦ absurd (false≢true (sym other ∙ same_from row r (sym same.1)))
        | inr e ↦ e
      ]

module _ (O : Type 0) {Key Recon Cond : Type 0} (m : Meaning Key Recon Cond) (new : Leaf) (key : Key) where
  abbrev past : History O Key Recon Cond
  past = one_put new key

  itself : lives new.row past ≡ its_life key ∷ []
  itself = rw (same_row-refl new.row) refl

  another : (r : RowAt) → same_row new.row r ≡ false → lives r past ≡ []
  another r other = rw other refl

  -- the row is present, and no other
  present : (r : RowAt) (k : Option Key) → r ≡ new.row → k ≡ Some key → IsPresentWith past r k
  present r k is same = (
    ap (λ x. is_present x past) is ∙ ap present_in itself,
    ap (λ x. row_key x past) is ∙ ap key_in itself ∙ ap (λ x. Some x) (sym same),
  )

  only_it : (r : RowAt) (k : Option Key) → IsPresentWith past r k → (r ≡ new.row) × (k ≡ Some key)
  only_it r k h = elim (row_tells new.row r) [
    | inl same ↦ (sym same.1, let e : Some (Some key) ≡ Some k = sym (ap key_in itself) ∙ ap (λ x. row_key x past) same.1 ∙ h.1 in sym (cc e))
    | inr other ↦ absurd (false≢true (sym (ap present_in (another r other)) ∙ h.0))
  ]

  holds : m.rebuild m.start new.rest ≡ Some key → m.is_rest new.rest ≡ true → leaf_size new.rest ≤ 8156 → Represents m (one_sheets new) (IsPresentWith past)
  holds built rest fits =
      let R = (one_entry m new key built rest fits).0 in
      record { shape = R.shape; entries = λ r k. (λ h. let (a, b) = (R.entries r k).0 h in present r k a b, λ h. (R.entries r k).1 (only_it r k h)) }

  needed : IsNeeded m past (OpenScan 1 All ∷ past) All new.row
  needed = (its_life key, record { last = rw (same_row-refl new.row) refl; put = (1, refl, omega arith) }, refl, refl)

  taken : m.rebuild m.start new.rest ≡ Some key → new.row ∷ [] ≡ taken_of m (table O Key Recon Cond new.row key) All (Some m.start) (new ∷ [])
  taken built = rw (same_row-refl new.row, built) refl

pub one_scan : {O Key Recon Cond : Type 0} (m : Meaning Key Recon Cond) → KeptLaw m → CodeLaw m → OneScan O Key Recon Cond m
one_scan {O} {Key} {Recon} {Cond} m K C new key built rest fits =
    let before : History O Key Recon Cond = one_put new key in
    let now : History O Key Recon Cond = OpenScan 1 All ∷ before in
    let legal : IsLegal before = ((Some key, refl), ((refl, refl), tt)) in
    let R = holds O m new key built rest fits in
    let D = scan_opens m (one_sheets new) before 1 All legal R in
    (needed O m new key, D, reads m (one_sheets new) before now (all_opened m) 1 (table O Key Recon Cond new.row key) 0 (held (place 1 0) (Some m.start)) [] (new.row ∷ []) 1 K C (refl, legal) refl R (told O Key Recon Cond new.row key) refl (inl (refl, taken O m new key built)) D)
