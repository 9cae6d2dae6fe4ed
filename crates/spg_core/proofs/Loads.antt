-- A state that is made of the pages of an image.
use Rattle.std.proofs.Common.{◌≡◌, ℕ, ◌+◌, List, [], ◌∷◌, ◌++◌, Option, None, length, get_or, map, take, reverse, replicate, inl, inr, add-one, zero, suc, ◌<◌, ◌≤◌, refl, sym, ap, ◌∙◌, subst, append_assoc, append-nil, arith}
use Rattle.std.specs.BTreeSet.{IsEmpty}
use Rattle.std.specs.Borrow.{Bor}
use Rattle.std.specs.List.Sorted.{IsPermutation}
use Rattle.std.proofs.Math.Seq.{take-suc}
use Rattle.std.proofs.lemmas.List.{map-append, reverse-append, get_or-map}
use Rattle.std.proofs.lemmas.List.Sorted.{IsPermutation-sym, IsPermutation-map}
use Rattle.spg_base.specs.Row.{RowAt}
use Rattle.spg_base.specs.declared.recorded.Origin.{Origin}
use Rattle.spg_opclass.specs.Meaning.{Meaning}
use Rattle.spg_forest.specs.Shape.{Shape}
use Rattle.spg_rows.specs.declared.entry.Entry.{Entry}
use Rattle.spg_rows.specs.declared.event.Event.{Event}
use Rattle.spg_rows.specs.declared.event.Event.TheVariants.{OpenInsert, Put}
use Rattle.spg_rows.specs.declared.table.RowState.TheVariants as row_state
use Rattle.spg_rows.specs.History.{History}
use Rattle.spg_rows.specs.Table as rows
use Rattle.spg_rows.specs.Loads.{load_events, IsListed, AreApart}
use Rattle.spg_tree.specs.Table.{sheets_of, latch_at}
use Rattle.spg_seats.specs.Slots.{stage_in}
use Rattle.spg_seats.specs.Opening.{RowsTell}
use Rattle.spg_bounds.specs.Bounds.{DropsAreLate, IsBounded}
use Rattle.spg_bounds.proofs.Beginning.{loaded_bounded}
use Rattle.spg_keys.specs.declared.listing.Listed.{Listed}
use Rattle.spg_verdict.specs.Entries.{entries_of, AreEntries}
use Rattle.spg_verdict.proofs.Listed.{apart_permuted, listed_permuted}
use Rattle.spg_adopt.proofs.Loading.{adopted_kept, events_more, rows_more, rows_alike, free_yet}
use Rattle.spg_core.specs.declared.kept.Kept.TheInside.{Inside}
use Rattle.spg_core.specs.declared.slot.Slot.{Slot}
use Rattle.spg_core.specs.declared.slot.Slot.TheVariants.{Free}
use Rattle.spg_core.specs.Slot.{stage_of}
use Rattle.spg_core.specs.Kept.{IsState, fields_of}
use Rattle.spg_core.specs.Loading.{LoadsRow, origin_of}
use Rattle.spg_core.proofs.Slots.{stages_new, all_stages_free}
use Rattle.spg_core.proofs.Steps.{rows_in}

-- ---- lists of entries

listed_front : {Key : Type 0} (xs ys : List (Entry Key)) (row : RowAt) (key : Option Key) → IsListed xs row key → IsListed (xs ++ ys) row key
listed_front [] ys row key h = absurd h
listed_front (x ∷ xs) ys row key (inl e) = inl e
listed_front (x ∷ xs) ys row key (inr h) = inr (listed_front xs ys row key h)

listed_last : {Key : Type 0} (xs : List (Entry Key)) (e : Entry Key) → IsListed (xs ++ e ∷ []) e.row e.key
listed_last [] e = inl (refl, refl)
listed_last (x ∷ xs) e = inr (listed_last xs e)

apart_front : {Key : Type 0} (xs : List (Entry Key)) (e : Entry Key) → AreApart (xs ++ e ∷ []) → AreApart xs
apart_front [] e a = tt
apart_front (x ∷ xs) e (n, a) = ((λ key h. n key (listed_front xs (e ∷ []) x.row key h)), apart_front xs e a)

not_yet : {Key : Type 0} (xs : List (Entry Key)) (e : Entry Key) (key : Option Key) → AreApart (xs ++ e ∷ []) → IsListed xs e.row key → ⊥
not_yet [] e key a h = h
not_yet {Key} (x ∷ xs) e key (n, a) (inl (p, q)) = n e.key (subst (λ (r : RowAt). IsListed (xs ++ e ∷ []) r e.key) (sym p) (listed_last xs e))
not_yet (x ∷ xs) e key (n, a) (inr h) = not_yet xs e key a h

-- the first entries, and the next one
first_listed : {Key : Type 0} (xs : List (Listed Key)) (i : ℕ) (x : Listed Key) (row : RowAt) (key : Option Key) → i < length xs → x ≡ get_or xs i x → IsListed (entries_of (take i xs) ++ x.entry ∷ []) row key → IsListed (entries_of xs) row key
first_listed [] i x row key l e h = absurd (omega arith)
first_listed {Key} (y ∷ ys) zero x row key l e (inl (p, q)) = inl (ap (λ (z : Listed Key). z.entry.row) (sym e) ∙ p, ap (λ (z : Listed Key). z.entry.key) (sym e) ∙ q)
first_listed (y ∷ ys) zero x row key l e (inr h) = absurd h
first_listed (y ∷ ys) (suc i) x row key l e (inl h) = inl h
first_listed (y ∷ ys) (suc i) x row key l e (inr h) = inr (first_listed ys i x row key (omega arith) e h)

pub first_apart : {Key : Type 0} (xs : List (Listed Key)) (i : ℕ) (x : Listed Key) → AreApart (entries_of xs) → i < length xs → x ≡ get_or xs i x → AreApart (entries_of (take i xs) ++ x.entry ∷ [])
first_apart [] i x a l e = absurd (omega arith)
first_apart (y ∷ ys) zero x (n, a) l e = ((λ key h. h), tt)
first_apart (y ∷ ys) (suc i) x (n, a) l e = ((λ key h. n key (first_listed ys i x y.entry.row key (omega arith) e h)), first_apart ys i x a (omega arith) e)

pub first_more : {Key : Type 0} (xs : List (Listed Key)) (i : ℕ) (x : Listed Key) → i < length xs → x ≡ get_or xs i x → entries_of (take (i + 1) xs) ≡ entries_of (take i xs) ++ x.entry ∷ []
first_more {Key} xs i x l e = ap (λ k. entries_of (take k xs)) (add-one i) ∙ ap entries_of (take-suc xs i x l) ∙ map-append (λ (z : Listed Key). z.entry) (take i xs) (get_or xs i x ∷ []) ∙ ap (λ (z : Listed Key). entries_of (take i xs) ++ z.entry ∷ []) (sym e)

pub take_whole : {X : Type 0} (xs : List X) (i : ℕ) → length xs ≤ i → take i xs ≡ xs
take_whole [] zero h = refl
take_whole [] (suc i) h = refl
take_whole (x ∷ xs) zero h = absurd (omega arith)
take_whole (x ∷ xs) (suc i) h = ap (λ ys. x ∷ ys) (take_whole xs i (omega arith))

-- ---- references

-- to what they lead
abbrev pub nows : {X : Type 0} → List (Bor X) → List X
nows refs = map (λ b. b.now) refs

nows_long : {X : Type 0} (refs : List (Bor X)) → length (nows refs) ≡ length refs
nows_long [] = refl
nows_long (r ∷ refs) = ap suc (nows_long refs)

now_at : {X : Type 0} (refs : List (Bor X)) (i : ℕ) (r : Bor X) → i < length refs → r ≡ get_or refs i r → r.now ≡ get_or (nows refs) i r.now
now_at {X} refs i r l e = ap (λ (b : Bor X). b.now) e ∙ sym (get_or-map (λ (b : Bor X). b.now) refs i r r.now l)

pub nows_moved : {X : Type 0} (xs : List X) (old new : List (Bor X)) → nows old ≡ xs → IsPermutation old new → IsPermutation xs (nows new)
nows_moved {X} xs old new e p = subst (λ (ys : List X). IsPermutation ys (nows new)) e (IsPermutation-map (λ (b : Bor X). b.now) old new p)

refs_apart : {Key : Type 0} (listed : List (Listed Key)) (leaves refs : List (Bor (Listed Key))) → refs ≡ leaves → IsPermutation listed (nows leaves) → AreApart (entries_of listed) → AreApart (entries_of (nows refs))
refs_apart {Key} listed leaves refs e p a = apart_permuted listed (nows refs) (subst (λ (ls : List (Bor (Listed Key))). IsPermutation listed (nows ls)) (sym e) p) a

-- ---- the journal and the rows of a load

module _ {O Key Recon Cond : Type 0} (m : Meaning Key Recon Cond) where
  abbrev journal_of : List (Listed Key) → List (Event O Key Recon Cond)
  journal_of xs = load_events (entries_of xs)

  pub next_free : (xs : List (Listed Key)) (i : ℕ) (x : Listed Key) (table : rows.Table O Key Recon Cond) → AreApart (entries_of xs) → i < length xs → x ≡ get_or xs i x → RowsTell table (reverse (journal_of (take i xs))) → rows.state_in table x.entry.row ≡ row_state.Free
  next_free xs i x table a l e R =
      let b = first_apart xs i x a l e in
      R.states x.entry.row ∙ free_yet O m (entries_of (take i xs)) x.entry.row (apart_front (entries_of (take i xs)) x.entry b) (λ key h. not_yet (entries_of (take i xs)) x.entry key b h)

  pub next_events : (xs : List (Listed Key)) (i : ℕ) (x : Listed Key) (events : List (Event O Key Recon Cond)) → i < length xs → x ≡ get_or xs i x → events ≡ journal_of (take i xs) → (events ++ OpenInsert 0 x.entry.row x.entry.key ∷ []) ++ Put 0 x.entry.row ∷ [] ≡ journal_of (take (i + 1) xs)
  next_events xs i x events l e q =
      append_assoc events (OpenInsert 0 x.entry.row x.entry.key ∷ []) (Put 0 x.entry.row ∷ [])
      ∙ ap (λ (es : List (Event O Key Recon Cond)). es ++ OpenInsert 0 x.entry.row x.entry.key ∷ Put 0 x.entry.row ∷ []) q ∙ sym (events_more m (entries_of (take i xs)) x.entry) ∙ ap (λ (es : List (Entry Key)). load_events es) (sym (first_more xs i x l e))

  pub next_rows : (xs : List (Listed Key)) (i : ℕ) (x : Listed Key) (old new : rows.Table O Key Recon Cond) → AreApart (entries_of xs) → i < length xs → x ≡ get_or xs i x → RowsTell old (reverse (journal_of (take i xs))) → LoadsRow old new x.entry → RowsTell new (reverse (journal_of (take (i + 1) xs)))
  next_rows xs i x old new a l e R L =
      subst (λ (es : List (Entry Key)). RowsTell new (reverse (load_events {O = O} {Recon = Recon} {Cond = Cond} es))) (sym (first_more xs i x l e))
      (rows_more m (entries_of (take i xs)) x.entry old L.middle new (first_apart xs i x a l e) R L.claimed L.key L.put L.keys)

  -- the rows are put in another order than the entries are listed
  pub rows_moved : (xs ys : List (Listed Key)) (table : rows.Table O Key Recon Cond) → IsPermutation xs ys → AreApart (entries_of xs) → RowsTell table (reverse (journal_of ys)) → RowsTell table (reverse (journal_of xs))
  rows_moved xs ys table p a R = rows_alike m (entries_of ys) (entries_of xs) table (apart_permuted xs ys p a) a
      (λ row key h. listed_permuted ys xs row key (IsPermutation-sym xs ys p) h)
      (λ row key h. listed_permuted xs ys row key p h) R

  -- ---- the leaves in the order of their rows, by references

  pub refs_free : (listed : List (Listed Key)) (leaves refs : List (Bor (Listed Key))) (i : ℕ) (r : Bor (Listed Key)) (table : rows.Table O Key Recon Cond) → refs ≡ leaves → IsPermutation listed (nows leaves) → AreApart (entries_of listed) → i < length refs → r ≡ get_or refs i r →
      RowsTell table (reverse (journal_of (take i (nows refs)))) → rows.state_in table r.now.entry.row ≡ row_state.Free
  refs_free listed leaves refs i r table e p a l q R = next_free (nows refs) i r.now table (refs_apart listed leaves refs e p a) (omega (arith, l, nows_long refs)) (now_at refs i r l q) R

  pub refs_next : (listed : List (Listed Key)) (leaves refs : List (Bor (Listed Key))) (i : ℕ) (r : Bor (Listed Key)) (old new : rows.Table O Key Recon Cond) → refs ≡ leaves → IsPermutation listed (nows leaves) → AreApart (entries_of listed) → i < length refs → r ≡ get_or refs i r →
      RowsTell old (reverse (journal_of (take i (nows refs)))) → LoadsRow old new r.now.entry → RowsTell new (reverse (journal_of (take (i + 1) (nows refs))))
  refs_next listed leaves refs i r old new e p a l q R L = next_rows (nows refs) i r.now old new (refs_apart listed leaves refs e p a) (omega (arith, l, nows_long refs)) (now_at refs i r l q) R L

  pub refs_all : (listed : List (Listed Key)) (leaves refs : List (Bor (Listed Key))) (i : ℕ) (table : rows.Table O Key Recon Cond) → refs ≡ leaves → IsPermutation listed (nows leaves) → AreApart (entries_of listed) → length refs ≤ i →
      RowsTell table (reverse (journal_of (take i (nows refs)))) → RowsTell table (reverse (journal_of listed))
  refs_all listed leaves refs i table e p a l R =
      rows_moved listed (nows refs) table (subst (λ (ls : List (Bor (Listed Key))). IsPermutation listed (nows ls)) (sym e) p) a
      (subst (λ (xs : List (Listed Key)). RowsTell table (reverse (journal_of xs))) (take_whole (nows refs) i (omega (arith, l, nows_long refs))) R)

  -- the fields of the state
  pub loaded_state : (s : Inside O Key Recon Cond) (es : List (Listed Key)) → Shape m (sheets_of s.table) → AreEntries m (sheets_of s.table) es → ((b : ℕ) → latch_at s.table b ≡ None) → s.journal.events ≡ journal_of es → s.slots.items ≡ replicate 64 Free → RowsTell s.rows (reverse (journal_of es)) →
      s.vacuums ≡ [] → IsEmpty s.targets.rows → IsEmpty s.later.rows → s.origin ≡ origin_of s.table → IsState m s
  loaded_state s es H E latches events slots R vacuums targets later origin = adopted_kept m (entries_of es) (fields_of s) (record {
    shape = H;
    apart = E.apart;
    exact = E.exact;
    latches = latches;
    journal = events;
    stages = ap (map stage_of) slots ∙ stages_new 64;
    rows = subst (λ (es : List (Event O Key Recon Cond)). RowsTell s.rows (reverse es)) (sym events) R;
    targets = λ r. ap (λ (ks : List RowAt). rows_in ks r) targets;
    later = λ r. ap (λ (ks : List RowAt). rows_in ks r) later;
    vacuums = vacuums;
    limit = sym (ap (λ (o : Origin). o.limit) origin);
    loaded = ap (λ (o : Origin). o.loaded) origin;
  })

  -- a load gives up no insert
  late_onto : (origin : Origin) (es : List (Entry Key)) (past : History O Key Recon Cond) → DropsAreLate origin past → DropsAreLate origin (reverse (load_events es) ++ past)
  late_onto origin [] past h = h
  late_onto origin (e ∷ es) past h =
      subst (λ (p : History O Key Recon Cond). DropsAreLate origin p) (sym (twice (load_events es) (Put 0 e.row) (OpenInsert 0 e.row e.key) past)) (late_onto origin es (Put 0 e.row ∷ OpenInsert 0 e.row e.key ∷ past) h)
    where
      twice : (xs : List (Event O Key Recon Cond)) (a b : Event O Key Recon Cond) (past : History O Key Recon Cond) → reverse (b ∷ a ∷ xs) ++ past ≡ reverse xs ++ (a ∷ b ∷ past)
      twice xs a b past = ap (λ l. l ++ past) (reverse-append (b ∷ a ∷ []) xs) ∙ append_assoc (reverse xs) (a ∷ b ∷ []) past

  loads_late : (origin : Origin) (es : List (Entry Key)) (events : List (Event O Key Recon Cond)) → events ≡ load_events es → DropsAreLate origin (reverse events)
  loads_late origin es events e =
      subst (λ (j : List (Event O Key Recon Cond)). DropsAreLate origin (reverse j)) (sym e)
      (subst (λ (p : History O Key Recon Cond). DropsAreLate origin p) (append-nil (reverse (load_events es))) (late_onto origin es [] tt))

  -- a loaded state is within the bounds
  pub loaded_account : (s : Inside O Key Recon Cond) (es : List (Listed Key)) → IsState m s → s.journal.events ≡ journal_of es → s.slots.items ≡ replicate 64 Free → s.origin ≡ origin_of s.table → IsBounded m (fields_of s)
  loaded_account s es kept events slots origin = loaded_bounded m (fields_of s) kept
      (λ seat. ap (λ (l : List (Slot O Key Recon Cond)). stage_in (map stage_of l) seat) slots ∙ all_stages_free 64 seat)
      (sym (ap (λ (o : Origin). o.pages) origin))
      (sym (ap (λ (o : Origin). o.clock) origin))
      (loads_late s.origin (entries_of es) s.journal.events events)
