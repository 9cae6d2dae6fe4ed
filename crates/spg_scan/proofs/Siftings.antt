-- What a sifted copy gives is what a read of the copy gives.
use Rattle.std.proofs.Common.{◌≡◌, ℕ, Bool, true, false, cond, List, [], ◌∷◌, length, map, get_or, Option, Some, None, option_map, All as Each, refl, sym, ap, ◌∙◌, arith, subst}
use Rattle.std.specs.Prelude.{◌↔◌}
use Rattle.spg_base.specs.Row.{RowAt}
use Rattle.spg_opclass.specs.Meaning.{Meaning, is_tuple, matches_rebuilt, all_hold}
use Rattle.spg_opclass.specs.Laws.{KeptLaw}
use Rattle.spg_opclass.specs.Copies.{InnerAt, LeavesAt, IsInnerAt, matching, kept_at, matching_at}
use Rattle.spg_opclass.specs.Sifting.{nodes_of, rows_of as sifted_rows, AreAsked}
use Rattle.spg_opclass.specs.declared.copied.Copied.{Copied}
use Rattle.spg_opclass.specs.declared.copied.Copied.TheVariants.{Inner, Leaves}
use Rattle.spg_opclass.specs.declared.query.Query.{Query}
use Rattle.spg_opclass.specs.declared.query.Query.TheVariants.{All, Null, Where}
use Rattle.spg_forest.specs.View.{Place, Leaf}
use Rattle.spg_forest.specs.Spot.{Frame, Branch}
use Rattle.spg_forest.specs.Sheets.{Sheets}
use Rattle.spg_forest.specs.Classes.{down_of}
use Rattle.spg_forest.specs.Walk.{children_at, followed}
use Rattle.spg_rows.specs.Table as rows
use Rattle.spg_scan.specs.declared.pending.Kept.{Kept}
use Rattle.spg_scan.specs.declared.pending.Kept.TheVariants as kept
use Rattle.spg_scan.specs.Held.{leaves_with, kept_as}
use Rattle.spg_scan.specs.Items.{Item, held, inner, leaves, IsItem, hold_all, rows_of}
use Rattle.spg_scan.specs.Scanning.{Scanning, IsAskedAt, asks_for, replaced}
use Rattle.spg_scan.specs.Reading.{asked_rows, followed_at, Reads, met_of}
use Rattle.spg_scan.specs.Parts.{linked, rows_asked}
use Rattle.spg_scan.specs.Copying.{rests_of, conds_of, kept_copy, HasKept, TakesIn}
use Rattle.spg_scan.proofs.EachNode.{kept_all}

-- ---- leaves as rows and rests

rows_with : (rs : List RowAt) (ts : List (List ℕ)) → length ts ≡ length rs → rows_of (leaves_with rs ts) ≡ rs
rows_with [] ts e = refl
rows_with (r ∷ rs) [] e = absurd (omega (arith, e))
rows_with (r ∷ rs) (t ∷ ts) e = ap (λ (z : List RowAt). r ∷ z) (rows_with rs ts (omega (arith, e)))

rests_with : (rs : List RowAt) (ts : List (List ℕ)) → length ts ≡ length rs → rests_of (leaves_with rs ts) ≡ ts
rests_with [] [] e = refl
rests_with [] (t ∷ ts) e = absurd (omega (arith, e))
rests_with (r ∷ rs) [] e = absurd (omega (arith, e))
rests_with (r ∷ rs) (t ∷ ts) e = ap (λ (z : List (List ℕ)). t ∷ z) (rests_with rs ts (omega (arith, e)))

pub leaves_back : (ls : List Leaf) → leaves_with (rows_of ls) (rests_of ls) ≡ ls
leaves_back [] = refl
leaves_back (l ∷ ls) = ap (λ (z : List Leaf). l ∷ z) (leaves_back ls)

module _ {O Key Recon Cond : Type 0} (query : Query O Key Recon Cond) where
  -- the copy of kept leaves
  abbrev pub of_leaves : LeavesAt Recon → Kept O Key Recon Cond
  of_leaves c = kept.Leaves c

  pub kept_leaves : (c : LeavesAt Recon) → length c.rests ≡ length c.rows → kept_copy query (kept_as (of_leaves c)) ≡ Some (Leaves c (conds_of query))
  kept_leaves c e = λ k. Some (Leaves (record { recon = c.recon; rows = rows_with c.rows c.rests e k; rests = rests_with c.rows c.rests e k }) (conds_of query))

  -- whether a copy that was handed out is this one
  pub leaves_same : (k : Kept O Key Recon Cond) (copied : Copied O Key Recon Cond) (own other : LeavesAt Recon) (conds : List Cond) → k ≡ kept.Leaves own → copied ≡ Leaves other conds → length own.rests ≡ length own.rows →
      (kept_copy query (kept_as k) ≡ Some copied) ↔ ((own ≡ other) × (conds_of query ≡ conds))
  leaves_same k copied own other conds ek ec each =
      let base : kept_copy query (kept_as k) ≡ Some (Leaves own (conds_of query)) = ap (λ (z : Kept O Key Recon Cond). kept_copy query (kept_as z)) ek ∙ kept_leaves own each in (
        λ h. let f : Some (Leaves own (conds_of query)) ≡ Some (Leaves other conds) = sym base ∙ h ∙ ap (λ (z : Copied O Key Recon Cond). Some z) ec in (cc f, cc f),
        λ (a, b). base ∙ ap (λ (z : LeavesAt Recon). Some (Leaves z (conds_of query))) a ∙ ap (λ (z : List Cond). Some (Leaves other z)) b ∙ sym (ap (λ (z : Copied O Key Recon Cond). Some z) ec),
      )

-- ---- the nodes that were kept

pub linked_kept : {Key Recon Cond : Type 0} (m : Meaning Key Recon Cond) (recon : Recon) (w : Frame) (ns : List (Option Place)) (is : List ℕ) → linked ns (map (λ (i : ℕ). (i, m.down recon w i)) is) ≡ children_at (down_of m) (Some recon) w ns is
linked_kept m recon w ns [] = refl
linked_kept {Recon = Recon} m recon w ns (i ∷ is) = ap (λ (z : List (Place × Option Recon)). elim (get_or ns i None) [ None ↦ z | Some y ↦ (y, Some (m.down recon w i)) ∷ z ]) (linked_kept m recon w ns is)

pub kept_followed : {O Key Recon Cond : Type 0} (m : Meaning Key Recon Cond) → KeptLaw m → (query : Query O Key Recon Cond) (recon : Recon) (w : Frame) (ns : List (Option Place)) → m.is_recon recon ≡ true → is_tuple m w ≡ true → length ns ≡ length w.labels →
    m.kept recon w (conds_of query) ≡ followed m query (Some recon) w ns
kept_followed m law All recon w ns a b e = kept_all m law recon w ns a b e
kept_followed m law Null recon w ns a b e = kept_all m law recon w ns a b e
kept_followed m law (Where conds) recon w ns a b e = refl

-- ---- the rows that match

module _ {O Key Recon Cond : Type 0} (m : Meaning Key Recon Cond) (recon : Recon) where
  matching_is : (query : Query O Key Recon Cond) (conds : List Cond) → ((o : Option Key) → matches_rebuilt m conds o ≡ asks_for m query (option_map Some o)) → (ls : List Leaf) →
      matching m recon conds (rows_of ls) (rests_of ls) ≡ asked_rows m query (Some recon) ls
  matching_is query conds test [] = refl
  matching_is query conds test (l ∷ ls) =
      ap (λ (b : Bool). cond b (l.row ∷ matching m recon conds (rows_of ls) (rests_of ls)) (matching m recon conds (rows_of ls) (rests_of ls))) (test (m.rebuild recon l.rest))
      ∙ ap (λ (z : List RowAt). cond (asks_for m query (option_map Some (m.rebuild recon l.rest))) (l.row ∷ z) z) (matching_is query conds test ls)

  null_asks : (query : Query O Key Recon Cond) → query ≡ Null → (o : Option Key) → asks_for m query (option_map Some o) ≡ false
  null_asks Null e None = refl
  null_asks Null e (Some key) = refl
  null_asks All e o = cc
  null_asks (Where conds) e o = cc

  none_asked : (query : Query O Key Recon Cond) → query ≡ Null → (ls : List Leaf) → [] ≡ asked_rows m query (Some recon) ls
  none_asked query e [] = refl
  none_asked query e (l ∷ ls) = none_asked query e ls ∙ sym (ap (λ (b : Bool). cond b (l.row ∷ asked_rows m query (Some recon) ls) (asked_rows m query (Some recon) ls)) (null_asks query e (m.rebuild recon l.rest)))

  all_asks : (query : Query O Key Recon Cond) → query ≡ All → (o : Option Key) → matches_rebuilt m [] o ≡ asks_for m query (option_map Some o)
  all_asks All e None = refl
  all_asks All e (Some key) = refl
  all_asks Null e o = cc
  all_asks (Where conds) e o = cc

  where_asks : (query : Query O Key Recon Cond) (conds : List Cond) → query ≡ Where conds → (o : Option Key) → matches_rebuilt m conds o ≡ asks_for m query (option_map Some o)
  where_asks (Where own) conds e None = refl
  where_asks (Where own) conds e (Some key) = let f : own ≡ conds = cc e in ap (λ (z : List Cond). all_hold m z key) (sym f)
  where_asks All conds e o = cc
  where_asks Null conds e o = cc

  pub matching_asked : (query : Query O Key Recon Cond) (ls : List Leaf) → rows_asked query (matching m recon (conds_of query) (rows_of ls) (rests_of ls)) ≡ asked_rows m query (Some recon) ls
  matching_asked All ls = matching_is All [] (all_asks All refl) ls
  matching_asked Null ls = none_asked Null refl ls
  matching_asked (Where conds) ls = matching_is (Where conds) conds (where_asks (Where conds) conds refl) ls

-- ---- how a scan goes on by a copy

module _ {O Key Recon Cond : Type 0} (m : Meaning Key Recon Cond) (s s2 : Scanning O Key Recon Cond) (i : ℕ) where
  inner_asked : (query : Query O Key Recon Cond) (recon : Recon) (w : Frame) (ns : List (Option Place)) → Each (λ c. m.is_cond c ≡ true) (conds_of query) → IsAskedAt m (Branch w ns) query (Some recon)
  inner_asked All recon w ns h = tt
  inner_asked Null recon w ns h = tt
  inner_asked (Where conds) recon w ns h = h

  -- the item of a copied inner tuple
  inner_item : (query : Query O Key Recon Cond) (item : Item Recon) (at : InnerAt Recon) (conds : List Cond) → kept_copy query item ≡ Some (Inner at conds) → (item ≡ inner (Some at.recon) at.tuple at.links) × (conds ≡ conds_of query)
  inner_item query (held x r) at conds e = absurd (cc e)
  inner_item query (inner None w ns) at conds e = absurd (cc e)
  inner_item query (inner (Some recon) w ns) at conds e =
      let f : record { recon = recon; tuple = w; links = ns } ≡ at = cc e in
      (ap (λ (a : InnerAt Recon). inner (Some a.recon) a.tuple a.links) f, cc e)
  inner_item query (leaves None ls) at conds e = absurd (cc e)
  inner_item query (leaves (Some recon) ls) at conds e = absurd (cc e)

  -- the item of copied leaves
  leaves_item : (query : Query O Key Recon Cond) (item : Item Recon) (at : LeavesAt Recon) (conds : List Cond) → kept_copy query item ≡ Some (Leaves at conds) →
      (ls : List Leaf) × (item ≡ leaves (Some at.recon) ls) × (at.rows ≡ rows_of ls) × (at.rests ≡ rests_of ls) × (conds ≡ conds_of query)
  leaves_item query (held x r) at conds e = absurd (cc e)
  leaves_item query (inner None w ns) at conds e = absurd (cc e)
  leaves_item query (inner (Some recon) w ns) at conds e = absurd (cc e)
  leaves_item query (leaves None ls) at conds e = absurd (cc e)
  leaves_item query (leaves (Some recon) ls) at conds e =
      let f : record { recon = recon; rows = rows_of ls; rests = rests_of ls } ≡ at = cc e in
      (ls, ap (λ (a : LeavesAt Recon). leaves (Some a.recon) ls) f, ap (λ (a : LeavesAt Recon). a.rows) (sym f), ap (λ (a : LeavesAt Recon). a.rests) (sym f), cc e)

  pub takes_inner : KeptLaw m → (at : InnerAt Recon) (conds : List Cond) → HasKept s i (Inner at conds) → IsInnerAt m at → Each (λ c. m.is_cond c ≡ true) conds → s2 ≡ replaced s i (hold_all (linked at.links (kept_at m at conds))) [] 0 → TakesIn m s s2 i (Inner at conds)
  takes_inner law at conds (item, there, copy) is asked after =
      let (same, ec) = inner_item s.query item at conds copy in
      let nodes : m.kept at.recon at.tuple conds ≡ followed m s.query (Some at.recon) at.tuple at.links =
      ap (λ (z : List Cond). m.kept at.recon at.tuple z) ec ∙ kept_followed m law s.query at.recon at.tuple at.links is.recon is.tuple is.each in
      let kids : hold_all (linked at.links (kept_at m at conds)) ≡ hold_all (followed_at m s.query (Some at.recon) at.tuple at.links) =
      ap hold_all (linked_kept m at.recon at.tuple at.links (m.kept at.recon at.tuple conds) ∙ ap (children_at (down_of m) (Some at.recon) at.tuple at.links) nodes) in
      record {
        item = inner (Some at.recon) at.tuple at.links;
        items = hold_all (followed_at m s.query (Some at.recon) at.tuple at.links);
        found = [];
        at = subst (λ (z : Item Recon). IsItem s.items i z) same there;
        kept = subst (λ (z : Item Recon). kept_copy s.query z ≡ Some (Inner at conds)) same copy;
        reads = λ S table. (inner_asked s.query at.recon at.tuple at.links (subst (λ (z : List Cond). Each (λ c. m.is_cond c ≡ true) z) ec asked), record { nodes = record { each = is.each; some = is.some; same = is.same }; known = (is.recon, is.tuple) }, refl, refl);
        after = after ∙ ap (λ (z : List (Item Recon)). replaced s i z [] 0) kids;
      }

  pub takes_leaves : (at : LeavesAt Recon) (conds : List Cond) → HasKept s i (Leaves at conds) → s2 ≡ replaced s i [] (rows_asked s.query (matching_at m at conds)) 0 → TakesIn m s s2 i (Leaves at conds)
  takes_leaves at conds (item, there, copy) after =
      let (ls, same, er, et, ec) = leaves_item s.query item at conds copy in
      let found : rows_asked s.query (matching_at m at conds) ≡ asked_rows m s.query (Some at.recon) ls =
      ap (λ (z : List RowAt). rows_asked s.query (matching m at.recon conds z at.rests)) er ∙ ap (λ (z : List (List ℕ)). rows_asked s.query (matching m at.recon conds (rows_of ls) z)) et
      ∙ ap (λ (z : List Cond). rows_asked s.query (matching m at.recon z (rows_of ls) (rests_of ls))) ec ∙ matching_asked m at.recon s.query ls in
      record {
        item = leaves (Some at.recon) ls;
        items = [];
        found = asked_rows m s.query (Some at.recon) ls;
        at = subst (λ (z : Item Recon). IsItem s.items i z) same there;
        kept = subst (λ (z : Item Recon). kept_copy s.query z ≡ Some (Leaves at conds)) same copy;
        reads = λ S table. (refl, refl);
        after = after ∙ ap (λ (z : List RowAt). replaced s i [] z 0) found;
      }

  pub in_inner : KeptLaw m → (copied : Copied O Key Recon Cond) (at : InnerAt Recon) (conds : List Cond) → copied ≡ Inner at conds → HasKept s i copied → IsInnerAt m at → AreAsked m copied → (ns : List (Option Place)) (nodes : List (ℕ × Recon)) → ns ≡ at.links → nodes ≡ nodes_of m copied →
      s2 ≡ replaced s i (hold_all (linked ns nodes)) [] 0 → TakesIn m s s2 i copied
  in_inner law copied at conds e kept is asked ns nodes en ed after =
      subst (λ (z : Copied O Key Recon Cond). TakesIn m s s2 i z) (sym e)
      (takes_inner law at conds (subst (λ (z : Copied O Key Recon Cond). HasKept s i z) e kept) is (subst (λ (z : Copied O Key Recon Cond). AreAsked m z) e asked)
      (after ∙ ap (λ (z : List (Option Place)). replaced s i (hold_all (linked z nodes)) [] 0) en ∙ ap (λ (z : List (ℕ × Recon)). replaced s i (hold_all (linked at.links z)) [] 0) (ed ∙ ap (nodes_of m) e)))

  pub in_leaves : (copied : Copied O Key Recon Cond) (at : LeavesAt Recon) (conds : List Cond) → copied ≡ Leaves at conds → HasKept s i copied → (found : List RowAt) → found ≡ sifted_rows m copied → s2 ≡ replaced s i [] (rows_asked s.query found) 0 → TakesIn m s s2 i copied
  in_leaves copied at conds e kept found ef after =
      subst (λ (z : Copied O Key Recon Cond). TakesIn m s s2 i z) (sym e)
      (takes_leaves at conds (subst (λ (z : Copied O Key Recon Cond). HasKept s i z) e kept) (after ∙ ap (λ (z : List RowAt). replaced s i [] (rows_asked s.query z) 0) (ef ∙ ap (sifted_rows m) e)))

  -- what was copied was met when it was copied
  copy_met : (S : Sheets) (query : Query O Key Recon Cond) (item : Item Recon) (copied : Copied O Key Recon Cond) → kept_copy query item ≡ Some copied → met_of S item ≡ 0
  copy_met S query (held x r) copied e = absurd (cc e)
  copy_met S query (inner q w ns) copied e = refl
  copy_met S query (leaves q ls) copied e = refl

  pub taken_reads : (S : Sheets) (table : rows.Table O Key Recon Cond) (copied : Copied O Key Recon Cond) → TakesIn m s s2 i copied → Reads m S table s s2 i
  taken_reads S table copied T = record { item = T.item; items = T.items; found = T.found; at = T.at; reads = T.reads S table; after = T.after ∙ ap (λ (n : ℕ). replaced s i T.items T.found n) (sym (copy_met S s.query T.item copied T.kept)) }
