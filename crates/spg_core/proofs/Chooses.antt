-- What the class answers where an insert stands.
use Rattle.std.proofs.Common.{◌≡◌, ℕ, ◌<◌, Bool, true, false, List, ◌⊎◌, Option, Some, None, length, refl, sym, ap, ◌∙◌, subst, inl, inr, arith}
use Rattle.std.specs.Prelude.{option_map}
use Rattle.std.proofs.lemmas.List.{length-replicate}
use Rattle.spg_opclass.specs.Meaning.{Meaning, is_tuple}
use Rattle.spg_opclass.specs.Laws.{MatchLaw}
use Rattle.spg_opclass.specs.declared.view.Choice.TheVariants.{Match}
use Rattle.spg_forest.specs.View.{Place}
use Rattle.spg_forest.specs.Spot.{Frame}
use Rattle.spg_forest.specs.Tuples.{Tuple, Inner}
use Rattle.spg_forest.specs.Sheets.{sheet_at, links}
use Rattle.spg_forest.specs.Shape.{Shape, IsKindOf, IsTupleOf, IsRestOf, AreNodes}
use Rattle.spg_forest.specs.Classes.{key_of}
use Rattle.spg_forest.specs.Follows.{GoesBelow}
use Rattle.spg_forest.proofs.Follows.{match_goes}
use Rattle.spg_page.specs.Reads.{frame_in}
use Rattle.spg_tree.specs.Table.{Table, sheets_of, tuple_at}
use Rattle.spg_tree.specs.Descents.{Descending, in_nulls}
use Rattle.spg_descend.specs.Carried.{IsCarried}
use Rattle.spg_descend.specs.Follows.{IsAtInner, tuple_place}
use Rattle.spg_seats.specs.Descending.{Stands}
use Rattle.spg_core.specs.Stepping.{named}
use Rattle.spg_core.proofs.Stands.{inner_of, inner_stand}

-- The inner tuple at which an insert stands
pub record Framed {Key Recon Cond : Type 0} (m : Meaning Key Recon Cond) (t : Table) (d : Descending Recon) : Type 0 where
  pub links_are : List (Option Place)
  pub tuple : tuple_at t (tuple_place d.stand) ≡ Inner (frame_in (tuple_at t (tuple_place d.stand))) links_are
  pub nodes : AreNodes (frame_in (tuple_at t (tuple_place d.stand))) links_are
  pub kind : IsTupleOf m (in_nulls d) (frame_in (tuple_at t (tuple_place d.stand)))

pub framed : {Key Recon Cond : Type 0} (m : Meaning Key Recon Cond) (t : Table) (d : Descending Recon) → Shape m (sheets_of t) → IsAtInner t d.stand → Stands t d → Framed m t d
framed m t d H i st =
    let x : Place = tuple_place d.stand in
    let (root, tree, pos) = inner_stand m t (in_nulls d) d.stand d.parent H st i in
    let (w, ns, e) = inner_of (tuple_at t x) i.2 in
    let ew : w ≡ frame_in (tuple_at t x) = ap frame_in (sym e) in
    let k = subst (λ (u : Tuple). IsKindOf m (sheet_at (sheets_of t) x.block).inner (sheet_at (sheets_of t) x.block).nulls u) e ((H.pages.each x.block).kinds x.offset) in
    record {
      links_are = ns;
      tuple = e ∙ ap (λ (v : Frame). Inner v ns) ew;
      nodes = subst (λ (v : Frame). AreNodes v ns) ew k.1;
      kind = subst (λ (b : Bool). IsTupleOf m b (frame_in (tuple_at t x))) tree (subst (λ (v : Frame). IsTupleOf m (sheet_at (sheets_of t) x.block).nulls v) ew k.2);
    }

-- the key that an insert of the main tree carries
pub key_given : {Key Recon Cond : Type 0} (m : Meaning Key Recon Cond) (recon : Recon) (rest : List ℕ) (key : Option Key) → key_of m (Some recon) rest ≡ Some key → (k : Key) × (m.rebuild recon rest ≡ Some k) × (key ≡ Some k)
key_given {Key} m recon rest key e = go (m.rebuild recon rest) refl e
  where
    go : (o : Option Key) → m.rebuild recon rest ≡ o → option_map Some o ≡ Some key → (k : Key) × (m.rebuild recon rest ≡ Some k) × (key ≡ Some k)
    go None q e = cc
    go (Some k) q e = let c : Some k ≡ key = cc in (k, q, sym c)

module _ {Key Recon Cond : Type 0} (m : Meaning Key Recon Cond) (matches : MatchLaw m) (t : Table) (d : Descending Recon) (H : Shape m (sheets_of t)) (i : IsAtInner t d.stand) (st : Stands t d) (recon : Recon) (er : d.recon ≡ Some recon) (main : in_nulls d ≡ false) where
  abbrev w : Frame
  w = frame_in (tuple_at t (tuple_place d.stand))

  tuple_ok : is_tuple m w ≡ true
  tuple_ok = subst (λ (b : Bool). IsTupleOf m b w) main (framed m t d H i st).kind

  rebuilt : (key : Option Key) → IsCarried m (sheets_of t) d key → (k : Key) × (m.rebuild recon d.rest ≡ Some k) × (key ≡ Some k)
  rebuilt key C = key_given m recon d.rest key (subst (λ (r : Option Recon). key_of m r d.rest ≡ Some key) er C.rebuilt)

  -- the node is there
  pub node_there : (key : Option Key) → IsCarried m (sheets_of t) d key → (node : ℕ) (rest : List ℕ) (turn : ℕ) → turn < 8 → m.answer recon w d.rest ≡ Match node rest → named turn w node < length (links (tuple_at t (tuple_place d.stand)))
  node_there key C node rest turn low e =
      let (k, ek, q) = rebuilt key C in
      let F = framed m t d H i st in
      let M = matches recon w d.rest k tuple_ok ek node rest e in
      let n : length (links (tuple_at t (tuple_place d.stand))) ≡ length w.labels = ap (λ (u : Tuple). length (links u)) F.tuple ∙ F.nodes.each in
      subst (λ (c : ℕ). named turn w node < c) (sym n) (go w.all_same refl M.there F)
    where
      go : (b : Bool) → w.all_same ≡ b → node < length w.labels → Framed m t d → named turn w node < length w.labels
      go true s h F = let (label, l) = F.nodes.same s in let c : length w.labels ≡ 8 = ap (λ ls. length ls) l ∙ length-replicate 8 label in rw s (omega arith)
      go false s h F = rw s h

  pub rest_ok : (key : Option Key) → IsCarried m (sheets_of t) d key → (node : ℕ) (rest : List ℕ) → m.answer recon w d.rest ≡ Match node rest → IsRestOf m (in_nulls d) rest
  rest_ok key C node rest e =
      let (k, ek, q) = rebuilt key C in
      subst (λ (b : Bool). IsRestOf m b rest) (sym main) (matches recon w d.rest k tuple_ok ek node rest e).well_formed

  -- and the insert goes below it
  pub goes : (key : Option Key) → IsCarried m (sheets_of t) d key → (node : ℕ) (rest : List ℕ) (turn : ℕ) → turn < 8 → m.answer recon w d.rest ≡ Match node rest → GoesBelow m d.recon w (named turn w node) rest key
  goes key C node rest turn low e =
      let (k, ek, q) = rebuilt key C in
      subst (λ (r : Option Recon). GoesBelow m r w (named turn w node) rest key) (sym er)
      (subst (λ (z : Option Key). GoesBelow m (Some recon) w (named turn w node) rest z) (sym q)
      (match_goes m matches recon w d.rest rest k node (named turn w node) tuple_ok ek e (which w.all_same refl (node_there key C node rest turn low e))))
    where
      which : (b : Bool) → w.all_same ≡ b → named turn w node < length (links (tuple_at t (tuple_place d.stand))) → (named turn w node ≡ node) ⊎ ((w.all_same ≡ true) × (named turn w node < length w.labels))
      which true s h = let F = framed m t d H i st in inr (s, subst (λ (c : ℕ). named turn w node < c) (ap (λ (u : Tuple). length (links u)) F.tuple ∙ F.nodes.each) h)
      which false s h = inl (rw s refl)
