-- Pages at another moment of the clock, and inserts of nulls over them.
use Rattle.std.proofs.Common.{[], ◌∷◌, ◌++◌, reverse, ◌≡◌, ℕ, ◌<◌, ◌≤◌, Bool, true, false, List, Option, Some, None, Result, Ok, Err, length, refl, sym, ap, ◌∙◌, subst, inl, arith}
use Rattle.std.proofs.lemmas.Bool.{false≢true}
use Rattle.std.proofs.lemmas.List.{reverse-append}
use Rattle.spg_base.specs.Row.{RowAt}
use Rattle.spg_opclass.specs.Meaning.{Meaning, is_tuple}
use Rattle.spg_opclass.specs.Laws.{MatchLaw}
use Rattle.spg_opclass.specs.declared.view.Choice.TheVariants.{Match}
use Rattle.spg_forest.specs.Pages.{IsFresh}
use Rattle.spg_forest.specs.Sheets.{Sheet, Sheets}
use Rattle.spg_forest.specs.Shape.{Shape, Represents, IsRestOf, IsTupleOf, spots}
use Rattle.spg_forest.specs.Spot.{Frame}
use Rattle.spg_forest.specs.Classes.{key_of}
use Rattle.spg_forest.specs.Follows.{GoesBelow}
use Rattle.spg_forest.proofs.Follows.{match_goes}
use Rattle.spg_page.specs.Reads.{frame_in}
use Rattle.spg_forest.proofs.Keeping.{entry_of}
use Rattle.spg_rows.specs.History.{History}
use Rattle.spg_rows.specs.Legal.{IsLegal, IsAllowed}
use Rattle.spg_rows.specs.Rows.{is_claimed, is_present}
use Rattle.spg_rows.specs.declared.event.Event.{Event}
use Rattle.spg_rows.proofs.Histories.{sane_from_legal}
use Rattle.spg_rows.proofs.Uses.{unclaimed_absent}
use Rattle.spg_forest.specs.View.{Place}
use Rattle.spg_forest.specs.Tuples.{Tuple}
use Rattle.spg_forest.specs.Sheets.{links}
use Rattle.spg_tree.specs.Table.{Table, sheets_of, tuple_at}
use Rattle.spg_tree.specs.Descents.{Descending, in_nulls}
use Rattle.spg_descend.specs.Carried.{IsCarried}
use Rattle.spg_descend.specs.Enters.{opened_for}
use Rattle.spg_descend.specs.Leaves.{parent_block, stand_block}
use Rattle.spg_descend.specs.Follows.{IsAtInner, tuple_place, link_of, stand_below, latched, left_behind, table_below, FollowsNode, CarriesBelow}
use Rattle.spg_descend.specs.declared.enter.Entered.TheVariants.{In}
use Rattle.spg_core.specs.Seen.{IsPresentWith}
use Rattle.spg_seats.specs.Descending.{Stands, StandsAt}
use Rattle.spg_core.specs.Stepping.{SamePages}
use Rattle.spg_core.proofs.Stands.{stands_same, child_stands, released_same, latched_same, same_trans}
use Rattle.spg_core.proofs.Chooses.{framed, key_given}
use Rattle.spg_descend.specs.Answers.{IsAnswered}

-- what is last in a legal journal was allowed after the rest
pub last_allowed : {O Key Recon Cond : Type 0} (events : List (Event O Key Recon Cond)) (e : Event O Key Recon Cond) → IsLegal (reverse (events ++ e ∷ [])) → IsAllowed (reverse events) e × IsLegal (reverse events)
last_allowed {O} {Key} {Recon} {Cond} events e legal = subst (λ (past : History O Key Recon Cond). IsLegal past) (reverse-append events (e ∷ [])) legal

pub ok_not_err : {T E : Type 0} (r : Result T E) (x : T) (e : E) → r ≡ Ok x → r ≡ Err e → ⊥
ok_not_err r x e ok err = (cc)

-- a well formed index stays one at a later moment
pub later : {Key Recon Cond : Type 0} (m : Meaning Key Recon Cond) (c d : ℕ) (ss : List Sheet) → c ≤ d → Shape m (record { clock = c; sheets = ss }) → Shape m (record { clock = d; sheets = ss })
later m c d ss le H = record {
  links = record {
    meta = H.links.meta;
    root = H.links.root;
    downlink = H.links.downlink;
    next = H.links.next;
    one = H.links.one;
    reached = H.links.reached;
    stamps = λ x y u e. let h : u < c = H.links.stamps x y u e in omega (arith, h, le);
  };
  rows = H.rows;
  keys = H.keys;
  pages = record {
    count = H.pages.count;
    each = H.pages.each;
    main = H.pages.main;
    nulls = H.pages.nulls;
    empty_root = H.pages.empty_root;
    trees = H.pages.trees;
    redirects = H.pages.redirects;
  };
}

module _ {O Key Recon Cond : Type 0} (m : Meaning Key Recon Cond) where
  -- no leaf has a row that is not claimed
  pub unclaimed_fresh : (S : Sheets) (past : History O Key Recon Cond) (row : RowAt) → Represents m S (IsPresentWith past) → IsLegal past → is_claimed row past ≡ false → IsFresh (spots S) row
  unclaimed_fresh S past row R legal unclaimed x l a e =
      let (key, h) = entry_of m S x l R.shape a in
      let p : is_present l.row past ≡ true = ((R.entries l.row key).0 h).0 in
      false≢true (sym (unclaimed_absent past (sane_from_legal past legal) l.row (ap (λ r. is_claimed r past) e ∙ unclaimed)) ∙ p)

-- below a node of an inner tuple the pages are the same, and the insert stands again
pub below : {Key Recon Cond : Type 0} (m : Meaning Key Recon Cond) (t t1 : Table) (d d2 : Descending Recon) (seat node : ℕ) (rest : List ℕ) → Shape m (sheets_of t) → Stands t d → IsAtInner t d.stand → node < length (links (tuple_at t (tuple_place d.stand))) → FollowsNode m t t1 d d2 seat node rest In → Shape m (sheets_of t1) × Stands t1 d2
below {Key} {Recon} m t t1 d d2 seat node rest H at i n (free, et, ed) =
    let x : Place = tuple_place d.stand in
    let st = stand_below (link_of t x node) in
    let s0 : SamePages t (table_below t d x st seat) = same_trans t (latched t (stand_block st) seat) (table_below t d x st seat) (latched_same t (stand_block st) seat) (released_same (latched t (stand_block st) seat) (left_behind (parent_block d.parent) x.block (stand_block st)) seat) in
    let s1 : SamePages t t1 = subst (λ (z : Table). SamePages t z) (sym et) s0 in
    let stands : StandsAt t (in_nulls d) st (Some (x, node)) = child_stands m t (in_nulls d) d.stand d.parent node H at i n in (
      subst (λ (S : Sheets). Shape m S) (sym s1.0) H,
      subst (λ (z : Descending Recon). Stands t1 z) (sym ed) (stands_same t t1 (in_nulls d) st (Some (x, node)) s1 stands),
    )

-- an inner tuple has a first node
pub first_node : {Key Recon Cond : Type 0} (m : Meaning Key Recon Cond) (t : Table) (d : Descending Recon) → Shape m (sheets_of t) → Stands t d → IsAtInner t d.stand → 0 < length (links (tuple_at t (tuple_place d.stand)))
first_node m t d H at i = let F = framed m t d H i at in subst (λ (u : Tuple). 0 < length (links u)) (sym F.tuple) F.nodes.some

-- the row of an insert that was just opened
pub opened_row : {Key Recon Cond : Type 0} (m : Meaning Key Recon Cond) (row : RowAt) (key : Option Key) → (opened_for m row key).row ≡ row
opened_row m row None = refl
opened_row m row (Some k) = refl

-- The node that the class names is there, and the insert goes below it
pub record Named {Key Recon Cond : Type 0} (m : Meaning Key Recon Cond) (t : Table) (d : Descending Recon) (node : ℕ) (rest : List ℕ) (key : Option Key) : Type 0 where
  pub there : node < length (links (tuple_at t (tuple_place d.stand)))
  pub label : node < length (frame_in (tuple_at t (tuple_place d.stand))).labels
  pub rest_of : IsRestOf m (in_nulls d) rest
  pub goes : GoesBelow m d.recon (frame_in (tuple_at t (tuple_place d.stand))) node rest key

pub named_node : {Key Recon Cond : Type 0} (m : Meaning Key Recon Cond) → MatchLaw m → (t : Table) (d : Descending Recon) → Shape m (sheets_of t) → Stands t d → IsAtInner t d.stand → in_nulls d ≡ false → (node : ℕ) (rest : List ℕ) → IsAnswered m t d (Match node rest) → (key : Option Key) → IsCarried m (sheets_of t) d key → Named m t d node rest key
named_node {Key} {Recon} m matches t d H at i main node rest (recon, er, ea) key C =
    let w : Frame = frame_in (tuple_at t (tuple_place d.stand)) in
    let F = framed m t d H i at in
    let ok : is_tuple m w ≡ true = subst (λ (b : Bool). IsTupleOf m b w) main F.kind in
    let (k, ek, q) = key_given m recon d.rest key (subst (λ (r : Option Recon). key_of m r d.rest ≡ Some key) er C.rebuilt) in
    let M = matches recon w d.rest k ok ek node rest ea in
    record {
      there = subst (λ (c : ℕ). node < c) (sym (ap (λ (u : Tuple). length (links u)) F.tuple ∙ F.nodes.each)) M.there;
      label = M.there;
      rest_of = subst (λ (b : Bool). IsRestOf m b rest) (sym main) M.well_formed;
      goes = subst (λ (r : Option Recon). GoesBelow m r w node rest key) (sym er)
          (subst (λ (z : Option Key). GoesBelow m (Some recon) w node rest z) (sym q) (match_goes m matches recon w d.rest rest k node node ok ek ea (inl refl)));
    }

-- once it is there the pages are the same, the insert stands again, and carries the key that it carried
pub led_below : {Key Recon Cond : Type 0} (m : Meaning Key Recon Cond) → MatchLaw m → (t t1 : Table) (d d2 : Descending Recon) (seat node : ℕ) (rest : List ℕ) → Shape m (sheets_of t) → Stands t d → IsAtInner t d.stand → in_nulls d ≡ false → IsAnswered m t d (Match node rest) →
    ((key : Option Key) × IsCarried m (sheets_of t) d key) → FollowsNode m t t1 d d2 seat node rest In → CarriesBelow m t t1 d d2 node rest In → Shape m (sheets_of t1) × Stands t1 d2 × ((key : Option Key) × IsCarried m (sheets_of t1) d2 key)
led_below m matches t t1 d d2 seat node rest H at i main answer (key, C) follows carries =
    let N = named_node m matches t d H at i main node rest answer key C in
    let (shape, stands) = below m t t1 d d2 seat node rest H at i N.there follows in
    (shape, stands, (key, carries key N.rest_of N.goes C))
