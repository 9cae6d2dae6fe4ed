-- What a copy of the values that are divided tells of them.
use Rattle.std.proofs.Common.{◌≡◌, ℕ, Bool, List, [], ◌∷◌, ◌++◌, ◌⊎◌, ⊎_elim, Option, Some, None, IfSome, length, length-append, refl, sym, ap, ◌∙◌, subst, arith, ◌<◌}
use Rattle.std.proofs.lemmas.List.{length-map}
use Rattle.spg_base.specs.Row.{RowAt}
use Rattle.spg_opclass.specs.Meaning.{Meaning}
use Rattle.spg_opclass.specs.Laws.{CodeLaw}
use Rattle.spg_opclass.specs.Copies.{RestsAt, AreKeys}
use Rattle.spg_forest.specs.View.{Place, Leaf}
use Rattle.spg_forest.specs.Shape.{Shape}
use Rattle.spg_forest.specs.Sheets.{Sheet, sheet_at}
use Rattle.spg_forest.specs.Links.{leaves_on}
use Rattle.spg_forest.specs.Divisions.{rests_of}
use Rattle.spg_chain.specs.Chains.{chain_members, leaves_of}
use Rattle.spg_tree.specs.Table.{Table, sheets_of, tuples_at}
use Rattle.spg_tree.specs.Descents.{Descending, in_nulls}
use Rattle.spg_tree.specs.declared.stand.Stand.{Stand}
use Rattle.spg_tree.specs.declared.stand.Stand.TheVariants.{Start, Root, At, Empty}
use Rattle.spg_descend.specs.Carried.{carried, IsCarried}
use Rattle.spg_descend.specs.Puts.{IsAtLeaves}
use Rattle.spg_descend.specs.Below.{IsAtChain, IsChainBelow}
use Rattle.spg_split.specs.declared.division.Division.{Division}
use Rattle.spg_split.specs.Splits.{IsAtRoot}
use Rattle.spg_split.specs.Cases.{IsSplitSpot}
use Rattle.spg_split.specs.Dividing.{AreAllLive, GiveKeys, IsDivided, rows_of}
use Rattle.spg_split.specs.Parting.{leaves_to, rests_at, IsBunchOf, IsPartedAt, DividesBunch}
use Rattle.spg_split.proofs.Divided.{give_all}
use Rattle.spg_split.proofs.Standing as standing
use Rattle.spg_split.proofs.ChainStanding as chain_standing

divided_as : {Key Recon Cond : Type 0} (m : Meaning Key Recon Cond) (r : Option Recon) (rests : List (List ℕ)) (o : Option (RestsAt Recon)) (n : ℕ) (dv : Division) → IsBunchOf r rests o → length rests ≡ n → DividesBunch m o n dv → IsDivided m r rests dv
divided_as m r rests None n dv b e D = subst (λ z. IsDivided m z rests dv) (sym b) (D rests e)
divided_as m r rests (Some c) n dv (a, b) e D = subst (λ z. IsDivided m z rests dv) (sym a) (subst (λ qs. IsDivided m (Some c.recon) qs dv) b D)

counted_as : {Recon : Type 0} (r : Option Recon) (rests : List (List ℕ)) (o : Option (RestsAt Recon)) (n : ℕ) → IsBunchOf r rests o → length rests ≡ n → IfSome o (λ b. length b.rests ≡ n)
counted_as r rests None n b e = tt
counted_as r rests (Some c) n (a, b) e = ap length b ∙ e

-- the division of a copy of the values where the insert stands, whose rows are read
module _ {Recon : Type 0} (t : Table) (d : Descending Recon) (s : Stand) (o : Option (RestsAt Recon)) (rows : List RowAt) (n : ℕ) (st : d.stand ≡ s) (B : IsPartedAt t d o) (R : rows ≡ rows_of (leaves_to t d s)) (N : n ≡ length rows) where
  bunch : IsBunchOf d.recon (rests_of (leaves_to t d s)) o
  bunch = subst (λ (z : Stand). IsBunchOf d.recon (rests_of (leaves_to t d z)) o) st B

  count : length (rests_of (leaves_to t d s)) ≡ n
  count = length-map (leaves_to t d s) (λ (l : Leaf). l.rest) ∙ sym (length-map (leaves_to t d s) (λ (l : Leaf). l.row)) ∙ ap length (sym R) ∙ sym N

  pub count_is : IfSome o (λ b. length b.rests ≡ n)
  count_is = counted_as d.recon (rests_of (leaves_to t d s)) o n bunch count

  pub division_is : {Key Cond : Type 0} (m : Meaning Key Recon Cond) (dv : Division) → DividesBunch m o n dv → IsDivided m d.recon (rests_of (leaves_to t d s)) dv
  division_is m dv D = divided_as m d.recon (rests_of (leaves_to t d s)) o n dv bunch count D

-- the rows of a page and that of the insert
pub rows_are : {Recon : Type 0} (t : Table) (root : ℕ) (d : Descending Recon) (s : Sheet) (rows : List RowAt) → s ≡ sheet_at (sheets_of t) root → rows ≡ rows_of (leaves_on s.tuples ++ carried d ∷ []) → rows ≡ rows_of (leaves_on (tuples_at t root) ++ carried d ∷ [])
rows_are t root d s rows e a = subst (λ (z : Sheet). rows ≡ rows_of (leaves_on z.tuples ++ carried d ∷ [])) e a

pub chain_rows_are : {Recon : Type 0} (t : Table) (x : Place) (d : Descending Recon) (s : Sheet) (rows : List RowAt) → s ≡ sheet_at (sheets_of t) x.block → rows ≡ rows_of (leaves_of (chain_members s.tuples x.offset) ++ carried d ∷ []) →
    rows ≡ rows_of (leaves_of (chain_members (tuples_at t x.block) x.offset) ++ carried d ∷ [])
chain_rows_are t x d s rows e a = subst (λ (z : Sheet). rows ≡ rows_of (leaves_of (chain_members z.tuples x.offset) ++ carried d ∷ [])) e a

-- there is one at least
behind : (ls : List Leaf) (l : Leaf) → 0 < length (rests_of (ls ++ l ∷ []))
behind ls l = let a = length-map (ls ++ l ∷ []) (λ (x : Leaf). x.rest) in let b = length-append ls (l ∷ []) in omega arith

abbrev IsSpotAt : Table → Bool → Stand → Option (Place × ℕ) → Type 0
IsSpotAt t nulls s parent = (IsAtRoot s × IsAtLeaves (sheets_of t) nulls s) ⊎ IsChainBelow t nulls s parent

some_at : {Recon : Type 0} (t : Table) (d : Descending Recon) (nulls : Bool) (s : Stand) (parent : Option (Place × ℕ)) → IsSpotAt t nulls s parent → 0 < length (rests_of (leaves_to t d s))
some_at t d nulls Start parent h = absurd (⊎_elim (λ a. a.0) (λ b. b) h)
some_at t d nulls (Root b) parent h = behind (leaves_on (tuples_at t b)) (carried d)
some_at t d nulls (At x) parent h = behind (leaves_of (chain_members (tuples_at t x.block) x.offset)) (carried d)
some_at t d nulls Empty parent h = absurd (⊎_elim (λ a. a.0) (λ b. b) h)

pub some_rests : {Recon : Type 0} (t : Table) (d : Descending Recon) (rests : List (List ℕ)) → IsSplitSpot t d → rests ≡ rests_at t d → 0 < length rests
some_rests t d rests h e = subst (λ (qs : List (List ℕ)). 0 < length qs) (sym e) (some_at t d (in_nulls d) d.stand d.parent h)

-- the insert is at a root, or below one
spot_root : {Recon : Type 0} (t : Table) (d : Descending Recon) (root : ℕ) → d.stand ≡ Root root → IsSplitSpot t d → IsAtLeaves (sheets_of t) (in_nulls d) d.stand
spot_root t d root st h = ⊎_elim (λ a. a.1) (λ b. absurd (subst (λ (s : Stand). IsChainBelow t (in_nulls d) s d.parent) st b)) h

spot_chain : {Recon : Type 0} (t : Table) (d : Descending Recon) (x : Place) → d.stand ≡ At x → IsSplitSpot t d → IsAtChain t d
spot_chain t d x st h = ⊎_elim (λ a. absurd (subst (λ (s : Stand). IsAtRoot s) st a.0)) (λ b. b) h

parent_there : (t : Table) (nulls : Bool) (x : Place) (parent : Option (Place × ℕ)) → IsChainBelow t nulls (At x) parent → (p : Place) × (i : ℕ) × (parent ≡ Some (p, i))
parent_there t nulls x None h = absurd h
parent_there t nulls x (Some (p, i)) h = (p, i, refl)

-- the leaves of a root leaf page are all that is there; and each of the rests gives a key
module _ {Key Recon Cond : Type 0} (m : Meaning Key Recon Cond) (codes : CodeLaw m) (t : Table) (d : Descending Recon) (H : Shape m (sheets_of t)) (A : IsSplitSpot t d) (K : (key : Option Key) × IsCarried m (sheets_of t) d key) where
  at : (s : Stand) → d.stand ≡ s → IsSpotAt t (in_nulls d) s d.parent
  at s st = subst (λ (z : Stand). IsSpotAt t (in_nulls d) z d.parent) st A

  keys_at : (s : Stand) → d.stand ≡ s → GiveKeys m d.recon (rests_of (leaves_to t d s))
  keys_at Start st = absurd (⊎_elim (λ a. a.0) (λ b. b) (at Start st))
  keys_at (Root b) st = standing.keys m codes t d b H st (spot_root t d b st A) K
  keys_at (At x) st =
      let C = spot_chain t d x st A in
      let (p, i, pr) = parent_there t (in_nulls d) x d.parent (subst (λ (s : Stand). IsChainBelow t (in_nulls d) s d.parent) st C) in
      chain_standing.keys m codes t d x p i H st pr C K
  keys_at Empty st = absurd (⊎_elim (λ a. a.0) (λ b. b) (at Empty st))

  pub live_at : (root : ℕ) (s : Sheet) → d.stand ≡ Root root → s ≡ sheet_at (sheets_of t) root → AreAllLive s.tuples
  live_at root s st e = subst (λ (z : Sheet). AreAllLive z.tuples) (sym e) (standing.live_there m codes t d root H st (spot_root t d root st A) K).0

  pub bunch_keys : (r : Recon) (rests : List (List ℕ)) → d.recon ≡ Some r → rests ≡ rests_at t d → AreKeys m r rests
  bunch_keys r rests e f = give_all m r rests (subst (λ (z : Option Recon). GiveKeys m z rests) e (subst (λ (qs : List (List ℕ)). GiveKeys m d.recon qs) (sym f) (keys_at d.stand refl)))
