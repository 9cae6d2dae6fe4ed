-- Lists of leaves added to a page, each as a chain, and what a root page becomes.
use Rattle.std.specs.Prelude.{ℕ, zero, suc, Bool, true, List, [], ◌∷◌, Option, Some, None, cond, nat_eq}
use Rattle.spg_base.specs.Row.{RowAt}
use Rattle.spg_forest.specs.View.{Place, Leaf}
use Rattle.spg_forest.specs.Tuples.{Tuple, Inner}
use Rattle.spg_forest.specs.Pages.{place}
use Rattle.spg_forest.specs.Sheets.{Sheet, free_place}
use Rattle.spg_page.specs.Reads.{leaf_in, frame_in}
use Rattle.spg_chain.specs.Listed.{chained, HaveRoom}

-- the leaves of these rows and rests
abbrev pub leaves_with : List RowAt → List (List ℕ) → List Leaf
leaves_with [] rests = []
leaves_with (r ∷ rs) [] = []
leaves_with (r ∷ rs) (q ∷ qs) = record { row = r; rest = q } ∷ leaves_with rs qs

-- the leaves of the tuples that go to a node, in their order
abbrev pub taken_by : ℕ → List Tuple → List ℕ → List Leaf
taken_by j [] nodes = []
taken_by j (t ∷ ts) [] = []
taken_by j (t ∷ ts) (n ∷ nodes) = cond (nat_eq n j) (leaf_in t ∷ taken_by j ts nodes) (taken_by j ts nodes)

-- where the chain of such leaves begins
abbrev pub head_of : List Tuple → List Leaf → Option ℕ
head_of ts [] = None
head_of ts (l ∷ ls) = Some (suc (free_place ts))

-- the downlink to it
abbrev pub downlink : ℕ → Option ℕ → Option Place
downlink b None = None
downlink b (Some o) = Some (place b o)

-- the lists of so many nodes from node k on, one after another, and the downlinks to them
abbrev pub placed : List Tuple → (ℕ → List Leaf) → ℕ → ℕ → List Tuple
placed ts L k zero = ts
placed ts L k (suc n) = placed (chained ts 0 (L k)) L (suc k) n

abbrev pub downlinks : ℕ → List Tuple → (ℕ → List Leaf) → ℕ → ℕ → List (Option Place)
downlinks b ts L k zero = []
downlinks b ts L k (suc n) = downlink b (head_of ts (L k)) ∷ downlinks b (chained ts 0 (L k)) L (suc k) n

-- the lists of so many nodes from node k on have room on the page, put one after another
abbrev pub HaveRooms : List Tuple → (ℕ → List Leaf) → ℕ → ℕ → Type 0
HaveRooms ts L k zero = Unit {0}
HaveRooms ts L k (suc n) = HaveRoom ts (L k) × HaveRooms (chained ts 0 (L k)) L (suc k) n

-- the page of a root that is this inner tuple with these downlinks
abbrev pub inner_root : Bool → Tuple → List (Option Place) → Sheet
inner_root nulls inner links = record { inner = true; nulls = nulls; tuples = Inner (frame_in inner) links ∷ [] }
