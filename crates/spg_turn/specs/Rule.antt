-- The rule of the counted lock, and what each step tells.
use Rattle.std.specs.Prelude.{◌≡◌, ◌≢◌, ◌⊎◌, ℕ, ◌+◌, ◌%◌, ◌<◌, ◌≤◌, Bool, true, false, List, [], ◌∷◌, length, drop, Option, Some, None}
use mathlib.Core.Option as maybe
use lib.ListN.{get_elem?}
use Rattle.atomic_table.specs.Table.{State, Me, Step}
use Rattle.spg_base.specs.declared.recorded.Origin.{Origin}
use Rattle.spg_turn.specs.declared.rule.Stage.{Stage}
use Rattle.spg_turn.specs.declared.rule.Stage.TheVariants.{Idle, Waiting, Holding}
use Rattle.spg_turn.specs.declared.rule.View.{View}
use Rattle.spg_turn.specs.Views.{StartsWith, by_seat, kept_of, longer, grown}

-- how many tickets there are before they begin again
abbrev pub cycle : ℕ
cycle = 18446744073709551616

abbrev pub ticket_of : Stage → Option ℕ
ticket_of Idle = None
ticket_of (Waiting t) = Some t
ticket_of (Holding t) = Some t

abbrev pub weight : Stage → ℕ
weight Idle = 0
weight (Waiting t) = 1
weight (Holding t) = 1

abbrev pub is_live : Bool → ℕ
is_live true = 0
is_live false = 1

abbrev pub is_holding : Stage → Bool
is_holding Idle = false
is_holding (Waiting t) = false
is_holding (Holding t) = true

module _ {E : Type 0} where
  abbrev pub tickets_out : List (View E) → ℕ
  tickets_out [] = 0
  tickets_out (v ∷ vs) = weight v.stage + tickets_out vs

  abbrev pub live : List (View E) → ℕ
  live [] = 0
  live (v ∷ vs) = is_live v.spent + live vs

-- what there is
pub record Facts (S E : Type 0) : Type 0 where
  -- the next ticket and the ticket that is served
  pub next : ℕ
  pub now : ℕ
  -- the length of the journal when the lock was made
  pub base : ℕ
  -- how many seats came back, of how many
  pub back : ℕ
  pub many : ℕ
  pub origin : Origin
  -- the journal
  pub list : List E
  -- what the seats that came back had added
  pub kept : List (ℕ × List E)
  pub homes : List (maybe.Option (Option S))

-- what a seat that is not spent knows is so
pub record Fits {S E : Type 0} (seat_of : E → ℕ) (x : Facts S E) (j : ℕ) (v : View E) : Type 0 where
  pub number : v.number ≡ j
  pub base : v.base ≡ x.base
  pub met : v.met ≡ x.base
  pub origin : v.origin ≡ x.origin
  -- the journal begins with what it has seen
  pub begins : StartsWith x.list v.seen
  pub left : StartsWith x.list v.left
  pub right : StartsWith x.list v.right
  -- of its own entries since the lock was made, the journal has just those that it added
  pub own : by_seat seat_of j (drop x.base x.list) ≡ v.mine
  -- its ticket was given and is not past
  pub ranged : (t : ℕ) → ticket_of v.stage ≡ Some t → (x.now ≤ t) × (t < x.next)
  -- who has the state has the ticket that is served, and has seen the whole journal
  pub holding : (t : ℕ) → v.stage ≡ Holding t → (t ≡ x.now) × (v.seen ≡ x.list) × (x.homes ≡ maybe.none ∷ [])
  pub first : j ≡ 0 → (v.given ≡ x.many) × (v.back ≡ x.back) × (v.kept ≡ x.kept)

pub record Kept {S E : Type 0} (entries : S → List E) (seat_of : E → ℕ) (origin_of : S → Origin) (s : State (Option S) (View E)) : Type 0 where
  pub facts : Facts S E
  -- a bell may have any value
  pub bells : List ℕ
  pub words_are : s.words ≡ (facts.next % cycle) ∷ (facts.now % cycle) ∷ length facts.list ∷ bells
  pub homes_are : s.homes ≡ facts.homes
  pub many_is : length s.views ≡ facts.many
  pub few : facts.many ≤ 64
  -- as many tickets are out as there are from the one that is served to the next
  pub counted : tickets_out s.views + facts.now ≡ facts.next
  -- each seat is not spent, or came back
  pub alive : live s.views + facts.back ≡ facts.many
  pub based : facts.base ≤ length facts.list
  -- the state is in the slot, with this journal and origin, or a seat has it
  pub place :
      ((y : S) × (facts.homes ≡ maybe.some (Some y) ∷ []) × (entries y ≡ facts.list) × (origin_of y ≡ facts.origin))
      ⊎ ((j : ℕ) × (v : View E) × (t : ℕ) × (get_elem? s.views j ≡ maybe.some v) × (v.spent ≡ false) × (v.stage ≡ Holding t) × (facts.homes ≡ maybe.none ∷ []))
  pub each_seat : (j : ℕ) (v : View E) → get_elem? s.views j ≡ maybe.some v → v.spent ≡ false → Fits seat_of facts j v
  -- two seats with one ticket are one seat
  pub apart : (i j : ℕ) (v w : View E) (t : ℕ) → get_elem? s.views i ≡ maybe.some v → get_elem? s.views j ≡ maybe.some w → ticket_of v.stage ≡ Some t → ticket_of w.stage ≡ Some t → i ≡ j
  -- some seat has seen the whole journal
  pub whole : (j : ℕ) × (v : View E) × (get_elem? s.views j ≡ maybe.some v) × (v.spent ≡ false) × (v.seen ≡ facts.list)
  -- of a seat that came back, or was never given, the journal has just the entries that were kept
  pub joined : (n : ℕ) → ((v : View E) → get_elem? s.views n ≡ maybe.some v → v.spent ≡ true) → by_seat seat_of n (drop facts.base facts.list) ≡ kept_of facts.kept n
  pub unkept : (n : ℕ) → facts.many ≤ n → kept_of facts.kept n ≡ []
  pub idle_spent : (j : ℕ) (v : View E) → get_elem? s.views j ≡ maybe.some v → v.spent ≡ true → v.stage ≡ Idle

abbrev Sat : Type 0 → Type 0 → Type 0
Sat S E = Me (Option S) (View E)

module _ {S E : Type 0} where
  -- the seat has drawn a ticket
  abbrev pub drew : Step (Option S) → Sat S E → ℕ → Sat S E → Type 0
  drew st m r m' = (t : ℕ) × (r ≡ t % cycle) × (m' ≡ (record m.0 { stage = Waiting t }, m.1))

  -- the seat has taken the state y
  abbrev pub Took : (S → List E) → (E → ℕ) → (S → Origin) → ℕ → S → Sat S E → Sat S E → Type 0
  Took entries seat_of origin_of t y m m' =
      (m' ≡ (record m.0 { stage = Holding t; seen = entries y }, (0, Some y) ∷ m.1)) × StartsWith (entries y) m.0.seen
      × (by_seat seat_of m.0.number (drop m.0.base (entries y)) ≡ m.0.mine) × (origin_of y ≡ m.0.origin)

  abbrev pub Takes : (S → List E) → (E → ℕ) → (S → Origin) → Sat S E → Sat S E → Type 0
  Takes entries seat_of origin_of m m' = (t : ℕ) × (y : S) × Took entries seat_of origin_of t y m m'

  -- the seat whose ticket is served takes the state, and another stays as it is
  abbrev pub looked : (S → List E) → (E → ℕ) → (S → Origin) → Step (Option S) → Sat S E → ℕ → Sat S E → Type 0
  looked entries seat_of origin_of st m r m' = (t : ℕ) → m.0.stage ≡ Waiting t
      → (r ≡ t % cycle → (y : S) × Took entries seat_of origin_of t y m m')
      × (r ≢ t % cycle → m' ≡ m)

  -- the journal is that of the state in the slot
  abbrev pub extended : (S → List E) → Step (Option S) → Sat S E → ℕ → Sat S E → Type 0
  extended entries st m r m' = (y : S) → m.1 ≡ (0, Some y) ∷ [] → m' ≡ (grown m.0 (entries y), m.1)

  -- the longer of the two lists begins with both, both seats had one base, and the first seat's counts are in range
  abbrev pub compared : Step (Option S) → Sat S E → ℕ → Sat S E → Type 0
  compared st m r m' = (m' ≡ (record m.0 { left = []; right = []; met = m.0.base }, m.1)) × StartsWith (longer m.0.left m.0.right) m.0.left × StartsWith (longer m.0.left m.0.right) m.0.right
      × (m.0.number ≡ 0 → (m.0.back < m.0.given) × (m.0.given ≤ 64)) × (m.0.met ≡ m.0.base)

  -- the seat has given the state back
  abbrev pub served : Step (Option S) → Sat S E → ℕ → Sat S E → Type 0
  served st m r m' = m' ≡ (record m.0 { stage = Idle }, [])

module _ {S E : Type 0} where
  abbrev pub rang : Step (Option S) → Sat S E → ℕ → Sat S E → Type 0
  rang st m r m' = m' ≡ m

  -- a seat that waits for nothing, and the numbers that stand beside it
  abbrev pub IsResting : Sat S E → ℕ → ℕ → ℕ → ℕ → Type 0
  IsResting m number seen given back =
      (m.1 ≡ []) × (m.0.stage ≡ Idle) × (m.0.spent ≡ false) × (m.0.left ≡ []) × (m.0.right ≡ [])
      × (m.0.number ≡ number) × (length m.0.seen ≡ seen) × (m.0.given ≡ given) × (m.0.back ≡ back) × (m.0.base ≤ seen)
      × (number ≢ 0 → (given ≡ 0) × (back ≡ 0)) × (m.0.met ≡ m.0.base)
      × (given ≤ 64) × (back < 64) × (number ≡ 0 → back < given)

  -- a seat that has the state out, with nothing in the slot
  abbrev pub IsHolding : Sat S E → ℕ → ℕ → ℕ → ℕ → Type 0
  IsHolding m number seen given back =
      (m.1 ≡ (0, None) ∷ []) × (is_holding m.0.stage ≡ true) × (m.0.spent ≡ false) × (m.0.left ≡ []) × (m.0.right ≡ [])
      × (m.0.number ≡ number) × (length m.0.seen ≡ seen) × (m.0.given ≡ given) × (m.0.back ≡ back) × (m.0.base ≤ seen)
      × (number ≢ 0 → (given ≡ 0) × (back ≡ 0)) × (m.0.met ≡ m.0.base)
      × (given ≤ 64) × (back < 64) × (number ≡ 0 → back < given)
