-- What the fields of a pending list say.
use Rattle.std.specs.Prelude.{◌≡◌, ℕ, ◌<◌, ◌≤◌, false, length, take, drop, get_or}
use Rattle.std.specs.BTreeSet.{contains}
use Rattle.spg_forest.specs.View.{Place}
use Rattle.spg_cover.specs.Vacuum.{has_place, AreHigh}
use Rattle.spg_vacuum.specs.declared.pending.Pending.TheInside.{Inside}
use Rattle.spg_vacuum.specs.Listing.{Listing, place_cmp}

abbrev pub listing_of : Inside → Listing
listing_of p = record { done = take p.done p.places.items; todo = drop p.done p.places.items }

abbrev pub nowhere : Place
nowhere = record { block = 0; offset = 0 }

-- the set has the places of the list, of which none stands twice, and each is on a block from 3 on
pub record IsPending (p : Inside) : Type 0 where
  pub few : p.done ≤ length p.places.items
  pub same : (x : Place) → contains place_cmp p.listed x ≡ has_place p.places.items x
  pub once : (i : ℕ) → i < length p.places.items → has_place (take i p.places.items) (get_or p.places.items i nowhere) ≡ false
  pub high : AreHigh p.places.items
