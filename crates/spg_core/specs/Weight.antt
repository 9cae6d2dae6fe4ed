-- The keys of the inserts that were opened.
pub use Rattle.spg_seats.specs.Slots.{opened_keys}
