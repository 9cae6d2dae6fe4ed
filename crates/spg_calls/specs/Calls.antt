-- What a call of a seat does to a journal that other seats write too.
use Rattle.std.specs.Prelude.{◌≡◌, ◌<◌, ◌≤◌, ◌-◌, ◌++◌, ℕ, List, [], length, take, drop, reverse, slice_get, IsSomeAnd, nat_lt, if◌then◌else◌}
use Rattle.std.specs.List.{AllByRecursion}
use Rattle.spg_base.specs.declared.names.Span.{Span}
use Rattle.spg_rows.specs.declared.event.Event.{Event}
use Rattle.spg_rows.specs.History.{History, seat_of, own}

-- the events from a position up to another
abbrev pub between : {X : Type 0} → ℕ → ℕ → List X → List X
between low high journal = take (high - low) (drop low journal)

-- what was before a position, the newest event first
abbrev pub past_at : {O Key Recon Cond : Type 0} → ℕ → List (Event O Key Recon Cond) → History O Key Recon Cond
past_at at journal = reverse (take at journal)

-- the event at this position is one of the seat
abbrev pub IsBySeat : {O Key Recon Cond : Type 0} → ℕ → List (Event O Key Recon Cond) → ℕ → Type 0
IsBySeat seat journal at = IsSomeAnd (slice_get journal at) (λ e. seat_of e ≡ seat)

abbrev pub GrewTo : {X : Type 0} → List X → List X → Type 0
GrewTo {X} old new = (more : List X) × (new ≡ old ++ more)

-- the list grew, and no event of the seat came
pub record Watched {O Key Recon Cond : Type 0} (seat : ℕ) (seen later : List (Event O Key Recon Cond)) : Type 0 where
  pub grew : GrewTo seen later
  pub none : own seat (drop (length seen) later) ≡ []

-- a call that had seen this list and has seen that one since did these events, and the span ends at the first and the last
pub record Called {O Key Recon Cond : Type 0} (seat : ℕ) (seen later : List (Event O Key Recon Cond)) (span : Span) (events : List (Event O Key Recon Cond)) : Type 0 where
  pub grew : GrewTo seen later
  pub low : length seen ≤ span.from
  pub order : span.from ≤ span.to
  pub high : span.to ≤ length later
  pub none_before : own seat (between (length seen) span.from later) ≡ []
  pub within : own seat (between span.from span.to later) ≡ events
  pub none_after : own seat (drop span.to later) ≡ []
  pub first : span.from < span.to → IsBySeat seat later span.from
  pub last : span.from < span.to → IsBySeat seat later (span.to - 1)

abbrev pub span_at : ℕ → ℕ → Span
span_at from to = record { from = from; to = to }

-- the span of sections that follow sections: one without an event adds nothing
abbrev pub joined : Span → Span → Span
joined first next = if nat_lt next.from next.to then (if nat_lt first.from first.to then span_at first.from next.to else next) else first

-- one section: no event of the seat since what had been seen, and these at the end
abbrev pub OneSection : (O Key Recon Cond : Type 0) → Type 0
OneSection O Key Recon Cond = (seat : ℕ) (seen lent events : List (Event O Key Recon Cond)) → Watched seat seen lent → AllByRecursion (λ e. seat_of e ≡ seat) events → Called seat seen (lent ++ events) (span_at (length lent) (length (lent ++ events))) events

-- sections without an event follow
abbrev pub WatchFollows : (O Key Recon Cond : Type 0) → Type 0
WatchFollows O Key Recon Cond = (seat : ℕ) (seen later last : List (Event O Key Recon Cond)) (span : Span) (events : List (Event O Key Recon Cond)) → Called seat seen later span events → Watched seat later last → Called seat seen last span events

-- a section with events follows one with events
abbrev pub NextFollows : (O Key Recon Cond : Type 0) → Type 0
NextFollows O Key Recon Cond = (seat : ℕ) (seen later last : List (Event O Key Recon Cond)) (s1 s2 : Span) (es1 es2 : List (Event O Key Recon Cond)) → s1.from < s1.to → s2.from < s2.to → Called seat seen later s1 es1 → Called seat later last s2 es2 → Called seat seen last (span_at s1.from s2.to) (es1 ++ es2)

pub record CallsAdd (O Key Recon Cond : Type 0) : Type 0 where
  pub one : OneSection O Key Recon Cond
  pub watch : WatchFollows O Key Recon Cond
  pub next : NextFollows O Key Recon Cond
  -- sections of any kind follow one another
  pub add : (seat : ℕ) (seen later last : List (Event O Key Recon Cond)) (s1 s2 : Span) (es1 es2 : List (Event O Key Recon Cond)) → Called seat seen later s1 es1 → Called seat later last s2 es2 → Called seat seen last (joined s1 s2) (es1 ++ es2)
