pub mod Pieces
pub mod Gathered
pub mod Asks
pub mod Lines
pub mod BuildLines
pub mod StandbyLines
pub mod Exact
pub mod ImageNames
