pub mod View
pub mod Shown
pub mod Moves
pub mod Parts
pub mod Edits
pub mod Writing
pub mod Laws
