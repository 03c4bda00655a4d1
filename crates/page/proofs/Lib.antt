pub mod Inversions
pub mod Numerals
pub mod Cells
pub mod Drawing
pub mod Trips
mod Writing
