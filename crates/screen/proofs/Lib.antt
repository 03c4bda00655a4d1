pub mod Answers
pub mod Cells
pub mod Rows
pub mod Grids
pub mod Views
