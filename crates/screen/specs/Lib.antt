pub mod Cells
pub mod Rows
pub mod Grid
pub mod Answers
pub mod View
