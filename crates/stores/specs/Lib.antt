pub mod Size
pub mod Front
pub mod Words
pub mod Marks
pub mod Maps
