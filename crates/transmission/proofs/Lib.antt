mod Parts
pub mod Plainness
mod Trimming
