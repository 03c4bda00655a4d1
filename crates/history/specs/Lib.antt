pub mod Trace
pub mod Words
pub mod Law
pub mod Runs
