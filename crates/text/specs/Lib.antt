pub mod Steps
pub mod Shown
pub mod Examples
