pub mod Octets
pub mod Steps
pub mod Progress
