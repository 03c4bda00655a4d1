pub mod Does
pub mod Events
pub mod Meaning
pub mod Same
pub mod Seen
pub mod Sends
