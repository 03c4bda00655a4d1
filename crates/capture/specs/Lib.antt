pub mod Offsets
pub mod Meaning
pub mod Replies
pub mod Shown
