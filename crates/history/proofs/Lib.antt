mod Actions
mod Damage
mod Invariant
pub mod Lawful
pub mod Longer
mod OneBit
mod Replies
