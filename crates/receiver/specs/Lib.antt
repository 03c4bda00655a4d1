pub mod Check
pub mod Numbers
pub mod Receiving
pub mod Meaning
pub mod Hearing
