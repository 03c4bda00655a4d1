pub mod Identity
pub mod Meaning
pub mod Numbers
pub mod Shown
pub mod Station
pub mod Terminal
