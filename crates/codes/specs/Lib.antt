pub mod Ascii
pub mod Classes
