pub mod Text
pub mod Held
pub mod Laws
