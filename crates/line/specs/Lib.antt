pub mod Kind
pub mod Octet
pub mod Parity
pub mod Octets
