pub mod Over
pub mod Room
pub mod Numbers
