pub mod Console
pub mod Keys
pub mod Messages
pub mod Numbers
