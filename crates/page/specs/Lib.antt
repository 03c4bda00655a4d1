pub mod Refusals
pub mod Numbers
pub mod Pages
pub mod Calls
pub mod Walk
pub mod Checks
