pub mod Captions
pub mod Drawing
pub mod Keeps
pub mod PartsDrawn
pub mod Runs
pub mod Sizes
