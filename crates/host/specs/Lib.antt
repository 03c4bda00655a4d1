pub mod Drawing
pub mod Carrying
pub mod Laws
pub mod Examples
