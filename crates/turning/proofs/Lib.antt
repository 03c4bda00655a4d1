mod Turns
mod Turned
mod Through
