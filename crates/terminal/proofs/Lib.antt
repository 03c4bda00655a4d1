mod Front
mod Heard
mod Texts
mod Told
