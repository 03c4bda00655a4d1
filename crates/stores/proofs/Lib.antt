mod Front
mod Words
mod Maps
