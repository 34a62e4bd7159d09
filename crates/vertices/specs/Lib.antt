pub mod Words
pub mod RawWords
pub mod Vertices
pub mod Rooms
