pub mod BytePoints
pub mod Boards
pub mod WrittenBytes
