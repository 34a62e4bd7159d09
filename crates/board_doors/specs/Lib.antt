pub mod Doors
pub mod Moves
pub mod Printed
pub mod Replies
