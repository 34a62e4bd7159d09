pub mod Problems
pub mod Nodes
pub mod Lines
pub mod Marks
pub mod Asked
pub mod Found
