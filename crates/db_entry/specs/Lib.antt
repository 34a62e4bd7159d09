pub mod DiagramLines
pub mod Reads
pub mod Says
