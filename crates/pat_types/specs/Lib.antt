pub mod Letters
pub mod Marks
pub mod Diagrams
pub mod Labels
pub mod Cells
pub mod Edges
