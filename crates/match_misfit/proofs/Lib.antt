pub mod StarCells
pub mod FirstCells
pub mod RowCells
pub mod InWords
