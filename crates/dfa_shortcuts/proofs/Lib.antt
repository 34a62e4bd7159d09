pub mod Words
pub mod EntryRows
pub mod PassedLetters
pub mod LongerShortcuts
pub mod LongerOpenings
pub mod ShortcutRows
pub mod OpeningRows
