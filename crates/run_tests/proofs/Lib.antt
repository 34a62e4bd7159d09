pub mod StreamContents
