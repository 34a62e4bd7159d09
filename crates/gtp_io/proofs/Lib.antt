pub mod NamedContents
