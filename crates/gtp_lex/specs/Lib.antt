pub mod Held
pub mod Lines
pub mod LinesView
pub mod LinesTaken
pub mod Raw
