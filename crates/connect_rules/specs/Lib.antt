pub mod AreaInWords
pub mod ConnectingMoves
pub mod Connection
pub mod Linkages
pub mod ConnectionArea
pub mod InWords
