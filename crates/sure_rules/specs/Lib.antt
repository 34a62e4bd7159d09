pub mod Nodes
pub mod SureTree
pub mod SureAnswer
pub mod SureInWords
pub mod Defences
pub mod Zones
