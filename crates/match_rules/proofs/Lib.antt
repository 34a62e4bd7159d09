pub mod Lists
pub mod Orders
pub mod InWords
pub mod ConditionTests
pub mod MatchLists
