mod Alone
mod FirstSessions
pub mod NoHelpers
mod Transcripts
