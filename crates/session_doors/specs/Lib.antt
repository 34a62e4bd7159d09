pub mod Options
pub mod Opened
pub mod Answered
pub mod Replies
pub mod Transcripts
