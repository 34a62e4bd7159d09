-- What a session answers is a transcript.
use Rattle.session_doors.proofs.Transcripts.{answers-are-transcripts}
use Rattle.session_doors.proofs.laws.answers_are_transcripts.Goals as goal

-- the law
pub returns : goal.returns
returns c = answers-are-transcripts
