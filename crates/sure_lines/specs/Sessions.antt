-- What a session writes for the bytes that it takes.
use Rattle.std.specs.Prelude.{ℕ, Bool, List, Option}
use Rattle.std.specs.Io.KnownBytes.{Appends, Consumes}
use Rattle.gtp_rules.specs.Lines.{RawLine, lines_with_rest}
use Rattle.gtp_rules.specs.Transcript.{IsRun, IsTranscript}
use Rattle.sure_lines.specs.Files.{Contents}
use Rattle.sure_lines.specs.Machine.{Machine}
use Rattle.sure_lines.specs.SureStep.{step}

-- the lines are answered in turn, and the machine is new after them; their replies are appended to the known bytes of
-- the sink, and ended says whether one of the lines ends the session
pub record AreAnswered (contents : Contents) (old new : Machine) (lines : List RawLine) (before after : Option (List ℕ))
    (ended : Bool) : Type 0 where
  pub out : List ℕ
  pub run : IsRun (step contents) old lines out new ended
  pub puts : Appends before after out

-- the session takes some bytes of the source, and writes a transcript of their lines; the bytes after the last line
-- feed are a line too
pub record IsSession (contents : Contents) (first : Machine) (left left_after written written_after : Option (List ℕ))
    : Type 0 where
  pub taken : List ℕ
  pub out : List ℕ
  pub takes : Consumes left left_after taken
  pub puts : Appends written written_after out
  pub transcript : IsTranscript (step contents) first (lines_with_rest taken) out
