-- What a line says to a machine.
use Rattle.std.specs.Prelude.{ℕ, List, [], None}
use Rattle.gtp_rules.specs.Lines.{RawLine, Line, TooLong}
use Rattle.gtp_cmd.specs.Commands.{parsed_of}
use Rattle.gtp_cmd.specs.Spans.{spanned}
use Rattle.gtp_cmd.specs.Words.{cleaned}
use Rattle.gtp_cmd.specs.declared.spans.Span.{Span}
use Rattle.gtp_cmd.specs.declared.commands.Parsed.{Parsed}
use Rattle.gtp_cmd.specs.declared.commands.Parsed.TheVariants as parsed
use Rattle.gtp_cmd.specs.declared.refusals.RefuseText.TheVariants.{LineTooLong}
use Rattle.machine_rules.specs.Machine.{Machine}

-- what a line says to a machine; a line that is too long is refused
abbrev pub heard : Machine → RawLine → Parsed
heard machine TooLong = parsed.Refused None LineTooLong
heard machine (Line text) = parsed_of text machine.base.size

-- the bytes of a line; a line that is too long counts as empty
abbrev pub bytes_in : RawLine → List ℕ
bytes_in TooLong = []
bytes_in (Line text) = text

-- the words of a line that a span stands for, without the bytes that a line loses when it is cleaned
abbrev pub word_at : List ℕ → Span → List ℕ
word_at line span = cleaned (spanned line span)
