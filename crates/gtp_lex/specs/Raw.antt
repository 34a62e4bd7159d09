-- The line that a `Raw` stands for.
use Rattle.gtp_rules.specs.Lines as lines
use Rattle.gtp_lex.specs.declared.raw.Raw.{Raw}
use Rattle.gtp_lex.specs.declared.raw.Raw.TheVariants.{Line, TooLong}

-- the line that a `Raw` stands for, with the bytes that its reference points to
abbrev pub raw_line : Raw → lines.RawLine
raw_line (Line text) = lines.Line text.now
raw_line TooLong = lines.TooLong
