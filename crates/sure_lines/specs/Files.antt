-- The files that lines load: their names and their contents, as a loader gives them.
use Rattle.std.specs.Prelude.{ℕ, Bool, ◌==◌, List, [], ◌∷◌, length, Option, Some, None, if◌then◌else◌}
use Rattle.std.specs.Str.Lossy.{utf8_valid_len}
use Rattle.gtp_cmd.specs.Spans.{spanned}
use Rattle.gtp_cmd.specs.Words.{cleaned}
use Rattle.gtp_cmd.specs.declared.refusals.RefuseText.TheVariants.{SyntaxError, CannotLoadFile}
use Rattle.gtp_cmd.specs.declared.spans.Span.{Span}
use Rattle.gtp_io.specs.Loading.{IsLoaded}
use Rattle.sure_lines.specs.Effects.{Effect, refused, growing}
use Rattle.sure_lines.specs.Machine.{Machine}

-- the contents of the file of each name, if they are fixed; a file whose contents are not fixed may hold one text now
-- and another later
abbrev pub Contents : Type 0
Contents = List ℕ → Option (List ℕ)

-- the bytes are a text in UTF-8: their longest prefix in UTF-8 is all of them
abbrev pub is_utf8 : List ℕ → Bool
is_utf8 bytes = utf8_valid_len bytes == length bytes

-- the part of a line that a span names, without the bytes that a line loses when it is cleaned
abbrev pub word_at : List ℕ → Span → List ℕ
word_at line span = cleaned (spanned line span)

-- the name of a file; a name that is not in UTF-8 names none
abbrev pub named_file : List ℕ → Option (List ℕ)
named_file name = if is_utf8 name then Some name else None

-- the text is the contents of the file of this name; any text will do if there is no name
abbrev pub IsFileOf : Contents → Option (List ℕ) → List ℕ → Type 0
IsFileOf contents None file = Unit {0}
IsFileOf contents (Some name) file = IsLoaded (contents name) [] file

-- the effect of a line whose file may be one that cannot be loaded
abbrev pub loading : Effect → Effect
loading effect = record effect { excuses = CannotLoadFile ∷ effect.excuses }

-- a line that loads the file of this name has this effect; it is refused if the name is not in UTF-8. There may be no
-- memory for the name and the text of the file
abbrev pub by_file : Machine → List ℕ → Effect → Effect
by_file old name effect = growing (if is_utf8 name then loading effect else refused old SyntaxError)
