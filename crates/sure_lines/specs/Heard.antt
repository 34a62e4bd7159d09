-- What a line says to this program: the same as to gopat, except that commands that this program does not have are
-- unknown.
use Rattle.std.specs.Prelude.{ℕ, Bool, true, false, List, [], ◌∷◌, Option, None, Some}
use Rattle.gtp_rules.specs.Lines.{RawLine, Line, TooLong}
use Rattle.gtp_cmd.specs.Commands.{parsed_of}
use Rattle.gtp_cmd.specs.Words.{cleaned, words_of, id_of}
use Rattle.gtp_cmd.specs.declared.commands.Parsed.{Parsed}
use Rattle.gtp_cmd.specs.declared.commands.Parsed.TheVariants as parsed
use Rattle.gtp_cmd.specs.declared.refusals.RefuseText.TheVariants.{LineTooLong, UnknownCommand}
use Rattle.sure_lines.specs.CommandNames.{is_own}
use Rattle.sure_lines.specs.Machine.{Machine}

-- the words of a line from its command on: the first word is left out if it is an id
abbrev pub words_from : Option ℕ → List ℕ → List (List ℕ) → List (List ℕ)
words_from None first more = first ∷ more
words_from (Some id) first more = more

-- the words of a line without its id
abbrev pub asked_words : List (List ℕ) → List (List ℕ)
asked_words [] = []
asked_words (first ∷ more) = words_from (id_of first) first more

-- the first of the words names a command of this program
abbrev pub names_own : List (List ℕ) → Bool
names_own [] = false
names_own (word ∷ more) = is_own word

-- what a line says: what was parsed if its command is one of this program's; any other command is unknown, whatever its
-- arguments are
abbrev pub own_parsed : Bool → Parsed → Parsed
own_parsed true said = said
own_parsed false parsed.Nothing = parsed.Nothing
own_parsed false (parsed.Refused id text) = parsed.Refused id UnknownCommand
own_parsed false (parsed.Command id command) = parsed.Refused id UnknownCommand

-- what a line says to this program on a board of size s
abbrev pub own_said : List ℕ → ℕ → Parsed
own_said line s = own_parsed (names_own (asked_words (words_of (cleaned line)))) (parsed_of line s)

-- what a line says on a board of size s; a line that is too long is refused
abbrev pub heard_at : ℕ → RawLine → Parsed
heard_at s TooLong = parsed.Refused None LineTooLong
heard_at s (Line text) = own_said text s

-- what a line says to the machine
abbrev pub heard : Machine → RawLine → Parsed
heard machine line = heard_at machine.game.base.size line

-- the bytes of a line; none if the line is too long
abbrev pub bytes_in : RawLine → List ℕ
bytes_in TooLong = []
bytes_in (Line text) = text
