-- The words of a proof, and what each says. They are the words of a protocol line: blanks and tabs separate them.
use Rattle.std.specs.Prelude.{ℕ, List, Option, None, Some, if◌then◌else◌, codes}
use Rattle.std.specs.Option.{option_map}
use Rattle.std.specs.Str.{bytes_eq}
use Rattle.vertices.specs.Words.{plain, words_of}
use Rattle.vertices.specs.Vertices.{target_of}
use Rattle.read_rules.specs.declared.question.Spot.TheVariants.{At, Pass}
use Rattle.read_proof.specs.declared.token.Token.{Token}
use Rattle.read_proof.specs.declared.token.Token.TheVariants.{Settled, Move, Each}

-- a word, as the list of its bytes
abbrev pub Word : Type 0
Word = List ℕ

-- the words of a text
abbrev pub words_in : List ℕ → List Word
words_in text = words_of (plain text)

-- the play at a point, or the pass if there is no point
abbrev pub move_to : Option ℕ → Token
move_to (Some p) = Move (At p)
move_to None = Move Pass

-- what a word says on a board of size s: `.`, `*`, or a move; nothing if it is none of these
unfoldable pub token_of : ℕ → Word → Option Token
token_of s word =
    if bytes_eq word (codes ".") then Some Settled
    else if bytes_eq word (codes "*") then Some Each
    else option_map move_to (target_of s word)
