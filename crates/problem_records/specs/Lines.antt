-- The line of a comment that says the question of a problem: `gopat: attack C2 depths 16 6 answer A1 only`.
use Rattle.std.specs.Prelude.{◌≡◌, ℕ, ◌⊎◌, Bool, not, List, [], ◌∷◌, length, drop, take, Option, Some, None}
use Rattle.std.specs.Prelude.{Result, Ok, Err, if◌then◌else◌, codes, ◌==◌}
use Rattle.std.specs.List.{filter, filter_map, slice_split, prefix_len}
use Rattle.std.specs.Option.{ok_or}
use Rattle.std.specs.Str.{bytes_eq}
use Rattle.sgf_rules.specs.Tokens.{is_blank}
use Rattle.vertices.specs.Words.{kept}
use Rattle.vertices.specs.Vertices.{vertex_of}
use Rattle.read_rules.specs.declared.question.Kind.{Kind}
use Rattle.read_rules.specs.declared.question.Kind.TheVariants.{Attack, Defend}
use Rattle.problem_records.specs.Nodes.{line_feed}
use Rattle.problem_records.specs.declared.lack.Lack.{Lack}
use Rattle.problem_records.specs.declared.lack.Lack.TheVariants as lack

-- the byte ends a line
abbrev pub ends_line : ℕ → Bool
ends_line b = b == line_feed

-- the bytes that are left if all blanks at the front are dropped
abbrev pub behind_blanks : List ℕ → List ℕ
behind_blanks bytes = drop (prefix_len is_blank bytes) bytes

-- the bytes behind the word, if the bytes begin with this word
abbrev pub behind_word : List ℕ → List ℕ → Option (List ℕ)
behind_word word bytes =
    if bytes_eq (take (length word) bytes) word then Some (drop (length word) bytes) else None

-- the text behind `gopat:`, if the line begins with `gopat:` after its blanks
abbrev pub text_behind : List ℕ → Option (List ℕ)
text_behind line = behind_word (codes "gopat:") (behind_blanks line)

-- the lines of a comment
abbrev pub lines_of : List ℕ → List (List ℕ)
lines_of comment = slice_split ends_line comment

-- the only text of these; None if there is no text, and a lack if there is more than one
abbrev pub only_one : List (List ℕ) → Result (Option (List ℕ)) Lack
only_one [] = Ok None
only_one (text ∷ []) = Ok (Some text)
only_one (text ∷ (another ∷ more)) = Err lack.ManyLines

-- the text of the one line that begins with `gopat:`, among these lines
abbrev pub told_line : List (List ℕ) → Result (Option (List ℕ)) Lack
told_line lines = only_one (filter_map text_behind lines)

-- the word has a byte
abbrev pub is_word : List ℕ → Bool
is_word word = not (length word == 0)

-- the words of a line: the longest parts of it without a blank
abbrev pub words_of : List ℕ → List (List ℕ)
words_of line = filter is_word (slice_split is_blank line)

-- the question that a word names
abbrev pub kind_named : List ℕ → Option Kind
kind_named word =
    if bytes_eq word (codes "attack") then Some Attack
    else if bytes_eq word (codes "defend") then Some Defend
    else None

-- the first word says the question
abbrev pub kind_in : List (List ℕ) → Result Kind Lack
kind_in [] = Err lack.NoKind
kind_in (word ∷ words) = ok_or (kind_named word) lack.NoKind

-- the second word says the point, on a board of size s
abbrev pub target_in : ℕ → List (List ℕ) → Result ℕ Lack
target_in s (kind ∷ (word ∷ words)) = ok_or (vertex_of s (kept word)) lack.NoTarget
target_in s _ = Err lack.NoTarget

-- the question and the point, or what is lacking: the lack of the question comes first
abbrev pub both_or_lack : Result Kind Lack → Result ℕ Lack → Result (Kind × ℕ) Lack
both_or_lack (Ok kind) (Ok target) = Ok (kind, target)
both_or_lack (Ok kind) (Err l) = Err l
both_or_lack (Err l) target = Err l

-- the question that the words of a line ask
abbrev pub asked_in_words : ℕ → List (List ℕ) → Result (Kind × ℕ) Lack
asked_in_words s words = both_or_lack (kind_in words) (target_in s words)

-- this is a lack of what follows the question in its line: of the depths, the code or the moves, or a word without
-- meaning
abbrev pub IsOfParts : Lack → Type 0
IsOfParts l =
    (l ≡ lack.NoDepths) ⊎ (l ≡ lack.NoCode) ⊎ (l ≡ lack.NoVertex) ⊎ (l ≡ lack.NoPass) ⊎ (l ≡ lack.NoOnly)
    ⊎ (l ≡ lack.NoSuccess) ⊎ (l ≡ lack.Twice) ⊎ (l ≡ lack.NoMeaning)
