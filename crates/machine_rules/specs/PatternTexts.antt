-- How a session prints its patterns.
use Rattle.std.specs.Prelude.{ℕ, List, [], ◌∷◌, ◌++◌, map, codes, decimal}
use Rattle.std.specs.List.{join_with_byte}
use Rattle.pat_types.specs.declared.mark.Mark.{Mark}
use Rattle.pat_types.specs.declared.mark.Mark.TheVariants.{Eight, Bar, Dash, Slash, Backslash, Plus, Ex, Oh}
use Rattle.pat_types.specs.declared.pattern.Pattern.{Pattern}
use Rattle.gtp_cmd.specs.Words.{line_feed}

-- a mark as the pattern's colon line has it
abbrev pub mark_text : Mark → List ℕ
mark_text Eight = codes "8"
mark_text Bar = codes "|"
mark_text Dash = codes "-"
mark_text Slash = codes "/"
mark_text Backslash = codes "\\"
mark_text Plus = codes "+"
mark_text Ex = codes "X"
mark_text Oh = codes "O"

-- class letters, and `-` if there are none
abbrev pub classes_text : List ℕ → List ℕ
classes_text [] = codes "-"
classes_text (letter ∷ letters) = letter ∷ letters

-- the name of a pattern, a blank, and its rows and columns with `x` between them
abbrev pub name_text : Pattern → List ℕ
name_text p = p.name ++ codes " " ++ decimal p.rows ++ codes "x" ++ decimal p.cols

-- a pattern: its name and size, its mark and its class letters, separated by blanks
abbrev pub pattern_text : Pattern → List ℕ
pattern_text p = name_text p ++ codes " " ++ mark_text p.mark ++ codes " " ++ classes_text p.classes

-- the texts of patterns, one a line
abbrev pub patterns_text : List Pattern → List ℕ
patterns_text patterns = join_with_byte line_feed (map pattern_text patterns)

-- a line feed after a text that is not empty
abbrev pub feed_after : List ℕ → List ℕ
feed_after [] = []
feed_after (b ∷ bs) = line_feed ∷ []
