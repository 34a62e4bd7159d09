-- The bytes of a line that was given.
use Rattle.std.proofs.Common.{◌≡◌, ℕ, ◌≤◌, Bool, true, false, cond, nat_le, List, length, IsSome, refl, leb-true}
use Rattle.gtp_rules.specs.Lines.{Line, TooLong, line_of, longest_line}
use Rattle.gtp_lex.specs.Lines.{given_of}
use Rattle.gtp_lex.specs.LinesView.{state_of}
use Rattle.gtp_lex.specs.declared.lines.Phase.{Phase}
use Rattle.gtp_lex.specs.declared.lines.Phase.TheVariants.{Open, Full, Given}

-- a text that is given as a line is not too long
given-short : (text : List ℕ) (fits : Bool) → nat_le (length text) longest_line ≡ fits
    → IsSome (given_of (cond fits (Line text) TooLong)) → length text ≤ longest_line
given-short text true fits some = leb-true (length text) longest_line fits
given-short text false fits some = absurd (let never : false ≡ true = some in cc)

-- the same of what a `Lines` tells
pub state-short : (phase : Phase) (text : List ℕ) → IsSome (state_of phase (line_of text)).given
    → length text ≤ longest_line
state-short Open text some = absurd (let never : false ≡ true = some in cc)
state-short Full text some = absurd (let never : false ≡ true = some in cc)
state-short Given text some = given-short text (nat_le (length text) longest_line) refl some
