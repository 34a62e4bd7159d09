-- The lines that are taken of a stream, over plain values.
use Rattle.std.proofs.Common.{◌≡◌, ◌≢◌, ℕ, ◌-◌, Bool, true, false, List, [], ◌∷◌, ◌++◌, length, take, drop, Option, Some}
use Rattle.std.proofs.Common.{None, refl, take-append-drop, arith}
use Rattle.std.proofs.lemmas.List.{take_rest, take_all}
use Rattle.gtp_rules.specs.Lines.{RawLine, Line, TooLong}
use Rattle.gtp_lex.specs.Held.{lines_from, held_from, held_line}
use Rattle.gtp_lex.specs.Lines.{LinesState, Feeds}
use Rattle.gtp_lex.specs.LinesTaken.{taken_of, given_state}
use Rattle.gtp_lex.specs.declared.lines.Taken.{Taken}
use Rattle.gtp_lex.specs.declared.lines.Taken.TheVariants as taken
use Rattle.gtp_lex.proofs.HeldLemmas.{lines_from-append, held_from-append}

-- The line that `take` or `finish` gives.

-- what `take` says of the line that waits, and of no line
abbrev Takes : Bool → RawLine → Option Taken → LinesState → LinesState → Type 0
Takes waits held result new old =
    (waits ≡ false → (result ≡ None) × (new ≡ old))
    × (waits ≡ true → (result ≡ Some (taken_of held)) × (new ≡ given_state held))

-- a line was taken, so it waited
by_waits : (waits : Bool) (held : RawLine) (result : Option Taken) (taken : Taken) (new old : LinesState) → result
    ≡ Some taken
    → Takes waits held result new old → (waits ≡ true) × (taken ≡ taken_of held) × (new ≡ given_state held)
by_waits true held result taken new old is takes = (refl, (let given = (takes.1 refl).0 in cc), (takes.1 refl).1)
by_waits false held result taken new old is takes = absurd (let none = (takes.0 refl).0 in cc)

-- no line was taken, so none waited
by_none : (waits : Bool) (held : RawLine) (result : Option Taken) (new old : LinesState) → result ≡ None
    → Takes waits held result new old → (waits ≡ false) × (new ≡ old)
by_none false held result new old is takes = (refl, (takes.0 refl).1)
by_none true held result new old is takes = absurd (let given = (takes.1 refl).0 in cc)

-- n bytes were fed and a line was taken: it is the one line that ends in them, and nothing is held after it
pub taken_line : (old mid new : LinesState) (rest : List ℕ) (n : ℕ) (result : Option Taken) (taken : Taken)
    → Feeds old mid rest n → result ≡ Some taken
    → (mid.waits ≡ false → (result ≡ None) × (new ≡ mid))
    → (mid.waits ≡ true → (result ≡ Some (taken_of mid.held)) × (new ≡ given_state mid.held))
    → (taken ≡ taken_of mid.held) × (new ≡ given_state mid.held)
    × (lines_from old.held (take n rest) ≡ mid.held ∷ []) × (held_from old.held (take n rest) ≡ Line [])
taken_line old mid new rest n result taken fed is none some = grind (arith, by_waits)

-- n bytes were fed and no line was taken: none ends in them, and what is held goes on
pub no_line_taken : (old mid new : LinesState) (rest : List ℕ) (n : ℕ) (result : Option Taken)
    → Feeds old mid rest n → result ≡ None
    → (mid.waits ≡ false → (result ≡ None) × (new ≡ mid))
    → (mid.waits ≡ true → (result ≡ Some (taken_of mid.held)) × (new ≡ given_state mid.held))
    → (lines_from old.held (take n rest) ≡ []) × (held_from old.held (take n rest) ≡ new.held) × (new.waits ≡ false)
no_line_taken old mid new rest n result fed is none some = grind (arith, by_none, take_all)

-- a rest was given as a last line
pub rest_taken : (held : RawLine) (result : Option Taken) (taken : Taken) (old new : LinesState) → result ≡ Some taken
    → (held ≡ Line [] → (result ≡ None) × (new ≡ old))
    → (held ≢ Line [] → (result ≡ Some (taken_of held)) × (new ≡ given_state held))
    → (taken ≡ taken_of held) × (new ≡ given_state held) × (held_line held ≡ held ∷ [])
rest_taken TooLong result taken old new is none some = grind arith
rest_taken (Line []) result taken old new is none some = absurd (let told = (none refl).0 in cc)
rest_taken (Line (b ∷ bs)) result taken old new is none some = grind arith

-- no rest was given, so there is none
pub no_rest : (held : RawLine) (result : Option Taken) (new old : LinesState) → result ≡ None
    → (held ≡ Line [] → (result ≡ None) × (new ≡ old))
    → (held ≢ Line [] → (result ≡ Some (taken_of held)) × (new ≡ given_state held))
    → held_line held ≡ []
no_rest TooLong result new old is none some = absurd (let told = (some (λ e. cc)).0 in cc)
no_rest (Line []) result new old is none some = refl
no_rest (Line (b ∷ bs)) result new old is none some = absurd (let told = (some (λ e. cc)).0 in cc)

-- a line was given, and its bytes are those that are told
pub given_line : (held : RawLine) (told : Taken) (lines : LinesState) (bytes : List ℕ) → lines ≡ given_state held
    → told ≡ taken_of held → told ≡ taken.Line → lines.given ≡ Some bytes → held ≡ Line bytes
given_line (Line text) told lines bytes is of_held as_line given = grind arith
given_line TooLong told lines bytes is of_held as_line given = absurd cc

-- a line was given that is too long
pub given_too_long : (held : RawLine) (told : Taken) → told ≡ taken_of held → told ≡ taken.TooLong → held ≡ TooLong
given_too_long (Line text) told of_held as_long = absurd cc
given_too_long TooLong told of_held as_long = refl

-- The lines of a piece, of which n bytes more were taken.

-- the lines of the piece are those of the bytes taken, and then those of what is left
pub lines_from-take : (held held' : RawLine) (rest : List ℕ) (n : ℕ) → held' ≡ held_from held (take n rest)
    → lines_from held rest ≡ lines_from held (take n rest) ++ lines_from held' (take (length rest - n) (drop n rest))
lines_from-take held held' rest n after =
    grind (arith, take-append-drop n rest, lines_from-append held (take n rest) (drop n rest), take_rest rest n)

-- what the piece leaves held is what the bytes left do
pub held_from-take : (held held' : RawLine) (rest : List ℕ) (n : ℕ) → held' ≡ held_from held (take n rest)
    → held_from held rest ≡ held_from held' (take (length rest - n) (drop n rest))
held_from-take held held' rest n after =
    grind (arith, take-append-drop n rest, held_from-append held (take n rest) (drop n rest), take_rest rest n)
