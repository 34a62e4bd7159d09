-- What a parse of the command line says of its words.
use Rattle.std.proofs.Common.{◌≡◌, ◌∙◌, ap, true, false, List, [], ◌∷◌, length, refl, inl, inr, arith}
use Rattle.std.proofs.lemmas.Bool.{ne_eqb}
use Rattle.clap.specs.Faults.{fault_of, is_simple_and_free}
use Rattle.clap.specs.Kinds.{HasKind, Kinds}
use Rattle.clap.specs.Matches.{found_of}
use Rattle.clap.specs.Simple.{App, HasMatchesOf, is_simple, matches_of}
use Rattle.clap.specs.Values.{kind_of}
use Rattle.clap.specs.Walk.{Text, is_empty, rows_of}
use Rattle.clap.specs.declared.error.Error.{Error}
use Rattle.clap.specs.declared.error.kind.ErrorKind.TheVariants.{OutOfMemory}
use Rattle.clap.specs.declared.parser.matches.ArgMatches.{ArgMatches}
use Rattle.go_options.specs.CommandLine.{command_line, is_taken, rows_in}

-- the command line is a simple command
is_simple_line : is_simple command_line ≡ true
unfolding command_line
is_simple_line = refl

-- no argument of the command line bears on another
is_free_line : is_simple_and_free command_line ≡ true
unfolding command_line
is_free_line = refl

-- the rows of a parse are those of the command line
pub rows_found : (a : App) (words : List Text) (m : ArgMatches) → a ≡ command_line → HasMatchesOf a words m
    → rows_of (found_of m) ≡ rows_in words
rows_found a words m is has = (has (ap is_simple is ∙ is_simple_line)).0 ∙ ap (λ (b : App). matches_of b words) is

-- words without a fault are taken
pub is_taken_by : (a : App) (words : List Text) → a ≡ command_line
    → (is_simple_and_free a ≡ true → fault_of a words ≡ []) → is_taken words ≡ true
is_taken_by a words is none = grind (arith, is_free_line)

-- where a parse failed by a kind that is not want of memory, there is a fault
some_fault : (faults : Kinds) (e : Error) → HasKind faults e → (kind_of e ≡ OutOfMemory → ⊥) → is_empty faults ≡ false
some_fault [] e (inl memory) other = absurd (other memory)
some_fault [] e (inr none) other = absurd none
some_fault (k ∷ ks) e has other = ne_eqb (length (k ∷ ks)) 0 (λ none. omega arith)

-- words at which a parse fails, and not for want of memory, are not taken
pub is_not_taken_by : (a : App) (words : List Text) (e : Error) → a ≡ command_line
    → (is_simple_and_free a ≡ true → HasKind (fault_of a words) e)
    → (kind_of e ≡ OutOfMemory → ⊥) → is_taken words ≡ false
is_not_taken_by a words e is has other = grind (arith, some_fault, is_free_line)
