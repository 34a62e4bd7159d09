-- What every step of the machine keeps.
use Rattle.std.specs.Prelude.{◌≡◌, ℕ, true, List, [], ◌∷◌}
use Rattle.gtp_rules.specs.Lines.{RawLine, Line, TooLong}
use Rattle.gtp_rules.specs.Steps.{Fallback, Step}
use Rattle.gtp_cmd.specs.Words.{words_of, cleaned}
use Rattle.machine_rules.specs.Machine.{Machine}
use Rattle.machine_rules.specs.Calls.{AreSameButCalls}

-- the line has no words, and is not too long
abbrev pub IsWithoutWords : RawLine → Type 0
IsWithoutWords TooLong = ⊥
IsWithoutWords (Line text) = words_of (cleaned text) ≡ []

-- the byte with which a success begins
abbrev pub equals_sign : ℕ
equals_sign = 61

-- the byte with which a refusal begins
abbrev pub question_mark : ℕ
question_mark = 63

-- the bytes are those of a success
abbrev pub IsSuccess : List ℕ → Type 0
IsSuccess bytes = (more : List ℕ) × (bytes ≡ equals_sign ∷ more)

-- the bytes are those of a refusal
abbrev pub IsRefusal : List ℕ → Type 0
IsRefusal bytes = (more : List ℕ) × (bytes ≡ question_mark ∷ more)

-- each of these fallbacks is a refusal, and leaves the machine as it was but for the calls of helpers
abbrev pub AreExcuses : Machine → List (Fallback Machine) → Type 0
AreExcuses old [] = Unit {0}
AreExcuses old (answer ∷ answers) = IsRefusal answer.reply × AreSameButCalls old answer.next × AreExcuses old answers

-- A step is sound: a refused line keeps the machine, each fallback is a refusal that keeps the machine but for the
-- calls of helpers, and a line that ends the session is a success that keeps the machine.
pub record IsSound (old : Machine) (given : Step Machine) : Type 0 where
  pub refused : IsRefusal given.reply → given.next ≡ old
  pub excuses : AreExcuses old given.fallbacks
  pub ended : given.ends ≡ true → IsSuccess given.reply × (given.next ≡ old)
