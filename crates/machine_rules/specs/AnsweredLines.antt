-- Lines answered one after another, each with its reply and the machine to which it comes. M is any type of machine.
use Rattle.std.specs.Prelude.{◌≡◌, ℕ, List, [], ◌∷◌}
use Rattle.gtp_rules.specs.Lines.{RawLine}

-- a line, the machine to which it comes, and the bytes of its reply
pub record AnsweredLine (M : Type 0) : Type 0 where
  pub machine : M
  pub line : RawLine
  pub reply : List ℕ

-- the relation `goes` leads from `old` to `new` along the turns, one step a turn
abbrev pub IsAlong : {K M : Type 0} → (K → AnsweredLine M → K → Type 0) → K → List (AnsweredLine M) → K → Type 0
IsAlong goes old [] new = new ≡ old
IsAlong {K} goes old (turn ∷ turns) new = (mid : K) × goes old turn mid × IsAlong goes mid turns new
