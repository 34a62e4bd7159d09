-- What contracts see of a `StdSource` and a `StdSink`.
use Rattle.std.specs.Prelude.{ℕ, Bool, List, Option, Result, take, MatchResult}
use Rattle.std.specs.Io.KnownBytes.{Appends}

-- a `StdSource`: its reader, how many bytes the last call gave, how many calls failed, and whether the last one did
pub record SourceState (R : Type 0) : Type 0 where
  pub reader : R
  pub piece : ℕ
  pub faults : ℕ
  pub failed : Bool

-- a `StdSink`: its writer, how many calls failed, and whether the last one did
pub record SinkState (W : Type 0) : Type 0 where
  pub writer : W
  pub faults : ℕ
  pub failed : Bool

-- the writer got the first bytes: as many as the call says that it took, or any number of them if the call failed
abbrev pub PassesOn : {E : Type 0} → Option (List ℕ) → Option (List ℕ) → Result ℕ E → List ℕ → Type 0
PassesOn old new result bytes =
    MatchResult result (λ n. Appends old new (take n bytes)) (λ _. (n : ℕ) × Appends old new (take n bytes))
