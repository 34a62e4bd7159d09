-- What a machine gives for one line. M is the type of the machine, which may be any.
use Rattle.std.specs.Prelude.{ℕ, Bool, List}

-- an answer that may stand in place of the reply to a line
pub record Fallback (M : Type 0) : Type 0 where
  -- the bytes of the answer
  pub reply : List ℕ
  -- the machine after the answer
  pub next : M

-- the answer to a line, and the machine after it
pub record Step (M : Type 0) : Type 0 where
  -- the bytes of the reply, or no bytes if the line has no reply
  pub reply : List ℕ
  -- the answers that may stand in place of the reply, as the refusal `out of memory` may for a reply that grows
  pub fallbacks : List (Fallback M)
  -- the machine after the line
  pub next : M
  -- the line ends the session
  pub ends : Bool
