-- How long a proof of a sure capture may be.
use Rattle.std.specs.Prelude.{ℕ}

-- the most bytes of a proof of a sure capture that is printed
abbrev pub longest_proof : ℕ
longest_proof = 1048576
