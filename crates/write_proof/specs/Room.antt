-- How long a printed proof may be.
use Rattle.std.specs.Prelude.{ℕ}

-- how many bytes a printed proof may have, with a blank before its first word
abbrev pub most_bytes : ℕ
most_bytes = 60001
