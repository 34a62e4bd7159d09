-- How long a text may be that is kept in place.
use Rattle.std.specs.Prelude.{ℕ}

-- how many bytes a short text may have
abbrev pub short_room : ℕ
short_room = 48
