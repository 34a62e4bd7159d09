-- The most bytes of the result of a short reply, and of a line.
use Rattle.std.specs.Prelude.{ℕ}
pub use Rattle.vertices.specs.Rooms.{short_room}

-- how many bytes the result of a short reply may have
abbrev pub result_room : ℕ
result_room = 32

-- how many bytes a line may have that is parsed
abbrev pub longest_line : ℕ
longest_line = 65536
