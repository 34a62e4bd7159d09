use Rattle.std.proofs.Common.{◌≡◌, true, take}
use Rattle.std.specs.List.{list_all}
use Rattle.std.specs.Char.{is_ascii_digit}
use Rattle.vertices.specs.Words.{kept, number_of}
use Rattle.vertices.specs.RawWords.{capped}
use Rattle.vertices.proofs.numbers.number.Given as goal

-- the bytes so far are digits, and the value is what they write
abbrev pub invariant-loop-b : goal.invariant-loop-b
invariant-loop-b l = record {
  digits : list_all is_ascii_digit (kept (take l.b-index l.word)) ≡ true;
  value : l.value ≡ capped (number_of (kept (take l.b-index l.word)));
}
