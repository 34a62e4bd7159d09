use Rattle.std.proofs.Common.{◌≡◌, ◌<◌, ◌^◌, drop}
use Rattle.std.specs.Str.Parse.{digits_value, digits_value_after}
use Rattle.move_choice.proofs.worth.number.Given as goal

-- the number so far has no more digits than were read, and with the others it is the whole
abbrev pub invariant-loop-d : goal.invariant-loop-d
invariant-loop-d l = record {
  below : l.n < 10 ^ l.d-index;
  rest : digits_value_after 10 l.n (drop l.d-index l.digits) ≡ digits_value 10 l.digits;
}
