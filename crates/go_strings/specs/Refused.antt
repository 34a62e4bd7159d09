-- What forbids a play.
use Rattle.std.specs.Prelude.{Option, Some, None, Result, Ok, Err}
use Rattle.go_rules.specs.declared.Illegal.{Illegal}
use Rattle.go_rules.specs.Position.{BoardState}

-- the reason why a play with this outcome was refused; None if the play was done
abbrev pub refusal_of : Result BoardState Illegal → Option Illegal
refusal_of (Ok next) = None
refusal_of (Err e) = Some e
