use Rattle.std.proofs.Common.{◌≡◌, slice_get}
use Rattle.go_rules.specs.Position.{other}
use Rattle.match_engine.specs.AutomatonMatches.{is_allowed_at}
use Rattle.match_engine.specs.Readings.{Follows, codes_of}
use Rattle.match_engine.specs.Remembered.{Remembers}
use Rattle.match_engine.specs.Unread.{NoneAsksReading}
use Rattle.match_engine.proofs.AllowedMatches.{KeepsFirst}
use Rattle.match_engine.proofs.finder.keep_allowed.Given as goal

-- of those that were read the allowed ones are kept, what was read of plays is remembered, and nothing is read where no
-- pattern asks for it
abbrev pub invariant-matches : goal.invariant-matches
invariant-matches l = record {
  kept : KeepsFirst (λ z. is_allowed_at (codes_of l.fn.readings) l.position l.friend (slice_get l.patterns z.pattern) z)
      l.fn.found.items l.found.items l.kept l.next;
  follows : Follows l.fn.readings l.readings;
  friend_plays : Remembers (codes_of l.fn.readings) l.position l.friend l.friend_plays;
  enemy_plays : Remembers (codes_of l.fn.readings) l.position (other l.friend) l.enemy_plays;
  unread : NoneAsksReading l.patterns → l.readings ≡ l.fn.readings;
}
