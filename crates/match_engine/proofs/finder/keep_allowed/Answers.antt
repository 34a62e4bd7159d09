use Rattle.std.proofs.Common.{rules, ◌≡◌, ◌∙◌, ◌<◌, slice_get, length, subst, arith}
use Rattle.std.proofs.lemmas.Option.{slice_get_within}
use Rattle.go_rules.specs.Position.{other}
use Rattle.cons_eval.specs.Readings.{Codes}
use Rattle.match_engine.specs.AutomatonMatches.{is_allowed_at, IsFoundThere}
use Rattle.match_engine.specs.Readings.{codes_of}
use Rattle.match_engine.specs.Remembered.{Remembers}
use Rattle.match_engine.proofs.ReadingCounts.{Follows-trans, codes_stay}
use Rattle.match_engine.proofs.AllowedMatches.{kept_next, kept_there}
use Rattle.match_engine.proofs.finder.keep_allowed.Goals.{After-index, After-keep-kept}
use Rattle.match_engine.proofs.finder.keep_allowed.Goals as goal

-- the match that is read is one of the list
is_there : (c : After-index) → IsFoundThere c.args.patterns.now c.args.position.now c.index.result.now
is_there c =
    let low : c.matches.next < length c.args.found.now.items = search rules in
    c.requires.there c.index.result.now
    (kept_there _ c.args.found.now.items c.matches.found.items c.matches.kept c.matches.next c.index.result.now
    c.matches.invariant.kept low c.index.ensures)

-- so it is of a pattern of the list
pub pattern_with-p-requires : goal.pattern_with-p-requires
pattern_with-p-requires c =
    let there = is_there (goal.at.pattern_with-p-requires c).After-index in
    slice_get_within c.args.patterns.now c.index.result.now.pattern there.pattern there.number

-- at a point of the board
pub is_allowed-allowed-requires-clause-on_board : goal.is_allowed-allowed-requires-clause-on_board
is_allowed-allowed-requires-clause-on_board c =
    (is_there (goal.at.is_allowed-allowed-requires-clause-on_board c).After-index).on_board

-- whether it is allowed is judged as by the readings at first
as_allowed : (c : After-keep-kept) → c.is_allowed-allowed.result ≡ is_allowed_at (codes_of c.args.readings.now)
    c.args.position.now c.args.friend (slice_get c.args.patterns.now c.index.result.now.pattern) c.index.result.now
as_allowed c = grind (arith, codes_stay)

-- and it is kept where it is allowed
pub matches-preserved : goal.matches-preserved
matches-preserved c =
    let low : c.matches.next < length c.args.found.now.items = search rules in
    let same = codes_stay c.args.readings.now c.matches.readings c.matches.invariant.follows in
    record {
      kept = kept_next _ c.args.found.now.items c.matches.found.items c.matches.kept c.matches.next c.index.result.now
          c.matches.invariant.kept low c.index.ensures
          c.is_allowed-allowed.result c.keep-kept.new.found.items c.keep-kept.result
          (as_allowed (goal.at.matches-preserved c).After-keep-kept) c.keep-kept.ensures.found
          c.keep-kept.ensures.kept;
      follows = Follows-trans c.args.readings.now c.matches.readings c.is_allowed-allowed.new.readings
          c.matches.invariant.follows c.is_allowed-allowed.ensures.follows;
      friend_plays = subst (λ (code : Codes). Remembers code c.args.position.now c.args.friend
          c.is_allowed-allowed.new.friend_plays) same c.is_allowed-allowed.ensures.friend_plays;
      enemy_plays = subst (λ (code : Codes). Remembers code c.args.position.now
          (other c.args.friend) c.is_allowed-allowed.new.enemy_plays) same c.is_allowed-allowed.ensures.enemy_plays;
      unread = λ none.
          c.is_allowed-allowed.ensures.unread
          (none c.index.result.now.pattern c.pattern_with-p.result.now c.pattern_with-p.ensures)
          ∙ c.matches.invariant.unread none;
    }
