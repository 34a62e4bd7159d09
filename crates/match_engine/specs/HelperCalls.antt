-- How often helpers are asked about matches.
use Rattle.std.specs.Prelude.{ℕ, List, [], map, Option, Some, None, slice_get}
use Rattle.go_rules.specs.declared.Colour.{Colour}
use Rattle.go_rules.specs.Position.{BoardState}
use Rattle.pat_types.specs.declared.pattern.Pattern.{Pattern}
use Rattle.helpers.specs.HelperStates.{SlotState}
use Rattle.helpers.specs.Fields.{helper_names}
use Rattle.helpers.specs.Agreement.{raised}
use Rattle.helpers.specs.Totals.{asks_over}
use Rattle.match_rules.specs.declared.found.Match.{Match}

-- the helpers that a pattern names; none, if there is no pattern
abbrev pub names_of : Option Pattern → List (List ℕ)
names_of None = []
names_of (Some p) = helper_names p.items

-- what helpers are asked about for each match: the helpers that its pattern names, and the point of its move
abbrev pub plays_of : List Pattern → List Match → List (List (List ℕ) × ℕ)
plays_of patterns zs = map (λ z. (names_of (slice_get patterns z.pattern), z.at)) zs

-- the list of helpers after they were asked about the matches zs, as often as the rule of asking says
abbrev pub after_matches : List SlotState → List Pattern → List Match → BoardState → Colour → List SlotState
after_matches slots patterns zs board friend = raised (asks_over slots (plays_of patterns zs) board friend) slots
