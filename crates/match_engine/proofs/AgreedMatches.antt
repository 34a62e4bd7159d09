-- One match more about which helpers are asked.
use Rattle.std.proofs.Common.{◌≡◌, ℕ, ◌+◌, ◌<◌, Bool, List, [], ◌∷◌, ◌++◌, length, take, get_or, slice_get}
use Rattle.std.proofs.Common.{Some, sym, ap, ◌∙◌, arith}
use Rattle.std.proofs.lemmas.List.{take_more, map-append}
use Rattle.go_rules.specs.declared.Colour.{Colour}
use Rattle.go_rules.specs.Position.{BoardState}
use Rattle.pat_types.specs.declared.pattern.Pattern.{Pattern}
use Rattle.helpers.specs.HelperStates.{SlotState, says_yes}
use Rattle.helpers.specs.Fields.{helper_names}
use Rattle.helpers.specs.Agreement.{raised, IsAskedFor}
use Rattle.helpers.specs.Totals.{asks_over}
use Rattle.helpers.proofs.CallTotals.{answer_over-more, asked_over-more}
use Rattle.match_rules.specs.declared.found.Match.{Match}
use Rattle.match_engine.specs.AutomatonMatches.{is_agreed_at}
use Rattle.match_engine.specs.HelperCalls.{plays_of, after_matches}

module _ (slots : List SlotState) (patterns : List Pattern) (board : BoardState) (friend : Colour) (old : List Match)
    (n : ℕ)
    (z : Match) (p : Pattern) (now after : List SlotState) (answer : Bool) (low : n < length old)
    (read : z ≡ get_or old n z)
    (number : slice_get patterns z.pattern ≡ Some p)
    (so_far : now ≡ after_matches slots patterns (take n old) board friend)
    (asked : IsAskedFor now (helper_names p.items) board z.at friend answer after) where
  -- the answer is that of the helpers as they were at first
  pub answer_is : answer ≡ is_agreed_at (says_yes slots) board friend (slice_get patterns z.pattern) z
  answer_is =
      answer_over-more slots board friend (plays_of patterns (take n old))
      (helper_names p.items) z.at now after answer so_far asked
      ∙ sym (ap (λ o. is_agreed_at (says_yes slots) board friend o z) number)

  -- the plays up to this one
  plays_more : plays_of patterns (take n old) ++ (helper_names p.items, z.at) ∷ []
      ≡ plays_of patterns (take (n + 1) old)
  plays_more = grind (arith, take_more old n z low, map-append)

  -- the calls are those about the matches up to this one
  pub calls_are : after ≡ after_matches slots patterns (take (n + 1) old) board friend
  calls_are =
      asked_over-more slots board friend (plays_of patterns (take n old))
      (helper_names p.items) z.at now after answer so_far asked
      ∙ ap (λ plays. raised (asks_over slots plays board friend) slots) plays_more
