-- The list of matches has exactly the matches, in order.
use Rattle.std.proofs.Common.{◌≡◌, ◌<◌, true, ◌&&◌, List, Some, is_ok, Result, Ok, Err, refl, ap}
use Rattle.std.proofs.lemmas.Bool.{and_parts, and_from, false≢true}
use Rattle.go_rules.specs.declared.Colour.{Colour}
use Rattle.go_rules.specs.declared.Illegal.{Illegal}
use Rattle.go_rules.specs.Play.{play, is_legal}
use Rattle.go_rules.specs.Position.{BoardState}
use Rattle.pat_types.specs.declared.pattern.Pattern.{Pattern}
use Rattle.cons_eval.specs.Readings.{Codes}
use Rattle.match_rules.specs.declared.found.Match.{Match}
use Rattle.match_rules.specs.Fits.{fits}
use Rattle.match_rules.specs.Match.{is_match, matches_of, IsMatch, AreMatches}
use Rattle.match_rules.specs.Conditions.{Advice, is_allowed, do_helpers_agree, is_agreed}
use Rattle.helpers.specs.Fields.{helper_names}
use Rattle.match_rules.proofs.ConditionTests.{allowed-true, allowed-from}
use Rattle.match_rules.proofs.InWords.{fits-true, fits-from}
use Rattle.match_rules.proofs.Lists.{passes_each, passes_all}
use Rattle.match_rules.proofs.Orders.{IsBy, by-has, by-from, by-in_order, same_matches}

-- a play that is legal leads to a position
next_of : (r : Result BoardState Illegal) → is_ok r ≡ true → (next : BoardState) × (r ≡ Ok next)
next_of (Ok next) e = (next, refl)
next_of (Err reason) e = absurd (false≢true e)

module _ (code : Codes) (advice : Advice) (patterns : List Pattern) (board : BoardState) (friend : Colour) where
  -- what passes the test is a match
  match_from_by : (z : Match) → IsBy (λ number p t m. is_match code advice p board friend t m) patterns board.size z
      → IsMatch code advice patterns board friend z
  match_from_by z by =
      let parts = and_parts (fits by.pattern board friend z.transform z.at)
      (is_legal board friend z.at && is_agreed code advice by.pattern board friend z.transform z.at) by.passes in
      let both = and_parts (is_legal board friend z.at)
      (is_agreed code advice by.pattern board friend z.transform z.at) parts.1 in
      let agreed = and_parts (is_allowed code by.pattern board friend z.transform z.at)
      (do_helpers_agree advice by.pattern board friend z.at) both.1 in
      let allowed = allowed-true code by.pattern board friend z.transform z.at agreed.0 in
      record {
        pattern = by.pattern;
        number = by.number;
        transform = by.transform;
        on_board = by.at;
        fits = fits-true by.pattern board friend z.transform z.at parts.0;
        legal = next_of (play board friend z.at) both.0;
        safe = allowed.safe;
        enemy_safe = allowed.enemy_safe;
        constraint_true = allowed.constraint_true;
        helpers_agree = passes_each (λ name. advice name board z.at friend) (helper_names by.pattern.items) agreed.1;
      }

  -- a match passes the test
  by_from_match : (z : Match) → IsMatch code advice patterns board friend z
      → IsBy (λ number p t m. is_match code advice p board friend t m) patterns board.size z
  by_from_match z is = record {
    pattern = is.pattern;
    number = is.number;
    transform = is.transform;
    at = is.on_board;
    passes = and_from (fits is.pattern board friend z.transform z.at)
        (is_legal board friend z.at && is_agreed code advice is.pattern board friend z.transform z.at)
        (fits-from is.pattern board friend z.transform z.at is.fits)
        (and_from (is_legal board friend z.at) (is_agreed code advice is.pattern board friend z.transform z.at)
        (ap is_ok is.legal.1)
        (and_from (is_allowed code is.pattern board friend z.transform z.at)
        (do_helpers_agree advice is.pattern board friend z.at)
        (allowed-from code is.pattern board friend z.transform z.at (record {
          safe = is.safe;
          enemy_safe = is.enemy_safe;
          constraint_true = is.constraint_true;
        }))
        (passes_all (λ name. advice name board z.at friend) (helper_names is.pattern.items) is.helpers_agree)));
  }

  -- the list of matches has exactly the matches, in order
  pub are_matches : AreMatches code advice patterns board friend (matches_of code advice patterns board friend)
  unfolding matches_of
  are_matches = record {
    sound = λ z there. match_from_by z (by-has
        (λ number p t m. is_match code advice p board friend t m) patterns board.size z there);
    complete = λ z is. by-from (λ number p t m. is_match code advice p board friend t m) patterns board.size z
        (by_from_match z is);
    in_order = by-in_order (λ number p t m. is_match code advice p board friend t m) patterns board.size;
  }

  -- a list that has exactly the matches, in order, is the list of matches
  pub only_matches : (zs : List Match) → AreMatches code advice patterns board friend zs
      → zs ≡ matches_of code advice patterns board friend
  only_matches zs are =
      same_matches zs (matches_of code advice patterns board friend) are.in_order are_matches.in_order
      (λ z there. are_matches.complete z (are.sound z there)) (λ z there. are.complete z (are_matches.sound z there))
