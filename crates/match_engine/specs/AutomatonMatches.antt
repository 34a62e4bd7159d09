-- The matches that an automaton finds, whether or not it is the automaton of the patterns.
use Rattle.std.specs.Prelude.{◌≡◌, ◌<◌, ◌*◌, slice_get, ℕ, ◌+◌, ◌&&◌, ◌==◌, Bool, false, pos, List, Option, Some, None}
use Rattle.std.specs.Prelude.{is_some}
use Rattle.std.specs.List.{list_all, list_any, range_with_len}
use Rattle.go_rules.specs.declared.Colour.{Colour}
use Rattle.go_rules.specs.Below.{any_below}
use Rattle.go_rules.specs.Position.{BoardState}
use Rattle.go_rules.specs.Play.{is_legal}
use Rattle.spiral.specs.Spiral.{offset_count}
use Rattle.pat_types.specs.declared.pattern.Pattern.{Pattern}
use Rattle.pat_types.specs.Cells.{anchor_of}
use Rattle.dfa_core.specs.Automata.{Row, accepted}
use Rattle.dfa_match.specs.SeenLetters.{word_at}
use Rattle.match_rules.specs.declared.found.Match.{Match}
use Rattle.match_rules.specs.Fits.{place_of_cell}
use Rattle.cons_eval.specs.Readings.{Codes}
use Rattle.match_rules.specs.Conditions.{Advice, is_allowed, do_helpers_agree, is_agreed}
use Rattle.match_rules.specs.Match.{matches_by}

-- whether the automaton accepts the number at the end of some front of the word that is read from the anchor a under t
unfoldable pub accepts_from : List Row → BoardState → Colour → ℕ → ℕ → ℕ → Bool
accepts_from automaton board friend number t a =
    any_below (offset_count + 1) (λ n. list_any (λ k. k == number) (accepted automaton (word_at board friend t a n)))

-- whether there is an anchor, and the automaton has a hit of the number there under t
abbrev pub has_hit : List Row → BoardState → Colour → ℕ → ℕ → Option ℕ → Bool
has_hit automaton board friend number t None = false
has_hit automaton board friend number t (Some a) = accepts_from automaton board friend number t a

-- the anchor's point, with the star at m under t
abbrev pub place_of_anchor : Pattern → ℕ → ℕ → ℕ → Option ℕ
place_of_anchor p s t m = place_of_cell p s t m (pos (anchor_of p).0) (pos (anchor_of p).1)

-- whether every letter of the diagram lies on the board, with the star at m under t
abbrev pub lies_on_board : Pattern → ℕ → ℕ → ℕ → Bool
lies_on_board p s t m = list_all (λ r. list_all (λ c. is_some (place_of_cell p s t m (pos r) (pos c)))
    (range_with_len 0 p.cols)) (range_with_len 0 p.rows)

-- whether the automaton finds the pattern with this number at m under t, and the friend's play there is legal
abbrev pub is_found : List Row → BoardState → Colour → ℕ → Pattern → ℕ → ℕ → Bool
is_found automaton board friend number p t m =
    has_hit automaton board friend number t (place_of_anchor p board.size t m)
    && (lies_on_board p board.size t m && is_legal board friend m)

-- the matches that the automaton finds, sorted, before classes, constraints and helpers are asked
unfoldable pub found_by : List Row → List Pattern → BoardState → Colour → List Match
found_by automaton patterns board friend = matches_by (is_found automaton board friend) patterns board.size

-- whether the pattern with this number matches at m under t by the automaton: the automaton has a hit whose star stands
-- at m, the whole diagram lies on the board, the friend's play at m is legal, and the classes, the constraint and the
-- helpers allow it
abbrev pub is_automaton_match : Codes → Advice → List Row → BoardState → Colour → ℕ → Pattern → ℕ → ℕ → Bool
is_automaton_match code advice automaton board friend number p t m =
    is_found automaton board friend number p t m && is_agreed code advice p board friend t m

-- the matches of the patterns by an automaton, which need not be the automaton of these patterns
unfoldable pub automaton_matches : Codes → Advice → List Row → List Pattern → BoardState → Colour → List Match
automaton_matches code advice automaton patterns board friend =
    matches_by (is_automaton_match code advice automaton board friend) patterns board.size

-- whether the classes and the constraint of the match's pattern allow the match; no, if there is no pattern
abbrev pub is_allowed_at : Codes → BoardState → Colour → Option Pattern → Match → Bool
is_allowed_at code board friend None z = false
is_allowed_at code board friend (Some p) z = is_allowed code p board friend z.transform z.at

-- whether the helpers of the match's pattern say yes to the match; no, if there is no pattern
abbrev pub is_agreed_at : Advice → BoardState → Colour → Option Pattern → Match → Bool
is_agreed_at advice board friend None z = false
is_agreed_at advice board friend (Some p) z = do_helpers_agree advice p board friend z.at

-- the match is of a pattern of the list, and its point is on the board
pub record IsFoundThere (patterns : List Pattern) (board : BoardState) (z : Match) : Type 0 where
  pub pattern : Pattern
  pub number : slice_get patterns z.pattern ≡ Some pattern
  pub on_board : z.at < board.size * board.size
