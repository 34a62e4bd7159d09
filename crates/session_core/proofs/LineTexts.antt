-- Texts of patterns and of matches, which grow by one line after another.
use Rattle.std.proofs.Common.{◌≡◌, ℕ, ◌+◌, ◌<◌, List, [], ◌∷◌, ◌++◌, length, map, take, get_or, refl, ap, ◌∙◌}
use Rattle.std.proofs.Common.{append_assoc, decimal, codes, arith}
use Rattle.std.proofs.lemmas.List.{map-append, take_more}
use Rattle.std.specs.List.{join_with_byte}
use Rattle.gtp_cmd.specs.Words.{line_feed}
use Rattle.pat_types.specs.declared.pattern.Pattern.{Pattern}
use Rattle.match_rules.specs.declared.found.Match.{Match}
use Rattle.machine_rules.specs.MatchTexts.{match_text, matches_text}
use Rattle.machine_rules.specs.PatternTexts.{mark_text, classes_text, pattern_text, patterns_text, feed_after}
use Rattle.session_core.proofs.Texts.{join_with_byte-next, starts_with_text}

-- a text with a byte behind it begins with some byte
some_first : (front : List ℕ) (b : ℕ) (rest : List ℕ) → (c : ℕ) × (cs : List ℕ) × (front ++ b ∷ rest ≡ c ∷ cs)
some_first [] b rest = (b, rest, refl)
some_first (c ∷ cs) b rest = (c, cs ++ b ∷ rest, refl)

-- the text of a pattern begins with some byte
pattern_starts : (p : Pattern) → (c : ℕ) × (cs : List ℕ) × (pattern_text p ≡ c ∷ cs)
pattern_starts p =
    let named = some_first p.name 32 [] in (
      named.0,
      _,
      ap (λ l. (l ++ decimal p.rows ++ codes "x" ++ decimal p.cols) ++ codes " " ++ mark_text p.mark ++ codes " "
          ++ classes_text p.classes) named.2,
    )

-- the text of a match begins with some byte
match_starts : (patterns : List Pattern) (s : ℕ) (z : Match) → (c : ℕ) × (cs : List ℕ)
    × (match_text patterns s z ≡ c ∷ cs)
match_starts patterns s z = grind (arith, some_first)

-- Things whose texts begin with some byte, one a line.
module _ {A : Type 0} (text_of : A → List ℕ)
    (text_starts : (x : A) → (c : ℕ) × (cs : List ℕ) × (text_of x ≡ c ∷ cs)) where
  -- the lines
  abbrev lines : List A → List ℕ
  lines xs = join_with_byte line_feed (map text_of xs)

  -- some lines begin with some byte
  lines_start : (x : A) (xs : List A) → (c : ℕ) × (cs : List ℕ) × (lines (x ∷ xs) ≡ c ∷ cs)
  lines_start x xs =
      let first = text_starts x in
      let whole = starts_with_text line_feed first.0 first.1 (map text_of xs) in
      (first.0, whole.0, ap (λ t. join_with_byte line_feed (t ∷ map text_of xs)) first.2 ∙ whole.1)

  -- some lines and one more
  one_line_more : (xs : List A) (x : A) → lines (xs ++ x ∷ []) ≡ lines xs ++ feed_after (lines xs) ++ text_of x
  one_line_more [] x = refl
  one_line_more (y ∷ xs) x =
      grind (
        arith,
        lines_start y xs,
        map-append text_of (y ∷ xs),
        join_with_byte-next line_feed (text_of y) (map text_of xs) (text_of x),
        append_assoc,
      )

  -- the lines so far, and the next one
  lines-next : (xs : List A) (i : ℕ) (x : A) (text new : List ℕ) → i < length xs → x ≡ get_or xs i x → text ≡ lines
      (take i xs)
      → new ≡ text ++ feed_after text ++ text_of x → new ≡ lines (take (i + 1) xs)
  lines-next xs i x text new within is so_far put = grind (arith, one_line_more (take i xs) x, take_more xs i x within)

-- the patterns so far, and the next one
pub patterns-next : (ps : List Pattern) (i : ℕ) (p : Pattern) (text new : List ℕ) → i < length ps → p
    ≡ get_or ps i p → text ≡ patterns_text (take i ps)
    → new ≡ text ++ feed_after text ++ pattern_text p → new ≡ patterns_text (take (i + 1) ps)
patterns-next ps i p text new within is so_far put =
    lines-next pattern_text pattern_starts ps i p text new within is so_far put

-- the matches so far, and the next one
pub matches-next : (patterns : List Pattern) (s : ℕ) (zs : List Match) (i : ℕ) (z : Match) (text new : List ℕ)
    → i < length zs → z ≡ get_or zs i z
    → text ≡ matches_text patterns s (take i zs) → new ≡ text ++ feed_after text ++ match_text patterns s z → new
    ≡ matches_text patterns s (take (i + 1) zs)
matches-next patterns s zs i z text new within is so_far put =
    lines-next (match_text patterns s) (match_starts patterns s) zs i z text new within is so_far put
