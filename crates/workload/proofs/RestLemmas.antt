-- How the bytes left follow from the lines that were made.
use Rattle.std.proofs.Common.{◌≡◌, ◌∙◌, ◌<◌, ◌≤◌, ◌+◌, ◌-◌, ℕ, suc, List, [], ◌∷◌, ◌++◌, length, take, drop, ap, refl}
use Rattle.std.proofs.Common.{sym, arith, add-one, append_assoc, drop_of_length-le}
use Rattle.std.proofs.lemmas.List.{drop-drop, take-append-drop}
use Rattle.workload.specs.GeneratedLines.{ended, line_at, line_with, lines_after, next_number, number_of_line, text_of}
use Rattle.workload.specs.Remaining.{left_from}

-- the number before the first line is that of the lines
pub number_first : (n : ℕ) → n ≡ number_of_line n 0
unfolding number_of_line
number_first n = refl

-- the number of the next line follows that of the line before
pub number_next : (n i x : ℕ) → x ≡ number_of_line n i → next_number x ≡ number_of_line n (i + 1)
unfolding number_of_line
number_next n i x is = rw (is, add-one) refl

-- before n lines are made, one more is left
one_more : (n i k : ℕ) → lines_after n i (suc k) ≡ line_at n (i + 1) ∷ lines_after n (i + 1) k
unfolding lines_after
one_more n i k = refl

-- if nothing of the last line is left, the next line is what comes first
pub next_left : (n i x at : ℕ) (line new : List ℕ) → i < n → at ≡ length line → x ≡ number_of_line n (i + 1)
    → new ≡ ended (line_with (i + 1) x) → left_from n (i + 1) new 0 ≡ left_from n i line at
next_left n i x at line new more done is new_is =
    let count : n - i ≡ suc (n - (i + 1)) = omega arith in
    let none : drop at line ≡ [] = drop_of_length-le line (omega arith) in
    let lines : lines_after n i (n - i) ≡ line_at n (i + 1) ∷ lines_after n (i + 1) (n - (i + 1)) =
    ap (lines_after n i) count ∙ one_more n i (n - (i + 1)) in
    rw (none, lines, new_is, is) refl

-- no lines follow if none is left
no_lines : (n i : ℕ) → lines_after n i 0 ≡ []
unfolding lines_after
no_lines n i = refl

-- after the last line nothing is left
pub none_left : (n i at : ℕ) (line : List ℕ) → n ≤ i → at ≡ length line → left_from n i line at ≡ []
none_left n i at line over done =
    let count : n - i ≡ 0 = omega arith in
    let none : drop at line ≡ [] = drop_of_length-le line (omega arith) in
    rw (none, count, no_lines) refl

-- what was copied and what is left then are what was left before
pub given_left : (n i at given : ℕ) (line out : List ℕ) → out ≡ take given (drop at line)
    → left_from n i line at ≡ out ++ left_from n i line (at + given)
given_left n i at given line out is =
    let rest = text_of (lines_after n i (n - i)) in
    let parts : take given (drop at line) ++ drop (at + given) line ≡ drop at line =
    ap (λ (xs : List ℕ). take given (drop at line) ++ xs) (sym (drop-drop given at line))
    ∙ take-append-drop given (drop at line) in
    let whole : take given (drop at line) ++ (drop (at + given) line ++ rest) ≡ drop at line ++ rest =
    sym (append_assoc (take given (drop at line)) (drop (at + given) line) rest)
    ∙ ap (λ (xs : List ℕ). xs ++ rest) parts in
    sym whole ∙ ap (λ (xs : List ℕ). xs ++ (drop (at + given) line ++ rest)) (sym is)
