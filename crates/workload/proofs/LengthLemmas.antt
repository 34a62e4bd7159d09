-- How many bytes the generated lines have.
use Rattle.std.proofs.Common.{◌≡◌, ◌≤◌, ◌<◌, ◌+◌, ◌-◌, ◌*◌, ◌/◌, ◌%◌, ◌^◌, ◌==◌, ℕ, zero, suc, Bool, true, false, cond}
use Rattle.std.proofs.Common.{List, ◌++◌, length, refl, sym, ap, subst, ◌∙◌, arith, codes, length-append}
use Rattle.std.proofs.lemmas.Fmt.{decimal_digit}
use Rattle.vertices.specs.Vertices.{vertex_text}
use Rattle.workload.specs.GeneratedLines.{rows, number_of_line, point_of_number, colour_of_line, line_with, line_at}
use Rattle.workload.specs.GeneratedLines.{lines_after, ended, text_of, generated_text}

-- a vertex of the board has two bytes
vertex_length : (p : ℕ) → length (vertex_text rows p) ≡ 2
vertex_length p = ap (λ ds. suc (length ds)) (decimal_digit (rows - p / rows) (omega arith))

-- of two short texts either is short
either_short : (b : Bool) (xs ys : List ℕ) → length xs ≤ 17 → length ys ≤ 17 → length (cond b xs ys) ≤ 17
either_short true xs ys one other = one
either_short false xs ys one other = other

-- the name of a colour has one byte
colour_length : (i : ℕ) → length (colour_of_line i) ≡ 1
colour_length i = one (i % 2 == 1)
  where
    one : (b : Bool) → length (cond b (codes "b") (codes "w")) ≡ 1
    one true = refl
    one false = refl

-- four texts one after another have the bytes of each
four_lengths : (a b c d : List ℕ) → length (((a ++ b) ++ c) ++ d) ≡ ((length a + length b) + length c) + length d
four_lengths a b c d =
    length-append ((a ++ b) ++ c) d
    ∙ ap (λ k. k + length d) (length-append (a ++ b) c ∙ ap (λ k. k + length c) (length-append a b))

-- a line has at most 17 bytes
line_length : (i x : ℕ) → length (line_with i x) ≤ 17
unfolding line_with
line_length i x =
    let vertex = vertex_text rows (point_of_number x) in
    let two = vertex_length (point_of_number x) in
    let one = colour_length i in
    let colour = colour_of_line i in
    let attack = length-append (codes "attack ") vertex in
    let defend = length-append (codes "defend ") vertex in
    let matches = length-append (codes "match_patterns ") colour in
    let play : length (((codes "play " ++ colour) ++ codes " ") ++ vertex) ≡ 9 =
    four_lengths (codes "play ") colour (codes " ") vertex
    ∙ ap (λ k. ((5 + k) + 1) + length vertex) one ∙ ap (λ k. 7 + k) two in
    either_short (i % 16 == 4) (codes "undo") _ (omega arith)
    (either_short (i % 16 == 8) (codes "attack " ++ vertex) _ (omega (arith, attack, two))
    (either_short (i % 16 == 12) (codes "defend " ++ vertex) _ (omega (arith, defend, two))
    (either_short (i % 16 == 0) (codes "match_patterns " ++ colour) _ (omega (arith, matches, one))
    (subst (λ k. k ≤ 17) (sym play) (omega arith)))))

-- k lines have at most 18 bytes each, with their line feeds
lines_length : (n i k : ℕ) → length (text_of (lines_after n i k)) ≤ 18 * k
unfolding lines_after
lines_length n i zero = omega arith
lines_length n i (suc k) =
    let line = line_at n (i + 1) in
    let rest = text_of (lines_after n (i + 1) k) in
    let fed = length-append line (codes "\n") in
    let both = length-append (ended line) rest in
    omega (arith, both, fed, line_length (i + 1) (number_of_line n (i + 1)), lines_length n (i + 1) k)

-- all lines have fewer bytes than the longest input
pub generated_length : (n : ℕ) → n ≤ 100000 → length (generated_text n) < 2 ^ 32
generated_length n few =
    let first = codes "boardsize 9\n" in
    let second = codes "depths 5 1\n" in
    let rest = text_of (lines_after n 0 n) in
    let one = length-append first (second ++ rest) in
    let two = length-append second rest in
    omega (arith, one, two, lines_length n 0 n, few)
