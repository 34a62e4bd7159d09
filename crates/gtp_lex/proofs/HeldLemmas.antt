-- Lines from the front are the lines that the bytes are cut into.
use Rattle.std.proofs.Common.{◌≡◌, ℕ, ◌+◌, ◌<◌, true, false, cond, eqb, leb, List, [], ◌∷◌}
use Rattle.std.proofs.Common.{◌++◌, length, map, take, get_or, refl, sym, ap, subst, ◌∙◌, append_assoc}
use Rattle.std.proofs.Common.{append-nil, arith, length-append}
use Rattle.std.specs.List.{onto_first, All, concat}
use Rattle.std.proofs.lemmas.Bool.Decides.{nat_tests}
use Rattle.std.proofs.lemmas.List.{take_more, take_all}
use Rattle.std.proofs.lemmas.List.Elements.{All-head, All-tail}
use Rattle.gtp_rules.specs.Lines.{RawLine, Line, TooLong, line_feed, longest_line, line_of, texts_of, all_but_last}
use Rattle.gtp_rules.specs.Lines.{last_text, rest_of, lines_of, rest_line, lines_with_rest}
use Rattle.gtp_rules.proofs.LineLemmas.{texts_of-cons}
use Rattle.gtp_lex.specs.Held.{longer, lines_from, held_from, held_line, lines_in_turn, held_after}

-- the lines of two pieces are those of the first, and then those of the second after what the first leaves held
pub lines_from-append : (held : RawLine) (xs ys : List ℕ)
    → lines_from held (xs ++ ys) ≡ lines_from held xs ++ lines_from (held_from held xs) ys
lines_from-append held [] ys = refl
lines_from-append held (x ∷ xs) ys =
    elim (eqb x line_feed)
    as (λ t. cond t (held ∷ lines_from (Line []) (xs ++ ys)) (lines_from (longer held x) (xs ++ ys))
    ≡ cond t (held ∷ lines_from (Line []) xs) (lines_from (longer held x) xs)
    ++ lines_from (cond t (held_from (Line []) xs) (held_from (longer held x) xs)) ys) [
      | true ↦ ap (λ l. held ∷ l) (lines_from-append (Line []) xs ys)
      | false ↦ lines_from-append (longer held x) xs ys
    ]

-- what two pieces leave held is what the second does after the first
pub held_from-append : (held : RawLine) (xs ys : List ℕ) → held_from held (xs ++ ys) ≡ held_from (held_from held xs) ys
held_from-append held [] ys = refl
held_from-append held (x ∷ xs) ys =
    elim (eqb x line_feed)
    as (λ t. cond t (held_from (Line []) (xs ++ ys)) (held_from (longer held x) (xs ++ ys))
    ≡ held_from (cond t (held_from (Line []) xs) (held_from (longer held x) xs)) ys) [
      | true ↦ held_from-append (Line []) xs ys
      | false ↦ held_from-append (longer held x) xs ys
    ]

-- A text without a line feed.

-- one byte more of a line
longer-line_of : (text : List ℕ) (b : ℕ) → longer (line_of text) b ≡ line_of (text ++ b ∷ [])
longer-line_of text b = grind (arith, nat_tests, length-append text (b ∷ []))

-- a byte that is no line feed ends no line
lines_from-byte : (held : RawLine) (b : ℕ) (bs : List ℕ) → eqb b line_feed ≡ false
    → lines_from held (b ∷ bs) ≡ lines_from (longer held b) bs
lines_from-byte held b bs other =
    ap (λ t. cond t (held ∷ lines_from (Line []) bs) (lines_from (longer held b) bs)) other

-- a byte that is no line feed makes the line longer
held_from-byte : (held : RawLine) (b : ℕ) (bs : List ℕ) → eqb b line_feed ≡ false
    → held_from held (b ∷ bs) ≡ held_from (longer held b) bs
held_from-byte held b bs other = ap (λ t. cond t (held_from (Line []) bs) (held_from (longer held b) bs)) other

-- a text without a line feed ends no line
pub lines_from-text : (held : RawLine) (text : List ℕ) → All (λ b. eqb b line_feed ≡ false) text
    → lines_from held text ≡ []
lines_from-text held [] none = refl
lines_from-text held (b ∷ bs) none =
    lines_from-byte held b bs (All-head (λ x. eqb x line_feed ≡ false) b bs none)
    ∙ lines_from-text (longer held b) bs (All-tail (λ x. eqb x line_feed ≡ false) b bs none)

-- a text without a line feed goes on with the line
pub held_from-text : (line text : List ℕ) → All (λ b. eqb b line_feed ≡ false) text
    → held_from (line_of line) text ≡ line_of (line ++ text)
held_from-text line [] none = ap line_of (sym (append-nil line))
held_from-text line (b ∷ bs) none =
    held_from-byte (line_of line) b bs (All-head (λ x. eqb x line_feed ≡ false) b bs none)
    ∙ ap (λ h. held_from h bs) (longer-line_of line b)
    ∙ held_from-text (line ++ b ∷ []) bs (All-tail (λ x. eqb x line_feed ≡ false) b bs none)
    ∙ ap line_of (append_assoc line (b ∷ []) bs)

-- The line feed after a text.

-- a line feed ends the line that is held
pub lines_from-feed : (held : RawLine) (text : List ℕ) → All (λ b. eqb b line_feed ≡ false) text
    → lines_from held (text ++ line_feed ∷ []) ≡ held_from held text ∷ []
lines_from-feed held text none = lines_from-append held text (line_feed ∷ [])
    ∙ ap (λ l. l ++ held_from held text ∷ []) (lines_from-text held text none)

-- after a line feed nothing is held
pub held_from-feed : (held : RawLine) (text : List ℕ) → held_from held (text ++ line_feed ∷ []) ≡ Line []
held_from-feed held text = held_from-append held text (line_feed ∷ [])

-- A piece, of which a front of len bytes has no line feed and goes on with the line.

-- the piece was taken whole: it ends no line, and the line so far is the new one
pub fed_open : (line piece new : List ℕ) (len : ℕ) → len ≡ length piece
    → All (λ b. eqb b line_feed ≡ false) (take len piece) → line_of new ≡ line_of (line ++ take len piece)
    → (lines_from (line_of line) piece ≡ []) × (held_from (line_of line) piece ≡ line_of new)
fed_open line piece new len whole none kept =
    let all : take len piece ≡ piece = take_all len piece (omega arith) in
    let none_of_piece = subst (All (λ b. eqb b line_feed ≡ false)) all none in (
      lines_from-text (line_of line) piece none_of_piece,
      held_from-text line piece none_of_piece
          ∙ ap (λ l. line_of (line ++ l)) (sym all) ∙ sym kept,
    )

-- the byte after the front is a line feed: it ends the new line, and nothing is held
pub fed_ended : (line piece new : List ℕ) (len : ℕ) → len < length piece
    → All (λ b. eqb b line_feed ≡ false) (take len piece) → get_or piece len 0 ≡ line_feed
    → line_of new ≡ line_of (line ++ take len piece)
    → (lines_from (line_of line) (take (len + 1) piece) ≡ line_of new ∷ [])
    × (held_from (line_of line) (take (len + 1) piece) ≡ Line [])
fed_ended line piece new len within none feed kept =
    let taken : take (len + 1) piece ≡ take len piece ++ line_feed ∷ [] = take_more piece len 0 within
    ∙ ap (λ b. take len piece ++ b ∷ []) feed in (
      ap (lines_from (line_of line)) taken ∙ lines_from-feed (line_of line) (take len piece) none
          ∙ ap (λ h. h ∷ []) (held_from-text line (take len piece) none ∙ sym kept),
      ap (held_from (line_of line)) taken ∙ held_from-feed (line_of line) (take len piece),
    )

-- The definition by texts.

-- the first of the texts goes on from a line so far
prepend : List ℕ → List (List ℕ) → List (List ℕ)
prepend line [] = line ∷ []
prepend line (text ∷ texts) = (line ++ text) ∷ texts

-- no line so far changes nothing
prepend-nil : (l : List (List ℕ)) (text : List ℕ) (texts : List (List ℕ)) → l ≡ text ∷ texts → prepend [] l ≡ l
unfolding prepend
prepend-nil l text texts some = subst (λ r. prepend [] r ≡ r) (sym some) refl

-- a line feed ends the line so far
prepend-feed : (line : List ℕ) (l : List (List ℕ)) (text : List ℕ) (texts : List (List ℕ)) → l ≡ text ∷ texts
    → all_but_last (prepend line ([] ∷ l)) ≡ line ∷ all_but_last l
unfolding prepend
prepend-feed line l text texts some =
    subst (λ r. all_but_last ((line ++ []) ∷ r) ≡ line ∷ all_but_last r) (sym some)
    (ap (λ t. t ∷ all_but_last (text ∷ texts)) (append-nil line))

-- behind a line feed the last text is that of what follows
prepend-feed-last : (line : List ℕ) (l : List (List ℕ)) (text : List ℕ) (texts : List (List ℕ)) → l ≡ text ∷ texts
    → last_text (prepend line ([] ∷ l)) ≡ last_text l
unfolding prepend
prepend-feed-last line l text texts some = subst (λ r. last_text ((line ++ []) ∷ r) ≡ last_text r) (sym some) refl

-- any other byte makes the line so far longer
prepend-byte : (line : List ℕ) (b : ℕ) (l : List (List ℕ)) (text : List ℕ) (texts : List (List ℕ)) → l ≡ text ∷ texts
    → prepend line (onto_first b l) ≡ prepend (line ++ b ∷ []) l
unfolding prepend
prepend-byte line b l text texts some =
    subst (λ r. prepend line (onto_first b r) ≡ prepend (line ++ b ∷ []) r) (sym some)
    (ap (λ t. t ∷ texts) (sym (append_assoc line (b ∷ []) text)))

-- the lines of the texts, the first of which goes on from a line so far
lines-prepend : (line bytes : List ℕ)
    → map line_of (all_but_last (prepend line (texts_of bytes))) ≡ lines_from (line_of line) bytes
unfolding prepend
lines-prepend line [] = refl
lines-prepend line (b ∷ bs) =
    let some = texts_of-cons bs in
    elim (eqb b line_feed)
    as (λ t. map line_of (all_but_last (prepend line (cond t ([] ∷ texts_of bs) (onto_first b (texts_of bs)))))
    ≡ cond t (line_of line ∷ lines_from (Line []) bs) (lines_from (longer (line_of line) b) bs)) [
      | true ↦
          ap (map line_of) (prepend-feed line (texts_of bs) some.0 some.1 some.2)
          ∙ ap (λ l. line_of line ∷ l)
          (ap (λ l. map line_of (all_but_last l)) (sym (prepend-nil (texts_of bs) some.0 some.1 some.2))
          ∙ lines-prepend [] bs)
      | false ↦
          ap (λ l. map line_of (all_but_last l)) (prepend-byte line b (texts_of bs) some.0 some.1 some.2)
          ∙ lines-prepend (line ++ b ∷ []) bs ∙ ap (λ h. lines_from h bs) (sym (longer-line_of line b))
    ]

-- the last of the texts, the first of which goes on from a line so far
held-prepend : (line bytes : List ℕ)
    → line_of (last_text (prepend line (texts_of bytes))) ≡ held_from (line_of line) bytes
unfolding prepend
held-prepend line [] = ap line_of (append-nil line)
held-prepend line (b ∷ bs) =
    let some = texts_of-cons bs in
    elim (eqb b line_feed)
    as (λ t. line_of (last_text (prepend line (cond t ([] ∷ texts_of bs) (onto_first b (texts_of bs)))))
    ≡ cond t (held_from (Line []) bs) (held_from (longer (line_of line) b) bs)) [
      | true ↦
          ap line_of (prepend-feed-last line (texts_of bs) some.0 some.1 some.2
          ∙ ap last_text (sym (prepend-nil (texts_of bs) some.0 some.1 some.2)))
          ∙ held-prepend [] bs
      | false ↦
          ap (λ l. line_of (last_text l)) (prepend-byte line b (texts_of bs) some.0 some.1 some.2)
          ∙ held-prepend (line ++ b ∷ []) bs ∙ ap (λ h. held_from h bs) (sym (longer-line_of line b))
    ]

-- the lines of the bytes, from the front
pub lines_of-lines_from : (bytes : List ℕ) → lines_of bytes ≡ lines_from (Line []) bytes
lines_of-lines_from bytes =
    let some = texts_of-cons bytes in
    ap (λ l. map line_of (all_but_last l)) (sym (prepend-nil (texts_of bytes) some.0 some.1 some.2))
    ∙ lines-prepend [] bytes

-- the rest of the bytes, from the front
pub rest_of-held_from : (bytes : List ℕ) → line_of (rest_of bytes) ≡ held_from (Line []) bytes
rest_of-held_from bytes =
    let some = texts_of-cons bytes in
    ap (λ l. line_of (last_text l)) (sym (prepend-nil (texts_of bytes) some.0 some.1 some.2)) ∙ held-prepend [] bytes

-- a rest as a last line
rest_line-held_line : (text : List ℕ) → rest_line text ≡ held_line (line_of text)
rest_line-held_line [] = refl
rest_line-held_line (b ∷ bs) =
    elim (leb (length (b ∷ bs)) longest_line)
    as (λ t. cond t (Line (b ∷ bs)) TooLong ∷ []
    ≡ held_line (cond t (Line (b ∷ bs)) TooLong)) [ true ↦ refl | false ↦ refl ]

-- the lines of the bytes with their rest, from the front
pub lines_with_rest-lines_from : (bytes : List ℕ)
    → lines_with_rest bytes ≡ lines_from (Line []) bytes ++ held_line (held_from (Line []) bytes)
lines_with_rest-lines_from bytes =
    ap (λ l. l ++ rest_line (rest_of bytes)) (lines_of-lines_from bytes)
    ∙ ap (λ l. lines_from (Line []) bytes ++ l)
    (rest_line-held_line (rest_of bytes) ∙ ap held_line (rest_of-held_from bytes))

-- Any number of pieces.

-- the lines of the pieces in turn are those of the pieces joined
pub lines_in_turn-concat : (held : RawLine) (pieces : List (List ℕ))
    → lines_in_turn held pieces ≡ lines_from held (concat pieces)
lines_in_turn-concat held [] = refl
lines_in_turn-concat held (piece ∷ pieces) =
    ap (λ l. lines_from held piece ++ l) (lines_in_turn-concat (held_from held piece) pieces)
    ∙ sym (lines_from-append held piece (concat pieces))

-- what the pieces in turn leave held is what the pieces joined do
pub held_after-concat : (held : RawLine) (pieces : List (List ℕ))
    → held_after held pieces ≡ held_from held (concat pieces)
held_after-concat held [] = refl
held_after-concat held (piece ∷ pieces) =
    held_after-concat (held_from held piece) pieces ∙ sym (held_from-append held piece (concat pieces))
