-- Each clause joins the pieces first, and then reads the lines of the joined bytes from the front.
use Rattle.std.proofs.Common.{[], ◌++◌, ap, sym, ◌∙◌}
use Rattle.std.specs.List.{concat}
use Rattle.gtp_rules.specs.Lines.{Line}
use Rattle.gtp_lex.specs.Held.{held_line, held_after, lines_from}
use Rattle.gtp_lex.proofs.HeldLemmas.{lines_from-append, lines_of-lines_from, lines_with_rest-lines_from}
use Rattle.gtp_lex.proofs.HeldLemmas.{lines_in_turn-concat, held_after-concat}
use Rattle.gtp_lex.proofs.laws.pieces_give_the_lines_of_the_stream.Goals as goal

-- the lines taken piece by piece are those of the joined pieces
pub returns-clause-lines : goal.returns-clause-lines
returns-clause-lines c = λ pieces. lines_in_turn-concat (Line []) pieces ∙ sym (lines_of-lines_from (concat pieces))

-- with the bytes behind the last line feed they are all the lines of the joined pieces
pub returns-clause-with_rest : goal.returns-clause-with_rest
returns-clause-with_rest c =
    λ pieces.
    ap (λ l. l ++ held_line (held_after (Line []) pieces)) (lines_in_turn-concat (Line []) pieces)
    ∙ ap (λ h. lines_from (Line []) (concat pieces) ++ held_line h) (held_after-concat (Line []) pieces)
    ∙ sym (lines_with_rest-lines_from (concat pieces))

-- a piece that is cut in two has the same lines
pub returns-clause-two_pieces : goal.returns-clause-two_pieces
returns-clause-two_pieces c = lines_from-append
