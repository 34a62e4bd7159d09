use Rattle.std.proofs.Common.{◌≡◌, ◌∙◌, ◌++◌, ◌∷◌, [], sym, ap, subst, arith}
use Rattle.std.proofs.lemmas.List.{map_push}
use Rattle.db_lex.specs.Lines.{word_of}
use Rattle.db_rules.specs.Accepted.{IsDrawn, IsLabelled, no_line, one_line_more}
use Rattle.db_rules.specs.Blocks.{words_in}
use Rattle.db_entry.specs.Reads.{Draws}
use Rattle.db_read.proofs.DraftLemmas.{shorts-pushed, IsMarked-under}
use Rattle.db_read.proofs.draft.Draft.diagram_line.Goals as goal

-- a line that the diagram took is short, and so all words are still
pub invariant_of-self-2-clause-short : goal.invariant_of-self-2-clause-short
invariant_of-self-2-clause-short c = grind (arith, shorts-pushed)

-- the words and the diagram have one line more
pub returns-in-Ok-clause-ok : goal.returns-in-Ok-clause-ok
returns-in-Ok-clause-ok c = λ b k word_is no_labels d.
    let read = c.in_ok-line.ensures.ok (words_in b.diagram) d.diagram in
    let words : words_in (b.diagram ++ k ∷ []) ≡ words_in b.diagram ++ c.args.word.now ∷ [] =
    map_push (λ l. word_of l.bytes) b.diagram k ∙ ap (λ w. words_in b.diagram ++ w ∷ []) word_is in (
      read.0,
      record {
        name = d.name;
        words = grind (arith, map_push);
        diagram = subst (λ ws. Draws c.line.new.self ws) (sym words) read.1;
        colon = d.colon;
        marks = IsMarked-under _ (words_in b.diagram) (words_in (b.diagram ++ k ∷ [])) (words_in b.constraint)
            (ap words_in no_labels) d.marks;
        expression = d.expression;
        drawn = subst IsDrawn (sym words) (one_line_more (words_in b.diagram) c.args.word.now d.drawn read.0);
        labelled = subst (λ ws. IsLabelled (words_in (b.diagram ++ k ∷ [])) ws) (sym (ap words_in no_labels)) no_line;
      },
    )
