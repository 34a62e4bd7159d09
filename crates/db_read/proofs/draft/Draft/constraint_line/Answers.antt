use Rattle.std.proofs.Common.{◌≡◌, ◌∙◌, ◌++◌, ◌∷◌, [], sym, ap, subst, map, None}
use Rattle.std.proofs.lemmas.Result.{on_ok_weaker}
use Rattle.std.proofs.lemmas.List.{map_push}
use Rattle.db_lex.specs.Lines.{word_of}
use Rattle.db_rules.specs.Accepted.{IsLabelled, one_line_more}
use Rattle.db_rules.specs.Blocks.{words_in}
use Rattle.db_rules.specs.Labels.{constraint_fault}
use Rattle.db_entry.specs.Reads.{IsMarked}
use Rattle.db_read.proofs.draft.Draft.constraint_line.Goals as goal

-- a line without a fault is one more of the constraint diagram
pub returns-clause-ok : goal.returns-clause-ok
returns-clause-ok c = on_ok_weaker c.line.result (λ read b k word_is d.
    let mains : map (λ w. w.now) c.as_slice.result.now ≡ words_in b.diagram =
    ap (map (λ w. w.now)) c.as_slice.ensures.value ∙ d.words in
    let there =
    subst (λ ms. (constraint_fault ms (words_in b.constraint) c.args.word.now ≡ None)
    × IsMarked c.line.new.self ms (words_in b.constraint ++ c.args.word.now ∷ [])) mains
    (read (words_in b.constraint)
    (subst (λ ms. IsMarked c.args.self.now.marks ms (words_in b.constraint)) (sym mains) d.marks)) in
    let words : words_in (b.constraint ++ k ∷ []) ≡ words_in b.constraint ++ c.args.word.now ∷ [] =
    map_push (λ l. word_of l.bytes) b.constraint k ∙ ap (λ w. words_in b.constraint ++ w ∷ []) word_is in (
      there.0,
      record {
        name = d.name;
        words = d.words;
        diagram = d.diagram;
        colon = d.colon;
        marks = subst (λ ws. IsMarked c.line.new.self (words_in b.diagram) ws) (sym words) there.1;
        expression = d.expression;
        drawn = d.drawn;
        labelled =
            subst (λ ws. IsLabelled (words_in b.diagram) ws) (sym words)
            (one_line_more (words_in b.constraint) c.args.word.now d.labelled there.0);
      },
    )) c.line.ensures.ok
