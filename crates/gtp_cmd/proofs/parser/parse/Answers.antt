-- What the words of a line say lies within the board, and its spans within the line.
use Rattle.std.proofs.Common.{◌∷◌, Some, None, length, drop, sym, subst, arith}
use Rattle.gtp_cmd.specs.Words.{kept, plain, words_of}
use Rattle.gtp_cmd.specs.Spans.{spans_at}
use Rattle.gtp_cmd.specs.Within.{SaysWithin, SaysWithinLine}
use Rattle.gtp_cmd.proofs.WithinLemmas.{said-within}
use Rattle.gtp_cmd.proofs.SpanLemmas.{InOrder-rest}
use Rattle.gtp_cmd.proofs.LineLemmas.{said-within_line, spans_before_comment}
use Rattle.gtp_cmd.proofs.parser.parse.Goals as goal

-- the words behind an id
pub returns-in-Some-id-clause-within : goal.returns-in-Some-id-clause-within
returns-in-Some-id-clause-within c = grind (arith, said-within)

-- the words of a line without an id
pub returns-in-None-clause-within : goal.returns-in-None-clause-within
returns-in-None-clause-within c =
    subst (SaysWithin c.args.size) (sym c.called.ensures)
    (said-within None c.args.size (kept c.in-Some.first.now ∷ words_of (plain c.in-Some.more.now))
    (spans_at c.before_comment-text.result.now 0))

-- the spans behind an id
pub returns-in-Some-id-clause-spans : goal.returns-in-Some-id-clause-spans
returns-in-Some-id-clause-spans c =
    subst (SaysWithinLine c.args.line.now) (sym c.after_id.ensures)
    (said-within_line c.args.line.now (Some c.in-Some-id.id) c.args.size (words_of (plain c.in-Some.more.now))
    (drop 1 (spans_at c.before_comment-text.result.now 0))
    (InOrder-rest 0 (length c.args.line.now) (spans_at c.before_comment-text.result.now 0)
    (spans_before_comment c.args.line.now c.before_comment-text.result.now c.before_comment-text.ensures)))

-- the spans of a line without an id
pub returns-in-None-clause-spans : goal.returns-in-None-clause-spans
returns-in-None-clause-spans c =
    subst (SaysWithinLine c.args.line.now) (sym c.called.ensures)
    (said-within_line c.args.line.now None c.args.size
    (kept c.in-Some.first.now ∷ words_of (plain c.in-Some.more.now))
    (spans_at c.before_comment-text.result.now 0)
    (spans_before_comment c.args.line.now c.before_comment-text.result.now c.before_comment-text.ensures))
