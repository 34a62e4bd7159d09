-- The line that is open goes on with the front of the piece, and a line feed ends it.
use Rattle.std.proofs.Common.{ap, ◌∙◌, arith}
use Rattle.gtp_lex.specs.Lines.{LinesState}
use Rattle.gtp_lex.proofs.FeedLemmas.{Feeds-open, Feeds-ended}
use Rattle.gtp_lex.proofs.lines.Lines.feed.Goals as goal

-- the front of the piece is the whole piece
pub returns-then-len-piece-clause-fed : goal.returns-then-len-piece-clause-fed
returns-then-len-piece-clause-fed c =
    let held = c.drop_given.ensures.held ∙ ap (λ (s : LinesState). s.held) c.self.view_is in
    λ _. Feeds-open c.args.self.now c.drop_given.new.bytes.items c.args.piece.now c.keep.new.bytes.items _ held
    c.text_len-len.ensures.front c.keep.ensures.line c.if-len-piece.true

-- a line feed stands after the front
pub returns-clause-fed : goal.returns-clause-fed
returns-clause-fed c =
    let held = c.drop_given.ensures.held ∙ ap (λ (s : LinesState). s.held) c.self.view_is in
    let within = c.text_len-len.ensures.feed (omega arith) in
    λ _. Feeds-ended c.args.self.now c.drop_given.new.bytes.items c.args.piece.now c.keep.new.bytes.items _ held
    c.text_len-len.ensures.front c.keep.ensures.line (omega arith) within
