use Rattle.std.proofs.Common.{refl}
use Rattle.db_read.proofs.ReaderLemmas.{expression_ok}
use Rattle.db_read.proofs.reader.Reader.expression_line.Goals as goal

-- the draft has read the line
pub returns-clause-ok : goal.returns-clause-ok
returns-clause-ok c = λ s k number e next h.
    expression_ok c.args.self.now _ s.stage s.front s.done k s.now c.args.number _ c.args.line.now number e next h
    refl refl refl c.in_ok-expression_line.ensures.rest c.in_ok-expression_line.ensures.ok
