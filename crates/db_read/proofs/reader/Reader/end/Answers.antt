-- What the end closes is left behind, and the end meets the same there.
use Rattle.std.proofs.Common.{arith}
use Rattle.db_read.proofs.ReaderLemmas.{entries-closed}
use Rattle.db_read.proofs.ReadLemmas.{end_table}
use Rattle.db_read.proofs.LineLemmas.{blames_end, same_end}
use Rattle.db_read.proofs.reader.Reader.end.Goals as goal

-- what the end closes is at fault
pub returns-in-Err-clause-err : goal.returns-in-Err-clause-err
returns-in-Err-clause-err c = λ s h. blames_end c.args.number s c.in-Err.e (c.in-Err.ensures.err s h)

-- the text ends in a main diagram
pub returns-in-Some-clause-err : goal.returns-in-Some-clause-err
returns-in-Some-clause-err c = grind (arith, end_table, same_end)

-- the entries are those that are done and the one that the end closes
pub returns-clause-ok : goal.returns-clause-ok
returns-clause-ok c = grind (arith, end_table, same_end, entries-closed)
