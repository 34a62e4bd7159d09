-- The bytes are those of the position, and are read as it.
use Rattle.std.proofs.Common.{arith}
use Rattle.board_bytes.specs.Bytes.{bytes_of}
use Rattle.board_bytes.proofs.WrittenBytes.{read_back_from}
use Rattle.board_bytes.proofs.write.bytes_of.Goals as goal

-- field by field
pub returns-clause-value : goal.returns-clause-value
unfolding bytes_of
returns-clause-value c = grind arith

-- and so they are read back
pub returns-clause-read_back : goal.returns-clause-read_back
returns-clause-read_back c = read_back_from c.args.position.now _ (returns-clause-value c) c.size.ensures.position
