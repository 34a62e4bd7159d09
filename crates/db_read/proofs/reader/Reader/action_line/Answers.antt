use Rattle.std.proofs.Common.{refl}
use Rattle.db_read.proofs.ReaderLemmas.{action_ok}
use Rattle.db_read.proofs.reader.Reader.action_line.Goals as goal

-- the draft stays as it is, and is judged
pub returns : goal.returns
returns c = λ byte s k next left h.
    action_ok c.args.self.now _ s.stage s.front s.done k s.now byte next left h refl refl refl refl
