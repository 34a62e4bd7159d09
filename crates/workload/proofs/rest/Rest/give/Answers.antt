use Rattle.std.proofs.Common.{◌∙◌, ap, drop, take, ℕ, List}
use Rattle.workload.proofs.RestLemmas.{given_left}
use Rattle.workload.proofs.rest.Rest.give.Goals as goal

-- the bytes given are the first of those that were left
pub returns-clause-bytes : goal.returns-clause-bytes
returns-clause-bytes c =
    given_left c.args.self.now.lines c.args.self.now.made c.args.self.now.at c.copy_piece-given.result
    c.args.self.now.line
    (take c.copy_piece-given.result c.copy_piece-given.new.buf)
    (c.copy_piece-given.ensures.copied
    ∙ ap (λ (xs : List ℕ). take c.copy_piece-given.result (drop c.args.self.now.at xs)) c.as_slice.ensures)
