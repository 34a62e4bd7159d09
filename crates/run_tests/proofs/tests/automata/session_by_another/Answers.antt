-- The automaton accepts the numbers of one list, and the other list is as long.
use Rattle.std.proofs.Common.{ℕ, ◌<◌, length, arith}
use Rattle.run_tests.proofs.tests.automata.session_by_another.Goals as goal

-- each accepted number is below the length of the other list
pub new-requires : goal.new-requires
new-requires g c = record {
  numbers = λ w n accepted.
      let below : n < length c.deref.result.now = c.in-Ok.ensures.numbers w n accepted in
      omega (
        arith,
        below,
        c.deref.ensures.len,
        c.len-count.ensures,
        c.len-other_count.ensures,
        c.if-other_count-count.false,
        c.in_ok-patterns.patterns.ok,
        c.in_ok-others.others.ok,
      );
}
