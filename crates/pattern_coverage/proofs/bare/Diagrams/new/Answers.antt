use Rattle.std.proofs.Common.{ℕ, ◌<◌, sym, subst, Contains, length, List}
use Rattle.dfa_core.specs.Automata.{Row, accepted}
use Rattle.dfa_core.specs.States.{IsAutomatonOf}
use Rattle.dfa_core.specs.Words.{Word}
use Rattle.pattern_coverage.proofs.bare.Diagrams.new.Goals as goal

-- the scanner is the automaton of the bare patterns
pub returns : goal.returns
returns c =
    let list = c.in_ok-bare.bare.items in
    let m = c.in_ok-automaton.automaton in
    let Numbers : List Row → Type 0 = λ rows. (w : Word) (n : ℕ) → Contains (accepted rows w) n → n < length list in
    record {
      bare = c.in_ok-bare.ensures;
      automaton = subst (IsAutomatonOf list) (sym c.in_ok-scanner.ensures)
          (subst (λ l. IsAutomatonOf l m) c.as_slice.ensures.value c.in_ok-automaton.ensures.accepts);
      numbers = subst Numbers (sym c.in_ok-scanner.ensures)
          (λ w n there. subst (λ l. n < length l) c.as_slice.ensures.value
          (c.in_ok-automaton.ensures.numbers w n there));
    }
