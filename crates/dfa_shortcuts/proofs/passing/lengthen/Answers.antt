use Rattle.dfa_shortcuts.proofs.LongerShortcuts.{AreShortcuts-longer}
use Rattle.dfa_shortcuts.proofs.passing.lengthen.Goals as goal

-- one shortcut has become longer
pub returns-clause-shortcuts : goal.returns-clause-shortcuts
returns-clause-shortcuts c = λ automaton are shortcuts.
    AreShortcuts-longer automaton c.args.from.now c.args.entries.now c.args.passed.now c.args.place are c.requires.place
    (c.requires.rows c.args.place 0 c.requires.place) c.requires.over
    shortcuts c.row_in.result c.row_in.ensures
