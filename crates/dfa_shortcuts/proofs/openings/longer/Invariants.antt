use Rattle.std.proofs.Common.{◌+◌, ◌*◌}
use Rattle.dfa_shortcuts.specs.Openings.{AreLonger}
use Rattle.dfa_shortcuts.proofs.openings.longer.Given as goal

-- the entries behind the letters before were added
abbrev pub invariant-letters : goal.invariant-letters
invariant-letters l = record {
  longer : AreLonger l.entries l.shorter (4 * l.entry-index + l.letter) l.longer.items;
}

-- the entries behind the words before were added
abbrev pub invariant-words : goal.invariant-words
invariant-words l = record {
  longer : AreLonger l.entries l.shorter (4 * l.entry-index) l.longer.items;
}
