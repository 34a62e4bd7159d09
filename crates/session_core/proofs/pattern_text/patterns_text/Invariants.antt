use Rattle.std.proofs.Common.{◌≡◌, take}
use Rattle.machine_rules.specs.PatternTexts.{patterns_text}
use Rattle.session_core.proofs.pattern_text.patterns_text.Given as goal

-- the patterns so far were put
abbrev pub invariant-loop-p : goal.invariant-loop-p
invariant-loop-p l = l.text ≡ patterns_text (take l.p-index l.patterns)
