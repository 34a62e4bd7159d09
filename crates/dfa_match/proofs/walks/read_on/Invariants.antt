use Rattle.std.proofs.Common.{◌≡◌, ℕ, ◌+◌, ◌<◌, ◌++◌, ◌%◌, false, map, take, drop}
use Rattle.std.specs.List.{All, AllWithin}
use Rattle.dfa_shortcuts.specs.Shortcuts.{is_accepting_entry}
use Rattle.dfa_match.specs.Walks.{after_letters}
use Rattle.dfa_match.proofs.walks.read_on.Given as goal

-- the walks before have read the letter and passed over at most 255 more, and where the number is even none of them
-- came to a row that accepts something
abbrev pub invariant-walks : goal.invariant-walks
invariant-walks l = record {
  value : l.walks ≡ map (after_letters l.entries l.passed l.steps l.padded.letters)
      (take l.walk-index l.fn.walks) ++ drop l.walk-index l.fn.walks;
  few : (n : ℕ) → All (λ w. w.letters < n) l.fn.walks → AllWithin (λ w. w.letters < n + 256) l.walks 0 l.walk-index;
  silent : l.met % 2 ≡ 0 → AllWithin (λ w. is_accepting_entry w.entry ≡ false) l.walks 0 l.walk-index;
}
