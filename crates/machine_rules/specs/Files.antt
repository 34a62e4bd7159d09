-- The files that lines name, with the contents that a loader gives for them.
use Rattle.std.specs.Prelude.{◌≡◌, ℕ, List, Option, Some, None}

-- the contents of the file of each name, if they are known; a file whose contents are unknown may hold one text now and
-- another later
abbrev pub Contents : Type 0
Contents = List ℕ → Option (List ℕ)

-- the text is the contents of a file, if these are known
abbrev pub IsContents : Option (List ℕ) → List ℕ → Type 0
IsContents None text = Unit {0}
IsContents (Some contents) text = text ≡ contents
