-- What a loader promises of one call.
use Rattle.std.specs.Prelude.{◌≡◌, ℕ, ◌+◌, nat_le, Bool, List, [], ◌∷◌, ◌++◌, length, take, Option, Some, None}
use Rattle.std.specs.Prelude.{Result, Ok, Err, if◌then◌else◌, codes}
use Rattle.std.specs.Str.{bytes_eq}
use Rattle.gtp_io.specs.declared.errors.LoadError.{LoadError}
use Rattle.gtp_io.specs.declared.errors.LoadError.TheVariants.{Failed, NoMemory}

-- the bytes are the bytes that were handed in, followed by the contents if the loader tells them, and else by any bytes
abbrev pub IsLoaded : Option (List ℕ) → List ℕ → List ℕ → Type 0
IsLoaded None into bytes = (more : List ℕ) × (bytes ≡ into ++ more)
IsLoaded (Some contents) into bytes = bytes ≡ into ++ contents

-- the missed names after a call for a name: a call that failed appends the name, and no other call does
abbrev pub missed_after : {T : Type 0} → List (List ℕ) → List ℕ → Result T LoadError → List (List ℕ)
missed_after missed name (Ok x) = missed
missed_after missed name (Err Failed) = missed ++ name ∷ []
missed_after missed name (Err NoMemory) = missed

-- the contents at the first of these names that equals name
abbrev pub named : List (List ℕ) → List (List ℕ) → List ℕ → Option (List ℕ)
named (known ∷ names) (text ∷ contents) name = if bytes_eq known name then Some text else named names contents name
named _ _ name = None

-- the most bytes that a file may have
abbrev pub longest_file : ℕ
longest_file = 268435456

-- a `FileLoader`: the most bytes of a file, and the missed names
pub record FilesState : Type 0 where
  pub most : ℕ
  pub missed : List (List ℕ)

-- the text was appended to the bytes, up to one byte more than most, and whole is true exactly if the text has no more
-- than most bytes
pub record IsReadUpTo (most : ℕ) (text into bytes : List ℕ) (whole : Bool) : Type 0 where
  pub read : bytes ≡ into ++ take (most + 1) text
  pub fits : whole ≡ nat_le (length text) most

-- what is printed for a load that has no contents
abbrev pub load_error_text : LoadError → List ℕ
load_error_text Failed = codes "failed"
load_error_text NoMemory = codes "out of memory"
