-- What the reader's steps over a text give: tokens, used values and nodes, each as the front of what is left.
use Rattle.std.specs.Prelude.{◌≡◌, ℕ, ◌+◌, ◌-◌, ◌<◌, ◌≤◌, false, List, [], ◌∷◌, ◌++◌, length, drop, Option, Some, None}
use Rattle.std.specs.Prelude.{slice_index, slice_range, Result, Ok, Err}
use Rattle.go_rules.specs.Position.{BoardState}
use Rattle.sgf_rules.specs.declared.kind.FaultKind.{FaultKind}
use Rattle.sgf_rules.specs.declared.meaning.Meaning.{Meaning}
use Rattle.sgf_rules.specs.Tokens.{Token, Name, Value, token_of, tokens_of, said}
use Rattle.sgf_rules.specs.Tokens.{letters_at, value_at, token_at}
use Rattle.sgf_rules.specs.MainLine.{properties_in, nodes_in}
use Rattle.sgf_rules.specs.Uses.{Use, meaning_of, uses_under}
use Rattle.sgf_read.specs.declared.token.Token.{Token as Read}
use Rattle.sgf_read.specs.declared.uses.UsedValue.{UsedValue}

-- the tokens of a text from an index on
abbrev pub tokens_from : List ℕ → ℕ → List Token
tokens_from text at = tokens_of (drop at text)

-- the bytes of a token that was read, without the brackets of a value
abbrev pub bytes_in : List ℕ → Read → List ℕ
bytes_in text t = slice_range text t.from t.to

-- the token that was read lies in the text, and its end lies behind the index at
pub record LiesBehind (text : List ℕ) (at : ℕ) (t : Read) : Type 0 where
  pub in_order : t.from ≤ t.to
  pub inside : t.to ≤ length text
  pub onward : at < t.next
  pub within : t.next ≤ length text

-- the token that was read is this token, and takes this number of bytes of the text behind the index at
abbrev pub Shows : List ℕ → ℕ → Read → Token × ℕ → Type 0
Shows text at t token = token ≡ (token_of t.kind (bytes_in text t), t.next - (at + 1))

-- the token that was read is the letters that begin at an index
pub record IsLetters (text : List ℕ) (at : ℕ) (t : Read) : Type 0 where
  pub lies : LiesBehind text at t
  pub letters : Shows text at t (letters_at (slice_index text at) (drop (at + 1) text))

-- the token that was read is the value that begins at an index
pub record IsValue (text : List ℕ) (at : ℕ) (t : Read) : Type 0 where
  pub lies : LiesBehind text at t
  pub value : Shows text at t (value_at (drop (at + 1) text))

-- the token that was read begins at an index
pub record IsTokenAt (text : List ℕ) (at : ℕ) (t : Read) : Type 0 where
  pub lies : LiesBehind text at t
  pub token : Shows text at t (token_at (slice_index text at) (drop (at + 1) text))

-- the token that was read is the first of the tokens from an index on, and the other tokens follow it
pub record IsFirstToken (text : List ℕ) (at : ℕ) (t : Read) : Type 0 where
  pub lies : LiesBehind text at t
  pub tokens : tokens_from text at ≡ token_of t.kind (bytes_in text t) ∷ tokens_from text t.next

-- the used values of a node from a place in it on, if values at the front have the meaning m
abbrev pub uses_from : Option Meaning → List Token → List Use
uses_from m (Name name ∷ ts) = uses_from (meaning_of name) ts
uses_from m (Value v ∷ ts) = uses_under m (v ∷ []) ++ uses_from m ts
uses_from m _ = []

-- the bytes that a used value says
abbrev pub bytes_said : List ℕ → UsedValue → List ℕ
bytes_said text u = said false (slice_range text u.from u.to)

-- the value that was found is the first used value from an index on, and the other used values follow it
pub record IsFirstUse (text : List ℕ) (at : ℕ) (m : Option Meaning) (u : UsedValue) : Type 0 where
  pub in_order : u.from ≤ u.to
  pub inside : u.to ≤ length text
  pub onward : at < u.next
  pub within : u.next ≤ length text
  pub uses : uses_from m (tokens_from text at)
      ≡ (u.meaning, bytes_said text u) ∷ uses_from (Some u.meaning) (tokens_from text u.next)

-- the properties of the first node from an index on begin at the index next, and the other nodes follow that node
pub record IsFirstNode (text : List ℕ) (at next : ℕ) : Type 0 where
  pub onward : at < next
  pub within : next ≤ length text
  pub nodes : nodes_in (tokens_from text at)
      ≡ properties_in (tokens_from text next) ∷ nodes_in (tokens_from text next)

-- the values that are used in the node whose properties begin at an index
abbrev pub uses_at : List ℕ → ℕ → List Use
uses_at text at = uses_from None (tokens_from text at)

-- a step with this result did what it should: it led to the position now, or it failed with the fault that it should
-- have
abbrev pub Leads : Result (Unit {0}) FaultKind → BoardState → Result BoardState FaultKind → Type 0
Leads (Ok done) now should = should ≡ Ok now
Leads (Err kind) now should = should ≡ Err kind
