-- How a record is written: bytes that are ignored, and then the tokens of its first tree, with blanks before them. No
-- definition here says how a text is cut into tokens.
use Rattle.std.specs.Prelude.{◌≡◌, ℕ, ◌||◌, true, false, List, [], ◌∷◌, ◌++◌}
use Rattle.std.specs.List.{filter, list_all, list_any}
use Rattle.sgf_rules.specs.Tokens.{is_blank, is_capital, is_letter, is_open_byte, ends_value, is_backslash}
use Rattle.sgf_rules.specs.Bytes.{open_byte, close_byte, semicolon, left_bracket, right_bracket, backslash}
use Rattle.sgf_rules.specs.Tokens.{Token, Open, Close, Semicolon, Name, Value, Stray}
use Rattle.sgf_rules.specs.Trees.{Node, Tree, spelled_tree, line_of_tree}

-- the first bytes stand between `[` and `]` and say the second bytes: a byte other than `]` and the backslash says
-- itself, and a backslash with any byte after it says that byte
pub data Says : List ℕ → List ℕ → Type 0 where
  nothing : Says [] []
  plain : (b : ℕ) (bytes said : List ℕ) → (ends_value b || is_backslash b) ≡ false → Says bytes said
      → Says (b ∷ bytes) (b ∷ said)
  taken : (b : ℕ) (bytes said : List ℕ) → Says bytes said → Says (backslash ∷ (b ∷ bytes)) (b ∷ said)

-- letters, at least one of them a capital, write the name of these capitals
pub record IsName (name letters : List ℕ) : Type 0 where
  pub letters_alone : list_all is_letter letters ≡ true
  pub some_capital : list_any is_capital letters ≡ true
  pub capitals : name ≡ filter is_capital letters

-- `[`, bytes that say the value, and `]` write it
pub record IsBracketed (value bytes : List ℕ) : Type 0 where
  pub inner : List ℕ
  pub brackets : bytes ≡ left_bracket ∷ (inner ++ right_bracket ∷ [])
  pub says : Says inner value

-- the bytes write a token
abbrev pub Writes : List ℕ → Token → Type 0
Writes bytes Open = bytes ≡ open_byte ∷ []
Writes bytes Close = bytes ≡ close_byte ∷ []
Writes bytes Semicolon = bytes ≡ semicolon ∷ []
Writes bytes (Name name) = IsName name bytes
Writes bytes (Value value) = IsBracketed value bytes
Writes bytes Stray = ⊥

-- the bytes write these tokens in order; blanks may stand before each token
abbrev pub WritesAll : List ℕ → List Token → Type 0
WritesAll bytes [] = bytes ≡ []
WritesAll bytes (t ∷ ts) =
    (blanks : List ℕ) × (piece : List ℕ) × (more : List ℕ) × (bytes ≡ blanks ++ (piece ++ more))
    × (list_all is_blank blanks ≡ true) × Writes piece t × WritesAll more ts

-- the text begins with a tree: bytes without `(` are ignored, the next bytes write the tree, and any bytes may follow
pub record IsFirstTree (text : List ℕ) (first : Tree) : Type 0 where
  pub before : List ℕ
  pub written : List ℕ
  pub rest : List ℕ
  pub parts : text ≡ before ++ (written ++ rest)
  pub passed : list_any is_open_byte before ≡ false
  pub writes : WritesAll written (spelled_tree first)

-- the text begins with a tree, and these are the nodes of its main line
pub record IsMainLine (text : List ℕ) (nodes : List Node) : Type 0 where
  pub first : Tree
  pub is_first : IsFirstTree text first
  pub line : nodes ≡ line_of_tree first
