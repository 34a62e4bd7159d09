-- The tokens of a text are those that its bytes write, where each name has a value behind it.
use Rattle.std.proofs.Common.{◌≡◌, ℕ, Bool, true, false, ◌&&◌, List, [], ◌∷◌, ◌++◌, take, drop, refl, sym}
use Rattle.std.proofs.Common.{ap, ◌∙◌, inl, inr, append_assoc, append-nil, arith}
use Rattle.std.proofs.lemmas.Bool.{cases_Bool, and_parts}
use Rattle.std.proofs.lemmas.List.{take-append-drop}
use Rattle.std.specs.List.{flat_map, list_all}
use Rattle.sgf_rules.specs.Tokens.{is_blank, Token, Open, Close, Semicolon, Name, Value, Stray, token_at, tokens_of}
use Rattle.sgf_rules.specs.Trees.{Property, Node, Tree, tree, Trees, none, before, spelled_values, spelled_property}
use Rattle.sgf_rules.specs.Trees.{spelled_node, spelled_tree, spelled_trees}
use Rattle.sgf_rules.specs.Written.{Writes, WritesAll}
use Rattle.sgf_rules.proofs.SpelledWalks.{tree_apart}
use Rattle.sgf_rules.proofs.CutTokens.{blanks_step, blank_step, token_first, no_tokens}
use Rattle.sgf_rules.proofs.WrittenTokens.{blank_no_letter, begins_with_letter, Ends, token_read, is_stray}
use Rattle.sgf_rules.proofs.WrittenTokens.{token_written}

-- the tokens begin with a value
abbrev pub begins_with_value : List Token → Bool
begins_with_value (Value v ∷ ts) = true
begins_with_value _ = false

-- no token is stray, and each name has a value behind it
abbrev pub is_sound : List Token → Bool
is_sound [] = true
is_sound (Open ∷ ts) = is_sound ts
is_sound (Close ∷ ts) = is_sound ts
is_sound (Semicolon ∷ ts) = is_sound ts
is_sound (Name name ∷ ts) = begins_with_value ts && is_sound ts
is_sound (Value v ∷ ts) = is_sound ts
is_sound (Stray ∷ ts) = false

-- values are sound
sound_values : (values : List (List ℕ)) (rest : List Token)
    → is_sound (spelled_values values ++ rest) ≡ is_sound rest
sound_values [] rest = refl
sound_values (v ∷ vs) rest = sound_values vs rest

-- and so are properties
sound_properties : (ps : List Property) (rest : List Token)
    → is_sound (flat_map spelled_property ps ++ rest) ≡ is_sound rest
sound_properties [] rest = refl
sound_properties (p ∷ ps) rest = grind (arith, append_assoc, sound_values, sound_properties ps rest)

-- nodes
sound_nodes : (nodes : List Node) (rest : List Token)
    → is_sound (flat_map spelled_node nodes ++ rest) ≡ is_sound rest
sound_nodes [] rest = refl
sound_nodes (n ∷ ns) rest = grind (arith, append_assoc, sound_properties, sound_nodes ns rest)

mutual
  -- the tokens of a tree
  pub sound_tree : (t : Tree) (rest : List Token) → is_sound (spelled_tree t ++ rest) ≡ is_sound rest
  sound_tree (tree n ns us) rest =
      ap is_sound (tree_apart n ns us rest)
      ∙ (sound_nodes (n ∷ ns) (spelled_trees us ++ Close ∷ rest) ∙ sound_trees us (Close ∷ rest))

  -- and of trees one after another
  sound_trees : (us : Trees) (rest : List Token) → is_sound (spelled_trees us ++ rest) ≡ is_sound rest
  sound_trees none rest = refl
  sound_trees (before t us) rest =
      ap is_sound (append_assoc (spelled_tree t) (spelled_trees us) rest)
      ∙ (sound_tree t (spelled_trees us ++ rest) ∙ sound_trees us rest)

-- each tree is sound
pub tree_sound : (t : Tree) → is_sound (spelled_tree t) ≡ true
tree_sound t = sym (ap is_sound (append-nil (spelled_tree t))) ∙ sound_tree t []

-- what stands behind a sound token is sound
sound_later : (t : Token) (ts : List Token) → is_sound (t ∷ ts) ≡ true → is_sound ts ≡ true
sound_later Open ts h = h
sound_later Close ts h = h
sound_later Semicolon ts h = h
sound_later (Name name) ts h = (and_parts (begins_with_value ts) (is_sound ts) h).1
sound_later (Value v) ts h = h
sound_later Stray ts h = absurd (cc)

-- and it is no stray one
sound_first : (t : Token) (ts : List Token) → is_sound (t ∷ ts) ≡ true → is_stray t ≡ false
sound_first Open ts h = refl
sound_first Close ts h = refl
sound_first Semicolon ts h = refl
sound_first (Name name) ts h = refl
sound_first (Value v) ts h = refl
sound_first Stray ts h = absurd (cc)

-- blanks and a `[` begin with no letter
blanks_no_letter : (blanks bytes : List ℕ) → list_all is_blank blanks ≡ true → begins_with_letter bytes ≡ false
    → begins_with_letter (blanks ++ bytes) ≡ false
blanks_no_letter [] bytes h e = e
blanks_no_letter (b ∷ blanks) bytes h e = blank_no_letter b (and_parts (is_blank b) (list_all is_blank blanks) h).0

-- bytes that write a value and more begin with no letter
value_no_letter : (ts : List Token) (bytes rest : List ℕ) → begins_with_value ts ≡ true → WritesAll bytes ts
    → begins_with_letter (bytes ++ rest) ≡ false
value_no_letter [] bytes rest h w = absurd (cc)
value_no_letter (Open ∷ ts) bytes rest h w = absurd (cc)
value_no_letter (Close ∷ ts) bytes rest h w = absurd (cc)
value_no_letter (Semicolon ∷ ts) bytes rest h w = absurd (cc)
value_no_letter (Name name ∷ ts) bytes rest h w = absurd (cc)
value_no_letter (Stray ∷ ts) bytes rest h w = absurd (cc)
value_no_letter (Value v ∷ ts) bytes rest h w = grind (arith, append_assoc, blanks_no_letter)

-- in sound tokens each lets what stands behind it begin
sound_ends : (t : Token) (ts : List Token) (bytes rest : List ℕ) → is_sound (t ∷ ts) ≡ true → WritesAll bytes ts
    → Ends t (bytes ++ rest)
sound_ends Open ts bytes rest h w = tt
sound_ends Close ts bytes rest h w = tt
sound_ends Semicolon ts bytes rest h w = tt
sound_ends (Name name) ts bytes rest h w = grind (arith, value_no_letter, and_parts)
sound_ends (Value v) ts bytes rest h w = tt
sound_ends Stray ts bytes rest h w = tt

-- the tokens that bytes write are the first of the text that they begin
pub tokens_read : (ts : List Token) (bytes rest : List ℕ) → is_sound ts ≡ true → WritesAll bytes ts
    → tokens_of (bytes ++ rest) ≡ ts ++ tokens_of rest
tokens_read [] bytes rest h e = ap (λ bs. tokens_of (bs ++ rest)) e
tokens_read (t ∷ ts) bytes rest h w =
    ap (λ bs. tokens_of (bs ++ rest)) w.3
    ∙ (ap tokens_of (append_assoc w.0 (w.1 ++ w.2) rest
    ∙ ap (λ bs. w.0 ++ bs) (append_assoc w.1 w.2 rest))
    ∙ (blanks_step w.0 (w.1 ++ (w.2 ++ rest)) w.4
    ∙ (token_read t w.1 (w.2 ++ rest) w.5 (sound_ends t ts w.2 rest h w.6)
    ∙ ap (λ ts. t ∷ ts) (tokens_read ts w.2 rest (sound_later t ts h) w.6))))

-- a text begins with blanks and bytes that write its first token
pub record HasFirst (text : List ℕ) (t : Token) (later : List Token) : Type 0 where
  pub blanks : List ℕ
  pub piece : List ℕ
  pub rest : List ℕ
  pub parts : text ≡ blanks ++ (piece ++ rest)
  pub all_blank : list_all is_blank blanks ≡ true
  pub writes : Writes piece t
  pub tokens : tokens_of rest ≡ later

-- one blank more before the first token
blank_more : (b : ℕ) (bs : List ℕ) (t : Token) (later : List Token) → is_blank b ≡ true → HasFirst bs t later
    → HasFirst (b ∷ bs) t later
blank_more b bs t later e f = record {
  blanks = b ∷ f.blanks;
  piece = f.piece;
  rest = f.rest;
  parts = ap (λ bs. b ∷ bs) f.parts;
  all_blank = rw e f.all_blank;
  writes = f.writes;
  tokens = f.tokens;
}

-- the token that stands at the front is written there
token_there : (b : ℕ) (bs : List ℕ) → is_stray (token_at b bs).0 ≡ false
    → HasFirst (b ∷ bs) (token_at b bs).0 (tokens_of (drop (token_at b bs).1 bs))
token_there b bs h = record {
  blanks = [];
  piece = b ∷ take (token_at b bs).1 bs;
  rest = drop (token_at b bs).1 bs;
  parts = ap (λ bs. b ∷ bs) (sym (take-append-drop (token_at b bs).1 bs));
  all_blank = refl;
  writes = token_written b bs h;
  tokens = refl;
}

-- a first token that is no stray one is written
pub first_written : (text : List ℕ) (t : Token) (later : List Token) → tokens_of text ≡ t ∷ later
    → is_stray t ≡ false → HasFirst text t later
first_written [] t later e h = absurd (cc (no_tokens))
first_written (b ∷ bs) t later e h = elim (cases_Bool (is_blank b)) [
  | inl blank ↦ blank_more b bs t later blank (first_written bs t later (sym (blank_step b bs blank) ∙ e) h)
  | inr not_blank ↦ grind (arith, token_first, same_first)
]
  where
    same_first : (b : ℕ) (bs : List ℕ) (t : Token) (later : List Token) → (token_at b bs).0 ≡ t
        → tokens_of (drop (token_at b bs).1 bs) ≡ later → is_stray t ≡ false → HasFirst (b ∷ bs) t later
    same_first b bs t later is rest h = grind (arith, token_there b bs (ap is_stray is ∙ h))

-- sound tokens at the front of a text are written there
pub tokens_written : (ts : List Token) (text : List ℕ) (later : List Token) → tokens_of text ≡ ts ++ later
    → is_sound ts ≡ true → (written : List ℕ) × (rest : List ℕ) × (text ≡ written ++ rest) × WritesAll written ts
tokens_written [] text later e h = ([], text, refl, refl)
tokens_written (t ∷ ts) text later e h =
    let f = first_written text t (ts ++ later) e (sound_first t ts h) in
    let more = tokens_written ts f.rest later f.tokens (sound_later t ts h) in (
      f.blanks ++ (f.piece ++ more.0),
      more.1,
      f.parts ∙ (ap (λ bs. f.blanks ++ (f.piece ++ bs)) more.2
          ∙ (ap (λ bs. f.blanks ++ bs) (sym (append_assoc f.piece more.0 more.1))
          ∙ sym (append_assoc f.blanks (f.piece ++ more.0) more.1))),
      (f.blanks, f.piece, more.0, refl, f.all_blank, f.writes, more.3),
    )
