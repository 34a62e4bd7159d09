-- The values of a node, as they are read from its tokens one after another.
use Rattle.std.proofs.Common.{◌≡◌, ◌≢◌, ℕ, List, [], ◌∷◌, ◌++◌, length, Option, Some, None, refl, sym, ap, ◌∙◌, arith}
use Rattle.std.proofs.lemmas.List.{append-nil}
use Rattle.sgf_rules.specs.declared.token.TokenKind.{TokenKind}
use Rattle.sgf_rules.specs.declared.token.TokenKind.TheVariants as kind
use Rattle.sgf_rules.specs.Tokens.{Token, Open, Close, Semicolon, Name, Value, Stray, token_of}
use Rattle.sgf_rules.specs.MainLine.{values_in, properties_in, nodes_in}
use Rattle.sgf_read.specs.declared.token.Token.{Token as Read}
use Rattle.sgf_read.specs.Reads.{tokens_from, bytes_in, IsFirstToken}
use Rattle.sgf_read.proofs.TokenLemmas.{no_token}
use Rattle.problem_records.specs.Nodes.{Named, under_name, named_values, first_of, first_node}

-- the values at the front of these tokens, each with its name; the first ones have the name that was read before
abbrev pub values_from : Option (List ℕ) → List Token → List Named
values_from m [] = []
values_from m (Name name ∷ ts) = values_from (Some name) ts
values_from None (Value v ∷ ts) = values_from None ts
values_from (Some name) (Value v ∷ ts) = (name, v) ∷ values_from (Some name) ts
values_from m (Open ∷ ts) = []
values_from m (Close ∷ ts) = []
values_from m (Semicolon ∷ ts) = []
values_from m (Stray ∷ ts) = []

-- the values at the front under the name that was read, and then those of the properties behind them
abbrev pub from_node : Option (List ℕ) → List Token → List Named
from_node None ts = named_values (properties_in ts)
from_node (Some name) ts = under_name name (values_in ts) ++ named_values (properties_in ts)

-- behind a name stand its values, or there are none
named_first : (name : List ℕ) (ts : List Token)
    → under_name name (values_in ts) ++ named_values (properties_in ts) ≡ named_values (properties_in (Name name ∷ ts))
named_first name [] = refl
named_first name (Open ∷ ts) = refl
named_first name (Close ∷ ts) = refl
named_first name (Semicolon ∷ ts) = refl
named_first name (Name other ∷ ts) = refl
named_first name (Value v ∷ ts) = refl
named_first name (Stray ∷ ts) = refl

-- token by token
values_by_tokens : (m : Option (List ℕ)) (ts : List Token) → values_from m ts ≡ from_node m ts
values_by_tokens None [] = refl
values_by_tokens (Some name) [] = refl
values_by_tokens None (Open ∷ ts) = refl
values_by_tokens None (Close ∷ ts) = refl
values_by_tokens None (Semicolon ∷ ts) = refl
values_by_tokens None (Stray ∷ ts) = refl
values_by_tokens (Some name) (Open ∷ ts) = refl
values_by_tokens (Some name) (Close ∷ ts) = refl
values_by_tokens (Some name) (Semicolon ∷ ts) = refl
values_by_tokens (Some name) (Stray ∷ ts) = refl
values_by_tokens None (Name name ∷ ts) = values_by_tokens (Some name) ts ∙ named_first name ts
values_by_tokens (Some before) (Name name ∷ ts) = values_by_tokens (Some name) ts ∙ named_first name ts
values_by_tokens None (Value v ∷ ts) = values_by_tokens None ts
values_by_tokens (Some name) (Value v ∷ ts) = ap (λ (vs : List Named). (name, v) ∷ vs) (values_by_tokens (Some name) ts)

-- the values from the tokens of a node are the values of the node
pub values_of_node : (ts : List Token) → values_from None ts ≡ named_values (properties_in ts)
values_of_node ts = values_by_tokens None ts

-- no value is left at a token that is no name and no value
no_more : (m : Option (List ℕ)) (k : TokenKind) (bytes : List ℕ) (ts : List Token) → k ≢ kind.Name → k ≢ kind.Value
    → values_from m (token_of k bytes ∷ ts) ≡ []
no_more None kind.Open bytes ts name value = refl
no_more None kind.Close bytes ts name value = refl
no_more None kind.Semicolon bytes ts name value = refl
no_more None kind.Stray bytes ts name value = refl
no_more None kind.Name bytes ts name value = absurd (name refl)
no_more None kind.Value bytes ts name value = absurd (value refl)
no_more (Some n) kind.Open bytes ts name value = refl
no_more (Some n) kind.Close bytes ts name value = refl
no_more (Some n) kind.Semicolon bytes ts name value = refl
no_more (Some n) kind.Stray bytes ts name value = refl
no_more (Some n) kind.Name bytes ts name value = absurd (name refl)
no_more (Some n) kind.Value bytes ts name value = absurd (value refl)

-- no value is left without a token
none_left : (m : Option (List ℕ)) → values_from m [] ≡ []
none_left None = refl
none_left (Some name) = refl

module _ (text : List ℕ) (start at : ℕ) (m : Option (List ℕ)) (read : List Named)
    (rest : read ++ values_from m (tokens_from text at) ≡ values_from None (tokens_from text start)) where
  -- if no value is left, those that were read are the node's
  all_read : values_from m (tokens_from text at) ≡ [] → read ≡ named_values (properties_in (tokens_from text start))
  all_read none =
      sym (append-nil read)
      ∙ (ap (λ (vs : List Named). read ++ vs) (sym none) ∙ (rest ∙ values_of_node (tokens_from text start)))

  -- at a token that is no name and no value
  pub read_to_sign : (t : Read) → IsFirstToken text at t → t.kind ≢ kind.Name → t.kind ≢ kind.Value
      → read ≡ named_values (properties_in (tokens_from text start))
  read_to_sign t h name value =
      all_read (ap (λ (ts : List Token). values_from m ts) h.tokens
      ∙ no_more m t.kind (bytes_in text t) (tokens_from text t.next) name value)

  -- at the end of the text
  pub read_to_end : tokens_from text at ≡ [] → read ≡ named_values (properties_in (tokens_from text start))
  read_to_end e = all_read (ap (λ (ts : List Token). values_from m ts) e ∙ none_left m)

module _ (text : List ℕ) (at : ℕ) (node : first_of (nodes_in (tokens_from text at)) ≡ first_node text) where
  -- a text has no properties at its end
  at_end : properties_in (tokens_from text (length text)) ≡ []
  at_end = ap (λ (ts : List Token). properties_in ts) (no_token text (length text) (omega arith))

  -- behind the first `)` there is no first node
  pub none_behind_close : (t : Read) → IsFirstToken text at t → t.kind ≡ kind.Close
      → properties_in (tokens_from text (length text)) ≡ first_node text
  none_behind_close t h e =
      at_end
      ∙ (sym (ap (λ (ts : List Token). first_of (nodes_in ts)) h.tokens
      ∙ ap (λ (k : TokenKind). first_of (nodes_in (token_of k (bytes_in text t) ∷ tokens_from text t.next))) e)
      ∙ node)

  -- there is no node if the text has no token from here on
  pub none_at_end : tokens_from text at ≡ [] → properties_in (tokens_from text (length text)) ≡ first_node text
  none_at_end e = at_end ∙ (sym (ap (λ (ts : List Token). first_of (nodes_in ts)) e) ∙ node)
