-- What a machine M may write for a list of lines. This is a relation, for two reasons: another answer may stand in
-- place of a reply, and a reply may rest on a file, which may hold one text now and another later. So a step is a
-- relation too, between a machine, a line and what is given for the line.
use Rattle.std.specs.Prelude.{◌≡◌, ◌⊎◌, ℕ, ◌<◌, Bool, true, false, MatchBool, List, [], ◌∷◌, ◌++◌, length}
use Rattle.gtp_rules.specs.Lines.{RawLine}
use Rattle.gtp_rules.specs.Steps.{Fallback, Step}

-- out is the reply of one of these answers, and new is the machine after it
abbrev pub IsOneOf : {M : Type 0} → List (Fallback M) → List ℕ → M → Type 0
IsOneOf [] out new = ⊥
IsOneOf (answer ∷ answers) out new = ((out ≡ answer.reply) × (new ≡ answer.next)) ⊎ IsOneOf answers out new

-- a step with this result may write out, with new the machine after it: out is the step's reply, or an answer that may
-- stand in its place, and such an answer never ends the session
abbrev pub MayGive : {M : Type 0} → Step M → List ℕ → M → Bool → Type 0
MayGive given out new ends =
    ((out ≡ given.reply) × (new ≡ given.next) × (ends ≡ given.ends))
    ⊎ (IsOneOf given.fallbacks out new × (ends ≡ false))

-- the line may be answered with out, and new is the machine after it; ends says whether the line ends the session
abbrev pub MayAnswer : {M : Type 0} → (M → RawLine → Step M → Type 0) → M → RawLine → List ℕ → M → Bool → Type 0
MayAnswer {M} step old line out new ends = (given : Step M) × step old line given × MayGive given out new ends

-- for each machine and line the step gives something
abbrev pub IsTotal : {M : Type 0} → (M → RawLine → Step M → Type 0) → Type 0
IsTotal {M} step = (old : M) (line : RawLine) → (given : Step M) × step old line given

-- The lines may be answered with out, one after another, and new is the machine after them. No line is answered after
-- one that ends the session, and ended says whether one of them did.
abbrev pub IsRun : {M : Type 0} → (M → RawLine → Step M → Type 0) → M → List RawLine → List ℕ → M → Bool → Type 0
IsRun step old [] out new ended = (out ≡ []) × (new ≡ old) × (ended ≡ false)
IsRun {M} step old (line ∷ lines) out new ended =
    (first : List ℕ) × (rest : List ℕ) × (mid : M) × (ends : Bool) × MayAnswer step old line first mid ends
    × (out ≡ first ++ rest)
    × MatchBool ends ((rest ≡ []) × (new ≡ mid) × (ended ≡ true)) (IsRun step mid lines rest new ended)

-- the bytes out are a transcript of the lines
abbrev pub IsTranscript : {M : Type 0} → (M → RawLine → Step M → Type 0) → M → List RawLine → List ℕ → Type 0
IsTranscript {M} step first lines out = (last : M) × (ended : Bool) × IsRun step first lines out last ended

-- the bytes out are a transcript of the lines, and none of the lines ends the session
abbrev pub GoesOn : {M : Type 0} → (M → RawLine → Step M → Type 0) → M → List RawLine → List ℕ → Type 0
GoesOn {M} step first lines out = (last : M) × IsRun step first lines out last false

-- the bytes put break off within the reply to one of the lines: the lines before it are answered whole, and the end of
-- its reply, missing, was not put
pub record Cut {M : Type 0} (step : M → RawLine → Step M → Type 0) (first : M) (lines : List RawLine)
    (put : List ℕ) : Type 0 where
  pub before : List RawLine
  pub line : RawLine
  pub after : List RawLine
  pub whole : List ℕ
  pub part : List ℕ
  pub missing : List ℕ
  pub mid : M
  pub next : M
  pub ends : Bool
  pub place : lines ≡ before ++ line ∷ after
  pub answered : IsRun step first before whole mid false
  pub reply : MayAnswer step mid line (part ++ missing) next ends
  pub proper : 0 < length missing
  pub out : put ≡ whole ++ part
