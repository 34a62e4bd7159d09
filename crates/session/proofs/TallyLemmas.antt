-- Tallies one after another, what is kept along them, and the runs and cuts of a transcript that they are.
use Rattle.std.specs.Prelude.{min}
use Rattle.std.proofs.KnownBytes.{Appends-nil, Appends-trans}
use Rattle.std.proofs.Math.Nat.{min-eq_left, min-eq_right}
use Rattle.std.proofs.lemmas.Bool.{cases_lt}
use Rattle.std.proofs.Common.{◌≡◌, ℕ, zero, suc, ◌+◌, ◌-◌, ◌^◌, ◌<◌, Bool, true, false, List, [], ◌∷◌}
use Rattle.std.proofs.Common.{◌++◌, length, refl, sym, ap, subst, ◌∙◌, append_assoc, append-nil, arith, length-append}
use Rattle.gtp_rules.specs.Lines.{RawLine}
use Rattle.gtp_rules.specs.Steps.{Step}
use Rattle.gtp_rules.specs.Transcript.{MayAnswer, IsRun}
use Rattle.gtp_rules.proofs.Runs.{Cut-one, Cut-after, Cut-more}
use Rattle.session_core.specs.Kept.{Kept}
use Rattle.machine_rules.specs.AnsweredLines.{AnsweredLine, IsAlong}
use Rattle.session.specs.Tallies.{Tally, no_tally, together, tally_of, cut_tally, kept_sum, Progress, Advances}
use Rattle.session.specs.Tallies.{IsTallied, BreaksOff}

-- three tallies, in either grouping
pub together-assoc : {M : Type 0} (a b c : Tally M) → together (together a b) c ≡ together a (together b c)
together-assoc a b c = grind (arith, append_assoc)

-- a tally and nothing
pub together-none : {M : Type 0} (a : Tally M) → together a no_tally ≡ a
together-none a = grind (arith, append-nil)

-- nothing and a tally
pub none-together : {M : Type 0} (a : Tally M) → together no_tally a ≡ a
none-together a = grind arith

-- a count after m more and then n more
pub kept_sum-twice : (count m n : ℕ) → kept_sum (kept_sum count m) n ≡ kept_sum count (m + n)
kept_sum-twice count zero n = ap (kept_sum count) (let same : n ≡ 0 + n = omega arith in same)
kept_sum-twice count (suc m) zero = ap (kept_sum count) (let same : suc m ≡ suc m + 0 = omega arith in same)
kept_sum-twice count (suc m) (suc n) = grind (arith, min-eq_left, min-eq_right, cases_lt)

-- a count that a program adds a number to
pub kept_sum-is : (count n : ℕ) → count < 2 ^ 64 → min (count + n) (2 ^ 64 - 1) ≡ kept_sum count n
kept_sum-is count zero small = grind (arith, min-eq_left)
kept_sum-is count (suc n) small = refl

-- what is kept goes along lines and then along others
pub IsAlong-append : {K M : Type 0} (goes : K → AnsweredLine M → K → Type 0) (a b c : K) (xs ys : List (AnsweredLine M))
    → IsAlong goes a xs b → IsAlong goes b ys c → IsAlong goes a (xs ++ ys) c
IsAlong-append goes a b c [] ys none later = subst (λ k. IsAlong goes k ys c) none later
IsAlong-append goes a b c (x ∷ xs) ys (mid, first, rest) later =
    (mid, first, IsAlong-append goes mid b c xs ys rest later)

-- what is kept goes along some lines and then along the others
pub IsAlong-split : {K M : Type 0} (goes : K → AnsweredLine M → K → Type 0) (a c : K) (xs ys : List (AnsweredLine M))
    → IsAlong goes a (xs ++ ys) c → (b : K) × IsAlong goes a xs b × IsAlong goes b ys c
IsAlong-split goes a c [] ys along = (a, refl, along)
IsAlong-split goes a c (x ∷ xs) ys (mid, first, rest) = grind (arith, IsAlong-split goes mid c xs ys rest)

-- nothing was put
pub Advances-none : {M : Type 0} (goes : Kept → AnsweredLine M → Kept → Type 0) (a : Progress)
    → Advances goes a a no_tally
Advances-none goes a = record { writes = Appends-nil a.written; along = refl; replies = refl; bytes = refl }

-- one tally was put and then another
pub Advances-trans : {M : Type 0} (goes : Kept → AnsweredLine M → Kept → Type 0) (a b c : Progress)
    (s t : Tally M)
    → Advances goes a b s → Advances goes b c t → Advances goes a c (together s t)
Advances-trans goes a b c s t earlier later = record {
  writes = Appends-trans a.written b.written c.written s.out t.out earlier.writes later.writes;
  along = IsAlong-append goes a.kept b.kept c.kept s.turns t.turns earlier.along later.along;
  replies = later.replies ∙ ap (λ n. kept_sum n t.replies) earlier.replies
      ∙ kept_sum-twice a.replies s.replies t.replies;
  bytes = later.bytes ∙ ap (λ n. kept_sum n (length t.out)) earlier.bytes ∙ kept_sum-twice a.bytes (length s.out)
      (length t.out)
      ∙ ap (kept_sum a.bytes) (sym (length-append s.out t.out));
}

module _ (M : Type 0) (step : M → RawLine → Step M → Type 0) where
  -- no line
  pub IsTallied-nil : (m : M) → IsTallied step m [] no_tally m false
  IsTallied-nil m = (refl, refl, refl)

  -- one line
  pub IsTallied-one : (old : M) (line : RawLine) (out : List ℕ) (new : M) (ends : Bool)
      → MayAnswer step old line out new ends
      → IsTallied step old (line ∷ []) (tally_of old line out) new ends
  IsTallied-one old line out new true a =
      (out, no_tally, new, true, a, sym (together-none (tally_of old line out)), (refl, refl, refl))
  IsTallied-one old line out new false a =
      (out, no_tally, new, false, a, sym (together-none (tally_of old line out)), (refl, refl, refl))

  -- lines after lines
  pub IsTallied-append : (old : M) (xs ys : List RawLine) (a b : Tally M) (mid new : M) (ended : Bool)
      → IsTallied step old xs a mid false → IsTallied step mid ys b new ended
      → IsTallied step old (xs ++ ys) (together a b) new ended
  IsTallied-append old [] ys a b mid new ended p q = grind (arith, none-together)
  IsTallied-append old (x ∷ xs) ys a b mid new ended (first, rest, m, true, answers, joined, h) q = grind arith
  IsTallied-append old (x ∷ xs) ys a b mid new ended (first, rest, m, false, answers, joined, h) q = (
    first,
    together rest b,
    m,
    false,
    answers,
    ap (λ t. together t b) joined ∙ together-assoc (tally_of old x first) rest b,
    IsTallied-append m xs ys rest b mid new ended h q,
  )

  -- after the line that ends the session nothing is answered
  pub IsTallied-ended : (old : M) (xs ys : List RawLine) (a : Tally M) (new : M) → IsTallied step old xs a new true
      → IsTallied step old (xs ++ ys) a new true
  IsTallied-ended old [] ys a new p = absurd (let e = p.2 in cc)
  IsTallied-ended old (x ∷ xs) ys a new (first, rest, m, true, answers, joined, h) = grind arith
  IsTallied-ended old (x ∷ xs) ys a new (first, rest, m, false, answers, joined, h) =
      (first, rest, m, false, answers, joined, IsTallied-ended m xs ys rest new h)

  -- the lines were answered as in a transcript
  pub IsTallied-run : (old : M) (lines : List RawLine) (tally : Tally M) (new : M) (ended : Bool)
      → IsTallied step old lines tally new ended → IsRun step old lines tally.out new ended
  IsTallied-run old [] tally new ended p = (ap (λ (t : Tally M). t.out) p.0, p.1, p.2)
  IsTallied-run old (x ∷ xs) tally new ended (first, rest, m, true, answers, joined, h) = grind arith
  IsTallied-run old (x ∷ xs) tally new ended (first, rest, m, false, answers, joined, h) =
      (first, rest.out, m, false, answers, ap (λ (t : Tally M). t.out) joined, IsTallied-run m xs rest new ended h)

  -- the first of some lines broke off
  abbrev pub BreaksOff-one : (from : M) (line : RawLine) (more lines : List RawLine) (part missing : List ℕ) (next : M)
      (ends : Bool) → lines ≡ line ∷ more → MayAnswer step from line (part ++ missing) next ends → 0 < length missing
      → BreaksOff step from lines (cut_tally from line part missing)
  BreaksOff-one from line more lines part missing next ends place answers proper = record {
    cut = Cut-one M step from line more lines part missing next ends place answers proper;
    whole = no_tally;
    answered = IsTallied-nil from;
    tallied = sym (none-together (cut_tally from line part missing));
  }

  -- a line broke off in the later lines, after the earlier ones were answered
  abbrev pub BreaksOff-after : (old : M) (xs ys lines : List RawLine) (a b : Tally M) (mid : M) → lines ≡ xs ++ ys
      → IsTallied step old xs a mid false → BreaksOff step mid ys b → BreaksOff step old lines (together a b)
  BreaksOff-after old xs ys lines a b mid same run off = record {
    cut = Cut-after M step old xs ys lines a.out b.out mid same (IsTallied-run old xs a mid false run) off.cut;
    whole = together a off.whole;
    answered = IsTallied-append old xs off.cut.before a off.whole mid off.cut.mid false run off.answered;
    tallied = ap (together a) off.tallied ∙ sym (together-assoc a off.whole _);
  }

  -- a line broke off in the earlier of some lines
  abbrev pub BreaksOff-more : (old : M) (xs ys lines : List RawLine) (a : Tally M) → lines ≡ xs ++ ys
      → BreaksOff step old xs a → BreaksOff step old lines a
  BreaksOff-more old xs ys lines a same off = record {
    cut = Cut-more M step old xs ys lines a.out same off.cut;
    whole = off.whole;
    answered = off.answered;
    tallied = off.tallied;
  }
