-- Stages of candidates: the liberties of the target, and then the others.
use Rattle.std.proofs.Common.{◌≡◌, ℕ, ◌-◌, ◌*◌, ◌<◌, Bool, true, false, not, ◌&&◌, ◌||◌, List, Option}
use Rattle.std.proofs.Common.{Some, None, is_some, refl, sym, ap, subst, ◌∙◌, arith, inl, inr}
use Rattle.std.proofs.lemmas.Bool.{cases_Bool, both_ways, and_parts, and_from, or_left, or_right}
use Rattle.std.specs.Ordering.{nat_cmp}
use Rattle.std.specs.FinSet as sets
use Rattle.go_rules.specs.declared.Cell.{Cell}
use Rattle.go_rules.specs.Strings.{is_liberty, liberties, liberty_points}
use Rattle.go_rules.proofs.Paths.{IsLiberty-from_test}
use Rattle.go_base.proofs.LastLiberties.{contains-liberty_points}
use Rattle.go_base.proofs.Liberties.{len-liberty_points}
use Rattle.go_rules.specs.Position.{BoardState}
use Rattle.read_rules.proofs.CandidateLaws.{candidate_on}
use Rattle.read_rules.specs.Turns.{mover_of}
use Rattle.read_rules.specs.declared.node.Node.{Node}
use Rattle.read_rules.specs.Candidates.{is_candidate}
use Rattle.read_rules.specs.GameTree.{attacker_wins, child_of, next_node, some_child, suits, succeeds, first_success}
use Rattle.go_base.specs.Facts.{Fact}
use Rattle.read_rules.specs.ActiveArea.{AddsNear}
use Rattle.read_rules.proofs.RuleLemmas.{child_gives}
use Rattle.read_rules.proofs.WinLemmas.{first_success-none}
use Rattle.read_rules.specs.declared.turn.Turn.{Turn}
use Rattle.read_tree.specs.declared.allowances.Allowances.{Allowances}
use Rattle.read_tree.specs.Allowances.{Ko, has, has_some, under, without, IsFiltered}
use Rattle.read_rules.specs.Bound.{outlasts}
use Rattle.read_rules.specs.Stages.{is_later_candidate, has_later_candidates}
use Rattle.go_base.specs.Surroundings.{is_last_liberty_of_enemy}
use Rattle.read_rules.proofs.StageLemmas.{candidate_stages, later_none}
use Rattle.read_tree.specs.Stages.{is_capture, is_other, is_capture_or_liberty}
use Rattle.read_tree.specs.Steps.{IsLeft, TellsBy, is_off_liberties}
use Rattle.read_tree.proofs.AllowanceLemmas.{none_of, has-without, success_some, and_parts_not, and_false_right}
use Rattle.read_tree.proofs.AllowanceLemmas.{and_true, has_none, has-two, in_other}
use Rattle.read_rules.proofs.LibertyLemmas.{bounded, child_free, play_size, play_takes_none, more_outlasts}

-- a liberty of the target is a candidate
pub liberty_is_candidate : (turn : Turn) (here : BoardState) (p : ℕ)
    → is_liberty here.size here.cells turn.target p ≡ true → is_candidate turn here p ≡ true
unfolding is_candidate
liberty_is_candidate turn here p h = or_left _ _ (or_left _ _ (or_left _ _ (or_left _ _ h)))

-- nothing came
pub nothing_near : (seen : Fact → Bool) (S : ℕ → Type 0) → AddsNear seen seen S
nothing_near seen S = record { added = λ fact i. inl i }

-- The walk over a set of points, at one turn.
module _ (n : ℕ) (turn : Turn) (here : BoardState) (points : ℕ → Bool) where
  -- all that was asked is given
  pub by_done : (tried : ℕ → Bool) (asked missing : Allowances) → IsLeft n turn here points tried asked missing
      → has_some missing ≡ false → TellsBy n turn here points asked asked
  by_done tried asked missing left none = record {
    asked_for = λ ko h. h;
    given = λ ko a. left.given ko a (none_of missing ko none);
    none = λ ko a f. absurd (both_ways (has asked ko) f a);
  }

  -- no point is left
  pub by_over : (tried : ℕ → Bool) (asked missing : Allowances) → IsLeft n turn here points tried asked missing
      → ((q : ℕ) → tried q ≡ false → points q ≡ false)
      → TellsBy n turn here points asked (without asked missing)
  by_over tried asked missing left rest = record {
    asked_for = λ ko h. (and_parts_not _ _ (sym (has-without asked missing ko) ∙ h)).0;
    given = λ ko h. let parts = and_parts_not _ _ (sym (has-without asked missing ko) ∙ h) in
        left.given ko parts.0 parts.1;
    none = λ ko a f q.
        let miss = in_other (has asked ko) (has missing ko) a (sym (has-without asked missing ko) ∙ f) in
        elim (cases_Bool (tried q)) [
          | inl was ↦ left.none ko miss q was
          | inr yet ↦ ap (λ b. b && succeeds n (under turn ko) here q) (rest q yet)
        ];
  }

  -- none gives it
  pub by_none : (asked : Allowances) → ((ko : Ko) (q : ℕ) → (points q && succeeds n (under turn ko) here q) ≡ false)
      → TellsBy n turn here points asked (record { defender = false; neither = false; attacker = false })
  by_none asked none = record {
    asked_for = λ ko h. absurd (both_ways _ (has_none ko) h);
    given = λ ko h. absurd (both_ways _ (has_none ko) h);
    none = λ ko a f. none ko;
  }

  -- each of the points fails
  pub by_failing : (asked : Allowances)
      → ((ko : Ko) (q : ℕ) → points q ≡ true → succeeds n (under turn ko) here q ≡ false)
      → TellsBy n turn here points asked (record { defender = false; neither = false; attacker = false })
  by_failing asked fails = by_none asked (λ ko q. elim (cases_Bool (points q)) [
    | inl on ↦ and_false_right (points q) _ (fails ko q on)
    | inr off ↦ ap (λ b. b && succeeds n (under turn ko) here q) off
  ])

  -- the same points by another test
  pub by_same : (others : ℕ → Bool) (asked found : Allowances) → ((q : ℕ) → points q ≡ others q)
      → TellsBy n turn here points asked found → TellsBy n turn here others asked found
  by_same others asked found same t = record {
    asked_for = t.asked_for;
    given = λ ko h. let w = t.given ko h in (w.0, sym (same w.0) ∙ w.1, w.2);
    none = λ ko a f q. ap (λ b. b && succeeds n (under turn ko) here q) (sym (same q)) ∙ t.none ko a f q;
  }

-- More points than those that were tried, at one turn.
module _ (n : ℕ) (turn : Turn) (here : BoardState) (points more : ℕ → Bool) (asked found : Allowances)
    (told : TellsBy n turn here points asked found) where
  -- nothing is missing
  pub by_enough : ((q : ℕ) → points q ≡ true → more q ≡ true) → has_some (without asked found) ≡ false
      → TellsBy n turn here more asked found
  by_enough among none = record {
    asked_for = told.asked_for;
    given = λ ko h. let w = told.given ko h in (w.0, among w.0 w.1, w.2);
    none = λ ko a f q. absurd (both_ways (has found ko) f (in_other (has asked ko) (has found ko) a
        (sym (has-without asked found ko) ∙ none_of (without asked found) ko none)));
  }

  -- the rest was asked of others
  pub by_both : (others : ℕ → Bool) (rest : Allowances) → ((q : ℕ) → more q ≡ (points q || others q))
      → TellsBy n turn here others (without asked found) rest
      → TellsBy n turn here more asked (without asked (without (without asked found) rest))
  by_both others rest both second = record {
    asked_for = λ ko h. (and_parts_not _ _ (sym (has-without asked _ ko) ∙ h)).0;
    given = λ ko h. elim (cases_Bool (has found ko)) [
      | inl t ↦ let w = told.given ko t in (w.0, both w.0 ∙ or_left _ _ w.1, w.2)
      | inr f ↦
          let w = second.given ko (from_rest (has asked ko) (has found ko) (has rest ko) f
          (sym (has-two asked found rest ko) ∙ h)) in
          (w.0, both w.0 ∙ or_right (points w.0) _ w.1, w.2)
    ];
    none = λ ko a f q.
        let off = not_told (has asked ko) (has found ko) (has rest ko) a (sym (has-two asked found rest ko) ∙ f) in
        let missing = has-without asked found ko ∙ ap (λ g. has asked ko && not g) off.0 ∙ ap (λ b. b && true) a in
        ap (λ b. b && succeeds n (under turn ko) here q) (both q)
        ∙ neither (points q) (others q) _ (told.none ko a off.0 q) (second.none ko missing off.1 q);
  }
    where
      from_rest : (a g r : Bool) → g ≡ false → (a && not ((a && not g) && not r)) ≡ true → r ≡ true
      from_rest true true r e h = cc
      from_rest true false true e h = refl
      from_rest true false false e h = cc
      from_rest false g r e h = cc

      not_told : (a g r : Bool) → a ≡ true → (a && not ((a && not g) && not r)) ≡ false → (g ≡ false) × (r ≡ false)
      not_told true true r e h = cc
      not_told true false true e h = cc
      not_told true false false e h = (refl, refl)
      not_told false g r e h = cc

      neither : (p o s : Bool) → (p && s) ≡ false → (o && s) ≡ false → ((p || o) && s) ≡ false
      neither true o s a b = a
      neither false o s a b = b

-- if no candidate succeeds, there is no first success
pub none_succeeds : (n : ℕ) (turn : Turn) (here : BoardState) (ko : Ko)
    → ((q : ℕ) → (is_candidate turn here q && succeeds n (under turn ko) here q) ≡ false)
    → is_some (first_success n (under turn ko) here) ≡ false
none_succeeds n turn here ko none =
    grind (
      arith,
      first_success-none n (under turn ko) here (here.size * here.size) (is_candidate turn here),
      candidate_on turn here,
      cases_Bool,
    )

-- The liberties of the target were tried.
module _ (n : ℕ) (turn : Turn) (here : BoardState) (asked good : Allowances)
    (first : TellsBy n turn here (is_liberty here.size here.cells turn.target) asked good) where
  -- what a liberty gives is given by a candidate
  by_liberty : (ko : Ko) → has good ko ≡ true → is_some (first_success n (under turn ko) here) ≡ true
  by_liberty ko h = let w = first.given ko h in
      success_some n (under turn ko) here w.0 (liberty_is_candidate turn here w.0 w.1) w.2

  -- they left nothing
  pub stage_done : has_some (without asked good) ≡ false
      → IsFiltered asked asked (λ ko. is_some (first_success n (under turn ko) here))
  stage_done none = record {
    each = λ ko. and_true _ _ (λ a. by_liberty ko
        (in_other (has asked ko) (has good ko) a (sym (has-without asked good ko)
        ∙ none_of (without asked good) ko none)));
  }

  -- and then the other candidates
  pub stage_over : (rest : Allowances) → TellsBy n turn here (is_off_liberties turn here) (without asked good) rest
      → IsFiltered asked (without asked (without (without asked good) rest))
      (λ ko. is_some (first_success n (under turn ko) here))
  stage_over rest second = record {
    each = λ ko.
        let e = has-without asked good ko in
        has-two asked good rest ko
        ∙ sorted (has asked ko) (has good ko) (has rest ko) _ (by_liberty ko) (by_other ko)
        (λ a g r. none_at ko a g r (e ∙ left_over (has asked ko) (has good ko) a g));
  }
    where
      by_other : (ko : Ko) → has rest ko ≡ true → is_some (first_success n (under turn ko) here) ≡ true
      by_other ko h = let w = second.given ko h in success_some n (under turn ko) here w.0 (and_parts _ _ w.1).0 w.2

      left_over : (a g : Bool) → a ≡ true → g ≡ false → (a && not g) ≡ true
      left_over true true ea eg = cc
      left_over true false ea eg = refl
      left_over false g ea eg = cc

      -- a candidate is a liberty or another
      fails : (l c s : Bool) → (l && s) ≡ false → ((c && not l) && s) ≡ false → (c && s) ≡ false
      fails true true s a b = a
      fails true false s a b = refl
      fails false true s a b = b
      fails false false s a b = refl

      none_at : (ko : Ko) → has asked ko ≡ true → has good ko ≡ false → has rest ko ≡ false
          → has (without asked good) ko ≡ true → is_some (first_success n (under turn ko) here) ≡ false
      none_at ko a g r left = none_succeeds n turn here ko (λ q.
          fails (is_liberty here.size here.cells turn.target q) (is_candidate turn here q)
          (succeeds n (under turn ko) here q)
          (first.none ko a g q) (second.none ko left r q))

      sorted : (a g r f : Bool) → (g ≡ true → f ≡ true) → (r ≡ true → f ≡ true)
          → (a ≡ true → g ≡ false → r ≡ false → f ≡ false)
          → (a && not ((a && not g) && not r)) ≡ (a && f)
      sorted false g r f hg hr hn = refl
      sorted true true r f hg hr hn = sym (hg refl)
      sorted true false true f hg hr hn = sym (hr refl)
      sorted true false false f hg hr hn = sym (hn refl refl refl)

-- An attacker's play that takes no liberty leaves all of them, which are too many.
module _ (n : ℕ) (turn : Turn) (here : BoardState) (ko : Ko) (on : turn.target < here.size * here.size)
    (attacks : turn.attacker_to_play ≡ true)
    (many : outlasts turn.tree false n (turn.wide - 1) (liberties here.size here.cells turn.target) ≡ true) where
  -- so he does not win there
  lost_at : (p : ℕ) (next : Node) (new : BoardState) → is_liberty here.size here.cells turn.target p ≡ false
      → child_of (under turn ko) here p ≡ Some (next, new) → attacker_wins n next new ≡ false
  lost_at p next new off is =
      let child = child_free (under turn ko) here p next new (child_gives (under turn ko) here p next new is) in
      let size = play_size here (mover_of turn) p new child.1 in
      let more = play_takes_none here (mover_of turn) p new turn.target on child.1 off in
      let node = next_node (under turn ko) child.0 in
      let bound =
      ap (λ b. outlasts turn.tree (not b) n (turn.wide - 1) (liberties new.size new.cells turn.target)) attacks
      ∙ more_outlasts turn.tree n (turn.wide - 1) _ _ many more in
      ap (λ (m : Node). attacker_wins n m new) child.2
      ∙ bounded n node new (subst (λ m. turn.target < m * m) (sym size) on) bound

  -- no attacker's play off the liberties of the target succeeds
  pub off_fails : (p : ℕ) → is_liberty here.size here.cells turn.target p ≡ false
      → succeeds n (under turn ko) here p ≡ false
  off_fails p off = ap (λ b. suits n b (child_of (under turn ko) here p)) attacks
      ∙ by (child_of (under turn ko) here p) refl
    where
      by : (o : Option (Node × BoardState)) → child_of (under turn ko) here p ≡ o
          → some_child (attacker_wins n) o ≡ false
      by None is = refl
      by (Some child) is = lost_at p child.0 child.1 off is

-- so none of the other candidates gives him his way
pub none_other : (n : ℕ) (turn : Turn) (here : BoardState) → turn.target < here.size * here.size
    → turn.attacker_to_play ≡ true
    → outlasts turn.tree false n (turn.wide - 1) (liberties here.size here.cells turn.target) ≡ true
    → (ko : Ko) (q : ℕ) → (is_off_liberties turn here q && succeeds n (under turn ko) here q) ≡ false
none_other n turn here on attacks many ko q = elim (cases_Bool (is_liberty here.size here.cells turn.target q)) [
  | inl t ↦ ap (λ b. b && succeeds n (under turn ko) here q)
      (and_false_right (is_candidate turn here q) _ (ap not t))
  | inr f ↦ and_false_right (is_off_liberties turn here q) _ (off_fails n turn here ko on attacks many q f)
]

-- the liberties that are known, as a test on the node's position
pub its_liberty : (s : ℕ) (here : BoardState) (t : ℕ) (known : sets.FinSet nat_cmp) → here.size ≡ s
    → known ≡ liberty_points s here.cells t
    → (q : ℕ) → sets.contains known q ≡ is_liberty here.size here.cells t q
its_liberty s here t known size is q = grind (arith, contains-liberty_points)

-- as many are known as the target has
pub its_count : (s : ℕ) (here : BoardState) (t : ℕ) (known : sets.FinSet nat_cmp) → here.size ≡ s
    → known ≡ liberty_points s here.cells t
    → sets.len known ≡ liberties here.size here.cells t
its_count s here t known size is = grind (arith, len-liberty_points)

-- what is known is on the board
pub known_inside : (s : ℕ) (cells : List Cell) (t p : ℕ) (known : sets.FinSet nat_cmp)
    → known ≡ liberty_points s cells t → sets.contains known p ≡ true → p < s * s
known_inside s cells t p known is has =
    (IsLiberty-from_test s cells t p (sym (ap (λ k. sets.contains k p) is ∙ contains-liberty_points s cells t p)
    ∙ has)).on_board

-- The stages of the candidates off the liberties of the target.
module _ (turn : Turn) (here : BoardState) (q : ℕ) where
  -- a candidate is a liberty of the target, a last liberty of an enemy string, or a later candidate
  stages : is_candidate turn here q ≡ ((is_liberty here.size here.cells turn.target q
      || is_last_liberty_of_enemy here.size here.cells turn.target q)
      || is_later_candidate turn here q)
  stages = candidate_stages turn here q

  -- a capture is a candidate
  pub capture_is_candidate : is_capture here turn.target q ≡ true → is_candidate turn here q ≡ true
  capture_is_candidate h = stages ∙ or_left _ _ (or_right (is_liberty here.size here.cells turn.target q) _
      (and_parts _ _ h).0)

  -- off the liberties
  pub capture_is_off : is_capture here turn.target q ≡ true → is_off_liberties turn here q ≡ true
  capture_is_off h = and_from _ _ (capture_is_candidate h) (and_parts _ _ h).1

  -- and so is another
  pub other_is_candidate : is_other turn here q ≡ true → is_candidate turn here q ≡ true
  other_is_candidate h = stages ∙ or_right (is_liberty here.size here.cells turn.target q
      || is_last_liberty_of_enemy here.size here.cells turn.target q) _
      (and_parts _ _ (and_parts _ _ h).0).0

  -- the candidates off the liberties are the captures and the others
  pub off_by_stages : is_off_liberties turn here q ≡ (is_capture here turn.target q || is_other turn here q)
  off_by_stages =
      ap (λ b. b && not (is_liberty here.size here.cells turn.target q)) stages
      ∙ split (is_liberty here.size here.cells turn.target q)
      (is_last_liberty_of_enemy here.size here.cells turn.target q)
      (is_later_candidate turn here q)
    where
      split : (l t w : Bool) → (((l || t) || w) && not l) ≡ ((t && not l) || ((w && not l) && not (t && not l)))
      split true true true = refl
      split true true false = refl
      split true false true = refl
      split true false false = refl
      split false true w = refl
      split false false true = refl
      split false false false = refl

  -- each of the others is off the liberties
  pub other_is_off : is_other turn here q ≡ true → is_off_liberties turn here q ≡ true
  other_is_off h = off_by_stages ∙ or_right (is_capture here turn.target q) _ h

  -- and no capture
  pub other_no_capture : is_other turn here q ≡ true → is_capture here turn.target q ≡ false
  other_no_capture h = (and_parts_not _ _ h).1

  -- if there are no later candidates, there are no others
  pub no_other : has_later_candidates turn ≡ false → is_other turn here q ≡ false
  no_other none = ap (λ b. (b && not (is_liberty here.size here.cells turn.target q))
      && not (is_capture here turn.target q)) (later_none turn here q none)

  -- the candidates are the captures, the liberties of the target, and the others
  pub candidate_by_stages : is_candidate turn here q
      ≡ (is_capture_or_liberty here turn.target q || is_other turn here q)
  candidate_by_stages = stages ∙ split (is_liberty here.size here.cells turn.target q)
      (is_last_liberty_of_enemy here.size here.cells turn.target q) (is_later_candidate turn here q)
    where
      split : (l t w : Bool)
          → ((l || t) || w) ≡ (((t && not l) || l) || ((w && not l) && not (t && not l)))
      split true true w = refl
      split true false w = refl
      split false true w = refl
      split false false true = refl
      split false false false = refl

  -- a capture or a liberty of the target is a candidate
  pub capture_or_liberty_is_candidate : is_capture_or_liberty here turn.target q ≡ true
      → is_candidate turn here q ≡ true
  capture_or_liberty_is_candidate h = candidate_by_stages ∙ or_left _ _ h
