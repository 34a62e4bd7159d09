-- The answer to a question about a connection, and its first move.
use Rattle.std.proofs.Common.{◌≡◌, ◌≢◌, ◌∙◌, ℕ, zero, suc, ◌-◌, ◌*◌, ◌<◌, ◌&&◌, ◌||◌, Bool, true, false, not, cond}
use Rattle.std.proofs.Common.{Option, Some, None, is_some, refl, sym, ap, subst, arith, inl, inr}
use Rattle.std.proofs.lemmas.Bool.{cases_Bool, both_ways, and_parts, and_from}
use Rattle.go_rules.specs.Below.{any_below, first_below}
use Rattle.go_rules.specs.Position.{BoardState}
use Rattle.go_rules.proofs.Counts.{any_below_none, first_below_gives}
use Rattle.read_rules.specs.declared.question.Spot.{Spot}
use Rattle.read_rules.specs.declared.question.Spot.TheVariants.{Pass}
use Rattle.read_rules.specs.GameTree.{at_point}
use Rattle.connect_rules.specs.declared.link.Link.{Link}
use Rattle.connect_rules.specs.declared.question.LinkKind.{LinkKind}
use Rattle.connect_rules.specs.declared.question.LinkKind.TheVariants.{Connect, Disconnect}
use Rattle.connect_rules.specs.declared.question.LinkQuestion.{LinkQuestion}
use Rattle.connect_rules.specs.declared.question.Linkage.{Linkage}
use Rattle.connect_rules.specs.Connection.{both_stand, is_one_string, has_way}
use Rattle.connect_rules.specs.Connection.{can_connect, succeeds, first_success, pass_parts}
use Rattle.connect_rules.specs.Linkages.{is_connect, link_of, is_about, is_attained, pass_attains}
use Rattle.connect_rules.specs.Linkages.{first_move_of, is_yes, linkage_of}
use Rattle.connect_rules.specs.InWords.{Succeeds, IsFirstPoint, IsFirstMove}
use Rattle.connect_rules.proofs.TreeLemmas.{connects-joined, connects-own, connects-other, leads_gives, leads_from}

-- a test or one that passes passes
or_true : (b : Bool) → (b || true) ≡ true
or_true true = refl
or_true false = refl

-- there is a least number that passes exactly if one passes
pub first_any : (n : ℕ) (test : ℕ → Bool) → is_some (at_point (first_below n test)) ≡ any_below n test
first_any zero test = refl
first_any (suc n) test = grind (arith, cases_Bool, or_true, first_any n test)

-- the other side has its way by its pass or by a move
by_pass_or_move : (c m : Bool) (move : Option Spot) → is_some move ≡ m
    → not (c && not m) ≡ is_some (cond (not c) (Some Pass) move)
by_pass_or_move false m move h = refl
by_pass_or_move true true move h = sym h
by_pass_or_move true false move h = sym h

-- at the first node strings that are apart are joined exactly by a first move
connect_apart : (n : ℕ) (link : Link) (pos : BoardState) → both_stand link pos ≡ true
    → is_one_string link pos ≡ false
    → can_connect (suc n) link true pos
    ≡ is_some (cond (is_one_string link pos) (Some Pass) (at_point (first_success n link true pos)))
connect_apart n link pos stand apart = grind (arith, connects-own, first_any)

-- and parted exactly by a first move of the other side, its pass before all
disconnect_apart : (n : ℕ) (link : Link) (pos : BoardState) → both_stand link pos ≡ true
    → is_one_string link pos ≡ false
    → not (can_connect (suc n) link false pos)
    ≡ is_some (cond (pass_parts n link pos) (Some Pass) (at_point (first_success n link false pos)))
disconnect_apart n link pos stand apart = grind (arith, connects-other, by_pass_or_move, first_any)

-- the side that is asked about plays at the first node of strings that are apart: it has its way exactly by a first
-- move
attained_by : (kind : LinkKind) (n : ℕ) (link : Link) (pos : BoardState) → both_stand link pos ≡ true
    → is_one_string link pos ≡ false
    → has_way (is_connect kind) (can_connect (suc n) link (is_connect kind) pos)
    ≡ is_some (cond (cond (is_connect kind) (is_one_string link pos) (pass_parts n link pos)) (Some Pass)
    (at_point (first_success n link (is_connect kind) pos)))
attained_by Connect n link pos stand apart = connect_apart n link pos stand apart
attained_by Disconnect n link pos stand apart = disconnect_apart n link pos stand apart

-- a question about strings that are apart is attained exactly if it has a first move
pub attained_apart : (q : LinkQuestion) (pos : BoardState) → q.plies ≢ 0 → both_stand (link_of q) pos ≡ true
    → is_one_string (link_of q) pos ≡ false → is_attained q pos ≡ is_some (first_move_of q pos)
attained_apart q pos some stand apart = grind (arith, attained_by q.kind)

-- whether the question is attained on one string is by its kind alone
one_by : (kind : LinkKind) (n : ℕ) (link : Link) (pos : BoardState) → both_stand link pos ≡ true
    → is_one_string link pos ≡ true
    → has_way (is_connect kind) (can_connect n link (is_connect kind) pos) ≡ is_connect kind
one_by Connect n link pos stand one = connects-joined n link true pos stand one
one_by Disconnect n link pos stand one = ap not (connects-joined n link false pos stand one)

-- strings that are one are joined, and cannot be parted
pub attained_one : (q : LinkQuestion) (pos : BoardState) → both_stand (link_of q) pos ≡ true
    → is_one_string (link_of q) pos ≡ true → is_attained q pos ≡ is_connect q.kind
attained_one q pos stand one = one_by q.kind q.plies (link_of q) pos stand one

-- the answer by whether the side that is asked about has its way
pub linkage_by : (q : LinkQuestion) (pos : BoardState) (attained : Bool) → is_yes q pos ≡ attained
    → linkage_of q pos ≡ record { yes = attained; at = cond attained (first_move_of q pos) None }
unfolding linkage_of
linkage_by q pos attained e = rw e refl

-- a question about another position is answered no
pub linkage_another : (q : LinkQuestion) (pos : BoardState) → is_about q pos ≡ false
    → linkage_of q pos ≡ record { yes = false; at = None }
linkage_another q pos f = linkage_by q pos false (rw f refl)

-- one about this position is answered by what is attained
yes_about : (q : LinkQuestion) (pos : BoardState) → is_about q pos ≡ true → is_yes q pos ≡ is_attained q pos
yes_about q pos t = rw t refl

-- the answer is yes if the question is attained
pub yes_of : (q : LinkQuestion) (pos : BoardState) → is_about q pos ≡ true → (linkage_of q pos).yes ≡ is_attained q pos
yes_of q pos t = ap (λ (x : Linkage). x.yes) (linkage_by q pos (is_attained q pos) (yes_about q pos t))

-- a move if it is there, and else none, is the move
if_some : (move : Option Spot) → cond (is_some move) move None ≡ move
if_some None = refl
if_some (Some spot) = refl

-- the answer about strings that are apart
pub linkage_apart : (q : LinkQuestion) (pos : BoardState) → q.plies ≢ 0 → is_about q pos ≡ true
    → is_one_string (link_of q) pos ≡ false
    → linkage_of q pos ≡ record { yes = is_some (first_move_of q pos); at = first_move_of q pos }
linkage_apart q pos some about apart =
    grind (
      arith,
      yes_about q pos about,
      attained_apart q pos some,
      linkage_by q pos (is_some (first_move_of q pos)),
      if_some (first_move_of q pos),
      and_parts,
    )

-- where strings are one, connect has the pass for its first move
one_move : (kind : LinkKind) (one parts : Bool) (move : Option Spot) → one ≡ true
    → cond (is_connect kind) (cond (cond (is_connect kind) one parts) (Some Pass) move) None
    ≡ cond (is_connect kind) (Some Pass) None
one_move Connect one parts move h = rw h refl
one_move Disconnect one parts move h = refl

-- the answer about strings that are one: connect needs no stone, and disconnect fails
pub linkage_one : (q : LinkQuestion) (pos : BoardState) → is_about q pos ≡ true → is_one_string (link_of q) pos ≡ true
    → linkage_of q pos ≡ record { yes = is_connect q.kind; at = cond (is_connect q.kind) (Some Pass) None }
linkage_one q pos about one =
    linkage_by q pos (is_connect q.kind) (yes_about q pos about ∙ attained_one q pos (and_parts _ _ about).1 one)
    ∙ ap (λ (at : Option Spot). record { yes = is_connect q.kind; at = at })
    (one_move q.kind (is_one_string (link_of q) pos) (pass_parts (q.plies - 1) (link_of q) pos)
    (at_point (first_success (q.plies - 1) (link_of q) (is_connect q.kind) pos)) one)

-- an answer that is no has no move
pub no_move : (q : LinkQuestion) (pos : BoardState) → (linkage_of q pos).yes ≡ false → (linkage_of q pos).at ≡ None
no_move q pos h =
    let e = linkage_by q pos (is_yes q pos) refl in
    let f : is_yes q pos ≡ false = sym (ap (λ (x : Linkage). x.yes) e) ∙ h in
    ap (λ (x : Linkage). x.at) (linkage_by q pos false f)

-- a point that succeeds by the test does so by the rules
pub succeeds_gives : (n : ℕ) (link : Link) (own : Bool) (pos : BoardState) (p : ℕ) → succeeds n link own pos p ≡ true
    → Succeeds n link own pos p
succeeds_gives n link own pos p h = grind (arith, and_parts, leads_gives)

-- a point that succeeds by the rules does so by the test
pub succeeds_from : (n : ℕ) (link : Link) (own : Bool) (pos : BoardState) (p : ℕ) → Succeeds n link own pos p
    → succeeds n link own pos p ≡ true
succeeds_from n link own pos p w = grind (arith, and_from, leads_from)

-- no number before the least passes
before_first : (n : ℕ) (test : ℕ → Bool) (q r : ℕ) → first_below n test ≡ Some q → r < q → test r ≡ false
before_first zero test q r h l = absurd (cc)
before_first (suc n) test q r h l = elim (cases_Bool (any_below n test)) [
  | inl t ↦ before_first n test q r (rw t at h) l
  | inr f ↦ elim (cases_Bool (test n)) [
    | inl t ↦ let e : n ≡ q = (let g = rw (f, t) at h in cc) in any_below_none n test r f (omega (arith, l, e))
    | inr g ↦ let w = rw (f, g) at h in absurd (cc)
  ]
]

-- the first point by the search is the first by the rules
first_point : (q : LinkQuestion) (pos : BoardState) (p : ℕ) → pass_attains q pos ≡ false
    → first_success (q.plies - 1) (link_of q) (is_connect q.kind) pos ≡ Some p → IsFirstPoint q pos p
first_point q pos p no_pass e =
    let n = q.plies - 1 in
    let own = is_connect q.kind in
    let test = succeeds n (link_of q) own pos in
    record {
      no_pass = no_pass;
      succeeds = succeeds_gives n (link_of q) own pos p (first_below_gives (pos.size * pos.size) test p e).1;
      none_before = λ r l w. both_ways (test r) (before_first (pos.size * pos.size) test p r e l)
          (succeeds_from n (link_of q) own pos r w);
    }

-- the first move, by whether the pass attains what is asked and what the search found
first_by : (q : LinkQuestion) (pos : BoardState) (passes : Bool) (found : Option ℕ) (spot : Spot)
    → pass_attains q pos ≡ passes → first_success (q.plies - 1) (link_of q) (is_connect q.kind) pos ≡ found
    → cond passes (Some Pass) (at_point found) ≡ Some spot → IsFirstMove q pos spot
first_by q pos true found spot ps fs e = let same : Pass ≡ spot = cc in subst (IsFirstMove q pos) same ps
first_by q pos false None spot ps fs e = absurd (let w = e in cc)
first_by q pos false (Some p) spot ps fs e = grind (arith, first_point)

-- a move that is there
there_move : (move : Option Spot) → is_some move ≡ true → (spot : Spot) × (move ≡ Some spot)
there_move None e = cc
there_move (Some spot) e = (spot, refl)

-- where one string is asked about and the answer is yes, the first move is the pass
one_first : (kind : LinkKind) (one parts : Bool) (move : Option Spot) → one ≡ true → is_connect kind ≡ true
    → cond (cond (is_connect kind) one parts) (Some Pass) move ≡ Some Pass
one_first Connect one parts move h t = rw h refl
one_first Disconnect one parts move h t = absurd (both_ways false refl t)

-- a question that is attained has a first move
has_first : (q : LinkQuestion) (pos : BoardState) → q.plies ≢ 0 → both_stand (link_of q) pos ≡ true
    → is_attained q pos ≡ true → (spot : Spot) × (first_move_of q pos ≡ Some spot)
has_first q pos some stand h = grind (arith, cases_Bool, one_first, attained_one, there_move, attained_apart)

-- an answer that is yes has the first move that attains it
pub answer_first : (q : LinkQuestion) (pos : BoardState) → q.plies ≢ 0 → (linkage_of q pos).yes ≡ true
    → (spot : Spot) × ((linkage_of q pos).at ≡ Some spot) × IsFirstMove q pos spot
answer_first q pos some h =
    let by = linkage_by q pos (is_yes q pos) refl in
    let attained : is_yes q pos ≡ true = sym (ap (λ (x : Linkage). x.yes) by) ∙ h in
    let parts = and_parts (is_about q pos) (is_attained q pos) attained in
    let move = has_first q pos some (and_parts _ _ parts.0).1 parts.1 in (
      move.0,
      ap (λ (x : Linkage). x.at) (linkage_by q pos true attained) ∙ move.1,
      first_by q pos (pass_attains q pos) (first_success (q.plies - 1) (link_of q) (is_connect q.kind) pos) move.0
          refl refl move.1,
    )

-- the answer to connect
pub yes_connect : (q : LinkQuestion) (pos : BoardState) → is_about q pos ≡ true → q.kind ≡ Connect
    → (linkage_of q pos).yes ≡ can_connect q.plies (link_of q) true pos
yes_connect q pos about e = grind (arith, yes_of)

-- the answer to disconnect
pub yes_disconnect : (q : LinkQuestion) (pos : BoardState) → is_about q pos ≡ true → q.kind ≡ Disconnect
    → (linkage_of q pos).yes ≡ not (can_connect q.plies (link_of q) false pos)
yes_disconnect q pos about e = grind (arith, yes_of)
