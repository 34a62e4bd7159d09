-- The recursion, by the zones of plays and replies.
use Rattle.std.proofs.Common.{◌≡◌, ◌∙◌, ◌+◌, ◌*◌, ◌<◌, ℕ, true, not, sym}
use Rattle.std.proofs.Common.{ap, subst, arith, inl, inr, rules}
use Rattle.std.specs.FinSet as set
use Rattle.std.specs.Ordering.{nat_cmp}
use Rattle.std.proofs.lemmas.Bool.{and_parts, and_from, both_ways, cases_eq, cases_lt}
use Rattle.go_rules.specs.declared.Cell.TheVariants.{Empty}
use Rattle.go_rules.specs.Strings.{same_cell}
use Rattle.go_rules.proofs.Cells.{eq_is_same_cell}
use Rattle.sure_rules.proofs.SureLemmas.{sure-no_plies}
use Rattle.sure_rules.specs.Zones.{IsZone}
use Rattle.read_zones.proofs.SetLemmas.{in_either, in_first, in_second, in_rest}
use Rattle.read_zones.proofs.TreeLemmas.{some_shown, each_shown, agree_less, agree_self, attacker_has}
use Rattle.read_zones.proofs.TreeLemmas.{attacker_none, attacker_barred, defender_passes, defender_replies, defender_has}
use Rattle.read_zones.proofs.TreeLemmas.{child_size, none_left, none_gives}
use Rattle.sure_proof.specs.Alike.{AreCandidates}
use Rattle.read_zones.proofs.TakingLemmas.{taken_zone}
use Rattle.read_zones.proofs.BackLemmas.{back_refused, back_fails, zone_for_good, zone_of_loss}
use Rattle.read_rules.specs.GameTree.{child_of, some_child, each_child}
use Rattle.read_rules.proofs.CandidateLaws.{candidate_on}
use Rattle.sure_rules.specs.SureTree.{surely_wins}
use Rattle.read_zones.proofs.tree.+zones.Goals as goal

-- a play that captures
pub play_zone-returns-clause-zone : goal.play_zone-returns-clause-zone
play_zone-returns-clause-zone t c =
    some_shown c.args.plies c.args.node c.args.p c.args.position.now c.in_ok-next.new c.in_ok-next.next
    (set.contains c.in_ok-after.after) (set.contains c.play_shown.result) c.requires.on_board
    (sym c.child_of.ensures.value ∙ c.in_ok-next.was) c.in_ok-after.ensures.zone c.play_shown.ensures.shown

-- the child's zone is on its board, which has the same size
pub play_zone-play_shown-requires-clause-points : goal.play_zone-play_shown-requires-clause-points
play_zone-play_shown-requires-clause-points t c = λ q inside.
    subst (λ s. q < s * s) (child_size c.args.node c.args.position.now c.args.p c.in_ok-next.next c.in_ok-next.new
    (sym c.child_of.ensures.value ∙ c.in_ok-next.was)) (c.in_ok-after.ensures.on_board q inside)

-- the same of a reply
pub reply_zone-play_shown-requires-clause-points : goal.reply_zone-play_shown-requires-clause-points
reply_zone-play_shown-requires-clause-points t c = λ q inside.
    subst (λ s. q < s * s) (child_size c.args.node c.args.position.now c.args.p c.in-Some.child.0 c.in-Some.child.1
    (sym c.child_of.ensures.value ∙ c.in-Some.is)) (c.in_ok-after-in-Some.ensures.on_board q inside)

-- no point is asked for
pub reply_zone-play_shown-requires-in-None-clause-points : goal.reply_zone-play_shown-requires-in-None-clause-points
reply_zone-play_shown-requires-in-None-clause-points t c = λ q inside. absurd (both_ways (set.contains c.new.result q)
    (ap (λ s. set.contains s q) c.new.ensures ∙ set.contains-empty nat_cmp q) inside)

-- a reply that fails
pub reply_zone-returns-in_ok-after-in-Some-clause-zone : goal.reply_zone-returns-in_ok-after-in-Some-clause-zone
reply_zone-returns-in_ok-after-in-Some-clause-zone t c =
    each_shown c.args.plies c.args.node c.args.p c.args.position.now c.in-Some.child.1 c.in-Some.child.0
    (set.contains c.in_ok-after-in-Some.after) (set.contains c.play_shown.result) c.requires.on_board
    (sym c.child_of.ensures.value ∙ c.in-Some.is) c.in_ok-after-in-Some.ensures.zone c.play_shown.ensures.shown

-- a candidate that captures
pub some_zone-returns-in-Some-play_zone-clause-zone : goal.some_zone-returns-in-Some-play_zone-clause-zone
some_zone-returns-in-Some-play_zone-clause-zone t c =
    attacker_has c.args.plies c.args.node c.args.position.now (set.contains c.candidate_zone.result)
    (set.contains c.in-Some-play_zone.zone) (set.contains c.join.new.self) c.in-Some.p c.requires.turn
    c.candidate_zone.ensures.shown c.in-Some-play_zone.ensures.zone
    (λ q. in_second c.in-Some-play_zone.zone c.candidate_zone.result c.join.new.self q c.join.ensures)
    (λ q. in_first c.in-Some-play_zone.zone c.candidate_zone.result c.join.new.self q c.join.ensures)

-- a target that is captured
pub zone_of-returns-then-plies-eq0-clause-zone : goal.zone_of-returns-then-plies-eq0-clause-zone
zone_of-returns-then-plies-eq0-clause-zone t c =
    sure-no_plies c.args.plies c.args.node c.args.position.now
    (ap (λ k. same_cell k Empty) (sym c.cell.ensures) ∙ sym (eq_is_same_cell c.cell.result Empty) ∙ sym c.eq.ensures
    ∙ c.if-eq.false) c.if-plies-eq0.true

-- the target has too many liberties
pub attacker_zone-returns-in_err-nearest-clause-zone : goal.attacker_zone-returns-in_err-nearest-clause-zone
attacker_zone-returns-in_err-nearest-clause-zone t c =
    let none = attacker_barred c.args.plies c.args.node c.args.position.now c.requires.turn c.requires.stands
    c.in_err-nearest.ensures.shown in
    search rules

-- the target is taken at once
pub attacker_zone-returns-in-Some-clause-zone : goal.attacker_zone-returns-in-Some-clause-zone
attacker_zone-returns-in-Some-clause-zone t c =
    taken_zone c.args.plies c.args.node c.args.position.now (set.contains c.in-Some.zone) c.requires.target
    c.in-Some.ensures.shown

-- so of the other candidates
pub attacker_zone-returns-in_err-all-clause-zone : goal.attacker_zone-returns-in_err-all-clause-zone
attacker_zone-returns-in_err-all-clause-zone t c =
    let none = attacker_barred c.args.plies c.args.node c.args.position.now c.requires.turn c.requires.stands
    c.in_err-all.ensures.shown in
    search rules

-- the candidates that are left are candidates
pub attacker_zone-some_zone-requires-2 : goal.attacker_zone-some_zone-requires-2
attacker_zone-some_zone-requires-2 t c =
    let rest = set.contains c.difference-rest.result in
    let shown : AreCandidates c.args.node c.args.position.now rest (set.contains c.in_ok-all.all.zone) =
    λ here sound same. (
      (c.in_ok-all.ensures.shown here sound same).0,
      λ p inside. sym ((c.in_ok-all.ensures.shown here sound same).1 p) ∙ (and_parts _ _
          (sym (in_rest c.in_ok-all.all.points c.in_ok-nearest.nearest.points c.difference-rest.result p
          c.difference-rest.ensures) ∙ inside)).0,
    ) in
    let on_board = c.in_ok-all.ensures.on_board in
    search rules

-- no candidate captures
pub attacker_zone-returns-clause-zone : goal.attacker_zone-returns-clause-zone
attacker_zone-returns-clause-zone t c =
    let first = set.contains c.in_ok-nearest.nearest.points in
    let others = set.contains c.difference-rest.result in
    let told = c.in_ok-all.ensures.shown c.args.position.now c.size.ensures.position (agree_self c.args.position.now) in
    none_gives _ _ (λ zone. IsZone (c.args.plies + 1) c.args.node c.args.position.now (set.contains zone))
    c.some_zone-2.result (λ none_other. attacker_none c.args.plies c.args.node c.args.position.now first others
    c.requires.turn c.requires.stands
    (λ q candidate is_other. in_rest c.in_ok-all.all.points c.in_ok-nearest.nearest.points c.difference-rest.result q
    c.difference-rest.ensures ∙ and_from _ _ (told.1 q ∙ candidate) (ap not is_other))
    c.in_default-some_zone.ensures.zone none_other) c.some_zone-2.ensures.zone

-- the candidate is on the board
pub some_zone-play_zone-requires : goal.some_zone-play_zone-requires
some_zone-play_zone-requires t c =
    let on = candidate_on c.args.node.turn c.args.position.now c.in-Some.p
    ((c.requires.shown c.args.position.now c.size.ensures.position
    (agree_self c.args.position.now)).1 c.in-Some.p c.in-Some.ensures.some.2) in
    search rules

-- both zones are on the board
pub some_zone-returns-in-Some-play_zone-clause-on_board : goal.some_zone-returns-in-Some-play_zone-clause-on_board
some_zone-returns-in-Some-play_zone-clause-on_board t c = λ q inside.
    elim (in_either c.in-Some-play_zone.zone c.candidate_zone.result c.join.new.self q c.join.ensures inside) [
      | inl first ↦ c.in-Some-play_zone.ensures.on_board q first
      | inr second ↦ c.candidate_zone.ensures.on_board q second
    ]

-- no candidate captures
pub some_zone-returns-clause-zone : goal.some_zone-returns-clause-zone
some_zone-returns-clause-zone t c =
    let points = set.contains c.args.shown.now.points in
    λ q. none_left points (λ r. some_child (surely_wins c.args.plies) (child_of c.args.node c.args.position.now r))
    c.plays.from c.plays.invariant c.in_default.ensures.none q

-- the pass holds
pub defender_zone-returns-in_err-zone-clause-zone : goal.defender_zone-returns-in_err-zone-clause-zone
defender_zone-returns-in_err-zone-clause-zone t c =
    let holds = rw c.passed-new.ensures at c.in_err-zone.ensures.zone in
    let none = defender_passes c.args.plies c.args.node c.args.position.now c.requires.turn c.requires.stands holds in
    search rules

-- a reply holds
pub defender_zone-returns-in_err-reply_zone-clause-zone : goal.defender_zone-returns-in_err-reply_zone-clause-zone
defender_zone-returns-in_err-reply_zone-clause-zone t c =
    let none = defender_replies c.args.plies c.args.node c.args.position.now c.in-Some.p c.requires.turn
    c.requires.stands (c.replies_shown-replies.ensures.on_board c.in-Some.p c.in-Some.ensures.some.2)
    c.in_err-reply_zone.ensures.zone in
    search rules

-- the zone of the pass and the looks for replies
pub defender_zone-replies-init : goal.defender_zone-replies-init
defender_zone-replies-init t c = record {
  larger = λ q inside. inside;
  on_board = λ q inside. elim (in_either c.in_ok-zone.zone c.replies_shown-replies.result.zone c.join.new.self q
      c.join.ensures inside) [
        | inl first ↦ (rw c.passed-new.ensures at c.in_ok-zone.ensures.on_board) q first
        | inr second ↦ c.replies_shown-replies.ensures.zone q second
      ];
  fails = λ p low. absurd (omega (arith, low));
}

-- one more reply fails
pub defender_zone-replies-preserved : goal.defender_zone-replies-preserved
defender_zone-replies-preserved t c =
    let i = c.replies.invariant in
    let first : (q : ℕ) → set.contains c.replies.zone q ≡ true → set.contains c.join-in-Some.new.self q ≡ true = λ q.
    in_first c.replies.zone c.in_ok-reply_zone.field-0 c.join-in-Some.new.self q
    c.join-in-Some.ensures in
    let second : (q : ℕ) → set.contains c.in_ok-reply_zone.field-0 q ≡ true
    → set.contains c.join-in-Some.new.self q ≡ true = λ q. in_second c.replies.zone c.in_ok-reply_zone.field-0 c.join-in-Some.new.self q
    c.join-in-Some.ensures in
    record {
      larger = λ q inside. first q (i.larger q inside);
      on_board = λ q inside. elim (in_either c.replies.zone c.in_ok-reply_zone.field-0 c.join-in-Some.new.self q
          c.join-in-Some.ensures inside) [
            | inl old ↦ i.on_board q old
            | inr new ↦ c.in_ok-reply_zone.ensures.on_board q new
          ];
      fails = λ p low inside here sound same. elim (cases_eq p c.in-Some.p) [
        | inl e ↦ subst (λ (r : ℕ). each_child (surely_wins c.args.plies) (child_of c.args.node here r) ≡ true) (sym e)
            (c.in_ok-reply_zone.ensures.zone here sound (agree_less second same))
        | inr ne ↦ elim (cases_lt p c.replies.from) [
          | inl less ↦ i.fails p less inside here sound (agree_less first same)
          | inr more ↦ absurd (both_ways (set.contains c.replies_shown-replies.result.points p)
              (c.in-Some.ensures.some.3 p more (omega (arith, low, ne))) inside)
        ]
      ];
    }

-- every reply that is read fails
pub defender_zone-returns-clause-zone : goal.defender_zone-returns-clause-zone
defender_zone-returns-clause-zone t c =
    let i = c.replies.invariant in
    defender_has c.args.plies c.args.node c.args.position.now (set.contains c.in_ok-zone.zone)
    (set.contains c.replies_shown-replies.result.points) (set.contains c.replies_shown-replies.result.zone)
    (set.contains c.replies.zone) c.requires.turn c.size.ensures.position
    (rw c.passed-new.ensures at c.in_ok-zone.ensures.zone)
    (rw c.passed-new.ensures at c.in_ok-zone.ensures.on_board) c.replies_shown-replies.ensures.shown
    (λ q inside. i.larger q (in_first c.in_ok-zone.zone c.replies_shown-replies.result.zone c.join.new.self q
    c.join.ensures inside))
    (λ q inside. i.larger q (in_second c.in_ok-zone.zone c.replies_shown-replies.result.zone c.join.new.self q
    c.join.ensures inside))
    (λ p read. elim (cases_lt p c.replies.from) [
      | inl less ↦ i.fails p less read
      | inr more ↦ absurd (both_ways (set.contains c.replies_shown-replies.result.points p)
          (c.in_default.ensures.none p more) read)
    ])

-- with no ply left a lone stone is surely captured where it cannot be taken back
pub back_zone-returns-then-plies-eq0-clause-zone : goal.back_zone-returns-then-plies-eq0-clause-zone
back_zone-returns-then-plies-eq0-clause-zone t c =
    back_refused c.args.plies c.args.node c.args.position.now c.requires.lost c.refused_zone.result c.if-plies-eq0.true
    c.refused_zone.ensures.zone

-- with a ply left where the play that takes it back fails
pub back_zone-returns-clause-zone : goal.back_zone-returns-clause-zone
back_zone-returns-clause-zone t c =
    back_fails c.args.plies c.args.node c.args.position.now c.requires.lost c.reply_zone.result c.if-plies-eq0.false
    c.reply_zone.ensures.zone

-- a target that was no lone stone rests on what shows that
pub taken_zone-returns-then-not-loss-clause-zone : goal.taken_zone-returns-then-not-loss-clause-zone
taken_zone-returns-then-not-loss-clause-zone t c =
    zone_for_good c.args.plies c.args.node c.args.position.now c.loss_shown-loss.result.is_lone
    (set.contains c.loss_shown-loss.result.zone) c.loss_shown-loss.ensures.shown c.if-not-loss.true

-- the lone stone was lost on the position itself
pub taken_zone-back_zone-requires : goal.taken_zone-back_zone-requires
taken_zone-back_zone-requires t c =
    let lost = (c.loss_shown-loss.ensures.shown c.args.position.now c.size.ensures.position
    (agree_self c.args.position.now)).1 ∙ c.if-not-loss.false in
    search rules

-- one that was rests on that too
pub taken_zone-returns-clause-zone : goal.taken_zone-returns-clause-zone
taken_zone-returns-clause-zone t c =
    zone_of_loss c.args.plies c.args.node c.args.position.now c.loss_shown-loss.result.is_lone
    (set.contains c.loss_shown-loss.result.zone) c.loss_shown-loss.ensures.shown (set.contains c.in_ok-zone.zone)
    (set.contains c.join.new.self) c.if-not-loss.false c.in_ok-zone.ensures.zone
    (λ q. in_first c.in_ok-zone.zone c.loss_shown-loss.result.zone c.join.new.self q c.join.ensures)
    (λ q. in_second c.in_ok-zone.zone c.loss_shown-loss.result.zone c.join.new.self q c.join.ensures)

-- both zones are on the board
pub taken_zone-returns-clause-on_board : goal.taken_zone-returns-clause-on_board
taken_zone-returns-clause-on_board t c = λ q inside.
    elim (in_either c.in_ok-zone.zone c.loss_shown-loss.result.zone c.join.new.self q c.join.ensures inside) [
      | inl first ↦ c.in_ok-zone.ensures.on_board q first
      | inr second ↦ c.loss_shown-loss.ensures.on_board q second
    ]
