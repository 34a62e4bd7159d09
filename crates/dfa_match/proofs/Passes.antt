-- What the steps of a sweep make of the walks and of the hits.
use Rattle.std.proofs.Common.{◌≡◌, ℕ, ◌+◌, ◌<◌, ◌≤◌, false, List, [], ◌++◌, length, map}
use Rattle.std.proofs.Common.{filter, get_or, Contains, refl, sym, ap, subst, arith}
use Rattle.std.specs.List.{All}
use Rattle.std.proofs.lemmas.List.Elements.{All-contains, All-map, filter_passes}
use Rattle.go_rules.specs.declared.Colour.{Colour}
use Rattle.go_rules.specs.Position.{BoardState}
use Rattle.go_rules.specs.Transform.{transformations}
use Rattle.spiral.specs.Spiral.{offset_count}
use Rattle.match_rules.proofs.Lists.{Contains-map, Contains-filter}
use Rattle.dfa_core.specs.declared.automaton.Seen.{Seen}
use Rattle.dfa_core.specs.Automata.{Row, accepted, IsAutomaton}
use Rattle.dfa_core.specs.Entries.{row_of}
use Rattle.dfa_shortcuts.specs.Shortcuts.{AreShortcuts}
use Rattle.dfa_shortcuts.specs.Openings.{AreOpenings}
use Rattle.dfa_match.specs.declared.Hit.{Hit}
use Rattle.dfa_match.specs.declared.walks.Walk.{Walk}
use Rattle.dfa_match.specs.SeenLetters.{word_at, IsPaddedBoard}
use Rattle.dfa_match.specs.Hits.{AreHitsBefore, nothing_read}
use Rattle.dfa_match.specs.Steps.{AreSteps}
use Rattle.go_rules.specs.Board.{largest_size}
use Rattle.dfa_match.specs.Walks.{anchor_of, first_walks_of, second_walks_of, after_anchor, goes_on, after_opening}
use Rattle.dfa_match.specs.Walks.{after_letters, IsStanding, hits_of, AreWalks}
use Rattle.dfa_match.proofs.StandingWalks.{letters_left}
use Rattle.dfa_match.proofs.WalkRows.{ended_cases, opening_corner, opening_more, opened_standing}
use Rattle.dfa_match.proofs.WordRows.{dead_ends}
use Rattle.dfa_match.proofs.SeenWalks.{first_letters, walks_changed, walks_kept, small_walks, walks_begun, walk_opened}
use Rattle.dfa_match.proofs.SeenWalks.{opening_silent, walk_passed, letters_silent}
use Rattle.dfa_match.proofs.ReadBelow.{read_below, before_giving, after_giving}
use Rattle.dfa_match.proofs.WalkResults.{hits_begun, hits_changed, hits_kept}
use Rattle.dfa_match.proofs.GivenHits.{hits_more}

-- behind the letter of its anchor a walk has read one letter
begun_letters : (automaton : List Row) (letters : List Seen) (walks : List Walk) (w : Walk)
    → Contains (map (after_anchor automaton letters) walks) w → w.letters ≡ 1
begun_letters automaton letters walks w there =
    sym (ap (λ (v : Walk). v.letters) (Contains-map (after_anchor automaton letters) walks w there).2)

-- a walk behind its second letter has read one letter
second_letters : (automaton : List Row) (letters : List Seen) (s : ℕ) (w : Walk)
    → Contains (second_walks_of automaton letters s) w → w.letters ≡ 1
second_letters automaton letters s w there = begun_letters automaton letters (first_walks_of automaton s) w
    (Contains-filter goes_on (map (after_anchor automaton letters) (first_walks_of automaton s)) w there).0

-- walks that had read as many letters have read more behind these
pub read_more : (entries passed steps : List ℕ) (letters : List Seen) (n : ℕ) (walks : List Walk)
    → All (λ w. n ≤ w.letters) walks
    → All (λ w. n + 1 ≤ w.letters) (map (after_letters entries passed steps letters) walks)
read_more entries passed steps letters n walks read =
    All-map (λ w. n + 1 ≤ w.letters) (after_letters entries passed steps letters) walks
    (λ k d low. let before = read k d low in omega (arith, before))

-- walks that go on have letters left
pub letters_kept : (walks : List Walk) → All (λ w. w.letters < offset_count) (filter goes_on walks)
letters_kept walks k d low = letters_left (get_or (filter goes_on walks) k d) (filter_passes goes_on walks k d low)

module _ (automaton : List Row) (good : IsAutomaton automaton) (pos : BoardState) (friend : Colour) (t : ℕ)
    (low : t < transformations) where
  -- behind the row of a walk that does not go on nothing is accepted, but if it has read the whole spiral
  ended_silent : (walks : List Walk) (w : Walk) (n : ℕ) → AreWalks automaton pos friend t walks
      → Contains walks w → IsStanding automaton w → goes_on w ≡ false → w.letters ≤ n → n ≤ offset_count
      → (offset_count ≤ w.letters → ⊥) → accepted automaton (word_at pos friend t (anchor_of pos.size w) n) ≡ []
  ended_silent walks w n are there stands ends more few left = grind (arith, ended_cases, dead_ends)

  -- the walks whose hits were given out and that do not go on are dropped
  pub hits_dropped : (walks : List Walk) (hits : List Hit) → AreWalks automaton pos friend t walks
      → All (IsStanding automaton) walks
      → AreHitsBefore automaton pos friend t (read_below pos.size after_giving walks) hits
      → AreHitsBefore automaton pos friend t (read_below pos.size after_giving (filter goes_on walks)) hits
  hits_dropped walks hits are standing before =
      hits_kept automaton pos friend t walks are goes_on after_giving hits before
      (λ w n there ends few more. ended_silent walks w n are there
      (All-contains (IsStanding automaton) walks w standing there) ends (omega (arith, more)) few
      (λ past. omega (arith, past, few, more)))

  module _ (size : ℕ) (letters : List Seen) (padded : IsPaddedBoard pos friend size letters) where
    -- the hits of the start and of the anchors' letters
    pub hits_second : (old begun new : List Hit)
        → All (IsStanding automaton) (map (after_anchor automaton letters) (first_walks_of automaton pos.size))
        → AreHitsBefore automaton pos friend t nothing_read old
        → begun ≡ old ++ hits_of automaton pos.size t (first_walks_of automaton pos.size)
        → new ≡ begun ++ hits_of automaton pos.size t (second_walks_of automaton letters pos.size)
        → AreHitsBefore automaton pos friend t
        (read_below pos.size after_giving (second_walks_of automaton letters pos.size)) new
    hits_second old begun new standing before add_first add_second =
        let first : List Walk = first_walks_of automaton pos.size in
        let read : List Walk = map (after_anchor automaton letters) first in
        let are_first = small_walks automaton pos friend t size letters padded in
        let are_read = walks_begun automaton pos friend t size letters padded in
        let from_start = hits_more automaton pos friend t first are_first good old begun low
        (hits_begun automaton pos friend t old (subst (λ s. s ≤ largest_size) padded.same_size padded.few) before)
        add_first in
        let from_anchors = hits_changed automaton pos friend t first are_first (after_anchor automaton letters)
        after_giving before_giving begun (λ w. refl) from_start
        (λ w there. omega (arith, first_letters automaton pos.size w there))
        (λ w n there few more less. absurd (omega (arith, more, less, first_letters automaton pos.size w there))) in
        let alive = hits_kept automaton pos friend t read are_read goes_on before_giving begun from_anchors
        (λ w n there ends few more. ended_silent read w n are_read there
        (All-contains (IsStanding automaton) read w standing there) ends more few
        (λ past. omega (arith, past, begun_letters automaton letters first w there))) in
        hits_more automaton pos friend t (filter goes_on read) (walks_kept automaton pos friend t goes_on read are_read)
        good begun new low alive add_second

    module _ (steps : List ℕ) (are_steps : AreSteps t steps) where
      -- the walks behind their openings
      walks_opened : (openings : List ℕ) → AreOpenings automaton openings
          → AreWalks automaton pos friend t
          (map (after_opening openings steps letters) (second_walks_of automaton letters pos.size))
      walks_opened openings are =
          let read : List Walk = map (after_anchor automaton letters) (first_walks_of automaton pos.size) in
          let second = walks_kept automaton pos friend t goes_on read
          (walks_begun automaton pos friend t size letters padded) in
          walks_changed automaton pos friend t (after_opening openings steps letters) (filter goes_on read) second
          (opening_corner openings steps letters)
          (λ w there. walk_opened automaton pos friend t size letters padded low steps are_steps openings w are
          (second.each w there))

      -- the walks behind their openings that go on
      pub walks_alive : (openings : List ℕ) → AreOpenings automaton openings
          → AreWalks automaton pos friend t
          (filter goes_on (map (after_opening openings steps letters) (second_walks_of automaton letters pos.size)))
      walks_alive openings are = walks_kept automaton pos friend t goes_on
          (map (after_opening openings steps letters) (second_walks_of automaton letters pos.size))
          (walks_opened openings are)

      -- between the anchors' letters and the ends of the openings there is no hit
      pub hits_opened : (openings : List ℕ) (hits : List Hit) → AreOpenings automaton openings
          → All (IsStanding automaton) (second_walks_of automaton letters pos.size)
          → AreHitsBefore automaton pos friend t
          (read_below pos.size after_giving (second_walks_of automaton letters pos.size)) hits
          → AreHitsBefore automaton pos friend t (read_below pos.size after_giving (filter goes_on
          (map (after_opening openings steps letters) (second_walks_of automaton letters pos.size)))) hits
      hits_opened openings hits are standing before =
          let read : List Walk = map (after_anchor automaton letters) (first_walks_of automaton pos.size) in
          let second : List Walk = filter goes_on read in
          let are_second = walks_kept automaton pos friend t goes_on read
          (walks_begun automaton pos friend t size letters padded) in
          hits_dropped (map (after_opening openings steps letters) second) hits (walks_opened openings are)
          (opened_standing automaton good openings steps letters second are standing)
          (hits_changed automaton pos friend t second are_second (after_opening openings steps letters)
          after_giving after_giving hits (opening_corner openings steps letters) before
          (λ w there.
          let one = second_letters automaton letters pos.size w there in
          omega (arith, one, opening_more openings steps letters w one))
          (λ w n there few more less.
          let one = second_letters automaton letters pos.size w there in
          opening_silent automaton pos friend t size letters padded low steps are_steps openings w n are
          (are_second.each w there) one (omega (arith, one, more)) (omega (arith, less))))

      module _ (entries passed : List ℕ) (are : AreShortcuts automaton entries passed) (walks : List Walk)
          (are_walks : AreWalks automaton pos friend t walks) (standing : All (IsStanding automaton) walks) where
        -- a walk of the list stands at a row
        stands_on : (w : Walk) → Contains walks w → row_of w.entry < length automaton
        stands_on w there = (All-contains (IsStanding automaton) walks w standing there).row

        -- the walks behind a letter and those that are passed over
        pub walks_read : AreWalks automaton pos friend t (map (after_letters entries passed steps letters) walks)
        walks_read = walks_changed automaton pos friend t (after_letters entries passed steps letters) walks are_walks
            (λ w. refl)
            (λ w there. walk_passed automaton pos friend t size letters padded low steps are_steps entries passed are w
            (are_walks.each w there) (stands_on w there))

        -- the hits of the rows where they come to join those before
        pub hits_read : (old new : List Hit)
            → AreHitsBefore automaton pos friend t (read_below pos.size after_giving walks) old
            → new ≡ old ++ hits_of automaton pos.size t (map (after_letters entries passed steps letters) walks)
            → AreHitsBefore automaton pos friend t
            (read_below pos.size after_giving (map (after_letters entries passed steps letters) walks)) new
        hits_read old new before add =
            hits_more automaton pos friend t (map (after_letters entries passed steps letters) walks) walks_read good
            old new low
            (hits_changed automaton pos friend t walks are_walks (after_letters entries passed steps letters)
            after_giving before_giving old (λ w. refl) before
            (λ w there. omega arith)
            (λ w n there few more less.
            letters_silent automaton pos friend t size letters padded low steps are_steps entries passed are w
            (are_walks.each w there) (stands_on w there) n few (omega (arith, more)) less))
            add
