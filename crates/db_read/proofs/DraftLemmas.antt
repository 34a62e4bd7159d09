-- An entry with one line more.
use Rattle.go_rules.specs.Board.{largest_size}
use Rattle.std.proofs.Common.{◌≡◌, ℕ, zero, suc, ◌≤◌, Bool, true, false, cond, List, [], ◌∷◌, ◌++◌, length, get_or, map}
use Rattle.std.proofs.Common.{arith, Bor}
use Rattle.std.proofs.lemmas.List.{map_push}
use Rattle.db_entry.specs.declared.marks.Marks.{Marks}
use Rattle.db_entry.specs.Reads.{IsMarked}
use Rattle.db_entry.proofs.LabelLemmas.{under-nil}

-- where all words are short, and so is one more, all are short with it
pub shorts-push : (words : List (List ℕ)) (word : List ℕ) → ((k : ℕ) → length (get_or words k []) ≤ largest_size)
    → length word ≤ largest_size → (k : ℕ) → length (get_or (words ++ word ∷ []) k []) ≤ largest_size
shorts-push [] word all short zero = short
shorts-push [] word all short (suc k) = omega arith
shorts-push (w ∷ words) word all short zero = all 0
shorts-push (w ∷ words) word all short (suc k) = shorts-push words word (λ k. all (suc k)) short k

-- where a short word was put at the end, or that failed, all words are still short
pub shorts-pushed : (b : Bool) (old new : List (Bor (List ℕ))) (word : Bor (List ℕ))
    → new ≡ cond b (old ++ word ∷ []) old → ((k : ℕ) → length (get_or (map (λ w. w.now) old) k []) ≤ largest_size)
    → length word.now ≤ largest_size
    → (k : ℕ) → length (get_or (map (λ w. w.now) new) k []) ≤ largest_size
shorts-pushed true old new word e all short k = grind (arith, map_push, shorts-push)
shorts-pushed false old new word e all short k = grind arith

-- a constraint diagram without lines is one under any main diagram
pub IsMarked-under : (m : Marks) (mains others words : List (List ℕ)) → words ≡ [] → IsMarked m mains words
    → IsMarked m others words
IsMarked-under m mains others words none s = grind (arith, under-nil)
