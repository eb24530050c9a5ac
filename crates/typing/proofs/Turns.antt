-- The second round over all nodes: which line is the first that holds, from the faults of the nodes. Assumes nothing.
use mathlib.Core.Path.{◌≡◌, refl, sym, ◌∙◌}
use mathlib.Core.Bool.{Bool, true, false, cond}
use mathlib.Core.List.{List, [], ◌∷◌, ◌++◌}
use mathlib.Core.Option.{some}
use Prim.Native.Nat.{ℕ, suc, ◌+◌, ◌≤◌, ◌<◌}
use native.Mathlib.Numerals.{add-one}
use native.Mathlib.Omega.{arith}
use lib.ListN.{drop, drop_of_length-le}
use lib.Seq.{drop-cons}
use Rattle.semantics.specs.Text.{Text}
use Rattle.semantics.specs.Table.{node_count, trees, broken, tree_at, Line, tree_lines, second_round, first_that_holds}
use Rattle.laws.specs.NodeTrees.{tree_length}
use Rattle.std.specs.Prelude.{Ok, Err}
use Rattle.table.specs.declared.Refusal.{Refusal}
use Rattle.typing.specs.Round.{TypingAnswer, answer_of, typing_answer, fault_of, typing_fault}

-- ---- A node's lines

-- the answer, if a node's fault is given, and the answer for what comes behind the node
turn : TypingAnswer → TypingAnswer → TypingAnswer
turn (Ok u) later = later
turn (Err d) later = Err d

-- the lines of a node come first
node_first : (ls ms : List Line) → answer_of (first_that_holds (ls ++ ms)) ≡ turn (fault_of ls) (answer_of (first_that_holds ms))
unfolding answer_of first_that_holds fault_of turn
node_first [] ms = refl
node_first (l ∷ ls) ms = go l.holds (node_first ls ms)
  where
    go :
        (b : Bool)
        → answer_of (first_that_holds (ls ++ ms)) ≡ turn (fault_of ls) (answer_of (first_that_holds ms))
        → answer_of (cond b (some l) (first_that_holds (ls ++ ms))) ≡ turn (answer_of (cond b (some l) (first_that_holds ls))) (answer_of (first_that_holds ms))
    go true rec = refl
    go false rec = rec

-- ---- Node by node

-- the answer, from node k's lines on
pub answer_from : Text → ℕ → TypingAnswer
answer_from bytes k = answer_of (first_that_holds (second_round k (drop k (trees bytes))))

-- node k's turn, and then the nodes behind it
opened : (bytes : Text) (k : ℕ) → k < node_count bytes → answer_from bytes k ≡ turn (typing_fault bytes k) (answer_from bytes (suc k))
unfolding answer_from second_round typing_fault tree_at
opened bytes k h =
    rw (drop-cons (trees bytes) k broken (omega (arith, tree_length bytes)))
    (node_first (tree_lines k (tree_at (trees bytes) k)) (second_round (suc k) (drop (suc k) (trees bytes))))

-- behind the last node no line is left
ended : (bytes : Text) → answer_from bytes (node_count bytes) ≡ Ok tt
unfolding answer_from second_round first_that_holds answer_of
ended bytes = rw (drop_of_length-le (trees bytes) {i = node_count bytes} (omega (arith, tree_length bytes)))

-- ---- The loop

-- The first k of n nodes have had their turns, and none was refused.
pub record Passed (bytes : Text) (n k : ℕ) : Type 0 where
  pub count_is : n ≡ node_count bytes
  pub so_far : k ≤ n
  pub answer_is : typing_answer bytes ≡ answer_from bytes k

-- before the first turn
pub passed_begins : {bytes : Text} {n : ℕ} → n ≡ node_count bytes → Passed bytes n 0
unfolding typing_answer answer_from
passed_begins h = record { count_is = h; so_far = omega arith; answer_is = refl }

module _ {bytes : Text} {n k : ℕ} {fault : TypingAnswer} (p : Passed bytes n k) (h : k < n) (e : fault ≡ typing_fault bytes k) where
  -- the answer hangs on this node's turn
  answer_here : typing_answer bytes ≡ turn fault (answer_from bytes (suc k))
  answer_here = rw e (p.answer_is ∙ opened bytes k (omega (arith, p.count_is)))

  -- a turn with no fault
  pub passed_more : fault ≡ Ok tt → Passed bytes n (k + 1)
  unfolding turn
  passed_more z =
      record {
        count_is = p.count_is;
        so_far = omega arith;
        answer_is = rw add-one (answer_here ∙ rw z);
      }

  -- a turn with one
  pub passed_refused : {d : Refusal} → fault ≡ Err d → Err d ≡ typing_answer bytes
  unfolding turn
  passed_refused z = sym (answer_here ∙ rw z)

-- all turns had
pub passed_all : {bytes : Text} {n k : ℕ} → Passed bytes n k → n ≤ k → Ok tt ≡ typing_answer bytes
passed_all {bytes} {n} {k} p h =
    let e : k ≡ node_count bytes = omega (arith, p.count_is, p.so_far) in
    sym (p.answer_is ∙ rw e (ended bytes))
