-- Which numbers a refusal can have, and which nodes. No refusal has number 0.
use Rattle.std.specs.Prelude.{◌≡◌, Bool, true, List, [], ◌∷◌, ◌++◌, ◌⊎◌, ℕ, suc, ◌+◌, ◌≤◌, ◌<◌, length}
use Rattle.std.proofs.Common.{sym, inl, inr, ⊎_elim, arith}
use Rattle.std.proofs.Math.Bool.{false}
use Rattle.semantics.specs.Text.{Text, All, Member}
use Rattle.semantics.specs.Lens.{Lens, copy, const, key, join, union, repeat, match, get, put, create}
use Rattle.semantics.specs.Table.{node_count, sizes_wrong, Node, nodes, Tree, pattern, lens, broken, Trees, trees, Line, line, first_round, root_line, typing_lines, tree_lines, second_round, lines}
use Rattle.semantics.specs.Calls.{Answer, gives, refuses, refuse_if, program, with_program, output, check_call, get_call, put_call, create_call}
use Rattle.laws.specs.Basics.{never, all_at, all_append}
use Rattle.laws.specs.RightSizes.{right_of}
use Rattle.laws.specs.NodeTrees.{tree_length}
use Rattle.laws.specs.Accepted.{Quiet, TableRight, round_one, round_two, table_quiet, Held, FirstHeld, held_cons, held_append, held_all, refuses_iff}

-- ---- The numbers and nodes of the lines

-- a number from `first` to `last`, and a node below n
abbrev pub Within : ℕ → ℕ → ℕ → ℕ → ℕ → Type 0
Within first last n number node = (first ≤ number) × (number ≤ last) × (node < n)

-- so for each line
abbrev AllWithin : ℕ → ℕ → ℕ → List Line → Type 0
AllWithin first last n = All (λ l. Within first last n l.number l.node)

-- numbers 2 to 5 in the first round
first_within : (k : ℕ) (ns : List Node) (ts : Trees) (n : ℕ) → k + length ts ≤ n → AllWithin 2 5 n (first_round k ns ts)
unfolding first_round line
first_within k [] ts n h = tt
first_within k (m ∷ ns) [] n h = tt
first_within k (m ∷ ns) (t ∷ ts) n h = (omega arith, (omega arith, (omega arith, (omega arith, first_within (suc k) ns ts n (omega arith)))))

-- and 6 to 11 in the second
typing_within : (k : ℕ) (l : Lens) (n : ℕ) → k < n → AllWithin 6 11 n (typing_lines k l)
unfolding typing_lines line
typing_within k (copy r) n h = tt
typing_within k (const r w d) n h = (omega arith, tt)
typing_within k (key r) n h = tt
typing_within k (join l m) n h = (omega arith, (omega arith, tt))
typing_within k (union l m) n h = (omega arith, tt)
typing_within k (repeat l) n h = (omega arith, (omega arith, tt))
typing_within k (match m l) n h = tt

tree_within : (k : ℕ) (t : Tree) (n : ℕ) → k < n → AllWithin 6 11 n (tree_lines k t)
unfolding tree_lines
tree_within k (pattern r) n h = tt
tree_within k (lens l) n h = typing_within k l n h
tree_within k broken n h = tt

second_within : (k : ℕ) (ts : Trees) (n : ℕ) → k + length ts ≤ n → AllWithin 6 11 n (second_round k ts)
unfolding second_round
second_within k [] n h = tt
second_within k (t ∷ ts) n h = all_append _ (tree_lines k t) (second_round (suc k) ts) (tree_within k t n (omega arith)) (second_within (suc k) ts n (omega arith))

-- ---- The places at which a program is checked

-- Document 01, 'Refusals by the place of checking': where the first line that holds stands. In the second round it comes only after
-- the table was found right.
pub data Place (bytes : Text) (number node : ℕ) : Type 0 where
  at_sizes : number ≡ 1 → node ≡ 0 → Place bytes number node
  in_first_round : Within 2 5 (node_count bytes) number node → Place bytes number node
  at_root : number ≡ 3 → suc node ≡ node_count bytes → Place bytes number node
  in_second_round : TableRight bytes → FirstHeld (round_two bytes) number node → Place bytes number node

module _ (bytes : Text) (number node : ℕ) where
  pub place_of : FirstHeld (lines bytes) number node → Place bytes number node
  unfolding lines line root_line
  place_of h = sizes ((held_cons _ _ number node).0 h)
    where
      root :
          sizes_wrong bytes ≡ false
          → Quiet (round_one bytes)
          → Held (root_line bytes) number node ⊎ (((root_line bytes).holds ≡ false) × FirstHeld (round_two bytes) number node)
          → Place bytes number node
      root s q (inl (e, m, k)) = let right = right_of bytes s in at_root (sym m) (omega arith)
      root s q (inr (r, h)) = in_second_round ((table_quiet bytes).0 (s, q, r)) h

      rounds :
          sizes_wrong bytes ≡ false
          → FirstHeld (round_one bytes) number node ⊎ (Quiet (round_one bytes) × FirstHeld (root_line bytes ∷ round_two bytes) number node)
          → Place bytes number node
      rounds s (inl h) =
          let within = first_within 0 (nodes bytes) (trees bytes) (node_count bytes) (omega (arith, tree_length bytes)) in
          in_first_round (held_all (Within 2 5 (node_count bytes)) (round_one bytes) number node within h)
      rounds s (inr (q, h)) = root s q ((held_cons _ _ number node).0 h)

      sizes :
          Held (line 1 0 (sizes_wrong bytes)) number node ⊎ ((sizes_wrong bytes ≡ false) × FirstHeld (round_one bytes ++ root_line bytes ∷ round_two bytes) number node)
          → Place bytes number node
      sizes (inl (e, m, k)) = at_sizes (sym m) (sym k)
      sizes (inr (s, h)) = rounds s ((held_append _ _ number node).0 h)

  -- where the table is right, no line before the second round holds
  pub second_first : TableRight bytes → FirstHeld (round_two bytes) number node → FirstHeld (lines bytes) number node
  unfolding lines line
  second_first t h =
      let (s, q, r) = (table_quiet bytes).1 t in
      let from-root = (held_cons (root_line bytes) (round_two bytes) number node).1 (inr (r, h)) in
      let from-nodes = (held_append (round_one bytes) (root_line bytes ∷ round_two bytes) number node).1 (inr (q, from-root)) in
      (held_cons (line 1 0 (sizes_wrong bytes)) (round_one bytes ++ root_line bytes ∷ round_two bytes) number node).1 (inr (s, from-nodes))

-- ---- The refusals of a program

-- Document 01's table of refusals, lines 1 to 11: number 1 comes with node 0, the others with a node of the program.
abbrev pub ProgramRefusal : Text → ℕ → ℕ → Type 0
ProgramRefusal bytes number node = ((number ≡ 1) × (node ≡ 0)) ⊎ Within 2 11 (node_count bytes) number node

pub program_refusal : (bytes : Text) (number node : ℕ) → program bytes ≡ refuses number node → ProgramRefusal bytes number node
program_refusal bytes number node e = go (place_of bytes number node ((refuses_iff bytes number node).0 e))
  where
    go : Place bytes number node → ProgramRefusal bytes number node
    go (at_sizes m k) = inl (m, k)
    go (in_first_round w) = inr (omega arith)
    go (at_root m k) = inr (omega arith)
    go (in_second_round t h) =
        let within = second_within 0 (trees bytes) (node_count bytes) (omega (arith, tree_length bytes)) in
        let w = held_all (Within 6 11 (node_count bytes)) (round_two bytes) number node within h in
        inr (omega arith)

-- ---- The refusals of a call

-- each refusal of this answer has one of these numbers, and node 0
record OwnRefusals {A : Type 0} (own : List ℕ) (outcome : Answer A) : Type 0 where
  own_refusal : (number node : ℕ) → outcome ≡ refuses number node → Member number own × (node ≡ 0)

-- a result is no refusal
result_own : {A : Type 0} {x : A} → OwnRefusals [] (gives x)
result_own = record { own_refusal = λ number node e. never (cc) }

-- a test adds its number
test_own : {A : Type 0} {first : ℕ} {own : List ℕ} (b : Bool) (rest : Answer A) → OwnRefusals own rest → OwnRefusals (first ∷ own) (refuse_if b first rest)
unfolding refuse_if
test_own true rest h = record { own_refusal = λ number node e. (inl (cc), cc) }
test_own false rest h = record { own_refusal = λ number node e. let r = h.own_refusal number node e in (inr r.0, r.1) }

output_own : (lent : ℕ) (t : Text) → OwnRefusals (16 ∷ []) (output lent t)
unfolding output
output_own lent t = test_own _ _ result_own

-- A call's refusal is the program's, or has one of the call's own numbers. 'Numbers 12 to 16 give node 0.'
abbrev pub CallRefusal : Text → List ℕ → ℕ → ℕ → Type 0
CallRefusal bytes own number node = ProgramRefusal bytes number node ⊎ (Member number own × (node ≡ 0))

pub refused_program :
    {A : Type 0} (p : Answer Lens) (call : Lens → Answer A) (number node : ℕ)
    → with_program p call ≡ refuses number node
    → (p ≡ refuses number node) ⊎ ((l : Lens) × (call l ≡ refuses number node))
unfolding with_program
refused_program (gives l) call number node e = inr (l, e)
refused_program (refuses m k) call number node e = inl (cc)

call_refusal :
    {A : Type 0} (bytes : Text) (own : List ℕ) (call : Lens → Answer A)
    → ((l : Lens) → OwnRefusals own (call l))
    → (number node : ℕ)
    → with_program (program bytes) call ≡ refuses number node
    → CallRefusal bytes own number node
call_refusal bytes own call h number node e =
    ⊎_elim (λ p. inl (program_refusal bytes number node p)) (λ c. inr ((h c.0).own_refusal number node c.1)) (refused_program _ call number node e)

-- Check has none of its own.
pub check_refusal : (bytes : Text) (number node : ℕ) → check_call bytes ≡ refuses number node → ProgramRefusal bytes number node
unfolding check_call
check_refusal bytes number node e = ⊎_elim (λ p. p) (λ own. absurd own.0) (call_refusal bytes [] _ (λ l. result_own) number node e)

-- Get's own are 12, 13 and 16.
pub get_refusal :
    (bytes t : Text) (lent number node : ℕ) → get_call bytes t lent ≡ refuses number node → CallRefusal bytes (12 ∷ 13 ∷ 16 ∷ []) number node
unfolding get_call
get_refusal bytes t lent = call_refusal bytes (12 ∷ 13 ∷ 16 ∷ []) _ (λ l. test_own _ _ (test_own _ _ (output_own lent (get l t))))

-- Put's own are 12 to 16.
pub put_refusal :
    (bytes a old : Text) (lent number node : ℕ)
    → put_call bytes a old lent ≡ refuses number node
    → CallRefusal bytes (12 ∷ 13 ∷ 14 ∷ 15 ∷ 16 ∷ []) number node
unfolding put_call
put_refusal bytes a old lent =
    call_refusal bytes (12 ∷ 13 ∷ 14 ∷ 15 ∷ 16 ∷ []) _ (λ l. test_own _ _ (test_own _ _ (test_own _ _ (test_own _ _ (output_own lent (put l a old))))))

-- Create's own are 12, 14 and 16.
pub create_refusal :
    (bytes a : Text) (lent number node : ℕ) → create_call bytes a lent ≡ refuses number node → CallRefusal bytes (12 ∷ 14 ∷ 16 ∷ []) number node
unfolding create_call
create_refusal bytes a lent = call_refusal bytes (12 ∷ 14 ∷ 16 ∷ []) _ (λ l. test_own _ _ (test_own _ _ (output_own lent (create l a))))

-- ---- A refusal is never number 0

pub record Named {A : Type 0} (outcome : Answer A) : Type 0 where
  pub named : (number node : ℕ) → outcome ≡ refuses number node → 1 ≤ number

call_named :
    {A : Type 0} {outcome : Answer A} (bytes : Text) (own : List ℕ)
    → All (λ n. 1 ≤ n) own
    → ((number node : ℕ) → outcome ≡ refuses number node → CallRefusal bytes own number node)
    → Named outcome
call_named bytes own all refusal = record { named = λ number node e. go number node (refusal number node e) }
  where
    go : (number node : ℕ) → CallRefusal bytes own number node → 1 ≤ number
    go number node (inl (inl h)) = omega arith
    go number node (inl (inr h)) = omega arith
    go number node (inr h) = all_at _ number own all h.0

pub check_named : (bytes : Text) → Named (check_call bytes)
check_named bytes = call_named bytes [] tt (λ number node e. inl (check_refusal bytes number node e))

pub get_named : (bytes t : Text) (lent : ℕ) → Named (get_call bytes t lent)
get_named bytes t lent = call_named bytes (12 ∷ 13 ∷ 16 ∷ []) (omega arith) (get_refusal bytes t lent)

pub put_named : (bytes a old : Text) (lent : ℕ) → Named (put_call bytes a old lent)
put_named bytes a old lent = call_named bytes (12 ∷ 13 ∷ 14 ∷ 15 ∷ 16 ∷ []) (omega arith) (put_refusal bytes a old lent)

pub create_named : (bytes a : Text) (lent : ℕ) → Named (create_call bytes a lent)
create_named bytes a lent = call_named bytes (12 ∷ 14 ∷ 16 ∷ []) (omega arith) (create_refusal bytes a lent)
