-- What Check answers: N if and only if the program keeps the rules, and a typing refusal at the first node that breaks one.
use Rattle.std.specs.Prelude.{◌≡◌, refl, true, false, [], ◌∷◌, ◌⊎◌, ◌↔◌, ℕ, zero, suc, ◌+◌, ◌≤◌, ◌<◌}
use Rattle.std.proofs.Common.{sym, ap, ◌∙◌, subst, inl, inr, ⊎_elim, arith}
use Rattle.std.proofs.Math.Logic.Iff
use Rattle.semantics.specs.Text.{Text}
use Rattle.semantics.specs.Lens.{Lens, copy, const, key, join, union, repeat, match}
use Rattle.semantics.specs.Table.{node_count, Tree, pattern, lens, broken, Trees, tree_at, trees, Line, line, typing_lines, tree_lines, second_round, lines}
use Rattle.semantics.specs.Calls.{gives, refuses, program, with_program, check_call}
use Rattle.laws.specs.Basics.{never}
use Rattle.laws.specs.Accepted.{NodeTyped, Breaks, fails_iff, typing_line_iff, TableRight, Keeps, Quiet, TreeTyped, tree_quiet, round_two, Held, FirstHeld, held_nil, held_cons, held_append, refuses_iff, accepted_iff}
use Rattle.laws.specs.Demand3.{passed_program, with_program_lem}
use Rattle.laws.specs.Refusals.{Place, at_sizes, in_first_round, at_root, in_second_round, place_of, second_first, refused_program}

-- ---- A result of Check

-- 'Check tests a program'; 'Check's length is N': it is given if and only if the program keeps the rules.
pub check_gives_iff : (bytes : Text) (n : ℕ) → (check_call bytes ≡ gives n) ↔ ((n ≡ node_count bytes) × Keeps bytes)
unfolding check_call
check_gives_iff bytes n = (
  λ e.
      let p = passed_program (program bytes) _ n e in
      let answer : gives (node_count bytes) ≡ gives n = p.2 in
      (cc, (accepted_iff bytes).0 (p.0, p.1)),
  λ h. let a = (accepted_iff bytes).1 h.1 in with_program_lem (program bytes) _ a.0 a.1 ∙ ap gives (sym h.0),
)

-- ---- The second round, up to the first line that holds

-- B holds of the number, and of no lower one
abbrev Lowest : (ℕ → Type 0) → ℕ → Type 0
Lowest B number = B number × ((n : ℕ) → n < number → ¬ B n)

module _ (B : ℕ → Type 0) (x : Line) (x-iff : (x.holds ≡ true) ↔ B x.number) (number node : ℕ) where
  -- one line, which holds if and only if B does of its number, where B holds of no other
  one_held : ((n : ℕ) → B n → n ≡ x.number) → FirstHeld (x ∷ []) number node ↔ ((node ≡ x.node) × Lowest B number)
  one_held only = (λ h. to ((held_cons x [] number node).0 h), from)
    where
      to : Held x number node ⊎ ((x.holds ≡ false) × FirstHeld [] number node) → (node ≡ x.node) × Lowest B number
      to (inl (e, m, k)) = (sym k, (subst B m (x-iff.0 e), λ n h b. let same = only n b in omega arith))
      to (inr (e, h)) = absurd (held_nil number node h)

      from : (node ≡ x.node) × Lowest B number → FirstHeld (x ∷ []) number node
      from (k, (b, lower)) = let same = only number b in (held_cons x [] number node).1 (inl (x-iff.1 (subst B same b), sym same, sym k))

  -- two such lines, in order and at one node
  two_held :
      (y : Line)
      → (y.holds ≡ true) ↔ B y.number
      → x.number < y.number
      → x.node ≡ y.node
      → ((n : ℕ) → B n → (n ≡ x.number) ⊎ (n ≡ y.number))
      → FirstHeld (x ∷ y ∷ []) number node ↔ ((node ≡ x.node) × Lowest B number)
  two_held y y-iff ascending one-node only = (λ h. to ((held_cons x (y ∷ []) number node).0 h), λ h. from h (only number h.1.0))
    where
      first : x.number ≡ number → (n : ℕ) → n < number → ¬ B n
      first m n h b = ⊎_elim (λ e. omega arith) (λ e. omega arith) (only n b)

      second : x.holds ≡ false → y.number ≡ number → (n : ℕ) → n < number → ¬ B n
      second quiet m n h b = ⊎_elim (λ e. (fails_iff x.holds x-iff).0 quiet (subst B e b)) (λ e. omega arith) (only n b)

      to_second : x.holds ≡ false → Held y number node ⊎ ((y.holds ≡ false) × FirstHeld [] number node) → (node ≡ x.node) × Lowest B number
      to_second quiet (inl (e, m, k)) = (sym k ∙ sym one-node, (subst B m (y-iff.0 e), second quiet m))
      to_second quiet (inr (e, h)) = absurd (held_nil number node h)

      to : Held x number node ⊎ ((x.holds ≡ false) × FirstHeld (y ∷ []) number node) → (node ≡ x.node) × Lowest B number
      to (inl (e, m, k)) = (sym k, (subst B m (x-iff.0 e), first m))
      to (inr (quiet, h)) = to_second quiet ((held_cons y [] number node).0 h)

      from : (node ≡ x.node) × Lowest B number → (number ≡ x.number) ⊎ (number ≡ y.number) → FirstHeld (x ∷ y ∷ []) number node
      from (k, (b, lower)) (inl e) = (held_cons x (y ∷ []) number node).1 (inl (x-iff.1 (subst B e b), sym e, sym k))
      from (k, (b, lower)) (inr e) =
          let quiet = (fails_iff x.holds x-iff).1 (lower x.number (omega arith)) in
          let held = (held_cons y [] number node).1 (inl (y-iff.1 (subst B e b), sym e, sym one-node ∙ sym k)) in
          (held_cons x (y ∷ []) number node).1 (inr (quiet, held))

-- the first line that holds at a lens is that of the first rule that it breaks
typing_held :
    (k : ℕ) (l : Lens) (number node : ℕ) → FirstHeld (typing_lines k l) number node ↔ ((node ≡ k) × Lowest (λ n. Breaks n l) number)
unfolding typing_lines line Breaks
typing_held k (copy r) number node = (λ h. absurd (held_nil number node h), λ h. absurd h.1.0)
typing_held k (const r w d) number node = one_held (λ n. Breaks n (const r w d)) _ (typing_line_iff k (const r w d)).0 number node (λ n b. b.0)
typing_held k (key r) number node = (λ h. absurd (held_nil number node h), λ h. absurd h.1.0)
typing_held k (join l m) number node =
    let i = typing_line_iff k (join l m) in
    two_held (λ n. Breaks n (join l m)) _ i.0 number node _ i.1.0 (omega arith) refl (λ n. ⊎_elim (λ b. inl b.0) (λ b. inr b.0))
typing_held k (union l m) number node = one_held (λ n. Breaks n (union l m)) _ (typing_line_iff k (union l m)).0 number node (λ n b. b.0)
typing_held k (repeat l) number node =
    let i = typing_line_iff k (repeat l) in
    two_held (λ n. Breaks n (repeat l)) _ i.0 number node _ i.1.0 (omega arith) refl (λ n. ⊎_elim (λ b. inl b.0) (λ b. inr b.0))
typing_held k (match m l) number node = (λ h. absurd (held_nil number node h), λ h. absurd h.1.0)

-- and so at a tree
abbrev LowestAt : Tree → ℕ → Type 0
LowestAt t number = (l : Lens) × (t ≡ lens l) × Lowest (λ n. Breaks n l) number

tree_held : (k : ℕ) (t : Tree) (number node : ℕ) → FirstHeld (tree_lines k t) number node ↔ ((node ≡ k) × LowestAt t number)
unfolding tree_lines
tree_held k (pattern r) number node = (λ h. absurd (held_nil number node h), λ h. never (let e = h.1.1 in cc))
tree_held k (lens l) number node =
    Iff.trans
    (typing_held k l number node) (
      λ h. (h.0, (l, refl, h.1)),
      λ h. let e = h.1.1 in let same : h.1.0 ≡ l = cc in (h.0, subst (λ m. Lowest (λ n. Breaks n m) number) same h.1.2),
    )
tree_held k broken number node = (λ h. absurd (held_nil number node h), λ h. never (let e = h.1.1 in cc))

-- and in the round, from any node on: no lens of a lower node breaks a rule
abbrev FirstTree : ℕ → Trees → ℕ → ℕ → Type 0
FirstTree j ts number node = (k : ℕ) × (node ≡ j + k) × LowestAt (tree_at ts k) number × ((i : ℕ) → i < k → TreeTyped (tree_at ts i))

second_held : (j : ℕ) (ts : Trees) (number node : ℕ) → FirstHeld (second_round j ts) number node ↔ FirstTree j ts number node
unfolding second_round tree_at
second_held j [] number node = (λ h. absurd (held_nil number node h), λ h. never (let e = h.2.1 in cc))
second_held j (t ∷ ts) number node = (
  λ h. to (second_held (suc j) ts number node).0 ((held_append (tree_lines j t) (second_round (suc j) ts) number node).0 h),
  λ h. (held_append (tree_lines j t) (second_round (suc j) ts) number node).1 (from (second_held (suc j) ts number node).1 h),
)
  where
    lower : TreeTyped t → (k : ℕ) → ((i : ℕ) → i < k → TreeTyped (tree_at ts i)) → (i : ℕ) → i < suc k → TreeTyped (tree_at (t ∷ ts) i)
    lower own k others zero h = own
    lower own k others (suc i) h = others i (omega arith)

    to :
        (FirstHeld (second_round (suc j) ts) number node → FirstTree (suc j) ts number node)
        → FirstHeld (tree_lines j t) number node ⊎ (Quiet (tree_lines j t) × FirstHeld (second_round (suc j) ts) number node)
        → FirstTree j (t ∷ ts) number node
    to rec (inl h) = let at_once = (tree_held j t number node).0 h in (0, omega arith, at_once.1, λ i h. absurd (omega arith))
    to rec (inr (quiet, h)) = let (k, e, lowest, others) = rec h in (suc k, omega arith, lowest, lower ((tree_quiet j t).0 quiet) k others)

    from :
        (FirstTree (suc j) ts number node → FirstHeld (second_round (suc j) ts) number node)
        → FirstTree j (t ∷ ts) number node
        → FirstHeld (tree_lines j t) number node ⊎ (Quiet (tree_lines j t) × FirstHeld (second_round (suc j) ts) number node)
    from rec (zero, e, lowest, others) = inl ((tree_held j t number node).1 (omega arith, lowest))
    from rec (suc k, e, lowest, others) =
        inr ((tree_quiet j t).1 (others 0 (omega arith)), rec (k, omega arith, lowest, λ i h. others (suc i) (omega arith)))

-- ---- The refusals 6 to 11

-- 'Numbers 7 to 11 are given if and only if such a text exists. Every other number, too, needs its line to hold.' Refusal `number` at
-- `node`: the table is right; the lens there breaks the rule of that number, for 7 to 11 by a text; and no earlier line holds: each lens of
-- a lower node keeps the rules, and this one the rules of lower numbers.
pub record FirstBreak (bytes : Text) (number node : ℕ) : Type 0 where
  pub table_right : TableRight bytes
  pub lens_there : Lens
  pub at_node : tree_at (trees bytes) node ≡ lens lens_there
  pub breaks : Breaks number lens_there
  pub lower_typed : (k : ℕ) (l : Lens) → k < node → tree_at (trees bytes) k ≡ lens l → NodeTyped l
  pub first_rule : (n : ℕ) → n < number → ¬ Breaks n lens_there

-- in the terms of the round
first_break : (bytes : Text) (number node : ℕ) → (TableRight bytes × FirstTree 0 (trees bytes) number node) ↔ FirstBreak bytes number node
first_break bytes number node = (
  to,
  λ b. (b.table_right, (node, omega arith, (b.lens_there, b.at_node, (b.breaks, b.first_rule)), λ i h l. b.lower_typed i l h)),
)
  where
    to : TableRight bytes × FirstTree 0 (trees bytes) number node → FirstBreak bytes number node
    to (right, (k, e, (l, at-k, (broken-rule, first)), lower)) =
        let same : k ≡ node = omega arith in
        record {
          table_right = right;
          lens_there = l;
          at_node = subst (λ i. tree_at (trees bytes) i ≡ lens l) same at-k;
          breaks = broken-rule;
          lower_typed = λ i m h. lower i (omega arith) m;
          first_rule = first;
        }

-- a refusal from 6 on is given in the second round
in_second :
    (bytes : Text) (number node : ℕ)
    → 6 ≤ number
    → FirstHeld (lines bytes) number node ↔ (TableRight bytes × FirstHeld (round_two bytes) number node)
in_second bytes number node late = (λ h. go (place_of bytes number node h), λ h. second_first bytes number node h.0 h.1)
  where
    go : Place bytes number node → TableRight bytes × FirstHeld (round_two bytes) number node
    go (at_sizes m k) = absurd (omega arith)
    go (in_first_round w) = absurd (omega arith)
    go (at_root m k) = absurd (omega arith)
    go (in_second_round right h) = (right, h)

-- Check's refusals are the program's
check_refuses : (bytes : Text) (number node : ℕ) → (check_call bytes ≡ refuses number node) ↔ (program bytes ≡ refuses number node)
unfolding check_call with_program
check_refuses bytes number node = (
  λ e. ⊎_elim (λ p. p) (λ c. never (let e = c.1 in cc)) (refused_program (program bytes) _ number node e),
  λ p. rw p refl,
)

pub check_refuses_iff : (bytes : Text) (number node : ℕ) → 6 ≤ number → (check_call bytes ≡ refuses number node) ↔ FirstBreak bytes number node
check_refuses_iff bytes number node late =
    let in-round = second_held 0 (trees bytes) number node in
    let broken = Iff.trans (in_second bytes number node late) (Iff.trans (Iff.and (λ t. t, λ t. t) in-round) (first_break bytes number node)) in
    Iff.trans (check_refuses bytes number node) (Iff.trans (refuses_iff bytes number node) broken)
