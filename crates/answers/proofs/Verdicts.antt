-- The program's answer from those of the two rounds, what a check in a lent slice says, and the root of an accepted program.
use mathlib.Core.Path.{◌≡◌, refl, sym, ap, ◌∙◌, subst}
use mathlib.Core.Bool.{Bool, true, false, cond}
use mathlib.Core.List.{List, [], ◌∷◌, ◌++◌, append_assoc}
use mathlib.Core.Option.{Option, none, some}
use Prim.Native.Nat.{ℕ, suc, ◌-◌, ◌≤◌}
use native.Mathlib.Omega.{arith}
use Rattle.semantics.specs.Text.{Text, All}
use Rattle.semantics.specs.Table.{Node, node_count, sizes_wrong, nodes, lens, Trees, tree_at, trees, Line, line, first_round, root_of, root_line, second_round, lines, first_that_holds}
use Rattle.semantics.specs.Calls.{refuses, verdict, program, with_program, check_call}
use Rattle.laws.specs.Basics.{all_append}
use Rattle.laws.specs.NodeTrees.{lens_tree}
use Rattle.laws.specs.Accepted.{Quiet, quiet_iff, gives_iff, accepted_iff}
use Rattle.table.specs.Prepared.{table_lines, TableAnswer, table_answer, answer_for}
use Rattle.table.specs.Prepared.{refusal}
use Rattle.table.specs.declared.Refusal.{Refusal}
use Rattle.table.specs.declared.Table.{Table}
use Rattle.laws.specs.RightSizes.{Right, right_of}
use Rattle.typing.specs.Round.{TypingAnswer, typing_answer, answer_of}
use Rattle.automaton.specs.Built.{Built}
use Rattle.answers.specs.declared.Hindrance.TheVariants.{Refused}
use Rattle.answers.specs.Answers.{IsAccepted, TooSmall, Checked, CheckedIs}
use Rattle.answers.specs.Outcomes as A
use Rattle.std.specs.Prelude.{Ok, Err}

-- two constructors are never equal: it would make 0 and 1 equal
never : {A : Type 0} → ◌≡◌ {A = ℕ} 0 1 → A
never e = absurd (omega arith)

-- ---- The lines of both rounds

lines_are : (bytes : Text) → lines bytes ≡ table_lines bytes ++ second_round 0 (trees bytes)
unfolding lines table_lines
lines_are bytes =
    ap (λ (ls : List Line). line 1 0 (sizes_wrong bytes) ∷ ls)
    (sym (append_assoc (first_round 0 (nodes bytes) (trees bytes)) (root_line bytes ∷ []) (second_round 0 (trees bytes))))

-- a line of the first list that holds comes first; where there is none, the second list decides
first_left : (xs ys : List Line) (l : Line) → first_that_holds xs ≡ some l → first_that_holds (xs ++ ys) ≡ some l
unfolding first_that_holds
first_left [] ys l e = never (cc)
first_left (x ∷ xs) ys l e = go x.holds e (first_left xs ys l)
  where
    go :
        (b : Bool)
        → cond b (some x) (first_that_holds xs) ≡ some l
        → (first_that_holds xs ≡ some l → first_that_holds (xs ++ ys) ≡ some l)
        → cond b (some x) (first_that_holds (xs ++ ys)) ≡ some l
    go true e rec = e
    go false e rec = rec e

first_right : (xs ys : List Line) → first_that_holds xs ≡ none → first_that_holds (xs ++ ys) ≡ first_that_holds ys
unfolding first_that_holds
first_right [] ys e = refl
first_right (x ∷ xs) ys e = go x.holds e (first_right xs ys)
  where
    go :
        (b : Bool)
        → cond b (some x) (first_that_holds xs) ≡ none
        → (first_that_holds xs ≡ none → first_that_holds (xs ++ ys) ≡ first_that_holds ys)
        → cond b (some x) (first_that_holds (xs ++ ys)) ≡ first_that_holds ys
    go true e rec = never (cc)
    go false e rec = rec e

none_quiet : (ls : List Line) → first_that_holds ls ≡ none → Quiet ls
unfolding first_that_holds
none_quiet [] e = tt
none_quiet (l ∷ ls) e = go l.holds refl e (none_quiet ls)
  where
    go : (b : Bool) → l.holds ≡ b → cond b (some l) (first_that_holds ls) ≡ none → (first_that_holds ls ≡ none → Quiet ls) → Quiet (l ∷ ls)
    go true h e rec = never (cc)
    go false h e rec = (h, rec e)

-- the first line that holds refuses the program
line_refuses : (bytes : Text) (l : Line) → first_that_holds (lines bytes) ≡ some l → program bytes ≡ refuses l.number l.node
unfolding program verdict
line_refuses bytes l e = rw e refl

-- ---- The program's answer

pub table_refuses : (bytes : Text) (r : Refusal) → Err r ≡ table_answer bytes → program bytes ≡ refuses r.number r.node
unfolding table_answer answer_for
table_refuses bytes r e = go (first_that_holds (table_lines bytes)) refl e
  where
    go : (o : Option Line) → first_that_holds (table_lines bytes) ≡ o → Err r ≡ answer_for bytes o → program bytes ≡ refuses r.number r.node
    go none found e = never (cc)
    go (some l) found e =
        let first : first_that_holds (lines bytes) ≡ some l = rw (lines_are bytes) (first_left (table_lines bytes) (second_round 0 (trees bytes)) l found) in
        let answer = line_refuses bytes l first in
        cc

-- the lines of the first round have the numbers 1 to 5
abbrev Low : Line → Type 0
Low l = l.number ≤ 5

round_low : (k : ℕ) (ns : List Node) (ts : Trees) → All Low (first_round k ns ts)
unfolding first_round line
round_low k [] ts = tt
round_low k (n ∷ ns) [] = tt
round_low k (n ∷ ns) (t ∷ ts) = (omega arith, (omega arith, (omega arith, (omega arith, round_low (suc k) ns ts))))

table_low : (bytes : Text) → All Low (table_lines bytes)
unfolding table_lines root_line line
table_low bytes = (omega arith, all_append Low (first_round 0 (nodes bytes) (trees bytes)) (root_line bytes ∷ []) (round_low 0 (nodes bytes) (trees bytes)) (omega arith, tt))

first_low : (ls : List Line) (l : Line) → All Low ls → first_that_holds ls ≡ some l → Low l
unfolding first_that_holds
first_low [] l all e = never (cc)
first_low (x ∷ xs) l all e = go x.holds e (first_low xs l all.1)
  where
    go : (b : Bool) → cond b (some x) (first_that_holds xs) ≡ some l → (first_that_holds xs ≡ some l → Low l) → Low l
    go true e rec = let same : x ≡ l = cc in subst Low same all.0
    go false e rec = rec e

-- and so has a refusal of it
pub table_number : (bytes : Text) (r : Refusal) → Err r ≡ table_answer bytes → r.number ≤ 5
unfolding table_answer answer_for
table_number bytes r e = go (first_that_holds (table_lines bytes)) refl e
  where
    go : (o : Option Line) → first_that_holds (table_lines bytes) ≡ o → Err r ≡ answer_for bytes o → r.number ≤ 5
    go none found e = never (cc)
    go (some l) found e =
        let low = first_low (table_lines bytes) l (table_low bytes) found in
        let same : r.number ≡ l.number = cc in
        rw same low

-- a table that is ready has no line of the first round that holds
pub ready_none : (bytes : Text) (t : _) → Ok t ≡ table_answer bytes → first_that_holds (table_lines bytes) ≡ none
unfolding table_answer answer_for
ready_none bytes t e = go (first_that_holds (table_lines bytes)) e
  where
    go : (o : Option Line) → Ok t ≡ answer_for bytes o → o ≡ none
    go none e = refl
    go (some l) e = never (cc)

-- so one that is not refused has none,
pub unrefused_none : (bytes : Text) (answer : TableAnswer) → answer ≡ table_answer bytes → ((r : Refusal) → answer ≡ Err r → ⊥) → first_that_holds (table_lines bytes) ≡ none
unrefused_none bytes (Ok t) is other = ready_none bytes t is
unrefused_none bytes (Err r) is other = absurd (other r refl)

-- and one that is refused is told so by a check in a lent slice
pub table_told :
    (bytes : Text) (answer : TableAnswer) (checked : Checked) (prepared : List ℕ)
    → answer ≡ table_answer bytes
    → ((t : Table) → answer ≡ Ok t → ⊥)
    → ((r : Refusal) → answer ≡ Err r → checked ≡ Err (Refused r))
    → CheckedIs bytes checked prepared
unfolding CheckedIs
table_told bytes (Ok t) checked prepared is other told = absurd (other t refl)
table_told bytes (Err r) checked prepared is other told =
    rw (told r refl) (record { refuses_it = table_refuses bytes r is; built = λ late. let low = table_number bytes r is in absurd (omega arith) })

module _ (bytes : Text) (table-passes : first_that_holds (table_lines bytes) ≡ none) where
  second_decides : first_that_holds (lines bytes) ≡ first_that_holds (second_round 0 (trees bytes))
  second_decides = rw (lines_are bytes) (first_right (table_lines bytes) (second_round 0 (trees bytes)) table-passes)

  pub typing_refuses : (r : Refusal) → Err r ≡ typing_answer bytes → program bytes ≡ refuses r.number r.node
  unfolding typing_answer answer_of
  typing_refuses r e = go (first_that_holds (second_round 0 (trees bytes))) refl e
    where
      go : (o : Option Line) → first_that_holds (second_round 0 (trees bytes)) ≡ o → Err r ≡ answer_of o → program bytes ≡ refuses r.number r.node
      go none found e = never (cc)
      go (some l) found e = let answer = line_refuses bytes l (second_decides ∙ found) in cc

  pub typing_accepts : Ok tt ≡ typing_answer bytes → IsAccepted bytes
  unfolding typing_answer answer_of
  typing_accepts e = go (first_that_holds (second_round 0 (trees bytes))) refl e
    where
      go : (o : Option Line) → first_that_holds (second_round 0 (trees bytes)) ≡ o → Ok tt ≡ answer_of o → IsAccepted bytes
      go none found e =
          let r = (accepted_iff bytes).1 ((quiet_iff bytes).0 (none_quiet (lines bytes) (second_decides ∙ found))) in
          record { root = r.0; gives_root = r.1 }
      go (some l) found e = never (cc)

  -- what the second round answers is told by a check in a lent slice
  pub typing_told :
      (answer : TypingAnswer) (checked : Checked) (prepared : List ℕ)
      → answer ≡ typing_answer bytes
      → (answer ≡ Ok tt → checked ≡ Ok tt)
      → ((r : Refusal) → answer ≡ Err r → checked ≡ Err (Refused r))
      → Built bytes prepared
      → CheckedIs bytes checked prepared
  unfolding CheckedIs
  typing_told (Ok t) checked prepared is passed told built = rw (passed refl) (record { accepted = typing_accepts is; built = built })
  typing_told (Err r) checked prepared is passed told built = rw (told r refl) (record { refuses_it = typing_refuses r is; built = λ late. built })

-- ---- What a check in a lent slice says

-- the case that the answer is
pub told : (bytes : Text) {checked which : Checked} (prepared : List ℕ) → CheckedIs bytes checked prepared → checked ≡ which → CheckedIs bytes which prepared
told bytes prepared h e = subst (λ (x : Checked). CheckedIs bytes x prepared) e h

-- no program needs more room than 24,576 rows take
pub never_small : {bytes : Text} → TooSmall bytes 75264 → ⊥
never_small h = omega (arith, h.no_room, h.most)

-- ---- The call Check

pub check_refuses : (bytes : Text) (number node : ℕ) → program bytes ≡ refuses number node → Err (refusal number node) ≡ A.answer_for (λ (n : ℕ). n) (check_call bytes)
unfolding check_call with_program A.answer_for
check_refuses bytes number node e = rw e refl

pub check_accepts : (bytes : Text) (n : ℕ) → IsAccepted bytes → n ≡ node_count bytes → Ok n ≡ A.answer_for (λ (n : ℕ). n) (check_call bytes)
unfolding check_call with_program A.answer_for
check_accepts bytes n a e = rw a.gives_root (ap Ok e)

-- ---- The root of an accepted program

pub accepted_sizes : {bytes : Text} → IsAccepted bytes → Right bytes
accepted_sizes {bytes} a = right_of bytes ((accepted_iff bytes).0 (a.root, a.gives_root)).table_right.sizes_right

pub root_tree : (bytes : Text) (a : IsAccepted bytes) → tree_at (trees bytes) (node_count bytes - 1) ≡ lens a.root
unfolding root_of
root_tree bytes a = lens_tree (trees bytes) (node_count bytes - 1) a.root ((gives_iff bytes a.root).0 a.gives_root).1
