-- The first round over all nodes: which line is the first that holds, from the turns of the nodes.
use mathlib.Core.Path.{◌≡◌, refl, sym, ap, ◌∙◌}
use mathlib.Core.Bool.{Bool, true, false, not, cond}
use mathlib.Core.List.{List, [], ◌∷◌, ◌++◌}
use mathlib.Core.Option.{Option, none, some}
use Prim.Native.Nat.{ℕ, suc, ◌+◌, ◌-◌, ◌≤◌, ◌<◌}
use native.Mathlib.Numerals.{add-one}
use native.Mathlib.Omega.{arith}
use lib.ListN.{length, drop, take, drop_of_length-le}
use lib.Seq.{drop-cons, take_all}
use Rattle.semantics.specs.Text.{Text, or_else, apply}
use Rattle.semantics.specs.Lens.{Lens}
use Rattle.semantics.specs.Table.{node_at, node_count, pool_length, nodes, trees, broken, tree_at, lens_at, sizes_wrong, is_broken, nested, over_limit, unknown_kind, Line, line, first_round, root_of, root_line, first_that_holds}
use Rattle.laws.specs.NodeTrees.{node_length, node_is, tree_length}
use Rattle.std.specs.Prelude.{Ok, Err}
use Rattle.table.specs.declared.Refusal.{Refusal}
use Rattle.table.specs.declared.Sort.TheVariants.{Lenses}
use Rattle.table.specs.Prepared.{refusal, Sized, table_lines, table_answer, answer_for}
use Rattle.table.specs.Rules.{Answered, ReadLeaves, Turned, Whole, node_fault, sort_at, there}

-- the first line that holds, from node k's on
pub from : Text → ℕ → Option Line
from bytes k = first_that_holds (first_round k (drop k (nodes bytes)) (drop k (trees bytes)) ++ root_line bytes ∷ [])

-- ---- The sizes

pub begins : (bytes : Text) → sizes_wrong bytes ≡ false → first_that_holds (table_lines bytes) ≡ from bytes 0
unfolding table_lines first_that_holds from line
begins bytes e = rw e

pub wrong_sizes : (bytes : Text) → sizes_wrong bytes ≡ true → table_answer bytes ≡ Err (refusal 1 0)
unfolding table_answer table_lines first_that_holds answer_for line
wrong_sizes bytes e = rw e

-- ---- A node's four lines

-- of four lines in a row, the first that holds
module _ (bytes : Text) (k : ℕ) (rest : List Line) where
  four : Bool → Bool → Bool → Bool → Option Line
  four u b n o = first_that_holds (line 2 k u ∷ line 3 k b ∷ line 4 k n ∷ line 5 k o ∷ rest)

  fault : Bool → Bool → Bool → Bool → Answered
  fault u b n o = cond u (Err (refusal 2 k)) (cond b (Err (refusal 3 k)) (cond n (Err (refusal 4 k)) (cond o (Err (refusal 5 k)) (Ok tt))))

  four_none : (u b n o : Bool) → fault u b n o ≡ Ok tt → four u b n o ≡ first_that_holds rest
  unfolding four fault first_that_holds line
  four_none true b n o e = cc
  four_none false true n o e = cc
  four_none false false true o e = cc
  four_none false false false true e = cc
  four_none false false false false e = refl

  four_some : (u b n o : Bool) (d : Refusal) → fault u b n o ≡ Err d → answer_for bytes (four u b n o) ≡ Err d
  unfolding four fault first_that_holds line answer_for
  four_some true b n o d h = cc
  four_some false true n o d h = cc
  four_some false false true o d h = cc
  four_some false false false true d h = cc
  four_some false false false false d h = cc

module _ (bytes : Text) (k : ℕ) (inside : k < node_count bytes) where
  later : List Line
  later = first_round (suc k) (drop (suc k) (nodes bytes)) (drop (suc k) (trees bytes)) ++ root_line bytes ∷ []

  -- node k's lines come first
  opened : from bytes k ≡ four bytes k later (unknown_kind (node_at bytes k)) (is_broken (tree_at (trees bytes) k)) (nested (tree_at (trees bytes) k)) (over_limit (tree_at (trees bytes) k))
  unfolding from first_round four later tree_at
  opened =
      rw (
        drop-cons (nodes bytes) k (node_at bytes 0) (omega (arith, node_length bytes)),
        drop-cons (trees bytes) k broken (omega (arith, tree_length bytes)),
        node_is bytes k inside,
      )

  pub passes : node_fault bytes k ≡ Ok tt → from bytes k ≡ from bytes (suc k)
  unfolding node_fault from fault later
  passes e = opened ∙ four_none bytes k later _ _ _ _ e

  pub refuses : (d : Refusal) → node_fault bytes k ≡ Err d → answer_for bytes (from bytes k) ≡ Err d
  unfolding node_fault fault
  refuses d h = ap (answer_for bytes) opened ∙ four_some bytes k later _ _ _ _ d h

-- ---- The root

-- after the last node comes the root's line
ends : (bytes : Text) → from bytes (node_count bytes) ≡ first_that_holds (root_line bytes ∷ [])
unfolding from first_round
ends bytes = rw (drop_of_length-le (nodes bytes) {i = node_count bytes} (omega (arith, node_length bytes)))

root_test : (o : Option Lens) → or_else true (apply (λ l. false) o) ≡ not (there o)
unfolding or_else apply there
root_test none = refl
root_test (some l) = refl

-- the root's sort decides it
root_holds : (bytes : Text) → (root_line bytes).holds ≡ not (sort_at Lenses (take (node_count bytes) (trees bytes)) (node_count bytes - 1))
unfolding root_line line root_of sort_at
root_holds bytes = rw (take_all (node_count bytes) (trees bytes) (omega (arith, tree_length bytes))) (root_test (lens_at (trees bytes) (node_count bytes - 1)))

pub no_root : (bytes : Text) → sort_at Lenses (take (node_count bytes) (trees bytes)) (node_count bytes - 1) ≡ false → answer_for bytes (from bytes (node_count bytes)) ≡ Err (refusal 3 (node_count bytes - 1))
unfolding first_that_holds answer_for root_line line
no_root bytes e = rw (ends bytes, root_holds bytes, e)

pub root_lens : (bytes : Text) → sort_at Lenses (take (node_count bytes) (trees bytes)) (node_count bytes - 1) ≡ true → from bytes (node_count bytes) ≡ none
unfolding first_that_holds
root_lens bytes e = rw (ends bytes, root_holds bytes, e)

-- ---- What reading leaves

pub refused_leaves : (bytes : Text) (d : Refusal) (p : List ℕ) → table_answer bytes ≡ Err d → ReadLeaves bytes (Err d) p
unfolding table_answer answer_for
refused_leaves bytes d p e =
    record {
      answer_is = sym e;
      sized = λ h. absurd (let f = rw h at e in let z : ◌≡◌ {A = ℕ} 0 1 = cc in omega arith);
    }

-- ---- The loop

-- The first k of n nodes have had their turns, and none was refused.
pub record Passed (bytes : Text) (n k : ℕ) (old new : List ℕ) : Type 0 where
  pub count_is : n ≡ node_count bytes
  pub so_far : k ≤ n
  pub same_room : length new ≡ length old
  pub sized : Sized bytes k new
  pub lines_are : first_that_holds (table_lines bytes) ≡ from bytes k

pub passed_begins : {bytes : Text} {n : ℕ} {p : List ℕ} → sizes_wrong bytes ≡ false → n ≡ node_count bytes → Passed bytes n 0 p p
passed_begins {bytes} e h =
    record {
      count_is = h;
      so_far = omega arith;
      same_room = refl;
      sized = record { sizes_right = e; each = λ j l. absurd (omega arith) };
      lines_are = begins bytes e;
    }

pub passed_more :
    {bytes : Text} {n k : ℕ} {r : Answered} {old new last : List ℕ}
    → Passed bytes n k old new
    → k < n
    → Turned bytes k r last
    → r ≡ Ok tt
    → length last ≡ length new
    → Passed bytes n (k + 1) old last
passed_more {bytes} {n} {k} p h t z e =
    record {
      count_is = p.count_is;
      so_far = omega arith;
      same_room = e ∙ p.same_room;
      sized = t.sized z;
      lines_are = p.lines_are ∙ passes bytes k (omega (arith, p.count_is)) (sym t.fault_is ∙ z) ∙ ap (from bytes) (sym (add-one k));
    }

-- a turn that is refused
pub passed_refused :
    {bytes : Text} {n k : ℕ} {r : Answered} {d : Refusal} {old new last : List ℕ}
    → Passed bytes n k old new
    → k < n
    → Turned bytes k r last
    → r ≡ Err d
    → ReadLeaves bytes (Err d) last
unfolding table_answer
passed_refused {bytes} {n} {k} {r} {d} {last = last} p h t z =
    refused_leaves bytes d last
    (ap (answer_for bytes) p.lines_are ∙ refuses bytes k (omega (arith, p.count_is)) d (sym t.fault_is ∙ z))

-- the root, once every node has passed
module _ {bytes : Text} {n k : ℕ} {old new : List ℕ} (so_far : Passed bytes n k old new) (none_left : n ≤ k) where
  p : Passed bytes n n old new
  p = let e : k ≡ n = omega (arith, so_far.so_far) in rw e at so_far

  pub passed_whole : Whole bytes n
  passed_whole = record { sizes_right = p.sized.sizes_right; inside = omega (arith, p.count_is); each = λ j l. (p.sized.each j l).whole }

  pub passed_no_root : sort_at Lenses (take n (trees bytes)) (n - 1) ≡ false → ReadLeaves bytes (Err (refusal 3 (n - 1))) new
  unfolding table_answer
  passed_no_root e =
      let f = rw p.count_is at e in
      refused_leaves bytes (refusal 3 (n - 1)) new (ap (answer_for bytes) p.lines_are ∙ (rw p.count_is (no_root bytes f)))

  pub passed_ready : sort_at Lenses (take n (trees bytes)) (n - 1) ≡ true → ReadLeaves bytes (Ok (record { nodes = n; pool = pool_length bytes })) new
  unfolding table_answer answer_for
  passed_ready e =
      let f = rw p.count_is at e in
      let g : first_that_holds (table_lines bytes) ≡ none = p.lines_are ∙ (rw p.count_is (root_lens bytes f)) in
      record { answer_is = rw (g, p.count_is); sized = λ h. rw p.count_is at p.sized }
