-- What is written without the book: it is written so with every book that is asked nothing, and for what concerns no book one with no entries stands for all.
use mathlib.Core.Path.{◌≡◌, refl, sym, subst, ◌∙◌}
use mathlib.Core.Bool.{Bool, true, false, ◌||◌}
use mathlib.Core.List.{List}
use mathlib.Core.Logic.{◌⊎◌, inl, inr}
use mathlib.Core.Option.{Option}
use Prim.Native.Nat.{ℕ, ◌+◌, ◌*◌, ◌≤◌}
use native.Mathlib.Omega.{arith}
use lib.ListN.{length, replicate, length-replicate}
use Rattle.semantics.specs.Text.{Text}
use Rattle.semantics.specs.Lens.{Lens, join, union, repeat, match}
use Rattle.semantics.specs.Table.{trees, tree_at, lens}
use Rattle.semantics.specs.Tally.{met}
use Rattle.laws.specs.Basics.{not_both, or_left, or_right}
use Rattle.laws.specs.Bookless.{asks}
use Rattle.positions.specs.Positions.{Empty}
use Rattle.positions.proofs.Bits.{empty_test}
use Rattle.table.specs.Prepared.{OneLens, TwoLenses}
use Rattle.lens.specs.Emitting.{LensNode}
use Rattle.lens.specs.Nodes.{same_lens, child_below, left_below, right_below}
use Rattle.books.specs.declared.Book.{Book}
use Rattle.books.specs.Listed.{fits_none}
use Rattle.books.specs.Looking.{BookOver}
use Rattle.below.specs.Below.{BelowIs}
use Rattle.steps.specs.declared.Spot.{Spot}
use Rattle.steps.specs.Steps.{ArmIs}
use Rattle.counted.specs.declared.Plain.{Plain}
use Rattle.counted.specs.Counted.{MeetsThere, Fitted, MeetsNext}
use Rattle.plains.specs.Writing.{AsksNone, PlainReady, WritesPlainly}
use Rattle.plains.proofs.Behind.{behind_left}
use Rattle.plains.proofs.Unasked.{none_asked}
use Rattle.plains.proofs.ByKind.{one_met, plain_writes}

-- ---- A book with no entries

unfoldable pub no_book : Book
no_book =
    record {
      starts = replicate 256 0;
      lengths = replicate 256 0;
      bases = replicate 256 0;
      children = replicate 256 0;
      used = replicate 256 false;
      left = record { low = 0; high = 0 };
      count = 0;
    }

pub no_over : BookOver 4096 no_book
unfolding no_book
no_over =
    record {
      sized = record {
        starts_sized = length-replicate {A = ℕ} 256 0;
        lengths_sized = length-replicate {A = ℕ} 256 0;
        bases_sized = length-replicate {A = ℕ} 256 0;
        children_sized = length-replicate {A = ℕ} 256 0;
        used_sized = length-replicate {A = Bool} 256 false;
      };
      fits = fits_none 4096 no_book refl;
    }

-- nothing is asked of it
pub no_asks : (below : List ℕ) (node : ℕ) → AsksNone below node no_book
unfolding no_book
no_asks below node =
    let none_left : Empty no_book.left = (empty_test no_book.left (omega arith) (omega arith)).0 refl in
    record { none_shared = λ shared. let (n, small, held, left) = shared in not_both left (none_left n) }

-- ---- One match

-- a match meets one
pub match_met :
    {bytes : Text} {node child : ℕ} → OneLens (trees bytes) node child (λ l. lens (match child l)) → (old : Option Text) (new : Text) → MeetsThere bytes node old new 1
match_met {child = child} s old new =
    record {
      meets = λ l e.
          subst
          (λ m. length (met m old new) ≡ 1)
          (same_lens (match child s.child) l (sym s.tree_is ∙ e))
          (one_met child s.child old new);
    }

-- ---- What is asked for by the nodes below

-- a lens that asks for no more than another one
narrower :
    {bytes : Text} {below : List ℕ} {prepared : List ℕ} {node child : ℕ} {b : Book} (l m : Lens)
    → BelowIs bytes below
    → LensNode bytes prepared node
    → tree_at (trees bytes) node ≡ lens l
    → LensNode bytes prepared child
    → tree_at (trees bytes) child ≡ lens m
    → ((n : ℕ) → asks m n ≡ true → asks l n ≡ true)
    → AsksNone below node b
    → AsksNone below child b
narrower {node = node} {child = child} l m below_is known e known' f less asks_none =
    record {
      none_shared = λ shared.
          let (n, small, held, left) = shared in
          let inner = (below_is.each child m known'.inside f).asked_is n small in
          let outer = (below_is.each node l known.inside e).asked_is n small in
          asks_none.none_shared (n, small, outer ∙ less n (sym inner ∙ held), left);
    }

module _ {bytes : Text} {prepared below : List ℕ} {node : ℕ} (ready : PlainReady bytes prepared node below) where
  -- a node below
  pub plain_below : {child : ℕ} → LensNode bytes prepared child → PlainReady bytes prepared child below
  plain_below known = record { lens_node = known; below_is = ready.below_is }

  -- its numbers are there
  pub plain_room : 4 * node + 4 ≤ length below
  plain_room = omega (arith, ready.lens_node.inside, ready.below_is.room)

  -- the halves of a join,
  pub join_asks :
      {left right : ℕ} {b : Book}
      → TwoLenses (trees bytes) node left right (λ l m. lens (join l m))
      → AsksNone below node b
      → AsksNone below left b × AsksNone below right b
  unfolding asks
  join_asks s quiet =
      let l = s.left in
      let m = s.right in
      let known = ready.lens_node in (
        narrower (join l m) l ready.below_is known s.tree_is (left_below known s) s.at_left (λ n e. or_left (asks l n) (asks m n) e) quiet,
        narrower (join l m) m ready.below_is known s.tree_is (right_below known s) s.at_right (λ n e. or_right (asks l n) (asks m n) e) quiet,
      )

  -- the arm of a union
  pub arm_asks :
      {left right : ℕ} {old kept : Option Text} {new : Text} {path : List ℕ} {r : Spot} {b : Book}
      → (s : TwoLenses (trees bytes) node left right (λ l m. lens (union l m)))
      → (arm : ArmIs bytes node s.left s.right old kept new path r)
      → LensNode bytes prepared r.node
      → AsksNone below node b
      → AsksNone below r.node b
  unfolding asks
  arm_asks s arm known quiet =
      narrower (union s.left s.right) arm.arm ready.below_is ready.lens_node s.tree_is known arm.arm_is (λ n e. wider n e arm.arm_of_lem) quiet
    where
      wider : (n : ℕ) → asks arm.arm n ≡ true → (arm.arm ≡ s.left) ⊎ (arm.arm ≡ s.right) → asks s.left n || asks s.right n ≡ true
      wider n e (inl is) = or_left (asks s.left n) (asks s.right n) (rw is at e)
      wider n e (inr is) = or_right (asks s.left n) (asks s.right n) (rw is at e)

  -- and the child of a repeat
  pub child_asks : {child : ℕ} {b : Book} → OneLens (trees bytes) node child (λ l. lens (repeat l)) → AsksNone below node b → AsksNone below child b
  unfolding asks
  child_asks s quiet =
      narrower (repeat s.child) s.child ready.below_is ready.lens_node s.tree_is (child_below ready.lens_node s) s.at_child (λ n e. e) quiet

  -- ---- What is written

  -- a node that is written whole
  pub next_plainly :
      (deck : Text) {old : Option Text} {new mid after : Text} {plain r : Plain} {matches : ℕ}
      → MeetsThere bytes node old new matches
      → MeetsNext bytes node old new matches plain mid after r
      → WritesPlainly bytes node deck below old new plain mid after r
  next_plainly deck there next =
      record {
        writes = λ b over quiet.
            plain_writes (λ l e. none_asked deck l ready.lens_node ready.below_is over quiet e) over there next.counted next.next;
      }

  -- what is written lies within the buffer
  pub plain_within :
      {deck : Text} {old : Option Text} {new mid after : Text} {plain r : Plain}
      → Fitted plain.wrote mid
      → WritesPlainly bytes node deck below old new plain mid after r
      → Fitted r.wrote after
  plain_within within written =
      let known = ready.lens_node in
      (behind_left no_over within ((written.writes no_book no_over (no_asks below node)).writes known.tree known.tree_is)).within
