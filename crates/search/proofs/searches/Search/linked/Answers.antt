-- `search::searches::Search::linked` meets its contract. Assumes nothing.
use mathlib.Core.Path.{◌≡◌, refl, sym, ◌∙◌}
use mathlib.Core.Bool.{Bool, true, false, ◌&&◌}
use mathlib.Core.List.{List}
use Prim.Native.Nat.{ℕ, ◌+◌, ◌≤◌, ◌<◌}
use borrow.Author.Tests.{lt-ltb, le-ltb, le-leb, lt-leb}
use lib.Dec.{leb, ltb}
use Rattle.positions.specs.Positions.{holds}
use Rattle.search.specs.declared.patches.Quest.{Quest}
use Rattle.search.specs.Pairs.{linked_of, no_patch}
use Rattle.search.proofs.searches.Search.linked.Goals as goal
use Rattle.search.proofs.searches.Search.linked.Goals.{then-row-lt128-via-then-row-lt128, then-row-lt128-via-else-row-lt128+then-self-row, then-row-lt128-via-else-row-lt128+else-self-row+then-not-has}

-- A test that fails makes all fail.
second-false : (x y : Bool) → x ≡ false → (y && x) ≡ false
second-false x true e = e
second-false x false e = refl

module _ (quest : Quest) (leads : List ℕ) (row column : ℕ) where
  -- Where one of the three tests fails, there are no pairs.
  none : (leb 128 row && (ltb row (128 + quest.part.count) && holds quest.first column)) ≡ false → linked_of quest leads row column ≡ no_patch
  unfolding linked_of
  none e = rw e

  none-early : row < 128 → linked_of quest leads row column ≡ no_patch
  none-early l = none (rw (lt-leb 128 row l))

  none_past : 128 + quest.part.count ≤ row → linked_of quest leads row column ≡ no_patch
  none_past l = none (rw (le-ltb row (128 + quest.part.count) l) (second-false false (leb 128 row) refl))

  none_other : holds quest.first column ≡ false → linked_of quest leads row column ≡ no_patch
  none_other e = none (rw e (second-false _ (leb 128 row) (second-false false (ltb row (128 + quest.part.count)) refl)))

pub returns-then-row-lt128 : goal.returns-then-row-lt128
returns-then-row-lt128 c =
    let args = c.args in
    let join = c.then-row-lt128.branch in
    c.empty.ensures ∙ sym
    (elim join [
      | then-row-lt128-via-then-row-lt128 w ↦ none-early args.self.quest.now args.self.leads.now args.row args.column w.if-row-lt128.true
      | then-row-lt128-via-else-row-lt128+then-self-row w ↦ none_past args.self.quest.now args.self.leads.now args.row args.column w.if-self-row.true
      | then-row-lt128-via-else-row-lt128+else-self-row+then-not-has w ↦
          none_other args.self.quest.now args.self.leads.now args.row args.column (sym w.has.ensures ∙ w.if-not-has.true)
    ])

pub returns : goal.returns
unfolding linked_of
returns c =
    let args = c.args in
    let late = le-leb 128 args.row c.if-row-lt128.false in
    let inside = lt-ltb args.row (128 + args.self.quest.now.part.count) c.if-self-row.false in
    let held = c.if-not-has.false in
    rw (late, inside, ← c.has.ensures, held, c.set_at.ensures)
