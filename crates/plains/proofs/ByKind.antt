-- What a node writes behind what was written, from what the nodes below it write: a law for each kind but the repeat and the match.
use mathlib.Core.Path.{◌≡◌, refl, sym, ap, ◌∙◌}
use mathlib.Core.List.{List}
use mathlib.Core.Option.{Option}
use Prim.Native.Nat.{ℕ, ◌+◌, ◌-◌, ◌%◌, ◌^◌}
use native.Mathlib.Nat.{sub-zero, add_assoc}
use lib.ListN.{length, take, drop, length-append}
use Rattle.semantics.specs.Text.{Text, or_else, apply}
use Rattle.semantics.specs.Lens.{Lens, join, union, match, source, sheet, language, cut_at, and_then, write}
use Rattle.semantics.specs.Lens.{Book as Entries}
use Rattle.semantics.specs.Table.{trees, tree_at, lens}
use Rattle.semantics.specs.Tally.{met}
use Rattle.laws.specs.Bookless.{plain, Unasked, unasked_writes}
use Rattle.table.specs.Prepared.{TwoLenses}
use Rattle.texts.specs.Overlay.{Wrote}
use Rattle.texts.specs.Cutting.{rest_lent}
use Rattle.books.specs.Listed.{unused}
use Rattle.books.specs.Looking.{BookOver, same_all}
use Rattle.steps.specs.declared.Spot.{Spot}
use Rattle.steps.specs.Steps.{ArmIs}
use Rattle.plains.specs.declared.Done.{Done}
use Rattle.counted.specs.Counted.{MeetsThere, WritesNext}
use Rattle.plains.specs.Writing.{LensBehind, WritesBehind}
use Rattle.plains.proofs.Behind.{then_same, then_again, progress_is, at_node, behind_same, text_behind}

-- what it writes, from where the sheet and the old text are cut
write_join :
    (l m : Lens) (old : Option Text) (new : Text) (i : ℕ) (first second : Option Text)
    → i ≡ cut_at (language sheet l) (language sheet m) new
    → (let j = or_else 0 (apply (cut_at (language source l) (language source m)) old) in (first ≡ apply (take j) old) × (second ≡ apply (drop j) old))
    → (b : Entries) → write (join l m) old new b ≡ and_then (write l first (take i new) b) (write m second (drop i new))
unfolding write
write_join l m old new i first second i_is (first_is, second_is) b = rw (first_is, second_is, i_is)

-- and how many matches it meets
meet_join :
    (l m : Lens) (old : Option Text) (new : Text) (i : ℕ) (first second : Option Text)
    → i ≡ cut_at (language sheet l) (language sheet m) new
    → (let j = or_else 0 (apply (cut_at (language source l) (language source m)) old) in (first ≡ apply (take j) old) × (second ≡ apply (drop j) old))
    → length (met l first (take i new)) + length (met m second (drop i new)) ≡ length (met (join l m) old new)
unfolding met
meet_join l m old new i first second i_is (first_is, second_is) =
    let j = or_else 0 (apply (cut_at (language source l) (language source m)) old) in
    rw (first_is, second_is, i_is)
    (sym
    (length-append
    (met l (apply (take j) old) (take (cut_at (language sheet l) (language sheet m) new) new))
    (met m (apply (drop j) old) (drop (cut_at (language sheet l) (language sheet m) new) new))))

-- one match is met at a match
pub one_met : (child : ℕ) (l : Lens) (old : Option Text) (new : Text) → length (met (match child l) old new) ≡ 1
unfolding met
one_met child l old new = refl

-- ---- A node that looks nothing up

module _ {bytes deck : Text} where
  -- it writes without the book, which stays as it is
  pub plain_writes :
      {node : ℕ} {old : Option Text} {new mid after : Text} {done : Done} {r : Wrote} {matches m : ℕ}
      → ((l : Lens) → tree_at (trees bytes) node ≡ lens l → Unasked l (unused (trees bytes) deck done.book))
      → BookOver 4096 done.book
      → MeetsThere bytes node old new matches
      → m ≡ (done.met + matches) % 2 ^ 64
      → WritesNext bytes node old new done.wrote mid after r
      → WritesBehind bytes node deck old new done mid after (record { wrote = r; book = done.book; met = m })
  plain_writes {old = old} {new = new} {done = done} {matches = matches} unasked over there m_is w =
      record {
        writes = λ l e.
            let step =
            text_behind
            (write l old new)
            (plain l old new)
            matches
            (unasked_writes l old new (unused (trees bytes) deck done.book) (unasked l e))
            over
            (same_all done.book)
            m_is
            (w.writes l e)
            in
            record { progress = λ v k b before p. progress_is refl (ap (λ n. k + n) (sym (there.meets l e))) (step v k b before p) };
      }

  -- ---- A join

  -- the left half, and directly behind it the right half
  pub join_writes :
      {l m : Lens} {old first second : Option Text} {new out mid after : Text} {i : ℕ} {done half r : Done}
      → i ≡ cut_at (language sheet l) (language sheet m) new
      → (let j = or_else 0 (apply (cut_at (language source l) (language source m)) old) in (first ≡ apply (take j) old) × (second ≡ apply (drop j) old))
      → LensBehind bytes deck l first (take (i - 0) new) done out mid half
      → LensBehind bytes deck m second (take (length new - i) (drop i new)) half mid after r
      → LensBehind bytes deck (join l m) old new done out after r
  join_writes {l} {m} {old} {first} {second} {new} {i = i} i_is halves_are left right =
      record {
        progress = λ w k b before p.
            let front = write l first (take i new) in
            let back = write m second (drop i new) in
            let near = length (met l first (take i new)) in
            let far = length (met m second (drop i new)) in
            progress_is
            (sym (then_same w (write_join l m old new i first second i_is halves_are) ∙ then_again w front back))
            (add_assoc k near far ∙ ap (λ n. k + n) (meet_join l m old new i first second i_is halves_are))
            ((rw (rest_lent new i) at right).progress (and_then w front) (k + near) b before ((rw sub-zero at left).progress w k b before p));
      }

  -- ---- A union

  -- it writes what its arm writes
  pub union_writes :
      {node left right : ℕ} {old kept : Option Text} {new : Text} {path : List ℕ} {spot : Spot} {out after : Text} {done r : Done}
      → (s : TwoLenses (trees bytes) node left right (λ l m. lens (union l m)))
      → ArmIs bytes node s.left s.right old kept new path spot
      → WritesBehind bytes spot.node deck kept new done out after r
      → WritesBehind bytes node deck old new done out after r
  union_writes s arm w = at_node (union s.left s.right) s.tree_is (behind_same arm.writes_same arm.meets_same (w.writes arm.arm arm.arm_is))
