-- A match puts onto the entry that its key finds, and does not look at the old text at its own place; nor does a repeat of one.
use Rattle.std.proofs.Common.{◌≡◌, ℕ, ◌+◌, ◌%◌, ◌^◌, List, [], ◌∷◌, ◌++◌, length, sym, refl, ap, ◌∙◌, ap₂, add-zero, arith}
use mathlib.Core.Option.{Option, none, some}
use Rattle.semantics.specs.Text.{Text, or_else, apply}
use Rattle.semantics.specs.Lens.{Lens, repeat, match, source, sheet, language, parts, key_of, Written, Writer, and_then, write_parts, write_match, write}
use Rattle.semantics.specs.Lens.{Book as Entries}
use Rattle.semantics.specs.Table.{trees, tree_at, lens}
use Rattle.semantics.specs.Tally.{Meeting, meet_parts, met}
use Rattle.laws.specs.Bookless.{plain, Unasked, unasked_writes}
use Rattle.table.specs.Prepared.{OneLens}
use Rattle.cuts.specs.declared.Ends.{Ends}
use Rattle.texts.specs.Overlay.{Wrote}
use Rattle.lens.specs.Nodes.{same_lens}
use Rattle.books.specs.declared.Book.{Book}
use Rattle.books.specs.declared.Lookup.{Lookup}
use Rattle.std.specs.Prelude.{None}
use Rattle.books.specs.Listed.{unused}
use Rattle.books.specs.Looking.{old_text, LookedUp, same_then}
use Rattle.steps.specs.Stepping.{OldEnds}
use Rattle.plains.specs.declared.Done.{Done}
use Rattle.counted.specs.Counted.{MeetsThere, WritesNext}
use Rattle.plains.specs.Writing.{Progress, LensBehind, WritesBehind}
use Rattle.plains.proofs.Behind.{then_same, counted_more, progress_is, at_node, behind_same, progress_swap, text_behind}
use Rattle.plains.proofs.ByKind.{one_met}
use Rattle.matches.specs.WithBook.{EntryFound, WritesMatch, WritesMatches}

module _ {bytes deck : Text} where
  -- it writes what its child writes onto the entry that was found
  found_write :
      {child : ℕ} {b : Book} {r : Lookup} (l : Lens) (old : Option Text) (new : Text)
      → LookedUp bytes deck child (key_of l new) b r
      → write (match child l) old new (unused (trees bytes) deck b) ≡ write l (old_text deck r.old) new (unused (trees bytes) deck r.book)
  unfolding write write_match
  found_write l old new looked = ap (λ t. write l t.found new t.left) looked.looked_up

  -- where the child holds no match, it writes without the book
  pub match_plain :
      {child : ℕ} {new mid after : Text} {done : Done} {lookup : Lookup} {r : Wrote} {m : ℕ}
      → ((l : Lens) → tree_at (trees bytes) child ≡ lens l → (b : Entries) → Unasked l b)
      → EntryFound bytes child deck new done.book lookup
      → m ≡ (done.met + 1) % 2 ^ 64
      → WritesNext bytes child (old_text deck lookup.old) new done.wrote mid after r
      → WritesMatch bytes child deck new done mid after (record { wrote = r; book = lookup.book; met = m })
  match_plain {child} {new} {done = done} {lookup = lookup} unasked entry m_is w =
      record {
        writes = λ l e old.
            let looked = entry.found l e in
            let found = old_text deck lookup.old in
            let left = unused (trees bytes) deck lookup.book in
            let step =
            text_behind
            (write (match child l) old new)
            (plain l found new)
            1
            (found_write l old new looked ∙ unasked_writes l found new left (unasked l e left))
            looked.over
            looked.same_entries
            m_is
            (w.writes l e)
            in
            record { progress = λ v k b before p. progress_is refl (ap (λ n. k + n) (sym (one_met child l old new))) (step v k b before p) };
      }

  -- otherwise its child, which meets none, writes with the book that is left
  pub match_writes :
      {child : ℕ} {new mid after : Text} {done : Done} {lookup : Lookup} {r : Done} {m : ℕ}
      → EntryFound bytes child deck new done.book lookup
      → m ≡ (done.met + 1) % 2 ^ 64
      → MeetsThere bytes child (old_text deck lookup.old) new 0
      → WritesBehind bytes child deck (old_text deck lookup.old) new (record { wrote = done.wrote; book = lookup.book; met = m }) mid after r
      → WritesMatch bytes child deck new done mid after r
  match_writes {child} {new} {mid} {after} {done} {lookup} {r} {m} entry m_is inside behind =
      record {
        writes = λ l e old.
            record {
              progress = λ w k b before p.
                  progress_is
                  refl
                  (ap (λ n. k + 1 + n) (inside.meets l e) ∙ add-zero (k + 1) ∙ ap (λ n. k + n) (sym (one_met child l old new)))
                  (found_behind w k l old before (entry.found l e) (behind.writes l e) p);
            };
      }
    where
      found_behind :
          (w : Written) (k : ℕ) (l : Lens) (old : Option Text) {b : Book} (before : Text)
          → LookedUp bytes deck child (key_of l new) done.book lookup
          → LensBehind bytes deck l (old_text deck lookup.old) new (record { wrote = done.wrote; book = lookup.book; met = m }) mid after r
          → Progress bytes deck w k b before mid done
          → Progress bytes deck (and_then w (write (match child l) old new)) (k + 1 + length (met l (old_text deck lookup.old) new)) b before after r
      found_behind w k l old {b} before looked behind p =
          let left : Written = record { text = w.text; book = unused (trees bytes) deck lookup.book } in
          progress_swap
          left
          w
          (write l (old_text deck lookup.old) new)
          (write (match child l) old new)
          refl
          p.bytes_are
          (λ room. sym (ap (write (match child l) old new) (sym (p.book_is room)) ∙ found_write l old new looked))
          (behind.progress left (k + 1) b before
          (record {
            bytes_are = p.bytes_are;
            met_is = counted_more done.met k 1 p.met_is m_is;
            book_is = λ room. refl;
            over = looked.over;
            same_entries = same_then p.same_entries looked.same_entries;
          }))

-- ---- A repeat of a match

-- a writer that does not look at old texts writes parts that do not
parts_free :
    (w : Writer)
    → ((old : Option Text) (a : Text) (b : Entries) → w old a b ≡ w none a b)
    → (olds news : List Text) (b : Entries) → write_parts w olds news b ≡ write_parts w [] news b
unfolding write_parts
parts_free w free olds [] b = refl
parts_free w free [] (a ∷ news) b = refl
parts_free w free (t ∷ olds) (a ∷ news) b =
    ap (λ v. and_then v (write_parts w olds news)) (free (some t) a b) ∙ then_same (w none a b) (λ b'. parts_free w free olds news b')

-- so with the matches that they meet
met_free : (f : Meeting) → ((old : Option Text) (a : Text) → f old a ≡ f none a) → (olds news : List Text) → meet_parts f olds news ≡ meet_parts f [] news
unfolding meet_parts
met_free f free olds [] = refl
met_free f free [] (a ∷ news) = refl
met_free f free (t ∷ olds) (a ∷ news) = ap₂ ◌++◌ (free (some t) a) (met_free f free olds news)

-- so with a repeat of a match
matches_free : (n : ℕ) (l : Lens) (old : Option Text) (new : Text) (b : Entries) → write (repeat (match n l)) old new b ≡ write (repeat (match n l)) none new b
unfolding write apply or_else
matches_free n l old new b =
    parts_free (write (match n l)) (λ t a b'. refl) (or_else [] (apply (parts (language source (match n l))) old)) (parts (language sheet (match n l)) new) b

matches_met : (n : ℕ) (l : Lens) (old : Option Text) (new : Text) → met (repeat (match n l)) old new ≡ met (repeat (match n l)) none new
unfolding met apply or_else
matches_met n l old new =
    met_free (met (match n l)) (λ t a. refl) (or_else [] (apply (parts (language source (match n l))) old)) (parts (language sheet (match n l)) new)

pub matches_written :
    {bytes : Text} {node child n : ℕ} (deck : Text) {new mid after : Text} {done r : Done}
    → OneLens (trees bytes) node child (λ l. lens (repeat l))
    → OneLens (trees bytes) child n (λ l. lens (match n l))
    → WritesBehind bytes node deck (old_text deck None) new done mid after r
    → WritesMatches bytes node deck new done mid after r
unfolding old_text
matches_written {n = n} deck {new = new} s inner w =
    let l = match n inner.child in
    let tree_is = s.tree_is ∙ ap (λ k. lens (repeat k)) (same_lens s.child l (sym s.at_child ∙ inner.tree_is)) in
    record { writes = λ old. at_node (repeat l) tree_is (behind_same (matches_free n inner.child old new) (matches_met n inner.child old new) (w.writes (repeat l) tree_is)) }

-- where there is no old text, no part of it ends anywhere
pub none_ends : {prepared : List ℕ} {child : ℕ} {ends : Ends} → OldEnds prepared child None ends
none_ends = record { ends_are = λ p e. absurd (let z : ◌≡◌ {A = ℕ} 0 1 = cc in omega arith) }
