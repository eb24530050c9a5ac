-- What was written so far, and what is written directly behind it.
use mathlib.Core.Path.{◌≡◌, refl, sym, ap, subst, subst₂, ◌∙◌}
use mathlib.Core.List.{[], ◌∷◌, ◌++◌, append_assoc, append-nil}
use mathlib.Core.Option.{Option, none, some}
use Prim.Native.Nat.{ℕ, ◌+◌, ◌%◌, ◌^◌, ◌<◌}
use native.Mathlib.Nat.{add-zero, mod-add-mod}
use native.Mathlib.Omega.{arith}
use lib.ListN.{length, take, length-append}
use lib.Seq.{take-append_seam}
use Rattle.semantics.specs.Text.{Text}
use Rattle.semantics.specs.Lens.{Lens, Written, and_then, write}
use Rattle.semantics.specs.Lens.{Book as Entries}
use Rattle.semantics.specs.Table.{trees, tree_at, lens}
use Rattle.semantics.specs.Tally.{met}
use Rattle.texts.specs.Overlay.{Wrote}
use Rattle.std.specs.Prelude.{Some, None}
use Rattle.texts.specs.Overlay.{Writes, overlay_over, wrote_over, writes_within, writes_full}
use Rattle.lens.specs.Nodes.{same_lens}
use Rattle.books.specs.declared.Book.{Book}
use Rattle.books.specs.Old.{Old}
use Rattle.books.specs.declared.Place.{Place}
use Rattle.books.specs.Listed.{unused}
use Rattle.books.specs.Looking.{part_at, old_text, BookOver, SameEntries, same_all, same_then}
use Rattle.counted.specs.Counted.{Fitted}
use Rattle.counted.proofs.Front.{front_written}
use Rattle.plains.specs.declared.Done.{Done}
use Rattle.plains.specs.Writing.{WithinBuffer, wrapped, Progress, LensBehind, WritesBehind}

-- ---- Two steps, one behind the other

-- the same text, written behind
pub then_same : (w : Written) {next next' : Entries → Written} → ((b : Entries) → next b ≡ next' b) → and_then w next ≡ and_then w next'
unfolding and_then
then_same w same = rw (same w.book)

-- what is written in two steps
pub then_again : (w : Written) (next after : Entries → Written) → and_then w (λ b. and_then (next b) after) ≡ and_then (and_then w next) after
unfolding and_then
then_again w next after = rw append_assoc

-- nothing more
pub then_nothing : (w : Written) → and_then w (λ b. record { text = []; book = b }) ≡ w
unfolding and_then
then_nothing w = rw append-nil

-- the same step behind the same text
then_swap :
    (w w' : Written) (next next' : Entries → Written) → w.text ≡ w'.text → next w.book ≡ next' w'.book → and_then w next ≡ and_then w' next'
unfolding and_then
then_swap w w' next next' text_is same = rw (text_is, same)

-- ---- Counts

-- n matches more
pub counted_more : (m k n : ℕ) {next : ℕ} → wrapped m ≡ wrapped k → next ≡ (m + n) % 2 ^ 64 → wrapped next ≡ wrapped (k + n)
unfolding wrapped
counted_more m k n same is =
    let once : (m + n) % 2 ^ 64 % 2 ^ 64 ≡ (m + n) % 2 ^ 64 =
    ap (λ x. x % 2 ^ 64) (sym (add-zero ((m + n) % 2 ^ 64))) ∙ mod-add-mod (m + n) (2 ^ 64) 0 ∙ ap (λ x. x % 2 ^ 64) (add-zero (m + n)) in
    ap (λ x. x % 2 ^ 64) is ∙ once ∙ sym (mod-add-mod m (2 ^ 64) n) ∙ ap (λ x. (x + n) % 2 ^ 64) same ∙ mod-add-mod k (2 ^ 64) n

-- ---- Texts that did not fit

-- behind a text that did not fit, nothing changes, whatever is written
full_stays : (s t before mid after : Text) (r : Wrote) → Writes s before mid None → Writes (s ++ t) before after r → (after ≡ mid) × (r ≡ None)
full_stays s t before mid after r first second =
    let whole = writes_full s t before mid first in
    (second.buffer_is ∙ sym whole.buffer_is, second.answer_is ∙ sym whole.answer_is)

-- a count is not that the buffer was too short
pub not_full : {answer : Wrote} {n : ℕ} → answer ≡ Some n → ¬ (answer ≡ None)
not_full p q = let z : ◌≡◌ {A = ℕ} 0 1 = cc in omega arith

-- ---- Whatever the buffer holds, some text was written there

-- one byte more than it holds
more_written : (out : Text) → Writes (out ++ (0 ∷ [])) out out None
more_written out =
    let longer : length out < length (out ++ (0 ∷ [])) = rw length-append (omega arith) in
    record {
      buffer_is = sym (overlay_over (out ++ (0 ∷ [])) out (omega (arith, longer)) ∙ take-append_seam out (0 ∷ []));
      answer_is = sym (wrote_over (out ++ (0 ∷ [])) out longer);
    }

some_written : (wrote : Wrote) (out : Text) → Fitted wrote out → (text : Text) × Writes text out out wrote
some_written (Some n) out within = (take n out, front_written n out (within.within n refl))
some_written None out within = (out ++ (0 ∷ []), more_written out)

-- What a writer leaves: a book with the entries that it was given, and what was written lies within the buffer.
pub record Left (done : Done) (after : Text) (r : Done) : Type 0 where
  pub over : BookOver 4096 r.book
  pub same_entries : SameEntries done.book r.book
  pub within : WithinBuffer r after

module _ {bytes deck : Text} where
  -- the text, the book and the count by other names
  pub progress_is :
      {w w' : Written} {k k' : ℕ} {b : Book} {before after : Text} {r : Done}
      → w ≡ w'
      → k ≡ k'
      → Progress bytes deck w k b before after r
      → Progress bytes deck w' k' b before after r
  progress_is {b = b} {before = before} {after = after} {r = r} e f = subst₂ (λ x n. Progress bytes deck x n b before after r) e f

  pub behind_left :
      {l : Lens} {old : Option Text} {new mid after : Text} {done r : Done}
      → BookOver 4096 done.book
      → WithinBuffer done mid
      → LensBehind bytes deck l old new done mid after r
      → Left done after r
  behind_left {l} {old} {new} {mid} {after} {done} {r} over within behind =
      let (text, before) = some_written done.wrote mid within in
      let w : Written = record { text = text; book = unused (trees bytes) deck done.book } in
      let p =
      behind.progress w done.met done.book mid (record { bytes_are = before; met_is = refl; book_is = λ h. refl; over = over; same_entries = same_all done.book })
      in
      record {
        over = p.over;
        same_entries = p.same_entries;
        within = record { within = λ n is. writes_within _ mid after n (rw is at p.bytes_are) };
      }

  -- what is written at the lens that a node is, is written at the node
  pub at_node :
      {node : ℕ} {old : Option Text} {new mid after : Text} {done r : Done} (l : Lens)
      → tree_at (trees bytes) node ≡ lens l
      → LensBehind bytes deck l old new done mid after r
      → WritesBehind bytes node deck old new done mid after r
  at_node {old = old} {new = new} {mid = mid} {after = after} {done = done} {r = r} l e w =
      record { writes = λ m f. subst (λ k. LensBehind bytes deck k old new done mid after r) (same_lens l m (sym e ∙ f)) w }

  -- what is put onto the text at a place is written where the old text is that one,
  pub old_put :
      {node : ℕ} {old : Old} {p : Place} {new mid after : Text} {done r : Done}
      → old ≡ Some p
      → WritesBehind bytes node deck (some (part_at deck p)) new done mid after r
      → WritesBehind bytes node deck (old_text deck old) new done mid after r
  unfolding old_text
  old_put e w = rw e w

  -- and what is created, where there is none
  pub old_created :
      {node : ℕ} {old : Old} {new mid after : Text} {done r : Done}
      → old ≡ None
      → WritesBehind bytes node deck none new done mid after r
      → WritesBehind bytes node deck (old_text deck old) new done mid after r
  unfolding old_text
  old_created e w = rw e w

  -- a lens that writes the same with every book, and meets the same matches
  pub behind_same :
      {l m : Lens} {old old' : Option Text} {new mid after : Text} {done r : Done}
      → ((b : Entries) → write l old new b ≡ write m old' new b)
      → met l old new ≡ met m old' new
      → LensBehind bytes deck m old' new done mid after r
      → LensBehind bytes deck l old new done mid after r
  behind_same same meets behind =
      record { progress = λ w k b before p. progress_is (sym (then_same w same)) (ap (λ ms. k + length ms) (sym meets)) (behind.progress w k b before p) }

  -- behind a text that did not fit, any step is the same
  progress_full :
      (w w' : Written) (next next' : Entries → Written) {k : ℕ} {b : Book} {before mid after : Text} {r : Done}
      → w.text ≡ w'.text
      → Writes w'.text before mid None
      → Progress bytes deck (and_then w next) k b before after r
      → Progress bytes deck (and_then w' next') k b before after r
  unfolding and_then
  progress_full w w' next next' {before = before} {mid = mid} {after = after} {r = r} text_is first p =
      let (after_is, full) = full_stays w'.text (next w.book).text before mid after r.wrote first (rw text_is at p.bytes_are) in
      record {
        bytes_are = rw (after_is, full) (writes_full w'.text (next' w'.book).text before mid first);
        met_is = p.met_is;
        book_is = λ h. absurd (h full);
        over = p.over;
        same_entries = p.same_entries;
      }

  -- another step behind the same text, which is the same where there was room
  pub progress_swap :
      (w w' : Written) (next next' : Entries → Written) {k : ℕ} {b : Book} {before mid after : Text} {wrote : Wrote} {r : Done}
      → w.text ≡ w'.text
      → Writes w'.text before mid wrote
      → (¬ (wrote ≡ None) → next w.book ≡ next' w'.book)
      → Progress bytes deck (and_then w next) k b before after r
      → Progress bytes deck (and_then w' next') k b before after r
  progress_swap w w' next next' {k} {b} {before} {mid} {after} {wrote} {r} text_is first same p = go wrote refl
    where
      go : (answer : Wrote) → wrote ≡ answer → Progress bytes deck (and_then w' next') k b before after r
      go (Some n) e = progress_is (then_swap w w' next next' text_is (same (not_full e))) refl p
      go None e = progress_full w w' next next' text_is (rw e at first) p

  known_behind :
      (w : Written) (t : Text) {k m : ℕ} {b : Book} {before after : Text} {r : Wrote} {left : Book}
      → BookOver 4096 left
      → SameEntries b left
      → wrapped m ≡ wrapped k
      → Writes (w.text ++ t) before after r
      → Progress bytes deck (and_then w (λ any. record { text = t; book = unused (trees bytes) deck left })) k b before after (record { wrote = r; book = left; met = m })
  unfolding and_then
  known_behind w t over same counted writes = record { bytes_are = writes; met_is = counted; book_is = λ room. refl; over = over; same_entries = same }

  -- a step of which it is known what it writes with the book that is left, what it leaves, and how many matches it meets
  pub text_behind :
      (next : Entries → Written) (t : Text) (n : ℕ) {mid after : Text} {done : Done} {r : Wrote} {left : Book} {m : ℕ}
      → next (unused (trees bytes) deck done.book) ≡ record { text = t; book = unused (trees bytes) deck left }
      → BookOver 4096 left
      → SameEntries done.book left
      → m ≡ (done.met + n) % 2 ^ 64
      → ((text before : Text) → Writes text before mid done.wrote → Writes (text ++ t) before after r)
      → (w : Written) (k : ℕ) (b : Book) (before : Text)
      → Progress bytes deck w k b before mid done
      → Progress bytes deck (and_then w next) (k + n) b before after (record { wrote = r; book = left; met = m })
  text_behind next t n {done = done} {left = left} is over same m_is writes w k b before p =
      let known : Entries → Written = λ any. record { text = t; book = unused (trees bytes) deck left } in
      progress_swap
      w
      w
      known
      next
      refl
      p.bytes_are
      (λ room. sym (ap next (sym (p.book_is room)) ∙ is))
      (known_behind w t over (same_then p.same_entries same) (counted_more done.met k n p.met_is m_is) (writes w.text before p.bytes_are))
