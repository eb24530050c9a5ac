-- Sets that are kept beside a text, byte by byte and block by block: what the loops backward cite. Assumes nothing.
use mathlib.Core.Path.{◌≡◌, refl, subst}
use mathlib.Core.List.{List}
use mathlib.Core.Logic.{⊎_elim}
use Prim.Native.Nat.{ℕ, suc, ◌-◌, ◌*◌, ◌≤◌, ◌<◌, min}
use native.Mathlib.Omega.{arith}
use borrow.Author.Tests.{eqb-true, eqb-false}
use lib.Dec.{eqb}
use lib.ListN.{length, get_or, drop}
use lib.Seq.{drop-cons, drop-length}
use Rattle.semantics.specs.Text.{Text}
use Rattle.laws.specs.Basics.{bool_cases}
use Rattle.positions.specs.declared.Set.{Set}
use Rattle.automaton.specs.declared.Automaton.{Automaton}
use Rattle.automaton.specs.Rows.{Room}
use Rattle.language.specs.Runs.{SteppedBack}
use Rattle.language.proofs.Steps.{behind_begins}
use Rattle.language.specs.Sets.{Stored}
use Rattle.paths.specs.Finding.{Filled, BehindAt, block_end, Marked}

module _ {prepared : List ℕ} {a : Automaton} {text : Text} where
  -- Behind the whole text stands nothing.
  pub behind_end : Room a prepared → BehindAt prepared a text (length text) a.last
  behind_end room = record { behind = λ r d. rw (drop-length text) (behind_begins room d) }

  -- One byte back.
  pub behind_more : {i k : ℕ} {s t : Set} → k ≡ suc i → i < length text → BehindAt prepared a text k s → SteppedBack prepared a (get_or text i 0) s t → BehindAt prepared a text i t
  behind_more {i} e h known step =
      record { behind = λ r d. rw (drop-cons text i 0 h) (step.stepped r d (drop (suc i) text) (rw e at (known.behind r d))) }

  -- ---- The sets behind the bytes of a block

  pub filled_none : {start end : ℕ} {sets : List ℕ} → Filled prepared a text start end end sets
  filled_none = record { behind = λ r d j l h. absurd (omega arith) }

  pub filled_more :
      {start i k end : ℕ} {s : Set} {before after : List ℕ} → k ≡ suc i → start ≤ i → Filled prepared a text start k end before → BehindAt prepared a text k s
      → Stored before (i - start) s after → Filled prepared a text start i end after
  filled_more {start} {i} k-is inside known here stored =
      record {
        behind = λ r d j l h.
            ⊎_elim
            (λ e. rw (eqb-true j i e, ← k-is, stored.stored) (here.behind r d))
            (λ e. let ne = eqb-false j i e in rw (stored.kept (j - start) (λ z. ne (omega arith))) (known.behind r d j (omega arith) h))
            (bool_cases (eqb j i));
      }

  -- all of them are kept
  pub filled_all :
      {start i end : ℕ} {s : Set} {sets : List ℕ} → i ≡ start → BehindAt prepared a text i s → Filled prepared a text start i end sets
      → BehindAt prepared a text start s × Filled prepared a text start start end sets
  filled_all {start} {end = end} {s = s} {sets = sets} e behind filled =
      (subst (λ (n : ℕ). BehindAt prepared a text n s) e behind, subst (λ (n : ℕ). Filled prepared a text start n end sets) e filled)

  -- ---- The sets behind the blocks

  -- a set behind some place, where the place is written otherwise
  behind_same : {m n : ℕ} {s : Set} → m ≡ n → BehindAt prepared a text m s → BehindAt prepared a text n s
  behind_same {s = s} e = subst (λ (k : ℕ). BehindAt prepared a text k s) e

  -- past the last block the text ends, and a block begins where the one before ends
  pub behind_whole : (k : ℕ) {s : Set} → length text ≤ 256 * k → BehindAt prepared a text (length text) s → BehindAt prepared a text (min (256 * k) (length text)) s
  behind_whole k few = behind_same (omega arith)

  pub behind_start : (k : ℕ) {s : Set} → 256 * k ≤ length text → BehindAt prepared a text (256 * k) s → BehindAt prepared a text (min (256 * k) (length text)) s
  behind_start k inside = behind_same (omega arith)

  pub behind_block : {k n e : ℕ} {s : Set} → n ≡ suc k → e ≡ block_end (length text) k → BehindAt prepared a text (min (256 * n) (length text)) s → BehindAt prepared a text e s
  behind_block n_is e-is = behind_same (omega arith)

  pub marked_none : {k : ℕ} {marks : List ℕ} → length text ≤ 256 * k → Marked prepared a text k marks
  marked_none few = record { behind = λ j l h. absurd (omega arith) }

  pub marked_more :
      {k n : ℕ} {s : Set} {before after : List ℕ} → n ≡ suc k → Marked prepared a text n before → BehindAt prepared a text (min (256 * n) (length text)) s
      → Stored before k s after → Marked prepared a text k after
  marked_more {k} e known here stored =
      record {
        behind = λ j l h.
            ⊎_elim
            (λ z. rw (eqb-true j k z, stored.stored) (behind_block e refl here))
            (λ z. let ne = eqb-false j k z in rw (stored.kept j ne) (known.behind j (omega arith) h))
            (bool_cases (eqb j k));
      }

  -- those from a later block on are among them
  pub marked_from : {k n : ℕ} {marks : List ℕ} → k ≤ n → Marked prepared a text k marks → Marked prepared a text n marks
  marked_from less known = record { behind = λ j l h. known.behind j (omega arith) h }
