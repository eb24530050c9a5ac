-- What a node writes behind what was written where no entry answers, and how many matches it meets, in terms of the definitions.
use Rattle.std.specs.Prelude.{◌≡◌, ℕ, ◌+◌, ◌%◌, ◌^◌, ◌≤◌, ◌++◌, length}
use Rattle.std.proofs.Math.Option.{Option}
use Rattle.semantics.specs.Text.{Text}
use Rattle.semantics.specs.Lens.{Lens}
use Rattle.semantics.specs.Table.{trees, tree_at, lens}
use Rattle.semantics.specs.Tally.{met}
use Rattle.laws.specs.Bookless.{plain}
use Rattle.texts.specs.Overlay.{Wrote}
use Rattle.std.specs.Prelude.{Some}
use Rattle.texts.specs.Overlay.{Writes}
use Rattle.counted.specs.declared.Plain.{Plain}

-- So many matches are met at a node.
pub record MeetsThere (bytes : Text) (node : ℕ) (old : Option Text) (new : Text) (matches : ℕ) : Type 0 where
  pub meets : (l : Lens) → tree_at (trees bytes) node ≡ lens l → length (met l old new) ≡ matches

-- What was written lies within the buffer.
pub record Fitted (wrote : Wrote) (out : Text) : Type 0 where
  pub within : (n : ℕ) → wrote ≡ Some n → n ≤ length out

-- What a node writes where no entry answers, behind whatever was written before.
pub record WritesNext (bytes : Text) (node : ℕ) (old : Option Text) (new : Text) (wrote : Wrote) (mid after : Text) (r : Wrote) : Type 0 where
  pub writes :
      (l : Lens)
      → tree_at (trees bytes) node ≡ lens l
      → (text before : Text)
      → Writes text before mid wrote
      → Writes (text ++ plain l old new) before after r

-- What a node that meets so many matches writes where no entry answers.
pub record MeetsNext (bytes : Text) (node : ℕ) (old : Option Text) (new : Text) (matches : ℕ) (plain : Plain) (mid after : Text) (r : Plain) : Type 0 where
  pub next : WritesNext bytes node old new plain.wrote mid after r.wrote
  pub counted : r.met ≡ (plain.met + matches) % 2 ^ 64
