-- Which refusals have a sentence.
use Rattle.std.specs.Prelude.{Bool, ◌&&◌, ℕ, leb}

-- The refusals of documents 01 and 02 from `first` on, up to 19; from 17 on they are document 02's.
unfoldable pub has_sentence : ℕ → ℕ → Bool
has_sentence first number = leb first number && leb number 19
