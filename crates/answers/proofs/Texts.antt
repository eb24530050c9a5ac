-- The texts that belong to the root.
use mathlib.Core.Path.{◌≡◌}
use mathlib.Core.Bool.{Bool, true}
use mathlib.Core.List.{List}
use Prim.Native.Nat.{ℕ, ◌≤◌}
use lib.ListN.{length}
use Rattle.semantics.specs.Text.{Text}
use Rattle.semantics.specs.Calls.{max_text}
use Rattle.automaton.specs.declared.Side.{Side}
use Rattle.automaton.specs.Rows.{side_of}
use Rattle.answers.specs.Results.{RootPath, TextReady}

-- a text whose path was found belongs to the root
pub text_ready :
    {bytes text : Text} {side : Side} {path : List ℕ} {found : Bool}
    → length text ≤ max_text
    → RootPath bytes side text path found
    → found ≡ true
    → TextReady bytes (side_of side) text path
text_ready short root told = record { short = short; parsed = root.parsed told }
