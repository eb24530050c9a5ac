-- The line that `lenscheck` prints, as the text of a call.
use Rattle.std.specs.Prelude.{ℕ}
use Rattle.semantics.specs.Text.{Text}
use Rattle.semantics.specs.Calls.{program, with_program, output, lenscheck_line}
use Rattle.semantics.specs.Calls.{Answer as Outcome}

-- The line of an accepted program as the text of a call: 16 if it is longer than the buffer, and another program's refusal comes through.
unfoldable pub line_call : Text → ℕ → Outcome Text
line_call bytes lent = with_program (program bytes) (λ l. output lent (lenscheck_line bytes))
