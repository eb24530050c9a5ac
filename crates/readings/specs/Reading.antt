-- What Get and Create have in common, as the text of a call.
use Rattle.std.specs.Prelude.{ℕ}
use Rattle.semantics.specs.Text.{Text}
use Rattle.semantics.specs.Calls.{refuse_if, program, with_program, too_long, not_of, output}
use Rattle.semantics.specs.Calls.{Answer as Outcome}
use Rattle.lens.specs.declared.Mode.{Mode}
use Rattle.lens.specs.Reading.{reading, mode_side}

-- What the root reads off a text: 12 if that is too long, and the number that is handed over if it does not belong to the root.
unfoldable pub read_call : Text → Mode → ℕ → Text → ℕ → Outcome Text
read_call bytes mode number t lent =
    with_program (program bytes) (λ l. refuse_if (too_long t) 12 (refuse_if (not_of (mode_side mode) l t) number (output lent (reading mode l t))))
