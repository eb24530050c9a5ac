-- `lens::read::emit_key` meets its contract. Assumes nothing.
use mathlib.Core.Path.{sym, ◌∙◌}
use Rattle.lens.proofs.read.emit_key.Goals as goal

pub returns-then-is_keyed : goal.returns-then-is_keyed
returns-then-is_keyed c = rw (sym c.is_keyed.ensures ∙ c.if-is_keyed.true) c.write_key.ensures

pub returns : goal.returns
returns c = rw (sym c.is_keyed.ensures ∙ c.if-is_keyed.false) c.write_text.ensures
