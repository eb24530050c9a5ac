-- `meanings::text_refused` meets its contract, by the number. Assumes nothing.
use Rattle.std.proofs.Common.{◌∙◌, ne_eqb}
use Rattle.meanings.proofs.TextBytes.{refused_else, refused_sizes}
use Rattle.meanings.proofs.text_refused.Goals as goal

pub returns-then-number-eq1 : goal.returns-then-number-eq1
returns-then-number-eq1 c = c.is_text.ensures ∙ refused_sizes c.args.number c.args.table.now c.if-number-eq1.true

pub returns-else-number-eq1 : goal.returns-else-number-eq1
returns-else-number-eq1 c = ne_eqb c.args.number 1 c.if-number-eq1.false ∙ refused_else c.args.number c.args.table.now c.if-number-eq1.false
