-- `below::at_node` meets its contract. Assumes nothing.
use Rattle.below.proofs.at_node.Goals as goal

pub returns : goal.returns
returns c = rw (c.set_at.ensures, c.has_union.ensures, c.even_count.ensures)
