-- `table::round::nests` meets its contract: a match whose child holds a match.
use Rattle.table.specs.Rules.{nests}
use Rattle.table.proofs.Measures.{no_nest}
use Rattle.table.proofs.round.nests.Goals as goal

pub sized-requires : goal.sized-requires
sized-requires c = (rw c.in-Match.is at c.requires).room

pub returns : goal.returns
unfolding nests
returns c = rw (c.in-Match.is, c.sized.ensures.match_is)

pub returns-in_default : goal.returns-in_default
returns-in_default c = no_nest c.args.prepared.now c.args.node.kind c.in_default.not-Match
