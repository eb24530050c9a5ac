-- `builder::build::alias` meets its contract. Assumes nothing.
use Rattle.builder.proofs.Parts.{alias_built}
use Rattle.builder.proofs.build.alias.Goals as goal

pub returns : goal.returns
returns c = alias_built c.args.node c.args.side c.args.other _ _ c.requires.a_node c.put_header.ensures
