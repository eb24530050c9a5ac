-- `builder::build::build_star` meets its contract. Assumes nothing.
use Rattle.builder.proofs.Parts.{star_built}
use Rattle.builder.proofs.build.build_star.Goals as goal

pub returns : goal.returns
returns c = star_built c.args.slot.node c.args.slot.side c.args.slot.row c.args.part _ _ _ c.requires.space.a_node c.requires.space.few c.requires.below.below c.copy_rows.ensures c.put_header.ensures
