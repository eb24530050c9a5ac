-- `builder::build::build_class` meets its contract. Assumes nothing.
use Rattle.builder.proofs.Parts.{class_built}
use Rattle.builder.proofs.build.build_class.Goals as goal

pub returns : goal.returns
returns c = class_built c.args.slot.node c.args.slot.side c.args.slot.row _ c.of.result _ _ _ _ c.empty.result c.single-zero.result c.requires.a_node c.of.ensures c.empty.ensures c.single-zero.ensures c.put_class.ensures c.put_row.ensures c.put_header.ensures
