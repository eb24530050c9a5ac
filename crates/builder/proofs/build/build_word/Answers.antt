-- `builder::build::build_word` meets its contract. Assumes nothing.
use Rattle.builder.proofs.Parts.{word_built}
use Rattle.builder.proofs.build.build_word.Goals as goal

pub returns : goal.returns
returns c = word_built c.args.slot.node c.args.slot.side c.args.slot.row c.args.letters.now _ _ _ _ c.single.result c.last_of.result c.requires.a_node c.is_empty.ensures c.single.ensures c.last_of.ensures c.put_letters.ensures c.put_header.ensures
