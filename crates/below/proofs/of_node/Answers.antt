-- `below::of_node` meets its contract. Assumes nothing.
use Rattle.below.proofs.Lower.{leaf_stands, join_stands, union_stands, repeat_stands, match_stands, join_room, union_room, repeat_room, match_room}
use Rattle.below.proofs.of_node.Goals as goal

pub over_two-requires : goal.over_two-requires
over_two-requires c = join_room c.node.ensures c.args.below.now c.requires.all_sized.0 c.requires.all_sized.1 c.requires.below_to.1 c.in-LensJoin.is

pub over_two-requires-in-LensUnion : goal.over_two-requires-in-LensUnion
over_two-requires-in-LensUnion c = union_room c.node.ensures c.args.below.now c.requires.all_sized.0 c.requires.all_sized.1 c.requires.below_to.1 c.in-LensUnion.is

pub over_parts-requires : goal.over_parts-requires
over_parts-requires c = repeat_room c.node.ensures c.args.below.now c.requires.all_sized.0 c.requires.all_sized.1 c.requires.below_to.1 c.in-LensRepeat.is

pub over_child-requires : goal.over_child-requires
over_child-requires c = match_room c.node.ensures c.args.below.now c.requires.all_sized.0 c.requires.all_sized.1 c.requires.below_to.1 c.in-Match.is

pub returns-in-LensJoin : goal.returns-in-LensJoin
returns-in-LensJoin c = join_stands c.node.ensures c.requires.below_to.0 c.in-LensJoin.is c.over_two.ensures

pub returns-in-LensUnion : goal.returns-in-LensUnion
returns-in-LensUnion c = union_stands c.node.ensures c.requires.below_to.0 c.in-LensUnion.is c.over_two-in-LensUnion.ensures

pub returns-in-LensRepeat : goal.returns-in-LensRepeat
returns-in-LensRepeat c = repeat_stands c.node.ensures c.requires.below_to.0 c.in-LensRepeat.is c.over_parts.ensures

pub returns-in-Match : goal.returns-in-Match
returns-in-Match c = match_stands c.node.ensures c.requires.below_to.0 c.in-Match.is c.over_child.ensures

pub returns-in_default : goal.returns-in_default
returns-in_default c = leaf_stands c.node.ensures c.in_default.not-LensJoin c.in_default.not-LensUnion c.in_default.not-LensRepeat c.in_default.not-Match c.nothing.ensures.0 c.nothing.ensures.1 c.nothing.ensures.2
