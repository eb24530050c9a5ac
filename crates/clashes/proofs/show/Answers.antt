-- `clashes::show` meets its contract, kind by kind. Assumes nothing.
use Rattle.table.specs.Prepared.{Shows}
use Rattle.typing.proofs.Faults.{shown, two_stand, repeat_stand, stands}
use Rattle.clashes.proofs.Others.{other_rule}
use Rattle.clashes.proofs.Lenses.{no_rule, join_at, join_asked, repeat_asked_at, repeat_shows, union_asked, union_shows}
use Rattle.clashes.proofs.show.Goals as goal

pub show_join-requires : goal.show_join-requires
unfolding Shows
show_join-requires c = let h = (shown c.node.ensures c.in-LensJoin.is) in let two = two_stand c.requires.built.0 c.requires.built.1 h in record { stands = (two.0, two.1, stands c.requires.built.0 c.requires.built.1); cut_asked = join_asked c.requires.built.0 c.requires.built.1 c.args.side h c.requires.broken_at }

pub show_union-requires : goal.show_union-requires
unfolding Shows
show_union-requires c = let h = (shown c.node.ensures c.in-LensUnion.is) in record { stands = two_stand c.requires.built.0 c.requires.built.1 h; arm_asked = union_asked c.requires.built.0 c.requires.built.1 c.args.side h c.requires.broken_at }

pub show_repeat-requires : goal.show_repeat-requires
unfolding Shows
show_repeat-requires c = let h = (shown c.node.ensures c.in-LensRepeat.is) in record { stands = repeat_stand c.requires.built.0 c.requires.built.1 h; list_asked = repeat_asked_at c.requires.built.0 c.requires.built.1 c.args.side h c.requires.broken_at }

pub returns-in-LensJoin : goal.returns-in-LensJoin
unfolding Shows
returns-in-LensJoin c = c.show_join.ensures _ _ (join_at c.requires.built.0 c.requires.built.1 c.args.side (shown c.node.ensures c.in-LensJoin.is))

pub returns-in-LensUnion : goal.returns-in-LensUnion
unfolding Shows
returns-in-LensUnion c = union_shows c.requires.built.0 c.requires.built.1 c.args.side (shown c.node.ensures c.in-LensUnion.is) c.show_union.ensures c.operand.ensures c.operand-in-LensUnion.ensures

pub returns-in-LensRepeat : goal.returns-in-LensRepeat
unfolding Shows
returns-in-LensRepeat c = repeat_shows c.requires.built.0 c.requires.built.1 c.args.side (shown c.node.ensures c.in-LensRepeat.is) c.show_repeat.ensures

pub returns-in_default : goal.returns-in_default
returns-in_default c =
    let other = c.in_default in
    no_rule _ _ _ (other_rule _ _ _ c.node.result.kind c.node.ensures.shows other.not-LensJoin other.not-LensUnion other.not-LensRepeat) c.empty.ensures
