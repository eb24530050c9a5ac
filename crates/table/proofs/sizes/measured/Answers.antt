-- `table::sizes::measured` meets its contract: a node with its sizes, worked out from those of its children.
use Rattle.table.proofs.Measures.{smalls, worked, two_smalls, one_small, two_worked, one_worked}
use Rattle.table.proofs.sizes.measured.Goals as goal

pub kind_of-kind-requires : goal.kind_of-kind-requires
kind_of-kind-requires c = record { within = record { sizes_right = c.requires.sized_below.sized.sizes_right; inside = c.requires.sized_below.inside }; k_value = c.requires.k_value }

pub over_two-requires : goal.over_two-requires
over_two-requires c = let h = two_smalls c.in-PatternJoin.is (smalls c.args.bytes.now c.args.k c.args.prepared.now c.requires.sized_below c.kind_of-kind.result c.kind_of-kind.ensures) in record { small = h.0; small_2 = h.1 }

pub over_one-requires : goal.over_one-requires
over_one-requires c = one_small c.in-PatternRepeat.is (smalls c.args.bytes.now c.args.k c.args.prepared.now c.requires.sized_below c.kind_of-kind.result c.kind_of-kind.ensures)

pub over_const-requires : goal.over_const-requires
over_const-requires c = let h = rw c.in-Const.is at (smalls c.args.bytes.now c.args.k c.args.prepared.now c.requires.sized_below c.kind_of-kind.result c.kind_of-kind.ensures) in record { small = h.0; small_2 = h.1 }

pub over_match-requires : goal.over_match-requires
over_match-requires c = rw c.in-Match.is at (smalls c.args.bytes.now c.args.k c.args.prepared.now c.requires.sized_below c.kind_of-kind.result c.kind_of-kind.ensures)

pub returns-in-PatternJoin : goal.returns-in-PatternJoin
returns-in-PatternJoin c = two_worked c.args.bytes.now c.args.k c.args.prepared.now c.requires.sized_below c.over_two.result c.in-PatternJoin.is c.kind_of-kind.ensures (rw c.in-PatternJoin.kind-is at c.over_two.ensures)

pub returns-in-PatternRepeat : goal.returns-in-PatternRepeat
returns-in-PatternRepeat c = one_worked c.args.bytes.now c.args.k c.args.prepared.now c.requires.sized_below c.over_one.result c.in-PatternRepeat.is c.kind_of-kind.ensures (rw c.in-PatternRepeat.kind-is at c.over_one.ensures)

pub returns-in-Word : goal.returns-in-Word
returns-in-Word c = worked c.args.bytes.now c.args.k c.args.prepared.now c.requires.sized_below c.leaf.result _ (rw c.in-Word.is at c.kind_of-kind.ensures) c.leaf.ensures

pub returns-in-OneOf : goal.returns-in-OneOf
returns-in-OneOf c = worked c.args.bytes.now c.args.k c.args.prepared.now c.requires.sized_below c.leaf-in-OneOf.result _ (rw c.in-OneOf.is at c.kind_of-kind.ensures) (rw c.in-OneOf.is at c.leaf-in-OneOf.ensures)

pub returns-in-Const : goal.returns-in-Const
returns-in-Const c = worked c.args.bytes.now c.args.k c.args.prepared.now c.requires.sized_below c.over_const.result _ (rw c.in-Const.is at c.kind_of-kind.ensures) c.over_const.ensures

pub returns-in-Match : goal.returns-in-Match
returns-in-Match c = worked c.args.bytes.now c.args.k c.args.prepared.now c.requires.sized_below c.over_match.result _ (rw c.in-Match.is at c.kind_of-kind.ensures) c.over_match.ensures
