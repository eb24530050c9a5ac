-- `clashes::clash_refused` meets its contract: 1 to 6 come through, 17 is for a buffer that is too short. Assumes nothing.
use native.Mathlib.Omega.{arith}
use Rattle.clashes.proofs.Answering.{node_inside, broken_at, low_refusal, too_long_lem, given_clash}
use Rattle.clashes.proofs.clash_refused.Goals as goal

pub returns-then-refusal-lt7 : goal.returns-then-refusal-lt7
returns-then-refusal-lt7 c = low_refusal c.args.bytes.now c.requires.refuses_it _ c.if-refusal-lt7.true

pub show-shown-requires : goal.show-shown-requires
show-shown-requires c = record { built = (c.requires.built c.if-refusal-lt7.false, node_inside c.args.bytes.now c.requires.refuses_it c.if-refusal-lt7.false); broken_at = broken_at c.args.bytes.now c.requires.refuses_it c.if-refusal-lt7.false _ c.side_of.ensures }

pub returns-then-out-shown : goal.returns-then-out-shown
returns-then-out-shown c = too_long_lem c.args.bytes.now c.requires.refuses_it _ c.if-refusal-lt7.false c.side_of.ensures c.show-shown.ensures (omega (arith, c.if-out-shown.true))

pub returns : goal.returns
returns c = given_clash c.args.bytes.now c.requires.refuses_it _ c.if-refusal-lt7.false c.side_of.ensures c.show-shown.ensures (omega (arith, c.if-out-shown.false))
