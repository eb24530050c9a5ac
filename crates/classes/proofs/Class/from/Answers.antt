-- `classes::Class::from` meets its contract: the first of the bytes stands in the lower half or in the upper one. Assumes nothing.
use native.Mathlib.Omega.{arith}
use Rattle.classes.proofs.Bytes.{from_low, from_high}
use Rattle.classes.proofs.Class.from.Goals as goal

pub returns-then-first-lt128 : goal.returns-then-first-lt128
returns-then-first-lt128 c = from_low _ c.args.first (omega arith) c.from.ensures c.from-then-first-lt128.ensures

pub returns : goal.returns
returns c = from_high _ c.args.first (omega arith) c.empty.ensures c.from-2.ensures
