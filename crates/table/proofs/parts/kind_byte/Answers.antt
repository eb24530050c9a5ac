-- `table::parts::kind_byte` meets its contract: the kind byte stands at 3 + k.
use Rattle.semantics.specs.Table.{at, node_at}
use Rattle.laws.specs.RightSizes.{right_of}
use mathlib.Core.Path.{refl}
use native.Mathlib.Omega.{arith}
use Rattle.table.proofs.parts.kind_byte.Goals as goal

pub overflow_add-result : goal.overflow_add-result
overflow_add-result c = let h = right_of c.args.bytes.now c.requires.sizes_right in omega arith

pub bounds-bytes-k : goal.bounds-bytes-k
bounds-bytes-k c = let h = right_of c.args.bytes.now c.requires.sizes_right in omega arith

pub returns : goal.returns
unfolding node_at at
returns c = refl
