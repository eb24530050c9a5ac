-- `table::sizes::kind_from` meets its contract: the kind of a tag, with its operands.
use Rattle.table.specs.Rules.{decoded, named}
use Rattle.semantics.specs.Table.{two}
use native.Mathlib.Omega.{arith}
use Rattle.table.proofs.sizes.kind_from.Goals as goal

pub overflow_add-result : goal.overflow_add-result
unfolding two
overflow_add-result c = omega arith

pub returns-in-Word : goal.returns-in-Word
unfolding decoded named
returns-in-Word c = rw c.in-Word.is (cc)

pub returns-in-Range : goal.returns-in-Range
unfolding decoded named
returns-in-Range c = rw c.in-Range.is (cc)

pub returns-in-PatternJoin : goal.returns-in-PatternJoin
unfolding decoded named
returns-in-PatternJoin c = rw c.in-PatternJoin.is (cc)

pub returns-in-PatternUnion : goal.returns-in-PatternUnion
unfolding decoded named
returns-in-PatternUnion c = rw c.in-PatternUnion.is (cc)

pub returns-in-PatternRepeat : goal.returns-in-PatternRepeat
unfolding decoded named
returns-in-PatternRepeat c = rw c.in-PatternRepeat.is (cc)

pub returns-in-Set : goal.returns-in-Set
unfolding decoded named
returns-in-Set c = rw c.in-Set.is (cc)

pub returns-in-Copy : goal.returns-in-Copy
unfolding decoded named
returns-in-Copy c = rw c.in-Copy.is (cc)

pub returns-in-Const : goal.returns-in-Const
unfolding decoded named
returns-in-Const c = rw c.in-Const.is (cc)

pub returns-in-Key : goal.returns-in-Key
unfolding decoded named
returns-in-Key c = rw c.in-Key.is (cc)

pub returns-in-LensJoin : goal.returns-in-LensJoin
unfolding decoded named
returns-in-LensJoin c = rw c.in-LensJoin.is (cc)

pub returns-in-LensUnion : goal.returns-in-LensUnion
unfolding decoded named
returns-in-LensUnion c = rw c.in-LensUnion.is (cc)

pub returns-in-LensRepeat : goal.returns-in-LensRepeat
unfolding decoded named
returns-in-LensRepeat c = rw c.in-LensRepeat.is (cc)

pub returns-in-Match : goal.returns-in-Match
unfolding decoded named
returns-in-Match c = rw c.in-Match.is (cc)
