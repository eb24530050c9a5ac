-- `builder::program::parts_of` meets its contract. Assumes nothing.
use mathlib.Core.Path.{refl, ap}
use Rattle.builder.specs.declared.program.Parts.TheVariants.{Same}
use Rattle.builder.proofs.program.parts_of.Goals as goal

pub returns-in-Word : goal.returns-in-Word
returns-in-Word c = rw c.in-Word.is refl

pub returns-in-OneOf : goal.returns-in-OneOf
returns-in-OneOf c = rw c.in-OneOf.is refl

pub returns-in-PatternJoin : goal.returns-in-PatternJoin
returns-in-PatternJoin c = rw c.in-PatternJoin.is refl

pub returns-in-PatternUnion : goal.returns-in-PatternUnion
returns-in-PatternUnion c = rw c.in-PatternUnion.is refl

pub returns-in-PatternRepeat : goal.returns-in-PatternRepeat
returns-in-PatternRepeat c = rw c.in-PatternRepeat.is refl

pub returns-in-Copy : goal.returns-in-Copy
returns-in-Copy c = rw c.in-Copy.is refl

pub returns-in-Const : goal.returns-in-Const
returns-in-Const c = rw c.in-Const.is (ap Same c.const_part.ensures)

pub returns-in-Key : goal.returns-in-Key
returns-in-Key c = rw c.in-Key.is refl

pub returns-in-LensJoin : goal.returns-in-LensJoin
returns-in-LensJoin c = rw c.in-LensJoin.is refl

pub returns-in-LensUnion : goal.returns-in-LensUnion
returns-in-LensUnion c = rw c.in-LensUnion.is refl

pub returns-in-LensRepeat : goal.returns-in-LensRepeat
returns-in-LensRepeat c = rw c.in-LensRepeat.is refl

pub returns-in-Match : goal.returns-in-Match
returns-in-Match c = rw c.in-Match.is refl
