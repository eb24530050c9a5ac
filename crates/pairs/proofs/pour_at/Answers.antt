-- `pairs::pour_at` meets its contract. Assumes nothing.
use native.Mathlib.Omega.{arith}
use Rattle.laws.specs.Basics.{not_both}
use Rattle.pairs.proofs.Spreads.{found_by, poured_nothing, poured_row}
use Rattle.pairs.proofs.pour_at.Goals as goal

pub row-requires : goal.row-requires
row-requires c = omega (arith, c.requires)

pub row-requires-2 : goal.row-requires-2
row-requires-2 c = omega (arith, c.requires)

pub returns-then-is_empty : goal.returns-then-is_empty
returns-then-is_empty c = λ xs there. poured_nothing (found_by _ _ _ c.row.ensures c.row-2.ensures c.intersect.ensures c.minus-found.ensures) (c.is_empty.ensures.0 c.if-is_empty.true)

pub gain-requires : goal.gain-requires
gain-requires c = omega (arith, c.requires)

pub returns : goal.returns
returns c =
    λ xs there.
    poured_row
    (found_by _ _ _ c.row.ensures c.row-2.ensures c.intersect.ensures c.minus-found.ensures)
    there
    (λ e. not_both (c.is_empty.ensures.1 e) c.if-is_empty.false)
    c.gain.ensures
    c.with.ensures
