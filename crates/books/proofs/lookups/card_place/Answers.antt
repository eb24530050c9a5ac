-- `books::lookups::card_place` meets its contract. Assumes nothing.
use Prim.Native.Nat.{◌+◌, ◌*◌}
use native.Mathlib.Omega.{arith}
use Rattle.books.proofs.lookups.card_place.Goals as goal

pub overflow_cast-result : goal.overflow_cast-result
overflow_cast-result c = omega (arith, c.type_inv.deck (8448 + 3 * c.args.i))

pub overflow_mul-result : goal.overflow_mul-result
overflow_mul-result c = omega (arith, c.type_inv.deck (8448 + 3 * c.args.i))

pub overflow_cast-result-2 : goal.overflow_cast-result-2
overflow_cast-result-2 c = omega (arith, c.shared_slice_known-1.given (8448 + 3 * c.args.i), c.shared_slice_known-2-1.given (8448 + 3 * c.args.i + 1))

pub overflow_mul-result-2 : goal.overflow_mul-result-2
overflow_mul-result-2 c = omega (arith, c.shared_slice_known-1.given (8448 + 3 * c.args.i), c.shared_slice_known-2-1.given (8448 + 3 * c.args.i + 1))

pub overflow_add-result-2 : goal.overflow_add-result-2
overflow_add-result-2 c = omega (arith, c.shared_slice_known-1.given (8448 + 3 * c.args.i), c.shared_slice_known-2-1.given (8448 + 3 * c.args.i + 1))

pub overflow_cast-result-3 : goal.overflow_cast-result-3
overflow_cast-result-3 c = omega (arith, c.shared_slice_known-1.given (8448 + 3 * c.args.i), c.shared_slice_known-2-1.given (8448 + 3 * c.args.i + 1), c.shared_slice_known-3-1.given (8448 + 3 * c.args.i + 2))

pub overflow_add-result-4 : goal.overflow_add-result-4
overflow_add-result-4 c = omega (arith, c.shared_slice_known-1.given (8448 + 3 * c.args.i), c.shared_slice_known-2-1.given (8448 + 3 * c.args.i + 1), c.shared_slice_known-3-1.given (8448 + 3 * c.args.i + 2))
