-- `cards::seal` meets its contract. Assumes nothing.
use mathlib.Core.Path.{refl}
use native.Mathlib.Omega.{arith}
use Prim.Native.Nat.{◌<◌}
use Rattle.cards.proofs.Printing.{print_small}
use Rattle.cards.proofs.Sealing.{kept_within, sealed_key}
use Rattle.cards.proofs.seal.Goals as goal

pub overflow_add-n : goal.overflow_add-n
overflow_add-n c = omega (arith, c.requires.key_behind.within c.in-Some.n c.in-Some.is, c.requires.card_len)

pub slice_bounds-trimmed_length-end : goal.slice_bounds-trimmed_length-end
slice_bounds-trimmed_length-end c = c.requires.key_behind.within c.in-Some.n c.in-Some.is

pub overflow_add-len : goal.overflow_add-len
overflow_add-len c = omega (arith, kept_within c.args.card.now c.in-Some.n c.trimmed_length-kept.result c.trimmed_length-kept.ensures, c.requires.key_behind.within c.in-Some.n c.in-Some.is, c.requires.card_len)

pub slice_bounds-fingerprint-end : goal.slice_bounds-fingerprint-end
slice_bounds-fingerprint-end c = omega (arith, kept_within c.args.card.now c.in-Some.n c.trimmed_length-kept.result c.trimmed_length-kept.ensures, c.requires.key_behind.within c.in-Some.n c.in-Some.is)

pub put_two-requires : goal.put_two-requires
put_two-requires c = record { at_in_bounds = omega (arith, c.requires.card_len); number_bound = omega (arith, kept_within c.args.card.now c.in-Some.n c.trimmed_length-kept.result c.trimmed_length-kept.ensures, c.requires.key_behind.within c.in-Some.n c.in-Some.is, c.requires.card_len) }

pub overflow_cast-result : goal.overflow_cast-result
overflow_cast-result c = let small : c.fingerprint-print.result < 65536 = rw c.fingerprint-print.ensures (print_small _) in omega (arith, small)

pub returns-in-Some : goal.returns-in-Some
returns-in-Some c = rw c.in-Some.is (sealed_key c.args.card.now c.in-Some.n c.trimmed_length-kept.result c.fingerprint-print.result c.trimmed_length-kept.ensures c.fingerprint-print.ensures c.put_two.ensures)

pub returns-in-None : goal.returns-in-None
returns-in-None c = rw c.in-None.is (record { card_is = c.put_two-in-None.ensures; length_is = refl; print_is = refl })
