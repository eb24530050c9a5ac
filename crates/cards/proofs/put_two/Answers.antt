-- `cards::put_two` meets its contract. Assumes nothing.
use mathlib.Core.Path.{◌∙◌}
use mathlib.Core.List.{append_assoc}
use Prim.Native.Nat.{◌+◌}
use native.Mathlib.Numerals.{add-one}
use native.Mathlib.Omega.{arith}
use lib.ListN.{take, drop, length-set}
use lib.Seq.{sets-eq}
use Rattle.books.specs.Cards.{two_bytes}
use Rattle.cards.proofs.put_two.Goals as goal

pub bounds-card-at-2 : goal.bounds-card-at-2
bounds-card-at-2 c = simp length-set (omega arith)

pub returns : goal.returns
returns c =
    rw
    add-one
    (sets-eq (two_bytes c.args.number) c.args.card.now c.args.at (omega arith)
    ∙ append_assoc (take c.args.at c.args.card.now) (two_bytes c.args.number) (drop (c.args.at + 2) c.args.card.now))
