-- `lens::Mode::side` meets its contract. Assumes nothing.
use mathlib.Core.Logic.{inl, inr}
use Rattle.lens.specs.Emitting.{side_for}
use Rattle.lens.proofs.Mode.side.Goals as goal

pub returns-in-Get : goal.returns-in-Get
unfolding side_for
returns-in-Get c = elim c.in-Get.is [ inl e ↦ rw e | inr e ↦ rw e ]

pub returns-in-Key : goal.returns-in-Key
unfolding side_for
returns-in-Key c = rw c.in-Key.is

pub returns-in-Create : goal.returns-in-Create
unfolding side_for
returns-in-Create c = rw c.in-Create.is
