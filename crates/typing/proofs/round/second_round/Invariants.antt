-- `typing::round::second_round` meets its contract. The invariant of the loop: the nodes so far have passed.
use Rattle.typing.proofs.Turns.{Passed}
use Rattle.typing.proofs.round.second_round.Given as goal

abbrev pub invariant-loop-k : goal.invariant-loop-k
invariant-loop-k l = Passed l.bytes l.k-end l.k
