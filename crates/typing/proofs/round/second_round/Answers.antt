-- `typing::round::second_round` meets its contract. The invariant of the loop: the nodes so far have passed.
use native.Mathlib.Omega.{arith}
use borrow.Author.Rules.{rules}
use mathlib.Core.Path.{◌≡◌}
use Rattle.std.specs.Prelude.{Err}
use Rattle.typing.proofs.Faults.{sizes}
use Rattle.typing.proofs.Turns.{passed_begins, passed_more, passed_refused, passed_all}
use Rattle.typing.proofs.round.second_round.Goals as goal

pub node_count-k-end-requires : goal.node_count-k-end-requires
node_count-k-end-requires c = let h = sizes c.requires in omega arith

pub loop-k-init : goal.loop-k-init
loop-k-init c = passed_begins c.node_count-k-end.ensures

pub node_fault-requires : goal.node_fault-requires
node_fault-requires c = record { built = c.requires; k_bound = omega arith }

pub loop-k-preserved : goal.loop-k-preserved
loop-k-preserved c = passed_more c.loop-k.invariant c.loop-k-test.true c.node_fault.ensures c.in_ok-node_fault.was

pub returns-in_err-node_fault : goal.returns-in_err-node_fault
returns-in_err-node_fault c = let e : c.from_residual.result ≡ Err c.in_err-node_fault.field-0.0 = search rules in rw e (passed_refused c.loop-k.invariant c.loop-k-test.true c.node_fault.ensures c.in_err-node_fault.was)

pub returns : goal.returns
returns c = passed_all c.loop-k.invariant c.loop-k-test.false
