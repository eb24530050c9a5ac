-- `language::lead_from` meets its contract. The loop's invariant: the sets of the positions that have come have q as well. Assumes nothing.
use Prim.Native.Nat.{◌+◌}
use Rattle.automaton.specs.Rows.{follow_of}
use Rattle.language.proofs.Leading.{LedOn}
use Rattle.language.proofs.lead_from.Given as goal

abbrev pub invariant-loop-p : goal.invariant-loop-p
invariant-loop-p l = LedOn l.fn.a.count (follow_of l.prepared (l.fn.a.start + l.q)) l.q l.p-iterator l.initial.leads l.leads
