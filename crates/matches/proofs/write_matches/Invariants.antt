use Rattle.plains.proofs.Parts.{Parting}
use Rattle.std.specs.Prelude.{None}
use Rattle.std.proofs.Common.{◌≡◌, ◌-◌, length}
use Rattle.matches.proofs.write_matches.Given as goal

abbrev pub invariant-loop-o : goal.invariant-loop-o
invariant-loop-o l =
    Parting
    l.bytes
    l.prepared
    l.child
    l.part.base
    l.ends.last
    l.ends.first
    l.ends
    l.new
    l.deck
    None
    (record { wrote = l.initial.wrote; book = l.initial.book; met = l.initial.met })
    l.initial.out
    l.path
    None
    l.o
    l.out
    (record { wrote = l.wrote; book = l.book; met = l.met })
    × (length l.path ≡ length l.initial.path)
    × (length l.card ≡ length l.initial.card)
    × (length l.out ≡ length l.initial.out)

abbrev pub decreases-loop-o : goal.decreases-loop-o
decreases-loop-o l = length l.new - l.o
