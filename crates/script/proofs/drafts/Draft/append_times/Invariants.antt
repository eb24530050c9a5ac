use Rattle.std.proofs.Common.{◌≡◌, ◌+◌, ◌*◌, ◌-◌, min, length}
use Rattle.script.proofs.drafts.Draft.append_times.Given as goal

abbrev pub invariant-loop : goal.invariant-loop
invariant-loop l =
    (length l.self.buffer.now ≡ length l.initial.self.buffer.now) × (l.self.count ≡ l.initial.self.count + min (l.counter * length l.more) (length l.initial.self.buffer.now - l.initial.self.count))
