use Rattle.std.proofs.Common.{◌≡◌, ◌+◌, ◌-◌, min, length}
use Rattle.script.proofs.drafts.Draft.append.Given as goal

abbrev pub invariant-loop-byte : goal.invariant-loop-byte
invariant-loop-byte l =
    (length l.self.buffer.now ≡ length l.initial.self.buffer.now) × (l.self.count ≡ l.initial.self.count + min l.byte-index (length l.initial.self.buffer.now - l.initial.self.count))
