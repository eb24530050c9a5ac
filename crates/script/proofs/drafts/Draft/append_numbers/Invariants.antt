use Rattle.std.proofs.Common.{◌≡◌, ◌≤◌, length}
use Rattle.script.proofs.drafts.Draft.append_numbers.Given as goal

abbrev pub invariant-loop-word : goal.invariant-loop-word
invariant-loop-word l = (length l.self.buffer.now ≡ length l.initial.self.buffer.now) × (l.initial.self.count ≤ l.self.count)
