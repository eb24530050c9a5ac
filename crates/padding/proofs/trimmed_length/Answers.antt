-- `padding::trimmed_length` meets its contract: only spaces stand behind the last other byte. Assumes nothing.
use Rattle.std.proofs.Common.{◌≡◌, ℕ, ◌+◌, ◌-◌, ◌<◌, ◌≤◌, length, get_or, arith, rules}
use Rattle.semantics.specs.Text.{trimmed}
use Rattle.padding.proofs.Spaces.{front_length}
use Rattle.padding.proofs.trimmed_length.Goals as goal

pub returns-in-Some : goal.returns-in-Some
returns-in-Some c =
    let text = c.args.text.now in
    let last = c.in-Some.last in
    let inside : last < length text = search rules in
    let spaces : (k : ℕ) → last + 1 ≤ k → k < length text → get_or text k 0 ≡ 32 = search rules in
    let other : ¬ (get_or text last 0 ≡ 32) = search rules in
    let back : last + 1 - 1 ≡ last = omega arith in
    front_length text (last + 1) (omega arith) spaces (λ some. rw back other)

pub returns-in-None : goal.returns-in-None
returns-in-None c =
    let text = c.args.text.now in
    let spaces : (k : ℕ) → 0 ≤ k → k < length text → get_or text k 0 ≡ 32 = search rules in
    let none_left : 0 ≡ length (trimmed text) = front_length text 0 (omega arith) spaces (λ some. absurd (omega arith)) in
    search rules
