-- `script::argument` meets its contract: the space stands where it was found, and not in front of there. Assumes nothing.
use Rattle.std.proofs.Common.{◌≡◌, ℕ, ◌+◌, ◌-◌, ◌<◌, length, drop, get_or, sym, arith, rules, length-drop}
use lib.ListN.{drop_of_length-le}
use lib.Seq.{take_all}
use Rattle.script.proofs.Places.{before_first, before_none}
use Rattle.script.proofs.argument.Goals as goal

pub returns-in-Some : goal.returns-in-Some
returns-in-Some c =
    let line = c.args.line.now in
    let place = c.in-Some.place in
    let inside : place < length line = search rules in
    let others : (k : ℕ) → k < place → ¬ (get_or line k 0 ≡ 32) = search rules in
    let here : get_or line place 0 ≡ 32 = search rules in
    let after : ℕ = place + 1 in
    rw (before_first 32 line place inside others here) (take_all (length line - after) (drop after line) (omega (arith, length-drop after line)))

pub returns-in-None : goal.returns-in-None
returns-in-None c =
    let line = c.args.line.now in
    let others : (k : ℕ) → k < length line → ¬ (get_or line k 0 ≡ 32) = search rules in
    sym (drop_of_length-le line (omega (arith, before_none 32 line others)))
