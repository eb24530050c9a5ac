-- The answers as numbers, for other languages: three, and those of put and clash as six.
use Rattle.std.specs.Prelude.{◌≡◌, length, Some, None, Ok, Err}
use Rattle.semantics.specs.Text.{Text}
use Rattle.semantics.specs.Calls.{buffer_after}
use Rattle.semantics.specs.Calls.{Answer as Outcome}
use Rattle.semantics.specs.Tally.{Tally}
use Rattle.clash.specs.Clash as Clashes
use Rattle.noontrough.specs.declared.Numbers.{Numbers}
use Rattle.noontrough.specs.declared.PutNumbers.{PutNumbers}
use Rattle.noontrough.specs.declared.ClashNumbers.{ClashNumbers}
use Rattle.answers.specs.Outcomes.{Answer, PutAnswer, ClashAnswer, answer_for, put_answer_for, clash_answer_for}

abbrev pub numbers_of : Answer → Numbers
numbers_of (Ok length) = record { number = 0; node = 0; length = length }
numbers_of (Err r) = record { number = r.number; node = r.node; length = 0 }

-- The numbers, and the whole buffer afterwards, are those of the outcome.
pub record ExportsText (outcome : Outcome Text) (before after : Text) (numbers : Numbers) : Type 0 where
  pub numbers_are : numbers ≡ numbers_of (answer_for length outcome)
  pub buffer_is : after ≡ buffer_after outcome before

abbrev pub put_numbers_of : PutAnswer → PutNumbers
put_numbers_of (Ok made) =
    record { number = 0; node = 0; length = made.length; kept = made.tally.kept; made = made.tally.made; dropped = made.tally.dropped }
put_numbers_of (Err r) = record { number = r.number; node = r.node; length = 0; kept = 0; made = 0; dropped = 0 }

-- The same of put, whose result has those counts.
pub record ExportsSource (outcome : Outcome Text) (n : Tally) (before after : Text) (numbers : PutNumbers) : Type 0 where
  pub numbers_are : numbers ≡ put_numbers_of (put_answer_for outcome n)
  pub buffer_is : after ≡ buffer_after outcome before

-- 0 for no clash, 1 for a clash, 2 for a refusal, and then what it has
abbrev pub clash_numbers_of : ClashAnswer → ClashNumbers
clash_numbers_of (Ok None) = record { outcome = 0; number = 0; node = 0; length = 0; first = 0; second = 0 }
clash_numbers_of (Ok (Some c)) = record { outcome = 1; number = c.number; node = c.node; length = c.length; first = c.first; second = c.second }
clash_numbers_of (Err r) = record { outcome = 2; number = r.number; node = r.node; length = 0; first = 0; second = 0 }

-- The same of clash.
pub record ExportsClash (outcome : Clashes.Outcome) (before after : Text) (numbers : ClashNumbers) : Type 0 where
  pub numbers_are : numbers ≡ clash_numbers_of (clash_answer_for outcome)
  pub buffer_is : after ≡ Clashes.buffer_after outcome before
