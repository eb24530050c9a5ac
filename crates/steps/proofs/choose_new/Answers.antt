-- `steps::choose_new` meets its contract: the path of the sheet tells the arm. Assumes nothing.
use native.Mathlib.Omega.{arith}
use Rattle.steps.proofs.Answers.{few_count}
use Rattle.steps.proofs.Choosing.{arm_created_left, arm_created_right}
use Rattle.steps.proofs.choose_new.Goals as goal

pub overflow_add-mid : goal.overflow_add-mid
overflow_add-mid c =
    omega (arith, few_count c.automaton_of-a.ensures c.requires.0, c.requires.1)

pub returns-then-goes_left : goal.returns-then-goes_left
returns-then-goes_left c =
    record {
      arm_is = λ bytes new node known-left s parsed.
          arm_created_left known-left s parsed c.automaton_of-a.ensures c.goes_left.ensures c.if-goes_left.true;
    }

pub returns : goal.returns
returns c =
    record {
      arm_is = λ bytes new node known-left s parsed.
          arm_created_right known-left s parsed c.automaton_of-a.ensures c.goes_left.ensures c.if-goes_left.false;
    }
