-- `steps::choose` meets its contract, by the five ways in which the two paths can go. Assumes nothing.
use native.Mathlib.Omega.{arith}
use Rattle.steps.proofs.Answers.{few_count}
use Rattle.steps.proofs.Choosing.{arm_put_left, arm_turned_right, arm_put_right, arm_refitted, arm_turned_left}
use Rattle.steps.proofs.choose.Goals as goal

pub overflow_add-mid : goal.overflow_add-mid
overflow_add-mid c =
    omega (arith, few_count c.automaton_of-a.ensures c.requires.prepared.1, c.requires.base_bound.0)

pub overflow_add-border : goal.overflow_add-border
overflow_add-border c =
    omega (arith, few_count c.automaton_of-b.ensures c.requires.prepared.0, c.requires.base_bound.1.based)

pub overflow_add-from : goal.overflow_add-from
overflow_add-from c = omega (arith, c.requires.base_bound.1.inside)

pub overflow_add-from-2 : goal.overflow_add-from-2
overflow_add-from-2 c = omega (arith, c.requires.base_bound.1.inside)

pub slice_bounds-goes_left-end : goal.slice_bounds-goes_left-end
slice_bounds-goes_left-end c =
    omega (arith, c.requires.base_bound.1.inside, c.requires.base_bound.2)

pub returns-then-fits_left : goal.returns-then-fits_left
returns-then-fits_left c =
    record {
      choice_is = λ bytes node known-left known-right s parsed old.
          rw
          c.put_onto.ensures
          (arm_put_left known-left s parsed
          c.automaton_of-a.ensures
          c.goes_left-fits_left.ensures
          known-right
          old
          c.automaton_of-b.ensures
          c.goes_left.ensures
          c.if-goes_left.true
          c.if-fits_left.true);
    }

pub returns-then-goes_left : goal.returns-then-goes_left
returns-then-goes_left c =
    record {
      choice_is = λ bytes node known-left known-right s parsed old.
          rw
          c.created.ensures
          (arm_turned_right known-left s parsed
          c.automaton_of-a.ensures
          c.goes_left-fits_left.ensures
          known-right
          old
          c.automaton_of-b.ensures
          c.goes_left.ensures
          c.if-goes_left.true
          c.if-fits_left.false);
    }

pub returns-then-not-fits_left : goal.returns-then-not-fits_left
returns-then-not-fits_left c =
    record {
      choice_is = λ bytes node known-left known-right s parsed old.
          rw
          c.put_onto-then-not-fits_left.ensures
          (arm_put_right known-left s parsed
          c.automaton_of-a.ensures
          c.goes_left-fits_left.ensures
          known-right
          old
          c.automaton_of-b.ensures
          c.goes_left.ensures
          c.if-goes_left.false
          (c.if-not-fits_left.true));
    }

pub refit-requires : goal.refit-requires
refit-requires c = record { prepared = c.requires.prepared.2; len_bound = c.requires.len_bound }

pub returns-then-refit : goal.returns-then-refit
returns-then-refit c =
    record {
      choice_is = λ bytes node known-left known-right s parsed old.
          rw
          c.put_onto-then-refit.ensures
          (arm_refitted known-left s parsed
          c.automaton_of-a.ensures
          c.goes_left-fits_left.ensures
          known-right
          old
          c.automaton_of-b.ensures
          c.goes_left.ensures
          c.refit.ensures
          c.if-goes_left.false
          c.if-refit.true);
    }

pub returns : goal.returns
returns c =
    record {
      choice_is = λ bytes node known-left known-right s parsed old.
          rw
          c.created-2.ensures
          (arm_turned_left known-left s parsed
          c.automaton_of-a.ensures
          c.goes_left-fits_left.ensures
          known-right
          old
          c.automaton_of-b.ensures
          c.goes_left.ensures
          c.refit.ensures
          c.if-goes_left.false
          (c.if-not-fits_left.false)
          c.if-refit.false);
    }
