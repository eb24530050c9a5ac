-- `steps::next_old` meets its contract: a part ends within its text. Assumes nothing.
use native.Mathlib.Omega.{arith}
use borrow.Author.Tests.{eq-eqb, ne_eqb}
use Rattle.steps.proofs.Answers.{trail_lent, part_within}
use Rattle.steps.proofs.next_old.Goals as goal

pub returns-in_default : goal.returns-in_default
returns-in_default c = rw c.in_default.is

pub returns-then-len-eq0 : goal.returns-then-len-eq0
returns-then-len-eq0 c =
    rw (c.in-Some.is, eq-eqb c.in-Some.place.len 0 c.if-len-eq0.true)

pub overflow_add-from : goal.overflow_add-from
overflow_add-from c =
    omega (arith, (c.requires.0.place_inside c.in-Some.place c.in-Some.is).inside)

pub overflow_add-from-2 : goal.overflow_add-from-2
overflow_add-from-2 c =
    omega (arith, (c.requires.0.place_inside c.in-Some.place c.in-Some.is).inside)

pub slice_bounds-first_loop-end : goal.slice_bounds-first_loop-end
slice_bounds-first_loop-end c =
    omega (arith, (c.requires.0.place_inside c.in-Some.place c.in-Some.is).inside)

pub overflow_add-rest : goal.overflow_add-rest
overflow_add-rest c =
    let within = part_within c.args.deck.now c.in-Some.place.start c.in-Some.place.len _ _ _ c.first_loop-i.ensures in omega (arith, within, (c.requires.0.place_inside c.in-Some.place c.in-Some.is).inside)

pub overflow_sub-rest : goal.overflow_sub-rest
overflow_sub-rest c =
    part_within c.args.deck.now c.in-Some.place.start c.in-Some.place.len _ _ _ c.first_loop-i.ensures

pub returns : goal.returns
returns c =
    rw (c.in-Some.is, ne_eqb c.in-Some.place.len 0 c.if-len-eq0.false, c.first_loop-i.ensures, trail_lent c.args.deck.now c.in-Some.place.start c.in-Some.place.len)
