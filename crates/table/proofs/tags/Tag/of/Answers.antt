-- `table::tags::Tag::of` meets its contract: each kind has its own number.
use Rattle.semantics.specs.Table.{kind_of}
use Rattle.table.specs.Rules.{named}
use Rattle.table.proofs.KindBytes.{unnamed}
use native.Mathlib.Omega.{arith}
use Rattle.table.proofs.tags.Tag.of.Goals as goal

pub returns-in-0 : goal.returns-in-0
unfolding kind_of named
returns-in-0 c = rw c.in-0.is

pub returns-in-1 : goal.returns-in-1
unfolding kind_of named
returns-in-1 c = rw c.in-1.is

pub returns-in-2 : goal.returns-in-2
unfolding kind_of named
returns-in-2 c = rw c.in-2.is

pub returns-in-3 : goal.returns-in-3
unfolding kind_of named
returns-in-3 c = rw c.in-3.is

pub returns-in-4 : goal.returns-in-4
unfolding kind_of named
returns-in-4 c = rw c.in-4.is

pub returns-in-5 : goal.returns-in-5
unfolding kind_of named
returns-in-5 c = rw c.in-5.is

pub returns-in-16 : goal.returns-in-16
unfolding kind_of named
returns-in-16 c = rw c.in-16.is

pub returns-in-17 : goal.returns-in-17
unfolding kind_of named
returns-in-17 c = rw c.in-17.is

pub returns-in-18 : goal.returns-in-18
unfolding kind_of named
returns-in-18 c = rw c.in-18.is

pub returns-in-19 : goal.returns-in-19
unfolding kind_of named
returns-in-19 c = rw c.in-19.is

pub returns-in-20 : goal.returns-in-20
unfolding kind_of named
returns-in-20 c = rw c.in-20.is

pub returns-in-21 : goal.returns-in-21
unfolding kind_of named
returns-in-21 c = rw c.in-21.is

pub returns-in-22 : goal.returns-in-22
unfolding kind_of named
returns-in-22 c = rw c.in-22.is

pub returns-in_default : goal.returns-in_default
returns-in_default c = unnamed c.args.byte (record { not_0 = omega arith; not_1 = omega arith; not_2 = omega arith; not_3 = omega arith; not_4 = omega arith; not_5 = omega arith; not_16 = omega arith; not_17 = omega arith; not_18 = omega arith; not_19 = omega arith; not_20 = omega arith; not_21 = omega arith; not_22 = omega arith })
