-- `table::rules::keeps` meets its contract: the rule of each kind, as the table of kinds has it.
use Rattle.table.specs.Rules.{keeps_rules, named}
use Rattle.laws.specs.RightSizes.{right_of}
use Rattle.table.specs.declared.tags.Tag.TheVariants as T
use mathlib.Core.Logic.{⊎_elim}
use mathlib.Core.Path.{◌≡◌}
use native.Mathlib.Omega.{arith}
use Rattle.table.proofs.rules.keeps.Goals as goal

pub word_fits-requires : goal.word_fits-requires
word_fits-requires c = let h = right_of c.args.bytes.now c.requires.sizes_right in omega arith

pub returns-in-Word : goal.returns-in-Word
unfolding keeps_rules named
returns-in-Word c = rw c.in-Word.is c.word_fits.ensures

pub returns-in-Range : goal.returns-in-Range
unfolding keeps_rules named
returns-in-Range c = rw c.in-Range.is c.range_ordered.ensures

pub returns-in-Set : goal.returns-in-Set
unfolding keeps_rules named
returns-in-Set c = rw c.in-Set.is c.set_fits.ensures

pub returns-in-Const : goal.returns-in-Const
unfolding keeps_rules named
returns-in-Const c = rw c.in-Const.is c.const_parts.ensures

pub returns-in-PatternJoin : goal.returns-in-PatternJoin
unfolding keeps_rules named
returns-in-PatternJoin c = ⊎_elim (λ (e : c.args.tag ≡ T.PatternJoin). rw e c.two_children.ensures) (λ (e : c.args.tag ≡ T.PatternUnion). rw e c.two_children.ensures) c.in-PatternJoin.is

pub returns-in-LensJoin : goal.returns-in-LensJoin
unfolding keeps_rules named
returns-in-LensJoin c = ⊎_elim (λ (e : c.args.tag ≡ T.LensJoin). rw e c.two_children-in-LensJoin.ensures) (λ (e : c.args.tag ≡ T.LensUnion). rw e c.two_children-in-LensJoin.ensures) c.in-LensJoin.is

pub returns-in-PatternRepeat : goal.returns-in-PatternRepeat
unfolding keeps_rules named
returns-in-PatternRepeat c = ⊎_elim (λ (e : c.args.tag ≡ T.PatternRepeat). rw e c.one_child.ensures) (⊎_elim (λ (e : c.args.tag ≡ T.Copy). rw e c.one_child.ensures) (λ (e : c.args.tag ≡ T.Key). rw e c.one_child.ensures)) c.in-PatternRepeat.is

pub returns-in-LensRepeat : goal.returns-in-LensRepeat
unfolding keeps_rules named
returns-in-LensRepeat c = ⊎_elim (λ (e : c.args.tag ≡ T.LensRepeat). rw e c.one_child-in-LensRepeat.ensures) (λ (e : c.args.tag ≡ T.Match). rw e c.one_child-in-LensRepeat.ensures) c.in-LensRepeat.is
