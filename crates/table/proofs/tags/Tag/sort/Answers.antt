-- `table::tags::Tag::sort` meets its contract.
use Rattle.table.specs.Rules.{named, sort_of}
use Rattle.table.specs.declared.tags.Tag.TheVariants as T
use mathlib.Core.Logic.{⊎_elim}
use mathlib.Core.Path.{◌≡◌}
use Rattle.table.proofs.tags.Tag.sort.Goals as goal

pub returns-in-Word : goal.returns-in-Word
unfolding sort_of named
returns-in-Word c = ⊎_elim (λ (e : c.args.self ≡ T.Word). rw e) (⊎_elim (λ (e : c.args.self ≡ T.Range). rw e) (⊎_elim (λ (e : c.args.self ≡ T.PatternJoin). rw e) (⊎_elim (λ (e : c.args.self ≡ T.PatternUnion). rw e) (⊎_elim (λ (e : c.args.self ≡ T.PatternRepeat). rw e) (λ (e : c.args.self ≡ T.Set). rw e))))) c.in-Word.is

pub returns-in-Copy : goal.returns-in-Copy
unfolding sort_of named
returns-in-Copy c = ⊎_elim (λ (e : c.args.self ≡ T.Copy). rw e) (⊎_elim (λ (e : c.args.self ≡ T.Const). rw e) (⊎_elim (λ (e : c.args.self ≡ T.Key). rw e) (⊎_elim (λ (e : c.args.self ≡ T.LensJoin). rw e) (⊎_elim (λ (e : c.args.self ≡ T.LensUnion). rw e) (⊎_elim (λ (e : c.args.self ≡ T.LensRepeat). rw e) (λ (e : c.args.self ≡ T.Match). rw e)))))) c.in-Copy.is
