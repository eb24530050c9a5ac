-- `table::rules::is_word` meets its contract: a lower node's kind tells whether it is a word.
use Rattle.table.proofs.Sorts.{is_word, no_word, word_asked}
use Rattle.table.specs.Rules.{FoundTag, named}
use Rattle.table.specs.declared.tags.Tag.{Tag}
use Rattle.table.specs.declared.tags.Tag.TheVariants as T
use Rattle.table.specs.contracts.tags.Tag.{the_type}
use Rattle.std.specs.Option.{MatchOption, option_eq}
use Rattle.std.specs.Prelude.{Some, None}
use denote.Enum.Bare.{sameb}
use borrow.Author.Tests.{le-ltb}
use mathlib.Core.Path.{◌≡◌, refl, ◌∙◌, sym}
use mathlib.Core.Bool.{Bool, false}
use Rattle.semantics.specs.Table.{trees}
use Rattle.table.proofs.rules.is_word.Goals as goal

word_tag : (t : Tag) → sameb the_type t T.Word ≡ is_word (named t)
unfolding named is_word
word_tag T.Word = refl
word_tag T.Range = refl
word_tag T.PatternJoin = refl
word_tag T.PatternUnion = refl
word_tag T.PatternRepeat = refl
word_tag T.Set = refl
word_tag T.Copy = refl
word_tag T.Const = refl
word_tag T.Key = refl
word_tag T.LensJoin = refl
word_tag T.LensUnion = refl
word_tag T.LensRepeat = refl
word_tag T.Match = refl

compared : (E : Tag → Tag → Bool) (o : FoundTag) {b : Bool} → b ≡ option_eq E o (Some T.Word) → MatchOption o (b ≡ false) (λ t. b ≡ E t T.Word)
compared E None e = e
compared E (Some t) e = e

pub returns-then-w-k : goal.returns-then-w-k
returns-then-w-k c = word_asked c.requires c.if-w-k.true (λ t. sameb the_type t T.Word) c.of.result (rw c.kind_byte.ensures at c.of.ensures) (compared (sameb the_type) c.of.result c.eq.ensures) word_tag

pub returns-else-w-k : goal.returns-else-w-k
returns-else-w-k c = le-ltb c.args.w c.args.k c.if-w-k.false ∙ sym (no_word (trees c.args.bytes.now) c.args.k c.args.w c.if-w-k.false)
