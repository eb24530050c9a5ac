-- `table::rules::is_sort` meets its contract: a lower node's kind tells its sort.
use Rattle.table.proofs.Sorts.{no_sort, same_sort, sort_asked}
use Rattle.table.specs.Rules.{named, sort_of}
use Rattle.table.specs.declared.Sort.{Sort}
use Rattle.table.specs.declared.Sort.TheVariants.{Patterns, Lenses}
use Rattle.table.specs.contracts.Sort.{the_type}
use denote.Enum.Bare.{sameb}
use borrow.Author.Tests.{le-ltb}
use mathlib.Core.Path.{◌≡◌, refl, ◌∙◌, sym}
use Rattle.semantics.specs.Table.{trees}
use Rattle.std.proofs.Common.{tests}
use borrow.Author.Rules.{rules}
use Rattle.table.proofs.rules.is_sort.Goals as goal

same : (a b : Sort) → sameb the_type a b ≡ same_sort a b
unfolding same_sort
same Patterns Patterns = refl
same Patterns Lenses = refl
same Lenses Patterns = refl
same Lenses Lenses = refl

pub returns-then-a-k : goal.returns-then-a-k
returns-then-a-k c = sort_asked c.requires c.if-a-k.true c.args.sort c.of.result (rw c.kind_byte.ensures at c.of.ensures) c.is_some_and.ensures (λ t p. let e : c.is_some_and.result ≡ sameb the_type (sort_of (named t)) c.args.sort = search (rules, tests) in e ∙ same _ _)

pub returns-else-a-k : goal.returns-else-a-k
returns-else-a-k c = le-ltb c.args.a c.args.k c.if-a-k.false ∙ sym (no_sort c.args.sort (trees c.args.bytes.now) c.args.k c.args.a c.if-a-k.false)
