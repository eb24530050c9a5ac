-- The rule of a node that is no join, union or repeat of lenses. Assumes nothing.
use mathlib.Core.Path.{◌≡◌, refl, ap}
use mathlib.Core.List.{[]}
use Prim.Native.Nat.{ℕ}
use Rattle.semantics.specs.Text.{Text}
use Rattle.semantics.specs.Pattern.{word}
use Rattle.semantics.specs.Lens.{Side}
use Rattle.semantics.specs.Table.{tree_at, trees}
use Rattle.clash.specs.Clash.{one_list, rule_at, rule_for}
use Rattle.table.specs.declared.Kind.{Kind}
use Rattle.table.specs.declared.Kind.TheVariants.{
  Word,
  OneOf,
  PatternJoin,
  PatternUnion,
  PatternRepeat,
  Copy,
  Const,
  Key,
  LensJoin,
  LensUnion,
  LensRepeat,
  Match,
}
use Rattle.table.specs.Prepared.{Shows}

-- It has the rule of a repeat of the empty text.
pub other_rule :
    (bytes : Text) (k : ℕ) (side : Side) (κ : Kind) → Shows bytes k κ
    → ((a b : ℕ) → κ ≡ LensJoin a b → ⊥) → ((a b : ℕ) → κ ≡ LensUnion a b → ⊥) → ((a : ℕ) → κ ≡ LensRepeat a → ⊥)
    → rule_at side (tree_at (trees bytes) k) ≡ one_list (word [])
unfolding Shows rule_at rule_for
other_rule bytes k side (Word start len) h j u r = ap (rule_at side) h.tree_is
other_rule bytes k side (OneOf at runs) h j u r = ap (rule_at side) h.tree_is
other_rule bytes k side (PatternJoin a b) h j u r = ap (rule_at side) h.tree_is
other_rule bytes k side (PatternUnion a b) h j u r = ap (rule_at side) h.tree_is
other_rule bytes k side (PatternRepeat a) h j u r = ap (rule_at side) h.tree_is
other_rule bytes k side (Copy a) h j u r = ap (rule_at side) h.tree_is
other_rule bytes k side (Const a b c) h j u r = ap (rule_at side) h.tree_is
other_rule bytes k side (Key a) h j u r = ap (rule_at side) h.tree_is
other_rule bytes k side (LensJoin a b) h j u r = absurd (j a b refl)
other_rule bytes k side (LensUnion a b) h j u r = absurd (u a b refl)
other_rule bytes k side (LensRepeat a) h j u r = absurd (r a refl)
other_rule bytes k side (Match a) h j u r = ap (rule_at side) h.tree_is
