-- What is asked of the automata of a node whose rule is broken, and what is shown.
use Rattle.std.specs.Prelude.{◌≡◌, true, List, ◌++◌, ℕ, ◌+◌, ◌≤◌, ◌<◌, length, drop}
use Rattle.semantics.specs.Text.{Text}
use Rattle.semantics.specs.Pattern.{Pattern, star}
use Rattle.semantics.specs.Lens.{Side as SideOf}
use Rattle.semantics.specs.Table.{Node, positions, tree_at, trees}
use Rattle.clash.specs.Clash.{Rule, one_arm, one_list, cut_twice, first_end, second_end, breaks, clash_text, ends_of, rule_at}
use Rattle.clash.proofs.Twofold.{Whole}
use Rattle.clash.proofs.Bound.{rule_positions}
use Rattle.automaton.specs.declared.Automaton.{Automaton}
use Rattle.automaton.specs.Rows.{Describes}
use Rattle.clashes.specs.declared.shown_texts.Shown.{Shown}

-- ---- What is shown

-- The length of the rule's text; the text stands at the start of the buffer, if that is long enough, and else nothing is changed.
pub record ShowsText (rule : Rule) (before after : Text) (size : ℕ) : Type 0 where
  pub size_is : size ≡ length (clash_text rule)
  pub short : length before < size → after ≡ before
  pub fits : size ≤ length before → after ≡ clash_text rule ++ drop size before

-- The same with the two ends; of a text that is too long they are not asked for.
pub record Shows (rule : Rule) (n : Node) (before after : Text) (shown : Shown) : Type 0 where
  pub text : ShowsText rule before after shown.length
  pub ends : shown.length ≤ length before → (shown.first, shown.second) ≡ ends_of rule n (clash_text rule)

-- ---- What is asked

-- The rule is about two cuts into texts of the part and of the rest; the whole reads one and then the other.
pub record CutRule (prepared : List ℕ) (part whole rest : Automaton) (rule : Rule) : Type 0 where
  pub r : Pattern
  pub s : Pattern
  pub w : Pattern
  pub is_whole : Whole r s w
  pub part_is : Describes r part prepared
  pub whole_is : Describes w whole prepared
  pub rest_is : Describes s rest prepared
  pub few : rule_positions rule ≤ 128
  pub test_is : (t : Text) → breaks rule t ≡ cut_twice r s t
  pub ends_are : (n : Node) (t : Text) → breaks rule t ≡ true → ends_of rule n t ≡ (first_end r s t, second_end r s t)

-- Some text breaks such a rule.
pub record CutAsked (prepared : List ℕ) (part whole rest : Automaton) : Type 0 where
  pub rule : Rule
  pub is_rule : CutRule prepared part whole rest rule
  pub text : Text
  pub breaks_it : breaks rule text ≡ true

-- The automata have these patterns, and some text belongs to both.
pub record ArmRule (prepared : List ℕ) (left right : Automaton) (r s : Pattern) : Type 0 where
  pub left_is : Describes r left prepared
  pub right_is : Describes s right prepared
  pub few : positions r + positions s ≤ 128

pub record ArmAsked (prepared : List ℕ) (left right : Automaton) : Type 0 where
  pub r : Pattern
  pub s : Pattern
  pub is_rule : ArmRule prepared left right r s
  pub text : Text
  pub breaks_it : breaks (one_arm r s) text ≡ true

-- The automata are those of a repeat and of its child, and some text has two lists of parts.
pub record ListRule (prepared : List ℕ) (part whole : Automaton) (r : Pattern) : Type 0 where
  pub part_is : Describes r part prepared
  pub whole_is : Describes (star r) whole prepared
  pub few : positions r ≤ 128

pub record ListAsked (prepared : List ℕ) (part whole : Automaton) : Type 0 where
  pub r : Pattern
  pub is_rule : ListRule prepared part whole r
  pub text : Text
  pub breaks_it : breaks (one_list r) text ≡ true

-- Some text breaks the node's rule on that side.
pub record BrokenAt (bytes : Text) (node : ℕ) (side : SideOf) : Type 0 where
  pub text : Text
  pub breaks_it : breaks (rule_at side (tree_at (trees bytes) node)) text ≡ true
