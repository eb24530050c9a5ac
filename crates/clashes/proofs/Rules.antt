-- The rules of joins and repeats as rules about two cuts, and what a built program says of a node's rule. Assumes nothing.
use mathlib.Core.Path.{◌≡◌, refl, sym, ◌∙◌}
use mathlib.Core.Bool.{true, false}
use mathlib.Core.List.{List, [], ◌∷◌}
use Prim.Native.Nat.{ℕ, ◌+◌, ◌≤◌}
use Rattle.semantics.specs.Text.{Text}
use Rattle.semantics.specs.Pattern.{Pattern, concat, star, nullable}
use Rattle.semantics.specs.Table.{Node, positions}
use Rattle.laws.specs.Basics.{not_both}
use Rattle.clash.specs.Clash.{one_cut, one_list, cut_twice, first_end, second_end, breaks, ends_of}
use Rattle.clash.proofs.Twofold.{join_whole, repeat_whole, cut_end}
use Rattle.automaton.specs.declared.Automaton.{Automaton}
use Rattle.automaton.specs.Rows.{Describes}
use Rattle.clashes.specs.Shows.{CutRule, CutAsked, ListRule, ListAsked}

-- ---- The rules of joins and repeats

-- a join's rule is about two cuts
pub join_rule :
    (prepared : List ℕ) (part whole rest : Automaton) (r s : Pattern)
    → Describes r part prepared → Describes (concat r s) whole prepared → Describes s rest prepared → positions r + positions s ≤ 128
    → CutRule prepared part whole rest (one_cut r s)
unfolding breaks ends_of
join_rule prepared part whole rest r s part_is whole_is rest_is few =
    record {
      r = r;
      s = s;
      w = concat r s;
      is_whole = join_whole r s;
      part_is = part_is;
      whole_is = whole_is;
      rest_is = rest_is;
      few = few;
      test_is = λ t. refl;
      ends_are = λ n t broken. refl;
    }

-- and so is a repeat's, where no part is empty
pub repeat_rule :
    (prepared : List ℕ) (part whole : Automaton) (r : Pattern) → ListRule prepared part whole r → nullable r ≡ false → CutRule prepared part whole whole (one_list r)
unfolding breaks ends_of
repeat_rule prepared part whole r about none =
    record {
      r = r;
      s = star r;
      w = star r;
      is_whole = repeat_whole r;
      part_is = about.part_is;
      whole_is = about.whole_is;
      rest_is = about.whole_is;
      few = about.few;
      test_is = test;
      ends_are = ends;
    }
  where
    test : (t : Text) → breaks (one_list r) t ≡ cut_twice r (star r) t
    test [] = none ∙ sym (cut_end r (star r))
    test (c ∷ t) = refl

    ends : (n : Node) (t : Text) → breaks (one_list r) t ≡ true → ends_of (one_list r) n t ≡ (first_end r (star r) t, second_end r (star r) t)
    ends n [] broken = absurd (not_both broken none)
    ends n (c ∷ t) broken = refl

-- some text breaks it
pub repeat_asked :
    (prepared : List ℕ) (part whole : Automaton) (asked : ListAsked prepared part whole) → nullable asked.r ≡ false → CutAsked prepared part whole whole
repeat_asked prepared part whole asked none =
    record {
      rule = one_list asked.r;
      is_rule = repeat_rule prepared part whole asked.r asked.is_rule none;
      text = asked.text;
      breaks_it = asked.breaks_it;
    }

-- the empty text breaks a repeat's rule, where it is a part
pub empty_breaks : (r : Pattern) → nullable r ≡ true → breaks (one_list r) [] ≡ true
unfolding breaks
empty_breaks r e = e

-- and its ends are 0
pub empty_ends : (r : Pattern) (n : Node) → ends_of (one_list r) n [] ≡ (0, 0)
unfolding ends_of
empty_ends r n = refl
