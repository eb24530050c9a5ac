-- From what the search finds to the text of the rule and its ends. Assumes nothing.
use mathlib.Core.Path.{◌≡◌, refl, sym, ap, ◌∙◌, subst}
use mathlib.Core.Bool.{Bool, true, false, ◌&&◌}
use mathlib.Core.List.{List, [], ◌++◌}
use mathlib.Core.Logic.{◌⊎◌, inl, inr}
use Prim.Native.Nat.{ℕ, ◌≤◌, ◌<◌}
use native.Mathlib.Omega.{arith}
use lib.ListN.{length, take, drop}
use lib.Seq.{take-append_seam}
use Rattle.semantics.specs.Text.{Text}
use Rattle.semantics.specs.Pattern.{Pattern, nullable}
use Rattle.semantics.specs.Table.{Node}
use Rattle.laws.specs.Basics.{not_both, and_of}
use Rattle.clash.specs.Clash.{
  Rule,
  one_arm,
  cut_twice,
  first_end,
  second_end,
  breaks,
  some_text,
  lowest_text,
  max_clash,
  shortest_text,
  clash_text,
}
use Rattle.clash.proofs.Bound.{rule_positions, short_clash}
use Rattle.clash.proofs.Twofold.{arm_end}
use Rattle.clash.proofs.Ends.{least_first}
use Rattle.clash.proofs.Given.{given_is, clash_given}
use Rattle.automaton.specs.declared.Automaton.{Automaton}
use Rattle.automaton.specs.Rows.{Room, Describes}
use Rattle.search.specs.declared.patches.Quest.{Quest}
use Rattle.search.specs.Pairs.{QuestFits}
use Rattle.quests.specs.Quests.{cut_quest, arm_quest, Rooms, Asks, Answerable, Hunted}
use Rattle.quests.proofs.Readings.{cut_asks, cut_fits, arm_asks, arm_fits}
use Rattle.clashes.specs.declared.shown_texts.Shown.{Shown}
use Rattle.clashes.specs.Shows.{ShowsText, Shows, CutRule, CutAsked, ArmRule, ArmAsked}

-- ---- The text of the rule

module _ (rule : Rule) (few : rule_positions rule ≤ 128) {before after : Text} {size : ℕ} (hunted : Hunted (breaks rule) before after size) where
  -- a shortest text has at most 16,512 bytes
  size_most : size ≤ 16512
  size_most =
      let (t, passes, long) = hunted.some in
      let (u, broken, most) = short_clash rule few t passes in
      omega (arith, hunted.least u broken)

  -- the rule's text breaks it
  text_breaks : breaks rule (clash_text rule) ≡ true
  text_breaks =
      let (t, passes, long) = hunted.some in
      (clash_given rule hunted.of_bytes t passes (omega (arith, size_most))).breaks

  -- what the search finds is the text of the rule
  shows_text : ShowsText rule before after size
  shows_text =
      let (t, passes, long) = hunted.some in
      let most = size_most in
      let given = clash_given rule hunted.of_bytes t passes (omega arith) in
      record {
        size_is = omega (arith, given.shortest t passes, hunted.least (clash_text rule) given.breaks);
        short = hunted.short;
        fits =
            λ h.
            let (u, lowest, type_size, after_is) = hunted.fits h in
            let same : clash_text rule ≡ u = given_is rule hunted.of_bytes u lowest (omega arith) in
            after_is ∙ ap (λ v. v ++ drop size before) (sym same);
      }

-- the empty text, where it breaks the rule
pub empty_clash : (rule : Rule) → breaks rule [] ≡ true → clash_text rule ≡ []
unfolding clash_text shortest_text some_text lowest_text
empty_clash rule e = ap (λ n. lowest_text n (breaks rule)) first_zero
  where
    first_zero : shortest_text (breaks rule) ≡ 0
    first_zero = omega (arith, least_first max_clash (λ n. some_text n (breaks rule)) 0 e)

-- it stands at the start of each buffer
pub shows_empty : (rule : Rule) (before : Text) → breaks rule [] ≡ true → ShowsText rule before before 0
shows_empty rule before e =
    let text_is = empty_clash rule e in
    record {
      size_is = sym (ap length text_is);
      short = λ h. refl;
      fits = λ h. ap (λ t. t ++ before) (sym text_is);
    }

-- ---- A text with two cuts

module _ {prepared : List ℕ} {part whole rest : Automaton} (part_room : Room part prepared) (whole_room : Room whole prepared) (rest-room : Room rest prepared) where
  -- the quest finds the texts that break the rule
  cut_rule_asks : (rule : Rule) → CutRule prepared part whole rest rule → Asks prepared (cut_quest part whole rest) (breaks rule)
  cut_rule_asks rule cut =
      let same : cut_twice cut.r cut.s ≡ breaks rule = λ j t. sym (cut.test_is t) j in
      subst (Asks prepared (cut_quest part whole rest)) same
      (cut_asks prepared part whole rest cut.r cut.s cut.w cut.is_whole cut.part_is cut.whole_is cut.rest_is
      part_room.few whole_room.few rest-room.few)

  -- its automata have their rows,
  pub cut_rooms : {q : Quest} → q ≡ cut_quest part whole rest → Rooms prepared q
  unfolding cut_quest
  cut_rooms same = rw same (record { part_room = part_room; whole_room = whole_room; rest_room = rest-room })

  -- and there is one
  pub cut_answerable :
      {q : Quest} → q ≡ cut_quest part whole rest → CutAsked prepared part whole rest
      → QuestFits q × Answerable prepared q
  cut_answerable same asked =
      rw same (
        cut_fits part whole rest part_room.few,
        record {
          test = breaks asked.rule;
          asks = cut_rule_asks asked.rule asked.is_rule;
          text = asked.text;
          passes = asked.breaks_it;
        },
      )

  module _
      {q : Quest} {before after : Text} {size : ℕ} (same : q ≡ cut_quest part whole rest)
      (found : (test : Text → Bool) → Asks prepared q test → Hunted test before after size)
    where
      -- the text that is found breaks the rule, and is the lowest shortest of these
      cut_hunted : (rule : Rule) → CutRule prepared part whole rest rule → Hunted (breaks rule) before after size
      cut_hunted rule cut = found (breaks rule) (rw same (cut_rule_asks rule cut))

      -- it has at most 16,512 bytes
      pub cut_most : CutAsked prepared part whole rest → size ≤ 16512
      cut_most asked = size_most asked.rule asked.is_rule.few (cut_hunted asked.rule asked.is_rule)

      -- The buffer has no room for it,
      pub shows_too_long : length before < size → (rule : Rule) (n : Node) → CutRule prepared part whole rest rule
          → Shows rule n before after (record { length = size; first = 0; second = 0 })
      shows_too_long long rule n cut =
          record { text = shows_text rule cut.few (cut_hunted rule cut); ends = λ h. absurd (omega arith) }

      -- or its ends are those that are found in it.
      pub shows_with_ends :
          (shown : Shown) (n : ℕ) → n ≡ size → size ≤ length before
          → ((r s : Pattern) → Describes r part prepared → Describes s rest prepared → cut_twice r s (take n after) ≡ true
          → (shown.length ≡ length (take n after)) × (shown.first ≡ first_end r s (take n after)) × (shown.second ≡ second_end r s (take n after)))
          → (rule : Rule) (node : Node) → CutRule prepared part whole rest rule → Shows rule node before after shown
      shows_with_ends shown n same_size room ends rule node cut =
          let hunted = cut_hunted rule cut in
          let text = shows_text rule cut.few hunted in
          let broken = text_breaks rule cut.few hunted in
          let at_start : take size (clash_text rule ++ drop size before) ≡ clash_text rule =
          ap (λ k. take k (clash_text rule ++ drop size before)) text.size_is ∙ take-append_seam (clash_text rule) (drop size before) in
          let same : take n after ≡ clash_text rule = ap (λ k. take k after) same_size ∙ ap (take size) (text.fits room) ∙ at_start in
          let twice : cut_twice cut.r cut.s (clash_text rule) ≡ true = sym (cut.test_is (clash_text rule)) ∙ broken in
          let (long, first_is, second_is) = rw same at (ends cut.r cut.s cut.part_is cut.rest_is (rw same twice)) in
          record {
            text = subst (ShowsText rule before after) (text.size_is ∙ sym long) text;
            ends = λ h. (λ j. (first_is j, second_is j)) ∙ sym (cut.ends_are node (clash_text rule) broken);
          }

-- ---- A text of both arms

-- two are not both true, if one of them is not
one_false : (a b : Bool) → (a ≡ false) ⊎ (b ≡ false) → (a && b) ≡ false
one_false true b (inl e) = absurd (not_both refl e)
one_false true b (inr e) = e
one_false false b h = refl

module _ {prepared : List ℕ} {left right : Automaton} where
  -- where both arms may be empty, the empty text belongs to both
  pub shows_both_empty :
      (before : Text) → left.nullable ≡ true → right.nullable ≡ true
      → (r s : Pattern) → ArmRule prepared left right r s → ShowsText (one_arm r s) before before 0
  shows_both_empty before e f r s arm =
      shows_empty (one_arm r s) before
      (arm_end r s ∙ and_of (nullable r) (nullable s) (sym arm.left_is.nullable_is ∙ e) (sym arm.right_is.nullable_is ∙ f))

  module _
      (left-room : Room left prepared) (right-room : Room right prepared)
      {q : Quest} (same : q ≡ arm_quest left right) (one-not : (left.nullable ≡ false) ⊎ (right.nullable ≡ false))
    where
      -- else the quest finds the texts of both,
      arm_rule_asks : (r s : Pattern) → ArmRule prepared left right r s → Asks prepared q (breaks (one_arm r s))
      arm_rule_asks r s arm =
          let not_empty : (nullable r && nullable s) ≡ false =
          one_false (nullable r) (nullable s) (rw (← arm.left_is.nullable_is, ← arm.right_is.nullable_is) one-not) in
          rw same (arm_asks prepared left right r s arm.left_is arm.right_is left-room.few right-room.few not_empty)

      -- its automata have their rows,
      pub arm_rooms : Rooms prepared q
      unfolding arm_quest
      arm_rooms = rw same (record { part_room = left-room; whole_room = left-room; rest_room = right-room })

      -- there is one,
      pub arm_answerable : ArmAsked prepared left right → QuestFits q × Answerable prepared q
      arm_answerable asked = (
        rw same (arm_fits left right left-room.few),
        record {
          test = breaks (one_arm asked.r asked.s);
          asks = arm_rule_asks asked.r asked.s asked.is_rule;
          text = asked.text;
          passes = asked.breaks_it;
        },
      )

      -- and what is found is the rule's text.
      pub shows_both :
          {before after : Text} {size : ℕ}
          → ((test : Text → Bool) → Asks prepared q test → Hunted test before after size)
          → (r s : Pattern) → ArmRule prepared left right r s → ShowsText (one_arm r s) before after size
      shows_both found r s arm = shows_text (one_arm r s) arm.few (found (breaks (one_arm r s)) (arm_rule_asks r s arm))
