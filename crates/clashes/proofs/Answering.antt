-- From the text that is shown to the answer of the call. Assumes nothing.
use mathlib.Core.Path.{◌≡◌, refl, sym, ap, ap₂, ◌∙◌}
use mathlib.Core.Bool.{◌||◌}
use mathlib.Core.List.{◌++◌}
use mathlib.Core.Logic.{◌⊎◌, inl, inr, ⊎_elim}
use Prim.Native.Nat.{ℕ, ◌≤◌, ◌<◌}
use native.Mathlib.Omega.{arith}
use lib.Dec.{eqb, leb}
use lib.ListN.{length, drop}
use borrow.Author.Tests.{le-leb, lt-leb, lt-ltb, le-ltb, eq-eqb, ne_eqb}
use Rattle.semantics.specs.Text.{Text}
use Rattle.semantics.specs.Lens.{source, sheet}
use Rattle.semantics.specs.Lens.{Side as SideOf}
use Rattle.semantics.specs.Table.{node_count, node_at, tree_at, trees}
use Rattle.semantics.specs.Calls.{refuses, program, with_program, check_call}
use Rattle.laws.specs.Basics.{cond_true, cond_false, or_left, or_right}
use Rattle.laws.specs.Refusals.{program_refusal}
use Rattle.clash.specs.Clash.{rule_at, clash_text, ends_of, clash, refused, side_of, shown, clash_at, clash_of, clash_call, buffer_after}
use Rattle.clash.proofs.Calls.{rule_broken}
use Rattle.std.specs.Prelude.{Some, Ok, Err}
use Rattle.table.specs.Prepared.{refusal}
use Rattle.answers.specs.declared.Clash.{Clash}
use Rattle.answers.specs.Outcomes.{ClashAnswer, clash_answer_for, GivesClash}
use Rattle.clashes.specs.declared.shown_texts.Shown.{Shown}
use Rattle.clashes.specs.Shows.{Shows, BrokenAt}

-- a clash by its parts
abbrev pub shown_clash : ℕ → ℕ → ℕ → ℕ → ℕ → Clash
shown_clash number node length first second = record { number = number; node = node; length = length; first = first; second = second }

-- ---- The side

pub sheet_side : (number : ℕ) → (number ≡ 8) ⊎ (number ≡ 11) → sheet ≡ side_of number
unfolding side_of
sheet_side number is =
    sym
    (cond_true (eqb number 8 || eqb number 11) sheet source
    (⊎_elim (λ e. or_left (eqb number 8) (eqb number 11) (eq-eqb number 8 e)) (λ e. or_right (eqb number 8) (eqb number 11) (eq-eqb number 11 e)) is))

pub source_side : (number : ℕ) → ¬ ((number ≡ 8) ⊎ (number ≡ 11)) → source ≡ side_of number
unfolding side_of
source_side number not = rw (ne_eqb number 8 (λ e. not (inl e)), ne_eqb number 11 (λ e. not (inr e))) refl

-- ---- A refused program

module _ (bytes : Text) {number node : ℕ} (e : program bytes ≡ refuses number node) where
  -- its node is one of the program's, and some text breaks its rule
  pub node_inside : 7 ≤ number → node < node_count bytes
  node_inside late = ⊎_elim (λ one. absurd (omega arith)) (λ within. within.2) (program_refusal bytes number node e)

  pub broken_at : 7 ≤ number → (side : SideOf) → side ≡ side_of number → BrokenAt bytes node side
  unfolding check_call with_program
  broken_at late side is =
      let checked : check_call bytes ≡ refuses number node = rw e refl in
      let (t, breaks_it) = rule_broken bytes number node checked late in
      record { text = t; breaks_it = rw is breaks_it }

  module _ (before : Text) where
    -- 'other refusals come through'
    pub low_refusal : number < 7 → GivesClash (clash_call bytes (length before)) before before (Err (refusal number node))
    unfolding clash_call clash_of clash_answer_for buffer_after
    low_refusal low =
        let is : clash_call bytes (length before) ≡ refused number node = rw e (cond_false (leb 7 number) _ _ (lt-leb 7 number low)) in
        record { answer_is = sym (ap clash_answer_for is); buffer_is = sym (ap (λ o. buffer_after o before) is) }

    module _ (late : 7 ≤ number) where
      call_is :
          let rule = rule_at (side_of number) (tree_at (trees bytes) node) in
          clash_call bytes (length before) ≡ shown (length before) number node (clash_text rule) (ends_of rule (node_at bytes node) (clash_text rule))
      unfolding clash_call clash_of clash_at
      call_is = rw e (cond_true (leb 7 number) _ _ (le-leb 7 number late))

      -- the text is longer than the buffer
      pub too_long_lem :
          {side : SideOf} → side ≡ side_of number → {after : Text} {found : Shown}
          → Shows (rule_at side (tree_at (trees bytes) node)) (node_at bytes node) before after found → length before < found.length
          → GivesClash (clash_call bytes (length before)) before after (Err (refusal 17 0))
      unfolding shown clash_answer_for buffer_after
      too_long_lem side_is {after} {found} shows long =
          let rule = rule_at (side_of number) (tree_at (trees bytes) node) in
          let here : Shows rule (node_at bytes node) before after found = rw side_is at shows in
          let is : clash_call bytes (length before) ≡ refused 17 0 = call_is ∙ cond_true _ _ _ (lt-ltb (length before) _ (omega (arith, here.text.size_is))) in
          record { answer_is = sym (ap clash_answer_for is); buffer_is = here.text.short long ∙ sym (ap (λ o. buffer_after o before) is) }

      -- or it stands there
      pub given_clash :
          {side : SideOf} → side ≡ side_of number → {after : Text} {found : Shown}
          → Shows (rule_at side (tree_at (trees bytes) node)) (node_at bytes node) before after found → found.length ≤ length before
          → GivesClash (clash_call bytes (length before)) before after (Ok (Some (shown_clash number node found.length found.first found.second)))
      unfolding shown clash_answer_for buffer_after
      given_clash side_is {after} {found} shows fits =
          let rule = rule_at (side_of number) (tree_at (trees bytes) node) in
          let here : Shows rule (node_at bytes node) before after found = rw side_is at shows in
          let ends = here.ends fits in
          let size = here.text.size_is in
          let is : clash_call bytes (length before) ≡ clash number node (clash_text rule) (ends_of rule (node_at bytes node) (clash_text rule)) =
          call_is ∙ cond_false _ _ _ (le-ltb (length before) _ (omega arith)) in
          let made : ℕ → ℕ × ℕ → ClashAnswer = λ n p. Ok (Some (shown_clash number node n p.0 p.1)) in
          record {
            answer_is =
                ap₂ made size ends
                ∙ sym (ap clash_answer_for is);
            buffer_is = here.text.fits fits ∙ ap (λ (n : ℕ). clash_text rule ++ drop n before) size ∙ sym (ap (λ o. buffer_after o before) is);
          }
