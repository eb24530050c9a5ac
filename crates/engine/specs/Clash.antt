-- Document 02 (iii), about the call Clash as it is: what its contract says (`GivesClash`) with the laws of `clash`. The text that a clash gives is that
-- of the answered length at the start of the buffer. Where a law asks for it, the table is made of bytes, as every table is that is lent.
use Rattle.std.specs.Prelude.{◌≡◌, refl, true, [], ◌∷◌, ◌++◌, ◌⊎◌, ◌↔◌, ℕ, ◌≤◌, ◌<◌, length, take, drop}
use Rattle.std.proofs.Common.{sym, ◌∙◌, subst, arith}
use Rattle.std.proofs.Math.Path.{ap}
use Rattle.std.proofs.Math.Logic.{inl, inr, ⊎_elim}
use Rattle.std.proofs.Math.Logic.Iff
use Rattle.std.proofs.Math.Seq.{take-append_seam, drop-append_seam}
use Rattle.semantics.specs.Text.{Text, All}
use Rattle.semantics.specs.Pattern.{Pattern, star, In}
use Rattle.semantics.specs.Lens.{Lens, join, union, repeat, language}
use Rattle.semantics.specs.Table.{Node, node_at, lens, tree_at, trees}
use Rattle.semantics.specs.Calls.{gives, refuses, check_call}
use Rattle.laws.specs.Basics.{never}
use Rattle.laws.specs.Accepted.{Breaks as BreaksRule}
use Rattle.laws.specs.Bytes.{IsByte}
use Rattle.laws.specs.Checked.{check_refuses_iff}
use Rattle.laws.specs.Membership.{nullable_in}
use Rattle.clash.specs.Clash.{
  Rule,
  one_cut,
  one_arm,
  one_list,
  EndAt,
  Breaks,
  Given,
  first_end,
  second_end,
  cut_twice,
  breaks,
  clash_text,
  side_of,
  rule_for,
  rule_at,
  ends_of,
  Outcome,
  no_clash,
  clash,
  refused,
  clash_call,
  buffer_after,
}
use Rattle.clash.proofs.Given.{given_broken}
use Rattle.clash.proofs.Calls.{no_clash_iff, clash_checks, clash_shows, check_clashes, other_refusals, refused_is, long_iff, text_given, ends_smallest}
use Rattle.std.specs.Prelude.{Some, None, Ok, Err}
use Rattle.table.specs.Prepared.{refusal}
use Rattle.answers.specs.Outcomes.{ClashAnswer, clash_found, clash_answer_for, GivesClash}
use Rattle.answers.proofs.Parts.{refusal_parts, clash_parts}

-- ---- What each answer says of the outcome

-- `Ok None` says that there is no clash
accepted_told : (o : Outcome) → (clash_answer_for o ≡ Ok None) ↔ (o ≡ no_clash)
unfolding clash_answer_for
accepted_told no_clash = (λ e. refl, λ e. refl)
accepted_told (clash number node t ends) = (λ e. never (cc), λ e. never (cc))
accepted_told (refused number node) = (λ e. never (cc), λ e. never (cc))

-- a refusal says that there is that one
refusal_told : (o : Outcome) (number node : ℕ) → (clash_answer_for o ≡ Err (refusal number node)) ↔ (o ≡ refused number node)
unfolding clash_answer_for
refusal_told no_clash number node = (λ e. never (cc), λ e. never (cc))
refusal_told (clash m k t ends) number node = (λ e. never (cc), λ e. never (cc))
refusal_told (refused m k) number node = (λ e. let (numbers, nodes) = refusal_parts e in cc, λ e. ap clash_answer_for e)

-- The outcome is a clash with these numbers.
record Told (o : Outcome) (number node n first second : ℕ) : Type 0 where
  text : Text
  ends : ℕ × ℕ
  outcome_is : o ≡ clash number node text ends
  length_is : n ≡ length text
  first_is : first ≡ ends.0
  second_is : second ≡ ends.1

-- so where a clash is answered
clash_told : (o : Outcome) {number node n first second : ℕ} → clash_answer_for o ≡ Ok (Some (clash_found number node n first second)) → Told o number node n first second
unfolding clash_answer_for
clash_told no_clash e = never (cc)
clash_told (clash m k t ends) e =
    let (numbers, nodes, lengths, firsts, seconds) = clash_parts e in
    record { text = t; ends = ends; outcome_is = cc; length_is = sym lengths; first_is = sym firsts; second_is = sym seconds }
clash_told (refused m k) e = never (cc)

-- ---- The rule of a number at a node

-- 'the rule's number and node'
abbrev pub rule_of : Text → ℕ → ℕ → Rule
rule_of bytes number node = rule_at (side_of number) (tree_at (trees bytes) node)

-- The two are the smallest ends of the first half in a cut of the text.
pub record SmallestEnds (r s : Pattern) (t : Text) (first second : ℕ) : Type 0 where
  pub first_end_lem : EndAt r s t first
  pub second_end_lem : EndAt r s t second
  pub they_differ : first < second
  pub no_smaller : (e : ℕ) → EndAt r s t e → (e ≡ first) ⊎ (second ≤ e)

-- The two numbers are those of the pair.
abbrev Pair : ℕ → ℕ → ℕ × ℕ → Type 0
Pair first second p = (first ≡ p.0) × (second ≡ p.1)

-- the ends of a text with two cuts
cut_ends :
    (r s : Pattern) (t : Text) (first second : ℕ)
    → Pair first second (first_end r s t, second_end r s t)
    → cut_twice r s t ≡ true
    → SmallestEnds r s t first second
cut_ends r s t first second (f, g) c =
    let (a, b, l, others) = ends_smallest r s t c in
    rw (f, g) record { first_end_lem = a; second_end_lem = b; they_differ = l; no_smaller = others }

-- those of a text that breaks the rule of a join
join_shown :
    (k : Node) (t : Text) (first second : ℕ) (r s : Pattern)
    → Pair first second (ends_of (one_cut r s) k t)
    → breaks (one_cut r s) t ≡ true
    → SmallestEnds r s t first second
unfolding ends_of breaks
join_shown k t first second r s e c = cut_ends r s t first second e c

-- of a union
union_shown : (k : Node) (t : Text) (first second : ℕ) (r s : Pattern) → Pair first second (ends_of (one_arm r s) k t) → Pair first second (k.a, k.b)
unfolding ends_of
union_shown k t first second r s e = e

-- and of a repeat
repeat_shown :
    (k : Node) (t : Text) (first second : ℕ) (r : Pattern)
    → Pair first second (ends_of (one_list r) k t)
    → breaks (one_list r) t ≡ true
    → ((t ≡ []) × In r [] × (first ≡ 0) × (second ≡ 0)) ⊎ SmallestEnds r (star r) t first second
unfolding ends_of breaks
repeat_shown k [] first second r e c = inl (refl, nullable_in r c, e.0, e.1)
repeat_shown k (d ∷ t) first second r e c = inr (cut_ends r (star r) (d ∷ t) first second e c)

-- ---- The call

module _ (bytes before after : Text) (answer : ClashAnswer) (given : GivesClash (clash_call bytes (length before)) before after answer) where
  -- the answer is the one for the outcome
  answered : {other : ClashAnswer} → (answer ≡ other) ↔ (clash_answer_for (clash_call bytes (length before)) ≡ other)
  answered = (λ e. sym given.answer_is ∙ e, λ e. given.answer_is ∙ e)

  -- so a refusal is the outcome's
  refusal_iff : (number node : ℕ) → (answer ≡ Err (refusal number node)) ↔ (clash_call bytes (length before) ≡ refused number node)
  refusal_iff number node = Iff.trans answered (refusal_told (clash_call bytes (length before)) number node)

  -- 'Accepted programs answer that no clash exists'
  pub accepted_iff : (answer ≡ Ok None) ↔ ((n : ℕ) × (check_call bytes ≡ gives n))
  accepted_iff = Iff.trans answered (Iff.trans (accepted_told (clash_call bytes (length before))) (no_clash_iff bytes (length before)))

  -- 'other refusals come through': 1 to 6, and those that do are Check's
  pub comes_through_iff : (number node : ℕ) → number ≤ 6 → (answer ≡ Err (refusal number node)) ↔ (check_call bytes ≡ refuses number node)
  comes_through_iff number node h = Iff.trans (refusal_iff number node) (other_refusals bytes (length before) number node h)

  -- 17 is the call's only own refusal, and 'gives node 0'
  pub own_refusal : (number node : ℕ) → answer ≡ Err (refusal number node) → (number ≤ 6) ⊎ ((number ≡ 17) × (node ≡ 0))
  own_refusal number node e = refused_is bytes (length before) number node ((refusal_iff number node).0 e)

  -- 'A house that gets 7 to 11': it gets a clash, or 17
  pub clash_or_long :
      (number node : ℕ)
      → check_call bytes ≡ refuses number node
      → 7 ≤ number
      → ((n : ℕ) × (first : ℕ) × (second : ℕ) × (answer ≡ Ok (Some (clash_found number node n first second)))) ⊎ (answer ≡ Err (refusal 17 0))
  unfolding clash_answer_for
  clash_or_long number node e h =
      ⊎_elim
      (λ (l, (ends, c)). inl (length (clash_text (rule_of bytes number node)), ends.0, ends.1, given.answer_is ∙ ap clash_answer_for c))
      (λ (l, c). inr ((refusal_iff 17 0).1 c))
      (check_clashes bytes (length before) number node e h)

  -- 'It refuses with 17 .. only when the shortest text is longer than the lent buffer', and always then
  pub too_long_iff :
      (answer ≡ Err (refusal 17 0))
      ↔ ((number : ℕ)
      × (node : ℕ)
      × (check_call bytes ≡ refuses number node)
      × (7 ≤ number)
      × (length before < length (clash_text (rule_of bytes number node))))
  too_long_iff = Iff.trans (refusal_iff 17 0) (long_iff bytes (length before))

  -- so no text that breaks the rule fits the buffer
  pub none_fits :
      All IsByte bytes
      → answer ≡ Err (refusal 17 0)
      → (number : ℕ)
      × (node : ℕ)
      × (check_call bytes ≡ refuses number node)
      × (7 ≤ number)
      × ((u : Text) → Breaks (rule_of bytes number node) u → length before < length u)
  none_fits all e =
      let (number, node, c, h, l) = too_long_iff.0 e in
      let g = given_broken (rule_of bytes number node) _ (text_given bytes all number node c h).0 in
      (number, node, c, h, λ u b. omega (arith, g.shortest u b, l))

  -- a buffer of 16,512 bytes never gets 17
  pub always_enough : All IsByte bytes → 16512 ≤ length before → ¬ (answer ≡ Err (refusal 17 0))
  always_enough all enough e =
      let (number, node, c, h, l) = too_long_iff.0 e in
      omega (arith, (text_given bytes all number node c h).1, l, enough)

  -- no clash leaves the buffer as it was
  pub accepted_unchanged : answer ≡ Ok None → after ≡ before
  unfolding buffer_after
  accepted_unchanged e =
      let o = (accepted_told (clash_call bytes (length before))).0 (answered.0 e) in
      given.buffer_is ∙ ap (λ o. buffer_after o before) o

  -- and so does a refusal
  pub refusal_unchanged : (number node : ℕ) → answer ≡ Err (refusal number node) → after ≡ before
  unfolding buffer_after
  refusal_unchanged number node e = given.buffer_is ∙ ap (λ o. buffer_after o before) ((refusal_iff number node).0 e)

  -- ---- A clash

  module _ (number node n first second : ℕ) (shown : answer ≡ Ok (Some (clash_found number node n first second))) where
    -- the outcome is a clash
    here : Told (clash_call bytes (length before)) number node n first second
    here = clash_told (clash_call bytes (length before)) (answered.0 shown)

    -- 'A house that gets 7 to 11': a clash is given only where Check gives that number and node
    pub clash_only : (check_call bytes ≡ refuses number node) × (7 ≤ number) × (number ≤ 11)
    clash_only = clash_checks bytes (length before) number node here.text here.ends here.outcome_is

    -- 'the rule's number and node': the node is a lens that breaks the rule of that number
    pub clash_node : (l : Lens) × (tree_at (trees bytes) node ≡ lens l) × BreaksRule number l
    clash_node =
        let (c, h, k) = clash_only in
        let b = (check_refuses_iff bytes number node (omega arith)).0 c in
        (b.lens_there, b.at_node, b.breaks)

    -- with that text
    text_is : here.text ≡ clash_text (rule_of bytes number node)
    text_is = (clash_shows bytes (length before) number node here.text here.ends here.outcome_is).0

    -- and these ends
    ends_are : Pair first second (ends_of (rule_of bytes number node) (node_at bytes node) here.text)
    ends_are =
        let e = (clash_shows bytes (length before) number node here.text here.ends here.outcome_is).1 in
        (here.first_is ∙ ap (λ p. p.0) e, here.second_is ∙ ap (λ p. p.1) e)

    -- the text fits the buffer
    pub clash_fits : n ≤ length before
    clash_fits =
        let (c, h, k) = clash_only in
        let o = here.outcome_is in
        ⊎_elim
        (λ x. rw (here.length_is, text_is) x.0)
        (λ x. never (let f = x.1 in cc))
        (check_clashes bytes (length before) number node c h)

    -- the whole buffer afterwards
    buffer_is : after ≡ here.text ++ drop (length here.text) before
    unfolding buffer_after
    buffer_is = given.buffer_is ∙ ap (λ o. buffer_after o before) here.outcome_is

    -- the text stands at its start
    at_start : take n after ≡ here.text
    at_start =
        ap (λ k. take k after) here.length_is
        ∙ ap (take (length here.text)) buffer_is
        ∙ take-append_seam here.text (drop (length here.text) before)

    -- behind the text the buffer is as it was
    pub behind_unchanged : drop n after ≡ drop n before
    behind_unchanged = rw here.length_is (ap (drop (length here.text)) buffer_is ∙ drop-append_seam here.text (drop (length here.text) before))

    -- the text at the start of the buffer has the answered length
    pub length_answered : length (take n after) ≡ n
    length_answered = ap length at_start ∙ sym here.length_is

    -- the ends are those of what stands there
    ends_given : Pair first second (ends_of (rule_of bytes number node) (node_at bytes node) (take n after))
    ends_given = subst (λ t. Pair first second (ends_of (rule_of bytes number node) (node_at bytes node) t)) (sym at_start) ends_are

    -- '(for a union, its two child numbers)'
    pub union_ends :
        (l m : Lens) → tree_at (trees bytes) node ≡ lens (union l m) → (first ≡ (node_at bytes node).a) × (second ≡ (node_at bytes node).b)
    unfolding rule_at rule_for
    union_ends l m e = union_shown (node_at bytes node) (take n after) first second _ _ (rw e at ends_given)

    module _ (all : All IsByte bytes) where
      -- which is given by the test of the rule
      tested : Given (λ u. breaks (rule_of bytes number node) u ≡ true) (take n after)
      tested =
          let (c, h, k) = clash_only in
          subst (Given (λ u. breaks (rule_of bytes number node) u ≡ true)) (sym (at_start ∙ text_is)) (text_given bytes all number node c h).0

      -- 'Give a shortest text that breaks the rule'; 'Among shortest texts the lowest in byte order is given.'
      pub clash_given : Given (Breaks (rule_of bytes number node)) (take n after)
      clash_given = given_broken (rule_of bytes number node) (take n after) tested

      -- no text is longer than 16,512 bytes
      pub clash_short : n ≤ 16512
      clash_short =
          let (c, h, k) = clash_only in
          rw (here.length_is, text_is) (text_given bytes all number node c h).1

      -- 'the two smallest ends that the first half of a join .. can have in a cut of it'
      pub join_ends :
          (l m : Lens)
          → tree_at (trees bytes) node ≡ lens (join l m)
          → SmallestEnds (language (side_of number) l) (language (side_of number) m) (take n after) first second
      unfolding rule_at rule_for
      join_ends l m e = join_shown (node_at bytes node) (take n after) first second _ _ (rw e at ends_given) (rw e at tested.breaks)

      -- 'or the first part of a repeat'; 'An empty text counts for a repeat whose child holds it; both ends are then 0.'
      pub repeat_ends :
          (l : Lens)
          → tree_at (trees bytes) node ≡ lens (repeat l)
          → let r = language (side_of number) l in
          ((take n after ≡ []) × In r [] × (first ≡ 0) × (second ≡ 0)) ⊎ SmallestEnds r (star r) (take n after) first second
      unfolding rule_at rule_for
      repeat_ends l e = repeat_shown (node_at bytes node) (take n after) first second _ (rw e at ends_given) (rw e at tested.breaks)
