-- What the call Clash answers, said with what Check answers.
use Rattle.std.specs.Prelude.{◌≡◌, true, false, ◌||◌, [], ◌++◌, ◌⊎◌, ◌↔◌, ℕ, ◌≤◌, ◌<◌, leb, ltb, length, take, drop}
use Rattle.std.proofs.Math.Path.{refl}
use Rattle.std.proofs.Common.{sym, inl, inr, ⊎_elim, arith, take-append-drop}
use borrow.Author.Tests.{ltb-true, ltb-false, lt-ltb, le-ltb, leb-true, leb-false, le-leb, lt-leb}
use Rattle.semantics.specs.Text.{Text, joined, All}
use Rattle.semantics.specs.Pattern.{Pattern, In}
use Rattle.semantics.specs.Ambiguity.{TwoCuts, Overlap, BadRepeat}
use Rattle.semantics.specs.Lens.{Lens, copy, const, key, join, union, repeat, match, Side, source, sheet, language}
use Rattle.semantics.specs.Table.{node_at, node_count, Tree, lens, tree_at, trees, tree_size, tree_positions, positions, over_limit}
use Rattle.semantics.specs.Calls.{Answer, gives, refuses, program, with_program, check_call}
use Rattle.laws.specs.Basics.{never, bool_cases, cond_false, or_neither}
use Rattle.laws.specs.Membership.{in_nullable}
use Rattle.laws.specs.Accepted.{Breaks}
use Rattle.laws.specs.Refusals.{check_refusal}
use Rattle.laws.specs.Checked.{check_refuses_iff}
use Rattle.laws.specs.Bytes.{IsByte, language_bytes}
use Rattle.clash.specs.Clash.{
  Rule,
  one_cut,
  one_arm,
  one_list,
  EndAt,
  Breaks as BreaksRule,
  Given,
  first_end,
  second_end,
  cut_twice,
  breaks,
  clash_text,
  side_of,
  rule_for,
  rule_at,
  ends_of,
  no_clash,
  clash,
  refused,
  shown,
  clash_at,
  clash_of,
  clash_call,
}
use Rattle.clash.proofs.Ends.{first_smallest, second_smallest, two_ends}
use Rattle.clash.proofs.Twofold.{arm_iff, halves_test}
use Rattle.clash.proofs.Bound.{rule_positions, short_clash}
use Rattle.clash.proofs.Given.{clash_given, breaks_broken, broken_breaks}

-- ---- What each answer of Check leads to

module _ (bytes : Text) (lent number node : ℕ) where
  -- the text that is given at the node
  abbrev text_at : Text
  text_at = clash_text (rule_at (side_of number) (tree_at (trees bytes) node))

  -- and its ends
  abbrev ends_at : ℕ × ℕ
  ends_at = ends_of (rule_at (side_of number) (tree_at (trees bytes) node)) (node_at bytes node) text_at

  -- a refusal up to 6 comes through
  comes_through : number ≤ 6 → clash_of bytes lent (refuses number node) ≡ refused number node
  unfolding clash_of
  comes_through h = cond_false (leb 7 number) (clash_at bytes lent number node) (refused number node) (lt-leb 7 number (omega arith))

  -- one from 7 on is answered with its text, if the buffer holds that
  text_shown : 7 ≤ number → length text_at ≤ lent → clash_of bytes lent (refuses number node) ≡ clash number node text_at ends_at
  unfolding clash_of clash_at shown
  text_shown h l = rw (le-leb 7 number h, le-ltb lent (length text_at) l) refl

  -- and otherwise with 17
  text_long : 7 ≤ number → lent < length text_at → clash_of bytes lent (refuses number node) ≡ refused 17 0
  unfolding clash_of clash_at shown
  text_long h l = rw (le-leb 7 number h, lt-ltb lent (length text_at) l) refl

  -- the three answers
  abbrev Led : Type 0
  Led =
      ((number ≤ 6) × (clash_of bytes lent (refuses number node) ≡ refused number node))
      ⊎ ((7 ≤ number) × (lent < length text_at) × (clash_of bytes lent (refuses number node) ≡ refused 17 0))
      ⊎ ((7 ≤ number) × (length text_at ≤ lent) × (clash_of bytes lent (refuses number node) ≡ clash number node text_at ends_at))

  -- one of them it is
  led : Led
  led = go (bool_cases (leb 7 number)) (bool_cases (ltb lent (length text_at)))
    where
      go : (leb 7 number ≡ true) ⊎ (leb 7 number ≡ false) → (ltb lent (length text_at) ≡ true) ⊎ (ltb lent (length text_at) ≡ false) → Led
      go (inr e) f = let l = leb-false 7 number e in let h : number ≤ 6 = omega arith in inl (h, comes_through h)
      go (inl e) (inl f) = let h = leb-true 7 number e in let l = ltb-true lent (length text_at) f in inr (inl (h, l, text_long h l))
      go (inl e) (inr f) = let h = leb-true 7 number e in let l = ltb-false lent (length text_at) f in inr (inr (h, l, text_shown h l))

-- Check refuses exactly where `program` does, with the same number and node
check_refuses : (bytes : Text) (number node : ℕ) → (check_call bytes ≡ refuses number node) ↔ (program bytes ≡ refuses number node)
unfolding check_call with_program
check_refuses bytes number node = (λ e. go (program bytes) e, λ p. rw p refl)
  where
    go : (p : Answer Lens) → with_program p (λ l. gives (node_count bytes)) ≡ refuses number node → p ≡ refuses number node
    go (gives l) e = never (cc)
    go (refuses m k) e = cc

-- ---- The answers

-- 'Accepted programs answer that no clash exists': exactly if Check accepts.
pub no_clash_iff : (bytes : Text) (lent : ℕ) → (clash_call bytes lent ≡ no_clash) ↔ ((n : ℕ) × (check_call bytes ≡ gives n))
unfolding clash_call check_call clash_of with_program
no_clash_iff bytes lent = (to (program bytes), from (program bytes))
  where
    to : (p : Answer Lens) → clash_of bytes lent p ≡ no_clash → (n : ℕ) × (with_program p (λ l. gives (node_count bytes)) ≡ gives n)
    to (gives l) e = (node_count bytes, refl)
    to (refuses m k) e =
        ⊎_elim (λ x. never (let f = x.1 in cc)) (⊎_elim (λ x. never (let f = x.2 in cc)) (λ x. never (let f = x.2 in cc))) (led bytes lent m k)

    from : (p : Answer Lens) → (n : ℕ) × (with_program p (λ l. gives (node_count bytes)) ≡ gives n) → clash_of bytes lent p ≡ no_clash
    from (gives l) h = refl
    from (refuses m k) h = never (let e = h.1 in cc)

-- where a clash comes from: a refusal from 7 on, with the text and the ends of its node
abbrev ClashFrom : Text → ℕ → ℕ → ℕ → Text → ℕ × ℕ → Type 0
ClashFrom bytes lent number node t ends =
    (program bytes ≡ refuses number node) × (7 ≤ number) × (t ≡ text_at bytes lent number node) × (ends ≡ ends_at bytes lent number node)

-- each clash comes from there
clash_from :
    (bytes : Text) (lent number node : ℕ) (t : Text) (ends : ℕ × ℕ)
    → clash_call bytes lent ≡ clash number node t ends
    → ClashFrom bytes lent number node t ends
unfolding clash_call clash_of
clash_from bytes lent number node t ends e = go (program bytes) refl e
  where
    go : (p : Answer Lens) → program bytes ≡ p → clash_of bytes lent p ≡ clash number node t ends → ClashFrom bytes lent number node t ends
    go (gives l) p e = never (cc)
    go (refuses m k) p e =
        ⊎_elim
        (λ x. never (let f = x.1 in cc))
        (⊎_elim
        (λ x. never (let f = x.2 in cc))
        (λ x.
        let f = x.2 in
        let same_number : m ≡ number = cc in
        let same_node : k ≡ node = cc in
        (cc, omega (arith, x.0), cc, cc)))
        (led bytes lent m k)

-- A clash is given only where Check refuses with 7 to 11, with Check's number and node.
pub clash_checks :
    (bytes : Text) (lent number node : ℕ) (t : Text) (ends : ℕ × ℕ)
    → clash_call bytes lent ≡ clash number node t ends
    → (check_call bytes ≡ refuses number node) × (7 ≤ number) × (number ≤ 11)
clash_checks bytes lent number node t ends e =
    let (p, h, x, y) = clash_from bytes lent number node t ends e in
    let c = (check_refuses bytes number node).1 p in
    (c, h, ⊎_elim (λ w. omega (arith, w.0)) (λ w. w.1) (check_refusal bytes number node c))

-- Its text and its ends are those of the rule of that number at that node.
pub clash_shows :
    (bytes : Text) (lent number node : ℕ) (t : Text) (ends : ℕ × ℕ)
    → clash_call bytes lent ≡ clash number node t ends
    → let rule = rule_at (side_of number) (tree_at (trees bytes) node) in (t ≡ clash_text rule) × (ends ≡ ends_of rule (node_at bytes node) t)
clash_shows bytes lent number node t ends e = let (p, h, x, y) = clash_from bytes lent number node t ends e in (x, cc)

-- Where Check refuses with 7 to 11, a clash is given or 17, by the length of the buffer.
pub check_clashes :
    (bytes : Text) (lent number node : ℕ)
    → check_call bytes ≡ refuses number node
    → 7 ≤ number
    → let t = clash_text (rule_at (side_of number) (tree_at (trees bytes) node)) in
    ((length t ≤ lent) × ((ends : ℕ × ℕ) × (clash_call bytes lent ≡ clash number node t ends)))
    ⊎ ((lent < length t) × (clash_call bytes lent ≡ refused 17 0))
unfolding clash_call
check_clashes bytes lent number node e h =
    let p = (check_refuses bytes number node).0 e in
    rw p
    (⊎_elim
    (λ x. absurd (omega (arith, x.0)))
    (⊎_elim (λ x. inr (x.1, x.2)) (λ x. inl (x.1, (ends_at bytes lent number node, x.2))))
    (led bytes lent number node))

-- 'other refusals come through'
pub other_refusals :
    (bytes : Text) (lent number node : ℕ) → number ≤ 6 → (clash_call bytes lent ≡ refused number node) ↔ (check_call bytes ≡ refuses number node)
unfolding clash_call clash_of
other_refusals bytes lent number node h = (
  λ e. (check_refuses bytes number node).1 (go (program bytes) e),
  λ e. let p = (check_refuses bytes number node).0 e in rw p (comes_through bytes lent number node h),
)
  where
    go : (p : Answer Lens) → clash_of bytes lent p ≡ refused number node → p ≡ refuses number node
    go (gives l) e = never (cc)
    go (refuses m k) e =
        ⊎_elim
        (λ x. let f = x.1 in cc)
        (⊎_elim (λ x. let f = x.2 in let z : 17 ≡ number = cc in absurd (omega arith)) (λ x. never (let f = x.2 in cc)))
        (led bytes lent m k)

-- There are no others but 17, with node 0.
pub refused_is :
    (bytes : Text) (lent number node : ℕ) → clash_call bytes lent ≡ refused number node → (number ≤ 6) ⊎ ((number ≡ 17) × (node ≡ 0))
unfolding clash_call clash_of
refused_is bytes lent number node = go (program bytes)
  where
    go : (p : Answer Lens) → clash_of bytes lent p ≡ refused number node → (number ≤ 6) ⊎ ((number ≡ 17) × (node ≡ 0))
    go (gives l) e = never (cc)
    go (refuses m k) e =
        ⊎_elim
        (λ x. let f = x.1 in let same : m ≡ number = cc in inl (omega (arith, x.0)))
        (⊎_elim (λ x. let f = x.2 in inr (cc, cc)) (λ x. never (let f = x.2 in cc)))
        (led bytes lent m k)

-- 'It refuses with 17 .. only when the shortest text is longer than the lent buffer': exactly if Check refuses with 7 to 11 and it is.
pub long_iff :
    (bytes : Text) (lent : ℕ)
    → (clash_call bytes lent ≡ refused 17 0)
    ↔ ((number : ℕ)
    × (node : ℕ)
    × (check_call bytes ≡ refuses number node)
    × (7 ≤ number)
    × (lent < length (clash_text (rule_at (side_of number) (tree_at (trees bytes) node)))))
unfolding clash_call clash_of
long_iff bytes lent = (
  λ e. let (number, node, p, h, l) = go (program bytes) refl e in (number, node, (check_refuses bytes number node).1 p, h, l),
  λ (number, node, c, h, l). let p = (check_refuses bytes number node).0 c in rw p (text_long bytes lent number node h l),
)
  where
    go :
        (p : Answer Lens)
        → program bytes ≡ p
        → clash_of bytes lent p ≡ refused 17 0
        → (number : ℕ) × (node : ℕ) × (program bytes ≡ refuses number node) × (7 ≤ number) × (lent < length (text_at bytes lent number node))
    go (gives l) p e = never (cc)
    go (refuses m k) p e =
        ⊎_elim
        (λ x. let f = x.1 in let z : m ≡ 17 = cc in absurd (omega (arith, x.0)))
        (⊎_elim (λ x. (m, k, p, x.0, x.1)) (λ x. never (let f = x.2 in cc)))
        (led bytes lent m k)

-- ---- The rule that is broken

-- if a text breaks the rule, some text passes the test of the rule
some_breaks : (rule : Rule) (t : Text) → BreaksRule rule t → (u : Text) × (breaks rule u ≡ true)
some_breaks rule t h = ⊎_elim (λ e. (t, e)) (λ s. (s.0, s.2)) (broken_breaks rule t h)

-- some text passes it where a text has two cuts
cut_breaks : (r s : Pattern) → TwoCuts r s → (u : Text) × (breaks (one_cut r s) u ≡ true)
unfolding breaks
cut_breaks r s c = (c.left ++ c.right, halves_test r s c)

-- where a text is of both arms
arm_breaks : (r s : Pattern) → Overlap r s → (u : Text) × (breaks (one_arm r s) u ≡ true)
arm_breaks r s o = (o.text, (arm_iff r s o.text).1 (o.in_left, o.in_right))

-- and where the empty text is a part, or a text has two lists of parts
list_breaks : (r : Pattern) → BadRepeat r → (u : Text) × (breaks (one_list r) u ≡ true)
unfolding breaks BreaksRule
list_breaks r (inl i) = ([], in_nullable r i)
list_breaks r (inr c) =
    some_breaks
    (one_list r)
    (joined c.parts)
    record {
      parts = c.parts;
      parts' = c.parts';
      parts_in = c.parts_in;
      parts_in' = c.parts_in';
      join_to = refl;
      join_to' = sym c.same_text_lem;
      other_parts = c.other_parts;
    }

-- so for a lens that breaks one of the rules 7 to 11, with the rule of that number
lens_breaks : (number : ℕ) (l : Lens) → 7 ≤ number → Breaks number l → (u : Text) × (breaks (rule_for (side_of number) l) u ≡ true)
unfolding Breaks rule_for side_of
lens_breaks number (copy r) h b = absurd b
lens_breaks number (const r w d) h b = absurd (omega (arith, b.0))
lens_breaks number (key r) h b = absurd b
lens_breaks number (join l m) h (inl (e, c)) = rw e (cut_breaks (language source l) (language source m) c)
lens_breaks number (join l m) h (inr (e, c)) = rw e (cut_breaks (language sheet l) (language sheet m) c)
lens_breaks number (union l m) h (e, o) = rw e (arm_breaks (language source l) (language source m) o)
lens_breaks number (repeat l) h (inl (e, c)) = rw e (list_breaks (language source l) c)
lens_breaks number (repeat l) h (inr (e, c)) = rw e (list_breaks (language sheet l) c)
lens_breaks number (match n l) h b = absurd b

-- a text that passes the test of the rule is a text of the lens
breaks_language :
    (number : ℕ) (l : Lens) (side : Side) → 7 ≤ number → Breaks number l → (u : Text) → breaks (rule_for side l) u ≡ true → In (language side l) u
unfolding Breaks rule_for BreaksRule language In
breaks_language number (copy r) side h b u e = absurd b
breaks_language number (const r w d) side h b u e = absurd (omega (arith, b.0))
breaks_language number (key r) side h b u e = absurd b
breaks_language number (join l m) side h b u e =
    let c = breaks_broken (one_cut (language side l) (language side m)) u e in
    (take c.end u, drop c.end u, sym (take-append-drop c.end u), c.cut.1, c.cut.2)
breaks_language number (union l m) side h b u e = inl (breaks_broken (one_arm (language side l) (language side m)) u e).0
breaks_language number (repeat l) side h b u e =
    let c = breaks_broken (one_list (language side l)) u e in
    (c.parts, sym c.join_to, c.parts_in)
breaks_language number (match n l) side h b u e = absurd b

-- a tree within the limits has at most 128 positions on each side
few_positions : (side : Side) (t : Tree) → over_limit t ≡ false → tree_positions side t ≤ 128
unfolding over_limit
few_positions side t e =
    let h = or_neither (ltb 512 (tree_size t) || ltb 128 (tree_positions source t)) (ltb 128 (tree_positions sheet t)) e in
    let k = or_neither (ltb 512 (tree_size t)) (ltb 128 (tree_positions source t)) h.0 in
    go side (ltb-false 128 (tree_positions source t) k.1) (ltb-false 128 (tree_positions sheet t) h.1)
  where
    go : (s : Side) → tree_positions source t ≤ 128 → tree_positions sheet t ≤ 128 → tree_positions s t ≤ 128
    go source x y = x
    go sheet x y = y

-- its rule has no more than its language
rule_positions_lem : (side : Side) (l : Lens) → rule_positions (rule_for side l) ≤ positions (language side l)
unfolding rule_for language positions
rule_positions_lem side (copy r) = omega arith
rule_positions_lem side (const r w d) = omega arith
rule_positions_lem side (key r) = omega arith
rule_positions_lem side (join l m) = omega arith
rule_positions_lem side (union l m) = omega arith
rule_positions_lem side (repeat l) = omega arith
rule_positions_lem side (match n l) = omega arith

-- Where Check refuses with 7 to 11, some text breaks the rule.
pub rule_broken :
    (bytes : Text) (number node : ℕ)
    → check_call bytes ≡ refuses number node
    → 7 ≤ number
    → (t : Text) × (breaks (rule_at (side_of number) (tree_at (trees bytes) node)) t ≡ true)
unfolding rule_at
rule_broken bytes number node e h =
    let b = (check_refuses_iff bytes number node (omega arith)).0 e in
    rw b.at_node (lens_breaks number b.lens_there h b.breaks)

-- The texts that break it are made of bytes, where the table is.
pub rule_bytes :
    (bytes : Text)
    → All IsByte bytes
    → (number node : ℕ)
    → check_call bytes ≡ refuses number node
    → 7 ≤ number
    → (u : Text)
    → breaks (rule_at (side_of number) (tree_at (trees bytes) node)) u ≡ true
    → All IsByte u
unfolding rule_at
rule_bytes bytes all number node e h u p =
    let b = (check_refuses_iff bytes number node (omega arith)).0 e in
    language_bytes
    bytes
    all
    node
    b.lens_there
    b.at_node
    (side_of number)
    u
    (breaks_language number b.lens_there (side_of number) h b.breaks u (rw b.at_node at p))

-- the rule that is broken has at most 128 positions, since the table is within the limits
rule_few :
    (bytes : Text) (number node : ℕ)
    → check_call bytes ≡ refuses number node
    → 7 ≤ number
    → rule_positions (rule_at (side_of number) (tree_at (trees bytes) node)) ≤ 128
unfolding rule_at tree_positions
rule_few bytes number node e h =
    let b = (check_refuses_iff bytes number node (omega arith)).0 e in
    let inside : node < node_count bytes = ⊎_elim (λ w. absurd (omega (arith, w.0))) (λ w. w.2) (check_refusal bytes number node e) in
    let limits : over_limit (lens b.lens_there) ≡ false = rw b.at_node at (b.table_right.each_node node inside).within_limits in
    let few = few_positions (side_of number) (lens b.lens_there) limits in
    rw b.at_node (omega (arith, rule_positions_lem (side_of number) b.lens_there, few))

-- ---- The text that is given

-- The text is the lowest of the shortest that break the rule, and has at most 16,512 bytes.
pub text_given :
    (bytes : Text)
    → All IsByte bytes
    → (number node : ℕ)
    → check_call bytes ≡ refuses number node
    → 7 ≤ number
    → let rule = rule_at (side_of number) (tree_at (trees bytes) node) in
    Given (λ u. breaks rule u ≡ true) (clash_text rule) × (length (clash_text rule) ≤ 16512)
text_given bytes all number node e h =
    let rule = rule_at (side_of number) (tree_at (trees bytes) node) in
    let (t, p) = rule_broken bytes number node e h in
    let (u, q, l) = short_clash rule (rule_few bytes number node e h) t p in
    let g = clash_given rule (rule_bytes bytes all number node e h) u q (omega arith) in
    (g, omega (arith, g.shortest u q, l))

-- ---- The ends

-- The ends of a text with two cuts: both are ends, the first is the smallest of all, the second the smallest but for the first, and they differ.
pub ends_smallest :
    (r s : Pattern) (t : Text)
    → cut_twice r s t ≡ true
    → EndAt r s t (first_end r s t)
    × EndAt r s t (second_end r s t)
    × (first_end r s t < second_end r s t)
    × ((e : ℕ) → EndAt r s t e → (e ≡ first_end r s t) ⊎ (second_end r s t ≤ e))
ends_smallest r s t c = let (a, b, l) = two_ends r s t c in (a, b, l, others)
  where
    others : (e : ℕ) → EndAt r s t e → (e ≡ first_end r s t) ⊎ (second_end r s t ≤ e)
    others e h =
        ⊎_elim
        (λ p. inr (second_smallest r s t e h (ltb-true (first_end r s t) e p)))
        (λ p. inl (omega (arith, ltb-false (first_end r s t) e p, first_smallest r s t e h)))
        (bool_cases (ltb (first_end r s t) e))
