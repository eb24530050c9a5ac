-- Document 02 (iii): 'A house that gets 7 to 11 can't see why. Give a shortest text that breaks the rule, the rule's number and node, and the two
-- smallest ends that the first half of a join, or the first part of a repeat, can have in a cut of it (for a union, its two child numbers).'
use Rattle.std.specs.Prelude.{◌≡◌, Bool, ◌&&◌, ◌||◌, cond, List, [], ◌∷◌, ◌++◌, ◌⊎◌, ℕ, zero, suc, ◌+◌, ◌-◌, ◌≤◌, ◌<◌, leb, ltb, eqb, length, take, drop}
use Rattle.semantics.specs.Text.{Text, joined, All, some_passes, least}
use Rattle.semantics.specs.Pattern.{Pattern, word, star, In, nullable, matches}
use Rattle.semantics.specs.Lens.{Lens, copy, const, key, join, union, repeat, match, Side, source, sheet, language}
use Rattle.semantics.specs.Table.{Node, node_at, below, Tree, pattern, lens, broken, tree_at, trees}
use Rattle.semantics.specs.Calls.{Answer, gives, refuses, program}

-- ---- Which texts break a rule

-- What 7 to 11 ask for: a text of a join has one cut, a source of a union belongs to one arm, a text of a repeat has one list of parts.
pub data Rule : Type 0 where
  one_cut one_arm : Pattern → Pattern → Rule
  one_list : Pattern → Rule

-- e is an end of the first half in a cut of the text: the first e bytes are of r, the others of s.
abbrev pub EndAt : Pattern → Pattern → Text → ℕ → Type 0
EndAt r s t e = (e ≤ length t) × In r (take e t) × In s (drop e t)

-- the text has two cuts
pub record CutTwice (r s : Pattern) (t : Text) : Type 0 where
  pub end : ℕ
  pub end' : ℕ
  pub cut : EndAt r s t end
  pub cut' : EndAt r s t end'
  pub other_end : ¬ (end ≡ end')

-- the text has two lists of parts
pub record PartedTwice (r : Pattern) (t : Text) : Type 0 where
  pub parts : List Text
  pub parts' : List Text
  pub parts_in : All (In r) parts
  pub parts_in' : All (In r) parts'
  pub join_to : joined parts ≡ t
  pub join_to' : joined parts' ≡ t
  pub other_parts : ¬ (parts ≡ parts')

-- The text breaks the rule. 'An empty text counts for a repeat whose child holds it': it is no part, and one part.
unfoldable pub Breaks : Rule → Text → Type 0
Breaks (one_cut r s) t = CutTwice r s t
Breaks (one_arm r s) t = In r t × In s t
Breaks (one_list r) t = PartedTwice r t

-- ---- The text that is given

-- 'byte order': at the first difference the lower byte
unfoldable pub Lower : Text → Text → Type 0
Lower [] u = ⊥
Lower (c ∷ t) [] = ⊥
Lower (c ∷ t) (d ∷ u) = (c < d) ⊎ ((c ≡ d) × Lower t u)

-- 'a shortest text that breaks the rule'; 'Among shortest texts the lowest in byte order is given.' No two texts are that.
pub record Given (B : Text → Type 0) (t : Text) : Type 0 where
  pub breaks : B t
  pub shortest : (u : Text) → B u → length t ≤ length u
  pub lowest : (u : Text) → B u → length u ≡ length t → ¬ Lower u t

-- ---- The same as functions

-- whether e is an end
unfoldable pub is_end : Pattern → Pattern → Text → ℕ → Bool
is_end r s t e = matches r (take e t) && matches s (drop e t)

-- the smallest end; one more than the length if there is none
unfoldable pub first_end : Pattern → Pattern → Text → ℕ
first_end r s t = least (suc (length t)) (is_end r s t)

-- the smallest end above it; more than the length if there is none
unfoldable pub second_end : Pattern → Pattern → Text → ℕ
second_end r s t = let from = suc (first_end r s t) in from + least (suc (length t) - from) (λ i. is_end r s t (from + i))

unfoldable pub cut_twice : Pattern → Pattern → Text → Bool
cut_twice r s t = leb (second_end r s t) (length t)

-- Whether the text breaks the rule. A repeat's text is asked for two ends of its first part: a shortest text with two lists of parts has these, since
-- a first part that both lists have could be left out.
unfoldable pub breaks : Rule → Text → Bool
breaks (one_cut r s) t = cut_twice r s t
breaks (one_arm r s) t = matches r t && matches s t
breaks (one_list r) [] = nullable r
breaks (one_list r) (c ∷ t) = cut_twice r (star r) (c ∷ t)

-- whether the test is true of some text of n bytes
unfoldable pub some_text : ℕ → (Text → Bool) → Bool
some_text zero test = test []
some_text (suc n) test = some_passes (λ c. some_text n (λ t. test (c ∷ t))) (below 256)

-- the lowest of them
unfoldable pub lowest_text : ℕ → (Text → Bool) → Text
lowest_text zero test = []
lowest_text (suc n) test = let c = least 256 (λ c. some_text n (λ t. test (c ∷ t))) in c ∷ lowest_text n (λ t. test (c ∷ t))

-- more than any clash has bytes
abbrev pub max_clash : ℕ
max_clash = 32768

-- the length of a shortest text of which the test is true
unfoldable pub shortest_text : (Text → Bool) → ℕ
shortest_text test = least max_clash (λ n. some_text n test)

-- the lowest shortest text that breaks the rule
unfoldable pub clash_text : Rule → Text
clash_text rule = lowest_text (shortest_text (breaks rule)) (breaks rule)

-- ---- The call

-- the side on which a rule is broken: 8 and 11 are about sheets
unfoldable pub side_of : ℕ → Side
side_of number = cond (eqb number 8 || eqb number 11) sheet source

-- the rule of that number, for that lens; the others have none
unfoldable pub rule_for : Side → Lens → Rule
rule_for side (copy r) = one_list (word [])
rule_for side (const r w d) = one_list (word [])
rule_for side (key r) = one_list (word [])
rule_for side (join l m) = one_cut (language side l) (language side m)
rule_for side (union l m) = one_arm (language side l) (language side m)
rule_for side (repeat l) = one_list (language side l)
rule_for side (match n l) = one_list (word [])

unfoldable pub rule_at : Side → Tree → Rule
rule_at side (pattern r) = one_list (word [])
rule_at side (lens l) = rule_for side l
rule_at side broken = one_list (word [])

-- 'the two smallest ends that the first half of a join, or the first part of a repeat, can have in a cut of it (for a union, its two child numbers)';
-- of the empty text of a repeat 'both ends are then 0'
unfoldable pub ends_of : Rule → Node → Text → ℕ × ℕ
ends_of (one_cut r s) n t = (first_end r s t, second_end r s t)
ends_of (one_arm r s) n t = (n.a, n.b)
ends_of (one_list r) n [] = (0, 0)
ends_of (one_list r) n (c ∷ t) = (first_end r (star r) (c ∷ t), second_end r (star r) (c ∷ t))

-- What the call answers: no clash; a clash with its number, node, text and ends; a refusal with its number and node.
pub data Outcome : Type 0 where
  no_clash : Outcome
  clash : (number node : ℕ) → Text → ℕ × ℕ → Outcome
  refused : (number node : ℕ) → Outcome

-- 'It refuses with 17, in place of 16 and after everything else, only when the shortest text is longer than the lent buffer', with node 0.
unfoldable pub shown : ℕ → ℕ → ℕ → Text → ℕ × ℕ → Outcome
shown lent number node t ends = cond (ltb lent (length t)) (refused 17 0) (clash number node t ends)

unfoldable pub clash_at : Text → ℕ → ℕ → ℕ → Outcome
clash_at bytes lent number node =
    let rule = rule_at (side_of number) (tree_at (trees bytes) node) in
    let t = clash_text rule in
    shown lent number node t (ends_of rule (node_at bytes node) t)

-- 'Accepted programs answer that no clash exists, and other refusals come through.'
unfoldable pub clash_of : Text → ℕ → Answer Lens → Outcome
clash_of bytes lent (gives l) = no_clash
clash_of bytes lent (refuses number node) = let found = clash_at bytes lent number node in cond (leb 7 number) found (refused number node)

unfoldable pub clash_call : Text → ℕ → Outcome
clash_call bytes lent = clash_of bytes lent (program bytes)

-- The whole buffer afterwards: the text at its start, or unchanged.
unfoldable pub buffer_after : Outcome → Text → Text
buffer_after no_clash buffer = buffer
buffer_after (clash number node t ends) buffer = t ++ drop (length t) buffer
buffer_after (refused number node) buffer = buffer
