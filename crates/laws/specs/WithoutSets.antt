-- Document 02 (ii): 'Programs without kind 5 get the answers they had.' Where no node of a table has kind 5, each call answers what it
-- answered by the definitions before sets (`Before`): the same result, or the same refusal at the same node. The theorems are at the end;
-- on the way there, what a pattern, a lens, a tree and a line of before is today, and that each is asked the same with the same answer.
use Rattle.std.specs.Prelude.{◌≡◌, Bool, true, false, not, ◌&&◌, cond, ℕ, zero, suc, ◌+◌, ◌-◌, max, min, eqb, leb, ltb, length, take, drop}
use Rattle.std.proofs.Math.Path.{refl, sym, ap, ap₂}
use Rattle.std.proofs.Common.{◌∙◌}
use Rattle.std.proofs.Math.Bool.{◌||◌, or-false, and-true}
use mathlib.Core.List.{List, [], ◌∷◌, ◌++◌, map, map-append}
use Rattle.std.proofs.Math.Option.{Option, none, some}
use Rattle.std.proofs.Math.ListN.{get_elem?, get_or-map}
use Rattle.std.proofs.lemmas.List.{length-map}
use Rattle.semantics.specs.Text.{Text, All, least, joined, some_passes, or_else, apply, apply₂}
use Rattle.semantics.specs.Pattern.{range, in_class, Pattern, word, one_of, concat, alt, star, nullable, Head, before, heads, matches}
use Rattle.semantics.specs.Ambiguity.{Pair, runs_meet, share_byte, next_pairs, same_run, same_class, same_pattern, same_pair, visit, explore, word_rests, rests, states, reached, both_end, overlaps, onward, two_cuts, bad_repeat}
use Rattle.semantics.specs.Lens.{Lens, copy, const, key, join, union, repeat, match, Side, source, sheet, const_language, language, cut_at, parts_within, parts, get, key_of, Book, and_then, arm_of, write_arm, write_parts, write_match, take_entry, entry_of, entries, write, put, create}
use Rattle.semantics.specs.Table.{Kind, Word, Range, PatternJoin, PatternUnion, PatternRepeat, Set, Copy, Const, Key, LensJoin, LensUnion, LensRepeat, Match, kind_of, Node, nodes, pool, node_count, Tree, pattern, lens, broken, pattern_of, lens_of, word_of, tree_at, pattern_at, lens_at, word_at, provided, build, tree_of, trees_from, trees, pattern_size, lens_size, positions, tree_positions, tree_size, holds_match, line, Line, unknown_kind, is_broken, nested_match, nested, over_limit, first_round, root_of, root_line, typing_lines, tree_lines, second_round, lines, first_that_holds}
use Rattle.semantics.specs.Calls.{Answer, gives, refuses, root_answer, verdict, program, with_program, not_of, check_call, get_call, put_call, create_call, program_line, lenscheck_line}
use Rattle.semantics.specs.Tally.{meet_arm, meet_parts, met, tallied, tally, tally_of, put_tally}
use Rattle.laws.specs.Classes.{range_test}
use Rattle.laws.specs.Before as was

-- ---- Lists

module _ {A B : Type 0} (f : A → B) where
  -- the image of the list that a test chooses
  map_cond : (b : Bool) (xs ys : List A) → cond b (map f xs) (map f ys) ≡ map f (cond b xs ys)
  map_cond true xs ys = refl
  map_cond false xs ys = refl

  -- a test of the images that is a test of the elements passes for some image exactly if it does for some element
  passes_map : (test : B → Bool) (test' : A → Bool) → ((x : A) → test (f x) ≡ test' x) → (xs : List A) → some_passes test (map f xs) ≡ some_passes test' xs
  unfolding some_passes
  passes_map test test' same [] = refl
  passes_map test test' same (x ∷ xs) = ap₂ ◌||◌ (same x) (passes_map test test' same xs)

module _ {A B C D : Type 0} (f : B → D) (g : A → B) (h : C → D) (k : A → C) (same : (x : A) → f (g x) ≡ h (k x)) where
  -- one list made in two ways
  map_two : (xs : List A) → map f (map g xs) ≡ map h (map k xs)
  map_two [] = refl
  map_two (x ∷ xs) = ap₂ ◌∷◌ (same x) (map_two xs)

module _ {A B C D : Type 0} (f : B → List D) (g : A → B) (h : C → D) (k : A → List C) (same : (x : A) → f (g x) ≡ map h (k x)) where
  -- and one list joined of parts that are made in two ways
  joined_two : (xs : List A) → joined (map f (map g xs)) ≡ map h (joined (map k xs))
  unfolding joined
  joined_two [] = refl
  joined_two (x ∷ xs) = ap₂ ◌++◌ (same x) (joined_two xs) ∙ sym (map-append h (k x) (joined (map k xs)))

-- ---- Patterns

-- a pattern of before as one of today: a range is the class of one run
unfoldable pub now : was.Pattern → Pattern
now (was.word w) = word w
now (was.range a b) = one_of (range a b)
now (was.concat r s) = concat (now r) (now s)
now (was.alt r s) = alt (now r) (now s)
now (was.star r) = star (now r)

-- the empty text belongs as before
nullable_now : (r : was.Pattern) → nullable (now r) ≡ was.nullable r
unfolding nullable was.nullable now
nullable_now (was.word []) = refl
nullable_now (was.word (c ∷ w)) = refl
nullable_now (was.range a b) = refl
nullable_now (was.concat r s) = ap₂ ◌&&◌ (nullable_now r) (nullable_now s)
nullable_now (was.alt r s) = ap₂ ◌||◌ (nullable_now r) (nullable_now s)
nullable_now (was.star r) = refl

-- a way to read a first byte
now_head : was.Head → Head
now_head h = record { class = range h.first h.last; rest = now h.rest }

before_now : (s : was.Pattern) (h : was.Head) → before (now s) (now_head h) ≡ now_head (was.before s h)
unfolding now_head before was.before now
before_now s h = refl

-- the same ways to read a first byte
heads_now : (r : was.Pattern) → heads (now r) ≡ map now_head (was.heads r)
unfolding heads was.heads now_head now
heads_now (was.word []) = refl
heads_now (was.word (c ∷ w)) = refl
heads_now (was.range a b) = refl
heads_now (was.concat r s) =
    rw (heads_now r, heads_now s, nullable_now r)
    (ap₂ ◌++◌ (map_two (before (now s)) now_head now_head (was.before s) (before_now s) (was.heads r)) (map_cond now_head (was.nullable r) (was.heads s) [])
    ∙ sym (map-append now_head (map (was.before s) (was.heads r)) (cond (was.nullable r) (was.heads s) [])))
heads_now (was.alt r s) = ap₂ ◌++◌ (heads_now r) (heads_now s) ∙ sym (map-append now_head (was.heads r) (was.heads s))
heads_now (was.star r) =
    ap (map (before (star (now r)))) (heads_now r)
    ∙ map_two (before (star (now r))) now_head now_head (was.before (was.star r)) (before_now (was.star r)) (was.heads r)

-- the same texts belong
pub matches_now : (r : was.Pattern) (t : Text) → matches (now r) t ≡ was.matches r t
unfolding matches was.matches was.in_range now_head
matches_now r [] = nullable_now r
matches_now r (c ∷ t) =
    ap (some_passes (λ h. in_class h.class c && matches h.rest t)) (heads_now r)
    ∙ passes_map
    now_head
    (λ h. in_class h.class c && matches h.rest t)
    (λ h. was.in_range h.first h.last c && was.matches h.rest t)
    (λ h. ap₂ ◌&&◌ (range_test h.first h.last c) (matches_now h.rest t))
    (was.heads r)

-- ---- The tests of the typing rules

abbrev now_pair : was.Pair → Pair
now_pair p = (now p.0, now p.1)

-- two ranges share a byte, and are the same, as before
share_now : (a b c d : ℕ) → share_byte (range a b) (range c d) ≡ leb (max a c) (min b d)
unfolding share_byte runs_meet range some_passes
share_now a b c d = or-false _ ∙ or-false (leb (max a c) (min b d))

same_range : (a b c d : ℕ) → same_class (range a b) (range c d) ≡ (eqb a c && eqb b d)
unfolding same_class same_run range
same_range a b c d = and-true (eqb a c && eqb b d)

-- the same pairs come next
next_now : (p : was.Pair) → next_pairs (now_pair p) ≡ map now_pair (was.next_pairs p)
unfolding next_pairs was.next_pairs was.share_byte now_head
next_now p =
    rw (heads_now p.0, heads_now p.1)
    (joined_two
    (λ h. joined (map (step h) (map now_head (was.heads p.1))))
    now_head
    now_pair
    (λ h. joined (map (step' h) (was.heads p.1)))
    (λ h. joined_two (step (now_head h)) now_head now_pair (step' h) (one h) (was.heads p.1))
    (was.heads p.0))
  where
    step : Head → Head → List Pair
    step h k = cond (share_byte h.class k.class) ((h.rest, k.rest) ∷ []) []

    step' : was.Head → was.Head → List was.Pair
    step' h k = cond (was.share_byte h k) ((h.rest, k.rest) ∷ []) []

    one : (h k : was.Head) → step (now_head h) (now_head k) ≡ map now_pair (step' h k)
    one h k =
        ap (λ b. cond b (now_pair (h.rest, k.rest) ∷ []) []) (share_now h.first h.last k.first k.last)
        ∙ map_cond now_pair (was.share_byte h k) ((h.rest, k.rest) ∷ []) []

-- the same patterns are told apart
same_now : (p q : was.Pattern) → same_pattern (now p) (now q) ≡ was.same_pattern p q
unfolding same_pattern was.same_pattern now
same_now (was.word w) q = elim q as (λ k. same_pattern (now (was.word w)) (now k) ≡ was.same_pattern (was.word w) k) [ was.word v ↦ refl | was.range c d ↦ refl | was.concat r s ↦ refl | was.alt r s ↦ refl | was.star r ↦ refl ]
same_now (was.range a b) q =
    elim q as (λ k. same_pattern (now (was.range a b)) (now k) ≡ was.same_pattern (was.range a b) k) [ was.word v ↦ refl | was.range c d ↦ same_range a b c d | was.concat r s ↦ refl | was.alt r s ↦ refl | was.star r ↦ refl ]
same_now (was.concat x y) q =
    elim q as (λ k. same_pattern (now (was.concat x y)) (now k) ≡ was.same_pattern (was.concat x y) k) [ was.word v ↦ refl | was.range c d ↦ refl | was.concat r s ↦ ap₂ ◌&&◌ (same_now x r) (same_now y s) | was.alt r s ↦ refl | was.star r ↦ refl ]
same_now (was.alt x y) q =
    elim q as (λ k. same_pattern (now (was.alt x y)) (now k) ≡ was.same_pattern (was.alt x y) k) [ was.word v ↦ refl | was.range c d ↦ refl | was.concat r s ↦ refl | was.alt r s ↦ ap₂ ◌&&◌ (same_now x r) (same_now y s) | was.star r ↦ refl ]
same_now (was.star x) q =
    elim q as (λ k. same_pattern (now (was.star x)) (now k) ≡ was.same_pattern (was.star x) k) [ was.word v ↦ refl | was.range c d ↦ refl | was.concat r s ↦ refl | was.alt r s ↦ refl | was.star r ↦ same_now x r ]

-- and the same pairs
same_pair_now : (p q : was.Pair) → same_pair (now_pair p) (now_pair q) ≡ was.same_pair p q
unfolding same_pair was.same_pair
same_pair_now p q = ap₂ ◌&&◌ (same_now p.0 q.0) (same_now p.1 q.1)

-- so the search takes the same turns
visit_now :
    (go : List Pair → List Pair → List Pair) (go' : List was.Pair → List was.Pair → List was.Pair)
    → ((seen due : List was.Pair) → go (map now_pair seen) (map now_pair due) ≡ map now_pair (go' seen due))
    → (seen due : List was.Pair)
    → visit go (map now_pair seen) (map now_pair due) ≡ map now_pair (was.visit go' seen due)
unfolding visit was.visit
visit_now go go' same seen [] = refl
visit_now go go' same seen (p ∷ due) =
    rw (
      passes_map now_pair (same_pair (now_pair p)) (was.same_pair p) (same_pair_now p) seen,
      visit_now go go' same seen due,
      next_now p,
      sym (map-append now_pair (was.next_pairs p) due),
      same (p ∷ seen) (was.next_pairs p ++ due),
    )
    (map_cond now_pair (some_passes (was.same_pair p) seen) (was.visit go' seen due) (go' (p ∷ seen) (was.next_pairs p ++ due)))

explore_now : (n : ℕ) (seen due : List was.Pair) → explore n (map now_pair seen) (map now_pair due) ≡ map now_pair (was.explore n seen due)
unfolding explore was.explore
explore_now zero seen due = refl
explore_now (suc n) seen due = visit_now (explore n) (was.explore n) (explore_now n) seen due

-- among the same number of states
word_rests_now : (w : Text) → word_rests w ≡ map now (was.word_rests w)
unfolding word_rests was.word_rests now
word_rests_now [] = refl
word_rests_now (c ∷ w) = ap (λ rs. word w ∷ rs) (word_rests_now w)

rests_now : (r : was.Pattern) → rests (now r) ≡ map now (was.rests r)
unfolding rests was.rests now
rests_now (was.word w) = word_rests_now w
rests_now (was.range a b) = refl
rests_now (was.concat r s) =
    ap₂ ◌++◌ (ap (map (λ k. concat k (now s))) (rests_now r) ∙ map_two (λ k. concat k (now s)) now now (λ k. was.concat k s) (λ k. refl) (was.rests r)) (rests_now s)
    ∙ sym (map-append now (map (λ k. was.concat k s) (was.rests r)) (was.rests s))
rests_now (was.alt r s) = ap₂ ◌++◌ (rests_now r) (rests_now s) ∙ sym (map-append now (was.rests r) (was.rests s))
rests_now (was.star r) =
    ap (map (λ k. concat k (star (now r)))) (rests_now r)
    ∙ map_two (λ k. concat k (star (now r))) now now (λ k. was.concat k (was.star r)) (λ k. refl) (was.rests r)

states_now : (r : was.Pattern) → states (now r) ≡ map now (was.states r)
unfolding states was.states
states_now r = ap (λ rs. now r ∷ rs) (rests_now r)

count_now : (r s : was.Pattern) → length (states (now r) ++ states (now s)) ≡ length (was.states r ++ was.states s)
count_now r s = rw (states_now r, states_now s, sym (map-append now (was.states r) (was.states s))) (length-map (was.states r ++ was.states s) now)

reached_now : (r s : was.Pattern) (starts : List was.Pair) → reached (now r) (now s) (map now_pair starts) ≡ map now_pair (was.reached r s starts)
unfolding reached was.reached
reached_now r s starts = rw (count_now r s) (explore_now _ [] starts)

-- some pair ends on both sides as before
ends_now : (ps : List was.Pair) → some_passes both_end (map now_pair ps) ≡ some_passes was.both_end ps
unfolding both_end was.both_end
ends_now = passes_map now_pair both_end was.both_end (λ p. ap₂ ◌&&◌ (nullable_now p.0) (nullable_now p.1))

-- the same pairs to go on with
onward_now :
    (f : Pattern → List Pair) (f' : was.Pattern → List was.Pair)
    → ((r : was.Pattern) → f (now r) ≡ map now_pair (f' r))
    → (ps : List was.Pair)
    → onward f (map now_pair ps) ≡ map now_pair (was.onward f' ps)
unfolding onward was.onward
onward_now f f' same =
    joined_two
    (λ p. cond (nullable p.0) (f p.1) [])
    now_pair
    now_pair
    (λ p. cond (was.nullable p.0) (f' p.1) [])
    (λ p. ap₂ (λ b xs. cond b xs []) (nullable_now p.0) (same p.1) ∙ map_cond now_pair (was.nullable p.0) (f' p.1) [])

-- the same patterns overlap
pub overlaps_now : (r s : was.Pattern) → overlaps (now r) (now s) ≡ was.overlaps r s
unfolding overlaps was.overlaps
overlaps_now r s = rw (reached_now r s ((r, s) ∷ [])) (ends_now (was.reached r s ((r, s) ∷ [])))

-- the same have a text with two cuts
pub two_cuts_now : (r s : was.Pattern) → two_cuts (now r) (now s) ≡ was.two_cuts r s
unfolding two_cuts was.two_cuts
two_cuts_now r s =
    let u = was.reached r s ((r, r) ∷ []) in
    let x = was.reached r s (was.onward (λ p. was.next_pairs (p, s)) u) in
    let v = was.reached r s (was.onward (λ p. (p, s) ∷ []) x) in
    rw (
      reached_now r s ((r, r) ∷ []),
      onward_now (λ p. next_pairs (p, now s)) (λ p. was.next_pairs (p, s)) (λ p. next_now (p, s)) u,
      reached_now r s (was.onward (λ p. was.next_pairs (p, s)) u),
      onward_now (λ p. (p, now s) ∷ []) (λ p. (p, s) ∷ []) (λ p. refl) x,
      reached_now r s (was.onward (λ p. (p, s) ∷ []) x),
    )
    (ends_now v)

-- and the same repeats fail
pub bad_repeat_now : (r : was.Pattern) → bad_repeat (now r) ≡ was.bad_repeat r
unfolding bad_repeat was.bad_repeat now
bad_repeat_now r = ap₂ ◌||◌ (nullable_now r) (two_cuts_now r (was.star r))

-- ---- Lenses

-- a lens of before as one of today
unfoldable pub now_lens : was.Lens → Lens
now_lens (was.copy r) = copy (now r)
now_lens (was.const r w d) = const (now r) w d
now_lens (was.key r) = key (now r)
now_lens (was.join l m) = join (now_lens l) (now_lens m)
now_lens (was.union l m) = union (now_lens l) (now_lens m)
now_lens (was.repeat l) = repeat (now_lens l)
now_lens (was.match n l) = match n (now_lens l)

const_now : (side : Side) (r : was.Pattern) (w : Text) → const_language side (now r) w ≡ now (was.const_language side r w)
unfolding const_language was.const_language now
const_now source r w = refl
const_now sheet r w = refl

-- its sources and its sheets are those of before
pub language_now : (side : Side) (l : was.Lens) → language side (now_lens l) ≡ now (was.language side l)
unfolding language was.language now_lens now
language_now side (was.copy r) = refl
language_now side (was.const r w d) = const_now side r w
language_now side (was.key r) = refl
language_now side (was.join l m) = ap₂ concat (language_now side l) (language_now side m)
language_now side (was.union l m) = ap₂ alt (language_now side l) (language_now side m)
language_now side (was.repeat l) = ap star (language_now side l)
language_now side (was.match n l) = language_now side l

-- so the same texts belong to them
in_now : (side : Side) (l : was.Lens) → matches (language side (now_lens l)) ≡ was.matches (was.language side l)
in_now side l = ap matches (language_now side l) ∙ (λ i t. matches_now (was.language side l) t i)

-- texts are cut at the same places
cut_now :
    (side : Side) (l m : was.Lens)
    → cut_at (language side (now_lens l)) (language side (now_lens m)) ≡ was.cut_at (was.language side l) (was.language side m)
unfolding cut_at was.cut_at
cut_now side l m = λ i t. least (length t) (λ j. in_now side l i (take j t) && in_now side m i (drop j t))

-- and into the same parts
within_now : (n : ℕ) (r : was.Pattern) (t : Text) → parts_within n (now r) t ≡ was.parts_within n r t
unfolding parts_within was.parts_within now
within_now zero r t = refl
within_now (suc n) r [] = refl
within_now (suc n) r (c ∷ t) =
    rw (first_part_lem) (ap (λ ps. (c ∷ take first' t) ∷ ps) (within_now n r (drop first' t)))
  where
    first' : ℕ
    first' = least (length t) (λ j. was.matches r (c ∷ take j t) && was.matches (was.star r) (drop j t))

    first_part_lem : least (length t) (λ j. matches (now r) (c ∷ take j t) && matches (now (was.star r)) (drop j t)) ≡ first'
    first_part_lem = λ i. least (length t) (λ j. matches_now r (c ∷ take j t) i && matches_now (was.star r) (drop j t) i)

parts_now : (side : Side) (l : was.Lens) → parts (language side (now_lens l)) ≡ was.parts (was.language side l)
unfolding parts was.parts
parts_now side l = ap parts (language_now side l) ∙ (λ i t. within_now (length t) (was.language side l) t i)

-- so get, keys, entries and put go as before
pub get_now : (l : was.Lens) (t : Text) → get (now_lens l) t ≡ was.get l t
unfolding get was.get now_lens
get_now (was.copy r) t = refl
get_now (was.const r w d) t = refl
get_now (was.key r) t = refl
get_now (was.join l m) t = λ i. let k = cut_now source l m i t in get_now l (take k t) i ++ get_now m (drop k t) i
get_now (was.union l m) t = λ i. cond (in_now source l i t) (get_now l t i) (get_now m t i)
get_now (was.repeat l) t = λ i. joined (map (λ u. get_now l u i) (parts_now source l i t))
get_now (was.match n l) t = get_now l t

key_now : (l : was.Lens) (t : Text) → key_of (now_lens l) t ≡ was.key_of l t
unfolding key_of was.key_of now_lens
key_now (was.copy r) t = refl
key_now (was.const r w d) t = refl
key_now (was.key r) t = refl
key_now (was.join l m) t = λ i. let k = cut_now sheet l m i t in key_now l (take k t) i ++ key_now m (drop k t) i
key_now (was.union l m) t = λ i. cond (in_now sheet l i t) (key_now l t i) (key_now m t i)
key_now (was.repeat l) t = λ i. joined (map (λ u. key_now l u i) (parts_now sheet l i t))
key_now (was.match n l) t = key_now l t

pub entries_now : (l : was.Lens) (t : Text) → entries (now_lens l) t ≡ was.entries l t
unfolding entries was.entries entry_of was.entry_of now_lens
entries_now (was.copy r) t = refl
entries_now (was.const r w d) t = refl
entries_now (was.key r) t = refl
entries_now (was.join l m) t = λ i. let k = cut_now source l m i t in entries_now l (take k t) i ++ entries_now m (drop k t) i
entries_now (was.union l m) t = λ i. cond (in_now source l i t) (entries_now l t i) (entries_now m t i)
entries_now (was.repeat l) t = λ i. joined (map (λ u. entries_now l u i) (parts_now source l i t))
entries_now (was.match n l) t = λ i. record { child = n; key_text = key_now l (get_now l t i) i; text = t } ∷ []

write_now : (l : was.Lens) (old : Option Text) (a : Text) (b : Book) → write (now_lens l) old a b ≡ was.write l old a b
unfolding write was.write now_lens
write_now (was.copy r) old a b = refl
write_now (was.const r w d) old a b = refl
write_now (was.key r) old a b = refl
write_now (was.join l m) old a b =
    λ i.
    let k = cut_now sheet l m i a in
    let j = or_else 0 (apply (cut_now source l m i) old) in
    and_then (write_now l (apply (take j) old) (take k a) b i) (λ c. write_now m (apply (drop j) old) (drop k a) c i)
write_now (was.union l m) old a b =
    λ i.
    let arm = arm_of (apply (in_now source l i) old) (in_now sheet l i a) (in_now sheet m i a) in
    write_arm (λ o t c. write_now l o t c i) (λ o t c. write_now m o t c i) arm old a b
write_now (was.repeat l) old a b =
    λ i. write_parts (λ o t c. write_now l o t c i) (or_else [] (apply (parts_now source l i) old)) (parts_now sheet l i a) b
write_now (was.match n l) old a b = λ i. write_match (λ o t c. write_now l o t c i) a (take_entry n (key_now l a i) b)

-- a put meets the same matches
met_now : (l : was.Lens) (old : Option Text) (a : Text) → met (now_lens l) old a ≡ was.met l old a
unfolding met was.met now_lens
met_now (was.copy r) old a = refl
met_now (was.const r w d) old a = refl
met_now (was.key r) old a = refl
met_now (was.join l m) old a =
    λ i.
    let k = cut_now sheet l m i a in
    let j = or_else 0 (apply (cut_now source l m i) old) in
    met_now l (apply (take j) old) (take k a) i ++ met_now m (apply (drop j) old) (drop k a) i
met_now (was.union l m) old a =
    λ i.
    let arm = arm_of (apply (in_now source l i) old) (in_now sheet l i a) (in_now sheet m i a) in
    meet_arm (λ o t. met_now l o t i) (λ o t. met_now m o t i) arm old a
met_now (was.repeat l) old a =
    λ i. meet_parts (λ o t. met_now l o t i) (or_else [] (apply (parts_now source l i) old)) (parts_now sheet l i a)
met_now (was.match n l) old a = λ i. record { child = n; key_text = key_now l a i } ∷ []

-- ---- Kinds and trees

-- a kind of before, and a tree, today
unfoldable pub now_kind : was.Kind → Kind
now_kind was.Word = Word
now_kind was.Range = Range
now_kind was.PatternJoin = PatternJoin
now_kind was.PatternUnion = PatternUnion
now_kind was.PatternRepeat = PatternRepeat
now_kind was.Copy = Copy
now_kind was.Const = Const
now_kind was.Key = Key
now_kind was.LensJoin = LensJoin
now_kind was.LensUnion = LensUnion
now_kind was.LensRepeat = LensRepeat
now_kind was.Match = Match

-- a list of kinds at a place, and with one more kind behind them at any other
kind_at : (ks : List was.Kind) (k : ℕ) → get_elem? (map now_kind ks) k ≡ apply now_kind (get_elem? ks k)
unfolding apply
kind_at [] k = refl
kind_at (x ∷ ks) zero = refl
kind_at (x ∷ ks) (suc k) = kind_at ks k

kind_before : (ks : List was.Kind) (k : ℕ) → ¬ (k ≡ length ks) → get_elem? (map now_kind ks ++ Set ∷ []) k ≡ apply now_kind (get_elem? ks k)
unfolding apply
kind_before [] zero other = absurd (other refl)
kind_before [] (suc k) other = refl
kind_before (x ∷ ks) zero other = refl
kind_before (x ∷ ks) (suc k) other = kind_before ks k (λ e. other (ap suc e))

-- so for the two lists of kinds
kinds_at :
    (b : Bool) (low high : List was.Kind) (k j : ℕ)
    → ¬ (k ≡ length low)
    → cond b (get_elem? (map now_kind low ++ Set ∷ []) k) (get_elem? (map now_kind high) j) ≡ apply now_kind (cond b (get_elem? low k) (get_elem? high j))
kinds_at true low high k j other = kind_before low k other
kinds_at false low high k j other = kind_at high j

-- each kind byte other than 5 is read as before
pub kind_now : (k : ℕ) → ¬ (k ≡ 5) → kind_of k ≡ apply now_kind (was.kind_of k)
unfolding kind_of was.kind_of now_kind
kind_now k other =
    kinds_at
    (ltb k 16)
    (was.Word ∷ was.Range ∷ was.PatternJoin ∷ was.PatternUnion ∷ was.PatternRepeat ∷ [])
    (was.Copy ∷ was.Const ∷ was.Key ∷ was.LensJoin ∷ was.LensUnion ∷ was.LensRepeat ∷ was.Match ∷ [])
    k
    (k - 16)
    other

unfoldable pub now_tree : was.Tree → Tree
now_tree (was.pattern r) = pattern (now r)
now_tree (was.lens l) = lens (now_lens l)
now_tree was.broken = broken

-- a node's tree, pattern, lens and word, in the trees of today
tree_now : (ts : was.Trees) (k : ℕ) → tree_at (map now_tree ts) k ≡ now_tree (was.tree_at ts k)
unfolding tree_at was.tree_at now_tree
tree_now ts k = get_or-map now_tree ts k was.broken

pattern_now : (ts : was.Trees) (k : ℕ) → pattern_at (map now_tree ts) k ≡ apply now (was.pattern_at ts k)
unfolding pattern_at was.pattern_at pattern_of was.pattern_of now_tree apply
pattern_now ts k = ap pattern_of (tree_now ts k) ∙ go (was.tree_at ts k)
  where
    go : (t : was.Tree) → pattern_of (now_tree t) ≡ apply now (was.pattern_of t)
    go (was.pattern r) = refl
    go (was.lens l) = refl
    go was.broken = refl

lens_now : (ts : was.Trees) (k : ℕ) → lens_at (map now_tree ts) k ≡ apply now_lens (was.lens_at ts k)
unfolding lens_at was.lens_at lens_of was.lens_of now_tree apply
lens_now ts k = ap lens_of (tree_now ts k) ∙ go (was.tree_at ts k)
  where
    go : (t : was.Tree) → lens_of (now_tree t) ≡ apply now_lens (was.lens_of t)
    go (was.pattern r) = refl
    go (was.lens l) = refl
    go was.broken = refl

word_now : (ts : was.Trees) (k : ℕ) → word_at (map now_tree ts) k ≡ was.word_at ts k
unfolding word_at was.word_at word_of was.word_of now_tree now
word_now ts k = ap word_of (tree_now ts k) ∙ go (was.tree_at ts k)
  where
    go : (t : was.Tree) → word_of (now_tree t) ≡ was.word_of t
    go (was.pattern (was.word w)) = refl
    go (was.pattern (was.range a b)) = refl
    go (was.pattern (was.concat r s)) = refl
    go (was.pattern (was.alt r s)) = refl
    go (was.pattern (was.star r)) = refl
    go (was.lens l) = refl
    go was.broken = refl

-- a row whose rule on the operands is kept makes the tree that it made
provided_now : (b : Bool) {x : Option Tree} (o : Option was.Tree) → x ≡ apply now_tree o → provided b x ≡ now_tree (was.provided b o)
unfolding provided was.provided now_tree or_else apply
provided_now b o e = ap (provided b) e ∙ go b o
  where
    go : (b : Bool) (o : Option was.Tree) → provided b (apply now_tree o) ≡ now_tree (was.provided b o)
    go true none = refl
    go true (some t) = refl
    go false o = refl

-- a row that makes a tree of no operand, of one, of two, and const's of three
none_now : (t : was.Tree) → some (now_tree t) ≡ apply now_tree (some t)
unfolding apply
none_now t = refl

one_now :
    {A B : Type 0} (f : B → Tree) (g : A → B) (f' : A → was.Tree)
    → ((x : A) → f (g x) ≡ now_tree (f' x))
    → {x : Option B} (o : Option A)
    → x ≡ apply g o
    → apply f x ≡ apply now_tree (apply f' o)
unfolding apply
one_now {A} f g f' same o e = ap (apply f) e ∙ go o
  where
    go : (o : Option A) → apply f (apply g o) ≡ apply now_tree (apply f' o)
    go none = refl
    go (some x) = ap some (same x)

two_now :
    {A B : Type 0} (f : B → B → Tree) (g : A → B) (f' : A → A → was.Tree)
    → ((x y : A) → f (g x) (g y) ≡ now_tree (f' x y))
    → {x y : Option B} (o p : Option A)
    → x ≡ apply g o
    → y ≡ apply g p
    → apply₂ f x y ≡ apply now_tree (apply₂ f' o p)
unfolding apply apply₂
two_now {A} f g f' same o p d e = ap₂ (apply₂ f) d e ∙ go o p
  where
    go : (o p : Option A) → apply₂ f (apply g o) (apply g p) ≡ apply now_tree (apply₂ f' o p)
    go none p = refl
    go (some x) none = refl
    go (some x) (some y) = ap some (same x y)

three_now :
    (o : Option was.Pattern) (p q : Option Text)
    → apply₂ (λ (f : Text → Lens) d. lens (f d)) (apply₂ (λ r w d. const r w d) (apply now o) p) q
    ≡ apply now_tree (apply₂ (λ (f : Text → was.Lens) d. was.lens (f d)) (apply₂ (λ r w d. was.const r w d) o p) q)
unfolding apply apply₂ now_tree now_lens
three_now none p q = refl
three_now (some r) none q = refl
three_now (some r) (some w) none = refl
three_now (some r) (some w) (some d) = refl

-- each row of the table of kinds, but that of sets, makes the tree that it made
build_now :
    (bytes : Text) (ts : was.Trees) (k : was.Kind) (a b c : ℕ) → build bytes (map now_tree ts) (now_kind k) a b c ≡ now_tree (was.build bytes ts k a b c)
unfolding build was.build now_kind now_tree now_lens now
build_now bytes ts was.Word a b c = provided_now _ _ (none_now _)
build_now bytes ts was.Range a b c = provided_now _ _ (none_now (was.pattern (was.range a b)))
build_now bytes ts was.PatternJoin a b c =
    provided_now _ _ (two_now _ now (λ r s. was.pattern (was.concat r s)) (λ r s. refl) _ _ (pattern_now ts a) (pattern_now ts b))
build_now bytes ts was.PatternUnion a b c =
    provided_now _ _ (two_now _ now (λ r s. was.pattern (was.alt r s)) (λ r s. refl) _ _ (pattern_now ts a) (pattern_now ts b))
build_now bytes ts was.PatternRepeat a b c = provided_now _ _ (one_now _ now (λ r. was.pattern (was.star r)) (λ r. refl) _ (pattern_now ts a))
build_now bytes ts was.Copy a b c = provided_now _ _ (one_now _ now (λ r. was.lens (was.copy r)) (λ r. refl) _ (pattern_now ts a))
build_now bytes ts was.Const a b c =
    provided_now _ _ (rw (pattern_now ts a, word_now ts b, word_now ts c) (three_now (was.pattern_at ts a) (was.word_at ts b) (was.word_at ts c)))
build_now bytes ts was.Key a b c = provided_now _ _ (one_now _ now (λ r. was.lens (was.key r)) (λ r. refl) _ (pattern_now ts a))
build_now bytes ts was.LensJoin a b c =
    provided_now _ _ (two_now _ now_lens (λ l m. was.lens (was.join l m)) (λ l m. refl) _ _ (lens_now ts a) (lens_now ts b))
build_now bytes ts was.LensUnion a b c =
    provided_now _ _ (two_now _ now_lens (λ l m. was.lens (was.union l m)) (λ l m. refl) _ _ (lens_now ts a) (lens_now ts b))
build_now bytes ts was.LensRepeat a b c = provided_now _ _ (one_now _ now_lens (λ l. was.lens (was.repeat l)) (λ l. refl) _ (lens_now ts a))
build_now bytes ts was.Match a b c = provided_now _ _ (one_now _ now_lens (λ l. was.lens (was.match a l)) (λ l. refl) _ (lens_now ts a))

-- 'without kind 5': no node has it
abbrev pub NoSets : List Node → Type 0
NoSets = All (λ n. ¬ (n.kind ≡ 5))

-- so does a kind byte that is known, and one that is not
made_now :
    (bytes : Text) (ts : was.Trees) (a b c : ℕ) (o : Option was.Kind)
    → or_else broken (apply (λ k. build bytes (map now_tree ts) k a b c) (apply now_kind o))
    ≡ now_tree (or_else was.broken (apply (λ k. was.build bytes ts k a b c) o))
unfolding or_else apply now_tree
made_now bytes ts a b c none = refl
made_now bytes ts a b c (some k) = build_now bytes ts k a b c

tree_of_now : (bytes : Text) (ts : was.Trees) (n : Node) → ¬ (n.kind ≡ 5) → tree_of bytes (map now_tree ts) n ≡ now_tree (was.tree_of bytes ts n)
unfolding tree_of was.tree_of
tree_of_now bytes ts n other = rw (kind_now n.kind other) (made_now bytes ts n.a n.b n.c (was.kind_of n.kind))

from_now :
    (bytes : Text) (ts : was.Trees) (ns : List Node) → NoSets ns → trees_from bytes (map now_tree ts) ns ≡ map now_tree (was.trees_from bytes ts ns)
unfolding trees_from was.trees_from
from_now bytes ts [] h = refl
from_now bytes ts (n ∷ ns) h =
    rw
    (tree_of_now bytes ts n h.0, sym (map-append now_tree ts (was.tree_of bytes ts n ∷ [])))
    (from_now bytes (ts ++ was.tree_of bytes ts n ∷ []) ns h.1)

-- each node's tree is the one that it had
pub trees_now : (bytes : Text) → NoSets (nodes bytes) → trees bytes ≡ map now_tree (was.trees bytes)
unfolding trees was.trees
trees_now bytes h = from_now (pool bytes) [] (nodes bytes) h

-- ---- Sizes and positions

-- a pattern's, a lens's and a tree's are what they were
pub size_now : (r : was.Pattern) → pattern_size (now r) ≡ was.pattern_size r
unfolding pattern_size was.pattern_size now
size_now (was.word w) = refl
size_now (was.range a b) = refl
size_now (was.concat r s) = ap₂ (λ m n. 1 + m + n) (size_now r) (size_now s)
size_now (was.alt r s) = ap₂ (λ m n. 1 + m + n) (size_now r) (size_now s)
size_now (was.star r) = ap (λ n. 1 + n) (size_now r)

pub positions_now : (r : was.Pattern) → positions (now r) ≡ was.positions r
unfolding positions was.positions now
positions_now (was.word w) = refl
positions_now (was.range a b) = refl
positions_now (was.concat r s) = ap₂ ◌+◌ (positions_now r) (positions_now s)
positions_now (was.alt r s) = ap₂ ◌+◌ (positions_now r) (positions_now s)
positions_now (was.star r) = positions_now r

lens_size_now : (l : was.Lens) → lens_size (now_lens l) ≡ was.lens_size l
unfolding lens_size was.lens_size now_lens
lens_size_now (was.copy r) = ap (λ n. 1 + n) (size_now r)
lens_size_now (was.const r w d) = ap (λ n. 1 + n + 1 + 1) (size_now r)
lens_size_now (was.key r) = ap (λ n. 1 + n) (size_now r)
lens_size_now (was.join l m) = ap₂ (λ m n. 1 + m + n) (lens_size_now l) (lens_size_now m)
lens_size_now (was.union l m) = ap₂ (λ m n. 1 + m + n) (lens_size_now l) (lens_size_now m)
lens_size_now (was.repeat l) = ap (λ n. 1 + n) (lens_size_now l)
lens_size_now (was.match n l) = ap (λ n. 1 + n) (lens_size_now l)

tree_size_now : (t : was.Tree) → tree_size (now_tree t) ≡ was.tree_size t
unfolding tree_size was.tree_size now_tree
tree_size_now (was.pattern r) = size_now r
tree_size_now (was.lens l) = lens_size_now l
tree_size_now was.broken = refl

tree_positions_now : (side : Side) (t : was.Tree) → tree_positions side (now_tree t) ≡ was.tree_positions side t
unfolding tree_positions was.tree_positions now_tree
tree_positions_now side (was.pattern r) = positions_now r
tree_positions_now side (was.lens l) = ap positions (language_now side l) ∙ positions_now (was.language side l)
tree_positions_now side was.broken = refl

-- ---- The lines of the table of refusals

-- a match stands where it stood
holds_match_now : (l : was.Lens) → holds_match (now_lens l) ≡ was.holds_match l
unfolding holds_match was.holds_match now_lens
holds_match_now (was.copy r) = refl
holds_match_now (was.const r w d) = refl
holds_match_now (was.key r) = refl
holds_match_now (was.join l m) = ap₂ ◌||◌ (holds_match_now l) (holds_match_now m)
holds_match_now (was.union l m) = ap₂ ◌||◌ (holds_match_now l) (holds_match_now m)
holds_match_now (was.repeat l) = holds_match_now l
holds_match_now (was.match n l) = refl

nested_match_now : (l : was.Lens) → nested_match (now_lens l) ≡ was.nested_match l
unfolding nested_match was.nested_match now_lens
nested_match_now (was.copy r) = refl
nested_match_now (was.const r w d) = refl
nested_match_now (was.key r) = refl
nested_match_now (was.join l m) = refl
nested_match_now (was.union l m) = refl
nested_match_now (was.repeat l) = refl
nested_match_now (was.match n l) = holds_match_now l

-- what the first round asks of a tree, lines 3 to 5
is_broken_now : (t : was.Tree) → is_broken (now_tree t) ≡ was.is_broken t
unfolding is_broken was.is_broken now_tree
is_broken_now (was.pattern r) = refl
is_broken_now (was.lens l) = refl
is_broken_now was.broken = refl

nested_now : (t : was.Tree) → nested (now_tree t) ≡ was.nested t
unfolding nested was.nested now_tree
nested_now (was.pattern r) = refl
nested_now (was.lens l) = nested_match_now l
nested_now was.broken = refl

over_limit_now : (t : was.Tree) → over_limit (now_tree t) ≡ was.over_limit t
unfolding over_limit was.over_limit
over_limit_now t = rw (tree_size_now t, tree_positions_now source t, tree_positions_now sheet t)

-- and of a kind byte, line 2
unknown_now : (n : Node) → ¬ (n.kind ≡ 5) → unknown_kind n ≡ was.unknown_kind n
unfolding unknown_kind was.unknown_kind or_else apply
unknown_now n other = ap (λ o. or_else true (apply (λ k. false) o)) (kind_now n.kind other) ∙ go (was.kind_of n.kind)
  where
    go : (o : Option was.Kind) → or_else true (apply (λ k. false) (apply now_kind o)) ≡ or_else true (apply (λ k. false) o)
    go none = refl
    go (some k) = refl

-- so the first round's lines hold where they held
first_now : (k : ℕ) (ns : List Node) (ts : was.Trees) → NoSets ns → first_round k ns (map now_tree ts) ≡ was.first_round k ns ts
unfolding first_round was.first_round
first_now k [] ts h = refl
first_now k (n ∷ ns) [] h = refl
first_now k (n ∷ ns) (t ∷ ts) h =
    λ i.
    line 2 k (unknown_now n h.0 i)
    ∷ line 3 k (is_broken_now t i)
    ∷ line 4 k (nested_now t i)
    ∷ line 5 k (over_limit_now t i)
    ∷ first_now (suc k) ns ts h.1 i

-- the root is the lens that it was
root_now : (bytes : Text) → NoSets (nodes bytes) → root_of bytes ≡ apply now_lens (was.root_of bytes)
unfolding root_of was.root_of
root_now bytes h = ap (λ ts. lens_at ts (node_count bytes - 1)) (trees_now bytes h) ∙ lens_now (was.trees bytes) (node_count bytes - 1)

root_line_now : (bytes : Text) → NoSets (nodes bytes) → root_line bytes ≡ was.root_line bytes
unfolding root_line was.root_line or_else apply
root_line_now bytes h = ap (λ o. line 3 (node_count bytes - 1) (or_else true (apply (λ l. false) o))) (root_now bytes h) ∙ go (was.root_of bytes)
  where
    go :
        (o : Option was.Lens)
        → line 3 (node_count bytes - 1) (or_else true (apply (λ l. false) (apply now_lens o))) ≡ line 3 (node_count bytes - 1) (or_else true (apply (λ l. false) o))
    go none = refl
    go (some l) = refl

-- the typing rules, lines 6 to 11
typing_now : (k : ℕ) (l : was.Lens) → typing_lines k (now_lens l) ≡ was.typing_lines k l
unfolding typing_lines was.typing_lines now_lens
typing_now k (was.copy r) = refl
typing_now k (was.const r w d) = rw (matches_now r d)
typing_now k (was.key r) = refl
typing_now k (was.join l m) = λ i. line 7 k (cuts source i) ∷ line 8 k (cuts sheet i) ∷ []
  where
    cuts : (side : Side) → two_cuts (language side (now_lens l)) (language side (now_lens m)) ≡ was.two_cuts (was.language side l) (was.language side m)
    cuts side = ap₂ two_cuts (language_now side l) (language_now side m) ∙ two_cuts_now (was.language side l) (was.language side m)
typing_now k (was.union l m) =
    ap
    (λ b. line 9 k b ∷ [])
    (ap₂ overlaps (language_now source l) (language_now source m) ∙ overlaps_now (was.language source l) (was.language source m))
typing_now k (was.repeat l) = λ i. line 10 k (bad source i) ∷ line 11 k (bad sheet i) ∷ []
  where
    bad : (side : Side) → bad_repeat (language side (now_lens l)) ≡ was.bad_repeat (was.language side l)
    bad side = ap bad_repeat (language_now side l) ∙ bad_repeat_now (was.language side l)
typing_now k (was.match n l) = refl

-- so the second round's hold where they held
tree_lines_now : (k : ℕ) (t : was.Tree) → tree_lines k (now_tree t) ≡ was.tree_lines k t
unfolding tree_lines was.tree_lines now_tree
tree_lines_now k (was.pattern r) = refl
tree_lines_now k (was.lens l) = typing_now k l
tree_lines_now k was.broken = refl

second_now : (k : ℕ) (ts : was.Trees) → second_round k (map now_tree ts) ≡ was.second_round k ts
unfolding second_round was.second_round
second_now k [] = refl
second_now k (t ∷ ts) = ap₂ ◌++◌ (tree_lines_now k t) (second_now (suc k) ts)

-- the lines 1 to 11 hold where they held
pub lines_now : (bytes : Text) → NoSets (nodes bytes) → lines bytes ≡ was.lines bytes
unfolding lines was.lines
lines_now bytes h =
    rw
    (trees_now bytes h, first_now 0 (nodes bytes) (was.trees bytes) h, root_line_now bytes h, second_now 0 (was.trees bytes))
    refl

-- ---- The calls

-- a program that was accepted, or refused
unfoldable pub now_answer : Answer was.Lens → Answer Lens
now_answer (gives l) = gives (now_lens l)
now_answer (refuses number node) = refuses number node

verdict_now : (first : Option Line) (root : Option was.Lens) → verdict first (apply now_lens root) ≡ now_answer (was.verdict first root)
unfolding verdict was.verdict root_answer was.root_answer now_answer apply
verdict_now (some l) root = refl
verdict_now none none = refl
verdict_now none (some l) = refl

-- is accepted with the lens that it had, or refused as it was
pub program_now : (bytes : Text) → NoSets (nodes bytes) → program bytes ≡ now_answer (was.program bytes)
unfolding program was.program
program_now bytes h =
    rw (lines_now bytes h, root_now bytes h) (verdict_now (first_that_holds (was.lines bytes)) (was.root_of bytes))

-- a call that answers for each lens of before as it did answers as it did
with_now :
    {A : Type 0} (call : Lens → Answer A) (call' : was.Lens → Answer A)
    → ((l : was.Lens) → call (now_lens l) ≡ call' l)
    → (bytes : Text)
    → NoSets (nodes bytes)
    → with_program (program bytes) call ≡ was.with_program (was.program bytes) call'
unfolding with_program was.with_program now_answer
with_now {A} call call' same bytes h = ap (λ p. with_program p call) (program_now bytes h) ∙ go (was.program bytes)
  where
    go : (p : Answer was.Lens) → with_program (now_answer p) call ≡ was.with_program p call'
    go (gives l) = same l
    go (refuses number node) = refl

-- what the calls ask of the root
not_of_now : (side : Side) (l : was.Lens) (t : Text) → not_of side (now_lens l) t ≡ was.not_of side l t
unfolding not_of was.not_of
not_of_now side l t = λ i. not (in_now side l i t)

put_now : (l : was.Lens) (a old : Text) → put (now_lens l) a old ≡ was.put l a old
unfolding put was.put
put_now l a old = λ i. (write_now l (some old) a (entries_now l old i) i).text

create_now : (l : was.Lens) (a : Text) → create (now_lens l) a ≡ was.create l a
unfolding create was.create
create_now l a = λ i. (write_now l none a [] i).text

tally_now : (l : was.Lens) (a old : Text) → tally (now_lens l) a old ≡ was.tally l a old
unfolding tally was.tally
tally_now l a old = λ i. tallied (met_now l (some old) a i) (entries_now l old i)

-- 'Programs without kind 5 get the answers they had.'
module _ (bytes : Text) (without : NoSets (nodes bytes)) where
  pub check_as_before : check_call bytes ≡ was.check_call bytes
  unfolding check_call was.check_call
  check_as_before = with_now (λ l. gives (node_count bytes)) (λ l. gives (node_count bytes)) (λ l. refl) bytes without

  pub get_as_before : (t : Text) (lent : ℕ) → get_call bytes t lent ≡ was.get_call bytes t lent
  unfolding get_call was.get_call
  get_as_before t lent = with_now _ _ (λ l. rw (not_of_now source l t, get_now l t)) bytes without

  pub put_as_before : (a old : Text) (lent : ℕ) → put_call bytes a old lent ≡ was.put_call bytes a old lent
  unfolding put_call was.put_call
  put_as_before a old lent =
      with_now _ _ (λ l. rw (not_of_now source l old, not_of_now sheet l a, entries_now l old, put_now l a old)) bytes without

  pub create_as_before : (a : Text) (lent : ℕ) → create_call bytes a lent ≡ was.create_call bytes a lent
  unfolding create_call was.create_call
  create_as_before a lent = with_now _ _ (λ l. rw (not_of_now sheet l a, create_now l a)) bytes without

  -- and the counts beside a put
  pub counts_as_before : (a old : Text) → put_tally bytes a old ≡ was.put_tally bytes a old
  unfolding put_tally was.put_tally tally_of was.tally_of now_answer
  counts_as_before a old = ap (λ p. tally_of p a old) (program_now bytes without) ∙ go (was.program bytes)
    where
      go : (p : Answer was.Lens) → tally_of (now_answer p) a old ≡ was.tally_of p a old
      go (gives l) = tally_now l a old
      go (refuses number node) = refl

  -- and the line that `lenscheck` prints
  pub line_as_before : lenscheck_line bytes ≡ was.lenscheck_line bytes
  unfolding lenscheck_line was.lenscheck_line program_line was.program_line now_answer now_tree
  line_as_before = ap (program_line bytes) (program_now bytes without) ∙ go (was.program bytes)
    where
      go : (p : Answer was.Lens) → program_line bytes (now_answer p) ≡ was.program_line bytes p
      go (gives l) = rw (tree_positions_now source (was.lens l), tree_positions_now sheet (was.lens l))
      go (refuses number node) = refl
