-- The texts that are given for small rules, and their ends, by evaluation.
use mathlib.Core.Path.{◌≡◌, refl}
use mathlib.Core.List.{[], ◌∷◌, ◌++◌}
use Prim.Native.Nat.{ℕ}
use Rattle.semantics.specs.Text.{Text, same_text, least, joined, some_passes}
use Rattle.semantics.specs.Pattern.{Pattern, word, one_of, alt, star, range, in_run, in_class, nullable, before, heads, matches}
use Rattle.semantics.specs.Ambiguity.{runs_meet, share_byte, same_run, same_class, same_pattern, same_pair}
use Rattle.clash.specs.Clash.{Rule, one_cut, one_arm, one_list, is_end, first_end, second_end}
use Rattle.clash.proofs.Computed.{pairs, ways, ends, same_twofold, added, kept, after, next, some_left, lowest_left, lowest_read, clashed}

-- To unfold this is to unfold every definition that the cases compute with.
unfoldable evaluates : Unit {0}
unfolding same_text least joined some_passes range in_run in_class nullable before heads matches runs_meet share_byte same_run same_class same_pattern same_pair is_end first_end second_end pairs ways ends same_twofold added kept after next some_left lowest_left lowest_read clashed
evaluates = tt

-- the text that is given for the rule
abbrev GivenText : Rule → Text → Type 0
GivenText rule t = clashed rule ≡ t

-- and the text has these two smallest ends
abbrev SmallestEnds : Pattern → Pattern → Text → ℕ → ℕ → Type 0
SmallestEnds r s t first second = (first_end r s t ≡ first) × (second_end r s t ≡ second)

-- `abcd`, which {a, ab, abc} and {bcd, cd, d} cut three ways: behind `a` and behind `ab` are the two smallest
abbrev heading : Pattern
heading = alt (word (97 ∷ [])) (alt (word (97 ∷ 98 ∷ [])) (word (97 ∷ 98 ∷ 99 ∷ [])))

abbrev trailing : Pattern
trailing = alt (word (98 ∷ 99 ∷ 100 ∷ [])) (alt (word (99 ∷ 100 ∷ [])) (word (100 ∷ [])))

pub join_cut_thrice :
    GivenText (one_cut heading trailing) (97 ∷ 98 ∷ 99 ∷ 100 ∷ []) × SmallestEnds heading trailing (97 ∷ 98 ∷ 99 ∷ 100 ∷ []) 1 2
unfolding evaluates
join_cut_thrice = (refl, (refl, refl))

-- the sets x-z, a-c, p-r and m-q, b-d: `b` is their lowest common byte, which is in no first run
pub sets_overlap :
    GivenText (one_arm (one_of (range 120 122 ++ range 97 99 ++ range 112 114)) (one_of (range 109 113 ++ range 98 100))) (98 ∷ [])
unfolding evaluates
sets_overlap = refl

-- where both arms are {ba, z}, the shorter text; where both are {zz, ba}, the lower
abbrev shorter_last : Pattern
shorter_last = alt (word (98 ∷ 97 ∷ [])) (word (122 ∷ []))

abbrev lower_last : Pattern
lower_last = alt (word (122 ∷ 122 ∷ [])) (word (98 ∷ 97 ∷ []))

pub shorter_first : GivenText (one_arm shorter_last shorter_last) (122 ∷ [])
unfolding evaluates
shorter_first = refl

pub lower_next : GivenText (one_arm lower_last lower_last) (98 ∷ 97 ∷ [])
unfolding evaluates
lower_next = refl

-- a repeat whose child holds the empty text
pub empty_part : GivenText (one_list (alt (word (97 ∷ [])) (word []))) []
unfolding evaluates
empty_part = refl

-- `aa`, one part of {a, aa} and two
abbrev one_or_two : Pattern
one_or_two = alt (word (97 ∷ [])) (word (97 ∷ 97 ∷ []))

pub repeat_cut_twice : GivenText (one_list one_or_two) (97 ∷ 97 ∷ []) × SmallestEnds one_or_two (star one_or_two) (97 ∷ 97 ∷ []) 1 2
unfolding evaluates
repeat_cut_twice = (refl, (refl, refl))
