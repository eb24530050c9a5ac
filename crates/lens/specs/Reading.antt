-- What is read off a text, as one reading over the mode, and the parts of a repeat one by one.
use Rattle.std.specs.Prelude.{◌≡◌, refl, Bool, true, false, ◌&&◌, cond, [], ◌∷◌, ◌++◌, map, ℕ, zero, suc, ◌+◌, ◌-◌, ◌≤◌, ◌<◌, length, take, drop}
use Rattle.std.proofs.Common.{ap, not-suc-le-zero, le_refl, one-add, sub-one, arith, length-drop}
use Rattle.semantics.specs.Text.{Text, joined, least, or_else}
use Rattle.semantics.specs.Pattern.{Pattern, star, matches}
use Rattle.semantics.specs.Lens.{Lens, copy, const, key, join, union, repeat, match, Side, source, sheet, language, cut_at, parts, parts_within, get, key_of, write, create}
use Rattle.laws.specs.Basics.{cond_true, cond_false, least_le}
use Rattle.laws.specs.Bookless.{create_join, create_left_lem, create_right_lem, create_match, create_repeat}
use Rattle.lens.specs.declared.Mode.{Mode}
use Rattle.lens.specs.declared.Mode.TheVariants.{Get, Key, Create, SourceKey}

-- the key parts of a source joined in order, by the source's own cuts; of a lens without a union it is the key of its sheet (`source_key_lem`)
unfoldable pub source_key : Lens → Text → Text
source_key (copy r) t = []
source_key (const r w d) t = []
source_key (key r) t = t
source_key (join l m) t = let i = cut_at (language source l) (language source m) t in source_key l (take i t) ++ source_key m (drop i t)
source_key (union l m) t = cond (matches (language source l) t) (source_key l t) (source_key m t)
source_key (repeat l) t = joined (map (source_key l) (parts (language source l) t))
source_key (match n l) t = source_key l t

unfoldable pub reading : Mode → Lens → Text → Text
reading Get l t = get l t
reading Key l t = key_of l t
reading Create l t = create l t
reading SourceKey l t = source_key l t

-- the side of the text that is read
unfoldable pub mode_side : Mode → Side
mode_side Get = source
mode_side Key = sheet
mode_side Create = sheet
mode_side SourceKey = source

-- whether it is a key, whose trailing spaces don't count
abbrev pub keyed : Mode → Bool
keyed Get = false
keyed Key = true
keyed Create = false
keyed SourceKey = true

-- what a copy gives: its text, and no key
unfoldable pub copied : Mode → Text → Text
copied Get t = t
copied Key t = []
copied Create t = t
copied SourceKey t = []

-- what a const gives, a word or the number of one: that of the sheet, or the default of a source that is made
abbrev pub given_word : {A : Type 0} → Mode → A → A → A
given_word Get w d = w
given_word Key w d = w
given_word Create w d = d
given_word SourceKey w d = w

-- ---- What each kind of lens gives

pub reading_copy : (mode : Mode) (r : Pattern) (t : Text) → reading mode (copy r) t ≡ copied mode t
unfolding reading copied get key_of source_key create write
reading_copy Get r t = refl
reading_copy Key r t = refl
reading_copy Create r t = refl
reading_copy SourceKey r t = refl

pub reading_const : (mode : Mode) (r : Pattern) (w d t : Text) → reading mode (const r w d) t ≡ copied mode (given_word mode w d)
unfolding reading copied get key_of source_key create write or_else
reading_const Get r w d t = refl
reading_const Key r w d t = refl
reading_const Create r w d t = refl
reading_const SourceKey r w d t = refl

pub reading_key : (mode : Mode) (r : Pattern) (t : Text) → reading mode (key r) t ≡ t
unfolding reading get key_of source_key create write
reading_key Get r t = refl
reading_key Key r t = refl
reading_key Create r t = refl
reading_key SourceKey r t = refl

pub reading_join :
    (mode : Mode) (l m : Lens) (t : Text) (i : ℕ)
    → i ≡ cut_at (language (mode_side mode) l) (language (mode_side mode) m) t
    → reading mode (join l m) t ≡ reading mode l (take i t) ++ reading mode m (drop i t)
unfolding reading mode_side get key_of source_key
reading_join Get l m t i e = rw e
reading_join Key l m t i e = rw e
reading_join Create l m t i e = rw e (create_join l m t)
reading_join SourceKey l m t i e = rw e

pub reading_left : (mode : Mode) (l m : Lens) (t : Text) → matches (language (mode_side mode) l) t ≡ true → reading mode (union l m) t ≡ reading mode l t
unfolding reading mode_side get key_of source_key
reading_left Get l m t e = cond_true (matches (language source l) t) (get l t) (get m t) e
reading_left Key l m t e = cond_true (matches (language sheet l) t) (key_of l t) (key_of m t) e
reading_left Create l m t e = create_left_lem l m t e
reading_left SourceKey l m t e = cond_true (matches (language source l) t) (source_key l t) (source_key m t) e

pub reading_right : (mode : Mode) (l m : Lens) (t : Text) → matches (language (mode_side mode) l) t ≡ false → reading mode (union l m) t ≡ reading mode m t
unfolding reading mode_side get key_of source_key
reading_right Get l m t e = cond_false (matches (language source l) t) (get l t) (get m t) e
reading_right Key l m t e = cond_false (matches (language sheet l) t) (key_of l t) (key_of m t) e
reading_right Create l m t e = create_right_lem l m t e
reading_right SourceKey l m t e = cond_false (matches (language source l) t) (source_key l t) (source_key m t) e

pub reading_match : (mode : Mode) (n : ℕ) (l : Lens) (t : Text) → reading mode (match n l) t ≡ reading mode l t
unfolding reading get key_of source_key
reading_match Get n l t = refl
reading_match Key n l t = refl
reading_match Create n l t = create_match n l t
reading_match SourceKey n l t = refl

pub reading_repeat :
    (mode : Mode) (l : Lens) (t : Text) → reading mode (repeat l) t ≡ joined (map (reading mode l) (parts (language (mode_side mode) l) t))
unfolding reading mode_side get key_of source_key
reading_repeat Get l t = refl
reading_repeat Key l t = refl
reading_repeat Create l t = create_repeat l t
reading_repeat SourceKey l t = refl

-- ---- Parts, one by one

-- the empty text has no parts
pub parts_none : (r : Pattern) → parts r [] ≡ []
unfolding parts parts_within
parts_none r = refl

-- the length of the first part of a text that is not empty, from 1 on
unfoldable pub first_part : Pattern → Text → ℕ
first_part r t = 1 + least (length t - 1) (λ j. matches r (take (1 + j) t) && matches (star r) (drop (1 + j) t))

-- the same, where the first byte is known: it belongs to the part
first_part_cons :
    (r : Pattern) (c : ℕ) (t : Text)
    → first_part r (c ∷ t) ≡ suc (least (length t) (λ j. matches r (c ∷ take j t) && matches (star r) (drop j t)))
unfolding first_part
first_part_cons r c t = simp (one-add, sub-one)

-- turns beyond a text's length find no further parts
enough_turns : (r : Pattern) (n m : ℕ) (t : Text) → length t ≤ n → length t ≤ m → parts_within n r t ≡ parts_within m r t
unfolding parts_within
enough_turns r zero zero t h k = refl
enough_turns r zero (suc m) [] h k = refl
enough_turns r zero (suc m) (c ∷ t) h k = absurd (not-suc-le-zero h)
enough_turns r (suc n) zero [] h k = refl
enough_turns r (suc n) zero (c ∷ t) h k = absurd (not-suc-le-zero k)
enough_turns r (suc n) (suc m) [] h k = refl
enough_turns r (suc n) (suc m) (c ∷ t) h k =
    let i = least (length t) (λ j. matches r (c ∷ take j t) && matches (star r) (drop j t)) in
    ap (λ ps. (c ∷ take i t) ∷ ps) (enough_turns r n m (drop i t) (rw length-drop (omega arith)) (rw length-drop (omega arith)))

-- the parts of a text that is not empty: the first, and those of what is behind it
pub parts_next : (r : Pattern) (t : Text) → 0 < length t → parts r t ≡ take (first_part r t) t ∷ parts r (drop (first_part r t) t)
unfolding parts parts_within
parts_next r [] h = absurd (not-suc-le-zero h)
parts_next r (c ∷ t) h =
    let i = least (length t) (λ j. matches r (c ∷ take j t) && matches (star r) (drop j t)) in
    let turns = enough_turns r (length t) (length (drop i t)) (drop i t) (rw length-drop (omega arith)) (le_refl (length (drop i t))) in
    rw (first_part_cons r c t) (ap (λ ps. (c ∷ take i t) ∷ ps) turns)

-- the first part lies within the text
pub first_part_within : (r : Pattern) (t : Text) → 0 < length t → first_part r t ≤ length t
unfolding first_part
first_part_within r t some = omega (arith, least_le (length t - 1) (λ j. matches r (take (1 + j) t) && matches (star r) (drop (1 + j) t)))
