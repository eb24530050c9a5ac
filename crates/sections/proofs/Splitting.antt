-- Lines, fields and runs of spaces: how they are read from a text that is put together from pieces, and the pieces that a text was read into.
use Rattle.std.specs.Prelude.{◌≡◌, refl, Bool, true, false, not, ◌&&◌, List, [], ◌∷◌, ◌++◌, ℕ, ◌≤◌, eqb, leb, ltb, length}
use Rattle.std.proofs.Common.{sym, ap, ◌∙◌, true≢false, append-nil, arith, eqb-true, eq-eqb, ne_eqb, leb-true, le-leb}
use Rattle.std.proofs.lemmas.Bool.{not-true}
use Rattle.semantics.specs.Text.{Text}
use Rattle.laws.specs.Basics.{never, not_both, and_both, and_of, cond_true, cond_false, false_of_not_true}
use Rattle.sections.specs.Afm.{newline, space, semicolon, minus, Lines, with_byte, lines_of, on_first, split, begins_with, squeezed, each, is_name_byte, is_name, is_digit, number_of, leading_zero, is_number, is_value}

-- ---- Texts whose bytes all pass a test

-- a byte that is not m
unfoldable pub is_not : ℕ → ℕ → Bool
is_not m b = not (eqb b m)

-- a byte that is a space
unfoldable pub is_space : ℕ → Bool
is_space b = eqb b space

-- what the two tests say
pub is_not_lem : (m b : ℕ) → is_not m b ≡ true → eqb b m ≡ false
unfolding is_not
is_not_lem m b e = not-true (eqb b m) e

pub not_is : (m b : ℕ) → eqb b m ≡ false → is_not m b ≡ true
unfolding is_not
not_is m b e = ap not e

pub space_is : (b : ℕ) → is_space b ≡ true → eqb b space ≡ true
unfolding is_space
space_is b e = e

pub is_space_lem : (b : ℕ) → eqb b space ≡ true → is_space b ≡ true
unfolding is_space
is_space_lem b e = e

-- a text of no bytes, of a byte and more, of two texts
pub each_none : (test : ℕ → Bool) → each test [] ≡ true
unfolding each
each_none test = refl

pub each_both : (test : ℕ → Bool) (b : ℕ) (t : Text) → each test (b ∷ t) ≡ true → (test b ≡ true) × (each test t ≡ true)
unfolding each
each_both test b t e = and_both (test b) (each test t) e

pub each_of : (test : ℕ → Bool) (b : ℕ) (t : Text) → test b ≡ true → each test t ≡ true → each test (b ∷ t) ≡ true
unfolding each
each_of test b t p q = and_of (test b) (each test t) p q

and_chain : (a b c : Bool) → (a && b) && c ≡ a && (b && c)
and_chain true b c = refl
and_chain false b c = refl

pub each_append : (test : ℕ → Bool) (s t : Text) → each test (s ++ t) ≡ each test s && each test t
unfolding each
each_append test [] t = refl
each_append test (b ∷ s) t = ap (λ (x : Bool). test b && x) (each_append test s t) ∙ sym (and_chain (test b) (each test s) (each test t))

pub each_join : (test : ℕ → Bool) (s t : Text) → each test s ≡ true → each test t ≡ true → each test (s ++ t) ≡ true
each_join test s t p q = each_append test s t ∙ and_of (each test s) (each test t) p q

-- what passes a test passes a weaker one
pub each_weaker :
    (test test' : ℕ → Bool) → ((b : ℕ) → test b ≡ true → test' b ≡ true) → (t : Text) → each test t ≡ true → each test' t ≡ true
each_weaker test test' weaker [] e = each_none test'
each_weaker test test' weaker (b ∷ t) e =
    let (first, later) = each_both test b t e in
    each_of test' b t (weaker b first) (each_weaker test test' weaker t later)

-- ---- Fields

-- a separator ends the first field,
split_at : (m b : ℕ) (t : Text) → eqb b m ≡ true → split m (b ∷ t) ≡ [] ∷ split m t
unfolding split
split_at m b t e = cond_true (eqb b m) ([] ∷ split m t) (on_first b (split m t)) e

-- and any other byte goes on it
split_in : (m b : ℕ) (t : Text) → eqb b m ≡ false → split m (b ∷ t) ≡ on_first b (split m t)
unfolding split
split_in m b t e = cond_false (eqb b m) ([] ∷ split m t) (on_first b (split m t)) e

-- A text without separators in front of one is the first field.
pub split_field : (m : ℕ) (w t : Text) → each (is_not m) w ≡ true → split m (w ++ m ∷ t) ≡ w ∷ split m t
unfolding on_first
split_field m [] t e = split_at m m t (eq-eqb m m refl)
split_field m (b ∷ w) t e =
    let (first, later) = each_both (is_not m) b w e in
    split_in m b (w ++ m ∷ t) (is_not_lem m b first) ∙ ap (on_first b) (split_field m w t later)

-- A text without separators is one field.
pub split_last : (m : ℕ) (w : Text) → each (is_not m) w ≡ true → split m w ≡ w ∷ []
unfolding split on_first
split_last m [] e = refl
split_last m (b ∷ w) e =
    let (first, later) = each_both (is_not m) b w e in
    split_in m b w (is_not_lem m b first) ∙ ap (on_first b) (split_last m w later)

-- a byte on the first field leaves a first field
on_first_some : (b : ℕ) (fields : List Text) → on_first b fields ≡ [] → ⊥
unfolding on_first
on_first_some b [] e = never (cc)
on_first_some b (field ∷ fields) e = never (cc)

-- There is always a first field.
pub split_some : (m : ℕ) (t : Text) → split m t ≡ [] → ⊥
split_some m [] e = never (cc (split_last m [] (each_none (is_not m))))
split_some m (b ∷ t) e = go (eqb b m) refl
  where
    go : (test : Bool) → eqb b m ≡ test → ⊥
    go true p = never (cc (split_at m b t p))
    go false p = on_first_some b (split m t) (sym (split_in m b t p) ∙ e)

-- What the text behind a byte that is no separator splits into, where the whole splits into w and fields.
record Continued (m b : ℕ) (t w : Text) (fields : List Text) : Type 0 where
  first : Text
  behind_is : split m t ≡ first ∷ fields
  word_is : w ≡ b ∷ first

on_first_lem : (m b : ℕ) (t w : Text) (fields behind : List Text) → split m t ≡ behind → on_first b behind ≡ w ∷ fields → Continued m b t w fields
unfolding on_first
on_first_lem m b t w fields [] p e = absurd (split_some m t p)
on_first_lem m b t w fields (first ∷ others) p e = record { first = first; behind_is = cc; word_is = cc }

split_continued : (m b : ℕ) (t w : Text) (fields : List Text) → eqb b m ≡ false → split m (b ∷ t) ≡ w ∷ fields → Continued m b t w fields
split_continued m b t w fields p e = on_first_lem m b t w fields (split m t) refl (sym (split_in m b t p) ∙ e)

-- A line with more than one field: the first has no separator in it, one stands behind it, and what is behind that splits into the others.
pub record FirstOf (m : ℕ) (line w f : Text) (fs : List Text) : Type 0 where
  pub rest : Text
  pub line_is : line ≡ w ++ m ∷ rest
  pub rest_is : split m rest ≡ f ∷ fs
  pub clean : each (is_not m) w ≡ true

pub split_more : (m : ℕ) (line w f : Text) (fs : List Text) → split m line ≡ w ∷ f ∷ fs → FirstOf m line w f fs
split_more m [] w f fs e = never (cc (split_last m [] (each_none (is_not m))))
split_more m (b ∷ t) w f fs e = go (eqb b m) refl (λ w' e'. split_more m t w' f fs e')
  where
    go : (test : Bool) → eqb b m ≡ test → ((w' : Text) → split m t ≡ w' ∷ f ∷ fs → FirstOf m t w' f fs) → FirstOf m (b ∷ t) w f fs
    go true p rec =
        let is : b ≡ m = eqb-true b m p in
        let empty : w ≡ [] = cc (split_at m b t p) in
        record {
          rest = t;
          line_is = ap (λ (c : ℕ). c ∷ t) is ∙ ap (λ (s : Text). s ++ m ∷ t) (sym empty);
          rest_is = cc (split_at m b t p);
          clean = ap (each (is_not m)) empty ∙ each_none (is_not m);
        }
    go false p rec =
        let c = split_continued m b t w (f ∷ fs) p e in
        let r = rec c.first c.behind_is in
        record {
          rest = r.rest;
          line_is = ap (λ (s : Text). b ∷ s) r.line_is ∙ ap (λ (s : Text). s ++ m ∷ r.rest) (sym c.word_is);
          rest_is = r.rest_is;
          clean = ap (each (is_not m)) c.word_is ∙ each_of (is_not m) b c.first (not_is m b p) r.clean;
        }

-- A line with one field is that field.
pub split_one : (m : ℕ) (line w : Text) → split m line ≡ w ∷ [] → (line ≡ w) × (each (is_not m) w ≡ true)
split_one m [] w e =
    let empty : w ≡ [] = cc (split_last m [] (each_none (is_not m))) in
    (sym empty, ap (each (is_not m)) empty ∙ each_none (is_not m))
split_one m (b ∷ t) w e = go (eqb b m) refl (λ w' e'. split_one m t w' e')
  where
    go : (test : Bool) → eqb b m ≡ test → ((w' : Text) → split m t ≡ w' ∷ [] → (t ≡ w') × (each (is_not m) w' ≡ true)) → (b ∷ t ≡ w) × (each (is_not m) w ≡ true)
    go true p rec = absurd (split_some m t (cc (split_at m b t p)))
    go false p rec =
        let c = split_continued m b t w [] p e in
        let (same, clean) = rec c.first c.behind_is in (
          ap (λ (s : Text). b ∷ s) same ∙ sym c.word_is,
          ap (each (is_not m)) c.word_is ∙ each_of (is_not m) b c.first (not_is m b p) clean,
        )

-- ---- Runs of spaces

pub begins_none : (m : ℕ) → begins_with m [] ≡ false
unfolding begins_with
begins_none m = refl

pub begins_at : (m b : ℕ) (t : Text) → begins_with m (b ∷ t) ≡ eqb b m
unfolding begins_with
begins_at m b t = refl

-- A text that begins with bytes other than m, one at least, does not begin with m.
pub clean_begins : (m : ℕ) (t u : Text) → 1 ≤ length t → each (is_not m) t ≡ true → begins_with m (t ++ u) ≡ false
clean_begins m [] u some e = absurd (omega arith)
clean_begins m (b ∷ t) u some e = begins_at m b (t ++ u) ∙ is_not_lem m b (each_both (is_not m) b t e).0

-- a space in front of another is left out,
squeezed_out : (b : ℕ) (t : Text) → eqb b space && begins_with space t ≡ true → squeezed (b ∷ t) ≡ squeezed t
unfolding squeezed
squeezed_out b t e = cond_true (eqb b space && begins_with space t) (squeezed t) (b ∷ squeezed t) e

-- and all else is kept
squeezed_kept : (b : ℕ) (t : Text) → eqb b space && begins_with space t ≡ false → squeezed (b ∷ t) ≡ b ∷ squeezed t
unfolding squeezed
squeezed_kept b t e = cond_false (eqb b space && begins_with space t) (squeezed t) (b ∷ squeezed t) e

pub squeezed_none : squeezed [] ≡ []
unfolding squeezed
squeezed_none = refl

-- a conjunction is false where one side is
pub and_left : (a b : Bool) → a ≡ false → a && b ≡ false
and_left true b e = absurd (true≢false e)
and_left false b e = refl

pub and_right : (a b : Bool) → b ≡ false → a && b ≡ false
and_right true b e = e
and_right false b e = refl

-- A word without spaces stays as it is.
pub squeezed_word : (w t : Text) → each (is_not space) w ≡ true → squeezed (w ++ t) ≡ w ++ squeezed t
squeezed_word [] t e = refl
squeezed_word (b ∷ w) t e =
    let (first, later) = each_both (is_not space) b w e in
    squeezed_kept b (w ++ t) (and_left (eqb b space) (begins_with space (w ++ t)) (is_not_lem space b first))
    ∙ ap (λ (s : Text). b ∷ s) (squeezed_word w t later)

-- So does a text without spaces, and one space between two texts, of which the second begins with none.
pub squeezed_clean : (w : Text) → each (is_not space) w ≡ true → squeezed w ≡ w
squeezed_clean w e =
    ap squeezed (sym (append-nil w)) ∙ squeezed_word w [] e ∙ ap (λ (t : Text). w ++ t) squeezed_none ∙ append-nil w

pub squeezed_between :
    (w t : Text) → each (is_not space) w ≡ true → begins_with space t ≡ false → squeezed (w ++ space ∷ t) ≡ w ++ space ∷ squeezed t
squeezed_between w t e clear =
    squeezed_word w (space ∷ t) e ∙ ap (λ (s : Text). w ++ s) (squeezed_kept space t (and_right (eqb space space) (begins_with space t) clear))

-- A newline cuts a text in two that are squeezed apart.
begins_line : (m : ℕ) (l t : Text) → eqb newline m ≡ false → begins_with m (l ++ newline ∷ t) ≡ begins_with m l
begins_line m [] t e = begins_at m newline t ∙ e ∙ sym (begins_none m)
begins_line m (b ∷ l) t e = begins_at m b (l ++ newline ∷ t) ∙ sym (begins_at m b l)

pub squeezed_line : (l t : Text) → squeezed (l ++ newline ∷ t) ≡ squeezed l ++ newline ∷ squeezed t
squeezed_line [] t =
    squeezed_kept newline t (and_left (eqb newline space) (begins_with space t) refl)
    ∙ ap (λ (s : Text). s ++ newline ∷ squeezed t) (sym squeezed_none)
squeezed_line (b ∷ l) t = go (eqb b space && begins_with space l) refl (squeezed_line l t)
  where
    same : eqb b space && begins_with space (l ++ newline ∷ t) ≡ eqb b space && begins_with space l
    same = ap (λ (x : Bool). eqb b space && x) (begins_line space l t refl)

    go :
        (test : Bool)
        → eqb b space && begins_with space l ≡ test
        → squeezed (l ++ newline ∷ t) ≡ squeezed l ++ newline ∷ squeezed t
        → squeezed (b ∷ l ++ newline ∷ t) ≡ squeezed (b ∷ l) ++ newline ∷ squeezed t
    go true p rec =
        squeezed_out b (l ++ newline ∷ t) (same ∙ p) ∙ rec ∙ ap (λ (s : Text). s ++ newline ∷ squeezed t) (sym (squeezed_out b l p))
    go false p rec =
        squeezed_kept b (l ++ newline ∷ t) (same ∙ p)
        ∙ ap (λ (s : Text). b ∷ s) rec
        ∙ ap (λ (s : Text). s ++ newline ∷ squeezed t) (sym (squeezed_kept b l p))

-- No text gets longer.
pub squeezed_short : (t : Text) → length (squeezed t) ≤ length t
squeezed_short [] = omega (arith, ap length squeezed_none)
squeezed_short (b ∷ t) = go (eqb b space && begins_with space t) refl (squeezed_short t)
  where
    go : (test : Bool) → eqb b space && begins_with space t ≡ test → length (squeezed t) ≤ length t → length (squeezed (b ∷ t)) ≤ length (b ∷ t)
    go true p rec = omega (arith, ap length (squeezed_out b t p))
    go false p rec = omega (arith, ap length (squeezed_kept b t p))

-- A run of spaces becomes one.
pub squeezed_spaces :
    (s t : Text) → each is_space s ≡ true → 1 ≤ length s → begins_with space t ≡ false → squeezed (s ++ t) ≡ space ∷ squeezed t
squeezed_spaces [] t e some clear = absurd (omega arith)
squeezed_spaces (b ∷ []) t e some clear =
    let is : b ≡ space = eqb-true b space (space_is b (each_both is_space b [] e).0) in
    squeezed_kept b t (and_right (eqb b space) (begins_with space t) clear) ∙ ap (λ (c : ℕ). c ∷ squeezed t) is
squeezed_spaces (b ∷ c ∷ s) t e some clear =
    let (first, later) = each_both is_space b (c ∷ s) e in
    let next = (each_both is_space c s later).0 in
    squeezed_out b (c ∷ s ++ t) (and_of (eqb b space) (begins_with space (c ∷ s ++ t)) (space_is b first) (begins_at space c (s ++ t) ∙ space_is c next))
    ∙ squeezed_spaces (c ∷ s) t later (omega arith) clear

-- A line that is w, one or more spaces, and a rest that begins with none.
pub record Spaced (line w t : Text) : Type 0 where
  pub spaces : Text
  pub rest : Text
  pub line_is : line ≡ w ++ (spaces ++ rest)
  pub all_spaces_lem : each is_space spaces ≡ true
  pub some : 1 ≤ length spaces
  pub rest_is : squeezed rest ≡ t
  pub clear : begins_with space rest ≡ false

-- a word without spaces that stands where a space stands is empty
no_word : (w t u : Text) → each (is_not space) w ≡ true → t ≡ w ++ u → begins_with space t ≡ true → w ≡ []
no_word [] t u e p begins = refl
no_word (b ∷ w) t u e p begins =
    absurd (not_both begins (ap (begins_with space) p ∙ clean_begins space (b ∷ w) u (omega arith) e))

none_before : (w t : Text) → ◌≡◌ {A = Text} [] (w ++ space ∷ t) → ⊥
none_before [] t e = never (cc)
none_before (b ∷ w) t e = never (cc)

-- Where a line squeezes to w, a space and t, it is w, a run of spaces, and what squeezes to t.
pub squeezed_more : (line w t : Text) → squeezed line ≡ w ++ space ∷ t → each (is_not space) w ≡ true → Spaced line w t
squeezed_more [] w t e clean = absurd (none_before w t (sym squeezed_none ∙ e))
squeezed_more (b ∷ l) w t e clean = go (eqb b space && begins_with space l) refl w e clean (squeezed_more l)
  where
    go :
        (test : Bool)
        → eqb b space && begins_with space l ≡ test
        → (w : Text)
        → squeezed (b ∷ l) ≡ w ++ space ∷ t
        → each (is_not space) w ≡ true
        → ((w t : Text) → squeezed l ≡ w ++ space ∷ t → each (is_not space) w ≡ true → Spaced l w t)
        → Spaced (b ∷ l) w t
    go true p w e clean rec =
        let r = rec w t (sym (squeezed_out b l p) ∙ e) clean in
        let (is, begins) = and_both (eqb b space) (begins_with space l) p in
        let empty : w ≡ [] = no_word w l (r.spaces ++ r.rest) clean r.line_is begins in
        let line_is : l ≡ r.spaces ++ r.rest = r.line_is ∙ ap (λ (s : Text). s ++ (r.spaces ++ r.rest)) empty in
        record {
          spaces = b ∷ r.spaces;
          rest = r.rest;
          line_is = ap (λ (s : Text). b ∷ s) line_is ∙ ap (λ (s : Text). s ++ (b ∷ r.spaces ++ r.rest)) (sym empty);
          all_spaces_lem = each_of is_space b r.spaces (is_space_lem b is) r.all_spaces_lem;
          some = omega arith;
          rest_is = r.rest_is;
          clear = r.clear;
        }
    go false p [] e clean rec =
        let whole : b ∷ squeezed l ≡ space ∷ t = sym (squeezed_kept b l p) ∙ e in
        let is : b ≡ space = cc in
        let test : eqb b space ≡ true = eq-eqb b space is in
        record {
          spaces = b ∷ [];
          rest = l;
          line_is = refl;
          all_spaces_lem = each_of is_space b [] (is_space_lem b test) (each_none is_space);
          some = omega arith;
          rest_is = cc;
          clear = sym (ap (λ (x : Bool). x && begins_with space l) test) ∙ p;
        }
    go false p (c ∷ w) e clean rec =
        let whole : b ∷ squeezed l ≡ c ∷ (w ++ space ∷ t) = sym (squeezed_kept b l p) ∙ e in
        let is : b ≡ c = cc in
        let r = rec w t (cc) (each_both (is_not space) c w clean).1 in
        record {
          spaces = r.spaces;
          rest = r.rest;
          line_is = ap (λ (s : Text). b ∷ s) r.line_is ∙ ap (λ (d : ℕ). d ∷ (w ++ (r.spaces ++ r.rest))) is;
          all_spaces_lem = r.all_spaces_lem;
          some = r.some;
          rest_is = r.rest_is;
          clear = r.clear;
        }

-- no word without spaces begins with one
word_begins : (w l : Text) → each (is_not space) w ≡ true → l ≡ w → begins_with space l ≡ true → ⊥
word_begins [] l clean same begins = not_both begins (ap (begins_with space) same ∙ begins_none space)
word_begins (b ∷ w) l clean same begins =
    not_both begins (ap (begins_with space) same ∙ begins_at space b w ∙ is_not_lem space b (each_both (is_not space) b w clean).0)

-- A line that squeezes to a word without spaces is that word.
pub squeezed_one : (line w : Text) → squeezed line ≡ w → each (is_not space) w ≡ true → line ≡ w
squeezed_one [] w e clean = sym squeezed_none ∙ e
squeezed_one (b ∷ l) w e clean = go (eqb b space && begins_with space l) refl w e clean (squeezed_one l)
  where
    go :
        (test : Bool)
        → eqb b space && begins_with space l ≡ test
        → (w : Text)
        → squeezed (b ∷ l) ≡ w
        → each (is_not space) w ≡ true
        → ((w : Text) → squeezed l ≡ w → each (is_not space) w ≡ true → l ≡ w)
        → b ∷ l ≡ w
    go true p w e clean rec =
        let same : l ≡ w = rec w (sym (squeezed_out b l p) ∙ e) clean in
        let (is, begins) = and_both (eqb b space) (begins_with space l) p in
        absurd (word_begins w l clean same begins)
    go false p [] e clean rec = never (cc (squeezed_kept b l p))
    go false p (c ∷ w) e clean rec =
        let whole : b ∷ squeezed l ≡ c ∷ w = sym (squeezed_kept b l p) ∙ e in
        let is : b ≡ c = cc in
        let same : l ≡ w = rec w (cc) (each_both (is_not space) c w clean).1 in
        cc

-- ---- Lines

lines_newline : (b : ℕ) (t : Text) → eqb b newline ≡ true → lines_of (b ∷ t) ≡ record { ended = [] ∷ (lines_of t).ended; rest = (lines_of t).rest }
unfolding lines_of
lines_newline b t e =
    cond_true (eqb b newline) (record { ended = [] ∷ (lines_of t).ended; rest = (lines_of t).rest }) (with_byte b (lines_of t).ended (lines_of t).rest) e

lines_other : (b : ℕ) (t : Text) → eqb b newline ≡ false → lines_of (b ∷ t) ≡ with_byte b (lines_of t).ended (lines_of t).rest
unfolding lines_of
lines_other b t e =
    cond_false (eqb b newline) (record { ended = [] ∷ (lines_of t).ended; rest = (lines_of t).rest }) (with_byte b (lines_of t).ended (lines_of t).rest) e

pub lines_empty : lines_of [] ≡ record { ended = []; rest = [] }
unfolding lines_of
lines_empty = refl

-- A line in front of a newline is the first line.
pub lines_ended :
    (line t : Text)
    → each (is_not newline) line ≡ true
    → lines_of (line ++ newline ∷ t) ≡ record { ended = line ∷ (lines_of t).ended; rest = (lines_of t).rest }
unfolding with_byte
lines_ended [] t e = lines_newline newline t (eq-eqb newline newline refl)
lines_ended (b ∷ line) t e =
    let (first, later) = each_both (is_not newline) b line e in
    lines_other b (line ++ newline ∷ t) (is_not_lem newline b first)
    ∙ ap (λ (behind : Lines). with_byte b behind.ended behind.rest) (lines_ended line t later)

-- A text without newlines has no ended line, and is all rest.
pub lines_none : (t : Text) → each (is_not newline) t ≡ true → lines_of t ≡ record { ended = []; rest = t }
unfolding with_byte
lines_none [] e = lines_empty
lines_none (b ∷ t) e =
    let (first, later) = each_both (is_not newline) b t e in
    lines_other b t (is_not_lem newline b first) ∙ ap (λ (behind : Lines). with_byte b behind.ended behind.rest) (lines_none t later)

-- A text with an ended line: it is that line, a newline, and a text with the other lines and the same rest.
pub record FirstLine (t line : Text) (lines : List Text) : Type 0 where
  pub behind : Text
  pub text_is : t ≡ line ++ newline ∷ behind
  pub ended_is : (lines_of behind).ended ≡ lines
  pub rest_is : (lines_of behind).rest ≡ (lines_of t).rest
  pub clean : each (is_not newline) line ≡ true

-- a byte in front of lines goes on the first,
record WithFirst (b : ℕ) (ended lines : List Text) (rest line : Text) : Type 0 where
  first : Text
  ended_is : ended ≡ first ∷ lines
  line_is : line ≡ b ∷ first
  same_rest : (with_byte b ended rest).rest ≡ rest

with_byte_lem : (b : ℕ) (ended : List Text) (rest line : Text) (lines : List Text) → (with_byte b ended rest).ended ≡ line ∷ lines → WithFirst b ended lines rest line
unfolding with_byte
with_byte_lem b [] rest line lines e = never (cc)
with_byte_lem b (first ∷ others) rest line lines e = record { first = first; ended_is = cc; line_is = cc; same_rest = refl }

-- and with no line on the rest
with_none : (b : ℕ) (ended : List Text) (rest : Text) → (with_byte b ended rest).ended ≡ [] → (ended ≡ []) × ((with_byte b ended rest).rest ≡ b ∷ rest)
unfolding with_byte
with_none b [] rest e = (refl, refl)
with_none b (first ∷ others) rest e = never (cc)

pub lines_first : (t line : Text) (lines : List Text) → (lines_of t).ended ≡ line ∷ lines → FirstLine t line lines
lines_first [] line lines e = let none : ◌≡◌ {A = List Text} [] (line ∷ lines) = sym (ap (λ (l : Lines). l.ended) lines_empty) ∙ e in never (cc)
lines_first (b ∷ t) line lines e = go (eqb b newline) refl (lines_first t)
  where
    go :
        (test : Bool)
        → eqb b newline ≡ test
        → ((line : Text) (lines : List Text) → (lines_of t).ended ≡ line ∷ lines → FirstLine t line lines)
        → FirstLine (b ∷ t) line lines
    go true p rec =
        let whole : [] ∷ (lines_of t).ended ≡ line ∷ lines = sym (ap (λ (l : Lines). l.ended) (lines_newline b t p)) ∙ e in
        let is : b ≡ newline = eqb-true b newline p in
        let empty : line ≡ [] = cc in
        record {
          behind = t;
          text_is = ap (λ (c : ℕ). c ∷ t) is ∙ ap (λ (s : Text). s ++ newline ∷ t) (sym empty);
          ended_is = cc;
          rest_is = sym (ap (λ (l : Lines). l.rest) (lines_newline b t p));
          clean = ap (each (is_not newline)) empty ∙ each_none (is_not newline);
        }
    go false p rec =
        let other = lines_other b t p in
        let c = with_byte_lem b (lines_of t).ended (lines_of t).rest line lines (sym (ap (λ (l : Lines). l.ended) other) ∙ e) in
        let r = rec c.first lines c.ended_is in
        record {
          behind = r.behind;
          text_is = ap (λ (s : Text). b ∷ s) r.text_is ∙ ap (λ (s : Text). s ++ newline ∷ r.behind) (sym c.line_is);
          ended_is = r.ended_is;
          rest_is = r.rest_is ∙ sym (ap (λ (l : Lines). l.rest) other ∙ c.same_rest);
          clean = ap (each (is_not newline)) c.line_is ∙ each_of (is_not newline) b c.first (not_is newline b p) r.clean;
        }

-- A text with no ended line has no newline, and is all rest.
pub lines_last : (t : Text) → (lines_of t).ended ≡ [] → ((lines_of t).rest ≡ t) × (each (is_not newline) t ≡ true)
lines_last [] e = (ap (λ (l : Lines). l.rest) lines_empty, each_none (is_not newline))
lines_last (b ∷ t) e = go (eqb b newline) refl (lines_last t)
  where
    go :
        (test : Bool)
        → eqb b newline ≡ test
        → ((lines_of t).ended ≡ [] → ((lines_of t).rest ≡ t) × (each (is_not newline) t ≡ true))
        → ((lines_of (b ∷ t)).rest ≡ b ∷ t) × (each (is_not newline) (b ∷ t) ≡ true)
    go true p rec = let whole : [] ∷ (lines_of t).ended ≡ [] = sym (ap (λ (l : Lines). l.ended) (lines_newline b t p)) ∙ e in never (cc)
    go false p rec =
        let other = lines_other b t p in
        let (none, rest_is) = with_none b (lines_of t).ended (lines_of t).rest (sym (ap (λ (l : Lines). l.ended) other) ∙ e) in
        let (same, clean) = rec none in (
          ap (λ (l : Lines). l.rest) other ∙ rest_is ∙ ap (λ (s : Text). b ∷ s) same,
          each_of (is_not newline) b t (not_is newline b p) clean,
        )

-- ---- Names, values and numbers have no newline, space or semicolon

pub newline_no_name : is_name_byte newline ≡ false
unfolding is_name_byte
newline_no_name = refl

pub space_no_name : is_name_byte space ≡ false
unfolding is_name_byte
space_no_name = refl

pub semicolon_no_name : is_name_byte semicolon ≡ false
unfolding is_name_byte
semicolon_no_name = refl

-- A byte of a name is not one that no name has.
pub name_byte_clean : (m : ℕ) → is_name_byte m ≡ false → (b : ℕ) → is_name_byte b ≡ true → is_not m b ≡ true
name_byte_clean m never-named b e =
    not_is m b (false_of_not_true (eqb b m) (λ p. not_both (sym (ap is_name_byte (eqb-true b m p)) ∙ e) never-named))

-- digits and the minus are bytes of names
pub name_byte_of : (b : ℕ) → 33 ≤ b → b ≤ 126 → (b ≡ semicolon → ⊥) → is_name_byte b ≡ true
unfolding is_name_byte
name_byte_of b low high other =
    and_of (leb 33 b && leb b 126) (not (eqb b semicolon)) (and_of (leb 33 b) (leb b 126) (le-leb 33 b low) (le-leb b 126 high)) (ap not (ne_eqb b semicolon other))

-- what the test of a digit says, both ways
pub digit_range : (b : ℕ) → is_digit b ≡ true → (48 ≤ b) × (b ≤ 57)
unfolding is_digit
digit_range b e = let (low, high) = and_both (leb 48 b) (leb b 57) e in (leb-true 48 b low, leb-true b 57 high)

pub digit_of : (b : ℕ) → 48 ≤ b → b ≤ 57 → is_digit b ≡ true
unfolding is_digit
digit_of b low high = and_of (leb 48 b) (leb b 57) (le-leb 48 b low) (le-leb b 57 high)

pub digit_byte : (b : ℕ) → is_digit b ≡ true → is_name_byte b ≡ true
digit_byte b e = let (low, high) = digit_range b e in name_byte_of b (omega arith) (omega arith) (λ p. omega arith)

-- what a name, a number and a value are
pub record LegalName (t : Text) : Type 0 where
  pub some : 1 ≤ length t
  pub short : length t ≤ 63
  pub bytes : each is_name_byte t ≡ true

pub name_of : (t : Text) → is_name t ≡ true → LegalName t
unfolding is_name
name_of t e =
    let (sizes, bytes) = and_both (leb 1 (length t) && leb (length t) 63) (each is_name_byte t) e in
    let (some, short) = and_both (leb 1 (length t)) (leb (length t) 63) sizes in
    record { some = leb-true 1 (length t) some; short = leb-true (length t) 63 short; bytes = bytes }

pub record LegalNumber (limit : ℕ) (t : Text) : Type 0 where
  pub some : 1 ≤ length t
  pub digits : each is_digit t ≡ true
  pub no_zero : leading_zero t ≡ false
  pub within : number_of t ≤ limit

pub number_of_lem : (limit : ℕ) (t : Text) → is_number limit t ≡ true → LegalNumber limit t
unfolding is_number
number_of_lem limit t e =
    let (form, within) = and_both (leb 1 (length t) && each is_digit t && not (leading_zero t)) (leb (number_of t) limit) e in
    let (text, no_zero) = and_both (leb 1 (length t) && each is_digit t) (not (leading_zero t)) form in
    let (some, digits) = and_both (leb 1 (length t)) (each is_digit t) text in
    record {
      some = leb-true 1 (length t) some;
      digits = digits;
      no_zero = not-true (leading_zero t) no_zero;
      within = leb-true (number_of t) limit within;
    }

pub is_number_lem : (limit : ℕ) (t : Text) → LegalNumber limit t → is_number limit t ≡ true
unfolding is_number
is_number_lem limit t n =
    and_of
    (leb 1 (length t) && each is_digit t && not (leading_zero t))
    (leb (number_of t) limit)
    (and_of
    (leb 1 (length t) && each is_digit t)
    (not (leading_zero t))
    (and_of (leb 1 (length t)) (each is_digit t) (le-leb 1 (length t) n.some) n.digits)
    (ap not n.no_zero))
    (le-leb (number_of t) limit n.within)

-- a value that begins with a minus is a number behind it that is not nought, and any other is a number
pub value_minus : (t : Text) → is_value (minus ∷ t) ≡ is_number 32768 t && ltb 0 (number_of t)
unfolding is_value
value_minus t = refl

pub value_plain : (b : ℕ) (t : Text) → eqb b minus ≡ false → is_value (b ∷ t) ≡ is_number 32767 (b ∷ t)
unfolding is_value
value_plain b t e = cond_false (eqb b minus) (is_number 32768 t && ltb 0 (number_of t)) (is_number 32767 (b ∷ t)) e

pub value_none : is_value [] ≡ false
unfolding is_value
value_none = refl

-- names, numbers and values are bytes that names may have, one at least
pub number_bytes : (limit : ℕ) (t : Text) → is_number limit t ≡ true → each is_name_byte t ≡ true
number_bytes limit t e = each_weaker is_digit is_name_byte digit_byte t (number_of_lem limit t e).digits

pub value_bytes : (t : Text) → is_value t ≡ true → each is_name_byte t ≡ true
value_bytes [] e = each_none is_name_byte
value_bytes (b ∷ t) e = go (eqb b minus) refl
  where
    go : (test : Bool) → eqb b minus ≡ test → each is_name_byte (b ∷ t) ≡ true
    go true p =
        let is : b ≡ minus = eqb-true b minus p in
        let number = (and_both (is_number 32768 t) (ltb 0 (number_of t)) (sym (value_minus t) ∙ ap (λ (c : ℕ). is_value (c ∷ t)) (sym is) ∙ e)).0 in
        each_of is_name_byte b t (name_byte_of b (omega arith) (omega arith) (λ q. omega arith)) (number_bytes 32768 t number)
    go false p = number_bytes 32767 (b ∷ t) (sym (value_plain b t p) ∙ e)

pub name_some : (t : Text) → is_name t ≡ true → 1 ≤ length t
name_some t e = (name_of t e).some

pub number_some : (limit : ℕ) (t : Text) → is_number limit t ≡ true → 1 ≤ length t
number_some limit t e = (number_of_lem limit t e).some

pub value_some : (t : Text) → is_value t ≡ true → 1 ≤ length t
value_some [] e = absurd (not_both e value_none)
value_some (b ∷ t) e = omega arith

-- so none has a byte that no name may have,
pub name_clean : (m : ℕ) → is_name_byte m ≡ false → (t : Text) → is_name t ≡ true → each (is_not m) t ≡ true
name_clean m never-named t e = each_weaker is_name_byte (is_not m) (name_byte_clean m never-named) t (name_of t e).bytes

pub value_clean : (m : ℕ) → is_name_byte m ≡ false → (t : Text) → is_value t ≡ true → each (is_not m) t ≡ true
value_clean m never-named t e = each_weaker is_name_byte (is_not m) (name_byte_clean m never-named) t (value_bytes t e)

pub number_clean : (m : ℕ) → is_name_byte m ≡ false → (limit : ℕ) (t : Text) → is_number limit t ≡ true → each (is_not m) t ≡ true
number_clean m never-named limit t e = each_weaker is_name_byte (is_not m) (name_byte_clean m never-named) t (number_bytes limit t e)

-- and with more text behind it none begins with a space
pub name_begins : (t u : Text) → is_name t ≡ true → begins_with space (t ++ u) ≡ false
name_begins t u e = clean_begins space t u (name_some t e) (name_clean space space_no_name t e)

pub value_begins : (t u : Text) → is_value t ≡ true → begins_with space (t ++ u) ≡ false
value_begins t u e = clean_begins space t u (value_some t e) (value_clean space space_no_name t e)

pub number_begins : (limit : ℕ) (t u : Text) → is_number limit t ≡ true → begins_with space (t ++ u) ≡ false
number_begins limit t u e = clean_begins space t u (number_some limit t e) (number_clean space space_no_name limit t e)
