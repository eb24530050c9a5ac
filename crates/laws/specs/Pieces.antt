-- What a lens does on a text that is put together from pieces, said on the pieces.
use Rattle.std.specs.Prelude.{◌≡◌, false, List, ◌++◌, map, take, drop}
use Rattle.std.proofs.Math.Path.{ap, ap₂}
use Rattle.std.proofs.Math.Option.{Option, some}
use Rattle.semantics.specs.Text.{Text, joined, All, or_else, apply}
use Rattle.semantics.specs.Pattern.{Pattern, In, matches}
use Rattle.semantics.specs.Ambiguity.{TwoCuts, Overlap, BadRepeat}
use Rattle.semantics.specs.Lens.{Lens, join, union, repeat, Side, source, sheet, language, cut_at, Book, get, entries, and_then, Arm, put_left, put_right, arm_of, write_arm, write_parts, write}
use Rattle.semantics.specs.Tally.{meet_arm, meet_parts, met}
use Rattle.laws.specs.Basics.{cond_true, cond_false, false_of_not_true}
use Rattle.laws.specs.Membership.{matches_in_lem, in_matches}
use Rattle.laws.specs.Cuts.{cut_left, cut_right, parts_is}

-- A text of the right pattern is not one of the left, where no text is of both.
pub not_left : (r s : Pattern) → ¬ Overlap r s → (t : Text) → In s t → matches r t ≡ false
not_left r s apart t i =
    false_of_not_true (matches r t) (λ e. apart (record { text = t; in_left = matches_in_lem r t e; in_right = i }))

-- What is made of the two halves that a cut leaves is made of the two texts that were joined.
at_cut :
    {X : Type 0} (r s : Pattern) → ¬ TwoCuts r s → (u v : Text) → In r u → In s v → (make : Text → Text → X)
    → make (take (cut_at r s (u ++ v)) (u ++ v)) (drop (cut_at r s (u ++ v)) (u ++ v)) ≡ make u v
at_cut r s one u v i j make = ap₂ make (cut_left r s one u v i j) (cut_right r s one u v i j)

-- Of a join: the two halves are read apart.
module _
    (l m : Lens)
    (one : ¬ TwoCuts (language source l) (language source m))
    (u v : Text)
    (i : In (language source l) u)
    (j : In (language source m) v) where
  pub get_join : get (join l m) (u ++ v) ≡ get l u ++ get m v
  unfolding get
  get_join = at_cut (language source l) (language source m) one u v i j (λ x y. get l x ++ get m y)

  pub entries_join : entries (join l m) (u ++ v) ≡ entries l u ++ entries m v
  unfolding entries
  entries_join = at_cut (language source l) (language source m) one u v i j (λ x y. entries l x ++ entries m y)

-- Of a union: the arm that the text is of reads it.
module _ (l m : Lens) where
  pub get_left : (t : Text) → In (language source l) t → get (union l m) t ≡ get l t
  unfolding get
  get_left t i = cond_true (matches (language source l) t) (get l t) (get m t) (in_matches (language source l) t i)

  pub entries_left : (t : Text) → In (language source l) t → entries (union l m) t ≡ entries l t
  unfolding entries
  entries_left t i = cond_true (matches (language source l) t) (entries l t) (entries m t) (in_matches (language source l) t i)

  module _ (apart : ¬ Overlap (language source l) (language source m)) (t : Text) (i : In (language source m) t) where
    pub get_right : get (union l m) t ≡ get m t
    unfolding get
    get_right = cond_false (matches (language source l) t) (get l t) (get m t) (not_left (language source l) (language source m) apart t i)

    pub entries_right : entries (union l m) t ≡ entries m t
    unfolding entries
    entries_right =
        cond_false (matches (language source l) t) (entries l t) (entries m t) (not_left (language source l) (language source m) apart t i)

-- Of a repeat: each part is read on its own.
module _ (l : Lens) (good : ¬ BadRepeat (language source l)) (ps : List Text) (all : All (In (language source l)) ps) where
  pub get_repeat : get (repeat l) (joined ps) ≡ joined (map (get l) ps)
  unfolding get
  get_repeat = ap (λ qs. joined (map (get l) qs)) (parts_is (language source l) good ps all)

  pub entries_repeat : entries (repeat l) (joined ps) ≡ joined (map (entries l) ps)
  unfolding entries
  entries_repeat = ap (λ qs. joined (map (entries l) qs)) (parts_is (language source l) good ps all)

-- ---- Put, where the old text and the sheet have such pieces

-- a join writes half on half, and so it meets its matches
module _
    (l m : Lens)
    (one : (side : Side) → ¬ TwoCuts (language side l) (language side m))
    (u v : Text)
    (i : In (language source l) u)
    (j : In (language source m) v)
    (x y : Text)
    (p : In (language sheet l) x)
    (q : In (language sheet m) y) where
  pub write_join : (b : Book) → write (join l m) (some (u ++ v)) (x ++ y) b ≡ and_then (write l (some u) x b) (write m (some v) y)
  unfolding write or_else apply
  write_join b = simp (cut_left, cut_right, one source, one sheet)

  pub met_join : met (join l m) (some (u ++ v)) (x ++ y) ≡ met l (some u) x ++ met m (some v) y
  unfolding met or_else apply
  met_join = simp (cut_left, cut_right, one source, one sheet)

-- the arm that a union takes for a sheet, with an old source or without one
abbrev pub arm_for : Lens → Lens → Option Text → Text → Arm
arm_for l m old a = arm_of (apply (matches (language source l)) old) (matches (language sheet l) a) (matches (language sheet m) a)

-- it keeps the old source's arm, if the sheet is of that arm too
arm_left : (l m : Lens) (t : Text) → In (language source l) t → (a : Text) → In (language sheet l) a → arm_for l m (some t) a ≡ put_left
unfolding arm_of apply
arm_left l m t i a j =
    ap₂ (λ x y. arm_of (some x) y (matches (language sheet m) a)) (in_matches (language source l) t i) (in_matches (language sheet l) a j)

-- so with the right arm, where no source is of both
arm_right :
    (l m : Lens) → ¬ Overlap (language source l) (language source m)
    → (t : Text) → In (language source m) t → (a : Text) → In (language sheet m) a → arm_for l m (some t) a ≡ put_right
unfolding arm_of apply
arm_right l m apart t i a j =
    ap₂
    (λ x y. arm_of (some x) (matches (language sheet l) a) y)
    (not_left (language source l) (language source m) apart t i)
    (in_matches (language sheet m) a j)

-- so that arm writes, and meets its matches
module _ (l m : Lens) (t : Text) (i : In (language source l) t) (a : Text) (j : In (language sheet l) a) where
  pub write_left : (b : Book) → write (union l m) (some t) a b ≡ write l (some t) a b
  unfolding write apply write_arm
  write_left b = ap (λ arm. write_arm (write l) (write m) arm (some t) a b) (arm_left l m t i a j)

  pub met_left : met (union l m) (some t) a ≡ met l (some t) a
  unfolding met apply meet_arm
  met_left = ap (λ arm. meet_arm (met l) (met m) arm (some t) a) (arm_left l m t i a j)

module _
    (l m : Lens)
    (apart : ¬ Overlap (language source l) (language source m))
    (t : Text)
    (i : In (language source m) t)
    (a : Text)
    (j : In (language sheet m) a) where
  pub write_right : (b : Book) → write (union l m) (some t) a b ≡ write m (some t) a b
  unfolding write apply write_arm
  write_right b = ap (λ arm. write_arm (write l) (write m) arm (some t) a b) (arm_right l m apart t i a j)

  pub met_right : met (union l m) (some t) a ≡ met m (some t) a
  unfolding met apply meet_arm
  met_right = ap (λ arm. meet_arm (met l) (met m) arm (some t) a) (arm_right l m apart t i a j)

-- a repeat writes part on part, and so it meets its matches
module _
    (l : Lens)
    (good : (side : Side) → ¬ BadRepeat (language side l))
    (ps : List Text)
    (all : All (In (language source l)) ps)
    (qs : List Text)
    (all' : All (In (language sheet l)) qs) where
  pub write_repeat : (b : Book) → write (repeat l) (some (joined ps)) (joined qs) b ≡ write_parts (write l) ps qs b
  unfolding write or_else apply
  write_repeat b =
      ap₂
      (λ x y. write_parts (write l) x y b)
      (parts_is (language source l) (good source) ps all)
      (parts_is (language sheet l) (good sheet) qs all')

  pub met_repeat : met (repeat l) (some (joined ps)) (joined qs) ≡ meet_parts (met l) ps qs
  unfolding met or_else apply
  met_repeat =
      ap₂ (meet_parts (met l)) (parts_is (language source l) (good source) ps all) (parts_is (language sheet l) (good sheet) qs all')
