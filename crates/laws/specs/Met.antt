-- The sheet entries that a put meets: what they leave of the book, how they are counted, and how many there can be.
use Rattle.std.specs.Prelude.{◌≡◌, refl, Bool, true, false, ◌&&◌, cond, List, [], ◌∷◌, ◌++◌, ℕ, zero, suc, ◌+◌, ◌*◌, ◌≤◌, max, length, take, drop}
use Rattle.std.proofs.Common.{sym, ap, ap₂, ◌∙◌, true≢false, le_trans, le-add_left, le-add_right, mul-add, mul-le-mul_left, mul-le-mul_right, arith, length-append, length-take, length-drop}
use Rattle.std.proofs.Math.Option.{Option, none, some}
use Rattle.std.proofs.Math.Nat.{le-max_right}
use Rattle.semantics.specs.Text.{Text, or_else, apply, least}
use Rattle.semantics.specs.Pattern.{Pattern, star, matches}
use Rattle.semantics.specs.Lens.{Lens, copy, const, key, join, union, repeat, match, source, sheet, language, cut_at, parts_within, parts, Entry, Book, answers, keeping, take_entry, Written, and_then, Arm, put_left, put_right, create_left, create_right, write_arm, write_parts, write_match, write}
use Rattle.semantics.specs.Table.{holds_match, lens_size}
use Rattle.semantics.specs.Tally.{Met, Meeting, meet_arm, meet_parts, met, Tally, counting, tallied}
use Rattle.laws.specs.Basics.{all_of, or_neither}
use Rattle.laws.specs.WellTyped.{WellTyped}
use Rattle.laws.specs.Pieces.{arm_for}
use Rattle.laws.specs.GetPut.{halves_length}
use Rattle.laws.specs.Bookless.{Unasked, asks, asks_nothing, unasked_writes}

-- ---- A lens that holds no match

-- parts that meet nothing meet nothing together
parts_nothing : (meet : Meeting) → ((old : Option Text) (a : Text) → meet old a ≡ []) → (olds sheets : List Text) → meet_parts meet olds sheets ≡ []
unfolding meet_parts
parts_nothing meet law olds [] = refl
parts_nothing meet law [] (a ∷ sheets) = ap₂ ◌++◌ (law none a) (parts_nothing meet law [] sheets)
parts_nothing meet law (t ∷ olds) (a ∷ sheets) = ap₂ ◌++◌ (law (some t) a) (parts_nothing meet law olds sheets)

-- nor does the arm of a union, whichever it is
arm_nothing :
    (left right : Meeting) → ((old : Option Text) (a : Text) → left old a ≡ []) → ((old : Option Text) (a : Text) → right old a ≡ [])
    → (arm : Arm) (old : Option Text) (a : Text) → meet_arm left right arm old a ≡ []
unfolding meet_arm
arm_nothing left right p q put_left old a = p old a
arm_nothing left right p q put_right old a = q old a
arm_nothing left right p q create_left old a = p none a
arm_nothing left right p q create_right old a = q none a

-- a lens that holds no match meets none
pub met_nothing : (l : Lens) → holds_match l ≡ false → (old : Option Text) (a : Text) → met l old a ≡ []
unfolding holds_match met
met_nothing (copy r) free old a = refl
met_nothing (const r w d) free old a = refl
met_nothing (key r) free old a = refl
met_nothing (join l m) free old a =
    let (p, q) = or_neither (holds_match l) (holds_match m) free in
    ap₂ ◌++◌ (met_nothing l p _ _) (met_nothing m q _ _)
met_nothing (union l m) free old a =
    let (p, q) = or_neither (holds_match l) (holds_match m) free in
    arm_nothing (met l) (met m) (met_nothing l p) (met_nothing m q) (arm_for l m old a) old a
met_nothing (repeat l) free old a = parts_nothing (met l) (met_nothing l free) _ _
met_nothing (match n l) free old a = absurd (true≢false free)

-- ---- The book that they leave

-- the book after each of them has looked its entry up
unfoldable pub left_by : List Met → Book → Book
left_by [] b = b
left_by (m ∷ ms) b = left_by ms (take_entry m.child m.key_text b).left

-- some of them, and then the others
pub left_append : (ms ns : List Met) (b : Book) → left_by (ms ++ ns) b ≡ left_by ns (left_by ms b)
unfolding left_by
left_append [] ns b = refl
left_append (m ∷ ms) ns b = left_append ms ns (take_entry m.child m.key_text b).left

-- what a writer of one text leaves, and then that of the next
then_left :
    (w : Written) (next : Book → Written) (ms ns : List Met) (b : Book)
    → w.book ≡ left_by ms b
    → ((c : Book) → (next c).book ≡ left_by ns c)
    → (and_then w next).book ≡ left_by (ms ++ ns) b
unfolding and_then
then_left w next ms ns b first second = second w.book ∙ ap (left_by ns) first ∙ sym (left_append ms ns b)

-- what the law says of a lens
abbrev Leaves : Lens → Type 0
Leaves l = (old : Option Text) (a : Text) (b : Book) → (write l old a b).book ≡ left_by (met l old a) b

-- whichever arm a union takes
arm_left :
    (l m : Lens) → Leaves l → Leaves m
    → (arm : Arm) (old : Option Text) (a : Text) (b : Book)
    → (write_arm (write l) (write m) arm old a b).book ≡ left_by (meet_arm (met l) (met m) arm old a) b
unfolding write_arm meet_arm
arm_left l m left right put_left old a b = left old a b
arm_left l m left right put_right old a b = right old a b
arm_left l m left right create_left old a b = left none a b
arm_left l m left right create_right old a b = right none a b

-- part behind part
parts_left :
    (l : Lens) → Leaves l → (olds sheets : List Text) (b : Book) → (write_parts (write l) olds sheets b).book ≡ left_by (meet_parts (met l) olds sheets) b
unfolding write_parts meet_parts left_by
parts_left l law olds [] b = refl
parts_left l law [] (a ∷ sheets) b =
    then_left (write l none a b) (write_parts (write l) [] sheets) (met l none a) (meet_parts (met l) [] sheets) b (law none a b) (parts_left l law [] sheets)
parts_left l law (t ∷ olds) (a ∷ sheets) b =
    then_left
    (write l (some t) a b)
    (write_parts (write l) olds sheets)
    (met l (some t) a)
    (meet_parts (met l) olds sheets)
    b
    (law (some t) a b)
    (parts_left l law olds sheets)

-- a lens that holds no match leaves the book that it gets
leaves_all : (l : Lens) → holds_match l ≡ false → (old : Option Text) (a : Text) (b : Book) → (write l old a b).book ≡ b
leaves_all l free old a b =
    let u : Unasked l b = record { each = all_of (λ (e : Entry). asks l e.child ≡ false) b (λ e at-e. asks_nothing l free e.child) } in
    ap (λ (w : Written). w.book) (unasked_writes l old a b u)

-- A lens leaves the book that the matches it meets leave.
pub writes_left : (l : Lens) → WellTyped l → (old : Option Text) (a : Text) (b : Book) → (write l old a b).book ≡ left_by (met l old a) b
unfolding WellTyped write write_match met left_by
writes_left (copy r) typed old a b = refl
writes_left (const r w d) typed old a b = refl
writes_left (key r) typed old a b = refl
writes_left (join l m) typed old a b =
    let i = cut_at (language sheet l) (language sheet m) a in
    let j = or_else 0 (apply (cut_at (language source l) (language source m)) old) in
    then_left
    (write l (apply (take j) old) (take i a) b)
    (write m (apply (drop j) old) (drop i a))
    (met l (apply (take j) old) (take i a))
    (met m (apply (drop j) old) (drop i a))
    b
    (writes_left l typed.1 (apply (take j) old) (take i a) b)
    (writes_left m typed.2 (apply (drop j) old) (drop i a))
writes_left (union l m) typed old a b = arm_left l m (writes_left l typed.1) (writes_left m typed.2) (arm_for l m old a) old a b
writes_left (repeat l) typed old a b = parts_left l (writes_left l typed.1) _ _ b
writes_left (match n l) typed old a b = leaves_all l typed.0 _ a _

-- ---- The counts

-- how many entries a lookup took out
unfoldable took : Option Text → ℕ
took none = 0
took (some t) = 1

-- it takes what it finds out of the book, and nothing else
taken_count : (n : ℕ) (k : Text) (b : Book) → took (take_entry n k b).found + length (take_entry n k b).left ≡ length b
unfolding take_entry keeping took
taken_count n k [] = refl
taken_count n k (e ∷ b) = go (answers n k e) (taken_count n k b)
  where
    go :
        (x : Bool) → took (take_entry n k b).found + length (take_entry n k b).left ≡ length b
        → let t = cond x (record { found = some e.text; left = b }) (keeping e (take_entry n k b)) in
        took t.found + length t.left ≡ length (e ∷ b)
    go true later = omega arith
    go false later = omega arith

-- one more sheet entry is kept or made, and an old entry kept if it was found
counted : (o : Option Text) (n : Tally) → ((counting o n).kept ≡ took o + n.kept) × ((counting o n).kept + (counting o n).made ≡ suc (n.kept + n.made))
unfolding counting took
counted none n = (omega arith, omega arith)
counted (some t) n = (omega arith, omega arith)

-- and none is dropped by it
same_dropped : (o : Option Text) (n : Tally) → (counting o n).dropped ≡ n.dropped
unfolding counting
same_dropped none n = refl
same_dropped (some t) n = refl

-- each old entry is kept or dropped
pub kept_dropped : (ms : List Met) (b : Book) → (tallied ms b).kept + (tallied ms b).dropped ≡ length b
unfolding tallied
kept_dropped [] b = omega arith
kept_dropped (m ∷ ms) b =
    let t = take_entry m.child m.key_text b in
    let n = tallied ms t.left in
    omega (arith, kept_dropped ms t.left, taken_count m.child m.key_text b, (counted t.found n).0, same_dropped t.found n)

-- each sheet entry is kept or made
pub kept_made : (ms : List Met) (b : Book) → (tallied ms b).kept + (tallied ms b).made ≡ length ms
unfolding tallied
kept_made [] b = refl
kept_made (m ∷ ms) b =
    let t = take_entry m.child m.key_text b in
    omega (arith, kept_made ms t.left, (counted t.found (tallied ms t.left)).1)

-- the dropped ones are those that are left in the book
pub dropped_left : (ms : List Met) (b : Book) → (tallied ms b).dropped ≡ length (left_by ms b)
unfolding tallied left_by
dropped_left [] b = refl
dropped_left (m ∷ ms) b =
    let t = take_entry m.child m.key_text b in
    same_dropped t.found (tallied ms t.left) ∙ dropped_left ms t.left

-- ---- How many there can be

-- the matches of a lens that are not below another
unfoldable pub matches_in : Lens → ℕ
matches_in (copy r) = 0
matches_in (const r w d) = 0
matches_in (key r) = 0
matches_in (join l m) = matches_in l + matches_in m
matches_in (union l m) = matches_in l + matches_in m
matches_in (repeat l) = matches_in l
matches_in (match n l) = 1

-- at most as many as the lens has nodes, written out
pub matches_few : (l : Lens) → matches_in l ≤ lens_size l
unfolding matches_in lens_size
matches_few (copy r) = omega arith
matches_few (const r w d) = omega arith
matches_few (key r) = omega arith
matches_few (join l m) = omega (arith, matches_few l, matches_few m)
matches_few (union l m) = omega (arith, matches_few l, matches_few m)
matches_few (repeat l) = omega (arith, matches_few l)
matches_few (match n l) = omega arith

-- what the bound says of a lens of n matches
abbrev Bounded : ℕ → Meeting → Type 0
Bounded n meet = (old : Option Text) (a : Text) → length (meet old a) ≤ n * max 1 (length a)

-- whichever arm a union takes, under the bound of both
arm_few : (p q : ℕ) (left right : Meeting) → Bounded p left → Bounded q right → (arm : Arm) → Bounded (p + q) (meet_arm left right arm)
unfolding meet_arm
arm_few p q left right f g put_left old a = le_trans (f old a) (mul-le-mul_right _ (le-add_right p q))
arm_few p q left right f g put_right old a = le_trans (g old a) (mul-le-mul_right _ (le-add_left q p))
arm_few p q left right f g create_left old a = le_trans (f none a) (mul-le-mul_right _ (le-add_right p q))
arm_few p q left right f g create_right old a = le_trans (g none a) (mul-le-mul_right _ (le-add_left q p))

-- a part with a byte at least, and the parts behind it
part_few :
    (n : ℕ) (x y : List Met) (i : ℕ) (t : Text)
    → length x ≤ n * max 1 (suc (length (take i t)))
    → length y ≤ n * length (drop i t)
    → length (x ++ y) ≤ n * suc (length t)
part_few n x y i t f g =
    let p = length (take i t) in
    let q = length (drop i t) in
    let one : max 1 (suc p) ≡ suc p = omega arith in
    let whole : suc p + q ≤ suc (length t) = omega (arith, length-take i t, length-drop i t) in
    rw length-append (omega (arith, rw one at f, mul-add n (suc p) q, mul-le-mul_left n whole))

-- the parts of a text, none of which is empty
parts_few :
    (n : ℕ) (meet : Meeting) → Bounded n meet
    → (r : Pattern) (k : ℕ) (olds : List Text) (t : Text) → length (meet_parts meet olds (parts_within k r t)) ≤ n * length t
unfolding parts_within meet_parts
parts_few n meet law r zero olds t = omega arith
parts_few n meet law r (suc k) olds [] = omega arith
parts_few n meet law r (suc k) [] (c ∷ t) =
    let i = least (length t) (λ j. matches r (c ∷ take j t) && matches (star r) (drop j t)) in
    part_few n (meet none (c ∷ take i t)) _ i t (law none (c ∷ take i t)) (parts_few n meet law r k [] (drop i t))
parts_few n meet law r (suc k) (o ∷ olds) (c ∷ t) =
    let i = least (length t) (λ j. matches r (c ∷ take j t) && matches (star r) (drop j t)) in
    part_few n (meet (some o) (c ∷ take i t)) _ i t (law (some o) (c ∷ take i t)) (parts_few n meet law r k olds (drop i t))

-- what the halves of a text meet
halves_few :
    (p q : ℕ) (x y : List Met) (i : ℕ) (a : Text)
    → length x ≤ p * max 1 (length (take i a))
    → length y ≤ q * max 1 (length (drop i a))
    → length (x ++ y) ≤ (p + q) * max 1 (length a)
halves_few p q x y i a f g =
    let whole : length (take i a) + length (drop i a) ≡ length a = omega (arith, length-take i a, length-drop i a) in
    rw
    (length-append, ← whole)
    (halves_length (length x) (length y) p q (length (take i a)) (length (drop i a)) f g)

-- at most the matches of the lens for each byte of the sheet, and as many for an empty sheet
pub met_length : (l : Lens) (old : Option Text) (a : Text) → length (met l old a) ≤ matches_in l * max 1 (length a)
unfolding met matches_in parts
met_length (copy r) old a = omega arith
met_length (const r w d) old a = omega arith
met_length (key r) old a = omega arith
met_length (join l m) old a =
    let i = cut_at (language sheet l) (language sheet m) a in
    let j = or_else 0 (apply (cut_at (language source l) (language source m)) old) in
    halves_few
    (matches_in l)
    (matches_in m)
    (met l (apply (take j) old) (take i a))
    (met m (apply (drop j) old) (drop i a))
    i
    a
    (met_length l (apply (take j) old) (take i a))
    (met_length m (apply (drop j) old) (drop i a))
met_length (union l m) old a = arm_few (matches_in l) (matches_in m) (met l) (met m) (met_length l) (met_length m) (arm_for l m old a) old a
met_length (repeat l) old a =
    le_trans
    (parts_few (matches_in l) (met l) (met_length l) (language sheet l) (length a) _ a)
    (mul-le-mul_left (matches_in l) (le-max_right 1 (length a)))
met_length (match n l) old a = omega arith
