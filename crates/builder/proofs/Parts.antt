-- The automaton of a pattern from those of its parts: what its rows and its sets hold, position by position. Assumes nothing.
use mathlib.Core.Path.{◌≡◌, refl, sym, ap, ap₂, subst, ◌∙◌}
use mathlib.Core.Bool.{Bool, true, false, ◌&&◌, ◌||◌, and-true}
use mathlib.Core.List.{List, [], ◌∷◌}
use mathlib.Core.Logic.{inl, inr, ⊎_elim}
use Prim.Native.Nat.{ℕ, ◌+◌, ◌-◌, ◌*◌, ◌≤◌, ◌<◌}
use native.Mathlib.Omega.{arith}
use native.Mathlib.Nat.{add-zero}
use lib.Dec.{eqb, ltb}
use lib.ListN.{length, get_or}
use borrow.Author.Tests.{ltb-true, ltb-false, lt-ltb, le-ltb, le-leb, lt-leb, eqb-true, eq-eqb, ne_eqb}
use Rattle.semantics.specs.Text.{Text}
use Rattle.semantics.specs.Pattern.{Class, range, in_class, Pattern, word, one_of, concat, alt, star, nullable}
use Rattle.semantics.specs.Table.{positions}
use Rattle.laws.specs.Basics.{bool_cases, not_both, false_of_not_true, cond_false, and_both}
use Rattle.laws.specs.Classes.{one_byte, only_byte}
use Rattle.laws.specs.PositionAutomaton.{split, split_left, class_at, stands_at, first_at, last_at, follow_at, first_within, last_within, follow_within}
use Rattle.positions.specs.declared.Set.{Set}
use Rattle.positions.specs.Positions.{holds, holds_moved, Empty, Moved}
use Rattle.automaton.specs.Rows.{side_index, row_at, held_of, follow_of, stands_in, automaton_at, ClassBelow, RowIs, Describes}
use Rattle.automaton.specs.Rows as R
use Rattle.automaton.proofs.Standing.{stands_letter, stands_class}
use Rattle.classes.specs.Classes.{holds_byte}
use Rattle.classes.specs.declared.Class.{Class as Bits}
use Rattle.builder.specs.Build.{count_at, Counted, Kept, SideBuilt, BuiltAlone, BuiltRepeat, BuiltPair, Aliased, ClassPut, RowPut, HeaderPut, SameBelow, RowCopied, Copied, Lettered, TwoOf, RowsJoined}
use Rattle.automaton.specs.declared.Automaton.{Automaton}
use Rattle.automaton.specs.declared.Side.{Side}
use Rattle.automaton.specs.declared.Side.TheVariants.{Source, Sheet}
use Rattle.builder.proofs.Steps.{or-false, kept_all, kept_both, RowKept, row_same, row_outside, copied_row_later}

-- ---- Two halves

module _ {A : Type 0} (n : ℕ) (f g : ℕ → A) where
  split_right : (p : ℕ) → n ≤ p → split n f g p ≡ g (p - n)
  unfolding split
  split_right p h = cond_false (ltb p n) (f p) (g (p - n)) (le-ltb p n h)

-- a number is below n, or it is not
pub below_or_not : (p n : ℕ) {C : Type 0} → (p < n → C) → (n ≤ p → C) → C
below_or_not p n left right = ⊎_elim (λ e. left (ltb-true p n e)) (λ e. right (ltb-false p n e)) (bool_cases (ltb p n))

-- The tests that are true only below n.
abbrev Within : ℕ → (ℕ → Bool) → Type 0
Within n f = (q : ℕ) → f q ≡ true → q < n

beyond : (n : ℕ) (f : ℕ → Bool) → Within n f → (q : ℕ) → n ≤ q → f q ≡ false
beyond n f within q h = false_of_not_true (f q) (λ e. omega (arith, within q e))

and-false : (b : Bool) → (b && false) ≡ false
and-false true = refl
and-false false = refl

-- a set of positions below m, moved up by n, is what a second half holds
moved_half :
    (n m : ℕ) (s : Set) (f : ℕ → Bool)
    → n + m ≤ 128
    → Within m f
    → ((q : ℕ) → holds s q ≡ f q)
    → (q : ℕ)
    → holds_moved s n q ≡ split n (λ j. false) f q
moved_half n m s f h within s-is q =
    below_or_not
    q
    n
    (λ k. rw (lt-leb n q k, and-false) (sym (split_left n (λ j. false) f q k)))
    (λ k.
    rw
    (le-leb n q k, s-is (q - n), split_right n (λ j. false) f q k)
    (below_or_not
    q
    128
    (λ l. rw (lt-ltb q 128 l))
    (λ l. rw (le-ltb q 128 l) (sym (beyond m f within (q - n) (omega arith))))))

-- moved by nothing, it is what it was
moved_zero :
    (m : ℕ) (s : Set) (f : ℕ → Bool)
    → m ≤ 128
    → Within m f
    → ((q : ℕ) → holds s q ≡ f q)
    → (q : ℕ)
    → holds_moved s 0 q ≡ f q
moved_zero m s f h within s-is q =
    let same : q - 0 ≡ q = omega arith in
    moved_half 0 m s f (omega arith) within s-is q ∙ split_right 0 (λ j. false) f q (omega arith) ∙ ap f same

-- a first half, joined with a second one where a test is true
join_halves :
    (n : ℕ) (f g : ℕ → Bool) (b : Bool)
    → Within n f
    → (q : ℕ)
    → (f q || (b && split n (λ j. false) g q)) ≡ split n f (λ j. b && g j) q
join_halves n f g b within q =
    below_or_not
    q
    n
    (λ k. rw (split_left n (λ j. false) g q k, split_left n f (λ j. b && g j) q k, and-false) (or-false (f q)))
    (λ k. rw (split_right n (λ j. false) g q k, split_right n f (λ j. b && g j) q k, beyond n f within q k))

-- ---- The rows of two parts

pub concat_two : (r s : Pattern) → TwoOf (concat r s) r s (last_at r)
unfolding positions class_at follow_at
concat_two r s =
    record { count_two = refl; class_two = λ p. refl; follow_two = λ p q. refl }

pub alt_two : (r s : Pattern) → TwoOf (alt r s) r s (λ i. false)
unfolding positions class_at follow_at
alt_two r s =
    record { count_two = refl; class_two = λ p. refl; follow_two = λ p q. refl }

-- ---- What tells the bytes of a row

-- a number that is a letter tells that letter
told_letter : (l : List ℕ) (row letter byte : ℕ) → letter < 256 → held_of l row ≡ letter → stands_in l row byte ≡ eqb byte letter
told_letter l row letter byte small is = stands_letter l row (omega arith) byte ∙ ap (eqb byte) is

-- and any other the class that stands there
told_class : (l : List ℕ) (row held byte : ℕ) → 256 ≤ held → held_of l row ≡ held → stands_in l row byte ≡ holds_byte (R.class_at l held) byte
told_class l row held byte large is = stands_class l row (omega arith) byte ∙ ap (λ (n : ℕ). holds_byte (R.class_at l n) byte) is

-- four numbers that are as they were are the same class
class_same :
    (before after : List ℕ) (i : ℕ)
    → ((j : ℕ) → i ≤ j → j < i + 4 → get_or after j 0 ≡ get_or before j 0)
    → R.class_at after i ≡ R.class_at before i
class_same before after i same =
    λ k.
    record {
      low = record { low = same i (omega arith) (omega arith) k; high = same (i + 1) (omega arith) (omega arith) k };
      high = record { low = same (i + 2) (omega arith) (omega arith) k; high = same (i + 2 + 1) (omega arith) (omega arith) k };
    }

-- A row that is told by the number of another as it was has the bytes that the other had.
module _ (before after : List ℕ) (from to : ℕ) (held-is : held_of after to ≡ held_of before from) (same : SameBelow from before after) where
  same_bytes : ClassBelow before from → (byte : ℕ) → stands_in after to byte ≡ stands_in before from byte
  same_bytes (inl letter) byte =
      told_letter after to _ byte letter held-is ∙ sym (told_letter before from _ byte letter refl)
  same_bytes (inr (large, below)) byte =
      told_class after to _ byte (omega arith) held-is
      ∙ ap (λ (c : Bits). holds_byte c byte) (class_same before after _ (λ j x y. same j (omega arith) (omega arith)))
      ∙ sym (told_class before from _ byte (omega arith) refl)

  -- and its class stands below it too, where it stands above the other
  class_stays : from ≤ to → ClassBelow before from → ClassBelow after to
  class_stays up (inl letter) = inl (omega arith)
  class_stays up (inr (large, below)) = inr (omega arith, omega arith)

-- a copied row is that of a position with the same class, where it is followed by what may follow that position
copied_row :
    {r : Pattern} {from p : ℕ} {before : List ℕ} (c : Pattern) (start q : ℕ) {to up : ℕ} {more : ℕ → Bool} {after : List ℕ}
    → RowIs r from p before
    → RowCopied (from + p) to up more before after
    → from + p ≤ to
    → to ≡ start + q
    → class_at c q ≡ class_at r p
    → ((i : ℕ) → holds (follow_of after to) i ≡ follow_at c q i)
    → RowIs c start q after
unfolding stands_at
copied_row {r} {from} {p} {before} c start q {to} {after = after} was row up e class follow =
    record {
      bytes_are = λ byte. rw e at (bytes_are byte);
      class_below = rw e at (class_stays before after (from + p) to row.held_same row.same_below up was.class_below);
      follow_is = λ i. rw e at (follow i);
    }
  where
    bytes_are : (byte : ℕ) → stands_in after to byte ≡ in_class (class_at c q) byte
    bytes_are byte =
        same_bytes before after (from + p) to row.held_same row.same_below was.class_below byte
        ∙ was.bytes_are byte
        ∙ ap (λ (k : Class). in_class k byte) (sym class)

module _
    (row : ℕ)
    (left right : Automaton)
    (last more none : Set)
    (l₀ l₁ l₂ : List ℕ)
    (few : left.count + right.count ≤ 128)
    (left_below : left.start + left.count ≤ row)
    (right_below : right.start + right.count ≤ row)
    (more-is : Moved right.first left.count more)
    (none_is : Empty none)
    (one : Copied left.start row left.count 0 last more l₀ l₁)
    (two : Copied right.start (row + left.count) right.count left.count none none l₁ l₂)
  where
    module _
        (c r s : Pattern)
        (crossing : ℕ → Bool)
        (both : TwoOf c r s crossing)
        (of-r : Describes r left l₀)
        (of-s : Describes s right l₀)
        (last_is : (i : ℕ) → holds last i ≡ crossing i)
        (p : ℕ)
      where
        -- the first ones of s stand behind the positions of r
        more_at : (q : ℕ) → holds more q ≡ split (positions r) (λ j. false) (first_at s) q
        more_at q =
            more-is q
            ∙ moved_half left.count (positions s) right.first (first_at s) (omega arith) (first_within s) of-s.first_is q
            ∙ ap (λ (m : ℕ). split m (λ j. false) (first_at s) q) of-r.count_is

        left_row_lem : p < positions r → RowIs c row p l₂
        left_row_lem h =
            let was = of-r.row_is p h in
            let it : RowCopied (left.start + p) (row + p) 0 (λ q. holds last p && holds more q) l₀ l₂ =
            copied_row_later
            (omega (arith, of-r.count_is))
            (row_same (left.start + p) l₀)
            (one.copied p (omega (arith, of-r.count_is)))
            (row_outside (row + p) two.rest (omega (arith, of-r.count_is))) in
            copied_row
            c
            row
            p
            was
            it
            (omega (arith, of-r.count_is))
            refl
            (both.class_two p ∙ split_left (positions r) (class_at r) (class_at s) p h)
            (λ q.
            it.follow_same q
            ∙ ap₂
            ◌||◌
            (moved_zero (positions r) (follow_of l₀ (left.start + p)) (follow_at r p) (omega (arith, of-r.count_is)) (follow_within r p) was.follow_is q)
            (ap₂ ◌&&◌ (last_is p) (more_at q))
            ∙ join_halves (positions r) (follow_at r p) (first_at s) (crossing p) (follow_within r p) q
            ∙ sym (both.follow_two p q ∙ split_left (positions r) _ _ p h))

        right_row_lem : positions r ≤ p → p < positions c → RowIs c row p l₂
        right_row_lem h k =
            let i = p - positions r in
            let was = of-s.row_is i (omega (arith, both.count_two)) in
            let it : RowCopied (right.start + i) (row + left.count + i) left.count (λ q. holds none i && holds none q) l₀ l₂ =
            copied_row_later
            (omega (arith, both.count_two, of-s.count_is))
            (row_outside (right.start + i) one.rest (omega (arith, both.count_two, of-s.count_is)))
            (two.copied i (omega (arith, both.count_two, of-s.count_is)))
            (row_same (row + left.count + i) l₂) in
            copied_row
            c
            row
            p
            was
            it
            (omega (arith, both.count_two, of-s.count_is))
            (omega (arith, of-r.count_is))
            (both.class_two p ∙ split_right (positions r) (class_at r) (class_at s) p h)
            (λ q.
            it.follow_same q
            ∙ ap₂
            ◌||◌
            (moved_half
            left.count
            (positions s)
            (follow_of l₀ (right.start + i))
            (follow_at s i)
            (omega (arith, of-s.count_is))
            (follow_within s i)
            was.follow_is
            q)
            (ap (λ (b : Bool). b && holds none q) (none_is i))
            ∙ or-false _
            ∙ ap (λ (m : ℕ). split m (λ j. false) (follow_at s i) q) of-r.count_is
            ∙ sym (both.follow_two p q ∙ split_right (positions r) _ _ p h))

    -- the rows of both parts, from two copies
    pub rows_joined : RowsJoined row left right last l₀ l₂
    rows_joined =
        record {
          rest =
              kept_both (row_at row) (row_at (row + (left.count + right.count))) one.rest two.rest
              (omega arith) (omega arith) (omega arith) (omega arith);
          joined =
              λ c r s crossing both of-r of-s last_is p k.
              below_or_not p (positions r)
              (left_row_lem c r s crossing both of-r of-s last_is p)
              (λ h. right_row_lem c r s crossing both of-r of-s last_is p h k);
        }

-- ---- The rows and the header

-- a row that is kept is still that of its position
pub row_is_kept : {r : Pattern} {start p : ℕ} {before after : List ℕ} → RowIs r start p before → RowKept (start + p) before after → RowIs r start p after
row_is_kept {start = start} {p} {before} {after} was same =
    let row = start + p in
    record {
      bytes_are = λ byte. same_bytes before after row row same.held_kept same.below_kept was.class_below byte ∙ was.bytes_are byte;
      class_below = class_stays before after row row same.held_kept same.below_kept (omega arith) was.class_below;
      follow_is = λ q. ap (λ (s : Set). holds s q) same.follow_kept ∙ was.follow_is q;
    }

pub side_small : (side : Side) → side_index side < 2
side_small Source = omega arith
side_small Sheet = omega arith

-- rows were written, and then the header
module _
    (node : ℕ)
    (side : Side)
    (start row rows : ℕ)
    (empty : Bool)
    (first last : Set)
    (l₀ l₁ l₂ : List ℕ)
    (a_node : 16 * node + 16 ≤ 1536)
    (rest : Kept (row_at row) (row_at (row + rows)) l₀ l₁)
    (header : HeaderPut node side start empty first last l₁ l₂)
  where
    pub header_built : SideBuilt node side start row rows l₀ l₂
    header_built =
        record {
          starts = ap (λ (a : Automaton). a.start) header.header;
          same_length = header.rest.same_length ∙ rest.same_length;
          kept = λ i out-header out-rows. header.rest.kept i out-header ∙ rest.kept i out-rows;
        }

    -- what the header says of the pattern c, and the rows, make its automaton
    pub header_described :
        (c : Pattern)
        → Counted c node side l₀
        → empty ≡ nullable c
        → ((p : ℕ) → holds first p ≡ first_at c p)
        → ((p : ℕ) → holds last p ≡ last_at c p)
        → ((p : ℕ) → p < positions c → RowIs c start p l₁)
        → Describes c (automaton_at l₂ node side) l₂
    header_described c count empty_is first_is last_is row_is =
        let small = side_small side in
        rw
        header.header
        (record {
          count_is = rest.kept (count_at node side) (omega arith) ∙ count.counted;
          nullable_is = empty_is;
          first_is = first_is;
          last_is = last_is;
          row_is = λ p h. row_is_kept (row_is p h) (row_outside (start + p) header.rest (omega arith));
        })

-- ---- A word, a class

-- a letter tells the bytes of the class that it alone is in
letter_class : (letter byte : ℕ) → eqb byte letter ≡ in_class (range letter letter) byte
letter_class letter byte = go (eqb byte letter) refl
  where
    go : (b : Bool) → eqb byte letter ≡ b → b ≡ in_class (range letter letter) byte
    go true e = sym (subst (λ (b : ℕ). in_class (range letter letter) b ≡ true) (sym (eqb-true byte letter e)) (one_byte letter))
    go false e = sym (false_of_not_true _ (λ i. not_both (eq-eqb byte letter (only_byte letter byte i)) e))

-- no letters have their rows yet
pub lettered_none : (row : ℕ) (w l : List ℕ) → Lettered row 0 w l l
lettered_none row w l = record { lettered = λ p h. absurd (omega arith); rest = kept_all (row_at row) (row_at (row + 0)) l }

-- one more has
pub lettered_more :
    (row p : ℕ) (w l₀ l₁ l₂ : List ℕ) (next : Set)
    → get_or w p 0 < 256
    → ((q : ℕ) → holds next q ≡ (eqb q (p + 1) && ltb q (length w)))
    → Lettered row p w l₀ l₁
    → RowPut (row + p) (get_or w p 0) next l₁ l₂
    → Lettered row (p + 1) w l₀ l₂
unfolding class_at stands_at follow_at
lettered_more row p w l₀ l₁ l₂ next small next_is so_far put =
    record {
      lettered =
          λ i k.
          below_or_not
          i
          p
          (λ h. row_is_kept (so_far.lettered i h) (row_outside (row + i) put.rest (omega arith)))
          (λ h.
          let same : p ≡ i = omega arith in
          rw same at this);
      rest =
          kept_both (row_at row) (row_at (row + (p + 1))) so_far.rest put.rest (omega arith) (omega arith) (omega arith) (omega arith);
    }
  where
    this : RowIs (word w) row p l₂
    this =
        record {
          bytes_are = λ byte. told_letter l₂ (row + p) (get_or w p 0) byte small put.held_put ∙ letter_class (get_or w p 0) byte;
          class_below = inl (omega (arith, put.held_put));
          follow_is = λ q. ap (λ (s : Set). holds s q) put.follow_put ∙ next_is q;
        }

-- where only position 0 can pass, a bound on it is one on 0
at_zero : (n q : ℕ) → (eqb q 0 && ltb q n) ≡ (eqb q 0 && ltb 0 n)
at_zero n q = go (eqb q 0) refl
  where
    go : (b : Bool) → eqb q 0 ≡ b → (b && ltb q n) ≡ (b && ltb 0 n)
    go true e = ap (λ (x : ℕ). ltb x n) (eqb-true q 0 e)
    go false e = refl

-- a word holds the empty text if it has no letters
word_empty : (w : Text) → eqb (length w) 0 ≡ nullable (word w)
unfolding nullable
word_empty [] = eq-eqb 0 0 refl
word_empty (c ∷ w) = ne_eqb (length (c ∷ w)) 0 (λ e. omega arith)

pub word_built :
    (node : ℕ) (side : Side) (row : ℕ) (w l₀ l₁ l₂ : List ℕ) (empty : Bool) (first last : Set)
    → 16 * node + 16 ≤ 1536
    → empty ≡ eqb (length w) 0
    → ((q : ℕ) → holds first q ≡ (eqb q 0 && ltb q (length w)))
    → ((q : ℕ) → holds last q ≡ eqb (q + 1) (length w))
    → Lettered row (length w) w l₀ l₁
    → HeaderPut node side row empty first last l₁ l₂
    → BuiltAlone (word w) node side row row (length w) l₀ l₂
unfolding positions first_at last_at
word_built node side row w l₀ l₁ l₂ empty first last a_node empty_is first_is last_is letters header =
    record {
      built = header_built node side row row (length w) empty first last l₀ l₁ l₂ a_node letters.rest header;
      described =
          λ count.
          header_described node side row row (length w) empty first last l₀ l₁ l₂ a_node letters.rest header (word w) count
          (empty_is ∙ word_empty w)
          (λ q. first_is q ∙ at_zero (length w) q)
          last_is
          letters.lettered;
    }

-- a class is put, then the row that refers to it, then the header
pub class_built :
    (node : ℕ) (side : Side) (row : ℕ) (c : Class) (class : Bits) (l₀ l₁ l₂ l₃ : List ℕ) (none zero : Set)
    → 16 * node + 16 ≤ 1536
    → ((byte : ℕ) → holds_byte class byte ≡ in_class c byte)
    → Empty none
    → ((q : ℕ) → holds zero q ≡ (eqb q 0 && ltb q 1))
    → ClassPut (row_at row) class l₀ l₁
    → RowPut (row + 2) (row_at row) none l₁ l₂
    → HeaderPut node side (row + 2) false zero zero l₂ l₃
    → BuiltAlone (one_of c) node side (row + 2) row 3 l₀ l₃
unfolding positions nullable first_at last_at class_at stands_at follow_at
class_built node side row c class l₀ l₁ l₂ l₃ none zero a_node class-is none_is zero_is class_put put header =
    record {
      built = header_built node side (row + 2) row 3 false zero zero l₀ l₂ l₃ a_node rows header;
      described =
          λ count.
          header_described node side (row + 2) row 3 false zero zero l₀ l₂ l₃ a_node rows header (one_of c) count
          refl
          zero_at
          zero_at
          (λ p h.
          let first : p ≡ 0 = omega arith in
          rw
          first
          (record {
            bytes_are = λ byte. rw (add-zero (row + 2)) (bytes_are byte);
            class_below = rw (add-zero (row + 2)) (inr (omega (arith, put.held_put), omega (arith, put.held_put)));
            follow_is = λ q. rw (add-zero (row + 2)) (ap (λ (s : Set). holds s q) put.follow_put ∙ none_is q);
          }));
    }
  where
    rows : Kept (row_at row) (row_at (row + 3)) l₀ l₂
    rows = kept_both (row_at row) (row_at (row + 3)) class_put.rest put.rest (omega arith) (omega arith) (omega arith) (omega arith)

    -- the class is still there once the row is put
    bytes_are : (byte : ℕ) → stands_in l₂ (row + 2) byte ≡ in_class c byte
    bytes_are byte =
        told_class l₂ (row + 2) (row_at row) byte (omega arith) put.held_put
        ∙ ap (λ (k : Bits). holds_byte k byte) (class_same l₁ l₂ (row_at row) (λ j x y. put.rest.kept j (omega arith)) ∙ class_put.class_put)
        ∙ class-is byte

    zero_at : (q : ℕ) → holds zero q ≡ eqb q 0
    zero_at q = zero_is q ∙ at_zero 1 q ∙ and-true (eqb q 0)

-- ---- A repeat

pub star_built :
    (node : ℕ) (side : Side) (row : ℕ) (part : Automaton) (l₀ l₁ l₂ : List ℕ)
    → 16 * node + 16 ≤ 1536
    → part.count ≤ 128
    → part.start + part.count ≤ row
    → Copied part.start row part.count 0 part.last part.first l₀ l₁
    → HeaderPut node side row true part.first part.last l₁ l₂
    → BuiltRepeat node side row part l₀ l₂
unfolding positions nullable first_at last_at class_at follow_at
star_built node side row part l₀ l₁ l₂ a_node few below rows header =
    record {
      built = header_built node side row row part.count true part.first part.last l₀ l₁ l₂ a_node rows.rest header;
      described =
          λ r of-r count.
          header_described
          node
          side
          row
          row
          part.count
          true
          part.first
          part.last
          l₀
          l₁
          l₂
          a_node
          rows.rest
          header
          (star r)
          count
          refl
          of-r.first_is
          of-r.last_is
          (λ p h.
          let was = of-r.row_is p h in
          let it = rows.copied p (omega (arith, of-r.count_is)) in
          copied_row
          (star r)
          row
          p
          was
          it
          (omega (arith, of-r.count_is))
          refl
          refl
          (λ q.
          it.follow_same q
          ∙ ap₂
          ◌||◌
          (moved_zero (positions r) (follow_of l₀ (part.start + p)) (follow_at r p) (omega (arith, of-r.count_is)) (follow_within r p) was.follow_is q)
          (ap₂ ◌&&◌ (of-r.last_is p) (of-r.first_is q))));
    }

-- ---- Two parts

-- What the header and the crossing positions are of the pattern c of r and s.
record Composed (c r s : Pattern) (crossing : Set) (empty : Bool) (first last : Set) : Type 0 where
  crosses : ℕ → Bool
  two_of : TwoOf c r s crosses
  crossing_is : (i : ℕ) → holds crossing i ≡ crosses i
  empty_is : empty ≡ nullable c
  first_is : (p : ℕ) → holds first p ≡ first_at c p
  last_is : (p : ℕ) → holds last p ≡ last_at c p

pair_built :
    (pair : Pattern → Pattern → Pattern) (node : ℕ) (side : Side) (row : ℕ) (left right : Automaton) (l₀ l₁ l₂ : List ℕ) (crossing : Set)
    (empty : Bool) (first last : Set)
    → 16 * node + 16 ≤ 1536
    → RowsJoined row left right crossing l₀ l₁
    → HeaderPut node side row empty first last l₁ l₂
    → ((r s : Pattern) → Describes r left l₀ → Describes s right l₀ → Composed (pair r s) r s crossing empty first last)
    → BuiltPair pair node side row left right l₀ l₂
pair_built pair node side row left right l₀ l₁ l₂ crossing empty first last a_node rows header composed =
    record {
      built = header_built node side row row (left.count + right.count) empty first last l₀ l₁ l₂ a_node rows.rest header;
      described =
          λ r s of-r of-s count.
          let it = composed r s of-r of-s in
          header_described
          node
          side
          row
          row
          (left.count + right.count)
          empty
          first
          last
          l₀
          l₁
          l₂
          a_node
          rows.rest
          header
          (pair r s)
          count
          it.empty_is
          it.first_is
          it.last_is
          (rows.joined (pair r s) r s it.crosses it.two_of of-r of-s it.crossing_is);
    }

-- a set joined of a first half and, where a test is true, a moved second half
joined_halves :
    (n m : ℕ) (b set : Set) (f g : ℕ → Bool) (t : Bool)
    → n + m ≤ 128
    → Within n f
    → Within m g
    → ((q : ℕ) → holds b q ≡ g q)
    → ((q : ℕ) → holds set q ≡ (f q || (t && holds_moved b n q)))
    → (q : ℕ)
    → holds set q ≡ split n f (λ j. t && g j) q
joined_halves n m b set f g t few left right b_is set_is q =
    set_is q
    ∙ ap (λ (x : Bool). f q || (t && x)) (moved_half n m b g few right b_is q)
    ∙ join_halves n f g t left q

module _ (node : ℕ) (side : Side) (row : ℕ) (left right : Automaton) (l₀ l₁ l₂ : List ℕ) (empty : Bool) (first last : Set) (a_node : 16 * node + 16 ≤ 1536) (few : left.count + right.count ≤ 128) where
  -- a join: its first half may be empty, and so may its second
  pub concat_built :
      RowsJoined row left right left.last l₀ l₁
      → HeaderPut node side row empty first last l₁ l₂
      → empty ≡ (left.nullable && right.nullable)
      → ((q : ℕ) → holds first q ≡ (holds left.first q || (left.nullable && holds_moved right.first left.count q)))
      → ((q : ℕ) → holds last q ≡ ((right.nullable && holds left.last q) || holds_moved right.last left.count q))
      → BuiltPair concat node side row left right l₀ l₂
  unfolding nullable first_at last_at
  concat_built rows header empty_is first_is last_is =
      pair_built concat node side row left right l₀ l₁ l₂ left.last empty first last a_node rows header
      (λ r s of-r of-s.
      record {
        crosses = last_at r;
        two_of = concat_two r s;
        crossing_is = of-r.last_is;
        empty_is = empty_is ∙ ap₂ ◌&&◌ of-r.nullable_is of-s.nullable_is;
        first_is =
            joined_halves (positions r) (positions s) right.first first (first_at r) (first_at s) (nullable r)
            (omega (arith, of-r.count_is, of-s.count_is)) (first_within r) (first_within s) of-s.first_is
            (λ q. first_is q ∙ ap₂ ◌||◌ (of-r.first_is q) (ap₂ ◌&&◌ of-r.nullable_is (ap (λ (n : ℕ). holds_moved right.first n q) of-r.count_is)));
        last_is =
            joined_halves (positions r) (positions s) right.last last (λ q. nullable s && last_at r q) (last_at s) true
            (omega (arith, of-r.count_is, of-s.count_is))
            (λ q e. last_within r q (and_both (nullable s) (last_at r q) e).1)
            (last_within s)
            of-s.last_is
            (λ q. last_is q ∙ ap₂ ◌||◌ (ap₂ ◌&&◌ of-s.nullable_is (of-r.last_is q)) (ap (λ (n : ℕ). holds_moved right.last n q) of-r.count_is));
      })

  -- a union
  pub alt_built :
      (none : Set)
      → Empty none
      → RowsJoined row left right none l₀ l₁
      → HeaderPut node side row empty first last l₁ l₂
      → empty ≡ (left.nullable || right.nullable)
      → ((q : ℕ) → holds first q ≡ (holds left.first q || holds_moved right.first left.count q))
      → ((q : ℕ) → holds last q ≡ (holds left.last q || holds_moved right.last left.count q))
      → BuiltPair alt node side row left right l₀ l₂
  unfolding nullable first_at last_at
  alt_built none none_is rows header empty_is first_is last_is =
      pair_built alt node side row left right l₀ l₁ l₂ none empty first last a_node rows header
      (λ r s of-r of-s.
      record {
        crosses = λ i. false;
        two_of = alt_two r s;
        crossing_is = none_is;
        empty_is = empty_is ∙ ap₂ ◌||◌ of-r.nullable_is of-s.nullable_is;
        first_is =
            joined_halves (positions r) (positions s) right.first first (first_at r) (first_at s) true
            (omega (arith, of-r.count_is, of-s.count_is)) (first_within r) (first_within s) of-s.first_is
            (λ q. first_is q ∙ ap₂ ◌||◌ (of-r.first_is q) (ap (λ (n : ℕ). holds_moved right.first n q) of-r.count_is));
        last_is =
            joined_halves (positions r) (positions s) right.last last (last_at r) (last_at s) true
            (omega (arith, of-r.count_is, of-s.count_is)) (last_within r) (last_within s) of-s.last_is
            (λ q. last_is q ∙ ap₂ ◌||◌ (of-r.last_is q) (ap (λ (n : ℕ). holds_moved right.last n q) of-r.count_is));
      })

-- ---- Another node's automaton

pub alias_built :
    (node : ℕ) (side : Side) (other : Automaton) (l₀ l₁ : List ℕ)
    → 16 * node + 16 ≤ 1536
    → HeaderPut node side other.start other.nullable other.first other.last l₀ l₁
    → Aliased node side other l₀ l₁
alias_built node side other l₀ l₁ a_node header =
    let all = kept_all (row_at 0) (row_at (0 + 0)) l₀ in
    record {
      built = header_built node side other.start 0 0 other.nullable other.first other.last l₀ l₀ l₁ a_node all header;
      described =
          λ r of-r count.
          header_described node side other.start 0 0 other.nullable other.first other.last l₀ l₀ l₁ a_node all header r count
          of-r.nullable_is
          of-r.first_is
          of-r.last_is
          of-r.row_is;
    }
