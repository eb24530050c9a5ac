-- What the automata of a built program say of its nodes' typing lines. Assumes nothing.
use mathlib.Core.Path.{◌≡◌, refl, sym, ap, ◌∙◌, subst}
use mathlib.Core.Bool.{Bool, true, false}
use mathlib.Core.List.{List, [], ◌∷◌}
use mathlib.Core.Logic.{◌↔◌}
use mathlib.Core.Option.{none, none-ne-some}
use Prim.Native.Nat.{ℕ, ◌+◌, ◌-◌, ◌*◌, ◌≤◌, ◌<◌}
use native.Mathlib.Omega.{arith}
use lib.ListN.{length, take, drop}
use lib.Seq.{drop-drop}
use Rattle.semantics.specs.Text.{Text}
use Rattle.semantics.specs.Pattern.{Pattern, word, star, nullable}
use Rattle.semantics.specs.Ambiguity.{two_cuts, bad_repeat}
use Rattle.semantics.specs.Lens.{Lens, const, repeat}
use Rattle.semantics.specs.Table.{node_count, pool, tree_at, trees, Tree, word_of, pattern, lens, Line, line, tree_lines, typing_lines, first_that_holds}
use Rattle.laws.specs.Basics.{false_of_not_true, not_both}
use Rattle.table.specs.declared.Kind.{Kind}
use Rattle.table.specs.declared.Kind.TheVariants.{Word, OneOf, PatternJoin, PatternUnion, PatternRepeat, Copy, Const, Key, LensJoin, LensUnion, LensRepeat, Match}
use Rattle.table.specs.declared.Node.{Node}
use Rattle.table.specs.Prepared.{Shows, WordPart, OneLens, TwoLenses, ConstParts}
use Rattle.table.specs.Rules.{NodeRead}
use Rattle.laws.specs.RightSizes.{Right, right_of}
use Rattle.automaton.specs.declared.Side.{Side}
use Rattle.automaton.specs.declared.Automaton.{Automaton}
use Rattle.automaton.specs.Rows.{Room, Describes}
use Rattle.automaton.specs.Built.{Built, tree_language}
use Rattle.std.specs.Prelude.{Ok, Err}
use Rattle.table.specs.Prepared.{refusal}
use Rattle.typing.specs.Round.{TypingAnswer, answer_of, fault_of, typing_fault, Stands, Speaks, SpeaksFor}

-- two tests that are true in the same case
pub same_answer : {X : Type 0} (a b : Bool) → (a ≡ true) ↔ X → (b ≡ true) ↔ X → a ≡ b
same_answer true b p q = sym (q.1 (p.0 refl))
same_answer false b p q = sym (false_of_not_true b (λ e. not_both (p.1 (q.0 e)) refl))

-- ---- Lines in a row

-- where there is none, nothing holds
pub no_line : Ok tt ≡ fault_of []
unfolding fault_of answer_of first_that_holds
no_line = refl

module _ (number k : ℕ) (test : Bool) (ls : List Line) where
  -- a line that holds refuses
  pub line_holds : test ≡ true → Err (refusal number k) ≡ fault_of (line number k test ∷ ls)
  unfolding fault_of answer_of first_that_holds line
  line_holds e = rw e

  -- one that does not is passed over
  pub line_passed : {later : TypingAnswer} → test ≡ false → later ≡ fault_of ls → later ≡ fault_of (line number k test ∷ ls)
  unfolding fault_of first_that_holds line
  line_passed e h = rw e h

-- ---- A repeat

-- it fails where its child has the empty text
pub bad_empty : (r : Pattern) → nullable r ≡ true → true ≡ bad_repeat r
unfolding bad_repeat
bad_empty r e = rw e

-- and else exactly where some text has two cuts
pub bad_cuts : (r : Pattern) {answer : Bool} → nullable r ≡ false → answer ≡ two_cuts r (star r) → answer ≡ bad_repeat r
unfolding bad_repeat
bad_cuts r e h = rw e h

-- ---- An automaton that was read is the one in the prepared program

module _ {prepared : List ℕ} {a b : Automaton} (a-is : a ≡ b) where
  -- so it has room
  pub read_room : Room b prepared → Room a prepared
  read_room h = rw a-is h

  -- and describes the same language
  pub read_speaks : {r : Pattern} → Describes r b prepared → Describes r a prepared
  read_speaks h = rw a-is h

-- ---- The automata of a built program

module _ {bytes : Text} {prepared : List ℕ} (built : Built bytes prepared) where
  -- its sizes are right
  pub sizes : Right bytes
  sizes = right_of bytes built.sized.sized.sizes_right

  module _ {k : ℕ} (inside : k < node_count bytes) where
    -- each node's automata stand in the prepared program
    pub stands : Stands prepared k
    stands =
        record {
          inside = let h = sizes in omega (arith, built.sized.room);
          room = λ side. (built.automata k inside side).room;
        }

    -- and describe the language of a pattern
    pub speaks : {r : Pattern} → tree_at (trees bytes) k ≡ pattern r → (side : Side) → Speaks prepared k side r
    unfolding tree_language
    speaks e side = rw e at (built.automata k inside side).described

    -- or those of a lens
    pub speaks_for : {l : Lens} → tree_at (trees bytes) k ≡ lens l → SpeaksFor prepared k l
    unfolding tree_language
    speaks_for e = record { each = λ side. rw e at (built.automata k inside side).described }

-- ---- A node's fault, by its kind

module _ {bytes : Text} {k : ℕ} {node : Node} (read : NodeRead bytes k node) where
  -- what a node of that kind shows
  pub shown : {κ : Kind} → node.kind ≡ κ → Shows bytes k κ
  shown e = subst (Shows bytes k) e read.shows

  -- a node with no typing line
  pub no_fault : {t : Tree} → tree_at (trees bytes) k ≡ t → tree_lines k t ≡ [] → Ok tt ≡ typing_fault bytes k
  unfolding typing_fault fault_of answer_of first_that_holds
  no_fault e h = rw (e, h)

-- a lens has the fault of its lines
lens_fault : (bytes : Text) (k : ℕ) {l : Lens} {fault : TypingAnswer} → tree_at (trees bytes) k ≡ lens l → fault ≡ fault_of (typing_lines k l) → fault ≡ typing_fault bytes k
unfolding typing_fault tree_lines
lens_fault bytes k e h = rw e h

module _ {bytes : Text} {prepared : List ℕ} (built : Built bytes prepared) {k : ℕ} (inside : k < node_count bytes) where
  -- the two nodes below a lens made of two
  pub two_stand : {make : Lens → Lens → Tree} {a b : ℕ} → TwoLenses (trees bytes) k a b make → Stands prepared a × Stands prepared b
  two_stand h = (stands built (omega (arith, h.left_lower)), stands built (omega (arith, h.right_lower)))

  -- its fault, if the automata of both tell it
  pub two_fault :
      {make : Lens → Lens → Lens} {a b : ℕ} {fault : TypingAnswer} (h : TwoLenses (trees bytes) k a b (λ l m. lens (make l m)))
      → ((l m : Lens) → SpeaksFor prepared a l → SpeaksFor prepared b m → fault ≡ fault_of (typing_lines k (make l m)))
      → fault ≡ typing_fault bytes k
  two_fault h f =
      lens_fault bytes k h.tree_is
      (f h.left h.right
      (speaks_for built (omega (arith, h.left_lower)) h.at_left)
      (speaks_for built (omega (arith, h.right_lower)) h.at_right))

  -- the child of a repeat, and the repeat itself
  pub repeat_stand : {make : Lens → Tree} {a : ℕ} → OneLens (trees bytes) k a make → Stands prepared a × Stands prepared k
  repeat_stand h = (stands built (omega (arith, h.lower)), stands built inside)

  -- a repeat's fault, if its own automata and those of its child tell it
  pub repeat_fault :
      {a : ℕ} {fault : TypingAnswer} (h : OneLens (trees bytes) k a (λ l. lens (repeat l)))
      → ((l : Lens) → SpeaksFor prepared a l → SpeaksFor prepared k (repeat l) → fault ≡ fault_of (typing_lines k (repeat l)))
      → fault ≡ typing_fault bytes k
  repeat_fault h f =
      lens_fault bytes k h.tree_is
      (f h.child (speaks_for built (omega (arith, h.lower)) h.at_child) (speaks_for built inside h.tree_is))

  -- a const's fault, if its parts tell it
  pub const_fault :
      {a b c : ℕ} {fault : TypingAnswer} (h : ConstParts (trees bytes) k a b c)
      → ((r : Pattern) (w d : Text)
      → tree_at (trees bytes) a ≡ pattern r
      → tree_at (trees bytes) c ≡ pattern (word d)
      → fault ≡ fault_of (typing_lines k (const r w d)))
      → fault ≡ typing_fault bytes k
  const_fault h f =
      lens_fault bytes k h.tree_is (f h.child h.sheet_word h.default_word h.at_child h.at_default)

-- ---- The default word

module _ (bytes : Text) (k : ℕ) {d : Text} (e : tree_at (trees bytes) k ≡ pattern (word d)) where
  -- a word's tree is no other
  no_other : {A : Type 0} (t : Tree) → word_of t ≡ none → tree_at (trees bytes) k ≡ t → A
  unfolding word_of
  no_other t h f = absurd (none-ne-some d (sym h ∙ ap word_of (sym f ∙ e)))

  -- so it shows a word
  pub word_shown : (κ : Kind) → Shows bytes k κ → (start : ℕ) × (len : ℕ) × (κ ≡ Word start len)
  unfolding Shows word_of
  word_shown (Word start len) h = (start, len, refl)
  word_shown (OneOf at runs) h = no_other _ refl h.tree_is
  word_shown (PatternJoin a b) h = no_other _ refl h.tree_is
  word_shown (PatternUnion a b) h = no_other _ refl h.tree_is
  word_shown (PatternRepeat a) h = no_other _ refl h.tree_is
  word_shown (Copy a) h = no_other _ refl h.tree_is
  word_shown (Const a b c) h = no_other _ refl h.tree_is
  word_shown (Key a) h = no_other _ refl h.tree_is
  word_shown (LensJoin a b) h = no_other _ refl h.tree_is
  word_shown (LensUnion a b) h = no_other _ refl h.tree_is
  word_shown (LensRepeat a) h = no_other _ refl h.tree_is
  word_shown (Match a) h = no_other _ refl h.tree_is

module _ {bytes : Text} {k start len : ℕ} (part : WordPart bytes k start len) (n : ℕ) (n_is : n ≡ node_count bytes) where
  -- a word's bytes lie within the table, behind its n nodes
  pub word_inside : Right bytes → (3 + 4 * n + start + len ≤ length bytes) × (length bytes ≤ 1000)
  word_inside h = (omega (arith, part.inside), omega arith)

  -- and are the word
  pub word_bytes : {d : Text} → tree_at (trees bytes) k ≡ pattern (word d) → take (3 + 4 * n + start + len - (3 + 4 * n + start)) (drop (3 + 4 * n + start) bytes) ≡ d
  unfolding pool
  word_bytes e =
      let size : 3 + 4 * n + start + len - (3 + 4 * n + start) ≡ len = omega arith in
      rw (size, n_is, ← drop-drop start (3 + 4 * node_count bytes) bytes) (cc part.tree_is)
