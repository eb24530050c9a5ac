-- What is known of a node of a prepared program: its kind, its words, its automata, the nodes below it.
use Rattle.std.specs.Prelude.{◌≡◌, refl, Bool, true, false, cond, ◌⊎◌, List, [], ◌∷◌, ℕ, ◌+◌, ◌-◌, ◌*◌, ◌≤◌, ◌<◌, eqb, ltb, length, take, drop, get_or}
use Rattle.std.proofs.Common.{sym, inl, inr, ap, subst, ◌∙◌, arith, drop-drop, eqb-true, ltb-true}
use types.Run.{OneOf, miss}
use denote.Enum.Declared.{tag_of}
use Rattle.semantics.specs.Text.{Text}
use Rattle.semantics.specs.Pattern.{word, one_of, concat, alt, star}
use Rattle.semantics.specs.Lens.{Lens, copy, key, join, union, repeat, match, language}
use Rattle.semantics.specs.Table.{at, node_count, pool, Tree, pattern, lens, broken, tree_at, trees}
use Rattle.table.specs.declared.Kind.{Kind}
use Rattle.table.specs.declared.Kind.TheVariants.{Word, OneOf as ByteOf, PatternJoin, PatternUnion, PatternRepeat, Copy, Const, Key, LensJoin, LensUnion, LensRepeat, Match}
use Rattle.table.specs.declared.Node.{Node}
use Rattle.table.specs.Prepared.{OnePattern, OneLens, TwoLenses, ConstParts, WordPart, Shows}
use Rattle.table.specs.Rules.{AllSized, NodeRead}
use Rattle.table.specs.contracts.Kind.{the_type}
use Rattle.laws.specs.RightSizes.{Right, right_of}
use Rattle.automaton.specs.declared.Side.{Side}
use Rattle.automaton.specs.Rows.{side_of, automaton_at, Describes}
use Rattle.automaton.specs.Built.{Built, tree_language}
use Rattle.lens.specs.declared.Mode.{Mode}
use Rattle.lens.specs.declared.Mode.TheVariants.{Get, Key as KeyMode, Create, SourceKey}
use Rattle.lens.specs.Reading.{mode_side, given_word}
use Rattle.lens.specs.Emitting.{side_for, Prepared, WordNode, WordIs, LensNode}

-- a tree is one lens, and a word's has one text
pub same_lens : (l m : Lens) → lens l ≡ lens m → l ≡ m
same_lens l m e = cc e

pub same_word : (w v : Text) → pattern (word w) ≡ pattern (word v) → w ≡ v
same_word w v e = cc e

-- the two names of the side that is read
side_for_lem : (mode : Mode) → side_of (side_for mode) ≡ mode_side mode
unfolding side_of side_for mode_side
side_for_lem Get = refl
side_for_lem KeyMode = refl
side_for_lem Create = refl
side_for_lem SourceKey = refl

-- the sizes of a table that was read are right
pub sizes_are : {bytes : Text} {prepared : List ℕ} → AllSized bytes prepared → Right bytes
sizes_are {bytes} sized = right_of bytes sized.sized.sizes_right

-- ---- What a node's kind says of its tree

-- the sort of a tree: a word, another pattern, a lens
abbrev sort_of : Tree → ℕ
sort_of (pattern (word w)) = 0
sort_of (pattern (one_of c)) = 1
sort_of (pattern (concat p q)) = 1
sort_of (pattern (alt p q)) = 1
sort_of (pattern (star p)) = 1
sort_of (lens l) = 2
sort_of broken = 3

-- the sort of the tree that a kind has, by the kind's tag
abbrev sort_by : ℕ → ℕ
sort_by tag = cond (eqb tag 0) 0 (cond (ltb tag 5) 1 2)

kind_sort : (bytes : Text) (node : ℕ) (κ : Kind) → Shows bytes node κ → sort_of (tree_at (trees bytes) node) ≡ sort_by (tag_of the_type κ)
unfolding Shows
kind_sort bytes node (Word start len) s = ap sort_of s.tree_is
kind_sort bytes node (ByteOf at runs) s = ap sort_of s.tree_is
kind_sort bytes node (PatternJoin left right) s = ap sort_of s.tree_is
kind_sort bytes node (PatternUnion left right) s = ap sort_of s.tree_is
kind_sort bytes node (PatternRepeat child) s = ap sort_of s.tree_is
kind_sort bytes node (Copy child) s = ap sort_of s.tree_is
kind_sort bytes node (Const child sheet default) s = ap sort_of s.tree_is
kind_sort bytes node (Key child) s = ap sort_of s.tree_is
kind_sort bytes node (LensJoin left right) s = ap sort_of s.tree_is
kind_sort bytes node (LensUnion left right) s = ap sort_of s.tree_is
kind_sort bytes node (LensRepeat child) s = ap sort_of s.tree_is
kind_sort bytes node (Match child) s = ap sort_of s.tree_is

-- only a word has a word's tag
word_tag : (tag : ℕ) → 0 ≡ sort_by tag → tag ≡ 0
word_tag tag e = go (eqb tag 0) (ltb tag 5) refl e
  where
    go : (is_word is-pattern : Bool) → eqb tag 0 ≡ is_word → ◌≡◌ {A = ℕ} 0 (cond is_word 0 (cond is-pattern 1 2)) → tag ≡ 0
    go true p t f = eqb-true tag 0 t
    go false true t f = absurd (omega arith)
    go false false t f = absurd (omega arith)

-- the tags of the other kinds
abbrev pub OtherTags : List ℕ
OtherTags = 1 ∷ 2 ∷ 3 ∷ 4 ∷ 5 ∷ 6 ∷ 7 ∷ 8 ∷ 9 ∷ 10 ∷ 11 ∷ []

-- a node that is a word is read as one, and not as another kind
pub word_read :
    {A : Type 0} {bytes : Text} {prepared : List ℕ} {node : ℕ} {r : Node}
    → WordNode bytes prepared node
    → NodeRead bytes node r
    → OneOf OtherTags (tag_of the_type r.kind)
    → A
word_read {bytes} {node} {r} known read other =
    let tag_is = word_tag (tag_of the_type r.kind) (sym (ap sort_of known.tree_is) ∙ kind_sort bytes node r.kind read.shows) in
    absurd (miss OtherTags 0 tt (subst (OneOf OtherTags) tag_is other))

-- the kind that has a word's tag is a word
word_kind : (κ : Kind) → tag_of the_type κ ≡ 0 → (a : ℕ) × (b : ℕ) × (κ ≡ Word a b)
word_kind (Word a b) e = (a, b, refl)
word_kind (ByteOf a b) e = absurd (omega (arith, e))
word_kind (PatternJoin a b) e = absurd (omega (arith, e))
word_kind (PatternUnion a b) e = absurd (omega (arith, e))
word_kind (PatternRepeat a) e = absurd (omega (arith, e))
word_kind (Copy a) e = absurd (omega (arith, e))
word_kind (Const a b c) e = absurd (omega (arith, e))
word_kind (Key a) e = absurd (omega (arith, e))
word_kind (LensJoin a b) e = absurd (omega (arith, e))
word_kind (LensUnion a b) e = absurd (omega (arith, e))
word_kind (LensRepeat a) e = absurd (omega (arith, e))
word_kind (Match a) e = absurd (omega (arith, e))

-- so a node that is a word is read as one
pub word_not_read :
    {A : Type 0} {bytes : Text} {prepared : List ℕ} {node : ℕ} {r : Node}
    → WordNode bytes prepared node
    → NodeRead bytes node r
    → ((a b : ℕ) → r.kind ≡ Word a b → ⊥)
    → A
word_not_read {bytes} {node} {r} known read other =
    let (a, b, is) = word_kind r.kind (word_tag (tag_of the_type r.kind) (sym (ap sort_of known.tree_is) ∙ kind_sort bytes node r.kind read.shows)) in
    absurd (other a b is)

-- a node that is a lens is not read as a pattern
pub lens_read :
    {A : Type 0} {bytes : Text} {prepared : List ℕ} {node : ℕ} {r : Node} (κ : Kind)
    → LensNode bytes prepared node
    → NodeRead bytes node r
    → r.kind ≡ κ
    → ltb (sort_by (tag_of the_type κ)) 2 ≡ true
    → A
lens_read {bytes} {node} κ known read e lower =
    let sort_is : 2 ≡ sort_by (tag_of the_type κ) = sym (ap sort_of known.tree_is) ∙ kind_sort bytes node κ (subst (Shows bytes node) e read.shows) in
    absurd (omega (arith, sort_is, ltb-true (sort_by (tag_of the_type κ)) 2 lower))

-- so it is none of the kinds of a pattern
pub no_pattern :
    {A : Type 0} {bytes : Text} {prepared : List ℕ} {node : ℕ} {r : Node}
    → LensNode bytes prepared node
    → NodeRead bytes node r
    → ((a : ℕ) × (b : ℕ) × (r.kind ≡ Word a b))
    ⊎ (((a : ℕ) × (b : ℕ) × (r.kind ≡ ByteOf a b))
    ⊎ (((a : ℕ) × (b : ℕ) × (r.kind ≡ PatternJoin a b))
    ⊎ (((a : ℕ) × (b : ℕ) × (r.kind ≡ PatternUnion a b)) ⊎ ((a : ℕ) × (r.kind ≡ PatternRepeat a)))))
    → A
no_pattern known read (inl w) = lens_read _ known read w.2 refl
no_pattern known read (inr (inl w)) = lens_read _ known read w.2 refl
no_pattern known read (inr (inr (inl w))) = lens_read _ known read w.2 refl
no_pattern known read (inr (inr (inr (inl w)))) = lens_read _ known read w.2 refl
no_pattern known read (inr (inr (inr (inr w)))) = lens_read _ known read w.1 refl

module _ {bytes : Text} {node : ℕ} {r : Node} (read : NodeRead bytes node r) where
  -- what is shown of the kind that was read
  shown : {κ : Kind} → r.kind ≡ κ → Shows bytes node κ
  shown e = subst (Shows bytes node) e read.shows

  pub shown_word : {a b : ℕ} → r.kind ≡ Word a b → WordPart bytes node a b
  unfolding Shows
  shown_word e = shown e

  pub shown_copy : {a : ℕ} → r.kind ≡ Copy a → OnePattern (trees bytes) node a (λ p. lens (copy p))
  unfolding Shows
  shown_copy e = shown e

  pub shown_const : {a b c : ℕ} → r.kind ≡ Const a b c → ConstParts (trees bytes) node a b c
  unfolding Shows
  shown_const e = shown e

  pub shown_key : {a : ℕ} → r.kind ≡ Key a → OnePattern (trees bytes) node a (λ p. lens (key p))
  unfolding Shows
  shown_key e = shown e

  pub shown_join : {a b : ℕ} → r.kind ≡ LensJoin a b → TwoLenses (trees bytes) node a b (λ l m. lens (join l m))
  unfolding Shows
  shown_join e = shown e

  pub shown_union : {a b : ℕ} → r.kind ≡ LensUnion a b → TwoLenses (trees bytes) node a b (λ l m. lens (union l m))
  unfolding Shows
  shown_union e = shown e

  pub shown_repeat : {a : ℕ} → r.kind ≡ LensRepeat a → OneLens (trees bytes) node a (λ l. lens (repeat l))
  unfolding Shows
  shown_repeat e = shown e

  pub shown_match : {a : ℕ} → r.kind ≡ Match a → OneLens (trees bytes) node a (λ l. lens (match a l))
  unfolding Shows
  shown_match e = shown e

-- ---- Words

-- where the bytes of a word stand in the table, as they are lent
pub word_placed :
    {bytes : Text} {node start len : ℕ}
    → WordPart bytes node start len
    → let from = 3 + 4 * get_or bytes 0 0 + start in WordIs bytes node (take (from + len - from) (drop from bytes))
unfolding pool node_count at
word_placed {bytes} {node} {start} {len} part =
    let from = 3 + 4 * get_or bytes 0 0 + start in
    let as_long : from + len - from ≡ len = omega arith in
    let placed : drop from bytes ≡ drop start (drop (3 + 4 * get_or bytes 0 0) bytes) = sym (drop-drop start (3 + 4 * get_or bytes 0 0) bytes) in
    record { letters_are = λ w e. rw (as_long, placed) (same_word (take len (drop start (drop (3 + 4 * get_or bytes 0 0) bytes))) w (sym part.tree_is ∙ e)) }

-- the bytes of a word stand within the table
pub word_inside :
    {bytes : Text} {prepared : List ℕ} {node start len : ℕ}
    → AllSized bytes prepared
    → WordPart bytes node start len
    → 3 + 4 * get_or bytes 0 0 + start + len ≤ length bytes
unfolding node_count at
word_inside sized part = omega (arith, (sizes_are sized).total, part.inside)

-- ---- The words and the automata of a node

-- the numbers of a node stand in the prepared program
pub words_inside : {bytes : Text} {prepared : List ℕ} {k : ℕ} → Built bytes prepared → k < node_count bytes → 16 * k + 16 ≤ length prepared
words_inside built inside = omega (arith, inside, (sizes_are built.sized).few_nodes, built.sized.room)

module _ {bytes : Text} {prepared : List ℕ} {node : ℕ} (known : LensNode bytes prepared node) where
  -- a lens below a node of the program is a node of the program
  pub lens_below : {child : ℕ} (l : Lens) → child < node → tree_at (trees bytes) child ≡ lens l → LensNode bytes prepared child
  lens_below l lower e = record { built = known.built; inside = omega (arith, known.inside); tree = l; tree_is = e }

  pub word_below : {child : ℕ} (w : Text) → child < node → tree_at (trees bytes) child ≡ pattern (word w) → WordNode bytes prepared child
  word_below w lower e = record { sized = known.built.sized; inside = omega (arith, known.inside); letters = w; tree_is = e }

  -- a node's words and the rows of its automata are in the prepared program
  pub node_words : 16 * node + 16 ≤ length prepared
  node_words = words_inside known.built known.inside

  pub node_prepared : (side : Side) → Prepared prepared node side
  node_prepared side = record { words = node_words; room = (known.built.automata node known.inside side).room }

  -- its automaton is that of its language, on the side that is read
  pub describes_lens :
      (mode : Mode) (l : Lens)
      → tree_at (trees bytes) node ≡ lens l
      → Describes (language (mode_side mode) l) (automaton_at prepared node (side_for mode)) prepared
  unfolding tree_language
  describes_lens mode l e =
      let h = (known.built.automata node known.inside (side_for mode)).described in
      rw (← side_for_lem mode) (subst (λ t. Describes (tree_language (side_of (side_for mode)) t) (automaton_at prepared node (side_for mode)) prepared) e h)

-- ---- The nodes below a node

module _ {bytes : Text} {prepared : List ℕ} {node : ℕ} (known : LensNode bytes prepared node) where
  pub child_below : {a : ℕ} {make : Lens → Tree} → OneLens (trees bytes) node a make → LensNode bytes prepared a
  child_below s = lens_below known s.child s.lower s.at_child

  pub left_below : {a b : ℕ} {make : Lens → Lens → Tree} → TwoLenses (trees bytes) node a b make → LensNode bytes prepared a
  left_below s = lens_below known s.left s.left_lower s.at_left

  pub right_below : {a b : ℕ} {make : Lens → Lens → Tree} → TwoLenses (trees bytes) node a b make → LensNode bytes prepared b
  right_below s = lens_below known s.right s.right_lower s.at_right

  -- the word that a const gives
  pub given_below :
      {a b c : ℕ} (mode : Mode) → ConstParts (trees bytes) node a b c → {given : ℕ} → given ≡ given_word mode b c → WordNode bytes prepared given
  given_below Get s e = rw e (word_below known s.sheet_word s.sheet_lower s.at_sheet)
  given_below KeyMode s e = rw e (word_below known s.sheet_word s.sheet_lower s.at_sheet)
  given_below Create s e = rw e (word_below known s.default_word s.default_lower s.at_default)
  given_below SourceKey s e = rw e (word_below known s.sheet_word s.sheet_lower s.at_sheet)

-- its letters are those that the lens has
pub given_letters :
    {bytes : Text} {node a b c : ℕ} (mode : Mode) (s : ConstParts (trees bytes) node a b c) {given : ℕ}
    → given ≡ given_word mode b c
    → {letters : Text}
    → WordIs bytes given letters
    → letters ≡ given_word mode s.sheet_word s.default_word
given_letters Get s e w = (rw e at w).letters_are s.sheet_word s.at_sheet
given_letters KeyMode s e w = (rw e at w).letters_are s.sheet_word s.at_sheet
given_letters Create s e w = (rw e at w).letters_are s.default_word s.at_default
given_letters SourceKey s e w = (rw e at w).letters_are s.sheet_word s.at_sheet
