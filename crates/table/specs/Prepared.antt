-- What reading a table answers, and what it leaves in the prepared program: the numbers that every later layer reads.
use Rattle.std.specs.Prelude.{◌≡◌, false, cond, List, [], ◌∷◌, ◌++◌, ℕ, ◌+◌, ◌*◌, ◌≤◌, ◌<◌, length, take, drop, get_or, Result, Ok, Err}
use Rattle.std.proofs.Math.Option.{Option, none, some}
use Rattle.semantics.specs.Text.{Text}
use Rattle.semantics.specs.Pattern.{Pattern, word, one_of, concat, alt, star}
use Rattle.semantics.specs.Lens.{Lens, copy, const, key, join, union, repeat, match, source, sheet}
use Rattle.semantics.specs.Table.{node_count, pool_length, sizes_wrong, nodes, trees, Tree, Trees, pattern, lens, broken, tree_at, pool, runs_of, tree_size, tree_positions, holds_match, is_broken, nested, over_limit, Line, line, first_round, root_line, first_that_holds}
use Rattle.table.specs.declared.Table.{Table}
use Rattle.table.specs.declared.Refusal.{Refusal}
use Rattle.table.specs.declared.Kind.{Kind}
use Rattle.table.specs.declared.Kind.TheVariants.{Word, OneOf, PatternJoin, PatternUnion, PatternRepeat, Copy, Const, Key, LensJoin, LensUnion, LensRepeat, Match}

-- the lines 1 to 5, and 'root is no lens', in the order in which the places are passed
unfoldable pub table_lines : Text → List Line
table_lines bytes = line 1 0 (sizes_wrong bytes) ∷ first_round 0 (nodes bytes) (trees bytes) ++ root_line bytes ∷ []

-- a table that is read, or why it is refused
abbrev pub TableAnswer : Type 0
TableAnswer = Result Table Refusal

abbrev pub refusal : ℕ → ℕ → Refusal
refusal number node = record { number = number; node = node }

unfoldable pub answer_for : Text → Option Line → TableAnswer
answer_for bytes none = Ok (record { nodes = node_count bytes; pool = pool_length bytes })
answer_for bytes (some l) = Err (refusal l.number l.node)

-- the answer of reading a table
unfoldable pub table_answer : Text → TableAnswer
table_answer bytes = answer_for bytes (first_that_holds (table_lines bytes))

-- whether a node holds a match, as a number
unfoldable pub match_flag : Tree → ℕ
match_flag (pattern r) = 0
match_flag (lens l) = cond (holds_match l) 1 0
match_flag broken = 0

-- Node k keeps the rules of the first round, and its four sizes stand at 16 * k in the prepared program.
pub record NodeSized (bytes : Text) (prepared : List ℕ) (k : ℕ) : Type 0 where
  pub whole : is_broken (tree_at (trees bytes) k) ≡ false
  pub not_nested : nested (tree_at (trees bytes) k) ≡ false
  pub within : over_limit (tree_at (trees bytes) k) ≡ false
  pub size_is : get_or prepared (16 * k) 0 ≡ tree_size (tree_at (trees bytes) k)
  pub source_is : get_or prepared (16 * k + 1) 0 ≡ tree_positions source (tree_at (trees bytes) k)
  pub sheet_is : get_or prepared (16 * k + 2) 0 ≡ tree_positions sheet (tree_at (trees bytes) k)
  pub match_is : get_or prepared (16 * k + 3) 0 ≡ match_flag (tree_at (trees bytes) k)

-- The first n nodes are sized.
pub record Sized (bytes : Text) (n : ℕ) (prepared : List ℕ) : Type 0 where
  pub sizes_right : sizes_wrong bytes ≡ false
  pub each : (k : ℕ) → k < n → NodeSized bytes prepared k

-- What a node's kind says of its tree: its children are lower nodes, of the right sort.
pub record OnePattern (ts : Trees) (k a : ℕ) (make : Pattern → Tree) : Type 0 where
  pub child : Pattern
  pub lower : a < k
  pub at_child : tree_at ts a ≡ pattern child
  pub tree_is : tree_at ts k ≡ make child

pub record TwoPatterns (ts : Trees) (k a b : ℕ) (make : Pattern → Pattern → Tree) : Type 0 where
  pub left : Pattern
  pub right : Pattern
  pub left_lower : a < k
  pub right_lower : b < k
  pub at_left : tree_at ts a ≡ pattern left
  pub at_right : tree_at ts b ≡ pattern right
  pub tree_is : tree_at ts k ≡ make left right

pub record OneLens (ts : Trees) (k a : ℕ) (make : Lens → Tree) : Type 0 where
  pub child : Lens
  pub lower : a < k
  pub at_child : tree_at ts a ≡ lens child
  pub tree_is : tree_at ts k ≡ make child

pub record TwoLenses (ts : Trees) (k a b : ℕ) (make : Lens → Lens → Tree) : Type 0 where
  pub left : Lens
  pub right : Lens
  pub left_lower : a < k
  pub right_lower : b < k
  pub at_left : tree_at ts a ≡ lens left
  pub at_right : tree_at ts b ≡ lens right
  pub tree_is : tree_at ts k ≡ make left right

pub record ConstParts (ts : Trees) (k a b c : ℕ) : Type 0 where
  pub child : Pattern
  pub sheet_word : Text
  pub default_word : Text
  pub lower : a < k
  pub sheet_lower : b < k
  pub default_lower : c < k
  pub at_child : tree_at ts a ≡ pattern child
  pub at_sheet : tree_at ts b ≡ pattern (word sheet_word)
  pub at_default : tree_at ts c ≡ pattern (word default_word)
  pub tree_is : tree_at ts k ≡ lens (const child sheet_word default_word)

-- a word's part of the pool
pub record WordPart (bytes : Text) (k start len : ℕ) : Type 0 where
  pub inside : start + len ≤ pool_length bytes
  pub tree_is : tree_at (trees bytes) k ≡ pattern (word (take len (drop start (pool bytes))))

-- the runs of a range or a set, from a place of the table on: in the operands of a range, in the pool for a set
pub record RunsPart (bytes : Text) (k at runs : ℕ) : Type 0 where
  pub inside : at + 2 * runs ≤ length bytes
  pub tree_is : tree_at (trees bytes) k ≡ pattern (one_of (runs_of (take (2 * runs) (drop at bytes))))

unfoldable pub Shows : Text → ℕ → Kind → Type 0
Shows bytes k (Word start len) = WordPart bytes k start len
Shows bytes k (OneOf at runs) = RunsPart bytes k at runs
Shows bytes k (PatternJoin a b) = TwoPatterns (trees bytes) k a b (λ r s. pattern (concat r s))
Shows bytes k (PatternUnion a b) = TwoPatterns (trees bytes) k a b (λ r s. pattern (alt r s))
Shows bytes k (PatternRepeat a) = OnePattern (trees bytes) k a (λ r. pattern (star r))
Shows bytes k (Copy a) = OnePattern (trees bytes) k a (λ r. lens (copy r))
Shows bytes k (Const a b c) = ConstParts (trees bytes) k a b c
Shows bytes k (Key a) = OnePattern (trees bytes) k a (λ r. lens (key r))
Shows bytes k (LensJoin a b) = TwoLenses (trees bytes) k a b (λ l m. lens (join l m))
Shows bytes k (LensUnion a b) = TwoLenses (trees bytes) k a b (λ l m. lens (union l m))
Shows bytes k (LensRepeat a) = OneLens (trees bytes) k a (λ l. lens (repeat l))
Shows bytes k (Match a) = OneLens (trees bytes) k a (λ l. lens (match a l))
