-- Where a table is made of bytes, so is each text of each language that it makes.
use Rattle.std.specs.Prelude.{◌≡◌, ℕ, zero, suc, ◌+◌, ◌*◌, ◌<◌, take, drop}
use Rattle.std.proofs.Math.Path.{refl, subst}
use Rattle.std.proofs.Common.{sym, inl, arith}
use mathlib.Core.List.{List, [], ◌∷◌, ◌++◌}
use Rattle.std.proofs.Math.Logic.{⊎_elim}
use Rattle.std.proofs.Math.Option.{some, none-ne-some}
use Rattle.semantics.specs.Text.{Text, joined, All, Member}
use Rattle.semantics.specs.Pattern.{Class, range, in_run, in_class, Pattern, word, one_of, concat, alt, star, In}
use Rattle.semantics.specs.Ambiguity.{TwoCuts, Overlap, TwoLists}
use Rattle.semantics.specs.Lens.{Lens, join, union, repeat, Side, source, sheet, const_language, language}
use Rattle.semantics.specs.Table.{at, Node, node_at, nodes, below, node_count, pool, two, Tree, pattern, lens, broken, Trees, pattern_of, word_of, tree_at, pattern_at, lens_at, word_at, runs_of, set_part, trees}
use Rattle.laws.specs.Basics.{all_append, all_at, map_member, passes_at}
use Rattle.laws.specs.Classes.{run_of}
use Rattle.laws.specs.NodeTrees.{Rows, at_has, trees_have, lens_tree}

-- 'Texts are bytes.'
abbrev pub IsByte : ℕ → Type 0
IsByte c = c < 256

-- all texts of the pattern are made of bytes
abbrev pub OfBytes : Pattern → Type 0
OfBytes r = (t : Text) → In r t → All IsByte t

-- ---- Parts of lists

module _ (P : ℕ → Type 0) where
  all_take : (n : ℕ) (t : Text) → All P t → All P (take n t)
  all_take zero t h = tt
  all_take (suc n) [] h = tt
  all_take (suc n) (c ∷ t) h = (h.0, all_take n t h.1)

  all_drop : (n : ℕ) (t : Text) → All P t → All P (drop n t)
  all_drop zero t h = h
  all_drop (suc n) [] h = tt
  all_drop (suc n) (c ∷ t) h = all_drop n t h.1

  all_joined : (ps : List Text) → All (All P) ps → All P (joined ps)
  unfolding joined
  all_joined [] h = tt
  all_joined (p ∷ ps) h = all_append P p (joined ps) h.0 (all_joined ps h.1)

-- 0 stands for a byte that is not there
at_byte : (bytes : Text) (i : ℕ) → All IsByte bytes → IsByte (at bytes i)
unfolding at
at_byte [] i h = omega arith
at_byte (c ∷ t) zero h = h.0
at_byte (c ∷ t) (suc i) h = at_byte t i h.1

-- ---- The languages of patterns

word_bytes : (w : Text) → All IsByte w → OfBytes (word w)
unfolding In
word_bytes w h t i = subst (All IsByte) (sym i) h

-- each run of the class ends with a byte
abbrev RunsOfBytes : Class → Type 0
RunsOfBytes = All (λ r. IsByte r.last)

class_bytes : (c : Class) → RunsOfBytes c → OfBytes (one_of c)
unfolding In in_class
class_bytes c h t (byte, e, i) =
    let (r, m, p) = passes_at (in_run byte) c i in
    let inside = run_of r byte p in
    let end : r.last < 256 = all_at (λ r. IsByte r.last) r c h m in
    subst (All IsByte) (sym e) (omega arith, tt)

range_bytes : (a b : ℕ) → IsByte b → OfBytes (one_of (range a b))
unfolding range
range_bytes a b h = class_bytes _ (h, tt)

-- the pairs of a text of bytes
runs_bytes : (t : Text) → All IsByte t → RunsOfBytes (runs_of t)
unfolding runs_of
runs_bytes [] h = tt
runs_bytes (first ∷ []) h = tt
runs_bytes (first ∷ last ∷ more) h = (h.1.0, runs_bytes more h.1.1)

set_bytes : (bytes : Text) (a b c : ℕ) → All IsByte bytes → OfBytes (one_of (set_part bytes a b c))
unfolding set_part
set_bytes bytes a b c h = class_bytes _ (runs_bytes _ (all_take IsByte (2 * c) _ (all_drop IsByte (two a b) bytes h)))

module _ (r s : Pattern) (r-bytes : OfBytes r) (s-bytes : OfBytes s) where
  concat_bytes : OfBytes (concat r s)
  unfolding In
  concat_bytes t (u, v, e, i, j) = subst (All IsByte) (sym e) (all_append IsByte u v (r-bytes u i) (s-bytes v j))

  alt_bytes : OfBytes (alt r s)
  unfolding In
  alt_bytes t = ⊎_elim (r-bytes t) (s-bytes t)

star_bytes : (r : Pattern) → OfBytes r → OfBytes (star r)
unfolding In
star_bytes r h t (ps, e, all) = subst (All IsByte) (sym e) (all_joined IsByte ps (each ps all))
  where
    each : (qs : List Text) → All (In r) qs → All (All IsByte) qs
    each [] a = tt
    each (q ∷ qs) a = (h q a.0, each qs a.1)

-- ---- The languages of a table

-- a tree's languages, those of a lens on both sides
abbrev TreeBytes : Tree → Type 0
TreeBytes (pattern r) = OfBytes r
TreeBytes (lens l) = (side : Side) → OfBytes (language side l)
TreeBytes broken = Unit {0}

-- so where all the trees before a node are of bytes
module _ (ts : Trees) (all : All TreeBytes ts) where
  at_bytes : (k : ℕ) → TreeBytes (tree_at ts k)
  at_bytes k = at_has TreeBytes tt ts k all

  lens_at_lem : (k : ℕ) (l : Lens) → lens_at ts k ≡ some l → (side : Side) → OfBytes (language side l)
  lens_at_lem k l e = subst TreeBytes (lens_tree ts k l e) (at_bytes k)

  pattern_at_lem : (k : ℕ) (r : Pattern) → pattern_at ts k ≡ some r → OfBytes r
  unfolding pattern_at pattern_of
  pattern_at_lem k r = go (tree_at ts k) (at_bytes k)
    where
      go : (t : Tree) → TreeBytes t → pattern_of t ≡ some r → OfBytes r
      go (pattern s) h e = let same : s ≡ r = cc in subst OfBytes same h
      go (lens l) h e = absurd (none-ne-some r e)
      go broken h e = absurd (none-ne-some r e)

  word_at_lem : (k : ℕ) (w : Text) → word_at ts k ≡ some w → OfBytes (word w)
  unfolding word_at word_of
  word_at_lem k w = go (tree_at ts k) (at_bytes k)
    where
      go : (t : Tree) → TreeBytes t → word_of t ≡ some w → OfBytes (word w)
      go (pattern (word v)) h e = let same : v ≡ w = cc in subst (λ x. OfBytes (word x)) same h
      go (pattern (one_of c)) h e = absurd (none-ne-some w e)
      go (pattern (concat r s)) h e = absurd (none-ne-some w e)
      go (pattern (alt r s)) h e = absurd (none-ne-some w e)
      go (pattern (star r)) h e = absurd (none-ne-some w e)
      go (lens l) h e = absurd (none-ne-some w e)
      go broken h e = absurd (none-ne-some w e)

  rows_bytes : (bytes : Text) → All IsByte bytes → (a b c : ℕ) → IsByte b → Rows TreeBytes bytes ts a b c
  unfolding language const_language
  rows_bytes bytes own a b c b-byte =
      record {
        of_word = word_bytes _ (all_take IsByte c _ (all_drop IsByte (two a b) bytes own));
        of_range = range_bytes a b b-byte;
        of_set = set_bytes bytes a b c own;
        of_patterns = λ r s p q. (concat_bytes r s (pattern_at_lem a r p) (pattern_at_lem b s q), alt_bytes r s (pattern_at_lem a r p) (pattern_at_lem b s q));
        of_pattern = λ r p. (star_bytes r (pattern_at_lem a r p), λ side. pattern_at_lem a r p, λ side. pattern_at_lem a r p);
        of_const = λ r w d p q o. sides r w (pattern_at_lem a r p) (word_at_lem b w q);
        of_lenses = λ l m p q. (
          λ side. concat_bytes _ _ (lens_at_lem a l p side) (lens_at_lem b m q side),
          λ side. alt_bytes _ _ (lens_at_lem a l p side) (lens_at_lem b m q side),
        );
        of_lens = λ l p. (λ side. star_bytes _ (lens_at_lem a l p side), lens_at_lem a l p);
      }
    where
      sides : (r : Pattern) (w : Text) → OfBytes r → OfBytes (word w) → (side : Side) → OfBytes (const_language side r w)
      sides r w h k source = h
      sides r w h k sheet = k

-- a node's operand b is a byte of the table
node_byte : (bytes : Text) → All IsByte bytes → (n : Node) → Member n (nodes bytes) → IsByte n.b
unfolding nodes node_at
node_byte bytes h n m =
    let at_node = map_member (node_at bytes) n (below (node_count bytes)) m in
    subst (λ x. IsByte x.b) (sym at_node.2) (at_byte bytes _ h)

tree_bytes : (bytes : Text) → All IsByte bytes → (k : ℕ) → TreeBytes (tree_at (trees bytes) k)
unfolding pool
tree_bytes bytes h =
    let of-pool = all_drop IsByte (3 + 4 * node_count bytes) bytes h in
    trees_have
    (λ ts. TreeBytes)
    (λ ts. tt)
    (λ ts us t b. b)
    bytes
    (λ ts n m all. rows_bytes ts all (pool bytes) of-pool n.a n.b n.c (node_byte bytes h n m))

-- In a table of bytes, each text of each pattern is made of bytes, and each source and sheet of each lens.
pub pattern_bytes : (bytes : Text) → All IsByte bytes → (k : ℕ) (r : Pattern) → tree_at (trees bytes) k ≡ pattern r → OfBytes r
pattern_bytes bytes h k r e = subst TreeBytes e (tree_bytes bytes h k)

pub language_bytes :
    (bytes : Text) → All IsByte bytes → (k : ℕ) (l : Lens) → tree_at (trees bytes) k ≡ lens l → (side : Side) → OfBytes (language side l)
language_bytes bytes h k l e = subst TreeBytes e (tree_bytes bytes h k)

-- ---- The texts by which a lens breaks a typing rule

-- A text that is cut two ways, one of both arms, or one cut two ways into parts is a text of the lens, so it is made of bytes: 'such a text
-- exists' means a text that can be handed over.
module _ (bytes : Text) (h : All IsByte bytes) (k : ℕ) (side : Side) where
  pub join_text_bytes :
      (l m : Lens) → tree_at (trees bytes) k ≡ lens (join l m) → (c : TwoCuts (language side l) (language side m)) → All IsByte (c.left ++ c.right)
  unfolding In language
  join_text_bytes l m e c = language_bytes bytes h k (join l m) e side _ (c.left, c.right, refl, c.left_in, c.right_in)

  pub union_text_bytes :
      (l m : Lens) → tree_at (trees bytes) k ≡ lens (union l m) → (o : Overlap (language side l) (language side m)) → All IsByte o.text
  unfolding In language
  union_text_bytes l m e o = language_bytes bytes h k (union l m) e side _ (inl o.in_left)

  pub repeat_text_bytes : (l : Lens) → tree_at (trees bytes) k ≡ lens (repeat l) → (c : TwoLists (language side l)) → All IsByte (joined c.parts)
  unfolding In language
  repeat_text_bytes l e c = language_bytes bytes h k (repeat l) e side _ (c.parts, refl, c.parts_in)
