-- Classes of bytes, patterns (kinds 0 to 5), the language of a pattern, and a test for membership that computes.
use Rattle.std.specs.Prelude.{◌≡◌, Bool, true, false, ◌&&◌, ◌||◌, cond, List, [], ◌∷◌, ◌++◌, map, ◌⊎◌, ℕ, leb}
use Rattle.semantics.specs.Text.{Text, joined, All, some_passes}

-- Document 02 (ii), of a pair: 'a first and a last byte, both included'
pub record Run : Type 0 where
  pub first : ℕ
  pub last : ℕ

-- What one position may hold, a set of bytes: those of its runs, 'in any order, overlaps allowed'.
abbrev pub Class : Type 0
Class = List Run

-- the class of one run: a range
unfoldable pub range : ℕ → ℕ → Class
range first last = record { first = first; last = last } ∷ []

-- Document 01, range: 'first byte a, last byte b, both included'
unfoldable pub in_run : ℕ → Run → Bool
in_run byte r = leb r.first byte && leb byte r.last

-- Document 02 (ii): 'The test whether a byte lies in a range .. is to speak of a set': some run holds it.
unfoldable pub in_class : Class → ℕ → Bool
in_class c byte = some_passes (in_run byte) c

-- A pattern, written out as a tree. `one_of` is one byte of a class: a range, whose class is one run, or a set. Document 01's pattern join,
-- union and repeat are `concat`, `alt` and `star`, the names that they have for regular expressions; a lens has its own join, union and repeat.
pub data Pattern : Type 0 where
  word : Text → Pattern
  one_of : Class → Pattern
  concat alt : Pattern → Pattern → Pattern
  star : Pattern → Pattern

-- The language of a pattern (003, section 2): `In r t` holds the ways in which the text t belongs to r.
unfoldable pub In : Pattern → Text → Type 0
In (word w) t = t ≡ w
In (one_of c) t = (byte : ℕ) × (t ≡ byte ∷ []) × (in_class c byte ≡ true)
In (concat r s) t = (u : Text) × (v : Text) × (t ≡ u ++ v) × In r u × In s v
In (alt r s) t = In r t ⊎ In s t
In (star r) t = (ps : List Text) × (t ≡ joined ps) × All (In r) ps

-- whether the empty text belongs
unfoldable pub nullable : Pattern → Bool
nullable (word []) = true
nullable (word (c ∷ w)) = false
nullable (one_of c) = false
nullable (concat r s) = nullable r && nullable s
nullable (alt r s) = nullable r || nullable s
nullable (star r) = true

-- One way to read a first byte: any byte of the class, and then a text of `rest`.
pub record Head : Type 0 where
  pub class : Class
  pub rest : Pattern

unfoldable pub before : Pattern → Head → Head
before s h = record { class = h.class; rest = concat h.rest s }

-- All the ways to read a first byte (Antimirov's linear form): `c ∷ t` belongs to r exactly if for one of them c is in the class and
-- t belongs to the rest.
unfoldable pub heads : Pattern → List Head
heads (word []) = []
heads (word (c ∷ w)) = record { class = range c c; rest = word w } ∷ []
heads (one_of c) = record { class = c; rest = word [] } ∷ []
heads (concat r s) = map (before s) (heads r) ++ cond (nullable r) (heads s) []
heads (alt r s) = heads r ++ heads s
heads (star r) = map (before (star r)) (heads r)

-- Whether a text belongs. The law `matches_iff` of the crate `laws` says that it is true exactly for the members.
unfoldable pub matches : Pattern → Text → Bool
matches r [] = nullable r
matches r (c ∷ t) = some_passes (λ h. let later = matches h.rest t in in_class h.class c && later) (heads r)
