-- Lenses (kinds 16 to 22) and what each does: 003, sections 2 and 3, as document 01 settles it.
use Rattle.std.specs.Prelude.{Bool, true, false, ◌&&◌, cond, List, [], ◌∷◌, ◌++◌, map, ℕ, zero, suc, eqb, length, take, drop}
use Rattle.std.proofs.Math.Option.{Option, none, some}
use Rattle.semantics.specs.Text.{Text, joined, same_text, trimmed, least, or_else, apply}
use Rattle.semantics.specs.Pattern.{Pattern, word, concat, alt, star, matches}

-- A lens, written out as a tree. A match carries the number of its child node, by which entries are told apart.
pub data Lens : Type 0 where
  copy : Pattern → Lens
  const : Pattern → Text → Text → Lens
  key : Pattern → Lens
  join union : Lens → Lens → Lens
  repeat : Lens → Lens
  match : ℕ → Lens → Lens

pub data Side : Type 0 where
  source sheet : Side

-- const's language: 'source any text of a, sheet b'
unfoldable pub const_language : Side → Pattern → Text → Pattern
const_language source r w = r
const_language sheet r w = word w

-- The sources of a lens, and its sheets.
unfoldable pub language : Side → Lens → Pattern
language side (copy r) = r
language side (const r w d) = const_language side r w
language side (key r) = r
language side (join l m) = concat (language side l) (language side m)
language side (union l m) = alt (language side l) (language side m)
language side (repeat l) = star (language side l)
language side (match n l) = language side l

-- ---- Cuts. They take the first place at which both halves belong so that they are total, and not because shortest match is meant: in an
-- accepted program there is only one such place (laws: `cut_is`, `parts_is`).

-- Document 01, join: 'texts split in two'; the length of the first half
unfoldable pub cut_at : Pattern → Pattern → Text → ℕ
cut_at r s t = least (length t) (λ i. matches r (take i t) && matches s (drop i t))

unfoldable pub parts_within : ℕ → Pattern → Text → List Text
parts_within zero r t = []
parts_within (suc n) r [] = []
parts_within (suc n) r (c ∷ t) =
    let i = least (length t) (λ j. matches r (c ∷ take j t) && matches (star r) (drop j t)) in
    (c ∷ take i t) ∷ parts_within n r (drop i t)

-- Document 01, repeat: the parts of a text, none of them empty
unfoldable pub parts : Pattern → Text → List Text
parts r t = parts_within (length t) r t

-- ---- Get: the sheet of a source

unfoldable pub get : Lens → Text → Text
get (copy r) t = t
get (const r w d) t = w
get (key r) t = t
get (join l m) t = let i = cut_at (language source l) (language source m) t in get l (take i t) ++ get m (drop i t)
get (union l m) t = cond (matches (language source l) t) (get l t) (get m t)
get (repeat l) t = joined (map (get l) (parts (language source l) t))
get (match n l) t = get l t

-- ---- Keys: 'The key is worked out from the sheet text: key parts joined in order, copy and const giving none; a union uses its left arm
-- if the sheet fits it.'

unfoldable pub key_of : Lens → Text → Text
key_of (copy r) t = []
key_of (const r w d) t = []
key_of (key r) t = t
key_of (join l m) t = let i = cut_at (language sheet l) (language sheet m) t in key_of l (take i t) ++ key_of m (drop i t)
key_of (union l m) t = cond (matches (language sheet l) t) (key_of l t) (key_of m t)
key_of (repeat l) t = joined (map (key_of l) (parts (language sheet l) t))
key_of (match n l) t = key_of l t

-- Document 02 (iv): 'Keys are from now on equal if their bytes are equal once trailing spaces (0x20) are cut.' It is the whole key, its parts
-- joined, that is cut; 'key text itself is copied untouched, spaces included', so nothing but this comparison cuts anything.
unfoldable pub same_key : Text → Text → Bool
same_key k m = same_text (trimmed k) (trimmed m)

-- ---- The book: 'Put first lists the old source's entries in order, the book.'

-- 'Match marks an entry: each text that a match reads is one.' Beside the text, its match's child node and its key, that of its own sheet.
pub record Entry : Type 0 where
  pub child : ℕ
  pub key_text : Text
  pub text : Text

abbrev pub Book : Type 0
Book = List Entry

unfoldable pub entry_of : ℕ → Lens → Text → Entry
entry_of n l t = record { child = n; key_text = key_of l (get l t); text = t }

unfoldable pub entries : Lens → Text → Book
entries (copy r) t = []
entries (const r w d) t = []
entries (key r) t = []
entries (join l m) t = let i = cut_at (language source l) (language source m) t in entries l (take i t) ++ entries m (drop i t)
entries (union l m) t = cond (matches (language source l) t) (entries l t) (entries m t)
entries (repeat l) t = joined (map (entries l) (parts (language source l) t))
entries (match n l) t = entry_of n l t ∷ []

-- Whether an entry is of that child node and has that key.
unfoldable pub answers : ℕ → Text → Entry → Bool
answers n k e = eqb e.child n && same_key e.key_text k

-- What a lookup found, and the book without it.
pub record Taken : Type 0 where
  pub found : Option Text
  pub left : Book

unfoldable pub keeping : Entry → Taken → Taken
keeping e t = record { found = t.found; left = e ∷ t.left }

-- 'A match takes the first unused entry with the same child node and key'; 'taking an entry out gives back the book without it'
unfoldable pub take_entry : ℕ → Text → Book → Taken
take_entry n k [] = record { found = none; left = [] }
take_entry n k (e ∷ b) = cond (answers n k e) (record { found = some e.text; left = b }) (keeping e (take_entry n k b))

-- ---- Put and create: one function over an old text that may be missing. With an old text it is put, without one it is create.

-- the text that was written, and the book that is left
pub record Written : Type 0 where
  pub text : Text
  pub book : Book

abbrev pub Writer : Type 0
Writer = Option Text → Text → Book → Written

-- 'From the buffer's first byte on, a result writes each part directly behind the part before'; the book goes from left to right.
unfoldable pub and_then : Written → (Book → Written) → Written
and_then w next = let w' = next w.book in record { text = w.text ++ w'.text; book = w'.book }

-- Document 01, union: 'put uses the old source's arm if the sheet is of that arm; otherwise the other arm's create. Create takes the left
-- arm when both fit.' The first test is whether the old source is of the left arm, the other two whether the sheet is of the left and of
-- the right arm.
pub data Arm : Type 0 where
  put_left put_right create_left create_right : Arm

unfoldable pub arm_of : Option Bool → Bool → Bool → Arm
arm_of none true fitsRight = create_left
arm_of none false fitsRight = create_right
arm_of (some true) true fitsRight = put_left
arm_of (some true) false fitsRight = create_right
arm_of (some false) fitsLeft true = put_right
arm_of (some false) fitsLeft false = create_left

unfoldable pub write_arm : Writer → Writer → Arm → Writer
write_arm left right put_left old a b = left old a b
write_arm left right put_right old a b = right old a b
write_arm left right create_left old a b = left none a b
write_arm left right create_right old a b = right none a b

-- Document 01, repeat: 'part n of the sheet meets part n of the source. Old parts left over go; sheet parts left over go to create.'
unfoldable pub write_parts : Writer → List Text → List Text → Book → Written
write_parts write olds [] b = record { text = []; book = b }
write_parts write [] (a ∷ as') b = and_then (write none a b) (write_parts write [] as')
write_parts write (t ∷ ts) (a ∷ as') b = and_then (write (some t) a b) (write_parts write ts as')

-- Document 01, match: put onto the entry that was found, never on the old text at the match's own place; 'if there is none it creates'.
unfoldable pub write_match : Writer → Text → Taken → Written
write_match write a t = write t.found a t.left

unfoldable pub write : Lens → Writer
write (copy r) old a b = record { text = a; book = b }
-- 'Put keeps the source; create gives c.'
write (const r w d) old a b = record { text = or_else d old; book = b }
write (key r) old a b = record { text = a; book = b }
write (join l m) old a b =
    let i = cut_at (language sheet l) (language sheet m) a in
    let j = or_else 0 (apply (cut_at (language source l) (language source m)) old) in
    and_then (write l (apply (take j) old) (take i a) b) (write m (apply (drop j) old) (drop i a))
write (union l m) old a b =
    let arm = arm_of (apply (matches (language source l)) old) (matches (language sheet l) a) (matches (language sheet m) a) in
    write_arm (write l) (write m) arm old a b
write (repeat l) old a b = write_parts (write l) (or_else [] (apply (parts (language source l)) old)) (parts (language sheet l) a) b
write (match n l) old a b = write_match (write l) a (take_entry n (key_of l a) b)

-- Put: the sheet, put on the old source, whose entries are the book.
unfoldable pub put : Lens → Text → Text → Text
put l a old = (write l (some old) a (entries l old)).text

-- Create: 'The call Create begins with an empty book.'
unfoldable pub create : Lens → Text → Text
create l a = (write l none a []).text
