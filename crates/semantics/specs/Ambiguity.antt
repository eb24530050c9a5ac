-- The typing rules' questions about languages, said on texts of any length, and beside each a test that computes.
use Rattle.std.specs.Prelude.{◌≡◌, Bool, true, false, ◌&&◌, ◌||◌, cond, List, [], ◌∷◌, ◌++◌, map, ◌⊎◌, ℕ, zero, suc, ◌*◌, max, min, leb, eqb, length}
use Rattle.semantics.specs.Text.{Text, joined, same_text, All, some_passes}
use Rattle.semantics.specs.Pattern.{Run, Class, Pattern, word, one_of, concat, alt, star, In, nullable, heads}

-- ---- On texts

-- Document 01, lens join: a text that has two cuts into a text of r and a text of s.
pub record TwoCuts (r s : Pattern) : Type 0 where
  pub left : Text
  pub right : Text
  pub left_in : In r left
  pub right_in : In s right
  pub left' : Text
  pub right' : Text
  pub left_in' : In r left'
  pub right_in' : In s right'
  pub same_text_lem : left ++ right ≡ left' ++ right'
  pub other_cut : ¬ (left ≡ left')

-- Document 01, lens union: a text of both arms.
pub record Overlap (r s : Pattern) : Type 0 where
  pub text : Text
  pub in_left : In r text
  pub in_right : In s text

-- Document 01, lens repeat: a text that has two cuts into parts.
pub record TwoLists (r : Pattern) : Type 0 where
  pub parts : List Text
  pub parts_in : All (In r) parts
  pub parts' : List Text
  pub parts_in' : All (In r) parts'
  pub same_text_lem : joined parts ≡ joined parts'
  pub other_parts : ¬ (parts ≡ parts')

-- Document 01, lens repeat: the empty text is in the child's language, or some text has two cuts into parts.
abbrev pub BadRepeat : Pattern → Type 0
BadRepeat r = In r [] ⊎ TwoLists r

-- ---- Tests

-- Two patterns that one text has led to, each from its own start.
abbrev pub Pair : Type 0
Pair = Pattern × Pattern

-- Whether one byte lies in both runs.
unfoldable pub runs_meet : Run → Run → Bool
runs_meet r s = leb (max r.first s.first) (min r.last s.last)

-- Whether one byte is in both classes: some run of the one meets some run of the other.
unfoldable pub share_byte : Class → Class → Bool
share_byte c d = some_passes (λ r. some_passes (runs_meet r) d) c

-- the pairs to which one common byte leads
unfoldable pub next_pairs : Pair → List Pair
next_pairs p = joined (map (λ h. joined (map (λ k. cond (share_byte h.class k.class) ((h.rest, k.rest) ∷ []) []) (heads p.1))) (heads p.0))

unfoldable pub same_run : Run → Run → Bool
same_run r s = eqb r.first s.first && eqb r.last s.last

-- whether they have the same runs in the same order
unfoldable pub same_class : Class → Class → Bool
same_class [] [] = true
same_class [] (s ∷ d) = false
same_class (r ∷ c) [] = false
same_class (r ∷ c) (s ∷ d) = same_run r s && same_class c d

unfoldable pub same_pattern : Pattern → Pattern → Bool
same_pattern (word w) q = elim q [ word v ↦ same_text w v | one_of d ↦ false | concat r s ↦ false | alt r s ↦ false | star r ↦ false ]
same_pattern (one_of c) q = elim q [ word v ↦ false | one_of d ↦ same_class c d | concat r s ↦ false | alt r s ↦ false | star r ↦ false ]
same_pattern (concat x y) q =
    elim q [ word v ↦ false | one_of d ↦ false | concat r s ↦ same_pattern x r && same_pattern y s | alt r s ↦ false | star r ↦ false ]
same_pattern (alt x y) q =
    elim q [ word v ↦ false | one_of d ↦ false | concat r s ↦ false | alt r s ↦ same_pattern x r && same_pattern y s | star r ↦ false ]
same_pattern (star x) q = elim q [ word v ↦ false | one_of d ↦ false | concat r s ↦ false | alt r s ↦ false | star r ↦ same_pattern x r ]

unfoldable pub same_pair : Pair → Pair → Bool
same_pair p q = same_pattern p.0 q.0 && same_pattern p.1 q.1

-- One turn of a search: the first pair due that was not seen is seen, and its next pairs are due.
unfoldable pub visit : (List Pair → List Pair → List Pair) → List Pair → List Pair → List Pair
visit go seen [] = seen
visit go seen (p ∷ due) =
    let skipped = visit go seen due in
    let added = go (p ∷ seen) (next_pairs p ++ due) in
    cond (some_passes (same_pair p) seen) skipped added

unfoldable pub explore : ℕ → List Pair → List Pair → List Pair
explore zero seen due = seen
explore (suc n) seen due = visit (explore n) seen due

-- every pattern that reading a text of r can lead to, r among them
unfoldable pub word_rests : Text → List Pattern
word_rests [] = []
word_rests (c ∷ w) = word w ∷ word_rests w

unfoldable pub rests : Pattern → List Pattern
rests (word w) = word_rests w
rests (one_of c) = word [] ∷ []
rests (concat r s) = map (λ k. concat k s) (rests r) ++ rests s
rests (alt r s) = rests r ++ rests s
rests (star r) = map (λ k. concat k (star r)) (rests r)

unfoldable pub states : Pattern → List Pattern
states r = r ∷ rests r

-- the pairs that some text leads to from a pair of `starts`, all of which are states of r or s; no pair is seen twice, so that many
-- turns are enough
unfoldable pub reached : Pattern → Pattern → List Pair → List Pair
reached r s starts = let n = length (states r ++ states s) in explore (suc (n * n)) [] starts

unfoldable pub both_end : Pair → Bool
both_end p = nullable p.0 && nullable p.1

-- Is there a text of both?
unfoldable pub overlaps : Pattern → Pattern → Bool
overlaps r s = some_passes both_end (reached r s ((r, s) ∷ []))

-- where the first of a pair may end, the pairs with which to go on
unfoldable pub onward : (Pattern → List Pair) → List Pair → List Pair
onward f ps = joined (map (λ p. cond (nullable p.0) (f p.1) []) ps)

-- Is there a text with two cuts? It is u x v with u and u x in r, x v and v in s, and x not empty: read u in r twice, then x in r and
-- in s, then v in s twice.
unfoldable pub two_cuts : Pattern → Pattern → Bool
two_cuts r s =
    let u = reached r s ((r, r) ∷ []) in
    let x = reached r s (onward (λ p. next_pairs (p, s)) u) in
    let v = reached r s (onward (λ p. (p, s) ∷ []) x) in
    some_passes both_end v

-- Does a repeat of r fail?
unfoldable pub bad_repeat : Pattern → Bool
bad_repeat r = nullable r || two_cuts r (star r)
