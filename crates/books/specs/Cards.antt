-- The card of a key: equal keys, which may differ by trailing spaces, have equal cards, and cards of different keys differ. Beside it goes a byte of the key's fingerprint.
use Rattle.std.specs.Prelude.{◌≡◌, refl, Bool, true, false, ◌&&◌, cond, [], ◌∷◌, ◌++◌, map, ℕ, zero, suc, ◌+◌, ◌*◌, ◌/◌, ◌%◌, ◌≤◌, ◌<◌, leb, length, take, drop}
use Rattle.std.proofs.Common.{sym, ap, ◌∙◌, arith, take-append-drop, length-append, length-take, length-drop, take-take, leb-true, leb-false}
use Rattle.std.proofs.Math.Seq.{take-append_seam}
use Rattle.semantics.specs.Text.{Text, same_text, joined, least, trimmed}
use Rattle.semantics.specs.Pattern.{Pattern, star, matches}
use Rattle.semantics.specs.Lens.{Lens, copy, const, key, join, union, repeat, match, sheet, language, cut_at, parts, parts_within, key_of, same_key}
use Rattle.laws.specs.Basics.{not_both, false_of_not_true, same_text_refl, same_text_eq}
use Rattle.laws.specs.Keys.{trimmed_short, same_key_eq, same_key_of}

-- the fingerprint with one byte more
unfoldable pub print_next : ℕ → ℕ → ℕ
print_next print byte = (print * 31153 + byte + 1) % 65536

-- the fingerprint of a text, from that of what stands in front of it
unfoldable pub print_from : ℕ → Text → ℕ
print_from print [] = print
print_from print (byte ∷ text) = print_from (print_next print byte) text

unfoldable pub print_of : Text → ℕ
print_of text = print_from 0 text

-- the byte that goes beside the card of a key: of the fingerprint of what its card holds
unfoldable pub print_byte : Text → ℕ
print_byte k = print_of (trimmed k) / 256

-- a number in two bytes, the high one first
abbrev pub two_bytes : ℕ → Text
two_bytes n = n / 256 ∷ n % 256 ∷ []

-- the card of a key: its text without trailing spaces, and before that the length of it
unfoldable pub card_of : Text → Text
card_of k = two_bytes (length (trimmed k)) ++ trimmed k

-- whether a text begins with another
unfoldable pub begins : Text → Text → Bool
begins start text = same_text (take (length start) text) start

-- A slot that holds a card tells whether its key is one that is looked up, which has at most 4,096 bytes; so does the byte beside it, where it differs.
pub record Tells (key slot : Text) (print : ℕ) : Type 0 where
  pub tells : (k : Text) → length k ≤ 4096 → begins (card_of k) slot ≡ same_key key k
  pub prints : (k : Text) → length k ≤ 4096 → same_key key k ≡ true → print ≡ print_byte k

-- A slot begins with the card of a key, of `size` bytes, and `print` goes beside it; or the key has more than 4,096 bytes, trailing spaces not counted, and the slot begins with a length that
-- no card has.
pub record CardAt (key slot : Text) (size print : ℕ) : Type 0 where
  pub within : size ≤ length slot
  pub small : size ≤ 4098
  pub short : length (trimmed key) ≤ 4096 → (take size slot ≡ card_of key) × (print ≡ print_byte key)
  pub long : 4096 < length (trimmed key) → (2 ≤ size) × (take 2 slot ≡ two_bytes 65535)

-- ---- What a card tells

-- a number is told by its two bytes
same_two : (m n : ℕ) → m / 256 ≡ n / 256 → m % 256 ≡ n % 256 → m ≡ n
same_two m n high low = omega arith

-- a card has two bytes more than its key, trailing spaces cut
pub card_length : (k : Text) → length (card_of k) ≡ 2 + length (trimmed k)
unfolding card_of
card_length k = omega arith

-- keys of which the same is left have one card, and one byte beside it
pub card_same : (k m : Text) → trimmed k ≡ trimmed m → card_of k ≡ card_of m
unfolding card_of
card_same k m e = rw e

pub print_same : (k m : Text) → trimmed k ≡ trimmed m → print_byte k ≡ print_byte m
unfolding print_byte
print_same k m e = rw e

-- a slot that holds the card of a key begins with that of no other
card_begins : (own behind k : Text) → begins (card_of k) (card_of own ++ behind) ≡ true → trimmed own ≡ trimmed k
unfolding begins card_of
card_begins own behind k e =
    let same = same_text_eq _ _ e in
    let high : length (trimmed own) / 256 ≡ length (trimmed k) / 256 = cc in
    let low : length (trimmed own) % 256 ≡ length (trimmed k) % 256 = cc in
    let as_long = same_two (length (trimmed own)) (length (trimmed k)) high low in
    let rest : take (length (trimmed k)) (trimmed own ++ behind) ≡ trimmed k = cc in
    rw (← as_long, take-append_seam) at rest

-- a test is another's answer where each passes if the other does
same_test : (a b : Bool) → (a ≡ true → b ≡ true) → (b ≡ true → a ≡ true) → a ≡ b
same_test true b h k = sym (h refl)
same_test false b h k = sym (false_of_not_true b (λ e. not_both (k e) refl))

-- a card tells its key, whatever stands behind it
tells_card : (own behind : Text) → Tells own (card_of own ++ behind) (print_byte own)
unfolding begins
tells_card own behind =
    record {
      tells = λ k small.
          same_test
          (begins (card_of k) (card_of own ++ behind))
          (same_key own k)
          (λ e. same_key_of own k (card_begins own behind k e))
          (λ e. rw (card_same own k (same_key_eq own k e), take-append_seam) (same_text_refl (card_of k)));
      prints = λ k small e. print_same own k (same_key_eq own k e);
    }

-- a length that no card has tells a key that is too long to be looked up
tells_none : (own behind : Text) (print : ℕ) → 4096 < length (trimmed own) → Tells own (two_bytes 65535 ++ behind) print
unfolding begins card_of
tells_none own behind print long =
    record {
      tells = λ k small.
          false_of_not_true
          (begins (card_of k) (two_bytes 65535 ++ behind))
          (λ e. let same = same_text_eq _ _ e in let high : 255 ≡ length (trimmed k) / 256 = cc in omega (arith, trimmed_short k))
          ∙ sym (false_of_not_true (same_key own k) (λ e. longer k small (same_key_eq own k e)));
      prints = λ k small e. absurd (longer k small (same_key_eq own k e));
    }
  where
    longer : (k : Text) → length k ≤ 4096 → trimmed own ≡ trimmed k → ⊥
    longer k small e = omega (arith, long, small, ap length e, trimmed_short k)

-- a slot tells the key whose card it begins with, whatever stands behind it
pub card_tells :
    {own card slot : Text} {size print : ℕ} → CardAt own card size print → take size slot ≡ take size card → Tells own slot print
card_tells {own} {card} {slot} {size} {print} made same = go (leb (length (trimmed own)) 4096) refl
  where
    go : (short : Bool) → leb (length (trimmed own)) 4096 ≡ short → Tells own slot print
    go true e =
        let (card_is, print_is) = made.short (leb-true (length (trimmed own)) 4096 e) in
        let slot_is : slot ≡ card_of own ++ drop size slot = sym (take-append-drop size slot) ∙ ap (λ t. t ++ drop size slot) (same ∙ card_is) in
        rw (slot_is, print_is) (tells_card own (drop size slot))
    go false e =
        let long = leb-false (length (trimmed own)) 4096 e in
        let (two, head-is) = made.long (omega (arith, long)) in
        let front : take 2 slot ≡ two_bytes 65535 =
        sym (take-take 2 size slot two) ∙ ap (take 2) same ∙ take-take 2 size card two ∙ head-is in
        let slot_is : slot ≡ two_bytes 65535 ++ drop 2 slot = sym (take-append-drop 2 slot) ∙ ap (λ t. t ++ drop 2 slot) front in
        rw slot_is (tells_none own (drop 2 slot) print (omega (arith, long)))

-- ---- How long a key is

-- parts that are each cut shorter come to no more than the text
parts_short : (f : Text → Text) → ((t : Text) → length (f t) ≤ length t) → (r : Pattern) (n : ℕ) (t : Text) → length (joined (map f (parts_within n r t))) ≤ length t
unfolding parts_within joined
parts_short f h r zero t = omega arith
parts_short f h r (suc n) [] = omega arith
parts_short f h r (suc n) (c ∷ t) =
    let i = least (length t) (λ j. matches r (c ∷ take j t) && matches (star r) (drop j t)) in
    let first = h (c ∷ take i t) in
    let rest = parts_short f h r n (drop i t) in
    rw length-append (omega (arith, length-take i t, length-drop i t))

-- a key is never longer than its text
pub key_short : (l : Lens) (t : Text) → length (key_of l t) ≤ length t
unfolding key_of parts
key_short (copy r) t = omega arith
key_short (const r w d) t = omega arith
key_short (key r) t = omega arith
key_short (join l m) t =
    let i = cut_at (language sheet l) (language sheet m) t in
    let left = key_short l (take i t) in
    let right = key_short m (drop i t) in
    rw length-append (omega (arith, length-take i t, length-drop i t))
key_short (union l m) t = go (matches (language sheet l) t) (key_short l t) (key_short m t)
  where
    go : (b : Bool) → length (key_of l t) ≤ length t → length (key_of m t) ≤ length t → length (cond b (key_of l t) (key_of m t)) ≤ length t
    go true left right = left
    go false left right = right
key_short (repeat l) t = parts_short (key_of l) (key_short l) (language sheet l) (length t) t
key_short (match n l) t = key_short l t
