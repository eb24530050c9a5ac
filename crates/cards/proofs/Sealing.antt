-- What a card tells of a key: the one that was written behind its head. Assumes nothing.
use mathlib.Core.Path.{◌≡◌, refl, sym, ap, ap₂, ◌∙◌}
use mathlib.Core.Bool.{Bool, true}
use mathlib.Core.List.{List, ◌++◌, append-nil}
use Prim.Native.Nat.{ℕ, ◌+◌, ◌-◌, ◌/◌, ◌≤◌, ◌<◌}
use native.Mathlib.Nat.{add-sub_cancel_left}
use native.Mathlib.Omega.{arith}
use lib.ListN.{length, take, drop, take-append-drop, length-take, length-drop, drop_of_length-le}
use lib.Seq.{length-take-le, take-take, take-append_seam, drop-drop, drop_at}
use Rattle.semantics.specs.Text.{Text, trimmed}
use Rattle.semantics.specs.Lens.{key_of}
use Rattle.laws.specs.Keys.{trimmed_append, trimmed_take, trimmed_short, trimmed_over}
use Rattle.lens.specs.declared.Mode.{Mode}
use Rattle.lens.specs.declared.Mode.TheVariants.{Key}
use Rattle.texts.specs.Overlay.{Wrote}
use Rattle.std.specs.Prelude.{Some, None}
use Rattle.texts.specs.Overlay.{Lays, has_room, count_room, full_room, writes_within, front_set}
use Rattle.lens.specs.Reading.{reading}
use Rattle.texts.specs.Cutting.{part_length_lem}
use Rattle.lens.specs.Emitting.{LensNode, Emits}
use Rattle.books.specs.Cards.{print_of, print_byte, two_bytes, card_of, CardAt, card_length, card_same, print_same, key_short}
use Rattle.cards.specs.declared.Card.{Card}
use Rattle.cards.specs.Sealed.{KeyBehind, key_behind, Sealed, KeyCard}

-- ---- A card is sealed

-- of a key of n bytes, as it is lent, no more than n are left without its trailing spaces,
pub kept_within : (card : Text) (n kept : ℕ) → kept ≡ length (trimmed (take (2 + n - 2) (drop 2 card))) → kept ≤ n
kept_within card n kept kept_is =
    let key = take (2 + n - 2) (drop 2 card) in
    omega (arith, kept_is, trimmed_short key, length-take (2 + n - 2) (drop 2 card))

-- and those stand at its front
kept_front : (card : Text) (n kept : ℕ) → kept ≤ n → kept ≡ length (trimmed (key_behind card n)) → take kept (drop 2 card) ≡ trimmed (key_behind card n)
kept_front card n kept within size =
    let key = key_behind card n in
    sym (take-take kept n (drop 2 card) within) ∙ ap (λ k. take k key) size ∙ trimmed_take key

-- a key of which the length, without trailing spaces, was put into the head
pub sealed_key :
    (card : Text) (n kept print : ℕ)
    → kept ≡ length (trimmed (take (2 + n - 2) (drop 2 card)))
    → print ≡ print_of (take (2 + kept - 2) (drop 2 card))
    → {after : Text}
    → after ≡ two_bytes kept ++ drop 2 card
    → Sealed card (Some n) after (record { len = 2 + kept; print = print / 256 })
unfolding card_of print_byte
sealed_key card n kept print kept_is print_is {after} put =
    let key = key_behind card n in
    let size : kept ≡ length (trimmed key) = rw add-sub_cancel_left at kept_is in
    let front : take kept (drop 2 card) ≡ trimmed key = kept_front card n kept (kept_within card n kept kept_is) size in
    let rest : drop 2 card ≡ trimmed key ++ drop (2 + kept) card = sym (take-append-drop kept (drop 2 card)) ∙ ap₂ ◌++◌ front (drop-drop kept 2 card) in
    let whole : length (card_of key) ≡ 2 + kept = card_length key ∙ ap (λ m. 2 + m) (sym size) in
    record {
      card_is =
          put
          ∙ ap (λ t. two_bytes kept ++ t) rest
          ∙ ap₂ (λ m d. (two_bytes m ++ trimmed key) ++ drop d card) size (sym whole);
      length_is = sym whole;
      print_is = rw (print_is, add-sub_cancel_left, front) refl;
    }

-- A key that had room but for trailing spaces: of what was written the same is left.
left_written : {key before after : Text} {n : ℕ} → Lays true key before after (Some n) → trimmed (take n after) ≡ trimmed key
unfolding has_room
left_written {key} {before} {after} {n} w =
    let size = length before in
    let (n_is, spaces) = count_room true key before n w.answer_is in
    ap trimmed (front_set w) ∙ sym (trimmed_append (take size key) (drop size key) spaces) ∙ ap trimmed (take-append-drop size key)

-- Of one that had not, more is left than has room.
left_over : {key before after : Text} → Lays true key before after None → length before < length (trimmed key)
unfolding has_room
left_over {key} {before} w = trimmed_over (length before) key (full_room true key before w.answer_is)

-- the part of a card behind its head, as it is lent
abbrev pub behind_head : Text → Text
behind_head card = take (length card - 2) (drop 2 card)

-- the card to which it was given back as `rest`
abbrev pub with_behind : Text → Text → Text
with_behind card rest = take 2 card ++ (rest ++ drop (length card - 2) (drop 2 card))

module _ (card rest : Text) (long : length card ≡ 4098) where
  behind_head_lem : drop 2 (with_behind card rest) ≡ rest
  behind_head_lem =
      let reaches : length (drop 2 card) ≤ length card - 2 = rw length-drop (omega arith) in
      rw (drop_of_length-le (drop 2 card) reaches, append-nil) (drop_at (take 2 card) rest 2 (length-take-le 2 card (omega arith)))

  -- it has room for a key of 4,096 bytes
  room : length (behind_head card) ≡ 4096
  room = simp (length-take, length-drop) (omega arith)

  pub card_long : length rest ≡ length (behind_head card) → length (with_behind card rest) ≡ 4098
  card_long kept = part_length_lem card rest 2 (length card) (omega arith) (omega arith) kept ∙ long

  module _ (kept : length rest ≡ length (behind_head card)) where
    -- what was written there has its bytes within the card
    written_behind : {padded : Bool} {text : Text} {wrote : Wrote} → Lays padded text (behind_head card) rest wrote → KeyBehind (with_behind card rest) wrote
    written_behind {padded} {text} writes =
        record {
          within = λ n e.
              let inside = writes_within text (behind_head card) rest n (rw e at writes) in
              omega (arith, inside, kept, room, card_long kept);
        }

    -- A key was written there:
    module _ {key : Text} {wrote : Wrote} (writes : Lays true key (behind_head card) rest wrote) where
      -- sealed, it is the key's card
      pub sealed_at :
          {after : Text} {r : Card}
          → length after ≡ length (with_behind card rest)
          → Sealed (with_behind card rest) wrote after r
          → CardAt key after r.len r.print
      sealed_at {after} {r} same sealed = go wrote writes sealed
        where
          whole : Text
          whole = with_behind card rest

          as_long : length after ≡ 4098
          as_long = same ∙ card_long kept

          go : (w : Wrote) → Lays true key (behind_head card) rest w → Sealed whole w after r → CardAt key after r.len r.print
          go (Some n) writes sealed =
              let written = key_behind whole n in
              let same_left : trimmed written ≡ trimmed key = ap (λ (t : Text). trimmed (take n t)) behind_head_lem ∙ left_written writes in
              let inside = writes_within key (behind_head card) rest n writes in
              let short_card : length (card_of written) ≤ 2 + n = omega (arith, card_length written, trimmed_short written, length-take n (drop 2 whole)) in
              record {
                within = omega (arith, sealed.length_is, short_card, inside, kept, room, as_long);
                small = omega (arith, sealed.length_is, short_card, inside, kept, room);
                short = λ h. (
                  rw
                      (sealed.card_is, sealed.length_is)
                      (take-append_seam (card_of written) (drop (length (card_of written)) whole) ∙ card_same written key same_left),
                  sealed.print_is ∙ print_same written key same_left,
                );
                long = λ h. absurd (omega (arith, h, ap length same_left, trimmed_short written, length-take n (drop 2 whole), inside, kept, room));
              }
          go None writes sealed =
              let over = left_over writes in
              record {
                within = omega (arith, sealed.length_is, as_long);
                small = omega (arith, sealed.length_is);
                short = λ h. absurd (omega (arith, over, room));
                long = λ h. (omega (arith, sealed.length_is), rw sealed.card_is refl);
              }

-- ---- The card of a key that was read off a text

pub emits_behind :
    (card : Text)
    {bytes : Text} {prepared : List ℕ} {node : ℕ} {mode : Mode} {text rest : Text} {wrote : Wrote}
    → LensNode bytes prepared node
    → length card ≡ 4098
    → length rest ≡ length (behind_head card)
    → Emits bytes node mode text (behind_head card) rest wrote
    → KeyBehind (with_behind card rest) wrote
emits_behind card {rest = rest} known long kept emits = written_behind card rest long kept (emits.writes known.tree known.tree_is)

-- that of a sheet text, which is as short as the text
pub card_made :
    (card : Text)
    {bytes : Text} {prepared : List ℕ} {node : ℕ} {text rest : Text} {wrote : Wrote}
    → LensNode bytes prepared node
    → length card ≡ 4098
    → length rest ≡ length (behind_head card)
    → Emits bytes node Key text (behind_head card) rest wrote
    → length text ≤ 4096
    → {after : Text} {r : Card}
    → length after ≡ length (with_behind card rest)
    → Sealed (with_behind card rest) wrote after r
    → KeyCard bytes node text after r
unfolding reading
card_made card {text = text} {rest = rest} known long kept emits short same sealed =
    record {
      within = (sealed_at card rest long kept (emits.writes known.tree known.tree_is) same sealed).within;
      card_is = λ l e.
          ((sealed_at card rest long kept (emits.writes l e) same sealed).short (omega (arith, key_short l text, trimmed_short (key_of l text), short))).0;
      print_is = λ l e.
          ((sealed_at card rest long kept (emits.writes l e) same sealed).short (omega (arith, key_short l text, trimmed_short (key_of l text), short))).1;
    }
