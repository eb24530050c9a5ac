-- A text written over a buffer: as much of it as the buffer takes, and behind it the buffer as it was.
use Rattle.std.specs.Prelude.{◌≡◌, refl, Bool, true, false, ◌&&◌, cond, ◌⊎◌, [], ◌∷◌, ◌++◌, ℕ, zero, suc, ◌+◌, ◌-◌, ◌≤◌, ◌<◌, min, leb, length, take, drop}
use Rattle.std.proofs.Common.{sym, ◌∙◌, inl, inr, append_assoc, append-nil, le_of_lt, arith, length-append, length-take, length-drop, drop_of_length-le, take_all, drop-drop, leb-true, leb-false, le-leb}
use Rattle.std.proofs.Math.Path.{ap}
use Rattle.std.proofs.Math.Nat.{sub-zero}
use Rattle.std.proofs.Math.Seq.{take-nil, drop-nil, take-append-add, take_at, drop_at}
use Rattle.std.proofs.lemmas.List.{take-append-le}
use Rattle.std.proofs.lemmas.Bool.{lt-leb}
use Rattle.semantics.specs.Text.{Text, all_spaces}
use Rattle.laws.specs.Basics.{cond_true, cond_false}
use Rattle.laws.specs.Keys.{spaces_append}
use Rattle.std.specs.Prelude.{Option, Some, None}

-- What a writer answers: how many bytes it set, which are the text, or a key but for trailing spaces; or nothing, where the text did not fit.
abbrev pub Wrote : Type 0
Wrote = Option ℕ

unfoldable pub overlay : Text → Text → Text
overlay text buffer = take (length buffer) text ++ drop (length text) buffer

-- Whether a text has room in a buffer: it is no longer than the buffer; or, of a text whose trailing spaces don't count, as a key's don't, all that has no place there is spaces.
unfoldable pub has_room : Bool → Text → Text → Bool
has_room padded text buffer = cond padded (all_spaces (drop (length buffer) text)) (leb (length text) (length buffer))

-- what a writer of the text into the buffer answers: how many bytes were set, where it has room
unfoldable pub wrote_of : Bool → Text → Text → Wrote
wrote_of padded text buffer = cond (has_room padded text buffer) (Some (min (length text) (length buffer))) None

-- What a writer owes: the buffer afterwards, and the answer; of a text whose trailing spaces count, or don't.
pub record Lays (padded : Bool) (text before after : Text) (answer : Wrote) : Type 0 where
  pub buffer_is : after ≡ overlay text before
  pub answer_is : answer ≡ wrote_of padded text before

-- The same of a text that is written whole: all its bytes count.
abbrev pub Writes : Text → Text → Text → Wrote → Type 0
Writes text before after answer = Lays false text before after answer

-- an overlay is as long as the buffer
pub overlay_length : (text buffer : Text) → length (overlay text buffer) ≡ length buffer
unfolding overlay
overlay_length text buffer = simp (length-append, length-take, length-drop) (omega arith)

-- a text that fits stands in front of what was behind it
pub overlay_fits : (text buffer : Text) → length text ≤ length buffer → overlay text buffer ≡ text ++ drop (length text) buffer
unfolding overlay
overlay_fits text buffer h = rw (take_all (length buffer) text h)

-- of a text that does not fit, the buffer holds what it takes
pub overlay_over : (text buffer : Text) → length buffer ≤ length text → overlay text buffer ≡ take (length buffer) text
unfolding overlay
overlay_over text buffer h = rw (drop_of_length-le buffer h, append-nil)

-- ---- Room

-- the text is no longer than the buffer, or it is
fits_or_over : (text buffer : Text) → (length text ≤ length buffer) ⊎ (length buffer < length text)
fits_or_over text buffer = go (leb (length text) (length buffer)) refl
  where
    go : (b : Bool) → leb (length text) (length buffer) ≡ b → (length text ≤ length buffer) ⊎ (length buffer < length text)
    go true e = inl (leb-true (length text) (length buffer) e)
    go false e = inr (leb-false (length text) (length buffer) e)

-- a text that is no longer has room
room_fits : (padded : Bool) (text buffer : Text) → length text ≤ length buffer → has_room padded text buffer ≡ true
unfolding has_room all_spaces
room_fits true text buffer h = rw (drop_of_length-le text h)
room_fits false text buffer h = le-leb (length text) (length buffer) h

-- and one that is longer has none, unless its trailing spaces don't count
room_over : (text buffer : Text) → length buffer < length text → has_room false text buffer ≡ false
unfolding has_room
room_over text buffer h = lt-leb (length text) (length buffer) h

-- what is behind n bytes of a text whose first part is s
drop_behind : (n : ℕ) (s t : Text) → drop n (s ++ t) ≡ drop n s ++ drop (n - length s) t
drop_behind n [] t = rw (drop-nil n, sub-zero n) refl
drop_behind zero (c ∷ s) t = let none : zero - length (c ∷ s) ≡ 0 = omega arith in rw none refl
drop_behind (suc n) (c ∷ s) t = let less : suc n - length (c ∷ s) ≡ n - length s = omega arith in rw less (drop_behind n s t)

-- two parts have room if the first has, and the second behind it
room_next : (padded : Bool) (s t buffer : Text) → has_room padded (s ++ t) buffer ≡ has_room padded s buffer && has_room padded t (drop (length s) buffer)
unfolding has_room
room_next true s t buffer =
    rw (length-drop (length s) buffer) (ap all_spaces (drop_behind (length buffer) s t) ∙ spaces_append (drop (length buffer) s) (drop (length buffer - length s) t))
room_next false s t buffer = go (fits_or_over s buffer)
  where
    whole : length (s ++ t) ≡ length s + length t
    whole = length-append s t

    room : length (drop (length s) buffer) ≡ length buffer - length s
    room = length-drop (length s) buffer

    behind : length s ≤ length buffer → leb (length (s ++ t)) (length buffer) ≡ leb (length t) (length (drop (length s) buffer))
    behind h = split (fits_or_over t (drop (length s) buffer))
      where
        split :
            (length t ≤ length (drop (length s) buffer)) ⊎ (length (drop (length s) buffer) < length t)
            → leb (length (s ++ t)) (length buffer) ≡ leb (length t) (length (drop (length s) buffer))
        split (inl k) = le-leb (length (s ++ t)) (length buffer) (omega (arith, whole, room)) ∙ sym (le-leb (length t) (length (drop (length s) buffer)) k)
        split (inr k) = lt-leb (length (s ++ t)) (length buffer) (omega (arith, whole, room)) ∙ sym (lt-leb (length t) (length (drop (length s) buffer)) k)

    go :
        (length s ≤ length buffer) ⊎ (length buffer < length s)
        → leb (length (s ++ t)) (length buffer) ≡ leb (length s) (length buffer) && leb (length t) (length (drop (length s) buffer))
    go (inl h) = rw (le-leb (length s) (length buffer) h) (behind h)
    go (inr h) = rw (lt-leb (length s) (length buffer) h) (lt-leb (length (s ++ t)) (length buffer) (omega (arith, whole)))

-- ---- What room says of the answer, and the answer of the room

pub wrote_room : (padded : Bool) (text buffer : Text) → has_room padded text buffer ≡ true → wrote_of padded text buffer ≡ Some (min (length text) (length buffer))
unfolding wrote_of
wrote_room padded text buffer h = cond_true (has_room padded text buffer) (Some (min (length text) (length buffer))) None h

pub wrote_none : (padded : Bool) (text buffer : Text) → has_room padded text buffer ≡ false → wrote_of padded text buffer ≡ None
unfolding wrote_of
wrote_none padded text buffer h = cond_false (has_room padded text buffer) (Some (min (length text) (length buffer))) None h

pub count_room :
    (padded : Bool) (text buffer : Text) (n : ℕ)
    → Some n ≡ wrote_of padded text buffer
    → (n ≡ min (length text) (length buffer)) × (has_room padded text buffer ≡ true)
count_room padded text buffer n e = go (has_room padded text buffer) refl
  where
    go : (b : Bool) → has_room padded text buffer ≡ b → (n ≡ min (length text) (length buffer)) × (has_room padded text buffer ≡ true)
    go true h = (cc (wrote_room padded text buffer h), h)
    go false h = absurd (let z : ◌≡◌ {A = ℕ} 0 1 = cc (wrote_none padded text buffer h) in omega arith)

pub full_room : (padded : Bool) (text buffer : Text) → None ≡ wrote_of padded text buffer → has_room padded text buffer ≡ false
full_room padded text buffer e = go (has_room padded text buffer) refl
  where
    go : (b : Bool) → has_room padded text buffer ≡ b → has_room padded text buffer ≡ false
    go true h = absurd (let z : ◌≡◌ {A = ℕ} 0 1 = cc (wrote_room padded text buffer h) in omega arith)
    go false h = h

-- ---- and of the lengths

pub wrote_fits : (padded : Bool) (text buffer : Text) → length text ≤ length buffer → wrote_of padded text buffer ≡ Some (length text)
wrote_fits padded text buffer h =
    let all : min (length text) (length buffer) ≡ length text = omega arith in
    wrote_room padded text buffer (room_fits padded text buffer h) ∙ ap Some all

pub wrote_over : (text buffer : Text) → length buffer < length text → wrote_of false text buffer ≡ None
wrote_over text buffer h = wrote_none false text buffer (room_over text buffer h)

pub count_fits : (text buffer : Text) (n : ℕ) → Some n ≡ wrote_of false text buffer → (n ≡ length text) × (length text ≤ length buffer)
count_fits text buffer n e = go (fits_or_over text buffer)
  where
    go : (length text ≤ length buffer) ⊎ (length buffer < length text) → (n ≡ length text) × (length text ≤ length buffer)
    go (inl h) = (cc (wrote_fits false text buffer h), h)
    go (inr h) = absurd (let z : ◌≡◌ {A = ℕ} 0 1 = cc (wrote_over text buffer h) in omega arith)

pub full_over : (padded : Bool) (text buffer : Text) → None ≡ wrote_of padded text buffer → length buffer < length text
full_over padded text buffer e = go (fits_or_over text buffer)
  where
    go : (length text ≤ length buffer) ⊎ (length buffer < length text) → length buffer < length text
    go (inl h) = absurd (let z : ◌≡◌ {A = ℕ} 0 1 = cc (wrote_fits padded text buffer h) in omega arith)
    go (inr h) = h

-- ---- One text behind another

-- nothing is written
pub writes_nothing : {padded : Bool} (buffer : Text) → Lays padded [] buffer buffer (Some 0)
unfolding overlay
writes_nothing {padded} buffer =
    record { buffer_is = rw take-nil; answer_is = sym (wrote_fits padded [] buffer (omega arith)) }

-- what was written lies within the buffer
pub writes_within : {padded : Bool} (text before after : Text) (n : ℕ) → Lays padded text before after (Some n) → n ≤ length after
writes_within {padded} text before after n w = rw (w.buffer_is, overlay_length) (omega (arith, count_room padded text before n w.answer_is))

-- a text whose first part fits: that part, and the second laid over the buffer from there on
next_fits : (s t buffer : Text) → length s ≤ length buffer → overlay (s ++ t) buffer ≡ s ++ overlay t (drop (length s) buffer)
unfolding overlay
next_fits s t buffer h =
    let lent : length buffer ≡ length s + length (drop (length s) buffer) = rw length-drop (omega arith) in
    rw (length-append, lent, take-append-add) (simp (append_assoc, drop-drop))

-- over no buffer, nothing is laid
overlay_nowhere : (text : Text) → overlay text [] ≡ []
unfolding overlay
overlay_nowhere text = drop-nil (length text)

-- a text in two parts: of the first as much as the buffer takes, and the second laid over the buffer from there on
overlay_next : (s t buffer : Text) → overlay (s ++ t) buffer ≡ take (length buffer) s ++ overlay t (drop (length s) buffer)
overlay_next s t buffer = go (fits_or_over s buffer)
  where
    go : (length s ≤ length buffer) ⊎ (length buffer < length s) → overlay (s ++ t) buffer ≡ take (length buffer) s ++ overlay t (drop (length s) buffer)
    go (inl h) = next_fits s t buffer h ∙ ap (λ u. u ++ overlay t (drop (length s) buffer)) (sym (take_all (length buffer) s h))
    go (inr h) =
        let below : length buffer ≤ length s = le_of_lt h in
        rw
        (overlay_over (s ++ t) buffer (rw length-append (omega (arith, below))), take-append-le (length buffer) s t below, drop_of_length-le buffer below, overlay_nowhere t, append-nil)
        refl

-- the first part did not fit: neither does the whole, whatever comes behind
pub writes_full : {padded : Bool} (s t before after : Text) → Lays padded s before after None → Lays padded (s ++ t) before after None
writes_full {padded} s t before after w =
    let over : length before < length s = full_over padded s before w.answer_is in
    let below : length before ≤ length s = omega arith in
    let still : length before ≤ length (s ++ t) = rw length-append (omega arith) in
    let none = room_next padded s t before ∙ ap (λ b. b && has_room padded t (drop (length s) before)) (full_room padded s before w.answer_is) in
    record {
      buffer_is = w.buffer_is ∙ rw (overlay_over s before below, overlay_over (s ++ t) before still, take-append-le (length before) s t below);
      answer_is = sym (wrote_none padded (s ++ t) before none);
    }

-- the answer for a text whose first part has room, from the answer for the second
wrote_next :
    (padded : Bool) (s t buffer : Text)
    → has_room padded s buffer ≡ true
    → (answer : Wrote)
    → answer ≡ wrote_of padded t (drop (length s) buffer)
    → (sum : Wrote)
    → ((m : ℕ) → answer ≡ Some m → sum ≡ Some (min (length s) (length buffer) + m))
    → (answer ≡ None → sum ≡ None)
    → sum ≡ wrote_of padded (s ++ t) buffer
wrote_next padded s t buffer h answer e sum counts full = go (has_room padded t lent) refl
  where
    lent : Text
    lent = drop (length s) buffer

    whole : length (s ++ t) ≡ length s + length t
    whole = length-append s t

    room : length lent ≡ length buffer - length s
    room = length-drop (length s) buffer

    both : has_room padded (s ++ t) buffer ≡ has_room padded t lent
    both = room_next padded s t buffer ∙ ap (λ b. b && has_room padded t lent) h

    set_both : min (length s) (length buffer) + min (length t) (length lent) ≡ min (length (s ++ t)) (length buffer)
    set_both = omega (arith, whole, room)

    go : (b : Bool) → has_room padded t lent ≡ b → sum ≡ wrote_of padded (s ++ t) buffer
    go true fits =
        counts (min (length t) (length lent)) (e ∙ wrote_room padded t lent fits)
        ∙ ap Some set_both
        ∙ sym (wrote_room padded (s ++ t) buffer (both ∙ fits))
    go false over = full (e ∙ wrote_none padded t lent over) ∙ sym (wrote_none padded (s ++ t) buffer (both ∙ over))

-- what was set of a text, and what is behind it, where it has room
module _ {padded : Bool} {text before after : Text} {n : ℕ} (w : Lays padded text before after (Some n)) where
  set_length : length (take (length before) text) ≡ n
  set_length = omega (arith, length-take (length before) text, count_room padded text before n w.answer_is)

  pub front_set : take n after ≡ take (length before) text
  unfolding overlay
  front_set = ap (take n) w.buffer_is ∙ take_at (take (length before) text) (drop (length text) before) n set_length

  behind_set : drop n after ≡ drop (length text) before
  unfolding overlay
  behind_set = ap (drop n) w.buffer_is ∙ drop_at (take (length before) text) (drop (length text) before) n set_length

-- The first part has room, and the second is written into the buffer from there on: `rest` is what the second writer left of that part.
pub writes_next :
    {padded : Bool} (s t before after rest : Text) (n : ℕ) (answer : Wrote)
    → Lays padded s before after (Some n)
    → Lays padded t (drop n after) rest answer
    → (sum : Wrote)
    → ((m : ℕ) → answer ≡ Some m → sum ≡ Some (n + m))
    → (answer ≡ None → sum ≡ None)
    → Lays padded (s ++ t) before (take n after ++ rest) sum
writes_next {padded} s t before after rest n answer first second sum counts full =
    let (n_is, room) = count_room padded s before n first.answer_is in
    let lent = behind_set first in
    record {
      buffer_is = rw (front_set first, second.buffer_is, lent) (sym (overlay_next s t before));
      answer_is =
          wrote_next
          padded
          s
          t
          before
          room
          answer
          (second.answer_is ∙ ap (wrote_of padded t) lent)
          sum
          (λ m e. counts m e ∙ ap (λ k. Some (k + m)) n_is)
          full;
    }

-- The same, with the part from n on lent and given back as the prover says it: as many elements as there are behind n, and behind them nothing.
pub writes_lent :
    {padded : Bool} (s t before after rest : Text) (n : ℕ) (answer : Wrote)
    → Lays padded s before after (Some n)
    → Lays padded t (take (length after - n) (drop n after)) rest answer
    → (sum : Wrote)
    → ((m : ℕ) → answer ≡ Some m → sum ≡ Some (n + m))
    → (answer ≡ None → sum ≡ None)
    → Lays padded (s ++ t) before (take n after ++ (rest ++ drop (length after - n) (drop n after))) sum
writes_lent s t before after rest n answer first second sum counts full =
    let reaches : length (drop n after) ≤ length after - n = rw length-drop (omega arith) in
    rw (drop_of_length-le (drop n after) reaches, append-nil)
    (writes_next s t before after rest n answer first (rw (take_all (length after - n) (drop n after) reaches) at second) sum counts full)
