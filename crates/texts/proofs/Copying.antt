-- A text that is copied into a buffer, byte by byte: what is copied, one byte more, and what was written at the end; and the same of a key. Assumes nothing.
use mathlib.Core.Path.{◌≡◌, refl, sym, ap, ◌∙◌}
use mathlib.Core.Bool.{Bool, true, false}
use mathlib.Core.List.{◌++◌, append_assoc, append-nil}
use Prim.Native.Nat.{ℕ, suc, ◌+◌, ◌-◌, ◌≤◌, ◌<◌, min}
use native.Mathlib.Numerals.{add-one}
use native.Mathlib.Omega.{arith}
use lib.ListN.{length, take, drop, get_or, set, length-append, length-take, length-drop}
use lib.Seq.{take-suc, drop-cons, set_at, length-take-le, take-length, drop-length}
use Rattle.semantics.specs.Text.{Text, all_spaces}
use Rattle.std.specs.Prelude.{Some, None}
use Rattle.texts.specs.Overlay.{Wrote}
use Rattle.texts.specs.Overlay.{Lays, Writes, has_room, overlay_length, overlay_fits, overlay_over, wrote_room, wrote_none, wrote_fits, wrote_over, count_fits, full_over}
use Rattle.texts.specs.Cutting.{rest_lent}

-- The first i bytes of the text stand in front, and behind them the buffer is as it was.
pub record Copied (text before after : Text) (i : ℕ) : Type 0 where
  pub in_text : i ≤ length text
  pub in_buffer : i ≤ length before
  pub copied_is : after ≡ take i text ++ drop i before

module _ {text before after : Text} {i : ℕ} (copied : Copied text before after i) where
  -- the buffer keeps its length
  pub copied_length : length after ≡ length before
  copied_length = rw (copied.copied_is, length-append, length-take, length-drop) (omega arith)

  -- one byte more
  pub copied_more : i < length text → i < length after → Copied text before (set after i (get_or text i 0)) (i + 1)
  copied_more h k =
      let room : i < length before = omega (arith, copied_length) in
      record {
        in_text = omega arith;
        in_buffer = omega arith;
        copied_is =
            rw (copied.copied_is, drop-cons before i 0 room)
            (set_at (take i text) (get_or before i 0) (drop (suc i) before) (get_or text i 0) i (length-take-le i text copied.in_text)
            ∙ rw (add-one, take-suc text i 0 h, append_assoc));
      }

  -- the whole text is copied
  pub copied_all : length text ≤ i → Writes text before after (Some (length text))
  copied_all h =
      let e : i ≡ length text = omega (arith, copied.in_text) in
      let fits : length text ≤ length before = omega (arith, copied.in_buffer) in
      record {
        buffer_is = rw (overlay_fits text before fits, copied.copied_is, e, take-length text);
        answer_is = sym (wrote_fits false text before fits);
      }

  -- the buffer is full, and there is more
  pub copied_full : i < length text → length after ≤ i → Writes text before after None
  copied_full h k =
      let e : i ≡ length before = omega (arith, copied_length, copied.in_buffer) in
      let below : length before ≤ length text = omega arith in
      record {
        buffer_is = rw (overlay_over text before below, copied.copied_is, e, drop-length before, append-nil);
        answer_is = sym (wrote_over text before (omega arith));
      }

-- ---- A text whose trailing spaces don't count, once as much of it is written as fits

module _ {text before after : Text} {wrote : Wrote} (w : Writes text before after wrote) where
  -- all of it has room
  pub key_fits : {n : ℕ} → wrote ≡ Some n → Lays true text before after (Some n)
  key_fits {n} e =
      let (n_is, fits) = count_fits text before n (sym e ∙ w.answer_is) in
      record { buffer_is = w.buffer_is; answer_is = ap Some n_is ∙ sym (wrote_fits true text before fits) }

  module _ (full : wrote ≡ None) where
    longer : length before < length text
    longer = full_over false text before (sym full ∙ w.answer_is)

    kept : length after ≡ length before
    kept = ap length w.buffer_is ∙ overlay_length text before

    -- there is more than has room,
    pub key_longer : length after ≤ length text
    key_longer = omega (arith, longer, kept)

    module _ {rest : Bool} (told : rest ≡ all_spaces (take (length text - length after) (drop (length after) text))) where
      room_told : has_room true text before ≡ rest
      unfolding has_room
      room_told = ap (λ n. all_spaces (drop n text)) (sym kept) ∙ sym (told ∙ ap all_spaces (rest_lent text (length after)))

      -- and that is spaces alone,
      pub key_spaces : rest ≡ true → Lays true text before after (Some (length after))
      key_spaces e =
          let set : length after ≡ min (length text) (length before) = omega (arith, longer, kept) in
          record { buffer_is = w.buffer_is; answer_is = ap Some set ∙ sym (wrote_room true text before (room_told ∙ e)) }

      -- or it is not
      pub key_full : rest ≡ false → Lays true text before after None
      key_full e = record { buffer_is = w.buffer_is; answer_is = sym (wrote_none true text before (room_told ∙ e)) }
