-- Whatever the buffer holds, some text was written there: what stands in front of a place.
use Rattle.std.proofs.Common.{◌≡◌, ℕ, ◌≤◌, false, length, take, sym, ap, ◌∙◌, arith, take-append-drop, length-take-le}
use Rattle.semantics.specs.Text.{Text}
use Rattle.std.specs.Prelude.{Some}
use Rattle.texts.specs.Overlay.{Writes, overlay_fits, wrote_fits}

pub front_written : (n : ℕ) (out : Text) → n ≤ length out → Writes (take n out) out out (Some n)
front_written n out h =
    let long : length (take n out) ≡ n = length-take-le n out h in
    let fits : length (take n out) ≤ length out = omega (arith, long, h) in
    record {
      buffer_is = sym (overlay_fits (take n out) out fits ∙ rw long (take-append-drop n out));
      answer_is = sym (wrote_fits false (take n out) out fits ∙ ap Some long);
    }
