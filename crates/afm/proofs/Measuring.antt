-- The lines with a pair that stand first, measured one after the other. Assumes nothing.
use mathlib.Core.Path.{◌≡◌, refl, sym, ap, ◌∙◌}
use mathlib.Core.List.{List, ◌∷◌, map}
use Prim.Native.Nat.{ℕ, ◌+◌, ◌≤◌, ◌<◌}
use native.Mathlib.Omega.{arith}
use lib.ListN.{length, length-append}
use Rattle.semantics.specs.Text.{Text, joined}
use Rattle.sections.specs.Afm.{Pair, Pairs, lines_of, pair_with, sheet_line, write_sheet}
use Rattle.fields.specs.declared.Form.{Form}
use Rattle.fields.specs.Lines.{pairs_in, NoPair, ReadsPair, no_pairs}
use Rattle.afm.specs.declared.pair_lines.Measured.{Measured}
use Rattle.afm.specs.Pairs.{Measures}

-- ---- One line

pair_length : (separator : ℕ) (p : Pair) → length (pair_with separator p) ≡ length p.left + length p.right + length p.value + 3
unfolding pair_with
pair_length separator p = simp length-append (omega arith)

pub sheet_length : (p : Pair) → length (sheet_line p) ≡ length p.left + length p.right + length p.value + 3
unfolding sheet_line
sheet_length p = pair_length 59 p

-- ---- From one line to the next

module _ (form : Form) (text : Text) where
  -- the rest begins in the text, behind so many pairs
  pub record Measuring (rest : Text) (count bytes : ℕ) : Type 0 where
    pub few : count + length rest ≤ length text
    pub short : bytes + length rest ≤ length text
    pub count_on : length (pairs_in form text).pairs ≡ count + length (pairs_in form rest).pairs
    pub bytes_on : length (write_sheet (pairs_in form text).pairs) ≡ bytes + length (write_sheet (pairs_in form rest).pairs)
    pub behind_on : (pairs_in form text).behind ≡ (pairs_in form rest).behind
    pub rest_on : (lines_of text).rest ≡ (lines_of rest).rest

  pub measuring_start : Measuring text 0 0
  measuring_start = record {
    few = omega arith;
    short = omega arith;
    count_on = omega arith;
    bytes_on = omega arith;
    behind_on = refl;
    rest_on = refl;
  }

-- one line more in front of others
sheet_more : (p : Pair) (ps : List Pair) → length (write_sheet (p ∷ ps)) ≡ length (sheet_line p) + length (write_sheet ps)
unfolding write_sheet joined
sheet_more p ps = length-append (sheet_line p) (joined (map sheet_line ps))

module _ {form : Form} {text rest : Text} {count bytes : ℕ} (inv : Measuring form text rest count bytes) where
  module _ {p : Pair} {later : Text} (next : ReadsPair form rest p later) where
    -- a line and what is in front of it fit in the text
    pub line_short : bytes + length (sheet_line p) ≤ length text
    line_short = omega (arith, inv.short, next.room, sheet_length p)

    pub later_shorter : length later < length rest
    later_shorter = omega (arith, next.room)

    pub measuring_more : (n : ℕ) → n ≡ length (sheet_line p) → Measuring form text later (count + 1) (bytes + n)
    measuring_more n e = record {
      few = omega (arith, inv.few, next.room);
      short = omega (arith, inv.short, next.room, sheet_length p, e);
      count_on = omega (arith, inv.count_on, ap length next.pairs_are);
      bytes_on = omega (arith, inv.bytes_on, ap (λ (ps : List Pair). length (write_sheet ps)) next.pairs_are, sheet_more p (pairs_in form later).pairs, e);
      behind_on = inv.behind_on ∙ next.behind_are;
      rest_on = inv.rest_on ∙ next.lines_rest;
    }

  -- no line with a pair is next
  pub measured : (m : Measured) → m.count ≡ count → m.bytes ≡ bytes → m.rest.now ≡ rest → NoPair form rest → Measures form text m
  unfolding write_sheet joined
  measured m c b r none_next =
      let none = no_pairs form rest none_next in
      record {
        count_is = omega (arith, c, inv.count_on, ap (λ (found : Pairs). length found.pairs) none);
        bytes_are = omega (arith, b, inv.bytes_on, ap (λ (found : Pairs). length (write_sheet found.pairs)) none);
        behind_is = inv.behind_on ∙ ap (λ (found : Pairs). found.behind) none ∙ ap (λ (t : Text). (lines_of t).ended) (sym r);
        rest_is = inv.rest_on ∙ ap (λ (t : Text). (lines_of t).rest) (sym r);
        few = omega (arith, c, ap length r, inv.few);
        short = omega (arith, b, ap length r, inv.short);
      }
