-- Lines with a pair put in the other form, one behind the other. Assumes nothing.
use mathlib.Core.Path.{◌≡◌, refl, sym, ap, ◌∙◌}
use mathlib.Core.List.{List, [], ◌∷◌, ◌++◌, map, append_assoc, append-nil}
use Prim.Native.Nat.{ℕ, ◌+◌, ◌≤◌}
use native.Mathlib.Omega.{arith}
use native.Mathlib.Nat.{add-zero}
use lib.ListN.{length, length-append}
use lib.Seq.{length-sets}
use Rattle.semantics.specs.Text.{Text, joined}
use Rattle.sections.specs.Afm.{Pair, Pairs, pair_with, sheet_line, kpx_line}
use Rattle.lines.specs.Line.{Puts}
use Rattle.lines.proofs.Texts.{puts_then, puts_as}
use Rattle.fields.specs.declared.Form.{Form}
use Rattle.fields.specs.declared.Form.TheVariants.{Kpx, Sheet}
use Rattle.fields.specs.Lines.{pairs_in, NoPair, ReadsPair, no_pairs}
use Rattle.afm.specs.Pairs.{lead_for, mark_for, line_for, lines_for}

-- ---- One line, part by part

pub line_parts :
    (form : Form) (p : Pair)
    → (((((lead_for form ++ p.left) ++ mark_for form) ++ p.right) ++ mark_for form) ++ p.value) ++ 10 ∷ [] ≡ line_for form p
unfolding lead_for mark_for line_for sheet_line kpx_line pair_with
line_parts Kpx p = simp append_assoc refl
line_parts Sheet p = simp append_assoc refl

pub mark_length : (form : Form) → length (mark_for form) ≡ 1
unfolding mark_for
mark_length Kpx = refl
mark_length Sheet = refl

pub parts_length :
    (form : Form) (p : Pair)
    → length (line_for form p) ≡ length (lead_for form) + length p.left + 1 + length p.right + 1 + length p.value + 1
parts_length form p = ap length (sym (line_parts form p)) ∙ simp length-append (omega (arith, mark_length form))

-- ---- The lines so far

-- nothing is put
pub puts_nothing : (at : ℕ) (buffer : List ℕ) → Puts [] at at buffer buffer
puts_nothing at buffer = record { after_is = refl; next_is = sym (add-zero at) }

pub puts_length : {t : Text} {at next : ℕ} {before after : List ℕ} → Puts t at next before after → length after ≡ length before
puts_length {t} {at} {next} {before} p = ap length p.after_is ∙ length-sets before at t

module _ (form : Form) (text : Text) (at : ℕ) (before : List ℕ) where
  pub record Putting (rest : Text) (next : ℕ) (now : List ℕ) : Type 0 where
    pub done : Text
    pub puts : Puts done at next before now
    pub whole : lines_for form text ≡ done ++ lines_for form rest

  pub putting_start : Putting text at before
  putting_start = record { done = []; puts = puts_nothing at before; whole = refl }

lines_more : (form : Form) (p : Pair) (ps : List Pair) → joined (map (line_for form) (p ∷ ps)) ≡ line_for form p ++ joined (map (line_for form) ps)
unfolding joined
lines_more form p ps = refl

lines_none : (form : Form) (t : Text) → (pairs_in form t).pairs ≡ [] → lines_for form t ≡ []
unfolding lines_for joined
lines_none form t e = ap (λ (ps : List Pair). joined (map (line_for form) ps)) e

module _ {form : Form} {text : Text} {at : ℕ} {before : List ℕ} {rest : Text} {next : ℕ} {now : List ℕ} (inv : Putting form text at before rest next now) where
  module _ {p : Pair} {later : Text} (found : ReadsPair form rest p later) where
    lines_here : lines_for form rest ≡ line_for form p ++ lines_for form later
    unfolding lines_for
    lines_here = ap (λ (ps : List Pair). joined (map (line_for form) ps)) found.pairs_are ∙ lines_more form p (pairs_in form later).pairs

    -- the line has room
    pub line_room : at + length (lines_for form text) ≤ length before → next + length (line_for form p) ≤ length now
    line_room room =
        omega
        (arith, inv.puts.next_is, puts_length inv.puts, ap length inv.whole, length-append inv.done (lines_for form rest), ap length lines_here, length-append (line_for form p) (lines_for form later))

    pub putting_more : {next' : ℕ} {now' : List ℕ} → Puts (line_for form p) next next' now now' → Putting form text at before later next' now'
    putting_more q = record {
      done = inv.done ++ line_for form p;
      puts = puts_then inv.puts q;
      whole = inv.whole ∙ ap (λ (t : Text). inv.done ++ t) lines_here ∙ sym (append_assoc inv.done (line_for form p) (lines_for form later));
    }

  pub put_whole : NoPair form rest → Puts (lines_for form text) at next before now
  put_whole none_next =
      let none = ap (λ (found : Pairs). found.pairs) (no_pairs form rest none_next) in
      puts_as (sym (inv.whole ∙ ap (λ (t : Text). inv.done ++ t) (lines_none form rest none) ∙ append-nil inv.done)) inv.puts
