-- Texts of spaces alone, and what is left of a text in front of its trailing spaces, place by place. Assumes nothing.
use mathlib.Core.Path.{◌≡◌, refl, sym, ap, ◌∙◌}
use mathlib.Core.Bool.{true, ◌&&◌}
use mathlib.Core.List.{[], ◌∷◌}
use Prim.Native.Nat.{ℕ, suc, ◌+◌, ◌-◌, ◌≤◌, ◌<◌}
use native.Mathlib.Omega.{arith}
use lib.Dec.{eqb}
use lib.ListN.{length, drop, get_or, length-drop}
use lib.Seq.{length-take-le, get_or-drop}
use borrow.Author.Tests.{eq-eqb}
use Rattle.std.specs.List.{list_all}
use Rattle.semantics.specs.Text.{Text, all_spaces, trimmed}
use Rattle.laws.specs.Keys.{trimmed_front}

-- the test of each byte is the definition
pub each_space : (text : Text) → list_all (λ b. eqb b 32) text ≡ all_spaces text
unfolding all_spaces
each_space [] = refl
each_space (c ∷ text) = ap (λ b. eqb c 32 && b) (each_space text)

spaces_each : (text : Text) → ((k : ℕ) → k < length text → get_or text k 0 ≡ 32) → all_spaces text ≡ true
unfolding all_spaces
spaces_each [] h = refl
spaces_each (c ∷ text) h =
    rw (eq-eqb c 32 (h 0 (omega arith))) (spaces_each text (λ k l. h (suc k) (omega arith)))

-- A front behind which are only spaces, and which is empty or ends in another byte, is as long as what is left.
pub front_length :
    (text : Text) (n : ℕ)
    → n ≤ length text
    → ((k : ℕ) → n ≤ k → k < length text → get_or text k 0 ≡ 32)
    → (0 < n → ¬ (get_or text (n - 1) 0 ≡ 32))
    → n ≡ length (trimmed text)
front_length text n h spaces ends =
    let behind = spaces_each (drop n text) (λ k l. get_or-drop n text k 0 ∙ spaces (n + k) (omega arith) (omega (arith, l, length-drop n text))) in
    sym (ap length (trimmed_front text n h behind ends) ∙ length-take-le n text h)
