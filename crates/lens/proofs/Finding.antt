-- The path of a whole text: it is found in the first bytes of the room, which are lent and come back.
use mathlib.Core.Path.{◌≡◌, sym, subst, ◌∙◌}
use mathlib.Core.List.{List, ◌++◌}
use Prim.Native.Nat.{ℕ, ◌-◌, ◌≤◌}
use native.Mathlib.Nat.{sub-zero}
use lib.ListN.{length, take}
use lib.Seq.{length-take-le, take-append_seam}
use Rattle.semantics.specs.Text.{Text}
use Rattle.semantics.specs.Lens.{Side}
use Rattle.lens.specs.Parsed.{Parsed}

-- as many bytes are lent as the text has
pub lent_length : (n : ℕ) (room : List ℕ) → n ≤ length room → length (take (n - 0) room) ≡ n
lent_length n room h = rw sub-zero (length-take-le n room h)

-- what is lent again is what came back
lent_again : (n : ℕ) (part rest : List ℕ) → length part ≡ n → take (n - 0) (part ++ rest) ≡ part
lent_again n part rest e = rw (sub-zero, ← e) (take-append_seam part rest)

-- so where the text is parsed by what came back, it is parsed by what is lent again
pub parsed_again :
    {bytes : Text} {node : ℕ} {side : Side} {base : ℕ} {text : Text} (n : ℕ) (room part rest : List ℕ)
    → n ≤ length room
    → length part ≡ length (take (n - 0) room)
    → Parsed bytes node side base part text
    → Parsed bytes node side base (take (n - 0) (part ++ rest)) text
parsed_again {bytes} {node} {side} {base} {text} n room part rest h kept parsed =
    subst (λ path. Parsed bytes node side base path text) (sym (lent_again n part rest (kept ∙ lent_length n room h))) parsed
