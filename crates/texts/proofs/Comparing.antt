-- Two texts that are compared as lists of bytes. Assumes nothing.
use Rattle.std.proofs.Common.{◌≡◌, refl, ◌&&◌, eqb, nat_eq, [], ◌∷◌}
use Rattle.std.proofs.Math.Path.{ap}
use Rattle.std.specs.Cmp.Lexicographic.{pointwise}
use Rattle.semantics.specs.Text.{Text, same_text}

-- They are as long as one another, and each pair of bytes is equal.
pub pairs_same : (a b : Text) → pointwise nat_eq a b ≡ same_text a b
unfolding same_text
pairs_same [] [] = refl
pairs_same [] (y ∷ b) = refl
pairs_same (x ∷ a) [] = refl
pairs_same (x ∷ a) (y ∷ b) = ap (λ rest. eqb x y && rest) (pairs_same a b)
