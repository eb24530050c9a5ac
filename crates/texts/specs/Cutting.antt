-- Slices of which a part is cut out and lent.
use Rattle.std.specs.Prelude.{◌≡◌, List, ◌++◌, ℕ, ◌-◌, ◌≤◌, length, take, drop}
use Rattle.std.proofs.Common.{arith, length-append, length-take, length-drop, take_all}

-- a slice from a place on, as it is lent, is what is behind that place
pub rest_lent : {A : Type 0} (s : List A) (o : ℕ) → take (length s - o) (drop o s) ≡ drop o s
rest_lent s o = take_all (length s - o) (drop o s) (rw length-drop (omega arith))

-- a list is as long when a part of it, from o to e, was lent and came back
pub part_length_lem :
    (s part : List ℕ) (o e : ℕ)
    → o ≤ e
    → e ≤ length s
    → length part ≡ length (take (e - o) (drop o s))
    → length (take o s ++ (part ++ drop (e - o) (drop o s))) ≡ length s
part_length_lem s part o e h k kept = rw (length-append, length-append, kept) (simp (length-take, length-drop) (omega arith))
