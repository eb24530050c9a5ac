-- Laws on classes of bytes: what a range holds, when two classes share a byte, and the test for equal classes.
use Rattle.std.specs.Prelude.{◌≡◌, refl, true, ◌&&◌, [], ◌∷◌, ℕ, ◌≤◌, max, min, leb, eqb}
use Rattle.std.proofs.Common.{sym, ◌∙◌, le_refl, arith, leb-true, le-leb, eqb-true, eq-eqb}
use Rattle.std.proofs.lemmas.Bool.{false≢true}
use Rattle.std.proofs.Math.Bool.{or-false}
use Rattle.semantics.specs.Text.{some_passes}
use Rattle.semantics.specs.Pattern.{Run, Class, range, in_run, in_class}
use Rattle.semantics.specs.Ambiguity.{runs_meet, share_byte, same_run, same_class}
use Rattle.laws.specs.Basics.{and_both, and_of, passes_at, passes_of}

-- ---- Runs

-- a run holds the bytes from its first to its last
pub in_run_lem : (r : Run) (byte : ℕ) → r.first ≤ byte → byte ≤ r.last → in_run byte r ≡ true
unfolding in_run
in_run_lem r byte p q = and_of (leb r.first byte) (leb byte r.last) (le-leb r.first byte p) (le-leb byte r.last q)

pub run_of : (r : Run) (byte : ℕ) → in_run byte r ≡ true → (r.first ≤ byte) × (byte ≤ r.last)
unfolding in_run
run_of r byte e =
    let (p, q) = and_both (leb r.first byte) (leb byte r.last) e in
    (leb-true r.first byte p, leb-true byte r.last q)

-- the greater of the two first bytes lies in both runs, if they meet
meet_byte : (r s : Run) → runs_meet r s ≡ true → (in_run (max r.first s.first) r ≡ true) × (in_run (max r.first s.first) s ≡ true)
unfolding runs_meet
meet_byte r s e =
    let l = leb-true (max r.first s.first) (min r.last s.last) e in
    (in_run_lem r _ (omega arith) (omega arith), in_run_lem s _ (omega arith) (omega arith))

-- runs that hold one byte meet
byte_meets : (r s : Run) (byte : ℕ) → in_run byte r ≡ true → in_run byte s ≡ true → runs_meet r s ≡ true
unfolding runs_meet
byte_meets r s byte p q =
    let i = run_of r byte p in
    let j = run_of s byte q in
    le-leb (max r.first s.first) (min r.last s.last) (omega arith)

-- ---- The class of one run

-- the range from a to b holds what its run holds
run_test : (a b c : ℕ) → in_class (range a b) c ≡ in_run c (record { first = a; last = b })
unfolding in_class range some_passes
run_test a b c = or-false (in_run c (record { first = a; last = b }))

-- a byte is in a range exactly if it lies between its ends
pub range_test : (a b c : ℕ) → in_class (range a b) c ≡ (leb a c && leb c b)
unfolding in_run
range_test = run_test

pub in_range_lem : (a b c : ℕ) → a ≤ c → c ≤ b → in_class (range a b) c ≡ true
in_range_lem a b c p q = run_test a b c ∙ in_run_lem _ c p q

pub range_of : (a b c : ℕ) → in_class (range a b) c ≡ true → (a ≤ c) × (c ≤ b)
range_of a b c e = run_of _ c (sym (run_test a b c) ∙ e)

-- the range from a byte to itself holds that byte
pub one_byte : (c : ℕ) → in_class (range c c) c ≡ true
one_byte c = in_range_lem c c c (le_refl c) (le_refl c)

-- and no other
pub only_byte : (c d : ℕ) → in_class (range c c) d ≡ true → d ≡ c
only_byte c d e = let h = range_of c c d e in omega arith

-- ---- Two classes

-- where some run of the one meets some run of the other, a byte is in both
pub shared_byte : (c d : Class) → share_byte c d ≡ true → (byte : ℕ) × (in_class c byte ≡ true) × (in_class d byte ≡ true)
unfolding share_byte in_class
shared_byte c d e =
    let (r, m, f) = passes_at (λ r. some_passes (runs_meet r) d) c e in
    let (s, n, g) = passes_at (runs_meet r) d f in
    let (p, q) = meet_byte r s g in
    let byte = max r.first s.first in
    (byte, passes_of (in_run byte) r c m p, passes_of (in_run byte) s d n q)

-- and where a byte is in both, its runs meet
pub byte_shared : (c d : Class) (byte : ℕ) → in_class c byte ≡ true → in_class d byte ≡ true → share_byte c d ≡ true
unfolding share_byte in_class
byte_shared c d byte p q =
    let (r, m, f) = passes_at (in_run byte) c p in
    let (s, n, g) = passes_at (in_run byte) d q in
    passes_of (λ r. some_passes (runs_meet r) d) r c m (passes_of (runs_meet r) s d n (byte_meets r s byte f g))

-- ---- The test for equal classes

same_run_eq : (r s : Run) → same_run r s ≡ true → r ≡ s
unfolding same_run
same_run_eq r s e =
    let (p, q) = and_both (eqb r.first s.first) (eqb r.last s.last) e in
    λ i. record { first = eqb-true r.first s.first p i; last = eqb-true r.last s.last q i }

same_run_refl : (r : Run) → same_run r r ≡ true
unfolding same_run
same_run_refl r =
    and_of (eqb r.first r.first) (eqb r.last r.last) (eq-eqb r.first r.first refl) (eq-eqb r.last r.last refl)

pub same_class_eq : (c d : Class) → same_class c d ≡ true → c ≡ d
unfolding same_class
same_class_eq [] [] e = refl
same_class_eq [] (s ∷ d) e = absurd (false≢true e)
same_class_eq (r ∷ c) [] e = absurd (false≢true e)
same_class_eq (r ∷ c) (s ∷ d) e =
    let h = and_both (same_run r s) (same_class c d) e in
    let p : r ≡ s = same_run_eq r s h.0 in
    let q : c ≡ d = same_class_eq c d h.1 in
    cc

pub same_class_refl : (c : Class) → same_class c c ≡ true
unfolding same_class
same_class_refl [] = refl
same_class_refl (r ∷ c) = and_of (same_run r r) (same_class c c) (same_run_refl r) (same_class_refl c)
