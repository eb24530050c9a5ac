-- The runs that stand in a part of the table: the one of a range, and those of a set, each of which is asked whether it is reversed.
use mathlib.Core.Path.{◌≡◌, refl, ap, ◌∙◌, subst}
use mathlib.Core.Bool.{Bool, true, not, cond, ◌&&◌, ◌||◌}
use mathlib.Core.List.{List, [], ◌∷◌, ◌++◌}
use Prim.Native.Nat.{ℕ, suc, ◌+◌, ◌*◌, ◌<◌, min}
use native.Mathlib.Omega.{arith}
use denote.Ref.{Bor}
use lib.Dec.{leb, ltb}
use lib.ListN.{length, take, drop, get_or}
use lib.Seq.{drop-cons, drop-drop}
use Rattle.std.specs.List.{list_all}
use Rattle.std.specs.declared.slice.Chunks.{Chunks}
use Rattle.std.specs.Slice.Iter.{chunks_size, chunks_rest, chunks_steps}
use Rattle.std.proofs.lemmas.Iterator.{YieldsList}
use Rattle.std.proofs.lemmas.Iterator.Splits.{YieldsList-from_shown_while}
use Rattle.std.proofs.lemmas.Bool.Decides.{nat_tests}
use Rattle.semantics.specs.Text.{Text, some_passes}
use Rattle.semantics.specs.Pattern.{Class, range}
use Rattle.semantics.specs.Table.{at, node_count, pool, runs_of, reversed}

-- the runs from a place on
unfoldable pub runs_at : Text → ℕ → ℕ → Class
runs_at bytes place runs = runs_of (take (2 * runs) (drop place bytes))

-- the first two bytes from a place on
two_bytes_lem : (bytes : Text) (place : ℕ) → place + 1 < length bytes → drop place bytes ≡ at bytes place ∷ at bytes (place + 1) ∷ drop (place + 2) bytes
unfolding at
two_bytes_lem bytes place h =
    let second : suc place ≡ place + 1 = omega arith in
    let third : suc (place + 1) ≡ place + 2 = omega arith in
    let behind : drop (suc place) bytes ≡ get_or bytes (place + 1) 0 ∷ drop (place + 2) bytes =
    ap (λ i. drop i bytes) second ∙ drop-cons bytes (place + 1) 0 h ∙ ap (λ i. get_or bytes (place + 1) 0 ∷ drop i bytes) third in
    drop-cons bytes place 0 (omega arith) ∙ ap (λ t. get_or bytes place 0 ∷ t) behind

-- the first run, and those behind it
runs_next :
    (bytes : Text) (place n m : ℕ)
    → m ≡ n + 1
    → place + 1 < length bytes
    → runs_at bytes place m ≡ record { first = at bytes place; last = at bytes (place + 1) } ∷ runs_at bytes (place + 2) n
unfolding runs_at runs_of
runs_next bytes place n m e h =
    let count : 2 * m ≡ suc (suc (2 * n)) = omega arith in
    ap (λ i. runs_of (take i (drop place bytes))) count ∙ ap (λ t. runs_of (take (suc (suc (2 * n))) t)) (two_bytes_lem bytes place h)

-- a range's operands are its one run
pub range_runs : (bytes : Text) (place : ℕ) → place + 1 < length bytes → runs_at bytes place 1 ≡ range (at bytes place) (at bytes (place + 1))
unfolding range runs_at runs_of
range_runs bytes place h = runs_next bytes place 0 1 refl h

-- a set's runs stand in the pool
pub pool_part : (bytes : Text) (start len : ℕ) → take len (drop start (pool bytes)) ≡ take len (drop (3 + 4 * node_count bytes + start) bytes)
unfolding pool
pool_part bytes start len = ap (take len) (drop-drop start (3 + 4 * node_count bytes) bytes)

-- ---- The runs of a set, each a pair of bytes

-- the pairs of a text, and the byte that is left over
pub pairs_of : Text → List Text
pairs_of [] = []
pairs_of (a ∷ []) = (a ∷ []) ∷ []
pairs_of (a ∷ b ∷ xs) = (a ∷ b ∷ []) ∷ pairs_of xs

no_pair : (xs : Text) → length xs ≡ 0 → length (pairs_of xs) ≡ 0
unfolding pairs_of
no_pair [] e = refl
no_pair (a ∷ xs) e = absurd (omega arith)

-- what `chunks(2)` gives next
next_pair : (xs part rest : Text) → xs ≡ part ++ rest → length part ≡ min 2 (length xs) → 0 < length xs → pairs_of xs ≡ part ∷ pairs_of rest
unfolding pairs_of
next_pair xs [] rest e l h = absurd (omega arith)
next_pair xs (a ∷ []) [] e l h = ap pairs_of e
next_pair xs (a ∷ []) (b ∷ rest) e l h = absurd (omega (arith, ap length e))
next_pair xs (a ∷ b ∷ []) rest e l h = ap pairs_of e
next_pair xs (a ∷ b ∷ c ∷ part) rest e l h = absurd (omega arith)

-- what `chunks(2)` gives in all
pub YieldsList-from_pairs : {s : Chunks ℕ} (xs : Text) → chunks_size s ≡ 2 → chunks_rest s ≡ xs → YieldsList chunks_steps (λ y. y.now) s (pairs_of xs)
YieldsList-from_pairs {s} xs size rest =
    subst (λ ys. YieldsList chunks_steps (λ y. y.now) s (pairs_of ys)) rest
    (YieldsList-from_shown_while {S = Chunks ℕ} {A = Bor Text} {B = Text} chunks_steps (λ y. y.now) (λ t. pairs_of (chunks_rest t)) (λ t. chunks_size t ≡ 2)
    (λ t u h k. no_pair (chunks_rest t) k.1.0)
    (λ t x u h k. (k.0 ∙ h, next_pair (chunks_rest t) x.now (chunks_rest u) k.1.0 (rw h at k.1.1) k.1.2))
    s size)

-- whether a pair is no reversed run; the byte that is left over is none
unfoldable pub in_order : Text → Bool
in_order run = cond (ltb 1 (length run)) (leb (get_or run 0 0) (get_or run 1 0)) true

one_more : (a b : ℕ) (s : Bool) → (leb a b && not s) ≡ not (ltb b a || s)
one_more a b s = grind (arith, nat_tests)

-- each run is asked; a byte that is left over is none
pub runs_asked : (xs : Text) → list_all in_order (pairs_of xs) ≡ not (some_passes reversed (runs_of xs))
unfolding pairs_of in_order some_passes reversed runs_of
runs_asked [] = refl
runs_asked (a ∷ []) = refl
runs_asked (a ∷ b ∷ xs) = ap (λ r. leb a b && r) (runs_asked xs) ∙ one_more a b (some_passes reversed (runs_of xs))
