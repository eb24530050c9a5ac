-- Both sides of each of document 01's limits, by evaluation of the definitions: a second table of cases, and one theorem.
use mathlib.Core.List.{List, [], ◌∷◌, ◌++◌}
use mathlib.Core.Path.{refl}
use Prim.Native.Nat.{ℕ, zero, suc}
use Prim.Native.Char.{Char}
use Prim.Native.String.{String}
use Prim.Native.String.{◌∷◌ as ◌then◌}
use lib.ListN.{replicate}
use Rattle.semantics.specs.Text.{Text, All}
use Rattle.semantics.specs.Calls.{gives, refuses}
use Rattle.semantics.proofs.Cases.{bytes_of, evaluates, Row, node, kind_byte, operands, table, K_with, K, root_counts, Case, checks, gets, puts, creates, counts, Holds, result, ◌&◌}

-- that many times the character, and then the rest
unfoldable pub again : ℕ → Char → String → String
again zero c rest = rest
again (suc n) c rest = c then again n c rest

-- that many ranges, and a copy of the first
ranges : ℕ → Text
ranges n = table (replicate n (node 1 65 90 0) ++ node 16 0 0 0 ∷ []) ""

-- a pool of that many bytes, and a copy of a word of 64 bytes that starts at 256 and `low`
pooled : ℕ → ℕ → Text
pooled p low = table (node 0 1 low 64 ∷ node 16 0 0 0 ∷ []) (again p "a" "")

-- a range, a word of that many bytes, and a copy of the word
worded : ℕ → Text
worded c = table (node 1 65 90 0 ∷ node 0 0 0 c ∷ node 16 1 0 0 ∷ []) (again c "a" "")

-- the empty word, and eight times the union of the last node with itself: sizes 1, 3, 7, 15, 31, 63, 127, 255, 511, and no position
unions : List Row → Text
unions more =
    table
    (node 0 0 0 0
    ∷ node 3 0 0 0
    ∷ node 3 1 1 0
    ∷ node 3 2 2 0
    ∷ node 3 3 3 0
    ∷ node 3 4 4 0
    ∷ node 3 5 5 0
    ∷ node 3 6 6 0
    ∷ node 3 7 7 0
    ∷ more)
    ""

-- the words a^64, b^64, c, nothing, a and b; three consts 6, 7 and 8; the lens union of 6 and 7
arms : List Row → List Row → Text
arms consts more =
    table
    ((node 0 0 0 64 ∷ node 0 0 64 64 ∷ node 0 0 128 1 ∷ node 0 0 0 0 ∷ node 0 0 0 1 ∷ node 0 0 64 1 ∷ []) ++ consts ++ node 20 6 7 0 ∷ more)
    (again 64 "a" (again 64 "b" "c"))

-- a^64, b^64 and c, each to nothing
hidden : List Row
hidden = node 17 0 3 0 ∷ node 17 1 3 1 ∷ node 17 2 3 2 ∷ []

-- a to a^64, b to b^64, c to c
shown : List Row
shown = node 17 4 0 4 ∷ node 17 5 1 5 ∷ node 17 2 2 2 ∷ []

-- repeat of sixteen matches of a, or a match of b: each letter is an entry
sixteens : Text
sixteens =
    table
    (node 0 0 0 1
    ∷ node 16 0 0 0
    ∷ node 22 1 0 0
    ∷ node 19 2 2 0
    ∷ node 19 3 3 0
    ∷ node 19 4 4 0
    ∷ node 19 5 5 0
    ∷ node 0 0 1 1
    ∷ node 16 7 0 0
    ∷ node 22 8 0 0
    ∷ node 20 6 9 0
    ∷ node 21 10 0 0
    ∷ [])
    "ab"

-- repeat of (a to x^64, or b to b)
swelling : Text
swelling =
    table
    (node 0 0 0 64
    ∷ node 0 0 64 1
    ∷ node 0 0 65 1
    ∷ node 17 1 0 1
    ∷ node 17 2 2 2
    ∷ node 20 3 4 0
    ∷ node 21 5 0 0
    ∷ [])
    (again 64 "x" "ab")

limits : List Case
limits =
    -- N is 1 to 96
    checks (ranges 95) (gives 96)
    ∷ checks (ranges 96) (refuses 1 0)
    -- the total length is 3 + 4N + P: one byte too many
    ∷ checks (K ++ 0 ∷ []) (refuses 1 0)
    -- P is 0 to 512, and start plus length at most P: 256 + 192 + 64 is 512
    ∷ checks (pooled 512 192) (gives 2)
    ∷ checks (pooled 512 193) (refuses 3 0)
    ∷ checks (pooled 513 192) (refuses 1 0)
    -- a word's length is 0 to 64, a rule on its operand c: 3, at the word
    ∷ checks (worded 64) (gives 3)
    ∷ checks (worded 65) (refuses 3 1)
    -- a copy of size 1 + 511; then a copy of a repeat, 1 + 1 + 511; then a repeat of a repeat below the copy: 5 at the first that is over 512
    ∷ counts (unions (node 16 8 0 0 ∷ [])) 512 0 0
    ∷ checks (unions (node 16 8 0 0 ∷ [])) (gives 10)
    ∷ checks (unions (node 4 8 0 0 ∷ node 16 9 0 0 ∷ [])) (refuses 5 10)
    ∷ checks (unions (node 4 8 0 0 ∷ node 4 9 0 0 ∷ node 16 10 0 0 ∷ [])) (refuses 5 10)
    -- 64 + 64 source positions and no sheet position; the third arm makes 129. A const has size 4.
    ∷ counts (arms hidden []) 9 128 0
    ∷ checks (arms hidden []) (gives 10)
    ∷ checks (arms hidden (node 20 9 8 0 ∷ [])) (refuses 5 10)
    -- 1 + 1 source positions and 64 + 64 sheet positions; the third arm makes 129
    ∷ counts (arms shown []) 9 2 128
    ∷ checks (arms shown []) (gives 10)
    ∷ checks (arms shown (node 20 9 8 0 ∷ [])) (refuses 5 10)
    -- 12 is over 4,096 bytes and comes before 13 and 14; [ is in no source and no sheet of K
    ∷ gets K (again 4096 "[" "") 4096 (refuses 13 0)
    ∷ gets K (again 4097 "[" "") 4096 (refuses 12 0)
    ∷ puts K "" (again 4096 "[" "") 4096 (refuses 13 0)
    ∷ puts K "" (again 4097 "[" "") 4096 (refuses 12 0)
    ∷ puts K (again 4096 "[" "") "" 4096 (refuses 14 0)
    ∷ puts K (again 4097 "[" "") "" 4096 (refuses 12 0)
    ∷ creates K (again 4096 "[" "") 4096 (refuses 14 0)
    ∷ creates K (again 4097 "[" "") 4096 (refuses 12 0)
    -- 256 entries, then 257; the sheet without entries gives a source without any
    ∷ puts sixteens "" (again 256 "a" "") 4096 (result "")
    ∷ puts sixteens "" (again 256 "a" "b") 4096 (refuses 15 0)
    -- the buffer is long enough, but a result has at most 4,096 bytes: 64 times 64, and one more
    ∷ gets swelling (again 64 "a" "") 5000 (result (again 4096 "x" ""))
    ∷ gets swelling (again 64 "a" "b") 5000 (refuses 16 0)
    ∷ []

-- Every case holds.
limits_hold : All Holds limits
unfolding bytes_of kind_byte operands table K_with K root_counts result again ranges pooled worded unions arms hidden shown sixteens swelling limits evaluates
limits_hold = refl & refl & refl & refl & refl & refl & refl & refl & refl & refl & refl & refl & refl & refl & refl & refl & refl & refl & refl & refl & refl & refl & refl & refl & refl & refl & refl & refl & refl & refl & tt
