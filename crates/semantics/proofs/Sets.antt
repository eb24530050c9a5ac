-- Document 02, (ii), by evaluation of the definitions: sets as patterns, in the five ambiguity checks, and the rules on their operands. A third
-- table of cases, and one theorem.
use mathlib.Core.List.{List, [], ◌∷◌}
use mathlib.Core.Path.{refl}
use Prim.Native.Nat.{ℕ}
use Prim.Native.String.{String}
use Rattle.semantics.specs.Text.{Text, All}
use Rattle.semantics.specs.Calls.{gives, refuses}
use Rattle.semantics.proofs.Cases.{bytes_of, evaluates, Row, node, kind_byte, operands, table, root_counts, Case, checks, prints, gets, puts, creates, counts, Holds, result, ◌&◌}
use Rattle.semantics.proofs.Limits.{again}

-- Entries of an accented capital, the key, and a hidden digit. The capitals are broken by the multiplication sign.
accented : Text
accented =
    table
    (node 5 0 1 2
    ∷ node 1 48 57 0
    ∷ node 0 0 0 0
    ∷ node 0 0 0 1
    ∷ node 18 0 0 0
    ∷ node 17 1 2 3
    ∷ node 19 4 5 0
    ∷ node 22 6 0 0
    ∷ node 21 7 0 0
    ∷ [])
    "0ÀÖØÞ"

-- copy of a set: that many pairs from the pool's place on
copied : ℕ → ℕ → String → Text
copied start pairs pool = table (node 5 0 start pairs ∷ node 16 0 0 0 ∷ []) pool

-- copy of texts of x-z, a-c, b-d and m, in this order
mixed : Text
mixed = table (node 5 0 0 4 ∷ node 4 0 0 0 ∷ node 16 1 0 0 ∷ []) "xzacbdmm"

-- The set of a and z, as node 0 of each of the next five tables, and as node 1 a set that has z too, or one that lies between the two.
meeting : Row
meeting = node 5 0 2 2

between : Row
between = node 5 0 4 1

pairwise : Row → List Row → Text
pairwise other more = table (node 5 0 0 2 ∷ other ∷ more) "aazzmm;"

-- copy of the one, or copy of the other
arms : Row → Text
arms other = pairwise other (node 16 0 0 0 ∷ node 16 1 0 0 ∷ node 20 2 3 0 ∷ [])

-- texts of the one, then texts of the other
halves : Row → Text
halves other = pairwise other (node 4 0 0 0 ∷ node 4 1 0 0 ∷ node 16 2 0 0 ∷ node 16 3 0 0 ∷ node 19 4 5 0 ∷ [])

-- the same with a hidden ; between
hidden : Row → Text
hidden other =
    pairwise
    other
    (node 4 0 0 0
    ∷ node 4 1 0 0
    ∷ node 0 0 6 1
    ∷ node 0 0 0 0
    ∷ node 16 2 0 0
    ∷ node 17 4 5 4
    ∷ node 16 3 0 0
    ∷ node 19 7 8 0
    ∷ node 19 6 9 0
    ∷ [])

-- repeat of one byte of the one and any number of bytes of the other
parted : Row → Text
parted other = pairwise other (node 4 1 0 0 ∷ node 2 0 2 0 ∷ node 16 3 0 0 ∷ node 21 4 0 0 ∷ [])

-- the same with a hidden ; behind each part
ended : Row → Text
ended other =
    pairwise
    other
    (node 4 1 0 0 ∷ node 2 0 2 0 ∷ node 0 0 6 1 ∷ node 0 0 0 0 ∷ node 16 3 0 0 ∷ node 17 4 5 4 ∷ node 19 6 7 0 ∷ node 21 8 0 0 ∷ [])

-- copy of a set whose pairs stand in a pool of 512 bytes, from 256 and `low` on
pooled : ℕ → ℕ → Text
pooled low pairs = table (node 5 1 low pairs ∷ node 16 0 0 0 ∷ []) (again 512 "a" "")

-- a to c, a word, and a const over the set with that sheet and that default
const_of : ℕ → ℕ → ℕ → Text
const_of word_at b c = table (node 5 0 0 1 ∷ node 0 0 word_at 1 ∷ node 17 0 b c ∷ []) "acz"

sets : List Case
sets =
    -- 0xC0 to 0xD6 and 0xD8 to 0xDE, both ends included; 0xD7 is outside, and so are 0xBF and 0xDF
    prints accented "ok 9 2 1\n"
    ∷ gets accented "À1Ö2Ø3Þ4" 4096 (result "ÀÖØÞ")
    ∷ gets accented "Ö1×2" 4096 (refuses 13 0)
    ∷ gets accented "¿1" 4096 (refuses 13 0)
    ∷ gets accented "ß1" 4096 (refuses 13 0)
    ∷ puts accented "ØÖÞ" "Ö1Ø2" 4096 (result "Ø2Ö1Þ0")
    ∷ creates accented "Ö×" 4096 (refuses 14 0)
    -- a copy of a set has size 1 + 1, and one position a side
    ∷ counts (copied 0 2 "ÀÖØÞ") 2 1 1
    -- pairs in any order, overlapping, of one byte
    ∷ gets mixed "abcdmxyz" 4096 (result "abcdmxyz")
    ∷ gets mixed "e" 4096 (refuses 13 0)
    ∷ gets mixed "l" 4096 (refuses 13 0)
    ∷ gets mixed "n" 4096 (refuses 13 0)
    ∷ gets mixed "w" 4096 (refuses 13 0)
    -- all bytes
    ∷ gets (copied 0 1 "\0ÿ") "\0" 4096 (result "\0")
    ∷ gets (copied 0 1 "\0ÿ") "ÿ" 4096 (result "ÿ")
    ∷ gets (copied 0 1 "\0ÿ") "" 4096 (refuses 13 0)
    -- each of the five ambiguity checks: one byte in common, and none although the one set lies between the bytes of the other
    ∷ checks (halves meeting) (refuses 7 6)
    ∷ checks (halves between) (gives 7)
    ∷ checks (hidden meeting) (refuses 8 10)
    ∷ checks (hidden between) (gives 11)
    ∷ checks (arms meeting) (refuses 9 4)
    ∷ checks (arms between) (gives 5)
    ∷ checks (parted meeting) (refuses 10 5)
    ∷ checks (parted between) (gives 6)
    ∷ checks (ended meeting) (refuses 11 9)
    ∷ checks (ended between) (gives 10)
    -- the pair at the pool's end, and one byte further
    ∷ checks (copied 2 1 "xyaz") (gives 2)
    ∷ checks (copied 3 1 "xyaz") (refuses 3 0)
    -- 1 to 32 pairs: 256 + 192 + 64 is 512
    ∷ checks (pooled 192 32) (gives 2)
    ∷ checks (pooled 193 32) (refuses 3 0)
    ∷ checks (pooled 0 33) (refuses 3 0)
    ∷ checks (pooled 0 0) (refuses 3 0)
    -- a reversed pair, the first or a later one: z-a behind a-c, and before it
    ∷ checks (copied 0 2 "aczaac") (refuses 3 0)
    ∷ checks (copied 2 2 "aczaac") (refuses 3 0)
    ∷ checks (copied 1 2 "aczaac") (gives 2)
    -- a set is a pattern and no word: a const has one as its pattern, never as its sheet or its default
    ∷ checks (const_of 0 1 1) (gives 3)
    ∷ checks (const_of 0 0 1) (refuses 3 2)
    ∷ checks (const_of 0 1 0) (refuses 3 2)
    ∷ checks (const_of 2 1 1) (refuses 6 2)
    ∷ checks (table (node 5 0 0 1 ∷ node 22 0 0 0 ∷ []) "az") (refuses 3 1)
    ∷ checks (table (node 5 0 0 1 ∷ []) "az") (refuses 3 0)
    -- no other kinds are new
    ∷ checks (table (node 6 0 0 1 ∷ node 16 0 0 0 ∷ []) "az") (refuses 2 0)
    ∷ checks (table (node 15 0 0 1 ∷ node 16 0 0 0 ∷ []) "az") (refuses 2 0)
    ∷ []

-- Every case holds.
sets_hold : All Holds sets
unfolding bytes_of kind_byte operands table root_counts result again accented copied mixed meeting between pairwise arms halves hidden parted ended pooled const_of sets evaluates
sets_hold = refl & refl & refl & refl & refl & refl & refl & refl & refl & refl & refl & refl & refl & refl & refl & refl & refl & refl & refl & refl & refl & refl & refl & refl & refl & refl & refl & refl & refl & refl & refl & refl & refl & refl & refl & refl & refl & refl & refl & refl & refl & refl & refl & tt
