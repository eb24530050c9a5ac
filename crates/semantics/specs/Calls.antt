-- The four calls: from the bytes handed over to a result, or a refusal with number and node.
use Rattle.std.specs.Prelude.{Bool, true, false, not, ◌||◌, cond, [], ◌∷◌, ◌++◌, ℕ, zero, suc, ◌+◌, ◌/◌, ◌%◌, min, ltb, length, drop}
use Rattle.std.proofs.Math.Option.{Option, none, some}
use Rattle.semantics.specs.Text.{Text}
use Rattle.semantics.specs.Pattern.{matches}
use Rattle.semantics.specs.Lens.{Lens, Side, source, sheet, language, get, entries, put, create}
use Rattle.semantics.specs.Table.{node_count, root_of, tree_positions, lens, Line, lines, first_that_holds}

-- 'A call answers a result with its length, or a refusal with its node.'
pub data Answer (A : Type 0) : Type 0 where
  gives : A → Answer A
  refuses : ℕ → ℕ → Answer A

unfoldable pub refuse_if : {A : Type 0} → Bool → ℕ → Answer A → Answer A
refuse_if true number rest = refuses number 0
refuse_if false number rest = rest

-- The program itself, checked on each call: its root, or the refusal of the first line that holds. That there is a root is one of the
-- lines, so the last case never comes.
unfoldable pub root_answer : Option Lens → Answer Lens
root_answer none = refuses 3 0
root_answer (some l) = gives l

unfoldable pub verdict : Option Line → Option Lens → Answer Lens
verdict (some l) root = refuses l.number l.node
verdict none root = root_answer root

unfoldable pub program : Text → Answer Lens
program bytes = verdict (first_that_holds (lines bytes)) (root_of bytes)

unfoldable pub with_program : {A : Type 0} → Answer Lens → (Lens → Answer A) → Answer A
with_program (gives l) call = call l
with_program (refuses number node) call = refuses number node

abbrev pub max_text : ℕ
max_text = 4096

abbrev pub max_entries : ℕ
max_entries = 256

unfoldable pub too_long : Text → Bool
too_long t = ltb max_text (length t)

unfoldable pub not_of : Side → Lens → Text → Bool
not_of side l t = not (matches (language side l) t)

-- 16: 'result longer than the buffer or than 4,096'
unfoldable pub output : ℕ → Text → Answer Text
output lent t = refuse_if (ltb (min lent max_text) (length t)) 16 (gives t)

-- ---- The calls. `lent` is the length of the output buffer.

-- 'Check tests a program'; 'Check's length is N.'
unfoldable pub check_call : Text → Answer ℕ
check_call bytes = with_program (program bytes) (λ l. gives (node_count bytes))

-- 'Get gives a sheet from a source.'
unfoldable pub get_call : Text → Text → ℕ → Answer Text
get_call bytes t lent =
    with_program (program bytes) (λ l. refuse_if (too_long t) 12 (refuse_if (not_of source l t) 13 (output lent (get l t))))

-- 'Put gives a source from a sheet and an old source.'
unfoldable pub put_call : Text → Text → Text → ℕ → Answer Text
put_call bytes a old lent =
    with_program
    (program bytes)
    (λ l.
    refuse_if
    (too_long a || too_long old)
    12
    (refuse_if (not_of source l old) 13 (refuse_if (not_of sheet l a) 14 (refuse_if (ltb max_entries (length (entries l old))) 15 (output lent (put l a old))))))

-- 'Create gives a source from a sheet only.'
unfoldable pub create_call : Text → Text → ℕ → Answer Text
create_call bytes a lent =
    with_program (program bytes) (λ l. refuse_if (too_long a) 12 (refuse_if (not_of sheet l a) 14 (output lent (create l a))))

-- The whole output buffer afterwards: 'A refusal leaves the output buffer unchanged; a result changes only its own bytes.'
unfoldable pub buffer_after : Answer Text → Text → Text
buffer_after (gives t) buffer = t ++ drop (length t) buffer
buffer_after (refuses number node) buffer = buffer

-- ---- The line that `lenscheck` prints

unfoldable pub digits : ℕ → ℕ → Text
digits zero n = []
digits (suc places) n = let more = digits places (n / 10) in cond (ltb n 10) [] more ++ (48 + n % 10) ∷ []

-- a number below 10^20 in decimal
unfoldable pub decimal : ℕ → Text
decimal n = digits 20 n

-- ' ' and a number
unfoldable pub field : ℕ → Text
field n = 32 ∷ decimal n

unfoldable pub program_line : Text → Answer Lens → Text
program_line bytes (gives l) =
    (111 ∷ 107 ∷ []) ++ field (node_count bytes) ++ field (tree_positions source (lens l)) ++ field (tree_positions sheet (lens l)) ++ 10 ∷ []
program_line bytes (refuses number node) = (114 ∷ 101 ∷ 102 ∷ 117 ∷ 115 ∷ 101 ∷ 100 ∷ []) ++ field number ++ field node ++ 10 ∷ []

-- 'the word `ok`, N, source positions, sheet positions of the root'; 'Refused: `refused`, number, node'
unfoldable pub lenscheck_line : Text → Text
lenscheck_line bytes = program_line bytes (program bytes)
