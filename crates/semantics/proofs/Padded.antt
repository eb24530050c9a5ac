-- Document 02, (iv), by evaluation of the definitions: keys are equal once their trailing spaces are cut. A fourth table of cases, and one theorem.
use mathlib.Core.List.{List, [], ◌∷◌}
use mathlib.Core.Path.{refl}
use Rattle.semantics.specs.Text.{Text, All}
use Rattle.semantics.proofs.Cases.{bytes_of, evaluates, node, kind_byte, operands, table, Case, gets, puts, creates, tells, Holds, result, ◌&◌}

-- Entries as K has them, of a name, the key, and hidden digits; a name is any text of capitals, spaces and tabs.
padded : Text
padded =
    table
    (node 5 0 2 3
    ∷ node 4 0 0 0
    ∷ node 1 48 57 0
    ∷ node 4 2 0 0
    ∷ node 0 0 0 0
    ∷ node 0 0 0 1
    ∷ node 0 0 1 1
    ∷ node 18 1 0 0
    ∷ node 17 3 4 5
    ∷ node 16 6 0 0
    ∷ node 19 8 9 0
    ∷ node 19 7 10 0
    ∷ node 22 11 0 0
    ∷ node 21 12 0 0
    ∷ [])
    "0;AZ  \t\t"

-- The same with two names, a comma between them; both are key text, the comma is not.
two_names : Text
two_names =
    table
    (node 5 0 3 2
    ∷ node 4 0 0 0
    ∷ node 1 48 57 0
    ∷ node 4 2 0 0
    ∷ node 0 0 0 0
    ∷ node 0 0 0 1
    ∷ node 0 0 1 1
    ∷ node 0 0 2 1
    ∷ node 18 1 0 0
    ∷ node 17 3 4 5
    ∷ node 16 6 0 0
    ∷ node 16 7 0 0
    ∷ node 19 9 10 0
    ∷ node 19 8 12 0
    ∷ node 19 11 13 0
    ∷ node 19 8 14 0
    ∷ node 22 15 0 0
    ∷ node 21 16 0 0
    ∷ [])
    "0;,AZ  "

names : List Case
names =
    -- a name that was padded, and one whose padding was taken off; the spaces of the sheet are copied untouched
    puts padded "AB  ;" "AB1;" 4096 (result "AB  1;")
    ∷ puts padded "AB;" "AB  1;" 4096 (result "AB1;")
    ∷ puts padded "C ;AB   ;" "AB 1;C22;" 4096 (result "C 22;AB   1;")
    ∷ tells padded "AB  ;D;" "AB1;C2;" "kept 1 made 1 dropped 1\n"
    ∷ gets padded "AB  1;" 4096 (result "AB  ;")
    ∷ creates padded "AB  ;" 4096 (result "AB  0;")
    -- a key of spaces only equals the empty key
    ∷ puts padded "  ;" "7;" 4096 (result "  7;")
    ∷ puts padded ";" "  7;" 4096 (result "7;")
    -- spaces in front and between are no trailing ones
    ∷ puts padded " A;" "A1; A2;" 4096 (result " A2;")
    ∷ puts padded "A B;" "AB1;A  B2;A B 3;" 4096 (result "A B3;")
    -- a tab is no space, and a space in front of one does not stand at the end
    ∷ puts padded "A\t;" "A1;" 4096 (result "A\t0;")
    ∷ puts padded "A \t;" "A\t1;A \t 2;" 4096 (result "A \t2;")
    -- Entries that differ by spaces only: each takes the first that is left. Unedited, every one takes its own; reordered, they have equal keys.
    ∷ puts padded "A;A ;" "A1;A 2;" 4096 (result "A1;A 2;")
    ∷ puts padded "A ;A;" "A1;A 2;" 4096 (result "A 1;A2;")
    ∷ puts padded "A  ;A;A ;B;" "A  1;A2;A 3;B4;" 4096 (result "A  1;A2;A 3;B4;")
    -- The whole key is cut, and not each part of it: `A ` and `B` are `A B`, `A` and `B ` are `AB`, `A ` and two spaces are `A`.
    ∷ puts two_names "A,B;" "A ,B1;AB,2;" 4096 (result "A,B2;")
    ∷ puts two_names "A ,B;" "A,B1;A, B2;" 4096 (result "A ,B2;")
    ∷ puts two_names "A,B ;" "A ,B1;A,B2;" 4096 (result "A,B 2;")
    ∷ puts two_names "A ,  ;" ",A1;" 4096 (result "A ,  1;")
    ∷ []

-- Every case holds.
names_hold : All Holds names
unfolding bytes_of kind_byte operands table result padded two_names names evaluates
names_hold = refl & refl & refl & refl & refl & refl & refl & refl & refl & refl & refl & refl & refl & refl & refl & refl & refl & refl & refl & tt
