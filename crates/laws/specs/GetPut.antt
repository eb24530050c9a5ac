-- Get gives a sheet of the lens, and putting that sheet back on its source changes nothing (003: GetPut).
use Rattle.std.specs.Prelude.{◌≡◌, refl, Bool, true, false, cond, List, [], ◌∷◌, ◌++◌, map, ℕ, zero, suc, ◌+◌, ◌*◌, ◌≤◌, max, eqb, length, take, drop}
use Rattle.std.proofs.Common.{sym, ap, ap₂, ◌∙◌, subst, subst₂, true≢false, append_assoc, inl, inr, le_trans, add-le-add, le-add_left, le-add_right, mul-add, add-mul, mul-le-mul, mul-le-mul_left, mul-le-mul_right, le-mul_of_pos_right, arith, length-append, eq-eqb}
use Rattle.std.proofs.Math.Path.{subst⁻¹}
use Rattle.std.proofs.Math.Option.{some}
use Rattle.std.proofs.Math.Nat.{le-max_right, max-eq_right}
use Rattle.semantics.specs.Text.{Text, joined, All, or_else}
use Rattle.semantics.specs.Pattern.{Pattern, word, one_of, concat, alt, star, In, matches}
use Rattle.semantics.specs.Lens.{Lens, copy, const, key, join, union, repeat, match, source, sheet, language, const_language, cut_at, parts, Entry, Book, Written, and_then, write_parts, write_match, get, same_key, entry_of, answers, keeping, take_entry, entries, write}
use Rattle.semantics.specs.Table.{holds_match, positions}
use Rattle.laws.specs.Basics.{and_of, cond_true, or_neither}
use Rattle.laws.specs.Keys.{same_key_refl}
use Rattle.laws.specs.WellTyped.{WellTyped}
use Rattle.laws.specs.Pieces.{write_join, write_left, write_right, write_repeat, get_join, get_left, get_right, get_repeat, entries_join, entries_left, entries_right, entries_repeat}

-- ---- Tests and lists

-- where both branches give the same, so does the choice
cond_same : {A : Type 0} (b : Bool) {x y z : A} → x ≡ z → y ≡ z → cond b x y ≡ z
cond_same true p q = p
cond_same false p q = q

-- parts that bring nothing bring nothing together
joined_none : {A B : Type 0} (f : A → List B) → ((x : A) → f x ≡ []) → (xs : List A) → joined (map f xs) ≡ []
unfolding joined
joined_none f law [] = refl
joined_none f law (x ∷ xs) = ap₂ ◌++◌ (law x) (joined_none f law xs)

-- what each element gives its image, for all of them
pub all_map :
    {A B : Type 0} (P : A → Type 0) (Q : B → Type 0) (f : A → B) → ((x : A) → P x → Q (f x)) → (xs : List A) → All P xs → All Q (map f xs)
all_map P Q f law [] all = tt
all_map P Q f law (x ∷ xs) all = (law x all.0, all_map P Q f law xs all.1)

-- ---- Get

-- the sheet of a source is a sheet
pub get_in : (l : Lens) → WellTyped l → (t : Text) → In (language source l) t → In (language sheet l) (get l t)
unfolding WellTyped In language const_language get
get_in (copy r) typed t i = i
get_in (const r w d) typed t i = refl
get_in (key r) typed t i = i
get_in (join l m) typed t (u, v, e, i, j) =
    (get l u, get m v, ap (get (join l m)) e ∙ get_join l m (typed.0 source) u v i j, get_in l typed.1 u i, get_in m typed.2 v j)
get_in (union l m) typed t (inl i) = inl (subst (In (language sheet l)) (sym (get_left l m t i)) (get_in l typed.1 t i))
get_in (union l m) typed t (inr i) = inr (subst (In (language sheet m)) (sym (get_right l m typed.0 t i)) (get_in m typed.2 t i))
get_in (repeat l) typed t (ps, e, all) = (
  map (get l) ps,
  ap (get (repeat l)) e ∙ get_repeat l (typed.0 source) ps all,
  all_map (In (language source l)) (In (language sheet l)) (get l) (get_in l typed.1) ps all,
)
get_in (match n l) typed t i = get_in l typed.1 t i

-- ---- How long a sheet can be

-- parts without a byte have none together
joined_empty : {P : Text → Type 0} → ((p : Text) → P p → length p ≡ 0) → (ps : List Text) → All P ps → length (joined ps) ≡ 0
unfolding joined
joined_empty law [] all = refl
joined_empty law (p ∷ ps) all = rw length-append (omega (arith, law p all.0, joined_empty law ps all.1))

-- a pattern without positions has only the empty text
no_positions : (r : Pattern) (t : Text) → In r t → positions r ≡ 0 → length t ≡ 0
unfolding In positions
no_positions (word w) t e z = ap length e ∙ z
no_positions (one_of c) t i z = absurd (omega arith)
no_positions (concat r s) t (u, v, e, i, j) z =
    let p : length u ≡ 0 = no_positions r u i (omega arith) in
    let q : length v ≡ 0 = no_positions s v j (omega arith) in
    ap length e ∙ (rw length-append (omega arith))
no_positions (alt r s) t (inl i) z = no_positions r t i (omega arith)
no_positions (alt r s) t (inr i) z = no_positions s t i (omega arith)
no_positions (star r) t (ps, e, all) z = ap length e ∙ joined_empty (λ p i. no_positions r p i z) ps all

-- the bound for a lens whose sheet is the source itself
own_length : (r : Pattern) (t : Text) → In r t → length t ≤ positions r * max 1 (length t)
own_length r t i = go (positions r) (no_positions r t i)
  where
    go : (n : ℕ) → (n ≡ 0 → length t ≡ 0) → length t ≤ n * max 1 (length t)
    go zero empty = omega (arith, empty refl)
    go (suc n) empty =
        let h : 1 * length t ≤ suc n * max 1 (length t) = mul-le-mul (omega arith) (omega arith) in
        omega arith

-- one arm's sheet, under the bound of both
arm_length : (k : ℕ) {x y : Text} {p q : ℕ} → x ≡ y → p ≤ q → length y ≤ p * k → length x ≤ q * k
arm_length k {q = q} e more h = subst (λ z. length z ≤ q * k) (sym e) (le_trans h (mul-le-mul_right k more))

-- two halves together, for a sheet of n and k bytes from a source of a and b
pub halves_length : (n k p q a b : ℕ) → n ≤ p * max 1 a → k ≤ q * max 1 b → n + k ≤ (p + q) * max 1 (a + b)
halves_length n k p q a b f g =
    let f' : p * max 1 a ≤ p * max 1 (a + b) = mul-le-mul_left p (omega arith) in
    let g' : q * max 1 b ≤ q * max 1 (a + b) = mul-le-mul_left q (omega arith) in
    omega (arith, add-mul p q (max 1 (a + b)))

-- parts together, none of which is empty
parts_length :
    (l : Lens) → ((t : Text) → In (language source l) t → length (get l t) ≤ positions (language sheet l) * max 1 (length t))
    → ¬ In (language source l) []
    → (ps : List Text) → All (In (language source l)) ps
    → length (joined (map (get l) ps)) ≤ positions (language sheet l) * length (joined ps)
unfolding joined
parts_length l law filled [] all = omega arith
parts_length l law filled ([] ∷ ps) all = absurd (filled all.0)
parts_length l law filled ((c ∷ p) ∷ ps) all =
    let n = positions (language sheet l) in
    let one : max 1 (length (c ∷ p)) ≡ length (c ∷ p) = max-eq_right (omega arith) in
    rw
    (length-append (get l (c ∷ p)) (joined (map (get l) ps)), length-append (c ∷ p) (joined ps), mul-add n (length (c ∷ p)) (length (joined ps)))
    (add-le-add (rw one at (law (c ∷ p) all.0)) (parts_length l law filled ps all.1))

-- at most the positions of the sheet's language for each byte of the source, and as many for an empty source
pub get_length :
    (l : Lens) → WellTyped l → (t : Text) → In (language source l) t → length (get l t) ≤ positions (language sheet l) * max 1 (length t)
unfolding WellTyped In language const_language get positions
get_length (copy r) typed t i = own_length r t i
get_length (const r w d) typed t i = le-mul_of_pos_right (length w) (omega arith)
get_length (key r) typed t i = own_length r t i
get_length (join l m) typed t (u, v, e, i, j) =
    let p = positions (language sheet l) in
    let q = positions (language sheet m) in
    subst₂
    (λ x y. x ≤ (p + q) * max 1 y)
    (sym (ap length (ap (get (join l m)) e ∙ get_join l m (typed.0 source) u v i j) ∙ length-append (get l u) (get m v)))
    (sym (ap length e ∙ length-append u v))
    (halves_length
    (length (get l u))
    (length (get m v))
    p
    q
    (length u)
    (length v)
    (get_length l typed.1 u i)
    (get_length m typed.2 v j))
get_length (union l m) typed t (inl i) =
    arm_length (max 1 (length t)) (get_left l m t i) (le-add_right _ _) (get_length l typed.1 t i)
get_length (union l m) typed t (inr i) =
    arm_length (max 1 (length t)) (get_right l m typed.0 t i) (le-add_left _ _) (get_length m typed.2 t i)
get_length (repeat l) typed t (ps, e, all) =
    let n = positions (language sheet l) in
    subst₂
    (λ x y. length x ≤ n * max 1 (length y))
    (sym (ap (get (repeat l)) e ∙ get_repeat l (typed.0 source) ps all))
    (sym e)
    (le_trans
    (parts_length l (get_length l typed.1) (λ i. typed.0 source (inl i)) ps all)
    (mul-le-mul_left n (le-max_right 1 (length (joined ps)))))
get_length (match n l) typed t i = get_length l typed.1 t i

-- ---- The book

-- a lens that holds no match has no entries
pub no_entries : (l : Lens) → holds_match l ≡ false → (t : Text) → entries l t ≡ []
unfolding holds_match entries
no_entries (copy r) free t = refl
no_entries (const r w d) free t = refl
no_entries (key r) free t = refl
no_entries (join l m) free t =
    let (p, q) = or_neither (holds_match l) (holds_match m) free in
    let i = cut_at (language source l) (language source m) t in
    ap₂ ◌++◌ (no_entries l p (take i t)) (no_entries m q (drop i t))
no_entries (union l m) free t =
    let (p, q) = or_neither (holds_match l) (holds_match m) free in
    cond_same (matches (language source l) t) (no_entries l p t) (no_entries m q t)
no_entries (repeat l) free t = joined_none (entries l) (no_entries l free) (parts (language source l) t)
no_entries (match n l) free t = absurd (true≢false free)

-- ---- What put does on the source's own sheet and entries

-- what the law says of a lens at one of its sources
abbrev Restored : Lens → Text → Type 0
Restored l t = (b : Book) → write l (some t) (get l t) (entries l t ++ b) ≡ record { text = t; book = b }

-- one text is written behind another
pub then_written :
    (w : Written) (next : Book → Written) (u v : Text) (c b : Book)
    → w ≡ record { text = u; book = c }
    → next c ≡ record { text = v; book = b }
    → and_then w next ≡ record { text = u ++ v; book = b }
unfolding and_then
then_written w next u v c b p q = ap (λ x. and_then x next) p ∙ ap (λ x. record { text = u ++ x.text; book = x.book }) q

-- the left half uses up its own entries, and leaves the right half's first in the book
restored_join :
    (l m : Lens) → WellTyped (join l m) → (u v : Text) → In (language source l) u → In (language source m) v
    → Restored l u → Restored m v → Restored (join l m) (u ++ v)
unfolding WellTyped
restored_join l m typed u v i j left right b =
    rw
    (get_join l m (typed.0 source) u v i j, entries_join l m (typed.0 source) u v i j, append_assoc)
    (write_join l m typed.0 u v i j (get l u) (get m v) (get_in l typed.1 u i) (get_in m typed.2 v j) (entries l u ++ (entries m v ++ b))
    ∙ then_written _ _ u v (entries m v ++ b) b (left (entries m v ++ b)) (right b))

-- a lens that does on this source what another does, as a union and its arm
restored_arm :
    (l arm : Lens) (t : Text)
    → get l t ≡ get arm t
    → entries l t ≡ entries arm t
    → ((b : Book) → write l (some t) (get arm t) b ≡ write arm (some t) (get arm t) b)
    → Restored arm t → Restored l t
restored_arm l arm t same_sheet same_entries same-put law b = rw (same_sheet, same_entries) (same-put (entries arm t ++ b) ∙ law b)

-- part by part, where the book holds the entries of all the parts
restored_parts :
    (l : Lens) → ((t : Text) → In (language source l) t → Restored l t)
    → (ps : List Text) → All (In (language source l)) ps → (b : Book)
    → write_parts (write l) ps (map (get l) ps) (joined (map (entries l) ps) ++ b) ≡ record { text = joined ps; book = b }
unfolding write_parts joined
restored_parts l law [] all b = refl
restored_parts l law (p ∷ ps) all b =
    let c = joined (map (entries l) ps) ++ b in
    rw
    (append_assoc (entries l p) (joined (map (entries l) ps)) b)
    (then_written _ (write_parts (write l) ps (map (get l) ps)) p (joined ps) c b (law p all.0 c) (restored_parts l law ps all.1 b))

-- so for a repeat, whose parts those are
restored_repeat :
    (l : Lens) → WellTyped (repeat l) → ((t : Text) → In (language source l) t → Restored l t)
    → (ps : List Text) → All (In (language source l)) ps → Restored (repeat l) (joined ps)
unfolding WellTyped
restored_repeat l typed law ps all b =
    let sheets = all_map (In (language source l)) (In (language sheet l)) (get l) (get_in l typed.1) ps all in
    rw
    (get_repeat l (typed.0 source) ps all, entries_repeat l (typed.0 source) ps all)
    (write_repeat l typed.0 ps all (map (get l) ps) sheets (joined (map (entries l) ps) ++ b) ∙ restored_parts l law ps all b)

-- the first entry of the book is the one that is looked up, also where later ones have the same key
pub takes_first : (e : Entry) (b : Book) → take_entry e.child e.key_text (e ∷ b) ≡ record { found = some e.text; left = b }
unfolding take_entry answers
takes_first e b =
    let n = e.child in
    let k = e.key_text in
    cond_true
    (answers n k e)
    (record { found = some e.text; left = b })
    (keeping e (take_entry n k b))
    (and_of (eqb n n) (same_key k k) (eq-eqb n n refl) (same_key_refl k))

-- The match's child has no entries of its own, so that the book behind the first entry is left as it is.
restored_match : (n : ℕ) (l : Lens) → WellTyped (match n l) → (t : Text) → Restored l t → Restored (match n l) t
unfolding WellTyped write write_match get entries entry_of
restored_match n l typed t child b =
    ap (write_match (write l) (get l t)) (takes_first (entry_of n l t) b)
    ∙ subst (λ (x : Book). write l (some t) (get l t) (x ++ b) ≡ record { text = t; book = b }) (no_entries l typed.0 t) (child b)

-- The book holds the source's own entries first; they are used up, and what stands behind them is left (003's law, with its extra dictionary).
pub get_put :
    (l : Lens) → WellTyped l → (t : Text) → In (language source l) t → (b : Book)
    → write l (some t) (get l t) (entries l t ++ b) ≡ record { text = t; book = b }
unfolding WellTyped In language write or_else get entries
get_put (copy r) typed t i b = refl
get_put (const r w d) typed t i b = refl
get_put (key r) typed t i b = refl
get_put (join l m) typed t (u, v, e, i, j) b =
    subst⁻¹ (Restored (join l m)) e (restored_join l m typed u v i j (get_put l typed.1 u i) (get_put m typed.2 v j)) b
get_put (union l m) typed t (inl i) b =
    restored_arm
    (union l m)
    l
    t
    (get_left l m t i)
    (entries_left l m t i)
    (write_left l m t i (get l t) (get_in l typed.1 t i))
    (get_put l typed.1 t i)
    b
get_put (union l m) typed t (inr i) b =
    restored_arm
    (union l m)
    m
    t
    (get_right l m typed.0 t i)
    (entries_right l m typed.0 t i)
    (write_right l m typed.0 t i (get m t) (get_in m typed.2 t i))
    (get_put m typed.2 t i)
    b
get_put (repeat l) typed t (ps, e, all) b =
    subst⁻¹ (Restored (repeat l)) e (restored_repeat l typed (get_put l typed.1) ps all) b
get_put (match n l) typed t i b = restored_match n l typed t (get_put l typed.1 t i) b
