-- When keys are equal, document 02 (iv): what is cut off a key, what is left of it, and what the test says of two keys.
use Rattle.std.specs.Prelude.{◌≡◌, Bool, true, false, ◌&&◌, cond, [], ◌∷◌, ◌++◌, ℕ, zero, suc, ◌-◌, ◌≤◌, ◌<◌, eqb, length, take, drop, get_or}
use Rattle.std.proofs.Math.Path.{refl}
use Rattle.std.proofs.Common.{sym, ap, ap₂, ◌∙◌, arith, take-append-drop, length-append, length-take-le, get_or-take, eqb-true}
use Rattle.std.proofs.Math.Option.{some}
use Rattle.std.proofs.Math.Seq.{take-append_seam}
use Rattle.semantics.specs.Text.{Text, same_text, all_spaces, trimmed}
use Rattle.semantics.specs.Lens.{Entry, Book, Taken, same_key, answers, keeping, take_entry}
use Rattle.laws.specs.Basics.{not_both, and_both, and_of, cond_true, cond_false, same_text_refl, same_text_eq}

-- ---- Texts of spaces alone

and_chain : (a b c : Bool) → (a && b) && c ≡ a && (b && c)
and_chain true b c = refl
and_chain false b c = refl

pub spaces_append : (s t : Text) → all_spaces (s ++ t) ≡ all_spaces s && all_spaces t
unfolding all_spaces
spaces_append [] t = refl
spaces_append (c ∷ s) t = rw (spaces_append s t) (sym (and_chain (eqb c 32) (all_spaces s) (all_spaces t)))

-- one byte more in front
pub spaces_step : (t : Text) → (c : ℕ) → all_spaces (c ∷ t) ≡ eqb c 32 && all_spaces t
unfolding all_spaces
spaces_step t c = refl

spaces_at : (t : Text) → all_spaces t ≡ true → (i : ℕ) → i < length t → get_or t i 0 ≡ 32
unfolding all_spaces
spaces_at [] e i h = absurd (omega arith)
spaces_at (c ∷ t) e zero h = eqb-true c 32 (and_both (eqb c 32) (all_spaces t) e).0
spaces_at (c ∷ t) e (suc i) h = spaces_at t (and_both (eqb c 32) (all_spaces t) e).1 i (omega arith)

spaces_drop : (n : ℕ) (t : Text) → all_spaces t ≡ true → all_spaces (drop n t) ≡ true
unfolding all_spaces
spaces_drop zero t e = e
spaces_drop (suc n) [] e = refl
spaces_drop (suc n) (c ∷ t) e = spaces_drop n t (and_both (eqb c 32) (all_spaces t) e).1

-- ---- What is cut, and what is left

-- nothing is left of spaces alone
trimmed_spaces : (t : Text) → all_spaces t ≡ true → trimmed t ≡ []
unfolding trimmed
trimmed_spaces [] e = refl
trimmed_spaces (c ∷ t) e = cond_true (all_spaces (c ∷ t)) [] (c ∷ trimmed t) e

-- of any other text, its first byte and what is left of the rest
trimmed_cons : (c : ℕ) (t : Text) → all_spaces (c ∷ t) ≡ false → trimmed (c ∷ t) ≡ c ∷ trimmed t
unfolding trimmed
trimmed_cons c t e = cond_false (all_spaces (c ∷ t)) [] (c ∷ trimmed t) e

-- spaces behind a text change nothing
pub trimmed_append : (s u : Text) → all_spaces u ≡ true → trimmed (s ++ u) ≡ trimmed s
trimmed_append [] u e = trimmed_spaces u e ∙ sym (trimmed_spaces [] (unfold all_spaces in refl))
trimmed_append (c ∷ s) u e = go (all_spaces (c ∷ s)) refl (trimmed_append s u e)
  where
    whole : all_spaces (c ∷ s ++ u) ≡ all_spaces (c ∷ s) && all_spaces u
    whole = spaces_append (c ∷ s) u

    go : (b : Bool) → all_spaces (c ∷ s) ≡ b → trimmed (s ++ u) ≡ trimmed s → trimmed (c ∷ s ++ u) ≡ trimmed (c ∷ s)
    go true b later = trimmed_spaces (c ∷ s ++ u) (whole ∙ and_of (all_spaces (c ∷ s)) (all_spaces u) b e) ∙ sym (trimmed_spaces (c ∷ s) b)
    go false b later =
        trimmed_cons c (s ++ u) (whole ∙ ap (λ x. x && all_spaces u) b) ∙ ap (λ t. c ∷ t) later ∙ sym (trimmed_cons c s b)

-- what is cut is spaces alone,
pub padding : (t : Text) → (u : Text) × (all_spaces u ≡ true) × (t ≡ trimmed t ++ u)
unfolding trimmed
padding [] = ([], unfold all_spaces in refl, refl)
padding (c ∷ t) = go (all_spaces (c ∷ t)) refl (padding t)
  where
    go : (b : Bool) → all_spaces (c ∷ t) ≡ b → (u : Text) × (all_spaces u ≡ true) × (t ≡ trimmed t ++ u) → (u : Text) × (all_spaces u ≡ true) × (c ∷ t ≡ trimmed (c ∷ t) ++ u)
    go true b later = (c ∷ t, b, ap (λ s. s ++ c ∷ t) (sym (trimmed_spaces (c ∷ t) b)))
    go false b (u, spaces, e) = (u, spaces, ap (λ s. c ∷ s) e ∙ ap (λ s. s ++ u) (sym (trimmed_cons c t b)))

-- what is left stands at the front,
pub trimmed_take : (t : Text) → take (length (trimmed t)) t ≡ trimmed t
trimmed_take t = let (u, spaces, e) = padding t in ap (take (length (trimmed t))) e ∙ take-append_seam (trimmed t) u

-- so no text gets longer,
pub trimmed_short : (t : Text) → length (trimmed t) ≤ length t
trimmed_short t = let (u, spaces, e) = padding t in omega (arith, ap length e, length-append (trimmed t) u)

-- and of a text that does not end in a space, all is left.
pub trimmed_whole : (t : Text) → (0 < length t → ¬ (get_or t (length t - 1) 0 ≡ 32)) → trimmed t ≡ t
trimmed_whole [] ends = trimmed_spaces [] (unfold all_spaces in refl)
trimmed_whole (c ∷ t) ends = go (all_spaces (c ∷ t)) refl (trimmed_whole t (last t ends))
  where
    last : (t : Text) → (0 < length (c ∷ t) → ¬ (get_or (c ∷ t) (length (c ∷ t) - 1) 0 ≡ 32)) → 0 < length t → ¬ (get_or t (length t - 1) 0 ≡ 32)
    last [] ends more e = omega arith
    last (d ∷ t) ends more e =
        let place : length (c ∷ d ∷ t) - 1 ≡ suc (length (d ∷ t) - 1) = omega arith in
        ends (omega arith) (ap (λ k. get_or (c ∷ d ∷ t) k 0) place ∙ e)

    go : (b : Bool) → all_spaces (c ∷ t) ≡ b → trimmed t ≡ t → trimmed (c ∷ t) ≡ c ∷ t
    go true b later = absurd (ends (omega arith) (spaces_at (c ∷ t) b (length (c ∷ t) - 1) (omega arith)))
    go false b later = trimmed_cons c t b ∙ ap (λ s. c ∷ s) later

-- So it is told what is left of every text: it is one that does not end in a space, and spaces.
pub trimmed_is : (s u : Text) → (0 < length s → ¬ (get_or s (length s - 1) 0 ≡ 32)) → all_spaces u ≡ true → trimmed (s ++ u) ≡ s
trimmed_is s u ends spaces = trimmed_append s u spaces ∙ trimmed_whole s ends

-- A front behind which there are only spaces, and which ends in none, is what is left.
pub trimmed_front :
    (t : Text) (n : ℕ) → n ≤ length t → all_spaces (drop n t) ≡ true → (0 < n → ¬ (get_or t (n - 1) 0 ≡ 32)) → trimmed t ≡ take n t
trimmed_front t n h spaces ends =
    let front = take n t in
    let size : length front ≡ n = length-take-le n t h in
    let last : 0 < length front → ¬ (get_or front (length front - 1) 0 ≡ 32) =
    λ more e. ends (omega (arith, size)) (sym (get_or-take n t (n - 1) 0 (omega (arith, size))) ∙ ap (λ k. get_or front (k - 1) 0) (sym size) ∙ e) in
    ap trimmed (sym (take-append-drop n t)) ∙ trimmed_is front (drop n t) last spaces

-- Where not all is spaces from a place on, more is left than stands before that place.
pub trimmed_over : (n : ℕ) (t : Text) → all_spaces (drop n t) ≡ false → n < length (trimmed t)
trimmed_over n [] e = absurd (not_both (spaces_drop n [] (unfold all_spaces in refl)) e)
trimmed_over zero (c ∷ t) e = rw (trimmed_cons c t e) (omega arith)
trimmed_over (suc n) (c ∷ t) e = go (all_spaces (c ∷ t)) refl (trimmed_over n t e)
  where
    go : (b : Bool) → all_spaces (c ∷ t) ≡ b → n < length (trimmed t) → suc n < length (trimmed (c ∷ t))
    go true b later = absurd (not_both (spaces_drop (suc n) (c ∷ t) b) e)
    go false b later = rw (trimmed_cons c t b) (omega (arith, later))

-- ---- Equal keys

pub same_key_eq : (k m : Text) → same_key k m ≡ true → trimmed k ≡ trimmed m
unfolding same_key
same_key_eq k m e = same_text_eq (trimmed k) (trimmed m) e

pub same_key_of : (k m : Text) → trimmed k ≡ trimmed m → same_key k m ≡ true
unfolding same_key
same_key_of k m e = rw e (same_text_refl (trimmed m))

pub same_key_refl : (k : Text) → same_key k k ≡ true
same_key_refl k = same_key_of k k refl

-- A key that was padded is the same key,
pub same_key_padded : (k u : Text) → all_spaces u ≡ true → same_key (k ++ u) k ≡ true
same_key_padded k u e = same_key_of (k ++ u) k (trimmed_append k u e)

-- two keys are the same only if one is the other with spaces behind it: without its spaces, either is the same text;
pub same_key_only : (k m : Text) → same_key k m ≡ true → (t u v : Text) × (all_spaces u ≡ true) × (all_spaces v ≡ true) × (k ≡ t ++ u) × (m ≡ t ++ v)
same_key_only k m e =
    let (u, spaces-u, k-is) = padding k in
    let (v, spaces-v, m_is) = padding m in
    (trimmed k, u, v, spaces-u, spaces-v, k-is, m_is ∙ ap (λ s. s ++ v) (sym (same_key_eq k m e)))

-- and keys that don't end in a space are compared by their bytes, as document 01 had it.
pub same_key_bytes :
    (k m : Text)
    → (0 < length k → ¬ (get_or k (length k - 1) 0 ≡ 32))
    → (0 < length m → ¬ (get_or m (length m - 1) 0 ≡ 32))
    → same_key k m ≡ same_text k m
unfolding same_key
same_key_bytes k m ends-k ends-m = ap₂ same_text (trimmed_whole k ends-k) (trimmed_whole m ends-m)

answers_same : (n : ℕ) (k m : Text) → trimmed k ≡ trimmed m → (x : Entry) → answers n k x ≡ answers n m x
unfolding answers same_key
answers_same n k m e x = ap (λ t. eqb x.child n && same_text (trimmed x.key_text) t) e

-- So it makes no difference to a lookup whether the key is padded: it finds the same entry, and leaves the same book.
pub take_same_key : (n : ℕ) (k m : Text) → trimmed k ≡ trimmed m → (b : Book) → take_entry n k b ≡ take_entry n m b
unfolding take_entry
take_same_key n k m e [] = refl
take_same_key n k m e (x ∷ b) =
    ap₂
    (λ (here : Bool) (t : Taken). cond here (record { found = some x.text; left = b }) (keeping x t))
    (answers_same n k m e x)
    (take_same_key n k m e b)
