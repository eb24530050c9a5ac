-- Entries whose keys all differ, trailing spaces cut, are found by key: put back in whatever order, each comes back as it was.
use Rattle.std.specs.Prelude.{◌≡◌, true, false, ◌⊎◌, ℕ, suc, ◌+◌, ◌-◌, ◌≤◌, ◌<◌, eqb, length, get_or}
use Rattle.std.proofs.Math.Path.{refl, ap}
use Rattle.std.proofs.Common.{sym, ap₂, subst, ◌∙◌, inl, inr, arith, length-append, eqb-true, eq-eqb}
use mathlib.Core.List.{List, [], ◌∷◌, ◌++◌, map, append-nil}
use Rattle.std.proofs.Math.Option.{Option, none, some}
use Rattle.std.proofs.lemmas.Bool.{eqb-false}
use Rattle.semantics.specs.Text.{Text, joined, or_else, apply, All, Member, Different, trimmed}
use Rattle.semantics.specs.Pattern.{Pattern, In, star}
use Rattle.semantics.specs.Ambiguity.{BadRepeat}
use Rattle.semantics.specs.Lens.{Lens, repeat, match, source, sheet, language, Entry, Book, Written, Writer, get, key_of, same_key, parts, entry_of, entries, answers, keeping, take_entry, and_then, write_parts, write_match, write, put}
use Rattle.semantics.specs.Table.{holds_match}
use Rattle.laws.specs.Basics.{bool_cases, and_both, and_of, cond_true, cond_false, false_of_not_true, all_at, all_of, member_map, map_member}
use Rattle.laws.specs.Keys.{same_key_refl, same_key_eq, take_same_key}
use Rattle.laws.specs.Cuts.{parts_is}
use Rattle.laws.specs.WellTyped.{WellTyped}
use Rattle.laws.specs.GetPut.{get_in, no_entries, get_put}
use Rattle.laws.specs.Bookless.{asks, Unasked, plain, unasked_writes, asks_nothing}

-- ---- Elements picked out of a list, in whatever order

-- `Out x ys zs`: ys with x taken out of one place is zs.
data Out {A : Type 0} (x : A) : List A → List A → Type 0 where
  here : {ys : List A} → Out x (x ∷ ys) ys
  later : {y : A} {ys zs : List A} → Out x ys zs → Out x (y ∷ ys) (y ∷ zs)

-- `Picked xs ys`: the elements of xs can be taken out of ys, one after the other.
data Picked {A : Type 0} : List A → List A → Type 0 where
  nothing : {ys : List A} → Picked [] ys
  first : {x : A} {xs ys zs : List A} → Out x ys zs → Picked xs zs → Picked (x ∷ xs) ys

module _ {A : Type 0} where
  -- a member can be taken out
  member_out : (x : A) (ys : List A) → Member x ys → (zs : List A) × Out x ys zs
  member_out x [] x'' = elim x'' [ ]
  member_out x (y ∷ ys) (inl e) = (ys, subst (λ z. Out x (z ∷ ys) ys) e here)
  member_out x (y ∷ ys) (inr m) = let r = member_out x ys m in (y ∷ r.0, later r.1)

  -- and what can be taken out is a member
  out_member : {x : A} {ys zs : List A} → Out x ys zs → Member x ys
  out_member here = inl refl
  out_member (later o) = inr (out_member o)

  -- the other members stay
  out_other : {x : A} {ys zs : List A} → Out x ys zs → (y : A) → ¬ (y ≡ x) → Member y ys → Member y zs
  out_other here y other (inl e) = absurd (other e)
  out_other here y other (inr m) = m
  out_other (later o) y other (inl e) = inl e
  out_other (later o) y other (inr m) = inr (out_other o y other m)

  -- and no member is new
  out_within : {x : A} {ys zs : List A} → Out x ys zs → (y : A) → Member y zs → Member y ys
  out_within here y m = inr m
  out_within (later o) y (inl e) = inl e
  out_within (later o) y (inr m) = inr (out_within o y m)

  -- so a list with no element twice stays such a list
  out_different : {x : A} {ys zs : List A} → Out x ys zs → Different ys → Different zs
  out_different here d = d.1
  out_different (later {y = y} o) d = (λ m. d.0 (out_within o y m), out_different o d.1)

  -- members of which none stands twice can all be picked
  picked_members : (xs ys : List A) → Different xs → All (λ x. Member x ys) xs → Picked xs ys
  picked_members [] ys d all = nothing
  picked_members (x ∷ xs) ys d all =
      let o = member_out x ys all.0 in
      let differs : (y : A) → Member y xs → ¬ (y ≡ x) = λ y m e. d.0 (rw e at m) in
      let stays : (y : A) → Member y xs → Member y o.0 =
      λ y m. out_other o.1 y (differs y m) (all_at (λ z. Member z ys) y xs all.1 m) in
      first o.1 (picked_members xs o.0 d.1 (all_of (λ y. Member y o.0) xs stays))

module _ {A B : Type 0} (f : A → B) where
  -- what is taken out of a list is taken out of its image
  out_map : {x : A} {ys zs : List A} → Out x ys zs → Out (f x) (map f ys) (map f zs)
  out_map here = here
  out_map (later o) = later (out_map o)

  -- and so for what is picked
  picked_map : {xs ys : List A} → Picked xs ys → Picked (map f xs) (map f ys)
  picked_map nothing = nothing
  picked_map (first o picked) = first (out_map o) (picked_map picked)

-- a part that is taken out shortens the whole by its length
out_length : {x : Text} {ys zs : List Text} → Out x ys zs → length (joined ys) ≡ length x + length (joined zs)
unfolding joined
out_length {x} (here {ys = ys}) = length-append x (joined ys)
out_length (later o) = let h = out_length o in simp length-append (omega arith)

-- so picked parts are together no longer than all parts
picked_length : {xs ys : List Text} → Picked xs ys → length (joined xs) ≤ length (joined ys)
unfolding joined
picked_length nothing = omega arith
picked_length (first o picked) =
    let h = picked_length picked in
    let k = out_length o in
    simp length-append (omega arith)

-- ---- Parts picked by number

-- Document 01, 'The terms of demand 3': the parts of the source at the root, counted from 1, in the list's order
unfoldable pub selected : List Text → List ℕ → List Text
selected ps [] = []
selected ps (n ∷ ns) = get_or ps (n - 1) [] ∷ selected ps ns

-- each number is that of a part
abbrev pub PartNumbers : List Text → List ℕ → Type 0
PartNumbers ps ns = All (λ n. (1 ≤ n) × (n ≤ length ps)) ns

-- the numbers of the parts, if the first has the number k
numbers : ℕ → List Text → List ℕ
numbers k [] = []
numbers k (p ∷ ps) = k ∷ numbers (suc k) ps

-- a number from k on, and not past the last part, is one of them
numbers_member : (k : ℕ) (ps : List Text) (n : ℕ) → k ≤ n → n < k + length ps → Member n (numbers k ps)
unfolding numbers
numbers_member k [] n low high = absurd (omega arith)
numbers_member k (p ∷ ps) n low high = go (bool_cases (eqb n k)) (numbers_member (suc k) ps n)
  where
    go :
        (eqb n k ≡ true) ⊎ (eqb n k ≡ false)
        → (suc k ≤ n → n < suc k + length ps → Member n (numbers (suc k) ps))
        → Member n (numbers k (p ∷ ps))
    go (inl e) rec = inl (eqb-true n k e)
    go (inr e) rec = let other : ¬ (n ≡ k) = eqb-false n k e in inr (rec (omega arith) (omega arith))

-- a function that finds the parts by their numbers gives all parts for all numbers
numbers_parts :
    (f : ℕ → Text) (k : ℕ) (ps : List Text) → ((n i : ℕ) → n ≡ k + i → f n ≡ get_or ps i []) → map f (numbers k ps) ≡ ps
unfolding numbers
numbers_parts f k [] at = refl
numbers_parts f k (p ∷ ps) at =
    let e : f k ≡ p = at k 0 (omega arith) in
    let es : map f (numbers (suc k) ps) ≡ ps = numbers_parts f (suc k) ps (λ n i h. at n (suc i) (omega arith)) in
    cc

-- the part that has a number, counted from 1
abbrev part : List Text → ℕ → Text
part ps n = get_or ps (n - 1) []

-- the parts of all numbers are all parts
all_parts : (ps : List Text) → map (part ps) (numbers 1 ps) ≡ ps
all_parts ps = numbers_parts (part ps) 1 ps (λ n i h. let e : n - 1 ≡ i = omega arith in ap (λ j. get_or ps j []) e)

-- part numbers, as members of the list of all
in_numbers : (ps : List Text) (ns : List ℕ) → PartNumbers ps ns → All (λ n. Member n (numbers 1 ps)) ns
in_numbers ps [] in_range_lem = tt
in_numbers ps (n ∷ ns) in_range_lem = (numbers_member 1 ps n in_range_lem.0.0 (omega arith), in_numbers ps ns in_range_lem.1)

-- the selected parts are the parts of the numbers
selected_map : (ps : List Text) (ns : List ℕ) → selected ps ns ≡ map (part ps) ns
unfolding selected
selected_map ps [] = refl
selected_map ps (n ∷ ns) = ap (λ qs. part ps n ∷ qs) (selected_map ps ns)

-- parts of different numbers are picked from all parts, also where their texts are equal
selected_picked : (ps : List Text) (ns : List ℕ) → PartNumbers ps ns → Different ns → Picked (selected ps ns) ps
selected_picked ps ns in_range_lem different =
    let picked : Picked ns (numbers 1 ps) = picked_members ns (numbers 1 ps) different (in_numbers ps ns in_range_lem) in
    rw selected_map (subst (Picked (map (part ps) ns)) (all_parts ps) (picked_map (part ps) picked))

-- the selected parts are no longer than all of them together
pub selected_length :
    (ps : List Text) (ns : List ℕ) → PartNumbers ps ns → Different ns → length (joined (selected ps ns)) ≤ length (joined ps)
selected_length ps ns in_range_lem different = picked_length (selected_picked ps ns in_range_lem different)

-- what holds of all parts holds of each selected part
pub selected_in : (P : Text → Type 0) (ps : List Text) (ns : List ℕ) → PartNumbers ps ns → All P ps → All P (selected ps ns)
unfolding selected
selected_in P ps [] in_range_lem all = tt
selected_in P ps (n ∷ ns) in_range_lem all =
    let m : Member (part ps n) (map (part ps) (numbers 1 ps)) = member_map (part ps) n (numbers 1 ps) (in_numbers ps (n ∷ ns) in_range_lem).0 in
    (all_at P (part ps n) ps all (rw (all_parts ps) at m), selected_in P ps ns in_range_lem.1 all)

-- ---- Entries found by key

-- the key of a source's entry
abbrev key_in : Lens → Text → Text
key_in l p = key_of l (get l p)

-- and what tells it from other keys
abbrev trimmed_key : Lens → Text → Text
trimmed_key l p = trimmed (key_in l p)

-- Part for part, a sheet text has the part's key, but for trailing spaces.
abbrev pub SameKeys : Lens → List Text → List Text → Type 0
SameKeys l [] [] = Unit {0}
SameKeys l [] (a ∷ new) = ⊥
SameKeys l (p ∷ ps) [] = ⊥
SameKeys l (p ∷ ps) (a ∷ new) = (trimmed (key_of l a) ≡ trimmed_key l p) × SameKeys l ps new

-- each sheet text, put onto its part
unfoldable pub put_each : Lens → List Text → List Text → Text
put_each l [] new = []
put_each l (p ∷ ps) [] = []
put_each l (p ∷ ps) (a ∷ new) = put l a p ++ put_each l ps new

-- parts of one element each join to the list of those
joined_singles : {A B : Type 0} (f : A → B) (xs : List A) → joined (map (λ x. f x ∷ []) xs) ≡ map f xs
unfolding joined
joined_singles f [] = refl
joined_singles f (x ∷ xs) = ap (λ ys. f x ∷ ys) (joined_singles f xs)

-- each text of a repeat is cut into members
parts_in : (r : Pattern) → ¬ BadRepeat r → (t : Text) → In (star r) t → All (In r) (parts r t)
unfolding In
parts_in r one t i = rw (i.1, parts_is r one i.0 i.2) i.2

-- the first part is written on some old text or on none, and then the others are
writes_first :
    (w : Writer) (olds : List Text) (a : Text) (rest : List Text) (b : Book)
    → (old : Option Text) × (later-olds : List Text) × (write_parts w olds (a ∷ rest) b ≡ and_then (w old a b) (write_parts w later-olds rest))
unfolding write_parts
writes_first w [] a rest b = (none, [], refl)
writes_first w (old ∷ olds) a rest b = (some old, olds, refl)

module _ (n : ℕ) (l : Lens) where
  -- an entry answers to its own key
  answers_own : (p : Text) → answers n (key_in l p) (entry_of n l p) ≡ true
  unfolding answers entry_of
  answers_own p = and_of (eqb n n) (same_key (key_in l p) (key_in l p)) (eq-eqb n n refl) (same_key_refl (key_in l p))

  -- and to no other
  answers_no_other : (p q : Text) → ¬ (trimmed_key l q ≡ trimmed_key l p) → answers n (key_in l p) (entry_of n l q) ≡ false
  unfolding answers entry_of
  answers_no_other p q other =
      false_of_not_true
      (answers n (key_in l p) (entry_of n l q))
      (λ e. other (same_key_eq (key_in l q) (key_in l p) (and_both (eqb n n) (same_key (key_in l q) (key_in l p)) e).1))

  -- where no key stands twice, the lookup takes out the entry that is meant
  takes_own :
      {p : Text} {qs rs : List Text} → Out p qs rs → Different (map (trimmed_key l) qs)
      → take_entry n (key_in l p) (map (entry_of n l) qs) ≡ record { found = some p; left = map (entry_of n l) rs }
  unfolding take_entry keeping entry_of
  takes_own {p} here keys = rw (cond_true _ _ _ (answers_own p))
  takes_own {p} (later {y = q} {ys = qs} o) keys =
      let other : ¬ (trimmed_key l q ≡ trimmed_key l p) = λ e. keys.0 (rw e (member_map (trimmed_key l) p qs (out_member o))) in
      rw (cond_false _ _ _ (answers_no_other p q other)) (ap (keeping (entry_of n l q)) (takes_own o keys.1))

  -- put, said on the parts of the source and of the sheet
  put_parts :
      (a t : Text)
      → put (repeat (match n l)) a t
      ≡ (write_parts (write (match n l)) (parts (language source l) t) (parts (language sheet l) a) (entries (repeat (match n l)) t)).text
  unfolding put write language or_else apply
  put_parts a t = refl

  -- the book holds an entry for each part
  entries_are : (t : Text) → entries (repeat (match n l)) t ≡ map (entry_of n l) (parts (language source l) t)
  unfolding entries language
  entries_are t = joined_singles (entry_of n l) (parts (language source l) t)

  module _ (free : holds_match l ≡ false) where
    -- the child of the match asks for no entry
    asks_for_none : (b : Book) → Unasked l b
    asks_for_none b = record { each = all_of (λ (e : Entry). asks l e.child ≡ false) b (λ e m. asks_nothing l free e.child) }

    -- a sheet text with the key of a part is put onto that part, whatever the old text at its place
    writes_found :
        {p : Text} {qs rs : List Text} → Out p qs rs → Different (map (trimmed_key l) qs)
        → (a : Text) → trimmed (key_of l a) ≡ trimmed_key l p → (old : Option Text)
        → write (match n l) old a (map (entry_of n l) qs) ≡ record { text = put l a p; book = map (entry_of n l) rs }
    unfolding write write_match put plain
    writes_found {p} {qs} {rs} o keys a same old =
        let left : Book = map (entry_of n l) rs in
        ap (write_match (write l) a) (take_same_key n (key_of l a) (key_in l p) same (map (entry_of n l) qs) ∙ takes_own o keys)
        ∙ unasked_writes l (some p) a left (asks_for_none left)
        ∙ ap (λ (b : Book). record { text = (write l (some p) a b).text; book = left }) (sym (no_entries l free p))

    -- and so are the sheet texts with the keys of picked parts, one after the other
    writes_picked :
        {sel qs : List Text} → Picked sel qs → Different (map (trimmed_key l) qs)
        → (new : List Text) → SameKeys l sel new → (olds : List Text)
        → (write_parts (write (match n l)) olds new (map (entry_of n l) qs)).text ≡ put_each l sel new
    unfolding put_each and_then
    writes_picked nothing keys [] same olds = unfold write_parts in refl
    writes_picked nothing keys (a ∷ new) same olds = absurd same
    writes_picked (first o picked) keys [] same olds = absurd same
    writes_picked (first {x = p} {xs = sel} {ys = qs} o picked) keys (a ∷ new) same olds =
        let step = writes_first (write (match n l)) olds a new (map (entry_of n l) qs) in
        rw
        (step.2, writes_found o keys a same.0 step.0)
        (ap (λ s. put l a p ++ s) (writes_picked picked (out_different (out_map (trimmed_key l) o) keys) new same.1 step.1))

-- Document 02 (iv): a pair whose name was padded, or no longer is, keeps its remark. Where the keys of a source all differ, a sheet text that has, but for trailing spaces, the key of a
-- selected part is put onto that part, wherever the one and the other stand.
pub finds_by_key :
    (n : ℕ) (l : Lens) → WellTyped (repeat (match n l))
    → (t : Text)
    → Different (map (λ p. trimmed (key_of l (get l p))) (parts (language source l) t))
    → (ns : List ℕ) → PartNumbers (parts (language source l) t) ns → Different ns
    → (new : List Text) → All (In (language sheet l)) new → SameKeys l (selected (parts (language source l) t) ns) new
    → put (repeat (match n l)) (joined new) t ≡ put_each l (selected (parts (language source l) t) ns) new
unfolding language WellTyped
finds_by_key n l typed t keys ns in_range_lem different new sheets same =
    let ps = parts (language source l) t in
    rw
    (put_parts n l, parts_is (language sheet l) (typed.0 sheet) new sheets, entries_are n l t)
    (writes_picked n l typed.1.0 (selected_picked ps ns in_range_lem different) keys new same ps)

-- the sheet of a part has its key,
own_keys : (l : Lens) (ps : List Text) → SameKeys l ps (map (get l) ps)
own_keys l [] = tt
own_keys l (p ∷ ps) = (refl, own_keys l ps)

-- and, put onto the part, gives it as it was: putting a source's own sheet back restores it
pub put_restores : (l : Lens) → WellTyped l → (t : Text) → In (language source l) t → put l (get l t) t ≡ t
unfolding put
put_restores l typed t i =
    ap (λ (b : Book). (write l (some t) (get l t) b).text) (sym (append-nil (entries l t)))
    ∙ ap (λ (w : Written). w.text) (get_put l typed t i [])

own_parts : (l : Lens) → WellTyped l → (ps : List Text) → All (In (language source l)) ps → put_each l ps (map (get l) ps) ≡ joined ps
unfolding put_each joined
own_parts l typed [] all = refl
own_parts l typed (p ∷ ps) all = ap₂ ◌++◌ (put_restores l typed p all.0) (own_parts l typed ps all.1)

-- Demand 3: the sheets of selected parts, put on the source whose keys all differ, give those parts as they were, in the order of
-- the sheets.
pub shuffle :
    (n : ℕ) (l : Lens) → WellTyped (repeat (match n l))
    → (t : Text) → In (language source (repeat (match n l))) t
    → Different (map (λ p. trimmed (key_of l (get l p))) (parts (language source l) t))
    → (ns : List ℕ) → PartNumbers (parts (language source l) t) ns → Different ns
    → put (repeat (match n l)) (joined (map (get l) (selected (parts (language source l) t) ns))) t ≡ joined (selected (parts (language source l) t) ns)
unfolding language WellTyped
shuffle n l typed t i keys ns in_range_lem different =
    let r = language source l in
    let ps = parts r t in
    let sel = selected ps ns in
    let all : All (In r) sel = selected_in (In r) ps ns in_range_lem (parts_in r (typed.0 source) t i) in
    let is_sheet : (a : Text) → Member a (map (get l) sel) → In (language sheet l) a =
    λ a m. let p = map_member (get l) a sel m in rw p.2 (get_in l typed.1.1 p.0 (all_at (In r) p.0 sel all p.1)) in
    let sheets : All (In (language sheet l)) (map (get l) sel) = all_of (In (language sheet l)) (map (get l) sel) is_sheet in
    finds_by_key n l typed t keys ns in_range_lem different (map (get l) sel) sheets (own_keys l sel)
    ∙ own_parts l typed.1.1 sel all
