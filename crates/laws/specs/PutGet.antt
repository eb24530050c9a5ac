-- Whatever put or create wrote for a sheet is a source, and get takes exactly that sheet from it (003: PutGet and CreateGet, at once). Its
-- entries are those of the sheet.
use Rattle.std.specs.Prelude.{◌≡◌, refl, Bool, true, false, cond, List, [], ◌∷◌, ◌++◌, map, ◌⊎◌, ℕ, eqb}
use Rattle.std.proofs.Common.{sym, ap, ap₂, ◌∙◌, inl, inr, eqb-true}
use Rattle.std.proofs.lemmas.List.{map-append}
use Rattle.std.proofs.Math.Option.{Option, none, some}
use Rattle.std.proofs.Math.Logic.{⊎_swap}
use Rattle.semantics.specs.Text.{Text, joined, All, or_else, apply}
use Rattle.semantics.specs.Pattern.{Pattern, In, matches}
use Rattle.semantics.specs.Lens.{Lens, copy, const, key, join, union, repeat, match, source, sheet, language, const_language, parts, Book, entry_of, Taken, answers, same_key, keeping, take_entry, Written, and_then, Arm, put_left, put_right, create_left, create_right, arm_of, write_arm, write_parts, write_match, get, key_of, entries, write}
use Rattle.semantics.specs.Table.{Trees, lens_at}
use Rattle.semantics.specs.Tally.{Met, meet_arm, meet_parts, met}
use Rattle.laws.specs.Basics.{and_both, not_both, all_append}
use Rattle.laws.specs.Membership.{matches_in_lem, in_matches}
use Rattle.laws.specs.Cuts.{cut_left, cut_right, parts_is}
use Rattle.laws.specs.Pieces.{get_join, get_left, get_right, get_repeat, entries_join, entries_left, entries_right, entries_repeat}
use Rattle.laws.specs.WellTyped.{WellTyped, Numbered, EntryFits, OldFits, stamp, PutBack}

-- what holds of all that each element brings holds of all that they bring together
all_joined :
    {A B : Type 0} (P : A → Type 0) (Q : B → Type 0) (f : A → List B) → ((x : A) → P x → All Q (f x)) → (xs : List A) → All P xs
    → All Q (joined (map f xs))
unfolding joined
all_joined P Q f each [] all = tt
all_joined P Q f each (x ∷ xs) all = all_append Q (f x) (joined (map f xs)) (each x all.0) (all_joined P Q f each xs all.1)

-- the entries of a source fit their child nodes
pub entries_fit : (ts : Trees) (l : Lens) → Numbered ts l → WellTyped l → (t : Text) → In (language source l) t → All (EntryFits ts) (entries l t)
unfolding Numbered WellTyped In language entries entry_of
entries_fit ts (copy r) numbered typed t i = tt
entries_fit ts (const r w d) numbered typed t i = tt
entries_fit ts (key r) numbered typed t i = tt
entries_fit ts (join l m) numbered typed t (u, v, e, i, j) =
    rw
    (e, entries_join l m (typed.0 source) u v i j)
    (all_append (EntryFits ts) (entries l u) (entries m v) (entries_fit ts l numbered.0 typed.1 u i) (entries_fit ts m numbered.1 typed.2 v j))
entries_fit ts (union l m) numbered typed t (inl i) = rw (entries_left l m t i) (entries_fit ts l numbered.0 typed.1 t i)
entries_fit ts (union l m) numbered typed t (inr i) = rw (entries_right l m typed.0 t i) (entries_fit ts m numbered.1 typed.2 t i)
entries_fit ts (repeat l) numbered typed t (ps, e, all) =
    rw
    (e, entries_repeat l (typed.0 source) ps all)
    (all_joined (In (language source l)) (EntryFits ts) (entries l) (entries_fit ts l numbered typed.1) ps all)
entries_fit ts (match n l) numbered typed t i = (record { lens = l; at_child = numbered.0; in_source = i }, tt)

-- What `put_get` says of a lens: whatever it writes, with an old text or without one, gets back.
abbrev WritesBack : Trees → Lens → Type 0
WritesBack ts l =
    (old : Option Text) → OldFits l old
    → (a : Text) → In (language sheet l) a
    → (b : Book) → All (EntryFits ts) b
    → PutBack ts l a (met l old a) (write l old a b)

-- ---- join

-- An old text, if there is one, falls into two old texts; the sheet's halves u and v are written on them, one behind the other.
record Halves (l m : Lens) (old : Option Text) (u v : Text) (b : Book) : Type 0 where
  left : Option Text
  right : Option Text
  left_fits : OldFits l left
  right_fits : OldFits m right
  writes : write (join l m) old (u ++ v) b ≡ and_then (write l left u b) (write m right v)
  meets : met (join l m) old (u ++ v) ≡ met l left u ++ met m right v

-- the old text and the sheet each have one cut only
halves :
    (l m : Lens) → WellTyped (join l m)
    → (old : Option Text) → OldFits (join l m) old
    → (u v : Text) → In (language sheet l) u → In (language sheet m) v
    → (b : Book) → Halves l m old u v b
unfolding WellTyped In language write met or_else apply
halves l m typed none fits u v j k b =
    record {
      left = none;
      right = none;
      left_fits = tt;
      right_fits = tt;
      writes = simp (cut_left, cut_right, typed.0 sheet);
      meets = simp (cut_left, cut_right, typed.0 sheet);
    }
halves l m typed (some t) (p, q, e, x, y) u v j k b =
    record {
      left = some p;
      right = some q;
      left_fits = x;
      right_fits = y;
      writes = rw e (simp (cut_left, cut_right, typed.0 source, typed.0 sheet));
      meets = rw e (simp (cut_left, cut_right, typed.0 source, typed.0 sheet));
    }

-- A left half that is put back, and behind it a right half that is, whatever fitting book it gets: the join is put back.
both_back :
    (ts : Trees) (l m : Lens) → WellTyped (join l m)
    → (u v : Text) (ms ns : List Met) (w : Written) → PutBack ts l u ms w
    → (next : Book → Written) → ((b : Book) → All (EntryFits ts) b → PutBack ts m v ns (next b))
    → PutBack ts (join l m) (u ++ v) (ms ++ ns) (and_then w next)
unfolding In language and_then WellTyped
both_back ts l m typed u v ms ns w first next second =
    let rest = second w.book first.book_fits in
    let w' = next w.book in
    record {
      in_source = (w.text, w'.text, refl, first.in_source, rest.in_source);
      get_back = get_join l m (typed.0 source) w.text w'.text first.in_source rest.in_source ∙ cc (first.get_back, rest.get_back);
      meets =
          ap (map stamp) (entries_join l m (typed.0 source) w.text w'.text first.in_source rest.in_source)
          ∙ map-append stamp (entries l w.text) (entries m w'.text)
          ∙ ap₂ ◌++◌ first.meets rest.meets;
      book_fits = rest.book_fits;
    }

-- a join writes back if its halves do
put_join : (ts : Trees) (l m : Lens) → WellTyped (join l m) → WritesBack ts l → WritesBack ts m → WritesBack ts (join l m)
unfolding In language
put_join ts l m typed left right old fits a (u, v, e, j, k) b book =
    let h = halves l m typed old fits u v j k b in
    rw
    (e, h.writes, h.meets)
    (both_back
    ts
    l
    m
    typed
    u
    v
    (met l h.left u)
    (met m h.right v)
    (write l h.left u b)
    (left h.left h.left_fits u j b book)
    (write m h.right v)
    (right h.right h.right_fits v k))

-- ---- union

-- what a test of A says by its answer
abbrev Decided : Bool → Type 0 → Type 0
Decided true A = A
Decided false A = ¬ A

-- the test for membership says whether the text belongs
membership : (r : Pattern) (t : Text) → Decided (matches r t) (In r t)
membership r t = go (matches r t) refl
  where
    go : (b : Bool) → matches r t ≡ b → Decided b (In r t)
    go true e = matches_in_lem r t e
    go false e = λ i. not_both (in_matches r t i) e

-- of two, the other one, if the first is out
other : {A B : Type 0} → ¬ A → A ⊎ B → B
other no-a (inl a) = absurd (no-a a)
other no-a (inr b) = b

-- what the chosen arm needs: a sheet of that arm, and for put an old text of it
abbrev ArmFits : Lens → Lens → Option Text → Text → Arm → Type 0
ArmFits l m old a put_left = OldFits l old × In (language sheet l) a
ArmFits l m old a put_right = OldFits m old × In (language sheet m) a
ArmFits l m old a create_left = In (language sheet l) a
ArmFits l m old a create_right = In (language sheet m) a

-- the arm that is chosen gets what it needs
arm_fits :
    (l m : Lens) (old : Option Text) → OldFits (union l m) old
    → (a : Text) → In (language sheet (union l m)) a
    → ArmFits l m old a (arm_of (apply (matches (language source l)) old) (matches (language sheet l) a) (matches (language sheet m) a))
unfolding In language arm_of apply
arm_fits l m none fits a i = go (matches (language sheet l) a) (matches (language sheet m) a) (membership (language sheet l) a)
  where
    go : (x y : Bool) → Decided x (In (language sheet l) a) → ArmFits l m none a (arm_of none x y)
    go true y in_left = in_left
    go false y out-left = other out-left i
arm_fits l m (some t) fits a i =
    go
    (matches (language source l) t)
    (matches (language sheet l) a)
    (matches (language sheet m) a)
    (membership (language source l) t)
    (membership (language sheet l) a)
    (membership (language sheet m) a)
  where
    go :
        (z x y : Bool) → Decided z (In (language source l) t) → Decided x (In (language sheet l) a) → Decided y (In (language sheet m) a)
        → ArmFits l m (some t) a (arm_of (some z) x y)
    go true true y old-left in_left right = (old-left, in_left)
    go true false y old-left out-left right = other out-left i
    go false x true not_left left in_right = (other not_left fits, in_right)
    go false x false not_left left out-right = other out-right (⊎_swap i)

-- What an arm puts back, the union does, if it reads the arm's sources as the arm does.
arm_back :
    (ts : Trees) (l m arm : Lens)
    → ((t : Text) → In (language source arm) t → In (language source (union l m)) t × (get (union l m) t ≡ get arm t) × (entries (union l m) t ≡ entries arm t))
    → (a : Text) (ms : List Met) (w : Written) → PutBack ts arm a ms w → PutBack ts (union l m) a ms w
arm_back ts l m arm reads a ms w back =
    let r = reads w.text back.in_source in
    record { in_source = r.0; get_back = r.1 ∙ back.get_back; meets = ap (map stamp) r.2 ∙ back.meets; book_fits = back.book_fits }

-- a union writes back if its arms do
put_union : (ts : Trees) (l m : Lens) → WellTyped (union l m) → WritesBack ts l → WritesBack ts m → WritesBack ts (union l m)
unfolding write write_arm met meet_arm In language WellTyped
put_union ts l m typed left right old fits a i b book =
    go
    (arm_of (apply (matches (language source l)) old) (matches (language sheet l) a) (matches (language sheet m) a))
    (arm_fits l m old fits a i)
  where
    on_left : (o : Option Text) → OldFits l o → In (language sheet l) a → PutBack ts (union l m) a (met l o a) (write l o a b)
    on_left o fit j =
        arm_back ts l m l (λ t k. (inl k, get_left l m t k, entries_left l m t k)) a (met l o a) (write l o a b) (left o fit a j b book)

    on_right : (o : Option Text) → OldFits m o → In (language sheet m) a → PutBack ts (union l m) a (met m o a) (write m o a b)
    on_right o fit j =
        arm_back
        ts
        l
        m
        m
        (λ t k. (inr k, get_right l m typed.0 t k, entries_right l m typed.0 t k))
        a
        (met m o a)
        (write m o a b)
        (right o fit a j b book)

    go :
        (arm : Arm) → ArmFits l m old a arm
        → PutBack ts (union l m) a (meet_arm (met l) (met m) arm old a) (write_arm (write l) (write m) arm old a b)
    go put_left fit = on_left old fit.0 fit.1
    go put_right fit = on_right old fit.0 fit.1
    go create_left fit = on_left none tt fit
    go create_right fit = on_right none tt fit

-- ---- repeat

-- what writing a list of sheet parts owes: a list of sources, whose sheets are those parts, with their entries, and a book whose entries
-- still fit
record PartsBack (ts : Trees) (l : Lens) (sheets : List Text) (ms : List Met) (w : Written) : Type 0 where
  written : List Text
  written_in : All (In (language source l)) written
  text_is : w.text ≡ joined written
  gets_back : map (get l) written ≡ sheets
  meets : map stamp (joined (map (entries l) written)) ≡ ms
  book_fits : All (EntryFits ts) w.book

-- A part that is put back, and behind it parts that are, whatever fitting book they get: the longer list is put back.
part_back :
    (ts : Trees) (l : Lens) (a : Text) (sheets : List Text) (ms ns : List Met) (w : Written) → PutBack ts l a ms w
    → (next : Book → Written) → ((b : Book) → All (EntryFits ts) b → PartsBack ts l sheets ns (next b))
    → PartsBack ts l (a ∷ sheets) (ms ++ ns) (and_then w next)
unfolding and_then joined
part_back ts l a sheets ms ns w first next later =
    let rest = later w.book first.book_fits in
    record {
      written = w.text ∷ rest.written;
      written_in = (first.in_source, rest.written_in);
      text_is = ap (λ t. w.text ++ t) rest.text_is;
      gets_back = cc (first.get_back, rest.gets_back);
      meets = map-append stamp (entries l w.text) (joined (map (entries l) rest.written)) ∙ ap₂ ◌++◌ first.meets rest.meets;
      book_fits = rest.book_fits;
    }

-- part by part, with the old parts as far as they go
put_parts :
    (ts : Trees) (l : Lens) → WritesBack ts l
    → (olds : List Text) → All (In (language source l)) olds
    → (sheets : List Text) → All (In (language sheet l)) sheets
    → (b : Book) → All (EntryFits ts) b
    → PartsBack ts l sheets (meet_parts (met l) olds sheets) (write_parts (write l) olds sheets b)
unfolding write_parts meet_parts joined
put_parts ts l one olds fits [] all b book =
    record { written = []; written_in = tt; text_is = refl; gets_back = refl; meets = refl; book_fits = book }
put_parts ts l one [] fits (a ∷ sheets) all b book =
    part_back
    ts
    l
    a
    sheets
    (met l none a)
    (meet_parts (met l) [] sheets)
    (write l none a b)
    (one none tt a all.0 b book)
    (write_parts (write l) [] sheets)
    (put_parts ts l one [] fits sheets all.1)
put_parts ts l one (t ∷ olds) fits (a ∷ sheets) all b book =
    part_back
    ts
    l
    a
    sheets
    (met l (some t) a)
    (meet_parts (met l) olds sheets)
    (write l (some t) a b)
    (one (some t) fits.0 a all.0 b book)
    (write_parts (write l) olds sheets)
    (put_parts ts l one olds fits.1 sheets all.1)

-- the parts of the old text, if there is one, are sources
old_parts_lem :
    (l : Lens) → WellTyped (repeat l) → (old : Option Text) → OldFits (repeat l) old
    → All (In (language source l)) (or_else [] (apply (parts (language source l)) old))
unfolding WellTyped In language or_else apply
old_parts_lem l typed none fits = tt
old_parts_lem l typed (some t) (ps, e, all) = rw (e, parts_is (language source l) (typed.0 source) ps all) all

-- a repeat writes back if its child does
put_repeat : (ts : Trees) (l : Lens) → WellTyped (repeat l) → WritesBack ts l → WritesBack ts (repeat l)
unfolding WellTyped In language write met
put_repeat ts l typed one old fits a (sheets, e, all) b book =
    let back = put_parts ts l one (or_else [] (apply (parts (language source l)) old)) (old_parts_lem l typed old fits) sheets all b book in
    rw (e, parts_is (language sheet l) (typed.0 sheet) sheets all) record {
      in_source = (back.written, back.text_is, back.written_in);
      get_back = rw (back.text_is, get_repeat l (typed.0 source) back.written back.written_in, back.gets_back);
      meets = rw (back.text_is, entries_repeat l (typed.0 source) back.written back.written_in) back.meets;
      book_fits = back.book_fits;
    }

-- ---- match

-- what a lookup owes: a source of the lens, if it found one, and a book whose entries still fit
record TakenFits (ts : Trees) (l : Lens) (t : Taken) : Type 0 where
  found_fits : OldFits l t.found
  left_fits : All (EntryFits ts) t.left

-- an entry that answers is of the child node, so its text is a source of the child
take_fits :
    (ts : Trees) (n : ℕ) (l : Lens) → lens_at ts n ≡ some l
    → (k : Text) (b : Book) → All (EntryFits ts) b
    → TakenFits ts l (take_entry n k b)
unfolding take_entry keeping answers
take_fits ts n l at_n k [] book = record { found_fits = tt; left_fits = tt }
take_fits ts n l at_n k (e ∷ b) book = go (answers n k e) refl (take_fits ts n l at_n k b book.1)
  where
    found : answers n k e ≡ true → In (language source l) e.text
    found answer =
        let child : e.child ≡ n = eqb-true e.child n (and_both (eqb e.child n) (same_key e.key_text k) answer).0 in
        let same : book.0.lens ≡ l = cc book.0.at_child in
        rw same at book.0.in_source

    go :
        (x : Bool) → answers n k e ≡ x → TakenFits ts l (take_entry n k b)
        → TakenFits ts l (cond x (record { found = some e.text; left = b }) (keeping e (take_entry n k b)))
    go true answer later = record { found_fits = found answer; left_fits = book.1 }
    go false answer later = record { found_fits = later.found_fits; left_fits = (book.0, later.left_fits) }

-- ---- Every lens

-- On an old source or on none, with any book of fitting entries: what is written for a sheet is a source, that sheet is its sheet, and the
-- sheet's entries are its entries.
pub put_get :
    (ts : Trees) (l : Lens) → Numbered ts l → WellTyped l
    → (old : Option Text) → OldFits l old
    → (a : Text) → In (language sheet l) a
    → (b : Book) → All (EntryFits ts) b
    → PutBack ts l a (met l old a) (write l old a b)
unfolding Numbered WellTyped language const_language In write write_match met get entries entry_of stamp or_else
put_get ts (copy r) numbered typed old fits a i b book = record { in_source = i; get_back = refl; meets = refl; book_fits = book }
put_get ts (const r w d) numbered typed none fits a i b book = record { in_source = typed; get_back = sym i; meets = refl; book_fits = book }
put_get ts (const r w d) numbered typed (some t) fits a i b book = record { in_source = fits; get_back = sym i; meets = refl; book_fits = book }
put_get ts (key r) numbered typed old fits a i b book = record { in_source = i; get_back = refl; meets = refl; book_fits = book }
put_get ts (join l m) numbered typed old fits a i b book =
    put_join ts l m typed (put_get ts l numbered.0 typed.1) (put_get ts m numbered.1 typed.2) old fits a i b book
put_get ts (union l m) numbered typed old fits a i b book =
    put_union ts l m typed (put_get ts l numbered.0 typed.1) (put_get ts m numbered.1 typed.2) old fits a i b book
put_get ts (repeat l) numbered typed old fits a i b book = put_repeat ts l typed (put_get ts l numbered typed.1) old fits a i b book
put_get ts (match n l) numbered typed old fits a i b book =
    let taken = take_entry n (key_of l a) b in
    let fit = take_fits ts n l numbered.0 (key_of l a) b book in
    let back = put_get ts l numbered.1 typed.1 taken.found fit.found_fits a i taken.left fit.left_fits in
    record {
      in_source = back.in_source;
      get_back = back.get_back;
      meets = ap (λ (x : Text). record { child = n; key_text = key_of l x } ∷ []) back.get_back;
      book_fits = back.book_fits;
    }
