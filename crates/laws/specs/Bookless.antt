-- What a lens writes where no entry of the book answers: the same as with an empty book, and the book stays as it is.
use Rattle.std.specs.Prelude.{◌≡◌, refl, Bool, true, false, ◌&&◌, ◌||◌, List, [], ◌∷◌, ◌++◌, map, ℕ, eqb, take, drop}
use Rattle.std.proofs.Common.{sym, ap, ap₂, ◌∙◌, true≢false}
use Rattle.std.proofs.Math.Option.{Option, none, some}
use Rattle.semantics.specs.Text.{Text, All, joined, or_else, apply}
use Rattle.semantics.specs.Pattern.{matches}
use Rattle.semantics.specs.Lens.{Lens, copy, const, key, join, union, repeat, match, source, sheet, language, cut_at, parts, Entry, Book, Written, key_of, Arm, put_left, put_right, create_left, create_right, answers, keeping, take_entry, arm_of, write_arm, write_parts, write_match, write, create}
use Rattle.semantics.specs.Table.{holds_match}
use Rattle.laws.specs.Basics.{all_at, all_of, cond_false, or_neither}
use Rattle.laws.specs.GetPut.{then_written}

-- whether a match of the lens has child n, and so looks an entry of that child up
unfoldable pub asks : Lens → ℕ → Bool
asks (copy r) n = false
asks (const r w d) n = false
asks (key r) n = false
asks (join l m) n = asks l n || asks m n
asks (union l m) n = asks l n || asks m n
asks (repeat l) n = asks l n
asks (match k l) n = eqb n k || asks l n

-- No entry of the book is one that the lens looks up.
pub record Unasked (l : Lens) (b : Book) : Type 0 where
  pub each : All (λ (e : Entry). asks l e.child ≡ false) b

-- what a lens writes with an empty book
unfoldable pub plain : Lens → Option Text → Text → Text
plain l old a = (write l old a []).text

-- the parts of a repeat, one by one, onto old texts as long as there are any
unfoldable pub plain_parts : (Option Text → Text → Text) → List Text → List Text → Text
plain_parts w olds [] = []
plain_parts w [] (a ∷ as') = w none a ++ plain_parts w [] as'
plain_parts w (t ∷ ts) (a ∷ as') = w (some t) a ++ plain_parts w ts as'

-- ---- Books that are not asked

-- an empty book is not asked
unasked_empty : (l : Lens) → Unasked l []
unasked_empty l = record { each = tt }

-- a book that a lens does not ask is not asked by one that asks for no more
unasked_below : (l m : Lens) → ((n : ℕ) → asks m n ≡ false → asks l n ≡ false) → (b : Book) → Unasked m b → Unasked l b
unasked_below l m less b u =
    record {
      each =
          all_of
          (λ (e : Entry). asks l e.child ≡ false)
          b
          (λ e at-e. less e.child (all_at (λ (f : Entry). asks m f.child ≡ false) e b u.each at-e));
    }

-- so with the halves of a join, and the arms of a union
unasked_both : (k l m : Lens) → ((n : ℕ) → asks k n ≡ asks l n || asks m n) → (b : Book) → Unasked k b → Unasked l b × Unasked m b
unasked_both k l m either b u = (
  unasked_below l k (λ n e. (or_neither (asks l n) (asks m n) (sym (either n) ∙ e)).0) b u,
  unasked_below m k (λ n e. (or_neither (asks l n) (asks m n) (sym (either n) ∙ e)).1) b u,
)

-- an entry of another child does not answer
other_child : (a b : Bool) → a ≡ false → a && b ≡ false
other_child true b e = absurd (true≢false e)
other_child false b e = refl

-- a lookup finds nothing where no entry is of that child
takes_none :
    (n : ℕ) (k : Text) (b : Book) → All (λ (e : Entry). eqb e.child n ≡ false) b → take_entry n k b ≡ record { found = none; left = b }
unfolding take_entry answers keeping
takes_none n k [] others = refl
takes_none n k (e ∷ b) others =
    cond_false
    (answers n k e)
    (record { found = some e.text; left = b })
    (keeping e (take_entry n k b))
    (other_child (eqb e.child n) _ others.0)
    ∙ ap (keeping e) (takes_none n k b others.1)

-- ---- What each kind of lens writes with such a book

-- what the law says of a lens
abbrev WritesPlain : Lens → Type 0
WritesPlain l = (old : Option Text) (a : Text) (b : Book) → Unasked l b → write l old a b ≡ record { text = plain l old a; book = b }

-- A text that is written with every book that is not asked is the one that is written with the empty book.
plain_is :
    (l : Lens) (old : Option Text) (a t : Text)
    → ((b : Book) → Unasked l b → write l old a b ≡ record { text = t; book = b })
    → plain l old a ≡ t
unfolding plain
plain_is l old a t law = ap (λ (w : Written). w.text) (law [] (unasked_empty l))

writes_plain :
    (l : Lens) (old : Option Text) (a t : Text)
    → ((b : Book) → Unasked l b → write l old a b ≡ record { text = t; book = b })
    → (b : Book) → Unasked l b → write l old a b ≡ record { text = plain l old a; book = b }
writes_plain l old a t law b u = law b u ∙ ap (λ (x : Text). record { text = x; book = b }) (sym (plain_is l old a t law))

-- a join: half behind half
join_writes :
    (l m : Lens) → WritesPlain l → WritesPlain m
    → (old : Option Text) (a : Text) (b : Book) → Unasked (join l m) b
    → let i = cut_at (language sheet l) (language sheet m) a in
    let j = or_else 0 (apply (cut_at (language source l) (language source m)) old) in
    write (join l m) old a b ≡ record { text = plain l (apply (take j) old) (take i a) ++ plain m (apply (drop j) old) (drop i a); book = b }
unfolding write asks
join_writes l m left right old a b u =
    let halves = unasked_both (join l m) l m (λ n. refl) b u in
    let i = cut_at (language sheet l) (language sheet m) a in
    let j = or_else 0 (apply (cut_at (language source l) (language source m)) old) in
    then_written
    (write l (apply (take j) old) (take i a) b)
    (write m (apply (drop j) old) (drop i a))
    (plain l (apply (take j) old) (take i a))
    (plain m (apply (drop j) old) (drop i a))
    b
    b
    (left (apply (take j) old) (take i a) b halves.0)
    (right (apply (drop j) old) (drop i a) b halves.1)

-- a union: whichever arm it takes
arm_writes :
    (l m : Lens) → WritesPlain l → WritesPlain m
    → (arm : Arm) (old : Option Text) (a : Text) (b : Book) → Unasked l b → Unasked m b
    → write_arm (write l) (write m) arm old a b ≡ record { text = (write_arm (write l) (write m) arm old a []).text; book = b }
unfolding write_arm plain
arm_writes l m left right put_left old a b u v = left old a b u
arm_writes l m left right put_right old a b u v = right old a b v
arm_writes l m left right create_left old a b u v = left none a b u
arm_writes l m left right create_right old a b u v = right none a b v

-- a repeat: part behind part
parts_write :
    (l : Lens) → WritesPlain l
    → (olds sheets : List Text) (b : Book) → Unasked l b
    → write_parts (write l) olds sheets b ≡ record { text = plain_parts (plain l) olds sheets; book = b }
unfolding write_parts plain_parts
parts_write l law olds [] b u = refl
parts_write l law [] (a ∷ sheets) b u =
    then_written
    (write l none a b)
    (write_parts (write l) [] sheets)
    (plain l none a)
    (plain_parts (plain l) [] sheets)
    b
    b
    (law none a b u)
    (parts_write l law [] sheets b u)
parts_write l law (t ∷ olds) (a ∷ sheets) b u =
    then_written
    (write l (some t) a b)
    (write_parts (write l) olds sheets)
    (plain l (some t) a)
    (plain_parts (plain l) olds sheets)
    b
    b
    (law (some t) a b u)
    (parts_write l law olds sheets b u)

repeat_writes :
    (l : Lens) → WritesPlain l
    → (old : Option Text) (a : Text) (b : Book) → Unasked (repeat l) b
    → write (repeat l) old a b
    ≡ record { text = plain_parts (plain l) (or_else [] (apply (parts (language source l)) old)) (parts (language sheet l) a); book = b }
unfolding write asks
repeat_writes l law old a b u =
    parts_write l law (or_else [] (apply (parts (language source l)) old)) (parts (language sheet l) a) b (unasked_below l (repeat l) (λ n e. e) b u)

-- a match: its child creates, since no entry is found
match_writes :
    (n : ℕ) (l : Lens) → WritesPlain l
    → (old : Option Text) (a : Text) (b : Book) → Unasked (match n l) b
    → write (match n l) old a b ≡ record { text = plain l none a; book = b }
unfolding write write_match asks
match_writes n l law old a b u =
    let others =
    all_of
    (λ (e : Entry). eqb e.child n ≡ false)
    b
    (λ e at-e. (or_neither (eqb e.child n) (asks l e.child) (all_at (λ (f : Entry). asks (match n l) f.child ≡ false) e b u.each at-e)).0)
    in
    ap (write_match (write l) a) (takes_none n (key_of l a) b others) ∙ law none a b (unasked_below l (match n l) (λ k e. (or_neither (eqb k n) (asks l k) e).1) b u)

-- It writes that with a book that it does not ask, and leaves the book as it is.
pub unasked_writes : (l : Lens) (old : Option Text) (a : Text) (b : Book) → Unasked l b → write l old a b ≡ record { text = plain l old a; book = b }
unfolding write plain asks
unasked_writes (copy r) old a b u = refl
unasked_writes (const r w d) old a b u = refl
unasked_writes (key r) old a b u = refl
unasked_writes (join l m) old a b u = writes_plain (join l m) old a _ (join_writes l m (unasked_writes l) (unasked_writes m) old a) b u
unasked_writes (union l m) old a b u =
    let arms = unasked_both (union l m) l m (λ n. refl) b u in
    arm_writes
    l
    m
    (unasked_writes l)
    (unasked_writes m)
    (arm_of (apply (matches (language source l)) old) (matches (language sheet l) a) (matches (language sheet m) a))
    old
    a
    b
    arms.0
    arms.1
unasked_writes (repeat l) old a b u = writes_plain (repeat l) old a _ (repeat_writes l (unasked_writes l) old a) b u
unasked_writes (match n l) old a b u = writes_plain (match n l) old a _ (match_writes n l (unasked_writes l) old a) b u

-- a lens that holds no match looks nothing up
pub asks_nothing : (l : Lens) → holds_match l ≡ false → (n : ℕ) → asks l n ≡ false
unfolding asks holds_match
asks_nothing (copy r) e n = refl
asks_nothing (const r w d) e n = refl
asks_nothing (key r) e n = refl
asks_nothing (join l m) e n =
    let (p, q) = or_neither (holds_match l) (holds_match m) e in
    ap₂ ◌||◌ (asks_nothing l p n) (asks_nothing m q n)
asks_nothing (union l m) e n =
    let (p, q) = or_neither (holds_match l) (holds_match m) e in
    ap₂ ◌||◌ (asks_nothing l p n) (asks_nothing m q n)
asks_nothing (repeat l) e n = asks_nothing l e n
asks_nothing (match k l) e n = absurd (true≢false e)

-- ---- What each kind of lens writes with an empty book

pub plain_join :
    (l m : Lens) (old : Option Text) (a : Text)
    → let i = cut_at (language sheet l) (language sheet m) a in
    let j = or_else 0 (apply (cut_at (language source l) (language source m)) old) in
    plain (join l m) old a ≡ plain l (apply (take j) old) (take i a) ++ plain m (apply (drop j) old) (drop i a)
plain_join l m old a = plain_is (join l m) old a _ (join_writes l m (unasked_writes l) (unasked_writes m) old a)

pub plain_repeat :
    (l : Lens) (old : Option Text) (a : Text)
    → plain (repeat l) old a ≡ plain_parts (plain l) (or_else [] (apply (parts (language source l)) old)) (parts (language sheet l) a)
plain_repeat l old a = plain_is (repeat l) old a _ (repeat_writes l (unasked_writes l) old a)

pub plain_match : (n : ℕ) (l : Lens) (old : Option Text) (a : Text) → plain (match n l) old a ≡ plain l none a
plain_match n l old a = plain_is (match n l) old a _ (match_writes n l (unasked_writes l) old a)

-- ---- Create, which begins with an empty book

pub create_join :
    (l m : Lens) (a : Text)
    → let i = cut_at (language sheet l) (language sheet m) a in
    create (join l m) a ≡ create l (take i a) ++ create m (drop i a)
unfolding create plain apply
create_join l m a = plain_join l m none a

pub create_left_lem : (l m : Lens) (a : Text) → matches (language sheet l) a ≡ true → create (union l m) a ≡ create l a
unfolding create write apply arm_of write_arm
create_left_lem l m a e = ap (λ x. (write_arm (write l) (write m) (arm_of none x (matches (language sheet m) a)) none a []).text) e

pub create_right_lem : (l m : Lens) (a : Text) → matches (language sheet l) a ≡ false → create (union l m) a ≡ create m a
unfolding create write apply arm_of write_arm
create_right_lem l m a e = ap (λ x. (write_arm (write l) (write m) (arm_of none x (matches (language sheet m) a)) none a []).text) e

-- without old texts, each part is created
parts_created : (l : Lens) (sheets : List Text) → plain_parts (plain l) [] sheets ≡ joined (map (create l) sheets)
unfolding plain_parts plain create joined
parts_created l [] = refl
parts_created l (a ∷ sheets) = ap (λ t. create l a ++ t) (parts_created l sheets)

pub create_repeat : (l : Lens) (a : Text) → create (repeat l) a ≡ joined (map (create l) (parts (language sheet l) a))
unfolding create plain apply or_else
create_repeat l a = plain_repeat l none a ∙ parts_created l (parts (language sheet l) a)

pub create_match : (n : ℕ) (l : Lens) (a : Text) → create (match n l) a ≡ create l a
unfolding create plain
create_match n l a = plain_match n l none a
