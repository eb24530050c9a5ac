-- Demand 3, about the definitions of the calls, with buffers of 4,096 bytes: document 01, 'The terms of demand 3'. What a call gives is
-- the text of the answered length; the second call of a pair gets the same table and the text that the first one gave.
use Rattle.std.specs.Prelude.{◌≡◌, refl, Bool, true, false, not, ◌||◌, List, [], ◌∷◌, map, ℕ, suc, ◌≤◌, min, ltb, length}
use Rattle.std.proofs.Common.{sym, ap, ◌∙◌, subst, true≢false, arith, le_trans, ltb-false, le-ltb}
use Rattle.std.proofs.Math.Option.{Option, none, some}
use Rattle.std.proofs.lemmas.Bool.{not-false}
use Rattle.semantics.specs.Text.{Text, joined, All, Different, trimmed}
use Rattle.semantics.specs.Pattern.{In, matches}
use Rattle.semantics.specs.Lens.{Lens, Book, repeat, match, Side, source, sheet, language, parts, get, key_of, entries, write, put, create}
use Rattle.semantics.specs.Table.{trees}
use Rattle.semantics.specs.Calls.{Answer, gives, refuses, refuse_if, program, with_program, too_long, not_of, output, get_call, put_call, create_call}
use Rattle.laws.specs.Basics.{never, or_neither}
use Rattle.laws.specs.Membership.{matches_in_lem, in_matches}
use Rattle.laws.specs.Cuts.{parts_is}
use Rattle.laws.specs.WellTyped.{WellTyped, OldFits, EntryFits}
use Rattle.laws.specs.GetPut.{get_in}
use Rattle.laws.specs.PutGet.{entries_fit, put_get}
use Rattle.laws.specs.Shuffle.{selected, PartNumbers, SameKeys, put_each, selected_length, selected_in, put_restores, finds_by_key, shuffle}
use Rattle.laws.specs.Accepted.{accepted}

-- ---- A call that gives a result has passed every place

pub passed_test : {A : Type 0} (b : Bool) (number : ℕ) (rest : Answer A) (x : A) → refuse_if b number rest ≡ gives x → (b ≡ false) × (rest ≡ gives x)
unfolding refuse_if
passed_test true number rest x e = never (cc)
passed_test false number rest x e = (refl, e)

pub passing : {A : Type 0} (b : Bool) (number : ℕ) (rest : Answer A) → b ≡ false → refuse_if b number rest ≡ rest
unfolding refuse_if
passing true number rest e = absurd (true≢false e)
passing false number rest e = refl

pub passed_program :
    {A : Type 0} (p : Answer Lens) (call : Lens → Answer A) (x : A) → with_program p call ≡ gives x → (l : Lens) × (p ≡ gives l) × (call l ≡ gives x)
unfolding with_program
passed_program (gives l) call x e = (l, refl, e)
passed_program (refuses number node) call x e = never (cc)

pub with_program_lem : {A : Type 0} (p : Answer Lens) (call : Lens → Answer A) (l : Lens) → p ≡ gives l → with_program p call ≡ call l
unfolding with_program
with_program_lem p call l e = rw e refl

-- a text that is short enough, and one that belongs
pub short : (t : Text) → length t ≤ 4096 → too_long t ≡ false
unfolding too_long
short t h = le-ltb 4096 (length t) h

pub is_short : (t : Text) → too_long t ≡ false → length t ≤ 4096
unfolding too_long
is_short t e = ltb-false 4096 (length t) e

pub of_side : (side : Side) (l : Lens) (t : Text) → In (language side l) t → not_of side l t ≡ false
unfolding not_of
of_side side l t i = ap not (in_matches (language side l) t i)

pub is_of_side : (side : Side) (l : Lens) (t : Text) → not_of side l t ≡ false → In (language side l) t
unfolding not_of
is_of_side side l t e = matches_in_lem (language side l) t (not-false (matches (language side l) t) e)

pub outputs : (t : Text) → length t ≤ 4096 → output 4096 t ≡ gives t
unfolding output
outputs t h = passing (ltb 4096 (length t)) 16 (gives t) (le-ltb 4096 (length t) h)

pub output_is : (lent : ℕ) (t u : Text) → output lent t ≡ gives u → (length t ≤ 4096) × (t ≡ u)
unfolding output
output_is lent t u e =
    let h = passed_test (ltb (min lent 4096) (length t)) 16 (gives t) u e in
    let k = ltb-false (min lent 4096) (length t) h.0 in
    let same : gives t ≡ gives u = h.1 in
    (omega arith, cc)

-- ---- What a result of each call says, and when it is given

pub record GetGave (bytes t a : Text) : Type 0 where
  pub lens : Lens
  pub is_program : program bytes ≡ gives lens
  pub short_source : length t ≤ 4096
  pub in_source : In (language source lens) t
  pub is_sheet : get lens t ≡ a
  pub short_sheet : length a ≤ 4096

pub get_gave : (bytes t a : Text) (lent : ℕ) → get_call bytes t lent ≡ gives a → GetGave bytes t a
unfolding get_call
get_gave bytes t a lent e =
    let p =
    passed_program (program bytes) (λ l. refuse_if (too_long t) 12 (refuse_if (not_of source l t) 13 (output lent (get l t)))) a e in
    let l = p.0 in
    let h = passed_test (too_long t) 12 (refuse_if (not_of source l t) 13 (output lent (get l t))) a p.2 in
    let k = passed_test (not_of source l t) 13 (output lent (get l t)) a h.1 in
    let o = output_is lent (get l t) a k.1 in
    record {
      lens = l;
      is_program = p.1;
      short_source = is_short t h.0;
      in_source = is_of_side source l t k.0;
      is_sheet = o.1;
      short_sheet = subst (λ x. length x ≤ 4096) o.1 o.0;
    }

pub get_gives :
    (bytes t : Text) (l : Lens)
    → program bytes ≡ gives l
    → length t ≤ 4096
    → In (language source l) t
    → length (get l t) ≤ 4096
    → get_call bytes t 4096 ≡ gives (get l t)
unfolding get_call
get_gives bytes t l p h i k =
    with_program_lem (program bytes) (λ m. refuse_if (too_long t) 12 (refuse_if (not_of source m t) 13 (output 4096 (get m t)))) l p
    ∙ passing (too_long t) 12 (refuse_if (not_of source l t) 13 (output 4096 (get l t))) (short t h)
    ∙ passing (not_of source l t) 13 (output 4096 (get l t)) (of_side source l t i)
    ∙ outputs (get l t) k

-- what put and create both say of the text that they gave
pub record Wrote (bytes a t : Text) : Type 0 where
  pub lens : Lens
  pub is_program : program bytes ≡ gives lens
  pub short_sheet : length a ≤ 4096
  pub short_source : length t ≤ 4096
  pub in_source : In (language source lens) t
  pub get_back : get lens t ≡ a

pub put_gives :
    (bytes a old : Text) (l : Lens)
    → program bytes ≡ gives l
    → length a ≤ 4096
    → length old ≤ 4096
    → In (language source l) old
    → In (language sheet l) a
    → length (entries l old) ≤ 256
    → length (put l a old) ≤ 4096
    → put_call bytes a old 4096 ≡ gives (put l a old)
unfolding put_call
put_gives bytes a old l p ha ho i j n k =
    with_program_lem
    (program bytes)
    (λ m.
    refuse_if
    (too_long a || too_long old)
    12
    (refuse_if (not_of source m old) 13 (refuse_if (not_of sheet m a) 14 (refuse_if (ltb 256 (length (entries m old))) 15 (output 4096 (put m a old))))))
    l
    p
    ∙ passing (too_long a || too_long old) 12 _ (rw (short a ha) (short old ho))
    ∙ passing (not_of source l old) 13 _ (of_side source l old i)
    ∙ passing (not_of sheet l a) 14 _ (of_side sheet l a j)
    ∙ passing (ltb 256 (length (entries l old))) 15 _ (le-ltb 256 (length (entries l old)) n)
    ∙ outputs (put l a old) k

-- an accepted program's writer, with an output that fits
wrote :
    (bytes a : Text) (l : Lens) (old : Option Text) (b : Book) (lent : ℕ) (t : Text)
    → program bytes ≡ gives l
    → length a ≤ 4096
    → In (language sheet l) a
    → OldFits l old
    → All (EntryFits (trees bytes)) b
    → output lent (write l old a b).text ≡ gives t
    → Wrote bytes a t
wrote bytes a l old b lent t p h i fits book e =
    let typed = accepted bytes l p in
    let o = output_is lent (write l old a b).text t e in
    let back = put_get (trees bytes) l typed.1 typed.0 old fits a i b book in
    record {
      lens = l;
      is_program = p;
      short_sheet = h;
      short_source = subst (λ x. length x ≤ 4096) o.1 o.0;
      in_source = subst (In (language source l)) o.1 back.in_source;
      get_back = ap (get l) (sym o.1) ∙ back.get_back;
    }

-- what put says of what it was handed, and which text it gave
pub record PutGave (bytes a old t : Text) (lent : ℕ) : Type 0 where
  pub lens : Lens
  pub is_program : program bytes ≡ gives lens
  pub short_sheet : length a ≤ 4096
  pub in_sheet : In (language sheet lens) a
  pub old_in : In (language source lens) old
  pub book_fits : All (EntryFits (trees bytes)) (entries lens old)
  pub is_output : output lent (put lens a old) ≡ gives t

pub put_gave : (bytes a old t : Text) (lent : ℕ) → put_call bytes a old lent ≡ gives t → PutGave bytes a old t lent
unfolding put_call
put_gave bytes a old t lent e =
    let p = passed_program (program bytes) _ t e in
    let l = p.0 in
    let h = passed_test (too_long a || too_long old) 12 _ t p.2 in
    let i = passed_test (not_of source l old) 13 _ t h.1 in
    let j = passed_test (not_of sheet l a) 14 _ t i.1 in
    let n = passed_test (ltb 256 (length (entries l old))) 15 _ t j.1 in
    let typed = accepted bytes l p.1 in
    let old_in = is_of_side source l old i.0 in
    record {
      lens = l;
      is_program = p.1;
      short_sheet = is_short a (or_neither (too_long a) (too_long old) h.0).0;
      in_sheet = is_of_side sheet l a j.0;
      old_in = old_in;
      book_fits = entries_fit (trees bytes) l typed.1 typed.0 old old_in;
      is_output = n.1;
    }

pub put_wrote : (bytes a old t : Text) (lent : ℕ) → put_call bytes a old lent ≡ gives t → Wrote bytes a t
unfolding put
put_wrote bytes a old t lent e =
    let g = put_gave bytes a old t lent e in
    let l = g.lens in
    wrote bytes a l (some old) (entries l old) lent t g.is_program g.short_sheet g.in_sheet g.old_in g.book_fits g.is_output

pub create_wrote : (bytes a t : Text) (lent : ℕ) → create_call bytes a lent ≡ gives t → Wrote bytes a t
unfolding create_call create
create_wrote bytes a t lent e =
    let p = passed_program (program bytes) _ t e in
    let l = p.0 in
    let h = passed_test (too_long a) 12 _ t p.2 in
    let j = passed_test (not_of sheet l a) 14 _ t h.1 in
    wrote bytes a l none [] lent t p.1 (is_short a h.0) (is_of_side sheet l a j.0) tt tt j.1

-- ---- The parts of a repeat

-- a source of a repeat is its parts, joined
pub source_parts :
    (l : Lens) → WellTyped (repeat l) → (t : Text) → In (language source (repeat l)) t
    → All (In (language source l)) (parts (language source l) t) × (joined (parts (language source l) t) ≡ t)
unfolding WellTyped In language
source_parts l typed t (ps, e, all) =
    let same : parts (language source l) t ≡ ps = ap (parts (language source l)) e ∙ parts_is (language source l) (typed.0 source) ps all in
    (subst (All (In (language source l))) (sym same) all, ap joined same ∙ sym e)

-- the sheets of parts, joined, are a sheet of the repeat
sheet_in :
    (l : Lens) → WellTyped (repeat l) → (ps : List Text) → All (In (language source l)) ps
    → In (language sheet (repeat l)) (joined (map (get l) ps))
unfolding WellTyped In language
sheet_in l typed ps all = (map (get l) ps, refl, go ps all)
  where
    go : (qs : List Text) → All (In (language source l)) qs → All (In (language sheet l)) (map (get l) qs)
    go [] h = tt
    go (q ∷ qs) h = (get_in l typed.1 q h.0, go qs h.1)

-- a repeat of a match has an entry for each part
entry_count :
    (n : ℕ) (l : Lens) (t : Text)
    → length (entries (repeat (match n l)) t) ≡ length (parts (language source l) t)
unfolding entries language joined
entry_count n l t = go (parts (language source l) t)
  where
    go : (ps : List Text) → length (joined (map (entries (match n l)) ps)) ≡ length ps
    go [] = refl
    go (p ∷ ps) = ap suc (go ps)

-- ---- Demand 3

-- 'wherever get gave a sheet for a source of at most 256 entries, putting that sheet back on it unedited gives exactly that source'. Nothing is
-- asked of the keys: also where they differ only by trailing spaces, 'putting back an unedited sheet must still change nothing' (document 02, iv).
pub unedited :
    (bytes t a : Text) (l : Lens)
    → get_call bytes t 4096 ≡ gives a
    → program bytes ≡ gives l
    → length (entries l t) ≤ 256
    → put_call bytes a t 4096 ≡ gives t
unedited bytes t a l e p n =
    let gave = get_gave bytes t a 4096 e in
    let m = gave.lens in
    let q = gave.is_program in
    let same : m ≡ l = cc in
    let typed = (accepted bytes m q).0 in
    let restored = put_restores m typed t gave.in_source in
    let put_back : put m a t ≡ t = ap (λ x. put m x t) (sym gave.is_sheet) ∙ restored in
    put_gives
    bytes
    a
    t
    m
    q
    gave.short_sheet
    gave.short_source
    gave.in_source
    (subst (In (language sheet m)) gave.is_sheet (get_in m typed t gave.in_source))
    (subst (λ x. length (entries x t) ≤ 256) (sym same) n)
    (subst (λ x. length x ≤ 4096) (sym put_back) gave.short_source)
    ∙ ap gives put_back

-- 'wherever put (on whatever old source) .. gave a source for a sheet, get takes exactly that sheet from the new source'
pub wrote_then_get : (bytes a t : Text) → Wrote bytes a t → get_call bytes t 4096 ≡ gives a
wrote_then_get bytes a t w =
    get_gives bytes t w.lens w.is_program w.short_source w.in_source (subst (λ x. length x ≤ 4096) (sym w.get_back) w.short_sheet)
    ∙ ap gives w.get_back

pub put_then_get : (bytes a old t : Text) → put_call bytes a old 4096 ≡ gives t → get_call bytes t 4096 ≡ gives a
put_then_get bytes a old t e = wrote_then_get bytes a t (put_wrote bytes a old t 4096 e)

-- '.. or create'
pub create_then_get : (bytes a t : Text) → create_call bytes a 4096 ≡ gives t → get_call bytes t 4096 ≡ gives a
create_then_get bytes a t e = wrote_then_get bytes a t (create_wrote bytes a t 4096 e)

-- 'where the program is one repeated entry and a source of at most 256 entries and 4,096 bytes has keys that all differ, whichever of its
-- sheet entries are put back on it, none twice, 4,096 bytes at most, and in whatever order, put gives exactly those old entries set in
-- that order.' A program is one repeated entry if its root is a lens repeat whose child is a match; the entries are then the parts of the
-- source at the root, counted from 1, and the claim is about a list of different part numbers. Document 02 (iv): 'A source whose keys differ
-- only by such spaces no longer counts as having different keys when its entries are shuffled', so keys differ once trailing spaces are cut.
pub record OneRepeatedEntry (bytes t : Text) (n : ℕ) (l : Lens) : Type 0 where
  pub is_program : program bytes ≡ gives (repeat (match n l))
  pub in_source : In (language source (repeat (match n l))) t
  pub short_source : length t ≤ 4096
  pub few_entries : length (parts (language source l) t) ≤ 256
  pub keys_differ : Different (map (λ p. trimmed (key_of l (get l p))) (parts (language source l) t))

-- What put makes of a sheet for such a source is given, if sheet and result are short enough.
put_on_entries :
    (bytes t : Text) (n : ℕ) (l : Lens)
    → OneRepeatedEntry bytes t n l
    → (new made : Text)
    → In (language sheet (repeat (match n l))) new
    → length new ≤ 4096
    → put (repeat (match n l)) new t ≡ made
    → length made ≤ 4096
    → put_call bytes new t 4096 ≡ gives made
put_on_entries bytes t n l one new made in_sheet short put_is fits =
    put_gives
    bytes
    new
    t
    (repeat (match n l))
    one.is_program
    short
    one.short_source
    one.in_source
    in_sheet
    (subst (λ m. m ≤ 256) (sym (entry_count n l t)) one.few_entries)
    (subst (λ x. length x ≤ 4096) (sym put_is) fits)
    ∙ ap gives put_is

pub reordered :
    (bytes t : Text) (n : ℕ) (l : Lens)
    → OneRepeatedEntry bytes t n l
    → (ns : List ℕ)
    → PartNumbers (parts (language source l) t) ns
    → Different ns
    → let chosen = selected (parts (language source l) t) ns in
    let new = joined (map (get l) chosen) in
    length new ≤ 4096 → put_call bytes new t 4096 ≡ gives (joined chosen)
unfolding language get
reordered bytes t n l one ns numbers different k =
    let ps = parts (language source l) t in
    let chosen = selected ps ns in
    let typed : WellTyped (repeat (match n l)) = (accepted bytes (repeat (match n l)) one.is_program).0 in
    let cut = source_parts (match n l) typed t one.in_source in
    let shorter : length (joined chosen) ≤ length (joined ps) = selected_length ps ns numbers different in
    put_on_entries
    bytes
    t
    n
    l
    one
    (joined (map (get l) chosen))
    (joined chosen)
    (sheet_in (match n l) typed chosen (selected_in (In (language source l)) ps ns numbers cut.0))
    k
    (shuffle n l typed t one.in_source one.keys_differ ns numbers different)
    (le_trans shorter (subst (λ x. length x ≤ 4096) (sym cut.1) one.short_source))

-- Document 02 (iv): 'Setters pad glyph names to a column, and the pair then loses its remark.' It keeps it: for such a source, sheet entries that have, but for trailing spaces, the keys of
-- different old entries are each put onto the old entry with that key, wherever they stand. (The old entries are given by their part numbers, in the order of the sheet.)
pub found_by_key :
    (bytes t : Text) (n : ℕ) (l : Lens)
    → OneRepeatedEntry bytes t n l
    → (ns : List ℕ)
    → PartNumbers (parts (language source l) t) ns
    → Different ns
    → (new : List Text)
    → All (In (language sheet l)) new
    → let chosen = selected (parts (language source l) t) ns in
    SameKeys l chosen new
    → length (joined new) ≤ 4096
    → length (put_each l chosen new) ≤ 4096
    → put_call bytes (joined new) t 4096 ≡ gives (put_each l chosen new)
unfolding language In
found_by_key bytes t n l one ns numbers different new sheets same short fits =
    let typed : WellTyped (repeat (match n l)) = (accepted bytes (repeat (match n l)) one.is_program).0 in
    put_on_entries
    bytes
    t
    n
    l
    one
    (joined new)
    (put_each l (selected (parts (language source l) t) ns) new)
    (new, refl, sheets)
    short
    (finds_by_key n l typed t one.keys_differ ns numbers different new sheets same)
    fits
