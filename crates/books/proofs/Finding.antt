-- From the cards that are compared to what a lookup in the book finds. Assumes nothing.
use mathlib.Core.Path.{◌≡◌, refl, sym, ap, ◌∙◌}
use mathlib.Core.Bool.{Bool, true, false, not, ◌&&◌}
use mathlib.Core.List.{List, [], ◌∷◌}
use Rattle.std.proofs.Common.{nat_eq}
use Rattle.std.specs.Cmp.Lexicographic.{pointwise}
use Rattle.std.proofs.lemmas.Bool.Decides.{nat_tests}
use Prim.Native.Nat.{ℕ, ◌+◌, ◌-◌, ◌≤◌, ◌<◌}
use native.Mathlib.Nat.{le_of_lt}
use native.Mathlib.Omega.{arith}
use lib.Dec.{eqb}
use lib.ListN.{length, take, drop, get_or}
use borrow.Author.Tests.{not-true, eqb-true, eqb-false}
use Rattle.semantics.specs.Text.{Text, same_text}
use Rattle.semantics.specs.Lens.{answers, entry_of, same_key}
use Rattle.semantics.specs.Table.{trees}
use Rattle.laws.specs.Basics.{not_both, and_both, and_of, false_of_not_true}
use Rattle.positions.specs.declared.Set.{Set}
use Rattle.positions.specs.Positions.{Removed}
use Rattle.texts.specs.Cutting.{rest_lent}
use Rattle.books.specs.declared.Book.{Book}
use Rattle.std.specs.Prelude.{Some, None}
use Rattle.books.specs.Old.{EntryIndex}
use Rattle.books.specs.Cards.{card_of, print_byte, begins}
use Rattle.books.specs.Listed.{
  text_at,
  entry_at,
  marked,
  leaving,
  Passed,
  sized_marked,
  fits_marked,
  sized_leaving,
  fits_leaving,
  unused_leaving,
  take_here,
  take_none,
}
use Rattle.books.specs.Looking.{
  BookOver,
  place_at,
  card_place,
  CardsFit,
  HasCard,
  answering,
  NoneAnswers,
  Found,
  NoneWaits,
  old_text,
  LookedUp,
  same_all,
  same_marked,
  same_leaving,
}

-- ---- Whether a text begins with another

eqb_sym : (x y : ℕ) → eqb x y ≡ eqb y x
eqb_sym x y = grind (arith, nat_tests)

-- byte by byte, and as the texts are compared
pairs_same : (start text : Text) → pointwise nat_eq start text ≡ same_text text start
unfolding same_text
pairs_same [] [] = refl
pairs_same [] (y ∷ text) = refl
pairs_same (x ∷ start) [] = refl
pairs_same (x ∷ start) (y ∷ text) = rw (eqb_sym x y) (ap (λ rest. eqb y x && rest) (pairs_same start text))

-- ---- One entry

-- its card stands at its place of the deck
pub card_compared :
    (deck card : Text) (i : ℕ) {at : ℕ} {r : Bool}
    → at ≡ card_place deck i
    → r ≡ pointwise nat_eq card (take (length card) (take (length deck - at) (drop at deck)))
    → HasCard deck i card r
unfolding begins
card_compared deck card i {at} at_is e = record { has = λ h. rw (rest_lent deck at, at_is) at e ∙ pairs_same card (take (length card) (drop (card_place deck i) deck)) }

-- ---- The walk over the entries

-- what holds of each entry before i, and of entry i, holds of each before i + 1
each_more : (P : ℕ → Type 0) (i : ℕ) → ((j : ℕ) → j < i → P j) → P i → (j : ℕ) → j < i + 1 → P j
each_more P i before here j h = go (eqb j i) refl
  where
    go : (last : Bool) → eqb j i ≡ last → P j
    go true e = rw (eqb-true j i e) here
    go false e = before j (let other = eqb-false j i e in omega arith)

module _ {used : List Bool} {children : List ℕ} {child print : ℕ} {card deck : Text} where
  -- none was passed yet
  pub answers_none : NoneAnswers used children child print card deck 0
  answers_none = record { none_answers = λ j h. absurd (omega arith) }

  -- past an entry that has another byte or does not answer
  pub answers_more :
      {i : ℕ}
      → NoneAnswers used children child print card deck i
      → (card_place deck i ≤ length deck → get_or deck (8192 + i) 0 ≡ print → answering used children child card deck i ≡ false)
      → NoneAnswers used children child print card deck (i + 1)
  answers_more {i} passed here =
      record {
        none_answers =
            each_more
            (λ j. card_place deck j ≤ length deck → get_or deck (8192 + j) 0 ≡ print → answering used children child card deck j ≡ false)
            i
            passed.none_answers
            here;
      }

module _ {used : List Bool} {children : List ℕ} {child : ℕ} where
  pub waits_none : NoneWaits used children child 0
  waits_none = record { none_waits = λ j h. absurd (omega arith) }

  -- past an entry that is taken or of another child
  pub waits_more :
      {i : ℕ}
      → NoneWaits used children child i
      → (not (get_or used i false) && eqb (get_or children i 0) child) ≡ false
      → NoneWaits used children child (i + 1)
  waits_more {i} passed here =
      record {
        none_waits =
            each_more
            (λ j. get_or used j false ≡ false → ¬ (get_or children j 0 ≡ child))
            i
            passed.none_waits
            (λ unused. eqb-false (get_or children i 0) child (rw unused at here));
      }

-- ---- What a lookup finds

module _
    {bytes deck : Text}
    {b : Book}
    (key : Text)
    {card : Text}
    (fit : CardsFit bytes deck b)
    (card_is : card ≡ card_of key)
    (small : length key ≤ 4096)
  where
    -- the card of an entry is compared to the same end as its key
    card_same : (i : ℕ) → i < b.count → begins card (drop (card_place deck i) deck) ≡ same_key (entry_at (trees bytes) deck b i).key_text key
    card_same i h = rw card_is ((fit.each i h).tells key small)

    -- an entry with another byte has another key, so what the cards tell is told of all
    key_passed :
        {child print i : ℕ}
        → print ≡ print_byte key
        → NoneAnswers b.used b.children child print card deck i
        → i ≤ b.count
        → Passed (trees bytes) deck b child key i
    unfolding answers entry_at entry_of
    key_passed {child} {print} {i} print_is none h =
        record {
          passed = λ j k unused.
              false_of_not_true
              (answers child key (entry_at (trees bytes) deck b j))
              (λ e.
              let (own_is, key-is) = and_both (eqb (get_or b.children j 0) child) (same_key (entry_at (trees bytes) deck b j).key_text key) e in
              let byte = (fit.each j (omega arith)).prints key small key-is in
              let waits : (not (get_or b.used j false) && eqb (get_or b.children j 0) child) ≡ true = rw unused own_is in
              let begun = card_same j (omega arith) ∙ key-is in
              not_both
              (and_of (not (get_or b.used j false) && eqb (get_or b.children j 0) child) (begins card (drop (card_place deck j) deck)) waits begun)
              (none.none_answers j k (fit.inside j (omega arith)) (byte ∙ sym print_is)));
        }

    module _
        {child print : ℕ}
        {index : EntryIndex}
        (print_is : print ≡ print_byte key)
        (over : BookOver 4096 b)
        (found : Found b.used b.children b.count child print card deck index)
      where
        -- the first unused entry that answers
        pub found_here : {i : ℕ} → index ≡ Some i → LookedUp bytes deck child key b (record { old = Some (place_at b i); book = marked b i })
        unfolding old_text text_at answers entry_at entry_of
        found_here {i} here =
            let h = found.within i here in
            let (waits, begun) =
            and_both
            (not (get_or b.used i false) && eqb (get_or b.children i 0) child)
            (begins card (drop (card_place deck i) deck))
            (found.found i here (fit.inside i h)) in
            let (unused, own_is) = and_both (not (get_or b.used i false)) (eqb (get_or b.children i 0) child) waits in
            let key-is = sym (card_same i h) ∙ begun in
            record {
              looked_up =
                  take_here
                  (trees bytes)
                  deck
                  b
                  child
                  key
                  i
                  over.sized
                  over.fits.few
                  (key_passed print_is (found.passed i here) (le_of_lt h))
                  h
                  (not-true (get_or b.used i false) unused)
                  (and_of (eqb (get_or b.children i 0) child) (same_key (entry_at (trees bytes) deck b i).key_text key) own_is key-is);
              from_book = λ p e. (i, h, eqb-true (get_or b.children i 0) child own_is, cc);
              over = record { sized = sized_marked b i over.sized; fits = fits_marked 4096 b i over.sized over.fits };
              same_entries = same_marked b i;
            }

        -- the walk has passed the whole book
        none_found : index ≡ None → Passed (trees bytes) deck b child key b.count
        none_found none = key_passed print_is (found.none_found none) (omega arith)

        -- there is no such entry
        pub found_nothing : index ≡ None → LookedUp bytes deck child key b (record { old = None; book = b })
        unfolding old_text
        found_nothing all =
            record {
              looked_up = take_none (trees bytes) deck b child key (none_found all);
              from_book = λ p e. absurd (let z : ◌≡◌ {A = ℕ} 0 1 = cc in omega arith);
              over = over;
              same_entries = same_all b;
            }

        -- and none of that child is left
        pub found_no_more :
            (left : Set)
            → index ≡ None
            → NoneWaits b.used b.children child b.count
            → Removed b.left child left
            → LookedUp bytes deck child key b (record { old = None; book = leaving b left })
        unfolding old_text
        found_no_more left all none now-left =
            record {
              looked_up = rw (unused_leaving (trees bytes) deck b left) (take_none (trees bytes) deck b child key (none_found all));
              from_book = λ p e. absurd (let z : ◌≡◌ {A = ℕ} 0 1 = cc in omega arith);
              over = record {
                sized = sized_leaving b left over.sized;
                fits = fits_leaving 4096 b child left over.fits none.none_waits now-left;
              };
              same_entries = same_leaving b left;
            }
