-- The sheets of chosen parts, each by get of the part alone, one behind the other.
use mathlib.Core.Path.{◌≡◌, refl, sym, ap, ◌∙◌, subst}
use mathlib.Core.Bool.{not}
use mathlib.Core.List.{List, [], ◌∷◌, ◌++◌, map, append_assoc, append-nil}
use Prim.Native.Nat.{ℕ, suc, ◌+◌, ◌-◌, ◌≤◌, ◌<◌, min}
use native.Mathlib.Numerals.{add-one}
use native.Mathlib.Omega.{arith}
use lib.Dec.{ltb}
use lib.ListN.{length, get_or, take, drop, length-append, length-drop, drop_of_length-le}
use lib.Seq.{length-take-le, drop-cons, take_at}
use borrow.Author.Tests.{le-ltb}
use borrow.Rule.Slice.PartMut.{same_len_mid}
use Rattle.semantics.specs.Text.{Text, joined}
use Rattle.semantics.specs.Pattern.{In, matches}
use Rattle.semantics.specs.Lens.{Lens, repeat, match, source, language, parts, get}
use Rattle.semantics.specs.Calls.{gives, output, get_call, put_call, buffer_after}
use Rattle.semantics.specs.Tally.{put_tally}
use Rattle.laws.specs.Basics.{never}
use Rattle.laws.specs.Membership.{in_matches}
use Rattle.laws.specs.Cuts.{parts_is}
use Rattle.laws.specs.Accepted.{accepted}
use Rattle.laws.specs.Shuffle.{selected, PartNumbers}
use Rattle.laws.specs.Demand3.{OneRepeatedEntry, passing, source_parts}
use Rattle.std.specs.Prelude.{Ok, Err}
use Rattle.std.specs.Result.{result_unwrap_or}
use Rattle.table.specs.declared.Refusal.{Refusal}
use Rattle.answers.specs.Outcomes.{Answer, answer_for, GivesText, GivesSource}
use Rattle.engine.specs.Demand3.{reordered_call}
use Rattle.demands.specs.declared.Chosen.{Chosen}
use Rattle.demands.specs.Demands.{blank, PutMade, SetsInOrder}
use Rattle.chosen.specs.Parting.{Parted, EndsPart, StartsPart, SheetOfPart, SheetOfParts}
use Rattle.demands.proofs.Following.{blank_length, gives_held}
use Rattle.chosen.proofs.Parting.{repeated, one_part, part_at, part_text, asked}

-- ---- One part

-- get of a part alone is the entry's get of it
part_sheet :
    {bytes t : Text} {n : ℕ} {l : Lens} {ps : List Text}
    → Parted bytes t n l ps
    → (p : Text)
    → In (language source l) p
    → get (repeat (match n l)) p ≡ get l p
unfolding get language joined
part_sheet {bytes} {t} {n} {l} parted p i =
    let cut : parts (language source l) p ≡ p ∷ [] =
    ap (parts (language source l)) (sym (append-nil p)) ∙ parts_is (language source l) (repeated parted) (p ∷ []) (i, tt) in
    rw cut (append-nil (get l p))

module _ {bytes t before after : Text} {number start end : ℕ} {answer : Answer} where
  -- what get gives for the part with that number
  part_given :
      StartsPart bytes t number start
      → EndsPart bytes t start end
      → GivesText (get_call bytes (take (end - start) (drop start t)) (length before)) before after answer
      → (n : ℕ) (l : Lens) (ps : List Text)
      → Parted bytes t n l ps
      → 1 ≤ number
      → number ≤ length ps
      → length (get l (get_or ps (number - 1) [])) ≤ length before
      → length before ≤ 4096
      → GivesText (gives (get l (get_or ps (number - 1) []))) before after answer
  unfolding language output
  part_given begins stops given n l ps parted low high room short =
      let k = number - 1 in
      let p = get_or ps k [] in
      let r = language source l in
      let root = repeat (match n l) in
      let inside : k < length ps = omega arith in
      let at = begins.starts n l ps parted low high in
      let is = part_at parted inside at in
      let ended = stops.ends n l ps k parted inside at in
      let text : take (end - start) (drop start t) ≡ p = ap (λ e. take (e - start) (drop start t)) ended ∙ part_text parted inside at in
      let sheet = part_sheet parted p is.part_in in
      let belongs = in_matches (language source root) p (one_part r (repeated parted) p is.part_in) in
      let small : length p ≤ 4096 = omega (arith, is.end_is, is.end_within, parted.short) in
      let called : get_call bytes p (length before) ≡ gives (get l p) =
      asked bytes p (length before) root parted.is_program small
      ∙ passing (not (matches (language source root) p)) 13 (output (length before) (get root p)) (ap not belongs)
      ∙ ap (output (length before)) sheet
      ∙ passing (ltb (min (length before) 4096) (length (get l p))) 16 (gives (get l p)) (le-ltb (min (length before) 4096) (length (get l p)) (omega arith)) in
      subst (λ o. GivesText o before after answer) (ap (λ u. get_call bytes u (length before)) text ∙ called) given

  module _
      (begins : StartsPart bytes t number start)
      (stops : EndsPart bytes t start end)
      (given : GivesText (get_call bytes (take (end - start) (drop start t)) (length before)) before after answer)
      (kept : length after ≡ length before)
    where
      pub sheet_result : {m : ℕ} → answer ≡ Ok m → SheetOfPart bytes t number before after m
      unfolding answer_for buffer_after
      sheet_result {m} e =
          record {
            within = omega (arith, (gives_held given).within m e, kept);
            sheet_is =
                λ n l ps parted low high room short.
                let gave = part_given begins stops given n l ps parted low high room short in
                let lengths : ◌≡◌ {A = Answer} (Ok m) (Ok (length (get l (get_or ps (number - 1) [])))) = sym e ∙ gave.answer_is in
                (cc, gave.buffer_is);
          }

      pub sheet_refusal : {r : Refusal} → answer ≡ Err r → SheetOfPart bytes t number before after 0
      unfolding answer_for
      sheet_refusal {r} e =
          record {
            within = omega arith;
            sheet_is =
                λ n l ps parted low high room short.
                let gave = part_given begins stops given n l ps parted low high room short in
                let wrong : ◌≡◌ {A = Answer} (Err r) (Ok (length (get l (get_or ps (number - 1) [])))) = sym e ∙ gave.answer_is in
                never (cc);
          }

      -- where get refuses, nothing is written
      pub sheet_given : SheetOfPart bytes t number before after (result_unwrap_or answer 0)
      sheet_given = go answer refl
        where
          go : (a : Answer) → answer ≡ a → SheetOfPart bytes t number before after (result_unwrap_or a 0)
          go (Ok m) e = sheet_result e
          go (Err r) e = sheet_refusal e

-- ---- All chosen parts

-- the sheets of the parts with these numbers
abbrev sheets : Lens → List Text → List ℕ → Text
sheets l ps ns = joined (map (get l) (selected ps ns))

-- What is in front in the buffer, with the sheets still to come, is all.
pub record Gathered (bytes t : Text) (choice : List ℕ) (out : Text) (count i : ℕ) : Type 0 where
  pub within : count ≤ length out
  pub passed : i ≤ length choice
  pub gathered :
      (n : ℕ) (l : Lens) (ps : List Text)
      → Parted bytes t n l ps
      → PartNumbers ps choice
      → length (joined (map (get l) (selected ps choice))) ≤ length out
      → length out ≤ 4096
      → (take count out ++ joined (map (get l) (selected ps (drop i choice))) ≡ joined (map (get l) (selected ps choice))) × PartNumbers ps (drop i choice)

module _ {bytes t : Text} {choice : List ℕ} where
  pub gather_begins : {out : Text} → Gathered bytes t choice out 0 0
  gather_begins = record { within = omega arith; passed = omega arith; gathered = λ n l ps parted numbers room short. (refl, numbers) }

  pub gather_ends : {out : Text} {count i : ℕ} → Gathered bytes t choice out count i → length choice ≤ i → SheetOfParts bytes t choice out count
  unfolding joined selected
  gather_ends {out} {count} {i} so_far h =
      record {
        within = so_far.within;
        sheets_are =
            λ n l ps parted numbers room short.
            let (all, more) = so_far.gathered n l ps parted numbers room short in
            let none : drop i choice ≡ [] = drop_of_length-le choice h in
            let rest : sheets l ps (drop i choice) ≡ [] = ap (sheets l ps) none in
            sym (append-nil (take count out)) ∙ ap (λ u. take count out ++ u) (sym rest) ∙ all;
      }

  -- one more
  pub gather_more :
      {out part : Text} {count i more : ℕ}
      → Gathered bytes t choice out count i
      → i < length choice
      → length part ≡ length (take (length out - count) (drop count out))
      → SheetOfPart bytes t (get_or choice i 0) (take (length out - count) (drop count out)) part more
      → Gathered bytes t choice (take count out ++ (part ++ drop (length out - count) (drop count out))) (count + more) (i + 1)
  unfolding joined selected
  gather_more {out} {part} {count} {i} {more} so_far h kept one =
      let room = length out - count in
      let before = take room (drop count out) in
      let front = take count out in
      let behind = drop room (drop count out) in
      let same : length (front ++ (part ++ behind)) ≡ length out = same_len_mid count room out part kept in
      let held = so_far.within in
      let long : length before ≡ room = length-take-le room (drop count out) (simp length-drop (omega arith)) in
      let front_long : length front ≡ count = length-take-le count out held in
      record {
        within = omega (arith, one.within);
        passed = omega arith;
        gathered =
            λ n l ps parted numbers fits short.
            let (all, numbers-left) = so_far.gathered n l ps parted numbers (omega arith) (omega arith) in
            let c = get_or choice i 0 in
            let left = drop (suc i) choice in
            let cons : drop i choice ≡ c ∷ left = drop-cons choice i 0 h in
            let numbers' : PartNumbers ps (c ∷ left) = subst (PartNumbers ps) cons numbers-left in
            let s = get l (get_or ps (c - 1) []) in
            let rest = sheets l ps left in
            let all' : front ++ (s ++ rest) ≡ sheets l ps choice = ap (λ ns. front ++ sheets l ps ns) (sym cons) ∙ all in
            let lengths = ap length all' in
            let fits' : length s ≤ length before = omega (arith, lengths, length-append front (s ++ rest), length-append s rest) in
            let (count_is, part_is) = one.sheet_is n l ps parted numbers'.0.0 numbers'.0.1 fits' (omega arith) in
            let parts_are : front ++ (part ++ behind) ≡ (front ++ s) ++ (drop (length s) before ++ behind) =
            ap (λ u. front ++ (u ++ behind)) part_is ∙ simp append_assoc in
            let taken : take (count + more) (front ++ (part ++ behind)) ≡ front ++ s =
            ap (take (count + more)) parts_are
            ∙ take_at (front ++ s) (drop (length s) before ++ behind) (count + more) (omega (arith, length-append front s)) in (
              ap (λ u. u ++ sheets l ps (drop (i + 1) choice)) taken
                  ∙ ap (λ j. (front ++ s) ++ sheets l ps (drop j choice)) (add-one i)
                  ∙ append_assoc front s rest
                  ∙ all',
              rw add-one numbers'.1,
            );
      }

-- ---- The put

-- a source of one repeated entry is its parts
entry_parted : {bytes t : Text} {n : ℕ} {l : Lens} → OneRepeatedEntry bytes t n l → Parted bytes t n l (parts (language source l) t)
unfolding language
entry_parted {bytes} {t} {n} {l} one =
    let cut = source_parts (match n l) (accepted bytes (repeat (match n l)) one.is_program).0 t one.in_source in
    record { is_program = one.is_program; short = one.short_source; all_in = cut.0; is_joined = cut.1 }

pub put_made :
    {bytes t : Text} {start : Text} {r : Chosen}
    → start ≡ blank
    → GivesSource
    (put_call bytes (take r.length r.sheet) t (length start))
    (put_tally bytes (take r.length r.sheet) t)
    start
    r.given
    r.answer
    → PutMade bytes t r
put_made {bytes} {t} {start} {r} is-blank given =
    let long : length start ≡ 4096 = ap length is-blank ∙ blank_length in
    let sheet = take r.length r.sheet in
    let given'' = subst (λ m. GivesSource (put_call bytes sheet t m) (put_tally bytes sheet t) start r.given r.answer) long given in
    record { put_made = subst (λ b. GivesSource (put_call bytes sheet t 4096) (put_tally bytes sheet t) b r.given r.answer) is-blank given'' }

pub sets_chosen :
    {bytes t : Text} {choice : List ℕ} {r : Chosen}
    → length r.sheet ≡ 4096
    → SheetOfParts bytes t choice r.sheet r.length
    → PutMade bytes t r
    → SetsInOrder bytes t choice r
sets_chosen {bytes} {t} {choice} {r} long sheet_is made =
    record {
      sets_in_order =
          λ n l one numbers different fits.
          let ps = parts (language source l) t in
          let all = sheet_is.sheets_are n l ps (entry_parted one) numbers (omega arith) (omega arith) in
          let blank-long = blank_length in
          let put_it : GivesSource (put_call bytes (sheets l ps choice) t (length blank)) (put_tally bytes (sheets l ps choice) t) blank r.given r.answer =
          rw (blank-long, ← all) made.put_made in
          (all, reordered_call bytes t n l one choice numbers different fits blank r.given r.answer blank-long put_it);
    }
