-- The parts of a source of a repeated entry: where each begins and ends, and that asking the calls finds these places.
use mathlib.Core.Path.{◌≡◌, refl, sym, ap, ◌∙◌, subst}
use mathlib.Core.Bool.{Bool, true, false, not, ◌&&◌}
use mathlib.Core.List.{List, [], ◌∷◌, ◌++◌, append_assoc, append-nil, head-eq_of_cons-eq}
use mathlib.Core.Logic.{inl}
use Prim.Native.Nat.{ℕ, zero, suc, ◌+◌, ◌-◌, ◌≤◌, ◌<◌, min}
use native.Mathlib.Omega.{arith}
use lib.Dec.{eqb, ltb}
use lib.ListN.{length, get_or, take, drop, length-append, length-take, length-drop, take-append-drop}
use lib.Seq.{take-append_seam, take_all, length-take-le, drop-append-add, drop-cons, drop-drop}
use Rattle.semantics.specs.Text.{Text, joined, All}
use Rattle.semantics.specs.Pattern.{Pattern, star, In, matches}
use Rattle.semantics.specs.Ambiguity.{BadRepeat}
use Rattle.semantics.specs.Lens.{Lens, repeat, match, source, language, parts, get}
use Rattle.semantics.specs.Calls.{gives, refuse_if, program, too_long, not_of, output, get_call}
use Rattle.laws.specs.Basics.{never, and_both, and_of, not_both, all_append}
use Rattle.laws.specs.Membership.{matches_in_lem, in_matches}
use Rattle.laws.specs.Cuts.{parts_is}
use Rattle.laws.specs.WellTyped.{WellTyped}
use Rattle.laws.specs.Accepted.{accepted}
use Rattle.laws.specs.Demand3.{passing, with_program_lem, short}
use Rattle.std.specs.Prelude.{Ok, Err}
use Rattle.table.specs.declared.Refusal.{Refusal}
use Rattle.answers.specs.Outcomes.{Answer, answer_for, GivesText}
use Rattle.answers.proofs.Parts.{refusal_parts}
use Rattle.chosen.specs.Parting.{Parted, start_of, TellsSource, TellsCut, EndsPart, StartsPart}

-- ---- Lists of parts

joined_append : (ps qs : List Text) → joined (ps ++ qs) ≡ joined ps ++ joined qs
unfolding joined
joined_append [] qs = refl
joined_append (p ∷ ps) qs = ap (λ t. p ++ t) (joined_append ps qs) ∙ sym (append_assoc p (joined ps) (joined qs))

-- what holds of all holds of one, and of those behind it
all_drop : {A : Type 0} (P : A → Type 0) (xs : List A) (k : ℕ) → All P xs → All P (drop k xs)
all_drop P xs zero all = all
all_drop P [] (suc k) all = tt
all_drop P (x ∷ xs) (suc k) all = all_drop P xs k all.1

-- behind the parts before part k stand part k and those behind it
rest_is : (ps : List Text) (k : ℕ) → drop (start_of ps k) (joined ps) ≡ joined (drop k ps)
unfolding start_of joined
rest_is ps zero = refl
rest_is [] (suc k) = refl
rest_is (p ∷ ps) (suc k) = rw length-append (drop-append-add p (joined ps) (start_of ps k) ∙ rest_is ps k)

-- a part ends where the next begins
next_start : (ps : List Text) (k : ℕ) → k < length ps → start_of ps (suc k) ≡ start_of ps k + length (get_or ps k [])
unfolding start_of joined
next_start [] k h = absurd (omega arith)
next_start (p ∷ ps) zero h = simp (append-nil) (omega arith)
next_start (p ∷ ps) (suc k) h =
    let later = next_start ps k (omega arith) in
    omega (arith, length-append p (joined (take (suc k) ps)), length-append p (joined (take k ps)))

start_within : (ps : List Text) (k : ℕ) → start_of ps k ≤ length (joined ps)
unfolding start_of joined
start_within ps zero = omega arith
start_within [] (suc k) = omega arith
start_within (p ∷ ps) (suc k) =
    let later = start_within ps k in
    omega (arith, length-append p (joined (take k ps)), length-append p (joined ps))

-- ---- One list of parts

module _ (r : Pattern) (good : ¬ BadRepeat r) where
  one_list_lem : (ps qs : List Text) → All (In r) ps → All (In r) qs → joined ps ≡ joined qs → ps ≡ qs
  one_list_lem ps qs i j e = sym (parts_is r good ps i) ∙ ap (parts r) e ∙ parts_is r good qs j

  -- no part is empty
  not_empty : (p : Text) → In r p → 1 ≤ length p
  not_empty [] i = absurd (good (inl i))
  not_empty (c ∷ p) i = omega arith

  -- no cut into two texts of parts is inside the first part
  no_earlier :
      (p : Text) (ps : List Text)
      → All (In r) (p ∷ ps)
      → (u v : Text)
      → In (star r) u
      → In (star r) v
      → u ++ v ≡ joined (p ∷ ps)
      → 1 ≤ length u
      → length p ≤ length u
  unfolding In joined
  no_earlier p ps all u v ([], e, i) (qs, e', j) same h = absurd (omega (arith, ap length e))
  no_earlier p ps all u v (q ∷ qs, e, i) (qs', e', j) same h =
      let text : joined ((q ∷ qs) ++ qs') ≡ joined (p ∷ ps) = joined_append (q ∷ qs) qs' ∙ rw (← e, ← e') same in
      let lists : (q ∷ qs) ++ qs' ≡ p ∷ ps = one_list_lem ((q ∷ qs) ++ qs') (p ∷ ps) (all_append (In r) (q ∷ qs) qs' i j) all text in
      let first : q ≡ p = head-eq_of_cons-eq lists in
      omega (arith, ap length e, length-append q (joined qs), ap length first)

  pub one_part : (p : Text) → In r p → In (star r) p
  unfolding In joined
  one_part p i = (p ∷ [], sym (append-nil p), (i, tt))

  all_parts : (ps : List Text) → All (In r) ps → In (star r) (joined ps)
  unfolding In
  all_parts ps all = (ps, refl, all)

-- ---- Is it a source: get of a text of at most 4,096 bytes

pub asked :
    (bytes t : Text) (lent : ℕ) (l : Lens)
    → program bytes ≡ gives l
    → length t ≤ 4096
    → get_call bytes t lent ≡ refuse_if (not (matches (language source l) t)) 13 (output lent (get l t))
unfolding get_call not_of
asked bytes t lent l p h =
    with_program_lem (program bytes) (λ m. refuse_if (too_long t) 12 (refuse_if (not_of source m t) 13 (output lent (get m t)))) l p
    ∙ passing (too_long t) 12 (refuse_if (not_of source l t) 13 (output lent (get l t))) (short t h)

-- a result says that it is one
told_result : (b : Bool) (lent : ℕ) (u : Text) (n : ℕ) → Ok n ≡ answer_for length (refuse_if (not b) 13 (output lent u)) → true ≡ b
unfolding refuse_if answer_for
told_result true lent u n e = refl
told_result false lent u n e = never (cc)

-- a refusal says that it is none if its number is 13
told_refusal :
    (b : Bool) (lent : ℕ) (u : Text) (r : Refusal)
    → Err r ≡ answer_for length (refuse_if (not b) 13 (output lent u))
    → not (eqb r.number 13) ≡ b
unfolding refuse_if answer_for output
told_refusal false lent u r e = rw (refusal_parts e).0
told_refusal true lent u r e = go (ltb (min lent 4096) (length u)) e
  where
    go : (long : Bool) → Err r ≡ answer_for length (refuse_if long 16 (gives u)) → not (eqb r.number 13) ≡ true
    go true h = rw (refusal_parts h).0
    go false h = never (cc)

module _ {bytes t before after : Text} {answer : Answer} (given : GivesText (get_call bytes t (length before)) before after answer) where
  pub tells_result : {n : ℕ} → answer ≡ Ok n → TellsSource bytes t true
  tells_result {n} e =
      record {
        tells_source =
            λ l p h.
            told_result _ (length before) (get l t) n (sym e ∙ given.answer_is ∙ ap (answer_for length) (asked bytes t (length before) l p h));
      }

  pub tells_refusal : {r : Refusal} → answer ≡ Err r → TellsSource bytes t (not (eqb r.number 13))
  tells_refusal {r} e =
      record {
        tells_source =
            λ l p h.
            told_refusal _ (length before) (get l t) r (sym e ∙ given.answer_is ∙ ap (answer_for length) (asked bytes t (length before) l p h));
      }

-- ---- Is it a cut

module _ {bytes t : Text} {start end : ℕ} where
  -- the first text is a source: then the second says it
  pub tells_second :
      {first answer : Bool}
      → first ≡ true
      → TellsSource bytes (take (end - start) (drop start t)) first
      → TellsSource bytes (take (length t - end) (drop end t)) answer
      → TellsCut bytes t start end answer
  tells_second {first} {answer} is-so one two =
      record {
        tells_cut =
            λ l p h.
            let left = sym is-so ∙ one.tells_source l p (simp (length-take, length-drop) (omega arith)) in
            let right = two.tells_source l p (simp (length-take, length-drop) (omega arith)) in
            let all : take (length t - end) (drop end t) ≡ drop end t = take_all (length t - end) (drop end t) (simp length-drop (omega arith)) in
            rw (← left, ← all) right;
      }

  -- the first text is none: then this is no cut
  pub tells_first : {first : Bool} → first ≡ false → TellsSource bytes (take (end - start) (drop start t)) first → TellsCut bytes t start end false
  tells_first {first} is_not_lem one =
      record { tells_cut = λ l p h. let left = sym is_not_lem ∙ one.tells_source l p (simp (length-take, length-drop) (omega arith)) in rw (← left) }

-- ---- Where part k is

pub repeated : {bytes t : Text} {n : ℕ} {l : Lens} {ps : List Text} → Parted bytes t n l ps → ¬ BadRepeat (language source l)
unfolding WellTyped language
repeated {bytes} {t} {n} {l} parted = (accepted bytes (repeat (match n l)) parted.is_program).0.0 source

-- part k, and those behind it
pub record PartAt (t : Text) (l : Lens) (ps : List Text) (k start : ℕ) : Type 0 where
  pub part_in : In (language source l) (get_or ps k [])
  pub later_in : All (In (language source l)) (drop (suc k) ps)
  pub from_start : drop start t ≡ get_or ps k [] ++ joined (drop (suc k) ps)
  pub from_end : drop (start_of ps (suc k)) t ≡ joined (drop (suc k) ps)
  pub end_is : start_of ps (suc k) ≡ start + length (get_or ps k [])
  pub end_within : start_of ps (suc k) ≤ length t

module _
    {bytes t : Text}
    {n : ℕ}
    {l : Lens}
    {ps : List Text}
    (parted : Parted bytes t n l ps)
    {k start : ℕ}
    (h : k < length ps)
    (at : start ≡ start_of ps k)
  where
    pub part_at : PartAt t l ps k start
    unfolding joined
    part_at =
        let r = language source l in
        let cons : drop k ps ≡ get_or ps k [] ∷ drop (suc k) ps = drop-cons ps k [] h in
        let all : All (In r) (get_or ps k [] ∷ drop (suc k) ps) = subst (All (In r)) cons (all_drop (In r) ps k parted.all_in) in
        let is = parted.is_joined in
        record {
          part_in = all.0;
          later_in = all.1;
          from_start = ap (λ u. drop start u) (sym is) ∙ ap (λ i. drop i (joined ps)) at ∙ rest_is ps k ∙ ap joined cons;
          from_end = ap (λ u. drop (start_of ps (suc k)) u) (sym is) ∙ rest_is ps (suc k);
          end_is = next_start ps k h ∙ ap (λ i. i + length (get_or ps k [])) (sym at);
          end_within = subst (λ u. start_of ps (suc k) ≤ length u) is (start_within ps (suc k));
        }

    -- the text from its start to its end
    pub part_text : take (start_of ps (suc k) - start) (drop start t) ≡ get_or ps k []
    part_text =
        let p = part_at in
        let long : start_of ps (suc k) - start ≡ length (get_or ps k []) = omega (arith, p.end_is) in
        ap (λ i. take i (drop start t)) long ∙ ap (take (length (get_or ps k []))) p.from_start ∙ take-append_seam (get_or ps k []) (joined (drop (suc k) ps))

    -- at its end is a cut
    cut_at_end :
        matches (language source (repeat (match n l))) (take (start_of ps (suc k) - start) (drop start t))
        && matches (language source (repeat (match n l))) (drop (start_of ps (suc k)) t)
        ≡ true
    unfolding language
    cut_at_end =
        let r = language source l in
        let good = repeated parted in
        let p = part_at in
        and_of
        (matches (star r) (take (start_of ps (suc k) - start) (drop start t)))
        (matches (star r) (drop (start_of ps (suc k)) t))
        (rw part_text (in_matches (star r) (get_or ps k []) (one_part r good (get_or ps k []) p.part_in)))
        (rw p.from_end (in_matches (star r) (joined (drop (suc k) ps)) (all_parts r good (drop (suc k) ps) p.later_in)))

    -- and none before
    no_cut_before :
        (end : ℕ)
        → start < end
        → end ≤ length t
        → matches (language source (repeat (match n l))) (take (end - start) (drop start t)) && matches (language source (repeat (match n l))) (drop end t) ≡ true
        → start_of ps (suc k) ≤ end
    unfolding language joined
    no_cut_before end past within e =
        let r = language source l in
        let p = part_at in
        let both = and_both (matches (star r) (take (end - start) (drop start t))) (matches (star r) (drop end t)) e in
        let u-in = matches_in_lem (star r) (take (end - start) (drop start t)) both.0 in
        let v-in = matches_in_lem (star r) (drop end t) both.1 in
        let sum : start + (end - start) ≡ end = omega arith in
        let behind : drop (end - start) (drop start t) ≡ drop end t = drop-drop (end - start) start t ∙ ap (λ i. drop i t) sum in
        let same : take (end - start) (drop start t) ++ drop end t ≡ joined (get_or ps k [] ∷ drop (suc k) ps) =
        ap (λ v. take (end - start) (drop start t) ++ v) (sym behind) ∙ take-append-drop (end - start) (drop start t) ∙ p.from_start in
        let long : length (take (end - start) (drop start t)) ≡ end - start =
        length-take-le (end - start) (drop start t) (simp length-drop (omega arith)) in
        let least =
        no_earlier r (repeated parted) (get_or ps k []) (drop (suc k) ps) (p.part_in, p.later_in) (take (end - start) (drop start t)) (drop end t) u-in v-in same
        (omega arith) in
        omega (arith, p.end_is)

-- ---- The end of a part: the search passes the places before it

-- a part that begins at start ends there or behind it
abbrev pub NotYet : Text → Text → ℕ → ℕ → Type 0
NotYet bytes t start end =
    (n : ℕ) (l : Lens) (ps : List Text) (k : ℕ) → Parted bytes t n l ps → k < length ps → start ≡ start_of ps k → end ≤ start_of ps (suc k)

module _ {bytes t : Text} {start : ℕ} where
  pub end_begins : NotYet bytes t start (start + 1)
  end_begins n l ps k parted i at =
      let p = part_at parted i at in
      let some = not_empty (language source l) (repeated parted) (get_or ps k []) p.part_in in
      omega (arith, p.end_is)

  module _ {end : ℕ} (passed : NotYet bytes t start end) where
    -- no cut there
    pub end_later : {answer : Bool} → answer ≡ false → TellsCut bytes t start end answer → NotYet bytes t start (end + 1)
    end_later {answer} is_not_lem told n l ps k parted i at =
        let before = passed n l ps k parted i at in
        let other : end ≡ start_of ps (suc k) → ⊥ =
        λ e. not_both (told.tells_cut (repeat (match n l)) parted.is_program parted.short ∙ rw e (cut_at_end parted i at)) is_not_lem in
        omega arith

    -- a cut there
    pub end_found : {answer : Bool} → start < end → end < length t → answer ≡ true → TellsCut bytes t start end answer → EndsPart bytes t start end
    end_found {answer} past h is-so told =
        record {
          from_start = omega arith;
          within = omega arith;
          ends =
              λ n l ps k parted i at.
              let before = passed n l ps k parted i at in
              let cut = sym (told.tells_cut (repeat (match n l)) parted.is_program parted.short) ∙ is-so in
              let least = no_cut_before parted i at end past (omega arith) cut in
              omega arith;
        }

    -- where none was found, it ends with the text
    pub end_last : start ≤ length t → length t ≤ end → EndsPart bytes t start (length t)
    end_last inside h =
        record {
          from_start = inside;
          within = omega arith;
          ends =
              λ n l ps k parted i at.
              let p = part_at parted i at in
              let before = passed n l ps k parted i at in
              omega (arith, p.end_within);
        }

-- ---- The start of a part: one end after the other

pub record Reached (bytes t : Text) (number start k : ℕ) : Type 0 where
  pub within : start ≤ length t
  pub counted : 1 ≤ k
  pub reached :
      (n : ℕ) (l : Lens) (ps : List Text) → Parted bytes t n l ps → 1 ≤ number → number ≤ length ps → (k ≤ number) × (start ≡ start_of ps (k - 1))

module _ {bytes t : Text} {number : ℕ} where
  pub start_begins : Reached bytes t number 0 1
  unfolding start_of joined
  start_begins = record { within = omega arith; counted = omega arith; reached = λ n l ps parted low high. (low, refl) }

  pub start_later : {start k end : ℕ} → Reached bytes t number start k → k < number → EndsPart bytes t start end → Reached bytes t number end (k + 1)
  start_later {start} {k} {end} so_far h ended =
      record {
        within = ended.within;
        counted = omega arith;
        reached =
            λ n l ps parted low high.
            let at = so_far.reached n l ps parted low high in
            let some = so_far.counted in
            let next : suc (k - 1) ≡ k + 1 - 1 = omega arith in
            (omega arith, ended.ends n l ps (k - 1) parted (omega arith) at.1 ∙ ap (start_of ps) next);
      }

  pub start_found : {start k : ℕ} → Reached bytes t number start k → number ≤ k → StartsPart bytes t number start
  start_found {start} {k} so_far h =
      record {
        within = so_far.within;
        starts =
            λ n l ps parted low high.
            let at = so_far.reached n l ps parted low high in
            let same : k - 1 ≡ number - 1 = omega arith in
            at.1 ∙ ap (start_of ps) same;
      }
