-- The places of a line's fields tell whether the text begins with a line that holds a pair, and which pair that is.
use Rattle.std.specs.Prelude.{◌≡◌, Bool, true, false, ◌&&◌, cond, ◌⊎◌, ℕ, suc, ◌+◌, ◌-◌, ◌≤◌, ◌<◌, eqb, take, drop}
use Rattle.std.proofs.Math.Path.{refl, sym, ap}
use Rattle.std.proofs.Common.{◌∙◌, true≢false, inl, inr, arith, length-append, take-append-drop, take-add, drop-drop, length-take-le, ltb-true, ltb-false, lt-ltb, eqb-true, eq-eqb}
use mathlib.Core.List.{List, [], ◌∷◌, ◌++◌, append_assoc}
use Rattle.std.proofs.Math.Option.{Option, none, some}
use Rattle.std.proofs.Math.Dec.{ltb}
use Rattle.std.proofs.Math.ListN.{length, length-drop}
use Rattle.std.proofs.Math.Seq.{take-append_seam, drop-append_seam}
use Rattle.semantics.specs.Text.{Text, same_text}
use Rattle.laws.specs.Basics.{not_both, and_both, and_of, cond_true, cond_false, same_text_eq, same_text_refl}
use Rattle.sections.specs.Afm.{newline, space, semicolon, minus, begins_with, each, is_name_byte, is_name, is_digit, number_of, is_number, is_value, Pair, Pairs, Lines, lines_of, on_pairs, pairs_of, kpx_word}
use Rattle.sections.proofs.Splitting.{is_not, is_space, not_is, space_is, each_join, each_weaker, each_both, name_of, name_clean, value_clean, name_some, value_some, value_minus, value_plain, value_none, number_of_lem, name_begins, value_begins, begins_at, begins_none, newline_no_name, space_no_name, semicolon_no_name, lines_first, lines_ended}
use Rattle.fields.specs.declared.Form.{Form}
use Rattle.fields.specs.declared.Form.TheVariants.{Kpx, Sheet}
use Rattle.fields.specs.declared.PairLine.{PairLine}
use Rattle.fields.specs.Scan.{run, front, length_if, name_length, value_front, value_length, separator_length, word_length, lead_length, Line, LineAt, ends_at, is_pair}
use Rattle.fields.specs.Runs.{run_passes, run_ends, run_within, front_length, run_each, length_if_true, length_if_false, word_length_true, word_length_false, lead_within, name_within, value_within, separator_within}
use Rattle.fields.specs.Shapes.{form_of, Separates, AfterWord, Leads, Body, body_of, Shape, shape_read, read_shape}

-- ---- What is found in front of other text

run_through : (test : ℕ → Bool) (s u : Text) → each test s ≡ true → run test u ≡ 0 → run test (s ++ u) ≡ length s
run_through test [] u h e = e
run_through test (b ∷ s) u h e =
    let (first, later) = each_both test b s h in
    run_passes test b (s ++ u) first ∙ ap suc (run_through test s u later e)

pub front_through : (test : ℕ → Bool) (s u : Text) → each test s ≡ true → run test u ≡ 0 → front test (s ++ u) ≡ s
unfolding front
front_through test s u h e = ap (λ (n : ℕ). take n (s ++ u)) (run_through test s u h e) ∙ take-append_seam s u

-- no byte passes where the first one does not
run_not : (test : ℕ → Bool) (b : ℕ) (u : Text) → test b ≡ false → run test (b ∷ u) ≡ 0
run_not test b u e = run_ends test b u e

no_spaces : (u : Text) → begins_with space u ≡ false → run is_space u ≡ 0
unfolding run is_space begins_with
no_spaces [] e = refl
no_spaces (b ∷ u) e = cond_false (eqb b space) (suc (run is_space u)) 0 e

name_read : (l u : Text) → is_name l ≡ true → run is_name_byte u ≡ 0 → name_length (l ++ u) ≡ length l
unfolding name_length
name_read l u e stops =
    ap (length_if is_name) (front_through is_name_byte l u (name_of l e).bytes stops) ∙ length_if_true is_name l e

digits_of : (b : ℕ) (t : Text) → is_value (b ∷ t) ≡ true → ((b ≡ minus) × (each is_digit t ≡ true)) ⊎ ((eqb b minus ≡ false) × (each is_digit (b ∷ t) ≡ true))
digits_of b t e = go (eqb b minus) refl
  where
    go : (n : Bool) → eqb b minus ≡ n → ((b ≡ minus) × (each is_digit t ≡ true)) ⊎ ((eqb b minus ≡ false) × (each is_digit (b ∷ t) ≡ true))
    go true h =
        let b_is : b ≡ minus = eqb-true b minus h in
        let is = and_both (is_number 32768 t) (ltb 0 (number_of t)) (sym (value_minus t) ∙ ap (λ (c : ℕ). is_value (c ∷ t)) (sym b_is) ∙ e) in
        inl (b_is, (number_of_lem 32768 t is.0).digits)
    go false h = inr (h, (number_of_lem 32767 (b ∷ t) (sym (value_plain b t h) ∙ e)).digits)

newline_digit : is_digit newline ≡ false
unfolding is_digit
newline_digit = refl

pub newline_no_digit : (u : Text) → run is_digit (newline ∷ u) ≡ 0
newline_no_digit u = run_not is_digit newline u newline_digit

value_front_read : (v u : Text) → is_value v ≡ true → run is_digit u ≡ 0 → value_front (v ++ u) ≡ v
unfolding value_front
value_front_read [] u e stops = absurd (true≢false (sym e ∙ value_none))
value_front_read (b ∷ v) u e stops = go (digits_of b v e)
  where
    go :
        ((b ≡ minus) × (each is_digit v ≡ true)) ⊎ ((eqb b minus ≡ false) × (each is_digit (b ∷ v) ≡ true))
        → cond (eqb b minus) (b ∷ front is_digit (v ++ u)) (front is_digit (b ∷ (v ++ u))) ≡ b ∷ v
    go (inl h) =
        cond_true (eqb b minus) (b ∷ front is_digit (v ++ u)) (front is_digit (b ∷ (v ++ u))) (eq-eqb b minus h.0)
        ∙ ap (λ (x : Text). b ∷ x) (front_through is_digit v u h.1 stops)
    go (inr h) =
        cond_false (eqb b minus) (b ∷ front is_digit (v ++ u)) (front is_digit (b ∷ (v ++ u))) h.0
        ∙ front_through is_digit (b ∷ v) u h.1 stops

value_read : (v u : Text) → is_value v ≡ true → run is_digit u ≡ 0 → value_length (v ++ u) ≡ length v
unfolding value_length
value_read v u e stops = ap (length_if is_value) (value_front_read v u e stops) ∙ length_if_true is_value v e

-- what separates two fields begins with no byte of a name
separator_stops : (form : Form) (s u : Text) → Separates form s → run is_name_byte (s ++ u) ≡ 0
unfolding Separates
separator_stops Kpx [] u sep = absurd (omega (arith, sep.1))
separator_stops Kpx (b ∷ s) u sep =
    let b_is : b ≡ space = eqb-true b space (space_is b (each_both is_space b s sep.0).0) in
    run_not is_name_byte b (s ++ u) (ap is_name_byte b_is ∙ space_no_name)
separator_stops Sheet s u sep =
    ap (λ (x : Text). run is_name_byte (x ++ u)) sep ∙ run_not is_name_byte semicolon u semicolon_no_name

separator_read : (form : Form) (s u : Text) → Separates form s → begins_with space u ≡ false → separator_length form (s ++ u) ≡ length s
unfolding Separates separator_length begins_with
separator_read Kpx s u sep clear = run_through is_space s u sep.0 (no_spaces u clear)
separator_read Sheet s u sep clear =
    ap (λ (x : Text). cond (begins_with semicolon (x ++ u)) 1 0) sep ∙ ap length (sym sep)

pub word_read : (word s u : Text) → Separates Kpx s → begins_with space u ≡ false → word_length word (word ++ (s ++ u)) ≡ length word + length s
unfolding Separates
word_read word s u sep clear =
    let spaces : run is_space (drop (length word) (word ++ (s ++ u))) ≡ length s =
    ap (run is_space) (drop-append_seam word (s ++ u)) ∙ run_through is_space s u sep.0 (no_spaces u clear) in
    let there : same_text (take (length word) (word ++ (s ++ u))) word ≡ true =
    ap (λ (x : Text). same_text x word) (take-append_seam word (s ++ u)) ∙ same_text_refl word in
    word_length_true word (word ++ (s ++ u)) there (omega (arith, spaces, sep.1)) ∙ ap (λ (n : ℕ). length word + n) spaces

lead_read : (form : Form) (lead u : Text) → Leads form lead → begins_with space u ≡ false → lead_length form (lead ++ u) ≡ length lead
unfolding Leads lead_length
lead_read Kpx lead u leads clear =
    let s = leads.spaces in
    ap (word_length kpx_word) (ap (λ (x : Text). x ++ u) leads.lead_is ∙ append_assoc kpx_word s u)
    ∙ word_read kpx_word s u leads.separates clear
    ∙ sym (ap length leads.lead_is ∙ length-append kpx_word s)
lead_read Sheet lead u leads clear = ap length (sym leads)

-- ---- A line with a pair has its fields at their places

separator_some : (form : Form) (s : Text) → Separates form s → 1 ≤ length s
unfolding Separates
separator_some Kpx s sep = sep.1
separator_some Sheet s sep = omega (arith, ap length sep)

regroup :
    (a b c d e f g : Text)
    → (a ++ (b ++ (c ++ (d ++ (e ++ f))))) ++ g ≡ a ++ (b ++ (c ++ (d ++ (e ++ (f ++ g)))))
regroup a b c d e f g = simp (append_assoc) refl

-- the place behind a part, and what is there
pub behind_part : (t w u : Text) (a n : ℕ) → drop a t ≡ w ++ u → n ≡ length w → drop (a + n) t ≡ u
behind_part t w u a n e h =
    ap (λ (k : ℕ). drop (a + k) t) h ∙ sym (drop-drop (length w) a t) ∙ ap (drop (length w)) e ∙ drop-append_seam w u

rising : (a b n : ℕ) → b ≡ a + n → 1 ≤ n → ltb a b ≡ true
rising a b n e h = lt-ltb a b (omega arith)

module _ (form : Form) (t line rest : Text) (p : Pair) (at : Line) where
  module _ (text_is : t ≡ line ++ newline ∷ rest) (shape : Shape form line p) (places : LineAt form t at) where
    abbrev body : Body form shape.rest p
    body = shape.body

    abbrev ending : Text
    ending = p.value ++ newline ∷ rest

    abbrev righting : Text
    righting = p.right ++ (body.second ++ ending)

    -- the text, part by part
    parts : t ≡ shape.lead ++ (p.left ++ (body.first ++ righting))
    parts =
        text_is
        ∙ ap (λ (x : Text). x ++ newline ∷ rest) (shape.line_is ∙ ap (λ (x : Text). shape.lead ++ x) body.body_is)
        ∙ regroup shape.lead p.left body.first p.right body.second p.value (newline ∷ rest)

    left_clear : begins_with space (p.left ++ (body.first ++ righting)) ≡ false
    left_clear = name_begins p.left (body.first ++ righting) body.legal.left_name

    right_clear : begins_with space righting ≡ false
    right_clear = name_begins p.right (body.second ++ ending) body.legal.right_name

    value_clear : begins_with space ending ≡ false
    value_clear = value_begins p.value (newline ∷ rest) body.legal.value_fits

    at_left : drop at.left t ≡ p.left ++ (body.first ++ righting)
    at_left =
        let lead = places.left_is ∙ ap (lead_length form) parts ∙ lead_read form shape.lead (p.left ++ (body.first ++ righting)) shape.leads left_clear in
        ap (λ (n : ℕ). drop n t) lead ∙ ap (drop (length shape.lead)) parts ∙ drop-append_seam shape.lead (p.left ++ (body.first ++ righting))

    left_length : name_length (drop at.left t) ≡ length p.left
    left_length =
        ap name_length at_left ∙ name_read p.left (body.first ++ righting) body.legal.left_name (separator_stops form body.first righting body.first_separates)

    at_between : drop at.between t ≡ body.first ++ righting
    at_between = ap (λ (n : ℕ). drop n t) places.between_is ∙ behind_part t p.left (body.first ++ righting) at.left (name_length (drop at.left t)) at_left left_length

    first_length : separator_length form (drop at.between t) ≡ length body.first
    first_length = ap (separator_length form) at_between ∙ separator_read form body.first righting body.first_separates right_clear

    at_right : drop at.right t ≡ righting
    at_right = ap (λ (n : ℕ). drop n t) places.right_is ∙ behind_part t body.first righting at.between (separator_length form (drop at.between t)) at_between first_length

    right_length : name_length (drop at.right t) ≡ length p.right
    right_length =
        ap name_length at_right ∙ name_read p.right (body.second ++ ending) body.legal.right_name (separator_stops form body.second ending body.second_separates)

    at_behind : drop at.behind t ≡ body.second ++ ending
    at_behind = ap (λ (n : ℕ). drop n t) places.behind_is ∙ behind_part t p.right (body.second ++ ending) at.right (name_length (drop at.right t)) at_right right_length

    second_length : separator_length form (drop at.behind t) ≡ length body.second
    second_length = ap (separator_length form) at_behind ∙ separator_read form body.second ending body.second_separates value_clear

    at_value : drop at.value t ≡ ending
    at_value = ap (λ (n : ℕ). drop n t) places.value_is ∙ behind_part t body.second ending at.behind (separator_length form (drop at.behind t)) at_behind second_length

    value_length_lem : value_length (drop at.value t) ≡ length p.value
    value_length_lem = ap value_length at_value ∙ value_read p.value (newline ∷ rest) body.legal.value_fits (newline_no_digit rest)

    at_end : drop at.end t ≡ newline ∷ rest
    at_end = ap (λ (n : ℕ). drop n t) places.end_is ∙ behind_part t p.value (newline ∷ rest) at.value (value_length (drop at.value t)) at_value value_length_lem

    shape_found : is_pair t at ≡ true
    unfolding is_pair ends_at begins_with
    shape_found =
        let lefts = and_of (ltb at.left at.between) (ltb at.between at.right) (rising at.left at.between (length p.left) (places.between_is ∙ ap (λ (n : ℕ). at.left + n) left_length) (name_some p.left body.legal.left_name)) (rising at.between at.right (length body.first) (places.right_is ∙ ap (λ (n : ℕ). at.between + n) first_length) (separator_some form body.first body.first_separates)) in
        let rights = and_of (ltb at.right at.behind) (ltb at.behind at.value) (rising at.right at.behind (length p.right) (places.behind_is ∙ ap (λ (n : ℕ). at.right + n) right_length) (name_some p.right body.legal.right_name)) (rising at.behind at.value (length body.second) (places.value_is ∙ ap (λ (n : ℕ). at.behind + n) second_length) (separator_some form body.second body.second_separates)) in
        let values = and_of (ltb at.value at.end) (begins_with newline (drop at.end t)) (rising at.value at.end (length p.value) (places.end_is ∙ ap (λ (n : ℕ). at.value + n) value_length_lem) (value_some p.value body.legal.value_fits)) (ap (begins_with newline) at_end) in
        and_of ((ltb at.left at.between && ltb at.between at.right) && (ltb at.right at.behind && ltb at.behind at.value)) (ltb at.value at.end && begins_with newline (drop at.end t)) (and_of (ltb at.left at.between && ltb at.between at.right) (ltb at.right at.behind && ltb at.behind at.value) lefts rights) values

-- ---- Fields at their places are a line with a pair

name_found : (u : Text) → 0 < name_length u → is_name (take (name_length u) u) ≡ true
unfolding name_length front
name_found u h = go (is_name (front is_name_byte u)) refl
  where
    go : (b : Bool) → is_name (front is_name_byte u) ≡ b → is_name (take (length_if is_name (front is_name_byte u)) u) ≡ true
    go true e =
        ap (λ (n : ℕ). is_name (take n u)) (length_if_true is_name (front is_name_byte u) e ∙ front_length is_name_byte u) ∙ e
    go false e = absurd (omega (arith, length_if_false is_name (front is_name_byte u) e))

front_taken : (test : ℕ → Bool) (u : Text) → front test u ≡ take (length (front test u)) u
unfolding front
front_taken test u = ap (λ (n : ℕ). take n u) (sym (front_length test u))

value_front_taken : (u : Text) → value_front u ≡ take (length (value_front u)) u
unfolding value_front
value_front_taken [] = refl
value_front_taken (b ∷ t) = go (eqb b minus)
  where
    go : (n : Bool) → cond n (b ∷ front is_digit t) (front is_digit (b ∷ t)) ≡ take (length (cond n (b ∷ front is_digit t) (front is_digit (b ∷ t)))) (b ∷ t)
    go true = ap (λ (x : Text). b ∷ x) (front_taken is_digit t)
    go false = front_taken is_digit (b ∷ t)

value_found : (u : Text) → 0 < value_length u → is_value (take (value_length u) u) ≡ true
unfolding value_length
value_found u h = go (is_value (value_front u)) refl
  where
    go : (b : Bool) → is_value (value_front u) ≡ b → is_value (take (length_if is_value (value_front u)) u) ≡ true
    go true e =
        ap (λ (n : ℕ). is_value (take n u)) (length_if_true is_value (value_front u) e) ∙ ap is_value (sym (value_front_taken u)) ∙ e
    go false e = absurd (omega (arith, length_if_false is_value (value_front u) e))

pub begins_one : (m : ℕ) (u : Text) → begins_with m u ≡ true → (u ≡ m ∷ drop 1 u) × (take 1 u ≡ m ∷ [])
begins_one m [] e = absurd (true≢false (sym e ∙ begins_none m))
begins_one m (b ∷ u) e =
    let b_is : b ≡ m = eqb-true b m (sym (begins_at m b u) ∙ e) in
    (ap (λ (c : ℕ). c ∷ u) b_is, ap (λ (c : ℕ). c ∷ []) b_is)

separator_found : (form : Form) (u : Text) → 0 < separator_length form u → Separates form (take (separator_length form u) u)
unfolding separator_length Separates
separator_found Kpx u h = (run_each is_space u, omega (arith, length-take-le (run is_space u) u (run_within is_space u)))
separator_found Sheet u h = go (begins_with semicolon u) refl h
  where
    go : (b : Bool) → begins_with semicolon u ≡ b → 0 < cond b 1 0 → take (cond b 1 0) u ≡ semicolon ∷ []
    go true e k = (begins_one semicolon u e).1
    go false e k = absurd (omega arith)

pub word_found : (word t : Text) → word_length word t < length t → AfterWord word (take (word_length word t) t)
unfolding Separates
word_found word t h = go (same_text (take (length word) t) word) refl (ltb 0 (run is_space (drop (length word) t))) refl
  where
    go : (a : Bool) → same_text (take (length word) t) word ≡ a → (b : Bool) → ltb 0 (run is_space (drop (length word) t)) ≡ b → AfterWord word (take (word_length word t) t)
    go true e true k =
        let some = ltb-true 0 (run is_space (drop (length word) t)) k in
        let long = word_length_true word t e some in
        record {
          spaces = take (run is_space (drop (length word) t)) (drop (length word) t);
          lead_is =
              ap (λ (n : ℕ). take n t) long
              ∙ take-add (length word) (run is_space (drop (length word) t)) t
              ∙ ap (λ (x : Text). x ++ take (run is_space (drop (length word) t)) (drop (length word) t)) (same_text_eq (take (length word) t) word e);
          separates = (
            run_each is_space (drop (length word) t),
            omega (arith, length-take-le (run is_space (drop (length word) t)) (drop (length word) t) (run_within is_space (drop (length word) t)), some),
          );
        }
    go true e false k =
        let none = ltb-false 0 (run is_space (drop (length word) t)) k in
        absurd (omega (arith, word_length_false word t (inr (omega arith))))
    go false e b k = absurd (omega (arith, word_length_false word t (inl e)))

lead_found : (form : Form) (t : Text) → lead_length form t < length t → Leads form (take (lead_length form t) t)
unfolding lead_length Leads
lead_found Kpx t h = word_found kpx_word t h
lead_found Sheet t h = refl

-- from one place to the next
pub cut : (t : Text) (a b n : ℕ) → b ≡ a + n → drop a t ≡ take n (drop a t) ++ drop b t
cut t a b n e = sym (take-append-drop n (drop a t)) ∙ ap (λ (x : Text). take n (drop a t) ++ x) (drop-drop n a t ∙ ap (λ (k : ℕ). drop k t) (sym e))

-- ---- No newline is in such a line

spaces_clean : (s : Text) → each is_space s ≡ true → each (is_not newline) s ≡ true
spaces_clean s e = each_weaker is_space (is_not newline) (λ b h. not_is newline b (ap (λ (c : ℕ). eqb c newline) (eqb-true b space (space_is b h)))) s e

pub separator_clean : (form : Form) (s : Text) → Separates form s → each (is_not newline) s ≡ true
unfolding Separates each is_not
separator_clean Kpx s sep = spaces_clean s sep.0
separator_clean Sheet s sep = ap (each (is_not newline)) sep

word_clean : each (is_not newline) kpx_word ≡ true
unfolding each is_not
word_clean = refl

lead_clean : (form : Form) (lead : Text) → Leads form lead → each (is_not newline) lead ≡ true
unfolding Leads each
lead_clean Kpx lead leads =
    ap (each (is_not newline)) leads.lead_is ∙ each_join (is_not newline) kpx_word leads.spaces word_clean (separator_clean Kpx leads.spaces leads.separates)
lead_clean Sheet lead leads = ap (each (is_not newline)) leads

shape_clean : (form : Form) (line : Text) (p : Pair) → Shape form line p → each (is_not newline) line ≡ true
shape_clean form line p shape =
    let body = shape.body in
    let name = name_clean newline newline_no_name in
    let join = each_join (is_not newline) in
    let ending = join body.second p.value (separator_clean form body.second body.second_separates) (value_clean newline newline_no_name p.value body.legal.value_fits) in
    let righting = join p.right (body.second ++ p.value) (name p.right body.legal.right_name) ending in
    let behind = join body.first (p.right ++ (body.second ++ p.value)) (separator_clean form body.first body.first_separates) righting in
    let all = join p.left (body.first ++ (p.right ++ (body.second ++ p.value))) (name p.left body.legal.left_name) behind in
    ap (each (is_not newline)) shape.line_is
    ∙ join shape.lead shape.rest (lead_clean form shape.lead shape.leads) (ap (each (is_not newline)) body.body_is ∙ all)

-- ---- Both, about the first line of a text

-- the pair whose fields are at the places, as they are lent
abbrev pub pair_at : Text → Line → Pair
pair_at t at = record {
  left = take (at.between - at.left) (drop at.left t);
  right = take (at.behind - at.right) (drop at.right t);
  value = take (at.end - at.value) (drop at.value t);
}

abbrev pub pairs_in : Form → Text → Pairs
pairs_in form t = pairs_of (form_of form) (lines_of t).ended

-- The places rise.
pub record Rises (t : Text) (at : Line) : Type 0 where
  pub left_rises : at.left < at.between
  pub between_rises : at.between < at.right
  pub right_rises : at.right < at.behind
  pub behind_rises : at.behind < at.value
  pub value_rises : at.value < at.end
  pub ends : begins_with newline (drop at.end t) ≡ true

pub pair_rises : (t : Text) (at : Line) → is_pair t at ≡ true → Rises t at
unfolding is_pair ends_at
pair_rises t at e =
    let (names, values) = and_both ((ltb at.left at.between && ltb at.between at.right) && (ltb at.right at.behind && ltb at.behind at.value)) (ltb at.value at.end && begins_with newline (drop at.end t)) e in
    let (lefts, rights) = and_both (ltb at.left at.between && ltb at.between at.right) (ltb at.right at.behind && ltb at.behind at.value) names in
    let (a, b) = and_both (ltb at.left at.between) (ltb at.between at.right) lefts in
    let (c, d) = and_both (ltb at.right at.behind) (ltb at.behind at.value) rights in
    let (f, g) = and_both (ltb at.value at.end) (begins_with newline (drop at.end t)) values in
    record {
      left_rises = ltb-true at.left at.between a;
      between_rises = ltb-true at.between at.right b;
      right_rises = ltb-true at.right at.behind c;
      behind_rises = ltb-true at.behind at.value d;
      value_rises = ltb-true at.value at.end f;
      ends = g;
    }

-- what is read from a text that begins with the line of a pair
pub record FirstPair (form : Form) (t : Text) (at : Line) : Type 0 where
  pub within : at.end < length t
  pub pairs_are : (pairs_in form t).pairs ≡ pair_at t at ∷ (pairs_in form (drop (at.end + 1) t)).pairs
  pub behind_are : (pairs_in form t).behind ≡ (pairs_in form (drop (at.end + 1) t)).behind
  pub rest_is : (lines_of t).rest ≡ (lines_of (drop (at.end + 1) t)).rest

module _ (form : Form) (t : Text) (at : Line) (places : LineAt form t at) where
  module _ (rises : Rises t at) where
    abbrev lead : Text
    lead = take at.left t

    abbrev first : Text
    first = take (at.right - at.between) (drop at.between t)

    abbrev second : Text
    second = take (at.value - at.behind) (drop at.behind t)

    abbrev p : Pair
    p = pair_at t at

    -- what each part is as long as
    found : (a b n : ℕ) → b ≡ a + n → b - a ≡ n
    found a b n e = omega arith

    left_part : at.between - at.left ≡ name_length (drop at.left t)
    left_part = found at.left at.between (name_length (drop at.left t)) places.between_is

    first_part_lem : at.right - at.between ≡ separator_length form (drop at.between t)
    first_part_lem = found at.between at.right (separator_length form (drop at.between t)) places.right_is

    right_part : at.behind - at.right ≡ name_length (drop at.right t)
    right_part = found at.right at.behind (name_length (drop at.right t)) places.behind_is

    second_part : at.value - at.behind ≡ separator_length form (drop at.behind t)
    second_part = found at.behind at.value (separator_length form (drop at.behind t)) places.value_is

    value_part : at.end - at.value ≡ value_length (drop at.value t)
    value_part = found at.value at.end (value_length (drop at.value t)) places.end_is

    is_body : Body form (body_of p.left first p.right second p.value) p
    is_body = record {
      first = first;
      second = second;
      body_is = refl;
      first_separates = rw first_part_lem (separator_found form (drop at.between t) (omega (arith, first_part_lem, rises.between_rises)));
      second_separates = rw second_part (separator_found form (drop at.behind t) (omega (arith, second_part, rises.behind_rises)));
      legal =
          record {
            left_name = rw left_part (name_found (drop at.left t) (omega (arith, left_part, rises.left_rises)));
            right_name = rw right_part (name_found (drop at.right t) (omega (arith, right_part, rises.right_rises)));
            value_fits = rw value_part (value_found (drop at.value t) (omega (arith, value_part, rises.value_rises)));
          };
    }

    line : Text
    line = lead ++ body_of p.left first p.right second p.value

    is_shape : Shape form line p
    unfolding line
    is_shape = record {
      lead = lead;
      rest = body_of p.left first p.right second p.value;
      line_is = refl;
      leads =
          rw places.left_is
          (lead_found form t (omega (arith, places.left_is, rises.left_rises, rises.between_rises, rises.right_rises, rises.behind_rises, rises.value_rises, places.within)));
      body = is_body;
    }

    before_end : t ≡ line ++ drop at.end t
    unfolding line
    before_end =
        sym (take-append-drop at.left t)
        ∙ ap (λ (x : Text). lead ++ x)
        (cut t at.left at.between (at.between - at.left) (omega (arith, rises.left_rises))
        ∙ ap (λ (x : Text). p.left ++ x)
        (cut t at.between at.right (at.right - at.between) (omega (arith, rises.between_rises))
        ∙ ap (λ (x : Text). first ++ x)
        (cut t at.right at.behind (at.behind - at.right) (omega (arith, rises.right_rises))
        ∙ ap (λ (x : Text). p.right ++ x)
        (cut t at.behind at.value (at.value - at.behind) (omega (arith, rises.behind_rises))
        ∙ ap (λ (x : Text). second ++ x) (cut t at.value at.end (at.end - at.value) (omega (arith, rises.value_rises)))))))
        ∙ sym (regroup lead p.left first p.right second p.value (drop at.end t))

    text_parts : t ≡ line ++ newline ∷ drop (at.end + 1) t
    text_parts =
        before_end ∙ ap (λ (x : Text). line ++ x) ((begins_one newline (drop at.end t) rises.ends).0 ∙ ap (λ (x : Text). newline ∷ x) (drop-drop 1 at.end t))

    lines_are : lines_of t ≡ record { ended = line ∷ (lines_of (drop (at.end + 1) t)).ended; rest = (lines_of (drop (at.end + 1) t)).rest }
    lines_are = ap lines_of text_parts ∙ lines_ended line (drop (at.end + 1) t) (shape_clean form line p is_shape)

    pairs_on : pairs_in form t ≡ on_pairs (some p) line (lines_of (drop (at.end + 1) t)).ended (pairs_in form (drop (at.end + 1) t))
    unfolding pairs_of
    pairs_on =
        ap (λ (lines : Lines). pairs_of (form_of form) lines.ended) lines_are
        ∙ ap (λ (found : Option Pair). on_pairs found line (lines_of (drop (at.end + 1) t)).ended (pairs_in form (drop (at.end + 1) t))) (shape_read form line p is_shape)

    pub first_pair : FirstPair form t at
    unfolding on_pairs
    first_pair = record {
      within = omega (arith, ap length (begins_one newline (drop at.end t) rises.ends).0, length-drop at.end t);
      pairs_are = ap (λ (found : Pairs). found.pairs) pairs_on;
      behind_are = ap (λ (found : Pairs). found.behind) pairs_on;
      rest_is = ap (λ (lines : Lines). lines.rest) lines_are;
    }

  -- where the text begins with no such line, no pair is read
  pub no_pair : is_pair t at ≡ false → pairs_in form t ≡ record { pairs = []; behind = (lines_of t).ended }
  unfolding pairs_of on_pairs
  no_pair none_found = go (lines_of t).ended refl
    where
      first_none : (line : Text) (lines : List Text) (found : Option Pair) → (lines_of t).ended ≡ line ∷ lines → form_of form line ≡ found → on_pairs found line lines (pairs_of (form_of form) lines) ≡ record { pairs = []; behind = line ∷ lines }
      first_none row lines none e f = refl
      first_none row lines (some q) e f =
          let first = lines_first t row lines e in
          absurd (not_both (shape_found form t row first.behind q at first.text_is (read_shape form row q f) places) none_found)

      go : (lines : List Text) → (lines_of t).ended ≡ lines → pairs_of (form_of form) lines ≡ record { pairs = []; behind = lines }
      go [] e = refl
      go (line ∷ lines) e = first_none line lines (form_of form line) e refl

-- ---- The line with a pair at the start of a text, as it is answered

-- the places of its fields, one behind the other
unfoldable pub places : Form → Text → Line
places form t =
    let left = lead_length form t in
    let between = left + name_length (drop left t) in
    let right = between + separator_length form (drop between t) in
    let behind = right + name_length (drop right t) in
    let value = behind + separator_length form (drop behind t) in
    record {
      left = left;
      between = between;
      right = right;
      behind = behind;
      value = value;
      end = value + value_length (drop value t);
    }

-- one place more lies in the text
further : (t : Text) (a n : ℕ) → a ≤ length t → n ≤ length (drop a t) → a + n ≤ length t
further t a n h k = omega (arith, length-drop a t)

pub places_at : (form : Form) (t : Text) → LineAt form t (places form t)
unfolding places
places_at form t =
    let at = places form t in
    let between = further t at.left _ (lead_within form t) (name_within (drop at.left t)) in
    let right = further t at.between _ between (separator_within form (drop at.between t)) in
    let behind = further t at.right _ right (name_within (drop at.right t)) in
    let value = further t at.behind _ behind (separator_within form (drop at.behind t)) in
    record {
      left_is = refl;
      between_is = refl;
      right_is = refl;
      behind_is = refl;
      value_is = refl;
      end_is = refl;
      within = further t at.value _ value (value_within (drop at.value t));
    }

-- no line with a pair stands there
abbrev pub NoPair : Form → Text → Type 0
NoPair form t = is_pair t (places form t) ≡ false

abbrev pub pair_in : PairLine → Pair
pair_in line = record { left = line.left.now; right = line.right.now; value = line.value.now }

-- The line is there, with its fields and the text behind it.
pub record IsPairLine (form : Form) (t : Text) (line : PairLine) : Type 0 where
  pub is : is_pair t (places form t) ≡ true
  pub pair_is : pair_in line ≡ pair_at t (places form t)
  pub rest_is : line.rest.now ≡ drop ((places form t).end + 1) t

-- ---- What is read from a text, line by line

-- where no line with a pair stands first, no pair is read
pub no_pairs : (form : Form) (t : Text) → NoPair form t → pairs_in form t ≡ record { pairs = []; behind = (lines_of t).ended }
no_pairs form t h = no_pair form t (places form t) (places_at form t) h

-- a line with that pair stands first, and behind it the rest
pub record ReadsPair (form : Form) (t : Text) (p : Pair) (rest : Text) : Type 0 where
  pub pairs_are : (pairs_in form t).pairs ≡ p ∷ (pairs_in form rest).pairs
  pub behind_are : (pairs_in form t).behind ≡ (pairs_in form rest).behind
  pub lines_rest : (lines_of t).rest ≡ (lines_of rest).rest
  pub room : length p.left + length p.right + length p.value + 3 + length rest ≤ length t

-- a part is as long as its places are apart
part_long : (t : Text) (a b : ℕ) → a ≤ b → b ≤ length t → length (take (b - a) (drop a t)) ≡ b - a
part_long t a b h k = length-take-le (b - a) (drop a t) (omega (arith, length-drop a t))

pub reads_pair : {form : Form} {t : Text} {line : PairLine} → IsPairLine form t line → ReadsPair form t (pair_in line) line.rest.now
reads_pair {form} {t} {line} found =
    let at = places form t in
    let rises = pair_rises t at found.is in
    let first = first_pair form t at (places_at form t) rises in
    let rest = sym found.rest_is in
    let left = part_long t at.left at.between (omega (arith, rises.left_rises)) (omega (arith, first.within, rises.between_rises, rises.right_rises, rises.behind_rises, rises.value_rises)) in
    let right = part_long t at.right at.behind (omega (arith, rises.right_rises)) (omega (arith, first.within, rises.behind_rises, rises.value_rises)) in
    let value = part_long t at.value at.end (omega (arith, rises.value_rises)) (omega (arith, first.within)) in
    record {
      pairs_are = first.pairs_are ∙ ap (λ (p : Pair). p ∷ (pairs_in form (drop (at.end + 1) t)).pairs) (sym found.pair_is) ∙ ap (λ (u : Text). pair_in line ∷ (pairs_in form u).pairs) rest;
      behind_are = first.behind_are ∙ ap (λ (u : Text). (pairs_in form u).behind) rest;
      lines_rest = first.rest_is ∙ ap (λ (u : Text). (lines_of u).rest) rest;
      room =
          omega
          (arith, ap (λ (p : Pair). length p.left) found.pair_is ∙ left, ap (λ (p : Pair). length p.right) found.pair_is ∙ right, ap (λ (p : Pair). length p.value) found.pair_is ∙ value, rises.left_rises, rises.between_rises, rises.right_rises, rises.behind_rises, rises.value_rises, first.within, ap length found.rest_is, length-drop (at.end + 1) t);
    }
