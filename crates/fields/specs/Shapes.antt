-- What a line with a pair is made of: what leads it, the names and the value, and what separates them; and that it is read as that pair, and no other line is.
use Rattle.std.specs.Prelude.{◌≡◌, refl, true, false, List, [], ◌∷◌, ◌++◌, ℕ, ◌≤◌, length}
use Rattle.std.proofs.Common.{sym, ap, ◌∙◌, append_assoc, append-nil}
use Rattle.std.proofs.Math.Option.{Option, some}
use Rattle.semantics.specs.Text.{Text}
use Rattle.sections.specs.Afm.{space, semicolon, begins_with, squeezed, split, each, is_name_byte, is_name, is_value, Pair, pair_from, pair_of, fields_of, kpx_word, kpx_from, kpx_of}
use Rattle.sections.proofs.Splitting.{is_not, is_space, split_field, split_last, split_more, split_one, squeezed_word, squeezed_spaces, squeezed_more, squeezed_one, space_no_name, semicolon_no_name, name_clean, value_clean, name_begins, value_begins}
use Rattle.sections.proofs.Writing.{LegalPair, pair_forth, pair_back, kpx_clean, kpx_from_lem, kpx_word_lem}
use Rattle.fields.specs.declared.Form.{Form}
use Rattle.fields.specs.declared.Form.TheVariants.{Kpx, Sheet}

unfoldable pub form_of : Form → Text → Option Pair
form_of Kpx = kpx_of
form_of Sheet = pair_of

-- spaces, one or more, or a semicolon
unfoldable pub Separates : Form → Text → Type 0
Separates Kpx s = (each is_space s ≡ true) × (1 ≤ length s)
Separates Sheet s = s ≡ semicolon ∷ []

-- a word and spaces
pub record AfterWord (word lead : Text) : Type 0 where
  pub spaces : Text
  pub lead_is : lead ≡ word ++ spaces
  pub separates : Separates Kpx spaces

-- the word, or nothing
unfoldable pub Leads : Form → Text → Type 0
Leads Kpx lead = AfterWord kpx_word lead
Leads Sheet lead = lead ≡ []

abbrev pub body_of : Text → Text → Text → Text → Text → Text
body_of l s r s' v = l ++ (s ++ (r ++ (s' ++ v)))

pub record Body (form : Form) (body : Text) (p : Pair) : Type 0 where
  pub first : Text
  pub second : Text
  pub body_is : body ≡ body_of p.left first p.right second p.value
  pub first_separates : Separates form first
  pub second_separates : Separates form second
  pub legal : LegalPair p

pub record Shape (form : Form) (line : Text) (p : Pair) : Type 0 where
  pub lead : Text
  pub rest : Text
  pub line_is : line ≡ lead ++ rest
  pub leads : Leads form lead
  pub body : Body form rest p

-- ---- The fields of a line, in both forms

unfoldable pub fields_in : Form → Text → List Text
fields_in Kpx line = split space (squeezed line)
fields_in Sheet line = split semicolon line

abbrev pub separator_of : Form → ℕ
separator_of Kpx = space
separator_of Sheet = semicolon

-- a field, what separates it, and what is behind
pub fields_more :
    (form : Form) (w s u : Text)
    → each (is_not (separator_of form)) w ≡ true
    → Separates form s
    → begins_with space u ≡ false
    → fields_in form (w ++ (s ++ u)) ≡ w ∷ fields_in form u
unfolding fields_in Separates
fields_more Kpx w s u clean sep clear =
    ap (split space) (squeezed_word w (s ++ u) clean ∙ ap (λ (x : Text). w ++ x) (squeezed_spaces s u sep.0 sep.1 clear))
    ∙ split_field space w (squeezed u) clean
fields_more Sheet w s u clean sep clear =
    ap (λ (x : Text). split semicolon (w ++ (x ++ u))) sep ∙ split_field semicolon w u clean

pub fields_last : (form : Form) (w : Text) → each (is_not (separator_of form)) w ≡ true → fields_in form w ≡ w ∷ []
unfolding fields_in squeezed
fields_last Kpx w clean =
    ap (split space) (ap squeezed (sym (append-nil w)) ∙ squeezed_word w [] clean ∙ append-nil w) ∙ split_last space w clean
fields_last Sheet w clean = split_last semicolon w clean

-- the same, the other way round
pub record More (form : Form) (line w f : Text) (fs : List Text) : Type 0 where
  pub between : Text
  pub behind : Text
  pub line_is : line ≡ w ++ (between ++ behind)
  pub separates : Separates form between
  pub behind_is : fields_in form behind ≡ f ∷ fs

pub more_fields : (form : Form) (line w f : Text) (fs : List Text) → fields_in form line ≡ w ∷ f ∷ fs → More form line w f fs
unfolding fields_in Separates
more_fields Kpx line w f fs e =
    let first = split_more space (squeezed line) w f fs e in
    let spaced = squeezed_more line w first.rest first.line_is first.clean in
    record {
      between = spaced.spaces;
      behind = spaced.rest;
      line_is = spaced.line_is;
      separates = (spaced.all_spaces_lem, spaced.some);
      behind_is = ap (split space) spaced.rest_is ∙ first.rest_is;
    }
more_fields Sheet line w f fs e =
    let first = split_more semicolon line w f fs e in
    record { between = semicolon ∷ []; behind = first.rest; line_is = first.line_is; separates = refl; behind_is = first.rest_is }

pub last_field : (form : Form) (line w : Text) → fields_in form line ≡ w ∷ [] → line ≡ w
unfolding fields_in
last_field Kpx line w e = let (same, clean) = split_one space (squeezed line) w e in squeezed_one line w same clean
last_field Sheet line w e = (split_one semicolon line w e).0

-- ---- Names and values hold no separator

separator_no_name : (form : Form) → is_name_byte (separator_of form) ≡ false
separator_no_name Kpx = space_no_name
separator_no_name Sheet = semicolon_no_name

name_whole : (form : Form) (t : Text) → is_name t ≡ true → each (is_not (separator_of form)) t ≡ true
name_whole form t e = name_clean (separator_of form) (separator_no_name form) t e

value_whole : (form : Form) (t : Text) → is_value t ≡ true → each (is_not (separator_of form)) t ≡ true
value_whole form t e = value_clean (separator_of form) (separator_no_name form) t e

-- ---- Three fields

body_fields : {form : Form} {body : Text} {p : Pair} → Body form body p → fields_in form body ≡ p.left ∷ p.right ∷ p.value ∷ []
body_fields {form} {body} {p} b =
    ap (fields_in form) b.body_is
    ∙ fields_more form p.left b.first (p.right ++ (b.second ++ p.value)) (name_whole form p.left b.legal.left_name) b.first_separates (name_begins p.right (b.second ++ p.value) b.legal.right_name)
    ∙ ap (λ (fs : List Text). p.left ∷ fs)
    (fields_more form p.right b.second p.value (name_whole form p.right b.legal.right_name) b.second_separates (ap (begins_with space) (sym (append-nil p.value)) ∙ value_begins p.value [] b.legal.value_fits)
    ∙ ap (λ (fs : List Text). p.right ∷ fs) (fields_last form p.value (value_whole form p.value b.legal.value_fits)))

body_pair : {form : Form} {body : Text} {p : Pair} → Body form body p → pair_from (fields_in form body) ≡ some p
body_pair {form} {body} {p} b =
    ap pair_from (body_fields b) ∙ pair_forth p b.legal

pair_body : (form : Form) (body : Text) (p : Pair) → pair_from (fields_in form body) ≡ some p → Body form body p
pair_body form body p e =
    let fields = pair_back (fields_in form body) p e in
    let m = more_fields form body p.left p.right (p.value ∷ []) fields.fields_are in
    let n = more_fields form m.behind p.right p.value [] m.behind_is in
    let last = last_field form n.behind p.value n.behind_is in
    record {
      first = m.between;
      second = n.between;
      body_is =
          m.line_is ∙ ap (λ (x : Text). p.left ++ (m.between ++ x)) (n.line_is ∙ ap (λ (x : Text). p.right ++ (n.between ++ x)) last);
      first_separates = m.separates;
      second_separates = n.separates;
      legal = fields.legal;
    }

body_begins : {form : Form} {body : Text} {p : Pair} → Body form body p → begins_with space body ≡ false
body_begins {form} {body} {p} b =
    ap (begins_with space) b.body_is ∙ name_begins p.left (b.first ++ (p.right ++ (b.second ++ p.value))) b.legal.left_name

-- ---- A line of that shape is read as the pair, and a line that is read as one has that shape

pub shape_read : (form : Form) (line : Text) (p : Pair) → Shape form line p → form_of form line ≡ some p
unfolding form_of kpx_of pair_of fields_of Leads fields_in
shape_read Kpx line p shape =
    let word = shape.leads in
    let whole = shape.line_is ∙ ap (λ (x : Text). x ++ shape.rest) word.lead_is ∙ append_assoc kpx_word word.spaces shape.rest in
    ap kpx_from (ap (fields_in Kpx) whole ∙ fields_more Kpx kpx_word word.spaces shape.rest kpx_clean word.separates (body_begins shape.body))
    ∙ kpx_from_lem (fields_in Kpx shape.rest)
    ∙ body_pair shape.body
shape_read Sheet line p shape =
    ap (λ (x : Text). pair_from (split semicolon x)) (shape.line_is ∙ ap (λ (x : Text). x ++ shape.rest) shape.leads) ∙ body_pair shape.body

pub read_shape : (form : Form) (line : Text) (p : Pair) → form_of form line ≡ some p → Shape form line p
unfolding form_of kpx_of pair_of fields_of Leads fields_in
read_shape Kpx line p e =
    let (fields_are, legal) = kpx_word_lem (split space (squeezed line)) p e in
    let m = more_fields Kpx line kpx_word p.left (p.right ∷ p.value ∷ []) fields_are in
    record {
      lead = kpx_word ++ m.between;
      rest = m.behind;
      line_is = m.line_is ∙ sym (append_assoc kpx_word m.between m.behind);
      leads = record { spaces = m.between; lead_is = refl; separates = m.separates };
      body = pair_body Kpx m.behind p (ap pair_from m.behind_is ∙ pair_forth p legal);
    }
read_shape Sheet line p e = record { lead = []; rest = line; line_is = refl; leads = refl; body = pair_body Sheet line p e }
