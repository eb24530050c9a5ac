-- The arm of a union, by the two paths: what the definitions do where each goes left or right.
use mathlib.Core.Path.{◌≡◌, refl, sym, ap, ◌∙◌}
use mathlib.Core.Bool.{Bool, true, false}
use mathlib.Core.List.{List}
use mathlib.Core.Logic.{inl, inr}
use mathlib.Core.Option.{Option, none, some}
use Prim.Native.Nat.{ℕ, ◌+◌}
use Rattle.semantics.specs.Text.{Text, apply}
use Rattle.semantics.specs.Pattern.{matches}
use Rattle.semantics.specs.Lens.{Lens, union, source, sheet, language, Arm, put_left, put_right, create_left, create_right, arm_of, write_arm, write}
use Rattle.semantics.specs.Tally.{meet_arm, met}
use Rattle.semantics.specs.Lens.{Book as Entries}
use Rattle.semantics.specs.Table.{trees, lens, positions}
use Rattle.laws.specs.Membership.{matches_in_lem, in_matches}
use Rattle.laws.specs.Paths.{goes_left, least_in}
use Rattle.laws.specs.WellTyped.{WellTyped}
use Rattle.table.specs.Prepared.{TwoLenses}
use Rattle.automaton.specs.declared.Automaton.{Automaton}
use Rattle.automaton.specs.declared.Side.TheVariants.{Source, Sheet}
use Rattle.automaton.specs.Rows.{automaton_at, Describes}
use Rattle.lens.specs.declared.Mode.TheVariants.{Get, Key}
use Rattle.lens.specs.Reading.{mode_side}
use Rattle.lens.specs.Emitting.{side_for, LensNode, Fits}
use Rattle.lens.specs.Nodes.{describes_lens}
use Rattle.lens.specs.Parsed.{Parsed, parsed_found, typed_as, least_as, union_left, union_in_left, union_right, union_not_left}
use Rattle.books.specs.declared.Place.{Place}
use Rattle.books.specs.Looking.{part_at, trail_of, old_text, OldParsed}
use Rattle.steps.specs.Steps.{Refitted, created_at, put_at, ArmIs, ChoiceIs}
use Rattle.steps.specs.Stepping.{old_none, old_at}
use Rattle.steps.proofs.Answers.{lent_trail, trail_lent}

-- ---- What a union writes, by the tests of its arms

-- A lens writes as another one does, onto the old text that is kept, and meets the same matches.
record Alike (whole part : Lens) (old kept : Option Text) (a : Text) : Type 0 where
  writes : (b : Entries) → write whole old a b ≡ write part kept a b
  meets : met whole old a ≡ met part kept a

-- a union does so with the arm that the tests choose
by_arm :
    (l m part : Lens) (old kept : Option Text) (a : Text) (arm : Arm)
    → arm_of (apply (matches (language source l)) old) (matches (language sheet l) a) (matches (language sheet m) a) ≡ arm
    → ((b : Entries) → write_arm (write l) (write m) arm old a b ≡ write part kept a b)
    → meet_arm (met l) (met m) arm old a ≡ met part kept a
    → Alike (union l m) part old kept a
unfolding write met
by_arm l m part old kept a arm e writes meets = record { writes = λ b. rw e (writes b); meets = rw e meets }

module _ (l m : Lens) (a : Text) where
  -- without an old text
  creates_left : matches (language sheet l) a ≡ true → Alike (union l m) l none none a
  unfolding apply arm_of write_arm meet_arm
  creates_left e = by_arm l m l none none a create_left (rw e) (λ b. refl) refl

  creates_right : matches (language sheet l) a ≡ false → Alike (union l m) m none none a
  unfolding apply arm_of write_arm meet_arm
  creates_right e = by_arm l m m none none a create_right (rw e) (λ b. refl) refl

  -- onto one of the left arm
  puts_left : (t : Text) → matches (language source l) t ≡ true → matches (language sheet l) a ≡ true → Alike (union l m) l (some t) (some t) a
  unfolding apply arm_of write_arm meet_arm
  puts_left t e f = by_arm l m l (some t) (some t) a put_left (rw (e, f)) (λ b. refl) refl

  turns_right : (t : Text) → matches (language source l) t ≡ true → matches (language sheet l) a ≡ false → Alike (union l m) m (some t) none a
  unfolding apply arm_of write_arm meet_arm
  turns_right t e f = by_arm l m m (some t) none a create_right (rw (e, f)) (λ b. refl) refl

  -- onto one of the right arm
  puts_right : (t : Text) → matches (language source l) t ≡ false → matches (language sheet m) a ≡ true → Alike (union l m) m (some t) (some t) a
  unfolding apply arm_of write_arm meet_arm
  puts_right t e f = by_arm l m m (some t) (some t) a put_right (rw (e, f)) (λ b. refl) refl

  turns_left : (t : Text) → matches (language source l) t ≡ false → matches (language sheet m) a ≡ false → Alike (union l m) l (some t) none a
  unfolding apply arm_of write_arm meet_arm
  turns_left t e f = by_arm l m l (some t) none a create_left (rw (e, f)) (λ b. refl) refl

-- ---- The arms of a node

module _
    {bytes : Text}
    {node left right : ℕ}
    (s : TwoLenses (trees bytes) node left right (λ l m. lens (union l m)))
    {old kept : Option Text}
    {new : Text}
    {path : List ℕ}
    {base : ℕ} where
  -- the left one, where the sheet is parsed there and the union writes what it does
  left_arm :
      Parsed bytes left sheet base path new
      → Alike (union s.left s.right) s.left old kept new
      → ArmIs bytes node s.left s.right old kept new path (record { node = left; base = base })
  left_arm parsed same = record { arm = s.left; arm_of_lem = inl refl; arm_is = s.at_left; lower = s.left_lower; writes_same = same.writes; meets_same = same.meets; sheet_parsed = parsed }

  -- and the right one
  right_arm :
      Parsed bytes right sheet base path new
      → Alike (union s.left s.right) s.right old kept new
      → ArmIs bytes node s.left s.right old kept new path (record { node = right; base = base })
  right_arm parsed same = record { arm = s.right; arm_of_lem = inr refl; arm_is = s.at_right; lower = s.right_lower; writes_same = same.writes; meets_same = same.meets; sheet_parsed = parsed }

module _
    {bytes : Text}
    {prepared : List ℕ}
    {node left right base : ℕ}
    {new : Text}
    {path : List ℕ}
    {a : Automaton}
    {fits-left : Bool}
    (known-left : LensNode bytes prepared left)
    (s : TwoLenses (trees bytes) node left right (λ l m. lens (union l m)))
    (parsed : Parsed bytes node sheet base path new)
    (a-is : a ≡ automaton_at prepared left Sheet)
    (told : fits-left ≡ goes_left (base + a.count) a.nullable path) where
  left_sheets : Describes (language sheet s.left) a prepared
  unfolding mode_side side_for
  left_sheets = rw a-is (describes_lens known-left Key s.left s.at_left)

  begins : base + a.count ≡ base + positions (language sheet s.left)
  begins = ap (λ n. base + n) left_sheets.count_is

  -- the sheet is parsed at the arm by which its path goes
  sheet_left : fits-left ≡ true → (matches (language sheet s.left) new ≡ true) × Parsed bytes left sheet base path new
  sheet_left e =
      let goes = sym told ∙ e in
      (union_in_left parsed s begins left_sheets.nullable_is goes, union_left parsed s begins left_sheets.nullable_is goes)

  sheet_right : fits-left ≡ false → (matches (language sheet s.left) new ≡ false) × Parsed bytes right sheet (base + a.count) path new
  sheet_right e =
      let goes = sym told ∙ e in
      (union_not_left parsed s begins left_sheets.nullable_is goes, union_right parsed s begins left_sheets.nullable_is goes)

  -- without an old text
  pub arm_created_left : fits-left ≡ true → ArmIs bytes node s.left s.right none none new path (record { node = left; base = base })
  arm_created_left e = left_arm s (sheet_left e).1 (creates_left s.left s.right new (sheet_left e).0)

  pub arm_created_right : fits-left ≡ false → ArmIs bytes node s.left s.right none none new path (record { node = right; base = base + a.count })
  arm_created_right e = right_arm s (sheet_right e).1 (creates_right s.left s.right new (sheet_right e).0)

  -- onto the old text at a place
  module _
      {deck : Text}
      {p : Place}
      {a' : Automaton}
      {old-left : Bool}
      (known-right : LensNode bytes prepared right)
      (old : OldParsed bytes node deck p)
      (old-is : a' ≡ automaton_at prepared left Source)
      (old-told : old-left ≡ goes_left (p.base + a'.count) a'.nullable (lent_trail deck p.start p.len)) where
    left_sources : Describes (language source s.left) a' prepared
    unfolding mode_side side_for
    left_sources = rw old-is (describes_lens known-left Get s.left s.at_left)

    old_begins : p.base + a'.count ≡ p.base + positions (language source s.left)
    old_begins = ap (λ n. p.base + n) left_sources.count_is

    old_goes : old-left ≡ goes_left (p.base + a'.count) a'.nullable (part_at (trail_of deck) p)
    old_goes = rw (trail_lent deck p.start p.len) at old-told

    -- the old text is parsed at the arm by which its path goes
    old_is_left : old-left ≡ true → (matches (language source s.left) (part_at deck p) ≡ true) × OldParsed bytes left deck p
    old_is_left e =
        let goes = sym old_goes ∙ e in (
          union_in_left old.parsed s old_begins left_sources.nullable_is goes,
          record { inside = old.inside; parsed = union_left old.parsed s old_begins left_sources.nullable_is goes },
        )

    old_is_right :
        old-left ≡ false
        → (matches (language source s.left) (part_at deck p) ≡ false)
        × OldParsed bytes right deck (record { start = p.start; len = p.len; base = p.base + a'.count })
    old_is_right e =
        let goes = sym old_goes ∙ e in (
          union_not_left old.parsed s old_begins left_sources.nullable_is goes,
          record { inside = old.inside; parsed = union_right old.parsed s old_begins left_sources.nullable_is goes },
        )

    -- a sheet whose path goes right belongs to the right arm
    in_right : fits-left ≡ false → matches (language sheet s.right) new ≡ true
    in_right e = in_matches (language sheet s.right) new (least_in (least_as (sheet_right e).1 s.right s.at_right))

    right_sheets : Describes (language sheet s.right) (automaton_at prepared right Sheet) prepared
    unfolding mode_side side_for
    right_sheets = describes_lens known-right Key s.right s.at_right

    -- one that is fitted to it is parsed there by itself
    fitted_right :
        {after : List ℕ} {r : Bool}
        → Refitted prepared right new path after r
        → r ≡ true
        → (matches (language sheet s.right) new ≡ true) × Parsed bytes right sheet 0 after new
    unfolding mode_side side_for WellTyped
    fitted_right refitted e =
        let belongs = sym (refitted.decides (language sheet s.right) right_sheets) ∙ e in
        let fits : Fits bytes right sheet new =
        record {
          tree = s.right;
          tree_is = s.at_right;
          typed = (typed_as parsed (union s.left s.right) s.tree_is).2;
          belongs = matches_in_lem (language sheet s.right) new belongs;
        }
        in
        (belongs, parsed_found Key known-right refl fits (refitted.fitted e))

    pub arm_put_left : old-left ≡ true → fits-left ≡ true → ChoiceIs bytes node s.left s.right new path p deck (put_at left base p)
    unfolding old_text
    arm_put_left e f =
        record {
          is_arm = left_arm s (sheet_left f).1 (puts_left s.left s.right new (part_at deck p) (old_is_left e).0 (sheet_left f).0);
          old_parsed = old_at (old_is_left e).1;
        }

    pub arm_turned_right : old-left ≡ true → fits-left ≡ false → ChoiceIs bytes node s.left s.right new path p deck (created_at right (base + a.count))
    unfolding old_text
    arm_turned_right e f =
        record {
          is_arm = right_arm s (sheet_right f).1 (turns_right s.left s.right new (part_at deck p) (old_is_left e).0 (sheet_right f).0);
          old_parsed = old_none;
        }

    pub arm_put_right :
        old-left ≡ false
        → fits-left ≡ false
        → ChoiceIs bytes node s.left s.right new path p deck (put_at right (base + a.count) (record { start = p.start; len = p.len; base = p.base + a'.count }))
    unfolding old_text
    arm_put_right e f =
        record {
          is_arm = right_arm s (sheet_right f).1 (puts_right s.left s.right new (part_at deck p) (old_is_right e).0 (in_right f));
          old_parsed = old_at (old_is_right e).1;
        }

    module _ {after : List ℕ} {r : Bool} (refitted : Refitted prepared right new path after r) where
      pub arm_refitted :
          old-left ≡ false
          → r ≡ true
          → ChoiceIs bytes node s.left s.right new after p deck (put_at right 0 (record { start = p.start; len = p.len; base = p.base + a'.count }))
      unfolding old_text
      arm_refitted e f =
          let fitted = fitted_right refitted f in
          record {
            is_arm = right_arm s fitted.1 (puts_right s.left s.right new (part_at deck p) (old_is_right e).0 fitted.0);
            old_parsed = old_at (old_is_right e).1;
          }

      pub arm_turned_left : old-left ≡ false → fits-left ≡ true → r ≡ false → ChoiceIs bytes node s.left s.right new after p deck (created_at left base)
      unfolding old_text
      arm_turned_left e f g =
          let not_right = sym (refitted.decides (language sheet s.right) right_sheets) ∙ g in
          let still_left : Parsed bytes left sheet base after new = rw (refitted.unfitted g (language sheet s.right) right_sheets) (sheet_left f).1 in
          record {
            is_arm = left_arm s still_left (turns_left s.left s.right new (part_at deck p) (old_is_right e).0 not_right);
            old_parsed = old_none;
          }
