-- The parts of a repeat, put one by one onto the old parts: before the first, with one more, behind the last.
use mathlib.Core.Path.{◌≡◌, refl, sym, ap, subst, ◌∙◌}
use mathlib.Core.List.{List, [], ◌∷◌, ◌++◌, append_assoc, append-nil}
use mathlib.Core.Option.{Option}
use Prim.Native.Nat.{ℕ, ◌+◌, ◌-◌, ◌≤◌, ◌<◌}
use native.Mathlib.Omega.{arith}
use lib.ListN.{length, take, drop, length-take, length-drop, drop_of_length-le}
use lib.Seq.{drop-drop}
use Rattle.semantics.specs.Text.{Text}
use Rattle.semantics.specs.Lens.{repeat, sheet, language, parts}
use Rattle.semantics.specs.Table.{lens, trees}
use Rattle.laws.specs.Bookless.{plain, plain_parts, plain_repeat}
use Rattle.laws.specs.Paths.{first_loop}
use Rattle.positions.specs.declared.Set.{Set}
use Rattle.positions.specs.Positions.{holds}
use Rattle.table.specs.Prepared.{OneLens}
use Rattle.automaton.specs.declared.Side.TheVariants.{Source, Sheet}
use Rattle.cuts.specs.declared.Ends.{Ends}
use Rattle.texts.specs.Overlay.{Wrote}
use Rattle.std.specs.Prelude.{Some, None}
use Rattle.texts.specs.Overlay.{Writes, overlay_length, writes_full, writes_nothing, writes_within}
use Rattle.lens.specs.Reading.{parts_none, parts_next}
use Rattle.texts.specs.Cutting.{part_length_lem, rest_lent}
use Rattle.lens.specs.Emitting.{LensNode}
use Rattle.lens.specs.Nodes.{child_below}
use Rattle.lens.specs.Parsed.{
  Ends as EndsOf,
  ParsedFrom,
  parsed_length,
  parsed_begin,
  loop_inside_from,
  loop_moves_from,
  loop_part_from,
  loop_rest_from,
  loop_is_part_from,
}
use Rattle.books.specs.declared.Place.{Place}
use Rattle.books.specs.Old.{Old}
use Rattle.books.specs.Looking.{old_text, OldFits}
use Rattle.steps.specs.declared.Next.{Next}
use Rattle.steps.specs.Steps.{EndsAre, next_of, old_parts, first_of, others_of, count_behind}
use Rattle.steps.specs.Stepping.{behind_back, old_at, sheet_ends, OldEnds, old_ends, NextFits, next_fits, writes_behind}
use Rattle.bookless.specs.Bookless.{Given, GivenOld, PutsText}
use Rattle.bookless.proofs.Putting.{its_lens}

-- What is known where the parts before o have been put: the rest of the sheet is parsed, the old text that is left is, and n bytes are written.
pub record PartsPut
    (bytes : Text)
    (prepared : List ℕ)
    (node child base : ℕ)
    (last first : Set)
    (olds : Ends)
    (new : Text)
    (path : List ℕ)
    (deck out₀ out : Text)
    (begun left : Old)
    (o n : ℕ) : Type 0 where
  pub part : OneLens (trees bytes) node child (λ l. lens (repeat l))
  pub known : LensNode bytes prepared child
  pub ends : EndsOf (language sheet part.child) base last first
  pub new_short : length new ≤ 4096
  pub deck_room : 8192 ≤ length deck
  pub as_long : length path ≡ length new
  pub parsed : ParsedFrom bytes node sheet base path new o
  pub left_fits : OldFits bytes node deck left
  pub left_ends : OldEnds prepared child left olds
  pub done : Text
  pub text_is :
      plain (repeat part.child) (old_text deck begun) new
      ≡ done ++ plain_parts (plain part.child) (old_parts part.child deck left) (parts (language sheet part.child) (drop o new))
  pub written : Writes done out₀ out (Some n)

-- where no part of the sheet is left, nothing is put
parts_end : (w : Option Text → Text → Text) (olds : List Text) → plain_parts w olds [] ≡ []
unfolding plain_parts
parts_end w [] = refl
parts_end w (t ∷ ts) = refl

-- where one is, it is put onto the first old part, and the others onto the others
parts_step :
    (w : Option Text → Text → Text) (olds : List Text) (a : Text) (as' : List Text)
    → plain_parts w olds (a ∷ as') ≡ w (first_of olds) a ++ plain_parts w (others_of olds) as'
unfolding plain_parts first_of others_of
parts_step w [] a as' = refl
parts_step w (t ∷ ts) a as' = refl

-- before the first part
pub parts_begin :
    {bytes : Text} {prepared : List ℕ} {node child base : ℕ} {new : Text} {path : List ℕ} {p : Place} {deck out : Text} {sheets olds : Ends}
    → LensNode bytes prepared node
    → OneLens (trees bytes) node child (λ l. lens (repeat l))
    → Given bytes (record { node = node; base = base }) new path p deck
    → EndsAre prepared child Sheet base sheets
    → EndsAre prepared child Source p.base olds
    → PartsPut bytes prepared node child base sheets.last sheets.first olds new path deck out out (Some p) (Some p) 0 0
parts_begin {p = p} {deck = deck} {out = out} known s given sheets_are olds-are =
    let below = child_below known s in
    let parsed = given.sheet_given.parsed in
    record {
      part = s;
      known = below;
      ends = sheet_ends below s parsed sheets_are;
      new_short = given.sheet_given.new_short;
      deck_room = given.sheet_given.deck_room;
      as_long = parsed_length parsed;
      parsed = parsed_begin parsed;
      left_fits = old_at given.old_parsed;
      left_ends = old_ends olds-are;
      done = [];
      text_is = plain_repeat s.child (old_text deck (Some p)) _;
      written = writes_nothing out;
    }

module _
    {bytes : Text}
    {prepared : List ℕ}
    {node child base : ℕ}
    {last first : Set}
    {olds : Ends}
    {new : Text}
    {path : List ℕ}
    {deck out₀ out : Text}
    {begun left : Old}
    {o n : ℕ}
    (inv : PartsPut bytes prepared node child base last first olds new path deck out₀ out begun left o n) where
  -- what is written is that of the repeat
  its_repeat :
      {after : Text} {r : Wrote}
      → Writes (plain (repeat inv.part.child) (old_text deck begun) new) out₀ after r
      → PutsText bytes node (old_text deck begun) new out₀ after r
  its_repeat w = its_lens (repeat inv.part.child) inv.part.tree_is w

  -- behind the last part
  pub parts_put : length new ≤ o → PutsText bytes node (old_text deck begun) new out₀ out (Some n)
  parts_put end =
      let l = inv.part.child in
      let whole : plain (repeat l) (old_text deck begun) new ≡ inv.done =
      inv.text_is ∙ rw (drop_of_length-le new end, parts_none (language sheet l), parts_end (plain l) (old_parts l deck left), append-nil) in
      its_repeat (subst (λ t. Writes t out₀ out (Some n)) (sym whole) inv.written)

  -- what is written lies within the buffer, which is as long as before
  pub parts_room : n ≤ length out
  parts_room = writes_within inv.done out₀ out n inv.written

  pub parts_length : length out ≡ length out₀
  parts_length = ap length inv.written.buffer_is ∙ overlay_length inv.done out₀

  -- the path goes as far as the sheet, and where there is more of the sheet, there is more of the path
  pub path_within : o ≤ length path
  path_within = omega (arith, inv.parsed.within, inv.as_long)

  pub path_left : o < length new → 0 < length (take (length path - o) (drop o path))
  path_left more = rw (rest_lent path o, length-drop o path) (omega (arith, more, inv.as_long))

  -- one part more: it is lent from o on, with its path and the buffer behind what is written
  module _ {i : ℕ} (more : o < length new) (i_is : i ≡ first_loop (holds last) (holds first) (take (length path - o) (drop o path))) where
    -- the part is not empty, and lies within sheet and path
    pub part_moves : 0 < i
    part_moves = loop_moves_from inv.parsed inv.part inv.ends more i_is

    pub part_within : (o + i ≤ length new) × (o + i ≤ length path)
    part_within =
        let h = loop_inside_from inv.parsed inv.part inv.ends more i_is in
        (h, omega (arith, h, inv.as_long))

    module _ {next : Next} (next_is : next ≡ next_of left olds deck) where
      -- the next old part, and what is left
      next_old : NextFits bytes prepared node child inv.part.child deck left olds next
      next_old = next_fits deck left inv.known inv.part inv.deck_room inv.left_fits inv.left_ends next_is

      pub part_given :
          GivenOld bytes (record { node = child; base = base }) (take (o + i - o) (drop o new)) (take (o + i - o) (drop o path)) next.part deck
      part_given =
          record {
            sheet_given = record {
              new_short = omega (arith, inv.new_short, length-take (o + i - o) (drop o new), length-drop o new);
              parsed = loop_part_from inv.parsed inv.part inv.ends more i_is;
              deck_room = inv.deck_room;
            };
            old_fits = next_old.part_fits;
          }

      -- with it the text goes on behind it
      text_on :
          plain (repeat inv.part.child) (old_text deck begun) new
          ≡ (inv.done ++ plain inv.part.child (old_text deck next.part) (take (o + i - o) (drop o new)))
          ++ plain_parts (plain inv.part.child) (old_parts inv.part.child deck next.rest) (parts (language sheet inv.part.child) (drop (o + i) new))
      text_on =
          let l = inv.part.child in
          let sheets = language sheet l in
          let place = loop_is_part_from inv.parsed inv.part inv.ends more i_is in
          let found : o + i - o ≡ i = omega arith in
          let some_text_lem : 0 < length (drop o new) = rw length-drop (omega (arith, more)) in
          let are : parts sheets (drop o new) ≡ take (o + i - o) (drop o new) ∷ parts sheets (drop (o + i) new) =
          parts_next sheets (drop o new) some_text_lem ∙ rw (found, ← place, drop-drop i o new) in
          inv.text_is
          ∙ ap
          (λ t. inv.done ++ t)
          (ap (plain_parts (plain l) (old_parts l deck left)) are
          ∙ parts_step (plain l) (old_parts l deck left) (take (o + i - o) (drop o new)) (parts sheets (drop (o + i) new))
          ∙ rw (next_old.part_is, next_old.rest_are))
          ∙ sym (append_assoc
          inv.done
          (plain l (old_text deck next.part) (take (o + i - o) (drop o new)))
          (plain_parts (plain l) (old_parts l deck next.rest) (parts sheets (drop (o + i) new))))

      module _
          {rest : Text}
          {r : Wrote}
          (put : PutsText bytes child (old_text deck next.part) (take (o + i - o) (drop o new)) (take (length out - n) (drop n out)) rest r) where
        -- what is written with the part
        part_written :
            (w : Wrote)
            → r ≡ w
            → Writes
            (inv.done ++ plain inv.part.child (old_text deck next.part) (take (o + i - o) (drop o new)))
            out₀
            (take n out ++ (rest ++ drop (length out - n) (drop n out)))
            (count_behind n w)
        part_written w e =
            writes_behind
            inv.done
            (plain inv.part.child (old_text deck next.part) (take (o + i - o) (drop o new)))
            out₀
            out
            rest
            n
            w
            inv.written
            (rw e at (put.writes inv.part.child inv.part.at_child))

        -- where the part did not fit, the repeat does not
        pub parts_full : r ≡ None → PutsText bytes node (old_text deck begun) new out₀ (take n out ++ (rest ++ drop (length out - n) (drop n out))) None
        parts_full e =
            its_repeat
            (rw
            text_on
            (writes_full
            (inv.done ++ plain inv.part.child (old_text deck next.part) (take (o + i - o) (drop o new)))
            (plain_parts (plain inv.part.child) (old_parts inv.part.child deck next.rest) (parts (language sheet inv.part.child) (drop (o + i) new)))
            out₀
            (take n out ++ (rest ++ drop (length out - n) (drop n out)))
            (part_written None e)))

        -- where it did, the next is put behind it; behind the part, the path is as it was
        pub parts_next_put :
            {m : ℕ} (track : List ℕ)
            → r ≡ Some m
            → length track ≡ length (take (o + i - o) (drop o path))
            → PartsPut
            bytes
            prepared
            node
            child
            base
            last
            first
            olds
            new
            (take o path ++ (track ++ drop (o + i - o) (drop o path)))
            deck
            out₀
            (take n out ++ (rest ++ drop (length out - n) (drop n out)))
            begun
            next.rest
            (o + i)
            (n + m)
        parts_next_put {m} track e kept =
            let from = loop_rest_from inv.parsed inv.part inv.ends more i_is in
            record {
              part = inv.part;
              known = inv.known;
              ends = inv.ends;
              new_short = inv.new_short;
              deck_room = inv.deck_room;
              as_long = part_length_lem path track o (o + i) (omega arith) part_within.1 kept ∙ inv.as_long;
              parsed = record {
                within = from.within;
                rest = rw (behind_back path track o (o + i) (omega arith) part_within.1 kept) from.rest;
              };
              left_fits = next_old.rest_fits;
              left_ends = next_old.rest_ends;
              done = inv.done ++ plain inv.part.child (old_text deck next.part) (take (o + i - o) (drop o new));
              text_is = text_on;
              written = part_written (Some m) e;
            }
