-- The parts of a repeat, read one by one: before the first, with one more, behind the last.
use mathlib.Core.Path.{◌≡◌, refl, sym, ap, subst, ◌∙◌}
use mathlib.Core.List.{List, [], ◌++◌, append_assoc, append-nil}
use Prim.Native.Nat.{ℕ, ◌+◌, ◌-◌, ◌≤◌, ◌<◌}
use native.Mathlib.Omega.{arith}
use lib.ListN.{length, take, drop, length-drop, drop_of_length-le}
use lib.Seq.{drop-drop}
use Rattle.semantics.specs.Text.{Text, joined}
use Rattle.semantics.specs.Lens.{Lens, repeat, Side, language}
use Rattle.semantics.specs.Table.{positions, lens, trees}
use Rattle.laws.specs.Paths.{first_loop}
use Rattle.positions.specs.declared.Set.{Set}
use Rattle.positions.specs.Positions.{holds, Moved}
use Rattle.table.specs.Prepared.{OneLens}
use Rattle.automaton.specs.declared.Automaton.{Automaton}
use Rattle.automaton.specs.Rows.{automaton_at, Describes}
use Rattle.lens.specs.declared.Mode.{Mode}
use Rattle.texts.specs.Overlay.{Wrote}
use Rattle.std.specs.Prelude.{Some, None}
use Rattle.texts.specs.Overlay.{Lays, overlay_length, writes_full, writes_nothing, writes_within}
use Rattle.lens.specs.Reading.{reading, mode_side, keyed, reading_repeat, first_part, parts_none, parts_next}
use Rattle.texts.specs.Cutting.{rest_lent}
use Rattle.lens.specs.Emitting.{side_for, LensNode, Emits}
use Rattle.lens.specs.Parsed.{
  Parsed,
  Ends,
  ParsedFrom,
  parsed_length,
  parsed_begin,
  few_as,
  moved_ends,
  loop_inside_from,
  loop_moves_from,
  loop_part_from,
  loop_rest_from,
  loop_is_part_from,
}
use Rattle.lens.specs.Nodes.{describes_lens, child_below}
use Rattle.lens.proofs.Emission.{its_lens, further, writes_further}

-- What is known where the parts before o have been read: the sets tell where a part ends, the rest is parsed, and n bytes are written.
pub record Repeating
    (bytes : Text)
    (node child : ℕ)
    (mode : Mode)
    (base : ℕ)
    (last first : Set)
    (path : List ℕ)
    (text out₀ out : Text)
    (o n : ℕ) : Type 0 where
  pub part : OneLens (trees bytes) node child (λ l. lens (repeat l))
  pub ends : Ends (language (mode_side mode) part.child) base last first
  pub as_long : length path ≡ length text
  pub parsed : ParsedFrom bytes node (mode_side mode) base path text o
  pub done : Text
  pub reading_is : reading mode (repeat part.child) text ≡ done ++ reading mode (repeat part.child) (drop o text)
  pub written : Lays (keyed mode) done out₀ out (Some n)

module _ (mode : Mode) (l : Lens) where
  -- the empty text has nothing to be read
  repeat_none : reading mode (repeat l) [] ≡ []
  unfolding joined
  repeat_none = rw (reading_repeat mode l [], parts_none (language (mode_side mode) l))

  -- of any other, the first part and what is behind it
  repeat_some :
      (t : Text) (i : ℕ)
      → 0 < length t
      → i ≡ first_part (language (mode_side mode) l) t
      → reading mode (repeat l) t ≡ reading mode l (take i t) ++ reading mode (repeat l) (drop i t)
  unfolding joined
  repeat_some t i some_text_lem e =
      rw (reading_repeat mode l t, parts_next (language (mode_side mode) l) t some_text_lem, ← e, reading_repeat mode l (drop i t))

-- the child of a repeat has the repeat's positions
child_few :
    {bytes : Text} {node child base : ℕ} {side : Side} {path : List ℕ} {text : Text}
    → Parsed bytes node side base path text
    → (s : OneLens (trees bytes) node child (λ l. lens (repeat l)))
    → base + positions (language side s.child) ≤ 128
unfolding language positions
child_few parsed s = few_as parsed (repeat s.child) s.tree_is

-- before the first part
pub repeat_begins :
    {bytes : Text} {prepared : List ℕ} {node child base : ℕ} {mode : Mode} {a : Automaton} {last first : Set} {path : List ℕ} {text out : Text}
    → LensNode bytes prepared node
    → OneLens (trees bytes) node child (λ l. lens (repeat l))
    → Parsed bytes node (mode_side mode) base path text
    → a ≡ automaton_at prepared child (side_for mode)
    → Moved a.last base last
    → Moved a.first base first
    → Repeating bytes node child mode base last first path text out out 0 0
repeat_begins {prepared = prepared} {mode = mode} {a = a} {out = out} known s parsed a-is up-last up_first =
    let described : Describes (language (mode_side mode) s.child) a prepared =
    rw a-is (describes_lens (child_below known s) mode s.child s.at_child) in
    record {
      part = s;
      ends = moved_ends described (child_few parsed s) up-last up_first;
      as_long = parsed_length parsed;
      parsed = parsed_begin parsed;
      done = [];
      reading_is = refl;
      written = writes_nothing out;
    }

module _
    {bytes : Text}
    {node child base : ℕ}
    {mode : Mode}
    {last first : Set}
    {path : List ℕ}
    {text out₀ out : Text}
    {o n : ℕ}
    (inv : Repeating bytes node child mode base last first path text out₀ out o n) where
  -- what is written is that of the repeat
  its_repeat :
      {after : Text} {answer : Wrote}
      → Lays (keyed mode) (reading mode (repeat inv.part.child) text) out₀ after answer
      → Emits bytes node mode text out₀ after answer
  its_repeat w = its_lens (repeat inv.part.child) inv.part.tree_is w

  -- behind the last part
  pub repeat_ends : length text ≤ o → Emits bytes node mode text out₀ out (Some n)
  repeat_ends end =
      let whole : reading mode (repeat inv.part.child) text ≡ inv.done =
      inv.reading_is ∙ rw (drop_of_length-le text end, repeat_none mode inv.part.child, append-nil) in
      its_repeat (subst (λ t. Lays (keyed mode) t out₀ out (Some n)) (sym whole) inv.written)

  -- what is written lies within the buffer, which is as long as before
  pub repeat_room : n ≤ length out
  repeat_room = writes_within inv.done out₀ out n inv.written

  pub repeat_length : length out ≡ length out₀
  repeat_length = ap length inv.written.buffer_is ∙ overlay_length inv.done out₀

  -- the path goes as far as the text, and where there is more of the text, there is more of the path
  pub path_within : o ≤ length path
  path_within = omega (arith, inv.parsed.within, inv.as_long)

  pub path_left : o < length text → 0 < length (take (length path - o) (drop o path))
  path_left more = rw (rest_lent path o, length-drop o path) (omega (arith, more, inv.as_long))

  -- one part more: it is lent from o on, with the buffer behind what is written
  module _ {i : ℕ} (more : o < length text) (i_is : i ≡ first_loop (holds last) (holds first) (take (length path - o) (drop o path))) where
    -- the part is not empty, lies within text and path, and is parsed at the child
    pub part_moves : 0 < i
    part_moves = loop_moves_from inv.parsed inv.part inv.ends more i_is

    pub part_within : (o + i ≤ length text) × (o + i ≤ length path)
    part_within =
        let h = loop_inside_from inv.parsed inv.part inv.ends more i_is in
        (h, omega (arith, h, inv.as_long))

    pub part_parsed : Parsed bytes child (mode_side mode) base (take (o + i - o) (drop o path)) (take (o + i - o) (drop o text))
    part_parsed = loop_part_from inv.parsed inv.part inv.ends more i_is

    -- with it the reading goes on behind it
    reading_on :
        reading mode (repeat inv.part.child) text
        ≡ (inv.done ++ reading mode inv.part.child (take (o + i - o) (drop o text)))
        ++ reading mode (repeat inv.part.child) (drop (o + i) text)
    reading_on =
        let l = inv.part.child in
        let place = loop_is_part_from inv.parsed inv.part inv.ends more i_is in
        let found : o + i - o ≡ i = omega arith in
        let some_text_lem : 0 < length (drop o text) = rw length-drop (omega (arith, more)) in
        inv.reading_is
        ∙ ap (λ t. inv.done ++ t) (repeat_some mode l (drop o text) i some_text_lem place ∙ rw (found, drop-drop i o text))
        ∙ sym (append_assoc inv.done (reading mode l (take (o + i - o) (drop o text))) (reading mode (repeat l) (drop (o + i) text)))

    module _
        {rest : Text}
        {answer : Wrote}
        (emitted : Emits bytes child mode (take (o + i - o) (drop o text)) (take (length out - n) (drop n out)) rest answer) where
      -- what is written with the part
      part_written :
          (w : Wrote)
          → answer ≡ w
          → Lays
          (keyed mode)
          (inv.done ++ reading mode inv.part.child (take (o + i - o) (drop o text)))
          out₀
          (take n out ++ (rest ++ drop (length out - n) (drop n out)))
          (further n w)
      part_written w e =
          writes_further
          inv.done
          (reading mode inv.part.child (take (o + i - o) (drop o text)))
          out₀
          out
          rest
          n
          answer
          w
          inv.written
          (emitted.writes inv.part.child inv.part.at_child)
          e

      -- where the part did not fit, the repeat does not
      pub repeat_full : answer ≡ None → Emits bytes node mode text out₀ (take n out ++ (rest ++ drop (length out - n) (drop n out))) None
      repeat_full e =
          its_repeat
          (rw
          reading_on
          (writes_full
          (inv.done ++ reading mode inv.part.child (take (o + i - o) (drop o text)))
          (reading mode (repeat inv.part.child) (drop (o + i) text))
          out₀
          (take n out ++ (rest ++ drop (length out - n) (drop n out)))
          (part_written None e)))

      -- where it did, the next is read behind it
      pub repeat_next :
          {m : ℕ}
          → answer ≡ Some m
          → Repeating bytes node child mode base last first path text out₀ (take n out ++ (rest ++ drop (length out - n) (drop n out))) (o + i) (n + m)
      repeat_next {m} e =
          record {
            part = inv.part;
            ends = inv.ends;
            as_long = inv.as_long;
            parsed = loop_rest_from inv.parsed inv.part inv.ends more i_is;
            done = inv.done ++ reading mode inv.part.child (take (o + i - o) (drop o text));
            reading_is = reading_on;
            written = part_written (Some m) e;
          }
