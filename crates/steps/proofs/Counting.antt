-- The parts of a repeat, counted along the path of its sheet: before the first, with one more, behind the last. Assumes nothing.
use mathlib.Core.Path.{◌≡◌, sym, ap, ◌∙◌}
use mathlib.Core.List.{List}
use Prim.Native.Nat.{ℕ, ◌+◌, ◌-◌, ◌≤◌, ◌<◌}
use native.Mathlib.Omega.{arith}
use lib.ListN.{length, take, drop, length-take, length-drop, drop_of_length-le}
use lib.Seq.{drop-drop}
use Rattle.semantics.specs.Text.{Text}
use Rattle.semantics.specs.Pattern.{Pattern}
use Rattle.semantics.specs.Lens.{repeat, sheet, language, parts}
use Rattle.semantics.specs.Table.{lens, trees}
use Rattle.laws.specs.Paths.{first_loop, loop_within, loop_some}
use Rattle.positions.specs.Positions.{holds}
use Rattle.table.specs.Prepared.{OneLens}
use Rattle.automaton.specs.declared.Side.TheVariants.{Sheet}
use Rattle.cuts.specs.declared.Ends.{Ends}
use Rattle.lens.specs.Reading.{first_part, parts_none, parts_next}
use Rattle.lens.specs.Emitting.{LensNode}
use Rattle.lens.specs.Parsed.{Parsed, ParsedFrom, parsed_length, parsed_begin, loop_rest_from, loop_is_part_from}
use Rattle.steps.specs.Steps.{EndsAre, CountsParts}
use Rattle.steps.specs.Stepping.{sheet_ends}

-- Behind the first o bytes a sheet is parsed, and n of its parts stand in front.
pub record PartsTo (bytes : Text) (node base : ℕ) (path : List ℕ) (r : Pattern) (new : Text) (o n : ℕ) : Type 0 where
  pub parsed : ParsedFrom bytes node sheet base path new o
  pub count_is : n + length (parts r (drop o new)) ≡ length (parts r new)

-- So it is for every sheet that has this path at a repeat.
pub record CountedTo (path : List ℕ) (ends : Ends) (o n : ℕ) : Type 0 where
  pub few : n ≤ o
  pub within : o ≤ length path
  pub counted :
      (bytes : Text) (prepared : List ℕ) (node child base : ℕ) (new : Text)
      → LensNode bytes prepared child
      → (s : OneLens (trees bytes) node child (λ l. lens (repeat l)))
      → EndsAre prepared child Sheet base ends
      → Parsed bytes node sheet base path new
      → PartsTo bytes node base path (language sheet s.child) new o n

-- at the begin there are none
pub counted_none : {path : List ℕ} {ends : Ends} → CountedTo path ends 0 0
counted_none =
    record {
      few = omega arith;
      within = omega arith;
      counted = λ bytes prepared node child base new known s are parsed. record { parsed = parsed_begin parsed; count_is = omega arith };
    }

-- where the first part from o on ends at o + i, there is one more than behind it
next_count :
    (r : Pattern) (new : Text) (o i : ℕ)
    → o < length new
    → i ≡ first_part r (drop o new)
    → length (parts r (drop o new)) ≡ 1 + length (parts r (drop (o + i) new))
next_count r new o i more e =
    let there : drop (first_part r (drop o new)) (drop o new) ≡ drop (o + i) new =
    ap (λ n. drop n (drop o new)) (sym e) ∙ drop-drop i o new in
    let behind : length (parts r (drop (first_part r (drop o new)) (drop o new))) ≡ length (parts r (drop (o + i) new)) =
    ap (λ t. length (parts r t)) there in
    ap length (parts_next r (drop o new) (rw length-drop (omega arith))) ∙ omega (arith, behind)

-- what is left of a path from o on, as it is lent
pub left_long : (path : List ℕ) (o : ℕ) → length (take (length path - o) (drop o path)) ≡ length path - o
left_long path o = length-take (length path - o) (drop o path) ∙ rw length-drop (omega arith)

module _ {path : List ℕ} {ends : Ends} {o n i : ℕ} (c : CountedTo path ends o n) (more : o < length path)
    (i_is : i ≡ first_loop (holds ends.last) (holds ends.first) (take (length path - o) (drop o path))) where
  -- the next part ends within it,
  pub count_inside : o + i ≤ length path
  count_inside =
      omega (arith, more, i_is, left_long path o, loop_within (holds ends.last) (holds ends.first) (take (length path - o) (drop o path)))

  -- and is not empty
  pub count_moves : 0 < i
  count_moves = rw i_is (loop_some (holds ends.last) (holds ends.first) (take (length path - o) (drop o path)) (omega (arith, more, left_long path o)))

  -- with it there is one more
  pub counted_more : CountedTo path ends (o + i) (n + 1)
  counted_more =
      record {
        few = omega (arith, c.few, count_moves);
        within = count_inside;
        counted = λ bytes prepared node child base new known s are parsed.
            let to = c.counted bytes prepared node child base new known s are parsed in
            let at-ends = sheet_ends known s parsed are in
            let text_left : o < length new = omega (arith, more, parsed_length parsed) in
            let part_is = loop_is_part_from to.parsed s at-ends text_left i_is in
            record {
              parsed = loop_rest_from to.parsed s at-ends text_left i_is;
              count_is = omega (arith, to.count_is, next_count (language sheet s.child) new o i text_left part_is);
            };
      }

-- at the end they are all
pub counted_all : {path : List ℕ} {ends : Ends} {o n : ℕ} → CountedTo path ends o n → length path ≤ o → CountsParts path ends n
counted_all {o = o} {n = n} c end =
    record {
      at_most = omega (arith, c.few, c.within);
      counts = λ bytes prepared node child base new known s are parsed.
          let to = c.counted bytes prepared node child base new known s are parsed in
          let r = language sheet s.child in
          let short : length new ≤ o = omega (arith, end, parsed_length parsed) in
          let none_left : length (parts r (drop o new)) ≡ 0 = ap (λ t. length (parts r t)) (drop_of_length-le new short) ∙ ap length (parts_none r) in
          omega (arith, to.count_is, none_left);
    }
