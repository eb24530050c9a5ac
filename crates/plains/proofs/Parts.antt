-- The parts of a repeat, written one by one: before the first, with one more, behind the last.
use mathlib.Core.Path.{◌≡◌, refl, sym, ap, ◌∙◌}
use mathlib.Core.List.{List, [], ◌∷◌, ◌++◌}
use mathlib.Core.Option.{none, some}
use Prim.Native.Nat.{ℕ, ◌+◌, ◌-◌, ◌≤◌, ◌<◌}
use native.Mathlib.Nat.{add-zero, add_assoc}
use native.Mathlib.Omega.{arith}
use lib.ListN.{length, take, drop, length-append, length-take, length-drop, drop_of_length-le}
use lib.Seq.{drop-drop}
use Rattle.semantics.specs.Text.{Text}
use Rattle.semantics.specs.Lens.{Lens, repeat, sheet, language, parts, Written, Writer, and_then, write_parts, write}
use Rattle.semantics.specs.Lens.{Book as Entries}
use Rattle.semantics.specs.Table.{trees, lens}
use Rattle.semantics.specs.Tally.{Meeting, meet_parts, met}
use Rattle.laws.specs.Paths.{first_loop}
use Rattle.positions.specs.declared.Set.{Set}
use Rattle.positions.specs.Positions.{holds}
use Rattle.table.specs.Prepared.{OneLens}
use Rattle.automaton.specs.declared.Side.TheVariants.{Sheet}
use Rattle.cuts.specs.declared.Ends.{Ends}
use Rattle.lens.specs.Reading.{first_part, parts_none, parts_next}
use Rattle.texts.specs.Cutting.{rest_lent, part_length_lem}
use Rattle.lens.specs.Emitting.{LensNode}
use Rattle.lens.specs.Nodes.{same_lens, child_below}
use Rattle.lens.specs.Parsed.{Parsed, ParsedFrom, Ends as EndsOf, parsed_length, parsed_begin, loop_inside_from, loop_moves_from, loop_part_from, loop_rest_from, loop_is_part_from}
use Rattle.books.specs.declared.Book.{Book}
use Rattle.books.specs.Old.{Old}
use Rattle.books.specs.Looking.{old_text, OldFits, BookOver, same_all, same_then}
use Rattle.steps.specs.declared.Next.{Next}
use Rattle.steps.specs.declared.Spot.{Spot}
use Rattle.steps.specs.Steps.{EndsAre, next_of, old_parts, first_of, others_of}
use Rattle.steps.specs.Stepping.{behind_back, sheet_ends, OldEnds, next_fits}
use Rattle.bookless.specs.Bookless.{NewGiven}
use Rattle.plains.specs.declared.Done.{Done}
use Rattle.plains.specs.Writing.{WithinBuffer, Progress, WritesBehind}
use Rattle.plains.proofs.Behind.{then_same, then_again, then_nothing, progress_is, Left, behind_left, at_node}

-- ---- What the definitions write

-- one part meets the next old part, if there is one
parts_step :
    (w : Writer) (olds news : List Text) (new : Text) (b : Entries)
    → write_parts w olds (new ∷ news) b ≡ and_then (w (first_of olds) new b) (write_parts w (others_of olds) news)
unfolding write_parts first_of others_of
parts_step w [] news new b = refl
parts_step w (t ∷ olds) news new b = refl

-- the parts of a sheet: the next one, and those behind it
next_parts :
    (l : Lens) (new : Text) (o i : ℕ)
    → o < length new
    → i ≡ first_part (language sheet l) (drop o new)
    → parts (language sheet l) (drop o new) ≡ take (o + i - o) (drop o new) ∷ parts (language sheet l) (drop (o + i) new)
next_parts l new o i more i_is =
    let as_long : o + i - o ≡ i = omega arith in
    rw (as_long, i_is, ← (drop-drop (first_part (language sheet l) (drop o new)) o new)) (parts_next (language sheet l) (drop o new) (rw length-drop (omega arith)))

left_next :
    (l : Lens) (deck new : Text) (left : Old) (next : Next) (o i : ℕ)
    → o < length new
    → i ≡ first_part (language sheet l) (drop o new)
    → old_text deck next.part ≡ first_of (old_parts l deck left)
    → old_parts l deck next.rest ≡ others_of (old_parts l deck left)
    → (b : Entries)
    → write_parts (write l) (old_parts l deck left) (parts (language sheet l) (drop o new)) b
    ≡ and_then (write l (old_text deck next.part) (take (o + i - o) (drop o new)) b) (write_parts (write l) (old_parts l deck next.rest) (parts (language sheet l) (drop (o + i) new)))
left_next l deck new left next o i more i_is part_is rest_are b =
    rw
    (part_is, rest_are, next_parts l new o i more i_is)
    (parts_step (write l) (old_parts l deck left) (parts (language sheet l) (drop (o + i) new)) (take (o + i - o) (drop o new)) b)

-- and how many matches they meet
parts_met :
    (f : Meeting) (olds news : List Text) (new : Text)
    → length (meet_parts f olds (new ∷ news)) ≡ length (f (first_of olds) new) + length (meet_parts f (others_of olds) news)
unfolding meet_parts first_of others_of
parts_met f [] news new = length-append (f none new) (meet_parts f [] news)
parts_met f (t ∷ olds) news new = length-append (f (some t) new) (meet_parts f olds news)

left_met :
    (l : Lens) (deck new : Text) (left : Old) (next : Next) (o i : ℕ)
    → o < length new
    → i ≡ first_part (language sheet l) (drop o new)
    → old_text deck next.part ≡ first_of (old_parts l deck left)
    → old_parts l deck next.rest ≡ others_of (old_parts l deck left)
    → length (meet_parts (met l) (old_parts l deck left) (parts (language sheet l) (drop o new)))
    ≡ length (met l (old_text deck next.part) (take (o + i - o) (drop o new)))
    + length (meet_parts (met l) (old_parts l deck next.rest) (parts (language sheet l) (drop (o + i) new)))
left_met l deck new left next o i more i_is part_is rest_are =
    rw
    (part_is, rest_are, next_parts l new o i more i_is)
    (parts_met (met l) (old_parts l deck left) (parts (language sheet l) (drop (o + i) new)) (take (o + i - o) (drop o new)))

-- no part is left
parts_over : (w : Writer) (olds : List Text) (v : Written) → and_then v (write_parts w olds []) ≡ v
unfolding write_parts
parts_over w olds v = then_nothing v

none_met : (f : Meeting) (olds : List Text) → length (meet_parts f olds []) ≡ 0
unfolding meet_parts
none_met f olds = refl

-- ---- The turns of the loop

-- The parts up to o of the sheet were written, from `start` on; the sheet behind o is parsed, and `left` has the old parts of the others.
pub record Parting
    (bytes : Text)
    (prepared : List ℕ)
    (child base : ℕ)
    (last first : Set)
    (olds : Ends)
    (new deck : Text)
    (old : Old)
    (start : Done)
    (before : Text)
    (path : List ℕ)
    (left : Old)
    (o : ℕ)
    (out : Text)
    (done : Done) : Type 0 where
  pub node : ℕ
  pub known : LensNode bytes prepared node
  pub one : OneLens (trees bytes) node child (λ l. lens (repeat l))
  pub ends : EndsOf (language sheet one.child) base last first
  pub parsed : ParsedFrom bytes node sheet base path new o
  pub left_fits : OldFits bytes node deck left
  pub left_ends : OldEnds prepared child left olds
  pub so_far : Entries → Written
  pub so_far_is :
      (b : Entries)
      → write (repeat one.child) (old_text deck old) new b
      ≡ and_then (so_far b) (write_parts (write one.child) (old_parts one.child deck left) (parts (language sheet one.child) (drop o new)))
  pub met_so_far : ℕ
  pub met_is :
      length (met (repeat one.child) (old_text deck old) new)
      ≡ met_so_far + length (meet_parts (met one.child) (old_parts one.child deck left) (parts (language sheet one.child) (drop o new)))
  pub progress :
      (w : Written) (k : ℕ) (b : Book) (first : Text)
      → Progress bytes deck w k b first before start
      → Progress bytes deck (and_then w so_far) (k + met_so_far) b first out done
  pub kept : Left start out done

-- no part was written yet
pub parting_begins :
    {bytes : Text} {prepared : List ℕ} {node child base : ℕ} {ends olds : Ends} {new path deck : Text} {old : Old} {done : Done} {out : Text}
    → LensNode bytes prepared node
    → OneLens (trees bytes) node child (λ l. lens (repeat l))
    → Parsed bytes node sheet base path new
    → EndsAre prepared child Sheet base ends
    → OldFits bytes node deck old
    → OldEnds prepared child old olds
    → BookOver 4096 done.book
    → WithinBuffer done out
    → Parting bytes prepared child base ends.last ends.first olds new deck old done out path old 0 out done
unfolding write met and_then
parting_begins {done = done} known one parsed are fits old-are over within =
    record {
      node = _;
      known = known;
      one = one;
      ends = sheet_ends (child_below known one) one parsed are;
      parsed = parsed_begin parsed;
      left_fits = fits;
      left_ends = old-are;
      so_far = λ b. record { text = []; book = b };
      so_far_is = λ b. refl;
      met_so_far = 0;
      met_is = omega arith;
      progress = λ w k b first p. progress_is (sym (then_nothing w)) (sym (add-zero k)) p;
      kept = record { over = over; same_entries = same_all done.book; within = within };
    }

module _
    {bytes : Text}
    {prepared : List ℕ}
    {child base : ℕ}
    {last first : Set}
    {olds : Ends}
    {new deck : Text}
    {old : Old}
    {start : Done}
    {before : Text}
    {path : List ℕ}
    {left : Old}
    {o : ℕ}
    {out : Text}
    {done : Done}
    (parting : Parting bytes prepared child base last first olds new deck old start before path left o out done) where
  -- where there is more of the sheet, there is more of its path
  pub more_path : o < length new → o < length path
  more_path more = omega (arith, more, parsed_length parting.parsed.rest, length-drop o path, length-drop o new)

  pub more_lent : o < length new → 0 < length (take (length path - o) (drop o path))
  more_lent more = rw (rest_lent path o, length-drop) (omega (arith, more_path more))

  -- the next part is not empty, and within both; it is parsed at the child
  module _ {i : ℕ} (more : o < length new) (i_is : i ≡ first_loop (holds last) (holds first) (take (length path - o) (drop o path))) where
    pub part_inside : (0 < i) × (o + i ≤ length new) × (o + i ≤ length path)
    part_inside =
        let inside = loop_inside_from parting.parsed parting.one parting.ends more i_is in (
          loop_moves_from parting.parsed parting.one parting.ends more i_is,
          inside,
          omega (arith, inside, more, parsed_length parting.parsed.rest, length-drop o path, length-drop o new),
        )

    -- the path is as long when its part was lent and came back
    pub part_back :
        (part : List ℕ)
        → length part ≡ length (take (o + i - o) (drop o path))
        → length (take o path ++ (part ++ drop (o + i - o) (drop o path))) ≡ length path
    part_back part as_long = part_length_lem path part o (o + i) (omega arith) part_inside.2 as_long

    pub part_given :
        {spot : Spot} {whole : List ℕ}
        → NewGiven bytes spot new whole deck
        → NewGiven bytes (record { node = child; base = base }) (take (o + i - o) (drop o new)) (take (o + i - o) (drop o path)) deck
    part_given given =
        record {
          new_short = omega (arith, given.new_short, length-take (o + i - o) (drop o new), length-drop o new);
          parsed = loop_part_from parting.parsed parting.one parting.ends more i_is;
          deck_room = given.deck_room;
        }

  -- it meets an old part that is parsed at the child
  pub part_old : {next : Next} → 8192 ≤ length deck → next ≡ next_of left olds deck → OldFits bytes child deck next.part
  part_old room next_is =
      (next_fits deck left (child_below parting.known parting.one) parting.one room parting.left_fits parting.left_ends next_is).part_fits

  -- the sheet has no more parts
  pub parting_ends :
      {node : ℕ}
      → OneLens (trees bytes) node child (λ l. lens (repeat l))
      → length new ≤ o
      → WritesBehind bytes node deck (old_text deck old) new start before out done
  parting_ends s end =
      let l = parting.one.child in
      let same : s.child ≡ l = same_lens s.child l (sym s.at_child ∙ parting.one.at_child) in
      let none_left : parts (language sheet l) (drop o new) ≡ [] = rw (drop_of_length-le new end) (parts_none (language sheet l)) in
      let whole : (b : Entries) → write (repeat l) (old_text deck old) new b ≡ parting.so_far b =
      λ b. parting.so_far_is b ∙ rw none_left (parts_over (write l) (old_parts l deck left) (parting.so_far b)) in
      let all_met : length (met (repeat l) (old_text deck old) new) ≡ parting.met_so_far =
      parting.met_is ∙ rw (none_left, none_met (met l) (old_parts l deck left)) (add-zero parting.met_so_far) in
      at_node
      (repeat l)
      (s.tree_is ∙ ap (λ k. lens (repeat k)) same)
      (record { progress = λ w k b front p. progress_is (sym (then_same w whole)) (ap (λ n. k + n) (sym all_met)) (parting.progress w k b front p) })

  -- one part more: behind it, the path is as it was
  pub parting_next :
      {i : ℕ} {next : Next} {out' : Text} {done' : Done} (part : List ℕ)
      → 8192 ≤ length deck
      → o < length new
      → i ≡ first_loop (holds last) (holds first) (take (length path - o) (drop o path))
      → next ≡ next_of left olds deck
      → WritesBehind bytes child deck (old_text deck next.part) (take (o + i - o) (drop o new)) done out out' done'
      → length part ≡ length (take (o + i - o) (drop o path))
      → Parting bytes prepared child base last first olds new deck old start before (take o path ++ (part ++ drop (o + i - o) (drop o path))) next.rest (o + i) out' done'
  parting_next {i} {next} {out'} {done'} part room more i_is next_is wrote as_long =
      let s = parting.one in
      let l = s.child in
      let known = child_below parting.known s in
      let (moves, inside, path-long) = part_inside more i_is in
      let fits = next_fits deck left known s room parting.left_fits parting.left_ends next_is in
      let behind = behind_back path part o (o + i) (omega arith) path-long as_long in
      let rest = loop_rest_from parting.parsed s parting.ends more i_is in
      let wrote-part = wrote.writes l s.at_child in
      let after = behind_left parting.kept.over parting.kept.within wrote-part in
      let one_part = write l (old_text deck next.part) (take (o + i - o) (drop o new)) in
      record {
        node = parting.node;
        known = parting.known;
        one = s;
        ends = parting.ends;
        parsed = record { within = inside; rest = rw behind rest.rest };
        left_fits = fits.rest_fits;
        left_ends = fits.rest_ends;
        so_far = λ b. and_then (parting.so_far b) one_part;
        met_so_far = parting.met_so_far + length (met l (old_text deck next.part) (take (o + i - o) (drop o new)));
        met_is =
            parting.met_is
            ∙ ap (λ n. parting.met_so_far + n) (left_met l deck new left next o i more (loop_is_part_from parting.parsed s parting.ends more i_is) fits.part_is fits.rest_are)
            ∙ sym (add_assoc parting.met_so_far _ _);
        so_far_is = λ b. parting.so_far_is b ∙ then_same (parting.so_far b) (left_next l deck new left next o i more (loop_is_part_from parting.parsed s parting.ends more i_is) fits.part_is fits.rest_are) ∙ then_again (parting.so_far b) one_part _;
        progress = λ w k b front p.
            progress_is
            (sym (then_again w parting.so_far one_part))
            (add_assoc k parting.met_so_far _)
            (wrote-part.progress (and_then w parting.so_far) (k + parting.met_so_far) b front (parting.progress w k b front p));
        kept = record { over = after.over; same_entries = same_then parting.kept.same_entries after.same_entries; within = after.within };
      }
