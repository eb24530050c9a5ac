-- What the listing of a repeat knows at each turn: the entries of the parts that it has passed are listed.
use mathlib.Core.Path.{◌≡◌, refl, sym, ap, ◌∙◌}
use mathlib.Core.List.{List, [], ◌++◌, append-nil, append_assoc}
use Prim.Native.Nat.{ℕ, ◌+◌, ◌-◌, ◌≤◌, ◌<◌}
use native.Mathlib.Nat.{lt_trans}
use native.Mathlib.Omega.{arith}
use lib.ListN.{length, take, drop, length-drop, take-append-drop, drop_of_length-le}
use lib.Seq.{take_all, take-add, drop-drop, length-take-le}
use Rattle.semantics.specs.Text.{Text, joined}
use Rattle.semantics.specs.Lens.{repeat, match, source, language}
use Rattle.semantics.specs.Lens.{Book as Entries}
use Rattle.semantics.specs.Table.{node_count, positions, Tree, lens, tree_at, trees}
use Rattle.laws.specs.Paths.{first_loop}
use Rattle.positions.specs.declared.Set.{Set}
use Rattle.positions.specs.Positions.{holds, Added, Moved}
use Rattle.table.specs.Prepared.{OneLens}
use Rattle.automaton.specs.declared.Automaton.{Automaton}
use Rattle.automaton.specs.declared.Side.TheVariants.{Source}
use Rattle.automaton.specs.Rows.{automaton_at}
use Rattle.automaton.specs.Built.{tree_language}
use Rattle.lens.specs.Reading.{first_part, parts_none, parts_next}
use Rattle.texts.specs.Cutting.{rest_lent}
use Rattle.lens.specs.Parsed.{
  Parsed,
  ParsedFrom,
  Ends,
  parsed_length,
  few_as,
  moved_ends,
  parsed_begin,
  loop_inside_from,
  loop_moves_from,
  loop_part_from,
  loop_rest_from,
  loop_is_part_from,
}
use Rattle.books.specs.declared.Book.{Book}
use Rattle.books.specs.Listed.{added, Entered, Sized}
use Rattle.std.specs.Prelude.{Option, Some, None}
use Rattle.listing.specs.Listing.{ToList, ListsInto, Lists, tree_entries, repeat_entries, lists_as, lists_many, lists_none, lists_added, lists_full, lists_next, lists_over}
use Rattle.listing.proofs.NodeEntries.{node_described, match_entries}

-- The sets hold the last and the first positions of the child's sources. Up to o the entries are listed; what is beyond it is parsed as
-- the repeat.
pub record Repeated
    (bytes : Text) (node child base : ℕ) (path text : Text) (at : ℕ) (before : Book) (last first : Set) (book : Book) (o : ℕ) : Type 0 where
  pub ends : Ends (tree_language source (tree_at (trees bytes) child)) base last first
  pub as_long : length path ≡ length text
  pub left : ParsedFrom bytes node source base path text o
  pub done : Entries
  pub entries_are : repeat_entries (tree_at (trees bytes) child) text ≡ done ++ repeat_entries (tree_at (trees bytes) child) (drop o text)
  pub lists_done : ListsInto bytes done (take o text) (take o path) at before book

-- The part from o on, of length i, is not empty, lies within text and path, and is parsed at the child, as it is lent.
pub record Turn (bytes : Text) (child base : ℕ) (path text : Text) (o i : ℕ) : Type 0 where
  pub moves : 0 < i
  pub within : o + i ≤ length text
  pub on_path : o + i ≤ length path
  pub parsed : Parsed bytes child source base (take (o + i - o) (drop o path)) (take (o + i - o) (drop o text))

-- the empty text has no parts, and so no entries
repeat_none : (child : Tree) → repeat_entries child [] ≡ []
unfolding repeat_entries joined
repeat_none child = rw parts_none

-- the first part's entries stand in front of the others
repeat_next :
    (child : Tree) (t : Text) (i : ℕ)
    → 0 < length t
    → i ≡ first_part (tree_language source child) t
    → repeat_entries child t ≡ tree_entries child (take i t) ++ repeat_entries child (drop i t)
unfolding repeat_entries joined
repeat_next child t i some_text_lem e = rw (e, parts_next (tree_language source child) t some_text_lem)

-- nothing is passed yet: the sets are the automaton's, moved up by base
pub repeated_begin :
    {bytes : Text} {prepared : List ℕ} {node child base : ℕ} {path text : Text} {at : ℕ} {b : Book} {a : Automaton} {last first : Set}
    → ToList bytes prepared text at b
    → node < node_count bytes
    → Parsed bytes node source base path text
    → OneLens (trees bytes) node child (λ l. lens (repeat l))
    → a ≡ automaton_at prepared child Source
    → Moved a.last base last × Moved a.first base first
    → Repeated bytes node child base path text at b last first b 0
unfolding language positions tree_language
repeated_begin {bytes} {at = at} {b = b} asked inside parsed s a-is (up-last, up_first) =
    let described = node_described asked.built (lt_trans s.lower inside) s.child s.at_child refl in
    record {
      ends = rw s.at_child (moved_ends described (few_as parsed (repeat s.child) s.tree_is) (rw a-is at up-last) (rw a-is at up_first));
      as_long = parsed_length parsed;
      left = parsed_begin parsed;
      done = [];
      entries_are = refl;
      lists_done = lists_none bytes [] [] at b asked.sized asked.few;
    }

module _
    {bytes : Text} {node child base : ℕ} {path text : Text} {at : ℕ} {before : Book} {last first : Set} {book : Book} {o : ℕ}
    (known : Repeated bytes node child base path text at before last first book o) where
  -- the tree of the repeat's child
  abbrev part_tree : Tree
  part_tree = tree_at (trees bytes) child

  -- everything is passed
  pub repeated_ends : length text ≤ o → ListsInto bytes (repeat_entries part_tree text) text path at before book
  repeated_ends ends =
      let all : repeat_entries part_tree text ≡ known.done =
      known.entries_are ∙ ap (λ t. known.done ++ repeat_entries part_tree t) (drop_of_length-le text ends) ∙ rw (repeat_none, append-nil) in
      rw all (rw (take_all o text ends, take_all o path (omega (arith, known.as_long))) at known.lists_done)

  -- what is left of the path begins where what is left of the text does
  pub path_reaches : o ≤ length path
  path_reaches = omega (arith, known.left.within, known.as_long)

  -- where there is more text, there is more of the path, as it is lent
  pub path_left : o < length text → 0 < length (take (length path - o) (drop o path))
  path_left more = rw (rest_lent path o) (omega (arith, known.as_long, length-drop o path))

  -- the sets, as those of the child's lens
  child_ends : (s : OneLens (trees bytes) node child (λ l. lens (repeat l))) → Ends (language source s.child) base last first
  unfolding tree_language
  child_ends s = rw s.at_child at known.ends

  module _
      {i : ℕ}
      (s : OneLens (trees bytes) node child (λ l. lens (repeat l)))
      (more : o < length text)
      (i_is : i ≡ first_loop (holds last) (holds first) (take (length path - o) (drop o path))) where
    -- the part that the path tells is such a part
    pub turn : Turn bytes child base path text o i
    turn =
        let within = loop_inside_from known.left s (child_ends s) more i_is in
        record {
          moves = loop_moves_from known.left s (child_ends s) more i_is;
          within = within;
          on_path = omega (arith, within, known.as_long);
          parsed = loop_part_from known.left s (child_ends s) more i_is;
        }

    -- and the first of what is left
    part_is : i ≡ first_part (tree_language source part_tree) (drop o text)
    unfolding tree_language
    part_is = rw s.at_child (loop_is_part_from known.left s (child_ends s) more i_is)

    -- the text's entries: those listed before, the part's, and the others
    entries_now :
        repeat_entries part_tree text
        ≡ (known.done ++ tree_entries part_tree (take i (drop o text))) ++ repeat_entries part_tree (drop (o + i) text)
    entries_now =
        let some_text_lem : 0 < length (drop o text) = rw length-drop (omega arith) in
        known.entries_are
        ∙ ap (λ es. known.done ++ es) (repeat_next part_tree (drop o text) i some_text_lem part_is)
        ∙ ap (λ t. known.done ++ (tree_entries part_tree (take i (drop o text)) ++ repeat_entries part_tree t)) (drop-drop i o text)
        ∙ sym (append_assoc known.done (tree_entries part_tree (take i (drop o text))) (repeat_entries part_tree (drop (o + i) text)))

    -- the entries up to the part's end
    listed_now :
        {r : Option Book}
        → Lists bytes (tree_entries part_tree (take (o + i - o) (drop o text))) (take (o + i - o) (drop o text)) (take (o + i - o) (drop o path)) (at + o) book r
        → Lists bytes (known.done ++ tree_entries part_tree (take i (drop o text))) (take (o + i) text) (take (o + i) path) at before r
    listed_now {r} listed =
        let size : o + i - o ≡ i = omega arith in
        let up_to : length (take o text) ≡ o = length-take-le o text known.left.within in
        let here : Lists bytes (tree_entries part_tree (take i (drop o text))) (take i (drop o text)) (take i (drop o path)) (at + length (take o text)) book r =
        rw up_to (rw size at listed) in
        let as-far = length-take-le o path path_reaches ∙ sym up_to in
        rw
        (take-add o i text, take-add o i path)
        (lists_next (tree_entries part_tree (take i (drop o text))) (take i (drop o text)) (take i (drop o path)) as-far known.lists_done here)

    module _
        {r : Option Book}
        (listed : Lists bytes (tree_entries part_tree (take (o + i - o) (drop o text))) (take (o + i - o) (drop o text)) (take (o + i - o) (drop o path)) (at + o) book r) where
      -- one more part is passed
      pub repeated_next : {next : Book} → r ≡ Some next → Repeated bytes node child base path text at before last first next (o + i)
      repeated_next {next} is =
          record {
            ends = known.ends;
            as_long = known.as_long;
            left = loop_rest_from known.left s (child_ends s) more i_is;
            done = known.done ++ tree_entries part_tree (take i (drop o text));
            entries_are = entries_now;
            lists_done = (listed_now listed).listed_into next is;
          }

      -- there are too many entries already
      pub repeated_over : r ≡ None → Lists bytes (repeat_entries part_tree text) text path at before None
      repeated_over is =
          let end = o + i in
          let all = lists_over (repeat_entries part_tree (drop end text)) (drop end text) ((listed_now listed).over is) in
          lists_as entries_now (lists_many (rw (take-append-drop end text) at all))

-- ---- Where the child is a match, the part is one entry

module _
    {bytes : Text} {child inner base : ℕ} {path text : Text} {o i : ℕ} {book : Book}
    (m : OneLens (trees bytes) child inner (λ l. lens (match inner l)))
    (found : Turn bytes child base path text o i)
    (sized : Sized book)
  where
    -- it is as long as it was found
    part_long : length (take (o + i - o) (drop o text)) ≡ o + i - o
    part_long = length-take-le (o + i - o) (drop o text) (rw length-drop (omega (arith, found.within)))

    -- there is room for it
    pub part_added :
        (at : ℕ) (left : Set)
        → book.count < 256
        → Added book.left inner left
        → Lists bytes (tree_entries (tree_at (trees bytes) child) (take (o + i - o) (drop o text))) (take (o + i - o) (drop o text)) (take (o + i - o) (drop o path)) (at + o) book (Some (added book (at + o) (o + i - o) base inner left))
    part_added at left room now-left =
        let entered : Entered book (at + o) (o + i - o) base inner (added book (at + o) (o + i - o) base inner left) =
        record { book_is = refl; left_is = now-left } in
        match_entries m found.parsed (lists_added (take (o + i - o) (drop o text)) (at + o) book base inner sized room (sym part_long) entered)

    -- or none
    pub part_full :
        (at : ℕ)
        → book.count ≡ 256
        → Lists bytes (tree_entries (tree_at (trees bytes) child) (take (o + i - o) (drop o text))) (take (o + i - o) (drop o text)) (take (o + i - o) (drop o path)) (at + o) book None
    part_full at full = match_entries m found.parsed (lists_full (take (o + i - o) (drop o text)) (at + o) book base inner (omega (arith, full)))
