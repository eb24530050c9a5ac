-- What follows from what the steps answer: where the definitions cut, which parts they take, and that each piece is parsed at its node.
use Rattle.std.specs.Prelude.{◌≡◌, refl, Bool, true, false, cond, List, [], ◌∷◌, ◌++◌, ℕ, zero, suc, ◌+◌, ◌-◌, ◌^◌, ◌≤◌, ◌<◌, eqb, length, take, drop}
use Rattle.std.proofs.Common.{sym, ◌∙◌, zero-add, suc-add, arith, length-take, length-drop, take-take, drop-drop, length-take-le, eqb-true}
use Rattle.std.proofs.Math.Path.{ap, subst}
use Rattle.std.proofs.Math.Seq.{take-nil, drop-append_seam}
use Rattle.std.proofs.lemmas.Bool.{eqb-false}
use Rattle.semantics.specs.Text.{Text, or_else, apply}
use Rattle.semantics.specs.Lens.{Lens, repeat, source, sheet, language, cut_at, parts}
use Rattle.semantics.specs.Lens.{Side as SideOf}
use Rattle.semantics.specs.Table.{trees, lens, positions}
use Rattle.laws.specs.Paths.{border, first_loop, border_within, loop_within}
use Rattle.table.specs.Prepared.{OneLens}
use Rattle.positions.specs.Positions.{holds}
use Rattle.automaton.specs.declared.Side.TheVariants.{Source, Sheet}
use Rattle.automaton.specs.Rows.{automaton_at}
use Rattle.cuts.specs.declared.Ends.{Ends}
use Rattle.texts.specs.Overlay.{Wrote}
use Rattle.std.specs.Prelude.{Some, None}
use Rattle.lens.specs.declared.Mode.TheVariants.{Get, Key}
use Rattle.texts.specs.Overlay.{Writes, count_fits, writes_lent}
use Rattle.lens.specs.Reading.{mode_side, parts_none, parts_next}
use Rattle.lens.specs.Emitting.{side_for, LensNode}
use Rattle.lens.specs.Nodes.{describes_lens}
use Rattle.lens.specs.Parsed.{
  Parsed,
  ParsedJoin,
  Ends as EndsOf,
  few_as,
  join_length,
  border_inside,
  border_left,
  border_left_lent,
  border_right,
  border_is_cut,
  moved_ends,
  loop_part,
  loop_rest,
  loop_is_part,
}
use Rattle.books.specs.declared.Place.{Place}
use Rattle.books.specs.Old.{Old}
use Rattle.books.specs.Looking.{part_at, trail_of, old_text, OldParsed, OldFits}
use Rattle.steps.specs.declared.Cut.{Cut}
use Rattle.steps.specs.declared.Halves.{Halves}
use Rattle.steps.specs.declared.Next.{Next}
use Rattle.steps.specs.Steps.{
  PlaceInside,
  OldInside,
  cut_sheet,
  halves_of,
  EndsAre,
  old_base,
  next_at,
  none_next,
  next_of,
  old_parts,
  first_of,
  others_of,
  count_behind,
  Fits64,
}

-- ---- Parts of a list

-- what stands behind a place, in the front of a list
behind_taken : (i k : ℕ) (xs : List ℕ) → drop i (take (i + k) xs) ≡ take k (drop i xs)
behind_taken zero k xs = rw zero-add
behind_taken (suc i) k [] = rw (take-nil, take-nil)
behind_taken (suc i) k (x ∷ xs) = rw suc-add (behind_taken i k xs)

-- the first i of what stands at a place, and the rest of it
front_of : (xs : List ℕ) (start len i : ℕ) → i ≤ len → take i (drop start xs) ≡ take i (take len (drop start xs))
front_of xs start len i h = sym (take-take i len (drop start xs) h)

back_of : (xs : List ℕ) (start len i : ℕ) → i ≤ len → take (len - i) (drop (start + i) xs) ≡ drop i (take len (drop start xs))
back_of xs start len i h =
    let whole : len ≡ i + (len - i) = omega arith in
    ap (take (len - i)) (sym (drop-drop i start xs))
    ∙ sym (behind_taken i (len - i) (drop start xs))
    ∙ ap (λ n. drop i (take n (drop start xs))) (sym whole)

-- behind a part that was lent and came back, a list is as it was
pub behind_back :
    (s part : List ℕ) (o e : ℕ)
    → o ≤ e
    → e ≤ length s
    → length part ≡ length (take (e - o) (drop o s))
    → drop e (take o s ++ (part ++ drop (e - o) (drop o s))) ≡ drop e s
behind_back s part o e h k kept =
    let front : length (take o s) ≡ o = length-take-le o s (omega arith) in
    let part_long : length part ≡ e - o = kept ∙ length-take-le (e - o) (drop o s) (rw length-drop (omega arith)) in
    let there : e ≡ length (take o s) + length part = omega (arith, front, part_long) in
    let step : drop (length part) (drop (length (take o s)) (take o s ++ (part ++ drop (e - o) (drop o s)))) ≡ drop (e - o) (drop o s) =
    rw (drop-append_seam (take o s) (part ++ drop (e - o) (drop o s)), drop-append_seam part (drop (e - o) (drop o s))) in
    let back : o + (e - o) ≡ e = omega arith in
    ap (λ n. drop n (take o s ++ (part ++ drop (e - o) (drop o s)))) there
    ∙ sym (drop-drop (length part) (length (take o s)) (take o s ++ (part ++ drop (e - o) (drop o s))))
    ∙ step
    ∙ drop-drop (e - o) o s
    ∙ ap (λ n. drop n s) back

-- ---- An old text, or none

-- a place is one place
same_place : (p q : Place) → Some p ≡ Some q → p ≡ q
same_place p q e = cc e

module _ {bytes : Text} {node : ℕ} {deck : Text} where
  -- where there is no old text, none is parsed
  pub old_none : OldFits bytes node deck None
  old_none = record { fits = λ p e. absurd (let z : ◌≡◌ {A = ℕ} 0 1 = cc in omega arith) }

  -- the old text at a place is parsed
  pub old_at : {p : Place} → OldParsed bytes node deck p → OldFits bytes node deck (Some p)
  old_at {p} parsed = record { fits = λ q e. subst (OldParsed bytes node deck) (same_place p q e) parsed }

  -- one that is parsed stands within the old source
  pub place_inside : {p : Place} → OldParsed bytes node deck p → PlaceInside p
  place_inside parsed = record { inside = parsed.inside; based = omega (arith, parsed.parsed.few) }

  pub old_inside : {old : Old} → OldFits bytes node deck old → OldInside old
  old_inside fits = record { place_inside = λ p e. place_inside (fits.fits p e) }

-- ---- A sheet that is cut

module _
    {bytes : Text}
    {prepared : List ℕ}
    {left right base : ℕ}
    {path : List ℕ}
    {new : Text}
    {cut : Cut}
    (known : LensNode bytes prepared left)
    (parsed : ParsedJoin bytes left right sheet base path new)
    (cut_is : cut ≡ cut_sheet prepared left right base path) where
  -- the right half's positions begin where the left one's end
  sheet_begins : base + (automaton_at prepared left Sheet).count ≡ base + positions (language sheet parsed.first)
  unfolding mode_side side_for
  sheet_begins = ap (λ n. base + n) (describes_lens known Key parsed.first parsed.at_left).count_is

  at_is : cut.at ≡ border (base + (automaton_at prepared left Sheet).count) path
  at_is = ap (λ c. c.at) cut_is

  -- it is cut within it, and within its path
  pub cut_inside : (cut.at ≤ length new) × (cut.at ≤ length path)
  cut_inside =
      let h = border_inside parsed sheet_begins at_is in
      (h, omega (arith, h, join_length parsed))

  -- the halves are parsed at their nodes, the first as it is lent
  pub cut_near : Parsed bytes cut.left.node sheet cut.left.base (take (cut.at - 0) path) (take (cut.at - 0) new)
  cut_near = rw cut_is (border_left_lent parsed sheet_begins refl)

  pub cut_far : Parsed bytes cut.right.node sheet cut.right.base (drop cut.at path) (drop cut.at new)
  cut_far = rw cut_is (border_right parsed sheet_begins refl)

  -- and the cut is the definitions'
  pub cut_there : cut.at ≡ cut_at (language sheet parsed.first) (language sheet parsed.second) new
  cut_there = border_is_cut parsed sheet_begins at_is

-- ---- An old text that is cut

module _
    {bytes : Text}
    {prepared : List ℕ}
    {left right : ℕ}
    {halves : Halves}
    (p : Place)
    (deck : Text)
    (known : LensNode bytes prepared left)
    (inside : p.start + p.len ≤ 4096)
    (parsed : ParsedJoin bytes left right source p.base (part_at (trail_of deck) p) (part_at deck p))
    (halves_are : halves ≡ halves_of prepared left p deck) where
  -- the right half's positions begin where the left one's end
  source_begins : p.base + (automaton_at prepared left Source).count ≡ p.base + positions (language source parsed.first)
  unfolding mode_side side_for
  source_begins = ap (λ n. p.base + n) (describes_lens known Get parsed.first parsed.at_left).count_is

  -- the cut is within the old text, and that of the definitions
  within : border (p.base + (automaton_at prepared left Source).count) (part_at (trail_of deck) p) ≤ p.len
  within =
      omega (arith, border_within (p.base + (automaton_at prepared left Source).count) (part_at (trail_of deck) p), length-take p.len (drop p.start (trail_of deck)))

  there :
      border (p.base + (automaton_at prepared left Source).count) (part_at (trail_of deck) p)
      ≡ cut_at (language source parsed.first) (language source parsed.second) (part_at deck p)
  there = border_is_cut parsed source_begins refl

  -- the halves are those of the definitions
  pub first_text :
      part_at deck halves.first ≡ take (cut_at (language source parsed.first) (language source parsed.second) (part_at deck p)) (part_at deck p)
  first_text = ap (λ h. part_at deck h.first) halves_are ∙ front_of deck p.start p.len _ within ∙ ap (λ n. take n (part_at deck p)) there

  pub second_text :
      part_at deck halves.second ≡ drop (cut_at (language source parsed.first) (language source parsed.second) (part_at deck p)) (part_at deck p)
  second_text = ap (λ h. part_at deck h.second) halves_are ∙ back_of deck p.start p.len _ within ∙ ap (λ n. drop n (part_at deck p)) there

  -- and parsed at their nodes
  pub first_parsed : OldParsed bytes left deck halves.first
  first_parsed =
      rw
      halves_are
      (record {
        inside = omega (arith, inside, within);
        parsed =
            rw
            (front_of (trail_of deck) p.start p.len _ within, front_of deck p.start p.len _ within)
            (border_left parsed source_begins refl);
      })

  pub second_parsed : OldParsed bytes right deck halves.second
  second_parsed =
      rw
      halves_are
      (record {
        inside = omega (arith, inside, within);
        parsed =
            rw
            (back_of (trail_of deck) p.start p.len _ within, back_of deck p.start p.len _ within)
            (border_right parsed source_begins refl);
      })

-- ---- The parts of a repeat

-- the child of a repeat has the repeat's positions
child_few :
    {bytes : Text} {node child base : ℕ} {side : SideOf} {path : List ℕ} {text : Text}
    → Parsed bytes node side base path text
    → (s : OneLens (trees bytes) node child (λ l. lens (repeat l)))
    → base + positions (language side s.child) ≤ 128
unfolding language positions
child_few parsed s = few_as parsed (repeat s.child) s.tree_is

-- a part of a sheet ends at the child's last positions, and the next begins at its first
pub sheet_ends :
    {bytes : Text} {prepared : List ℕ} {node child base : ℕ} {path : List ℕ} {new : Text} {ends : Ends}
    → LensNode bytes prepared child
    → (s : OneLens (trees bytes) node child (λ l. lens (repeat l)))
    → Parsed bytes node sheet base path new
    → EndsAre prepared child Sheet base ends
    → EndsOf (language sheet s.child) base ends.last ends.first
unfolding mode_side side_for
sheet_ends known s parsed are =
    moved_ends (describes_lens known Key s.child s.at_child) (child_few parsed s) are.last_is are.first_is

-- If there is an old text, its parts end and begin at those positions.
pub record OldEnds (prepared : List ℕ) (child : ℕ) (old : Old) (ends : Ends) : Type 0 where
  pub ends_are : (p : Place) → old ≡ Some p → EndsAre prepared child Source p.base ends

pub old_ends : {prepared : List ℕ} {child : ℕ} {old : Old} {ends : Ends} → EndsAre prepared child Source (old_base old) ends → OldEnds prepared child old ends
old_ends {prepared} {child} {ends = ends} are = record { ends_are = λ p e. subst (λ o. EndsAre prepared child Source (old_base o) ends) e are }

-- The next part is the definitions' first, if they have one, and the rest has the others. Each is parsed, and the rest ends as before.
pub record NextFits (bytes : Text) (prepared : List ℕ) (node child : ℕ) (l : Lens) (deck : Text) (old : Old) (ends : Ends) (next : Next) : Type 0 where
  pub part_fits : OldFits bytes child deck next.part
  pub rest_fits : OldFits bytes node deck next.rest
  pub part_is : old_text deck next.part ≡ first_of (old_parts l deck old)
  pub rest_are : old_parts l deck next.rest ≡ others_of (old_parts l deck old)
  pub rest_ends : OldEnds prepared child next.rest ends

-- a text that is not cut short is as long as its place says
place_long : (deck : Text) (p : Place) → 8192 ≤ length deck → p.start + p.len ≤ 4096 → length (part_at deck p) ≡ p.len
place_long deck p room inside = length-take-le p.len (drop p.start deck) (rw length-drop (omega arith))

-- where no text is left, there is no part
next_none :
    {bytes : Text} {prepared : List ℕ} {node child : ℕ} (l : Lens) (deck : Text) (p : Place) (ends : Ends)
    → p.len ≡ 0
    → NextFits bytes prepared node child l deck (Some p) ends none_next
unfolding old_text or_else apply first_of others_of
next_none l deck p ends empty =
    let none_there : parts (language source l) (part_at deck p) ≡ [] = rw empty (parts_none (language source l)) in
    record {
      part_fits = old_none;
      rest_fits = old_none;
      part_is = rw none_there;
      rest_are = rw none_there;
      rest_ends = record { ends_are = λ q e. absurd (let z : ◌≡◌ {A = ℕ} 0 1 = cc in omega arith) };
    }

-- nor where there was none
nothing_next :
    {bytes : Text} {prepared : List ℕ} {node child : ℕ} (l : Lens) (deck : Text) (ends : Ends)
    → NextFits bytes prepared node child l deck None ends none_next
unfolding old_text or_else apply first_of others_of
nothing_next l deck ends =
    record {
      part_fits = old_none;
      rest_fits = old_none;
      part_is = refl;
      rest_are = refl;
      rest_ends = record { ends_are = λ q e. absurd (let z : ◌≡◌ {A = ℕ} 0 1 = cc in omega arith) };
    }

-- where there is more, the part ends at the path's first loop
module _
    {bytes : Text}
    {prepared : List ℕ}
    {node child : ℕ}
    (deck : Text)
    (p : Place)
    (ends : Ends)
    (known : LensNode bytes prepared child)
    (s : OneLens (trees bytes) node child (λ l. lens (repeat l)))
    (old : OldParsed bytes node deck p)
    (are : EndsAre prepared child Source p.base ends)
    (some_text_lem : 0 < length (part_at deck p)) where
  source_ends : EndsOf (language source s.child) p.base ends.last ends.first
  unfolding mode_side side_for
  source_ends = moved_ends (describes_lens known Get s.child s.at_child) (child_few old.parsed s) are.last_is are.first_is

  next_within : first_loop (holds ends.last) (holds ends.first) (part_at (trail_of deck) p) ≤ p.len
  next_within =
      omega (
        arith,
        loop_within (holds ends.last) (holds ends.first) (part_at (trail_of deck) p),
        length-take p.len (drop p.start (trail_of deck)),
      )

  -- the definitions' first part ends there
  next_parts :
      let i = first_loop (holds ends.last) (holds ends.first) (part_at (trail_of deck) p) in
      parts (language source s.child) (part_at deck p) ≡ take i (part_at deck p) ∷ parts (language source s.child) (drop i (part_at deck p))
  next_parts =
      rw
      (loop_is_part old.parsed s source_ends some_text_lem refl)
      (parts_next (language source s.child) (part_at deck p) some_text_lem)

  next_some : NextFits bytes prepared node child s.child deck (Some p) ends (next_at p ends deck)
  unfolding old_text or_else apply first_of others_of
  next_some =
      let trail = trail_of deck in
      let front = front_of deck p.start p.len _ next_within in
      let back = back_of deck p.start p.len _ next_within in
      record {
        part_fits = old_at (record {
          inside = omega (arith, old.inside, next_within);
          parsed = rw (front_of trail p.start p.len _ next_within, front) (loop_part old.parsed s source_ends some_text_lem refl);
        });
        rest_fits = old_at (record {
          inside = omega (arith, old.inside, next_within);
          parsed = rw (back_of trail p.start p.len _ next_within, back) (loop_rest old.parsed s source_ends some_text_lem refl);
        });
        part_is = rw (next_parts, front);
        rest_are = rw (next_parts, back);
        rest_ends = record { ends_are = λ q e. subst (λ (o : Old). EndsAre prepared child Source (old_base o) ends) e are };
      }

-- the next part of an old text, and what is left
pub next_fits :
    {bytes : Text} {prepared : List ℕ} {node child : ℕ} (deck : Text) (old : Old) {ends : Ends} {next : Next}
    → LensNode bytes prepared child
    → (s : OneLens (trees bytes) node child (λ l. lens (repeat l)))
    → 8192 ≤ length deck
    → OldFits bytes node deck old
    → OldEnds prepared child old ends
    → next ≡ next_of old ends deck
    → NextFits bytes prepared node child s.child deck old ends next
next_fits {bytes} {prepared} {node} {child} deck (Some p) {ends} known s room fits are e = rw e (go (eqb p.len 0) refl)
  where
    old : OldParsed bytes node deck p
    old = fits.fits p refl

    go : (empty : Bool) → eqb p.len 0 ≡ empty → NextFits bytes prepared node child s.child deck (Some p) ends (cond empty none_next (next_at p ends deck))
    go true f = next_none s.child deck p ends (eqb-true p.len 0 f)
    go false f =
        let some_left_lem = eqb-false p.len 0 f in
        next_some deck p ends known s old (are.ends_are p refl) (omega (arith, some_left_lem, place_long deck p room old.inside))
next_fits deck None {ends} known s room fits are e = rw e (nothing_next s.child deck ends)

-- ---- What is written behind what

-- a text written behind n bytes is counted with them
pub writes_behind :
    (s t before after rest : Text) (n : ℕ) (more : Wrote)
    → Writes s before after (Some n)
    → Writes t (take (length after - n) (drop n after)) rest more
    → Writes (s ++ t) before (take n after ++ (rest ++ drop (length after - n) (drop n after))) (count_behind n more)
writes_behind s t before after rest n (Some m) first second =
    writes_lent s t before after rest n (Some m) first second (Some (n + m)) (λ k e. cc) (λ e. absurd (let z : ◌≡◌ {A = ℕ} 0 1 = cc in omega arith))
writes_behind s t before after rest n None first second =
    writes_lent s t before after rest n None first second None (λ k e. absurd (let z : ◌≡◌ {A = ℕ} 0 1 = cc in omega arith)) (λ e. refl)

-- the sum is a number of 64 bits, since the buffer is no longer
pub behind_fits :
    (s t before after rest : Text) (n : ℕ) (more : Wrote)
    → Writes s before after (Some n)
    → Writes t (take (length after - n) (drop n after)) rest more
    → length before < 2 ^ 64
    → Fits64 n more
behind_fits s t before after rest n more first second small =
    record {
      fits = λ m e.
          let whole : Writes (s ++ t) before (take n after ++ (rest ++ drop (length after - n) (drop n after))) (Some (n + m)) =
          rw e at (writes_behind s t before after rest n more first second) in
          omega (arith, count_fits (s ++ t) before (n + m) whole.answer_is, small);
    }
