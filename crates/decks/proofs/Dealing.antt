-- The cards of the entries, one by one, behind the old source and its path. Assumes nothing.
use mathlib.Core.Path.{◌≡◌, refl, sym, ap, subst, ◌∙◌}
use mathlib.Core.Bool.{Bool, true, false}
use mathlib.Core.List.{List, ◌++◌}
use mathlib.Core.Option.{some}
use Prim.Native.Nat.{ℕ, ◌+◌, ◌-◌, ◌*◌, ◌≤◌, ◌<◌, min, max}
use native.Mathlib.Nat.{sub-zero, add-sub_cancel_left, mul-le-mul_right, le_trans}
use native.Mathlib.Omega.{arith}
use lib.Dec.{leb, eqb}
use lib.ListN.{length, take, drop, get_or, length-append, length-take, length-drop}
use lib.Seq.{length-take-le, take_all, take-take, take-append_seam, take-append-le, take_at, drop_at, get_or-take}
use borrow.Author.Tests.{leb-true, leb-false, eqb-true, eqb-false}
use Rattle.semantics.specs.Text.{Text, or_else, trimmed}
use Rattle.semantics.specs.Pattern.{In}
use Rattle.semantics.specs.Lens.{Lens, source as source_side, sheet, language, get, key_of, entry_of}
use Rattle.semantics.specs.Lens.{Side as SideOf}
use Rattle.semantics.specs.Table.{node_count, Trees, trees, tree_at, lens_at, lens_of, lens, positions}
use Rattle.laws.specs.Keys.{trimmed_short}
use Rattle.laws.specs.NodeTrees.{lens_below, tree_length}
use Rattle.laws.specs.WellTyped.{WellTyped}
use Rattle.laws.specs.GetPut.{get_in, get_length}
use Rattle.paths.specs.Finding.{less_marks}
use Rattle.automaton.specs.declared.Side.TheVariants.{Sheet}
use Rattle.automaton.specs.Rows.{side_of, automaton_at}
use Rattle.automaton.specs.Built.{Built, tree_language}
use Rattle.lens.specs.declared.Mode.TheVariants.{Get, Key, SourceKey}
use Rattle.texts.specs.Overlay.{Wrote}
use Rattle.std.specs.Prelude.{Option, Some, None}
use Rattle.texts.specs.Overlay.{Writes, overlay_length, overlay_fits, count_fits, full_over, writes_within, front_set}
use Rattle.lens.specs.Reading.{reading}
use Rattle.lens.specs.SourceKeys.{has_union, source_key_lem}
use Rattle.texts.specs.Cutting.{part_length_lem}
use Rattle.lens.specs.Emitting.{LensNode, Fits, Emits}
use Rattle.lens.specs.Nodes.{same_lens}
use Rattle.lens.specs.Parsed.{Parsed}
use Rattle.books.specs.declared.Book.{Book}
use Rattle.books.specs.Cards.{CardAt, card_tells, card_length, key_short}
use Rattle.books.specs.Listed.{text_at, entry_at, InOrder}
use Rattle.books.specs.Looking.{BookOver, EntriesParsed, place_at, part_at, card_place, Dealt, same_within, entry_dealt}
use Rattle.cards.specs.declared.Card.{Card}
use Rattle.decks.specs.declared.deck.Dealing.{Dealing}
use Rattle.below.specs.Below.{union_at, BelowIs}
use Rattle.cards.specs.Sealed.{Sealed}
use Rattle.decks.specs.Dealing.{PathRoom, CardTried, HeadPut, CardIn, DealtTo, DealtOn}
use Rattle.cards.proofs.Sealing.{behind_head, with_behind, sealed_at}
use Rattle.decks.proofs.Heads.{head_long, head_front, head_behind, head_prints, head_places, head_print, head_place}

-- ---- A text that was written

-- a text that has room stands at the front of the buffer
writes_begins : {text before after : Text} {wrote : Wrote} → Writes text before after wrote → length text ≤ length before → take (length text) after ≡ text
writes_begins {text} {before} w room =
    rw (w.buffer_is, overlay_fits text before room) (take-append_seam text (drop (length text) before))

-- and is what was set, as it is lent
writes_front : {text before after : Text} {n : ℕ} → Writes text before after (Some n) → take n after ≡ text
writes_front {text} {before} {n = n} w = front_set w ∙ take_all (length before) text (count_fits text before n w.answer_is).1

-- ---- The sheet of an entry

module _ {bytes : Text} {prepared : List ℕ} {child : ℕ} (known : LensNode bytes prepared child) where
  -- The lens there has at most 128 positions on the sheet's side.
  few_positions : positions (language sheet known.tree) ≤ 128
  unfolding tree_language side_of automaton_at
  few_positions =
      let has = known.built.automata child known.inside Sheet in
      let count = rw known.tree_is at has.described.count_is in
      omega (arith, has.room.few, count)

  -- What get reads off an entry has at most 128 bytes for each byte of it, and for an empty one.
  sheet_size : {text : Text} → Fits bytes child source_side text → length (get known.tree text) ≤ 128 * max 1 (length text)
  sheet_size {text} fits =
      let same = same_lens fits.tree known.tree (sym fits.tree_is ∙ known.tree_is) in
      let longest = rw same at (get_length fits.tree fits.typed text fits.belongs) in
      le_trans longest (mul-le-mul_right (max 1 (length text)) few_positions)

  -- Where it does not fit and there is room for the path of every sheet, it is the room that is shorter than that.
  pub sheet_over :
      (path room : Text)
      {text after : Text} {most : ℕ}
      → Fits bytes child source_side text
      → length text ≤ 4096
      → most ≡ min (length path) (length room)
      → Emits bytes child Get text (take (most - 0) room) after None
      → 524288 ≤ length path
      → length room < 128 + 128 * length text
  unfolding reading
  sheet_over path room {text} {most = most} fits short most-is emits paths =
      let over = full_over false (get known.tree text) (take (most - 0) room) (emits.writes known.tree known.tree_is).answer_is in
      omega (arith, over, length-take (most - 0) room, sheet_size fits)

  -- It ends within the room that it was lent.
  pub sheet_within : {text before after : Text} {n : ℕ} → Emits bytes child Get text before after (Some n) → n ≤ length after
  sheet_within {text} {before} {after} {n} emits = writes_within (reading Get known.tree text) before after n (emits.writes known.tree known.tree_is)

  -- and within the whole room
  pub sheet_ends : (rest : Text) {text before after : Text} {n : ℕ} → Emits bytes child Get text before after (Some n) → n ≤ length (after ++ rest)
  sheet_ends rest emits = rw length-append (omega (arith, sheet_within emits))

-- the room is as long when the part of it for the sheet came back
pub sheet_back :
    (path room after : Text)
    {most : ℕ}
    → most ≡ min (length path) (length room)
    → length after ≡ length (take (most - 0) room)
    → length (after ++ drop (most - 0) room) ≡ length room
sheet_back path room after {most} most-is kept = part_length_lem room after 0 most (omega arith) (omega (arith, most-is)) kept

-- the sheet that was written, as it is lent, whatever stands behind it
sheet_front : {sheet before after : Text} {n : ℕ} (rest : Text) → Writes sheet before after (Some n) → take (n - 0) (after ++ rest) ≡ sheet
sheet_front {sheet} {before} {after} {n} rest w =
    rw sub-zero (take-append-le n after rest (writes_within sheet before after n w) ∙ writes_front w)

-- It belongs to the entry's child.
pub sheet_belongs :
    {bytes : Text} {child : ℕ} {text before after : Text} {n : ℕ} (rest : Text)
    → Fits bytes child source_side text → Emits bytes child Get text before after (Some n) → Fits bytes child sheet (take (n - 0) (after ++ rest))
unfolding reading
sheet_belongs {text = text} rest fits emits =
    record {
      tree = fits.tree;
      tree_is = fits.tree_is;
      typed = fits.typed;
      belongs = rw (sheet_front rest (emits.writes fits.tree fits.tree_is)) (get_in fits.tree fits.typed text fits.belongs);
    }

-- ---- The card of an entry

-- Its key, that of its own sheet, has its card.
pub record EntryCard (bytes : Text) (child : ℕ) (text card : Text) (size print : ℕ) : Type 0 where
  pub made : (l : Lens) → tree_at (trees bytes) child ≡ lens l → CardAt (key_of l (get l text)) card size print

-- a slot that begins as one with the card of a key has that card too
card_moves :
    {key slot other : Text} {size print : ℕ} → CardAt key slot size print → size ≤ length other → take size other ≡ take size slot → CardAt key other size print
card_moves {slot = slot} {other = other} {size = size} card room same =
    record {
      within = room;
      small = card.small;
      short = λ h. (same ∙ (card.short h).0, (card.short h).1);
      long = λ h.
          let (two, head-is) = card.long h in
          (two, sym (take-take 2 size other two) ∙ ap (take 2) same ∙ take-take 2 size slot two ∙ head-is);
    }

-- a card has at most two bytes more than its key
card_size : {key slot : Text} {size print : ℕ} → CardAt key slot size print → size ≤ 2 + length key
card_size {key} {slot} {size} card = go (leb (length (trimmed key)) 4096) refl
  where
    go : (short : Bool) → leb (length (trimmed key)) 4096 ≡ short → size ≤ 2 + length key
    go true e =
        let whole = ap length (card.short (leb-true (length (trimmed key)) 4096 e)).0 in
        omega (arith, whole, length-take-le size slot card.within, card_length key, trimmed_short key)
    go false e = omega (arith, leb-false (length (trimmed key)) 4096 e, card.small, trimmed_short key)

module _ {bytes : Text} {child : ℕ} {text : Text} {size print : ℕ} where
  entry_moves :
      {card slot : Text} → EntryCard bytes child text card size print → size ≤ length slot → take size slot ≡ take size card → EntryCard bytes child text slot size print
  entry_moves entry room same = record { made = λ l e. card_moves (entry.made l e) room same }

  -- it ends within its slot
  pub entry_within : {prepared : List ℕ} {card : Text} → LensNode bytes prepared child → EntryCard bytes child text card size print → size ≤ length card
  entry_within known entry = (entry.made known.tree known.tree_is).within

  -- it has at most 4,098 bytes,
  pub entry_small : {prepared : List ℕ} {card : Text} → LensNode bytes prepared child → EntryCard bytes child text card size print → size ≤ 4098
  entry_small known entry = (entry.made known.tree known.tree_is).small

  -- and two more than the entry's sheet
  pub entry_size :
      {prepared : List ℕ} {card : Text}
      → LensNode bytes prepared child
      → Fits bytes child source_side text
      → EntryCard bytes child text card size print
      → size ≤ 130 + 128 * length text
  entry_size known fits entry =
      let l = known.tree in
      omega (arith, card_size (entry.made l known.tree_is), key_short l (get l text), sheet_size known fits)

-- the key of the sheet that was written
pub sheet_card_made :
    (card behind : Text)
    {bytes : Text} {child : ℕ} {text before after rest sealed-card : Text} {n : ℕ} {wrote : Wrote} {r : Card}
    → length card ≡ 4098
    → length rest ≡ length (behind_head card)
    → Emits bytes child Get text before after (Some n)
    → Emits bytes child Key (take (n - 0) (after ++ behind)) (behind_head card) rest wrote
    → length sealed-card ≡ length (with_behind card rest)
    → Sealed (with_behind card rest) wrote sealed-card r
    → EntryCard bytes child text sealed-card r.len r.print
unfolding reading
sheet_card_made card behind {rest = rest} long kept emits key-emits same sealed =
    record {
      made = λ l e.
          rw (sheet_front behind (emits.writes l e)) at (sealed_at card rest long kept (key-emits.writes l e) same sealed);
    }

-- the key of the source itself, where there is no union below
pub source_card_made :
    (card : Text)
    {bytes : Text} {child : ℕ} {below : List ℕ} {text rest sealed-card : Text} {wrote : Wrote} {r : Card}
    → BelowIs bytes below
    → child < node_count bytes
    → union_at below child ≡ false
    → Fits bytes child source_side text
    → length card ≡ 4098
    → length rest ≡ length (behind_head card)
    → Emits bytes child SourceKey text (behind_head card) rest wrote
    → length sealed-card ≡ length (with_behind card rest)
    → Sealed (with_behind card rest) wrote sealed-card r
    → EntryCard bytes child text sealed-card r.len r.print
unfolding reading
source_card_made card {child = child} {text = text} {rest = rest} below_is inside free fits long kept emits same sealed =
    record {
      made = λ l e.
          let no_union : has_union l ≡ false = sym (below_is.each child l inside e).union_is ∙ free in
          let same-tree = same_lens fits.tree l (sym fits.tree_is ∙ e) in
          let belongs = subst (λ m. In (language source_side m) text) same-tree fits.belongs in
          let key-is = source_key_lem l (subst WellTyped same-tree fits.typed) no_union text belongs in
          rw key-is (sealed_at card rest long kept (emits.writes l e) same sealed);
    }

-- it stands where it was sealed, whatever is behind
pub slot_card :
    {bytes : Text} {child : ℕ} {text card : Text} {size print : ℕ} (rest : Text)
    → size ≤ length card
    → EntryCard bytes child text card size print
    → EntryCard bytes child text (card ++ rest) size print
slot_card {card = card} {size = size} rest within entry =
    entry_moves entry (rw length-append (omega (arith, within))) (take-append-le size card rest within)

-- it stands where it was copied to
pub copied_card :
    {bytes : Text} {child : ℕ} {text card before after : Text} {size print : ℕ} {wrote : Wrote}
    → size ≤ length card
    → size ≤ length before
    → Writes (take (size - 0) card) before after wrote
    → EntryCard bytes child text card size print
    → EntryCard bytes child text after size print
copied_card {card = card} {before = before} {size = size} within room w entry =
    let copy : Text = take (size - 0) card in
    let long : length copy ≡ size = rw sub-zero (length-take-le size card within) in
    let after-long = ap length w.buffer_is ∙ overlay_length copy before in
    let front = writes_begins w (omega (arith, long, room)) in
    entry_moves entry (omega (arith, after-long, room)) (rw (long, sub-zero) at front)

module _ {bytes : Text} {child : ℕ} {text path room : Text} where
  pub tried_made : {r : Card} → EntryCard bytes child text room r.len r.print → CardTried bytes child text path room (Some r)
  tried_made {r} entry =
      record {
        made = λ c e l is. let same : c ≡ r = cc e in rw same (entry.made l is);
        too_long_lem = λ e. absurd (let z : ◌≡◌ {A = ℕ} 0 1 = cc e in omega arith);
      }

  pub tried_long : (524288 ≤ length path → length room < 128 + 128 * length text) → CardTried bytes child text path room None
  tried_long short = record { made = λ c e. absurd (let z : ◌≡◌ {A = ℕ} 0 1 = cc e in omega arith); too_long_lem = λ e. short }

  pub made_entry : {r : Card} {tried : Option Card} → CardTried bytes child text path room tried → tried ≡ Some r → EntryCard bytes child text room r.len r.print
  made_entry {r} tried e = record { made = λ l is. tried.made r e l is }

-- ---- An entry's text and path, as they are lent

-- the part of a list from an entry's start to its end
abbrev pub lent_at : List ℕ → Book → ℕ → List ℕ
lent_at xs b i = take (get_or b.starts i 0 + get_or b.lengths i 0 - get_or b.starts i 0) (drop (get_or b.starts i 0) xs)

lent_part : (xs : List ℕ) (b : Book) (i : ℕ) → lent_at xs b i ≡ part_at xs (place_at b i)
lent_part xs b i = rw add-sub_cancel_left

-- it is the entry's text
lent_text : (source : Text) (b : Book) (i : ℕ) → lent_at source b i ≡ text_at source b i
unfolding text_at
lent_text source b i = lent_part source b i

-- it is as short as the old source
pub lent_short : (source : Text) (b : Book) (i : ℕ) → length source ≤ 4096 → length (lent_at source b i) ≤ 4096
lent_short source b i h = simp (length-take, length-drop) (omega arith)

-- it is no longer than its entry
lent_length : (source : Text) (b : Book) (i : ℕ) → length (lent_at source b i) ≤ get_or b.lengths i 0
lent_length source b i = simp (length-take, length-drop) (omega arith)

-- it is parsed at its child
pub lent_parsed :
    {bytes source trail : Text} {b : Book}
    → EntriesParsed bytes source trail b
    → (i : ℕ)
    → i < b.count
    → Parsed bytes (get_or b.children i 0) source_side (get_or b.bases i 0) (lent_at trail b i) (lent_at source b i)
lent_parsed {source = source} {trail = trail} {b = b} parsed i h = rw (lent_part trail b i, lent_part source b i) (parsed.each i h)

-- a node at which a text is parsed is a lens
lens_there : (bytes : Text) (node : ℕ) (l : Lens) → tree_at (trees bytes) node ≡ lens l → lens_at (trees bytes) node ≡ some l
unfolding lens_at lens_of
lens_there bytes node l e = rw e

pub parsed_node :
    {bytes : Text} {prepared : List ℕ} {node : ℕ} {side : SideOf} {base : ℕ} {path : List ℕ} {text : Text}
    → Built bytes prepared
    → Parsed bytes node side base path text
    → LensNode bytes prepared node
parsed_node {bytes} {node = node} built parsed =
    let there = lens_there bytes node parsed.tree parsed.tree_is in
    record {
      built = built;
      inside = omega (arith, lens_below (trees bytes) node parsed.tree there, tree_length bytes);
      tree = parsed.tree;
      tree_is = parsed.tree_is;
    }

-- its key is that of its own sheet
entry_key :
    (ts : Trees) (source : Text) (b : Book) (i : ℕ) {l : Lens}
    → lens_at ts (get_or b.children i 0) ≡ some l
    → (entry_at ts source b i).key_text ≡ key_of l (get l (text_at source b i))
unfolding entry_at entry_of or_else
entry_key ts source b i at_child = rw at_child

-- ---- The room for a sheet's path and for a card, lent for one entry after the other

-- It is as long as it was.
pub record SameRoom (marks₀ path₀ card₀ marks path card : List ℕ) : Type 0 where
  pub marks_same : length marks ≡ length marks₀
  pub path_same : length path ≡ length path₀
  pub card_same : length card ≡ length card₀

pub same_room_begins : {marks path card : List ℕ} → SameRoom marks path card marks path card
same_room_begins = record { marks_same = refl; path_same = refl; card_same = refl }

module _ {marks₀ path₀ card₀ marks path card : List ℕ} (same : SameRoom marks₀ path₀ card₀ marks path card) where
  -- it is lent and comes back as long
  pub same_room_kept :
      {marks' path' card' : List ℕ} → length marks' ≡ length marks → length path' ≡ length path → length card' ≡ length card
      → SameRoom marks₀ path₀ card₀ marks' path' card'
  same_room_kept m p k = record { marks_same = m ∙ same.marks_same; path_same = p ∙ same.path_same; card_same = k ∙ same.card_same }

  -- and is still enough
  pub same_room_left : PathRoom marks₀ path₀ → PathRoom marks path
  same_room_left room =
      record {
        least_room = omega (arith, room.least_room, same.path_same);
        marks_room = less_marks (omega (arith, same.path_same)) same.marks_same room.marks_room;
      }

-- ---- The deck, card by card

-- the rest of the deck, as it is lent for the next card
abbrev pub rest_from : Text → ℕ → Text
rest_from deck at = take (length deck - at) (drop at deck)

-- the deck to which it was given back as `room`
abbrev pub with_rest : Text → ℕ → Text → Text
with_rest deck at room = take at deck ++ (room ++ drop (length deck - at) (drop at deck))

pub rest_long : (deck : Text) (at : ℕ) → length (rest_from deck at) ≡ length deck - at
rest_long deck at = simp (length-take, length-drop) (omega arith)

module _ (deck : Text) (at : ℕ) (within : at ≤ length deck) (room : Text) (kept : length room ≡ length (rest_from deck at)) where
  pub deck_long : length (with_rest deck at room) ≡ length deck
  deck_long = part_length_lem deck room at (length deck) within (omega arith) kept

  -- what stands in front of the rest
  pub rest_front : take at (with_rest deck at room) ≡ take at deck
  rest_front = take_at (take at deck) (room ++ drop (length deck - at) (drop at deck)) at (length-take-le at deck within)

  -- and at its beginning
  rest_begins : (n : ℕ) → n ≤ length room → take n (drop at (with_rest deck at room)) ≡ take n room
  rest_begins n h =
      ap (take n) (drop_at (take at deck) (room ++ drop (length deck - at) (drop at deck)) at (length-take-le at deck within))
      ∙ take-append-le n room (drop (length deck - at) (drop at deck)) h

module _ {bytes source trail : Text} {b : Book} where
  -- the old source and its path alone
  pub dealt_none :
      {before first rest : Text} {wrote wrote' : Wrote}
      → Writes source before first wrote
      → Writes trail (rest_from first 4096) rest wrote'
      → length source ≤ 4096
      → length trail ≡ length source
      → 9216 ≤ length before
      → DealtTo bytes source trail b (with_rest first 4096 rest) (record { entries = 0; at = 9216 })
  dealt_none {before} {first} {rest} w w' short as_long room =
      record {
        source_short = short;
        trail_short = omega (arith, as_long, short);
        few_heads = omega arith;
        source_is = same_within 4096 deck first (rest_front first 4096 reaches rest kept) 0 (length source) (omega (arith, short)) ∙ writes_begins w (omega (arith, short, room));
        trail_is =
            rest_begins first 4096 reaches rest kept (length trail) (omega (arith, kept, lent_long, first_long, room, as_long, short))
            ∙ writes_begins w' (omega (arith, lent_long, first_long, room, as_long, short));
        behind_heads = omega arith;
        within = omega (arith, deck_long first 4096 reaches rest kept, first_long, room);
        few = omega arith;
        packed = λ h. omega arith;
        cards = λ j h. absurd (omega arith);
      }
    where
      deck : Text
      deck = with_rest first 4096 rest

      first_long : length first ≡ length before
      first_long = ap length w.buffer_is ∙ overlay_length source before

      reaches : 4096 ≤ length first
      reaches = omega (arith, first_long, room)

      lent_long : length (rest_from first 4096) ≡ length first - 4096
      lent_long = rest_long first 4096

      kept : length rest ≡ length (rest_from first 4096)
      kept = ap length w'.buffer_is ∙ overlay_length trail (rest_from first 4096)

  -- every deck with the same bytes in front of where the last card ends has the same cards
  module _ (other : Text) {deck : Text} {d : Dealing} (dealt : DealtTo bytes source trail b deck d) (same : take d.at other ≡ take d.at deck) (room : d.at ≤ length other) where
    part_same : (p n : ℕ) → p + n ≤ d.at → take n (drop p other) ≡ take n (drop p deck)
    part_same p n ends = same_within d.at other deck same p n ends

    byte_same : (k : ℕ) → k < d.at → get_or other k 0 ≡ get_or deck k 0
    byte_same k h = sym (get_or-take d.at other k 0 h) ∙ ap (λ (t : Text). get_or t k 0) same ∙ get_or-take d.at deck k 0 h

    card_same : (j : ℕ) → j < d.entries → CardIn bytes source b other d.at j
    card_same j h =
        let c = dealt.cards j h in
        let heads = dealt.few_heads in
        let behind = dealt.behind_heads in
        let print_is = byte_same (8192 + j) (omega arith) in
        let place_is : card_place other j ≡ card_place deck j =
        rw (byte_same (8448 + 3 * j) (omega arith), byte_same (8448 + 3 * j + 1) (omega arith), byte_same (8448 + 3 * j + 2) (omega arith)) in
        record {
          size = c.size;
          card = c.card;
          from = omega (arith, place_is, c.from);
          ends = omega (arith, place_is, c.ends);
          here = rw place_is (part_same (card_place deck j) c.size c.ends ∙ c.here);
          entry = rw print_is c.entry;
        }

    pub dealt_same : DealtTo bytes source trail b other d
    dealt_same =
        record {
          source_short = dealt.source_short;
          trail_short = dealt.trail_short;
          few_heads = dealt.few_heads;
          source_is = part_same 0 (length source) (omega (arith, dealt.source_short, dealt.behind_heads)) ∙ dealt.source_is;
          trail_is = part_same 4096 (length trail) (omega (arith, dealt.trail_short, dealt.behind_heads)) ∙ dealt.trail_is;
          behind_heads = dealt.behind_heads;
          within = room;
          few = dealt.few;
          packed = dealt.packed;
          cards = card_same;
        }

  -- a deck to which that front was copied
  pub dealt_copied :
      {from before after : Text} {d : Dealing} {wrote : Wrote}
      → d.at ≤ length from
      → d.at ≤ length before
      → Writes (take (d.at - 0) from) before after wrote
      → DealtTo bytes source trail b from d
      → DealtTo bytes source trail b after d
  dealt_copied {from} {before} {after} {d} within room w dealt =
      let long : length (take (d.at - 0) from) ≡ d.at = rw sub-zero (length-take-le d.at from within) in
      let front = writes_begins w (omega (arith, long, room)) in
      let after-long = ap length w.buffer_is ∙ overlay_length (take (d.at - 0) from) before in
      dealt_same after dealt (rw (long, sub-zero) at front) (omega (arith, after-long, room))

  -- The next card stands behind the others, and then gets its head.
  module _
      {deck after : Text} {at i size print : ℕ} {slot : Text}
      (dealt : DealtTo bytes source trail b deck (record { entries = i; at = at }))
      (few : i < 256)
      (counted : i < b.count)
      (room : at + size ≤ length deck)
      (here : take size (drop at deck) ≡ take size slot)
      (made : EntryCard bytes (get_or b.children i 0) (lent_at source b i) slot size print)
      (put : HeadPut deck i print at after) where
    card_new : CardIn bytes source b after (at + size) i
    card_new =
        let place = head_place put few (omega (arith, room, dealt.behind_heads)) in
        let print_is = head_print put few (omega (arith, room, dealt.behind_heads)) in
        record {
          size = size;
          card = slot;
          from = omega (arith, place, dealt.behind_heads);
          ends = omega (arith, place);
          here = rw (place, head_behind put few at dealt.behind_heads) here;
          entry = rw (print_is, ← (lent_text source b i)) made.made;
        }

    card_kept : (j : ℕ) → j < i → CardIn bytes source b after (at + size) j
    card_kept j h =
        let c = dealt.cards j h in
        let other : j ≡ i → ⊥ = λ e. omega arith in
        let print_is = head_prints put few j other (omega arith) in
        let place_is = head_places put few j other (omega arith) in
        record {
          size = c.size;
          card = c.card;
          from = omega (arith, place_is, c.from);
          ends = omega (arith, place_is, c.ends);
          here = rw place_is (ap (take c.size) (head_behind put few (card_place deck j) c.from) ∙ c.here);
          entry = rw print_is c.entry;
        }

    front_kept : (s n : ℕ) → s + n ≤ 8192 → take n (drop s after) ≡ take n (drop s deck)
    front_kept s n ends = same_within 8192 after deck (head_front put) s n ends

    card_put :
        (i + 1 < b.count → at + size ≤ 9216 + 130 * (i + 1) + 128 * get_or b.starts (i + 1) 0)
        → DealtTo bytes source trail b after (record { entries = i + 1; at = at + size })
    card_put next =
        record {
          source_short = dealt.source_short;
          trail_short = dealt.trail_short;
          few_heads = omega (arith, few);
          source_is = front_kept 0 (length source) (omega (arith, dealt.source_short)) ∙ dealt.source_is;
          trail_is = front_kept 4096 (length trail) (omega (arith, dealt.trail_short)) ∙ dealt.trail_is;
          behind_heads = omega (arith, dealt.behind_heads);
          within = omega (arith, head_long put, room);
          few = omega (arith, counted);
          packed = next;
          cards = λ j h. go j h (eqb j i) refl;
        }
      where
        go : (j : ℕ) → j < i + 1 → (last : Bool) → eqb j i ≡ last → CardIn bytes source b after (at + size) j
        go j h true e = rw (eqb-true j i e) card_new
        go j h false e = let other = eqb-false j i e in card_kept j (omega arith)

  module _ {deck : Text} {at i : ℕ} (dealt : DealtTo bytes source trail b deck (record { entries = i; at = at })) where
    -- the rest of the deck was lent: the cards that were there are there
    pub dealt_lent : (room : Text) → length room ≡ length (rest_from deck at) → DealtTo bytes source trail b (with_rest deck at room) (record { entries = i; at = at })
    dealt_lent room kept =
        dealt_same
        (with_rest deck at room)
        dealt
        (rest_front deck at dealt.within room kept)
        (omega (arith, deck_long deck at dealt.within room kept, dealt.within))

    -- one card more, at the beginning of the rest
    pub dealt_more :
        (room : Text)
        {prepared : List ℕ} {after : Text} {size print : ℕ}
        → BookOver (length source) b
        → InOrder (length source) b
        → i < b.count
        → LensNode bytes prepared (get_or b.children i 0)
        → Fits bytes (get_or b.children i 0) source_side (lent_at source b i)
        → length room ≡ length (rest_from deck at)
        → EntryCard bytes (get_or b.children i 0) (lent_at source b i) room size print
        → HeadPut (with_rest deck at room) i print at after
        → DealtTo bytes source trail b after (record { entries = i + 1; at = at + size })
    dealt_more room {size = size} over order counted known fits kept made put =
        let ends = entry_within known made in
        card_put
        (dealt_lent room kept)
        (omega (arith, counted, over.fits.few))
        counted
        (omega (arith, ends, kept, rest_long deck at, deck_long deck at dealt.within room kept, dealt.within))
        (rest_begins deck at dealt.within room kept size ends)
        made
        put
        (λ more. omega (arith, dealt.packed counted, entry_size known fits made, lent_length source b i, order.ordered i more))

    -- where the deck has no room for the next card, it is shorter than it may have to be,
    pub stopped_card :
        BookOver (length source) b → InOrder (length source) b → i < b.count → length deck < at + 4098 → length deck < 570752
    stopped_card over order counted short =
        omega (arith, dealt.packed counted, over.fits.few, order.ends i counted, dealt.source_short)

    -- and so it is where the rest is shorter than the next entry's sheet can be
    pub stopped_sheet :
        BookOver (length source) b
        → InOrder (length source) b
        → i < b.count
        → length deck - at < 128 + 128 * length (lent_at source b i)
        → length deck < 570752
    stopped_sheet over order counted short =
        omega (arith, dealt.packed counted, over.fits.few, order.ends i counted, dealt.source_short, lent_length source b i)

  -- every entry has its card
  pub dealt_all :
      {deck : Text} {d : Dealing}
      → DealtTo bytes source trail b deck d
      → EntriesParsed bytes source trail b
      → BookOver (length source) b
      → d.entries ≡ b.count
      → Dealt bytes source trail b deck
  dealt_all {deck} dealt parsed over all =
      record {
        source_is = dealt.source_is;
        trail_is = dealt.trail_is;
        cards_fit = record {
          inside = λ j h. let c = dealt.cards j (omega arith) in omega (arith, c.ends, dealt.within);
          each = λ j h.
              let c = dealt.cards j (omega arith) in
              let p = parsed.each j h in
              rw
              (entry_dealt (trees bytes) source deck over dealt.source_is j h, entry_key (trees bytes) source b j (lens_there bytes (get_or b.children j 0) p.tree p.tree_is))
              (card_tells (c.entry p.tree p.tree_is) c.here);
        };
      }

  -- and so the cards were dealt up to the last entry's
  pub dealt_end :
      {room : ℕ} {deck : Text} {i at : ℕ}
      → DealtTo bytes source trail b deck (record { entries = i; at = at })
      → EntriesParsed bytes source trail b
      → BookOver (length source) b
      → b.count ≤ i
      → DealtOn room bytes source trail b deck (record { entries = b.count; at = at })
  dealt_end {room} {deck} {i} {at} dealt parsed over ended =
      let last : i ≡ b.count = omega (arith, dealt.few, ended) in
      subst
      (λ (n : ℕ). DealtOn room bytes source trail b deck (record { entries = n; at = at }))
      last
      (record { dealt = dealt; all = λ e. dealt_all dealt parsed over e; stopped = λ h. absurd (omega arith) })
