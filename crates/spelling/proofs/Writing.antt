-- The lowest shortest text, written from the front by the layers of pairs: what the functions of `texts` cite. Assumes nothing.
use mathlib.Core.Path.{◌≡◌, refl, sym, ap, subst, ◌∙◌}
use mathlib.Core.Bool.{Bool, true, false, ◌&&◌, ◌||◌}
use mathlib.Core.List.{List, [], ◌∷◌, ◌++◌, append-nil}
use mathlib.Core.Logic.{◌⊎◌, inl, inr, ⊎_elim, ◌↔◌}
use Prim.Native.Nat.{ℕ, zero, suc, ◌+◌, ◌-◌, ◌*◌, ◌/◌, ◌%◌, ◌≤◌, ◌<◌}
use native.Mathlib.Numerals.{add-one}
use native.Mathlib.Omega.{arith}
use borrow.Author.Tests.{eqb-true, eqb-false, eq-eqb, ltb-true, ltb-false, lt-ltb, le-ltb, leb-true, leb-false}
use lib.Dec.{eqb, ltb, leb}
use lib.ListN.{length, get_or, take, set, length-set}
use lib.Seq.{take_all, take-suc-set, append_snoc}
use Rattle.semantics.specs.Text.{Text}
use Rattle.laws.specs.Basics.{bool_cases, not_both, and_both, and_of, or_either, or_left, or_right}
use Rattle.clash.specs.Clash.{Lower, Given}
use Rattle.positions.specs.declared.Set.{Set}
use Rattle.positions.specs.Positions.{holds, Added, Shared as Meet}
use Rattle.positions.specs.declared.Below.{Below}
use Rattle.positions.specs.Below.{Taken, Done}
use Rattle.positions.proofs.Walk.{taken_other}
use Rattle.automaton.specs.Rows.{set_at, stands_in, FirstShared}
use Rattle.language.specs.Sets.{Stored}
use Rattle.search.specs.declared.patches.Patch.{Patch}
use Rattle.search.specs.declared.patches.Quest.{Quest}
use Rattle.search.specs.Pairs.{held_in, pair_in, before_of, linked_of, inside_of, left_row, right_row, precedes_in, begins_in, graph_of, QuestFits}
use Rattle.search.specs.Graph.{Graph, Shared, Way, Accepts, Far}
use Rattle.search.specs.Layers.{InLayer, Layered, Filled, Bounded}
use Rattle.spelling.specs.Texts.{Comes, LowerByte, LowestByte, Among, Marked, NoneAlive, EntriesRoom, WrittenOut}
use Rattle.search.proofs.Slices.{part, part_length, part_at, some_of_part, part_of_some}
use Rattle.search.proofs.Queues.{in_patch_parts, in_patch_of, held_below, patch_below, before_fits, linked_fits, graph_bounded}

-- ---- Distances

-- at least n bytes lead from the pair to an end
abbrev pub NoneNearer : Graph → ℕ → ℕ → Type 0
NoneNearer g n pair = (t : Text) → Way g pair t → n ≤ length t

-- n bytes lead to an end, and no fewer
far_at : {g : Graph} {n pair : ℕ} (t : Text) → Way g pair t → length t ≡ n → NoneNearer g n pair → Far g n pair
far_at t w long least = record { text = t; is_way = w; long = long; none_shorter = least }

-- a pair with a way is one of the graph's
way_below : {g : Graph} → Bounded g → (pair : ℕ) (t : Text) → Way g pair t → pair < 32768
unfolding Way
way_below bounded pair [] w = bounded.ends_below pair w
way_below bounded pair (c ∷ t) (next, s, w) = bounded.before_below pair next s.may_follow

-- whether P holds of a number below n
some_below : (P : ℕ → Type 0) → ((i : ℕ) → P i ⊎ (¬ P i)) → (n : ℕ) → ((i : ℕ) × (i < n) × P i) ⊎ ((i : ℕ) → i < n → ¬ P i)
some_below P decide zero = inr (λ i h. absurd (omega arith))
some_below P decide (suc n) = go (decide n) (some_below P decide n)
  where
    go : P n ⊎ (¬ P n) → ((i : ℕ) × (i < n) × P i) ⊎ ((i : ℕ) → i < n → ¬ P i) → ((i : ℕ) × (i < suc n) × P i) ⊎ ((i : ℕ) → i < suc n → ¬ P i)
    go (inl p) rest = inl (n, omega arith, p)
    go (inr not-n) (inl (i, h, p)) = inl (i, omega arith, p)
    go (inr not-n) (inr none) =
        inr (λ i h p.
        ⊎_elim (λ e. not-n (subst P (eqb-true i n e) p)) (λ e. let ne = eqb-false i n e in none i (omega arith) p) (bool_cases (eqb i n)))

-- the pair stands in layer d
abbrev Stands : List ℕ → List ℕ → ℕ → ℕ → Type 0
Stands order starts pair d = (i : ℕ) × InLayer starts d i × (get_or order i 0 ≡ pair)

-- whether it does
stands_or_not : (order starts : List ℕ) (pair d : ℕ) → Stands order starts pair d ⊎ (¬ Stands order starts pair d)
stands_or_not order starts pair d =
    ⊎_elim
    (λ (i, h, p). inl (i, p.0, p.1))
    (λ none. inr (λ (i, p, e). none i p.to (p, e)))
    (some_below At decide (get_or starts (d + 1) 0))
  where
    At : ℕ → Type 0
    At i = InLayer starts d i × (get_or order i 0 ≡ pair)

    go : (i : ℕ) (a b c : Bool) → leb (get_or starts d 0) i ≡ a → ltb i (get_or starts (d + 1) 0) ≡ b → eqb (get_or order i 0) pair ≡ c → At i ⊎ (¬ At i)
    go i true true true from to e = inl (record { from = leb-true (get_or starts d 0) i from; to = ltb-true i (get_or starts (d + 1) 0) to }, eqb-true (get_or order i 0) pair e)
    go i true true false from to e = inr (λ (p, x). eqb-false (get_or order i 0) pair e x)
    go i true false c from to e = inr (λ (p, x). let past = ltb-false i (get_or starts (d + 1) 0) to in omega (arith, p.to))
    go i false b c from to e = inr (λ (p, x). let before = leb-false (get_or starts d 0) i from in omega (arith, p.from))

    decide : (i : ℕ) → At i ⊎ (¬ At i)
    decide i = go i (leb (get_or starts d 0) i) (ltb i (get_or starts (d + 1) 0)) (eqb (get_or order i 0) pair) refl refl refl

module _ {g : Graph} {order starts : List ℕ} {depth : ℕ} (bounded : Bounded g) (lay : Layered g order starts depth) where
  -- A pair with a way of at most `depth` bytes has a distance: if it stands in no layer up to that of a next one, it is one byte farther than that.
  -- (n bounds the way's length, and shorter ways come up.)
  near :
      (n pair : ℕ) (t : Text) → length t ≤ n → length t ≤ depth → Shared g pair → Way g pair t → (d : ℕ) × (d ≤ length t) × Far g d pair
  unfolding Way
  near zero pair [] h k shared w = (0, omega arith, far_at [] w refl (λ t v. omega arith))
  near zero pair (c ∷ t) h k shared w = absurd (omega arith)
  near (suc n) pair [] h k shared w = (0, omega arith, far_at [] w refl (λ t v. omega arith))
  near (suc n) pair (c ∷ t) h k shared (next, s, w) =
      go (λ u. near n pair u) (near n next t (omega arith) (omega arith) (c, s.byte, s.may_stand) w)
    where
      go :
          ((u : Text) → length u ≤ n → length u ≤ depth → Shared g pair → Way g pair u → (d : ℕ) × (d ≤ length u) × Far g d pair)
          → (e : ℕ) × (e ≤ length t) × Far g e next
          → (d : ℕ) × (d ≤ suc (length t)) × Far g d pair
      go rec (e, most, far) =
          ⊎_elim
          (λ (d, l, (i, inside, x)). (d, omega arith, subst (Far g d) x (lay.in_layer d i (omega arith) inside).0))
          (λ none. (suc e, omega arith, record { text = c ∷ far.text; is_way = (next, s, far.is_way); long = ap suc far.long; none_shorter = longer none }))
          (some_below (Stands order starts pair) (stands_or_not order starts pair) (suc e))
        where
          longer : ((d : ℕ) → d < suc e → ¬ Stands order starts pair d) → NoneNearer g (suc e) pair
          longer none u v = at_least (ltb (length u) (suc e)) refl
            where
              at_least : (b : Bool) → ltb (length u) (suc e) ≡ b → suc e ≤ length u
              at_least true p =
                  let short = ltb-true (length u) (suc e) p in
                  let (d, l, found) = rec u (omega arith) (omega arith) shared v in
                  absurd (none d (omega arith) (lay.all_in d pair (omega arith) (way_below bounded pair u v) shared found))
              at_least false p = ltb-false (length u) (suc e) p

  -- At least `depth` bytes follow a pair by which a text begins.
  begins_far : (pair c : ℕ) (t : Text) → g.begins pair ≡ true → c < 256 → g.stands pair c ≡ true → Way g pair t → depth ≤ length t
  begins_far pair c t begins byte stands w = go (ltb (length t) depth) refl
    where
      go : (b : Bool) → ltb (length t) depth ≡ b → depth ≤ length t
      go true e =
          let short = ltb-true (length t) depth e in
          let (d, l, far) = near (length t) pair t (omega arith) (omega arith) (c, byte, stands) w in
          let (i, inside, x) = lay.all_in d pair (omega arith) (bounded.begins_below pair begins) (c, byte, stands) far in
          absurd (not_both begins (rw x at (lay.none_begins d i (omega arith) inside)))
      go false e = ltb-false (length t) depth e

  -- So a text that is accepted has a byte for each layer.
  pub accepted_long : (u : Text) → Accepts g u → suc depth ≤ length u
  unfolding Accepts
  accepted_long [] accepted = absurd accepted
  accepted_long (c ∷ t) (pair, byte, begins, stands, w) = omega (arith, begins_far pair c t begins byte stands w)

-- And where a text begins by a pair of the last layer, one with no more bytes is accepted.
pub accepted_some : {g : Graph} {order starts : List ℕ} {depth : ℕ} → Filled g order starts depth → (t : Text) × Accepts g t × (length t ≡ suc depth)
unfolding Accepts
accepted_some filled =
    let begun = filled.begun in
    let (far, (c, byte, stands)) = filled.layered.in_layer _ begun.place (omega arith) begun.in_last in
    (c ∷ far.text, (_, byte, begun.begins_there, stands, far.is_way), ap suc far.long)

-- ---- What is left of the text

-- The text goes on from the pairs that come.
unfoldable pub Onward : Graph → (ℕ → Type 0) → Text → Type 0
Onward g comes [] = Unit {0}
Onward g comes (c ∷ t) = (pair : ℕ) × comes pair × (c < 256) × (g.stands pair c ≡ true) × Way g pair t

-- It is the lowest one of n bytes.
pub record Lowest (A : Text → Type 0) (n : ℕ) (t : Text) : Type 0 where
  pub is_one : A t
  pub long : length t ≡ n
  pub none_lower : (u : Text) → A u → length u ≡ n → ¬ Lower u t

-- No text of fewer than n bytes goes on from the pairs that come, and if n is not 0, one of them is in layer n - 1.
pub record Open (g : Graph) (order starts : List ℕ) (comes : ℕ → Type 0) (n : ℕ) : Type 0 where
  pub none_nearer : (pair c : ℕ) (t : Text) → comes pair → c < 256 → g.stands pair c ≡ true → Way g pair t → n ≤ suc (length t)
  pub some_comes : (m : ℕ) → n ≡ suc m → (k : ℕ) × InLayer starts m k × comes (get_or order k 0)

-- the pairs that may follow one of those that are held
abbrev Next : Graph → (ℕ → Type 0) → ℕ → Type 0
Next g held pair = (from : ℕ) × held from × (g.precedes from pair ≡ true)

-- the entries of the order from `from` to before `to`
abbrev AmongIn : List ℕ → ℕ → ℕ → ℕ → Type 0
AmongIn order from to pair = (k : ℕ) × (from ≤ k) × (k < to) × (get_or order k 0 ≡ pair)

-- The lowest byte that stands at one of these that comes; if it is 256, there is none.
record LowestIn (g : Graph) (comes : ℕ → Type 0) (order : List ℕ) (from to r : ℕ) : Type 0 where
  most : r ≤ 256
  by_pair : (r ≡ 256) ⊎ ((k : ℕ) × (from ≤ k) × (k < to) × comes (get_or order k 0) × (g.stands (get_or order k 0) r ≡ true))
  none_lower : (k c : ℕ) → from ≤ k → k < to → c < r → comes (get_or order k 0) → ¬ (g.stands (get_or order k 0) c ≡ true)

-- the pairs of layer n
abbrev OfLayer : List ℕ → List ℕ → ℕ → ℕ → Type 0
OfLayer order starts n = AmongIn order (get_or starts n 0) (get_or starts (n + 1) 0)

-- Only the empty text has no bytes left.
lowest_none : (g : Graph) (comes : ℕ → Type 0) → Lowest (Onward g comes) 0 []
unfolding Onward Lower
lowest_none g comes = record { is_one = tt; long = refl; none_lower = go }
  where
    go : (u : Text) → Onward g comes u → length u ≡ 0 → ¬ Lower u []
    go [] onward e lower = lower
    go (c ∷ u) onward e lower = lower

-- One byte: it is the lowest that stands at a pair of the layer that comes.
module _
    {g : Graph} {order starts : List ℕ} {depth : ℕ} (bounded : Bounded g) (lay : Layered g order starts depth)
    {comes : ℕ → Type 0} {n : ℕ} (inside : n ≤ depth) (open-here : Open g order starts comes (suc n))
    {r : ℕ} (low : LowestIn g comes order (get_or starts n 0) (get_or starts (n + 1) 0) r)
  where
    -- It is a byte, since some pair of the layer comes,
    is_byte : r < 256
    is_byte = go (ltb r 256) refl
      where
        go : (b : Bool) → ltb r 256 ≡ b → r < 256
        go true e = ltb-true r 256 e
        go false e =
            let none = ltb-false r 256 e in
            let (k, there, come) = open-here.some_comes n refl in
            let (c, l, stands) = (lay.in_layer n k inside there).1 in
            absurd (low.none_lower k c there.from there.to (omega arith) come stands)

    -- and it stands at one of them.
    found : (pair : ℕ) × OfLayer order starts n pair × comes pair × (g.stands pair r ≡ true)
    found =
        ⊎_elim
        (λ e. absurd (omega (arith, is_byte)))
        (λ (k, from, to, come, stands). (get_or order k 0, (k, from, to, refl), come, stands))
        low.by_pair

    -- A pair that comes, with a way of n bytes, is of the layer.
    in_layer : (pair c : ℕ) (t : Text) → comes pair → c < 256 → g.stands pair c ≡ true → Way g pair t → length t ≡ n → OfLayer order starts n pair
    in_layer pair c t come l stands w long =
        let far = far_at t w long (λ u v. let h = open-here.none_nearer pair c u come l stands v in omega arith) in
        let (k, there, e) = lay.all_in n pair inside (way_below bounded pair t w) (c, l, stands) far in
        (k, there.from, there.to, e)

    -- Just n bytes lead from a pair of the layer to an end.
    layer_far : (pair : ℕ) → OfLayer order starts n pair → Far g n pair
    layer_far pair (k, from, to, e) = subst (Far g n) e (lay.in_layer n k inside (record { from = from; to = to })).0

    -- The pairs of the layer that come, and at which it stands, are held; any other that is held is farther.
    module _
        {held : ℕ → Type 0}
        (only : (pair : ℕ) → held pair → NoneNearer g (suc n) pair ⊎ (OfLayer order starts n pair × comes pair × (g.stands pair r ≡ true)))
        (all_held : (pair : ℕ) → OfLayer order starts n pair → comes pair → g.stands pair r ≡ true → held pair)
      where
        -- So no held pair is nearer than the layer,
        held_far : (pair : ℕ) → held pair → NoneNearer g n pair
        held_far pair h t w =
            ⊎_elim (λ far. let l = far t w in omega arith) (λ (there, come, stands). (layer_far pair there).none_shorter t w) (only pair h)

        -- the text goes on from the pairs that may follow a held one,
        open_next : Open g order starts (Next g held) n
        unfolding Way
        open_next =
            record {
              none_nearer = λ pair c t (from, h, p) l stands w. held_far from h (c ∷ t) (pair, record { byte = l; may_follow = p; may_stand = stands }, w);
              some_comes = λ m e. let far = layer_far found.0 found.1 in go m e far.text far.is_way far.long;
            }
          where
            go : (m : ℕ) → n ≡ suc m → (t : Text) → Way g found.0 t → length t ≡ n → (k : ℕ) × InLayer starts m k × Next g held (get_or order k 0)
            go m e [] w long = absurd (omega arith)
            go m e (c ∷ t) (next, s, w) long =
                let far = far_at {n = m} t w (omega arith) (λ u v. let h = (layer_far found.0 found.1).none_shorter (c ∷ u) (next, s, v) in omega arith) in
                let (k, there, x) = lay.all_in m next (omega arith) (way_below bounded next t w) (c, s.byte, s.may_stand) far in
                (k, there, subst (Next g held) (sym x) (found.0, all_held found.0 found.1 found.2 found.3, s.may_follow))

        -- and with the byte in front, the lowest text from these is the lowest one here.
        lowest_next : (t : Text) → Lowest (Onward g (Next g held)) n t → Lowest (Onward g comes) (suc n) (r ∷ t)
        unfolding Way Onward Lower
        lowest_next t least = record { is_one = goes t least.is_one least.long; long = ap suc least.long; none_lower = lower }
          where
            goes : (t : Text) → Onward g (Next g held) t → length t ≡ n → Onward g comes (r ∷ t)
            goes [] onward long = (found.0, found.2, is_byte, found.3, ends far.text far.is_way (far.long ∙ sym long))
              where
                far : Far g n found.0
                far = layer_far found.0 found.1

                ends : (u : Text) → Way g found.0 u → length u ≡ 0 → Way g found.0 []
                ends [] w e = w
                ends (c ∷ u) w e = absurd (omega arith)
            goes (c ∷ t) (pair, (from, h, p), l, stands, w) long =
                let way : Way g from (c ∷ t) = (pair, record { byte = l; may_follow = p; may_stand = stands }, w) in
                ⊎_elim
                (λ far. absurd (omega (arith, far (c ∷ t) way)))
                (λ (there, come, here). (from, come, is_byte, here, way))
                (only from h)

            onward : (pair : ℕ) (w : Text) → Lower w t → held pair → Way g pair w → Onward g (Next g held) w
            onward pair [] low h way = absurd low
            onward pair (c ∷ w) low h (next, s, way) = (next, (pair, h, s.may_follow), s.byte, s.may_stand, way)

            lower : (u : Text) → Onward g comes u → length u ≡ suc n → ¬ Lower u (r ∷ t)
            lower [] on long below = below
            lower (d ∷ w) (pair, come, l, stands, way) long below =
                let long_rest : length w ≡ n = omega arith in
                let (k, from, to, e) = in_layer pair d w come l stands way long_rest in
                ⊎_elim
                (λ less. low.none_lower k d from to less (rw e come) (rw e stands))
                (λ (same, rest). least.none_lower w (onward pair w rest (all_held pair (k, from, to, e) come (rw same at stands)) way) long_rest rest)
                below

-- ---- The rows of a pair

-- the rows of an early pair, with both positions in the part,
pub rows_early : (q : Quest) (pair : ℕ) → pair / 128 < 128 → (q.part.start + pair / 128 ≡ left_row q pair) × (q.part.start + pair % 128 ≡ right_row q pair)
unfolding left_row right_row
rows_early q pair early = rw (lt-ltb (pair / 128) 128 early) (refl, refl)

-- and those of a late one
pub rows_late : (q : Quest) (pair : ℕ) → 128 ≤ pair / 128 → (q.whole.start + (pair / 128 - 128) ≡ left_row q pair) × (q.rest.start + pair % 128 ≡ right_row q pair)
unfolding left_row right_row
rows_late q pair late = rw (le-ltb (pair / 128) 128 late) (refl, refl)

-- ---- The pairs of a patch that are alive

-- No pair of the patch's rows that are not left is alive.
pub record NonePast (alive : List ℕ) (table : ℕ) (patch : Patch) (left : Set) : Type 0 where
  pub none_past : (q : ℕ) → holds patch.rows q ≡ true → holds left q ≡ false → ¬ Meet (set_at alive (2 * (table + patch.base + q))) patch.columns

module _ (alive : List ℕ) (table : ℕ) (patch : Patch) where
  -- None is alive where all are left,
  pub none_begins : NonePast alive table patch patch.rows
  none_begins = record { none_past = λ q h gone. absurd (not_both h gone) }

  -- nor behind the row that comes, if none of it is.
  pub none_next_lem :
      {walk after : Below} {p : ℕ} → Taken walk p after → NonePast alive table patch walk.left
      → ¬ Meet (set_at alive (2 * (table + patch.base + p))) patch.columns → NonePast alive table patch after.left
  none_next_lem {p = p} taken known none =
      record {
        none_past = λ q h gone meet.
            ⊎_elim
            (λ same. none (rw (eqb-true q p same) at meet))
            (λ other. known.none_past q h (sym (taken_other taken q (eqb-false q p other)) ∙ gone) meet)
            (bool_cases (eqb q p));
      }

  -- One of row p is alive.
  pub some_found :
      (p : ℕ) → holds patch.rows p ≡ true → Meet (set_at alive (2 * (table + patch.base + p))) patch.columns
      → (pair : ℕ) × (held_in alive table pair ≡ true) × (pair_in patch pair ≡ true)
  some_found p h (column, l, here, there) =
      let pair = 128 * (patch.base + p) + column in
      let row : pair / 128 ≡ patch.base + p = omega arith in
      let at : pair % 128 ≡ column = omega arith in
      let place : table + patch.base + p ≡ table + (patch.base + p) = omega arith in
      let back : patch.base + p - patch.base ≡ p = omega arith in
      (pair, rw (row, at, ← place) here, rw (row, at) (in_patch_of patch (patch.base + p) column (omega arith) (rw back h) there))

  -- None is alive, where no row is left.
  pub none_found :
      {walk : Below} → NonePast alive table patch walk.left → Done walk → 128 ≤ walk.end
      → ¬ ((pair : ℕ) × (held_in alive table pair ≡ true) × (pair_in patch pair ≡ true))
  none_found known done far (pair, held, inside) =
      let (above, row, column) = in_patch_parts patch (pair / 128) (pair % 128) inside in
      let place : table + pair / 128 ≡ table + patch.base + (pair / 128 - patch.base) = omega arith in
      let below = held_below patch.rows (pair / 128 - patch.base) row in
      let gone = done.none_left (pair / 128 - patch.base) (omega arith) in
      known.none_past (pair / 128 - patch.base) row gone (pair % 128, omega arith, rw place at held, column)

-- ---- Which pairs come

-- what may come before a pair is below 32,768
precedes_below : (q : Quest) (leads : List ℕ) (pair next : ℕ) → precedes_in q leads pair next ≡ true → pair < 32768
unfolding precedes_in
precedes_below q leads pair next e =
    let own = before_of leads (next / 128) (next % 128) in
    let other = linked_of q leads (next / 128) (next % 128) in
    ⊎_elim
    (patch_below own pair (before_fits leads (next / 128) (next % 128)))
    (patch_below other pair (linked_fits q leads (next / 128) (next % 128)))
    (or_either (pair_in own pair) (pair_in other pair) e)

-- a pair of the patch is alive
abbrev pub AliveIn : List ℕ → ℕ → Patch → Type 0
AliveIn alive table patch = (pair : ℕ) × (held_in alive table pair ≡ true) × (pair_in patch pair ≡ true)

-- the first byte comes to the pairs by which a text begins,
pub comes_first : (q : Quest) (leads alive : List ℕ) (i pair : ℕ) → i ≡ 0 → Comes q leads alive i pair ↔ (begins_in q pair ≡ true)
unfolding Comes
comes_first q leads alive zero pair e = (λ h. h, λ h. h)
comes_first q leads alive (suc i) pair e = absurd (omega arith)

-- and any other to those before which one is alive by the table of the byte before
pub comes_later :
    (q : Quest) (leads alive : List ℕ) (i pair : ℕ) → 0 < i
    → Comes q leads alive i pair
    ↔ (AliveIn alive (256 * ((i - 1) % 2)) (before_of leads (pair / 128) (pair % 128)) ⊎ AliveIn alive (256 * ((i - 1) % 2)) (linked_of q leads (pair / 128) (pair % 128)))
unfolding Comes precedes_in
comes_later q leads alive zero pair h = absurd (omega arith)
comes_later q leads alive (suc i) pair h =
    let own = before_of leads (pair / 128) (pair % 128) in
    let other = linked_of q leads (pair / 128) (pair % 128) in
    let one_less : suc i - 1 ≡ i = omega arith in
    rw one_less (
      λ (from, held, e). ⊎_elim (λ p. inl (from, held, p)) (λ p. inr (from, held, p)) (or_either (pair_in own from) (pair_in other from) e),
      λ some.
          ⊎_elim
          (λ (from, held, p). (from, held, or_left (pair_in own from) (pair_in other from) p))
          (λ (from, held, p). (from, held, or_right (pair_in own from) (pair_in other from) p))
          some,
    )

-- It is the same by tables that agree on those pairs.
pub comes_same :
    (q : Quest) (leads before after : List ℕ) (i : ℕ)
    → ((from : ℕ) → from < 32768 → held_in after (256 * ((i + 1) % 2)) from ≡ held_in before (256 * ((i + 1) % 2)) from)
    → (pair : ℕ) → Comes q leads after i pair ↔ Comes q leads before i pair
unfolding Comes
comes_same q leads before after zero same pair = (λ h. h, λ h. h)
comes_same q leads before after (suc i) same pair = (
  λ (from, held, e). (from, sym (agree from (precedes_below q leads from pair e)) ∙ held, e),
  λ (from, held, e). (from, agree from (precedes_below q leads from pair e) ∙ held, e),
)
  where
    agree : (from : ℕ) → from < 32768 → held_in after (256 * (i % 2)) from ≡ held_in before (256 * (i % 2)) from
    agree from below = let again : (suc i + 1) % 2 ≡ i % 2 = omega arith in rw again at (same from below)

-- ---- The lowest byte

-- A byte stands at a pair of the automata if it may stand at both rows.
pub stands_iff :
    (prepared : List ℕ) (q : Quest) (leads : List ℕ) (pair c : ℕ) → inside_of q pair ≡ true → {left right : ℕ} → left ≡ left_row q pair → right ≡ right_row q pair
    → ((graph_of prepared q leads).stands pair c ≡ true) ↔ ((stands_in prepared left c ≡ true) × (stands_in prepared right c ≡ true))
unfolding graph_of
stands_iff prepared q leads pair c inside is-left is_right =
    let left = stands_in prepared (left_row q pair) c in
    let right = stands_in prepared (right_row q pair) c in
    rw (is-left, is_right)
    (λ e. and_both left right (and_both (inside_of q pair) (left && right) e).1, λ (here, there). and_of (inside_of q pair) (left && right) inside (and_of left right here there))

module _
    (prepared : List ℕ) (q : Quest) (leads : List ℕ) (comes : ℕ → Type 0) (pair : ℕ) (inside : inside_of q pair ≡ true) {lowest byte left right : ℕ}
    (is-left : left ≡ left_row q pair) (is_right : right ≡ right_row q pair) (first : FirstShared prepared left right byte) (most : lowest ≤ 256)
  where
    -- no byte below that which the two rows share first stands at the pair
    none_shared : (c : ℕ) → c < byte → c < 256 → ¬ ((graph_of prepared q leads).stands pair c ≡ true)
    none_shared c l k stands = let (here, there) = (stands_iff prepared q leads pair c inside is-left is_right).0 stands in first.none_lower c l k here there

    -- The byte is not lower,
    pub lower_past : lowest ≤ byte → LowerByte (graph_of prepared q leads) comes pair lowest lowest
    lower_past past = record { most = omega arith; by_pair = inl refl; none_lower = λ c l come. none_shared c (omega arith) (omega arith) }

    -- or the pair does not come;
    pub lower_not : ¬ comes pair → LowerByte (graph_of prepared q leads) comes pair lowest lowest
    lower_not none = record { most = omega arith; by_pair = inl refl; none_lower = λ c l come. absurd (none come) }

    -- else it is taken.
    pub lower_by : byte < lowest → comes pair → LowerByte (graph_of prepared q leads) comes pair lowest byte
    lower_by below come =
        record {
          most = omega arith;
          by_pair = inr (come, (stands_iff prepared q leads pair byte inside is-left is_right).1 (first.in_both (omega arith)));
          none_lower = λ c l come. none_shared c l (omega arith);
        }

-- The lowest byte that stands at one of the first n entries that comes; if it is 256, there is none.
pub record LowestTo (g : Graph) (comes : ℕ → Type 0) (layer : List ℕ) (n r : ℕ) : Type 0 where
  pub most : r ≤ 256
  pub by_pair : (r ≡ 256) ⊎ ((k : ℕ) × (k < n) × comes (get_or layer k 0) × (g.stands (get_or layer k 0) r ≡ true))
  pub none_lower : (k c : ℕ) → k < n → c < r → comes (get_or layer k 0) → ¬ (g.stands (get_or layer k 0) c ≡ true)

-- The layer is a part of the order.
lowest_in :
    (g : Graph) (comes : ℕ → Type 0) (order : List ℕ) (from to : ℕ) {r : ℕ} → to ≤ length order → LowestByte g comes (part order from to) r
    → LowestIn g comes order from to r
lowest_in g comes order from to {r} inside low =
    record {
      most = low.most;
      by_pair =
          ⊎_elim
          (λ none. inl none)
          (λ (k, l, come, stands).
          let (j, above, below, (come', stands')) = some_of_part order from to inside (λ x. comes x × (g.stands x r ≡ true)) (k, l, (come, stands)) in
          inr (j, above, below, come', stands'))
          low.by_pair;
      none_lower = λ k c l h below come stands.
          let (j, m, (come', stands')) = part_of_some order from to inside (λ x. comes x × (g.stands x c ≡ true)) (k, l, h, (come, stands)) in
          low.none_lower j c m below come' stands';
    }

-- ---- The pairs that are set

-- the first n entries of the layer
abbrev pub AmongTo : List ℕ → ℕ → ℕ → Type 0
AmongTo layer n pair = (k : ℕ) × (k < n) × (get_or layer k 0 ≡ pair)

module _ (g : Graph) (comes : ℕ → Type 0) (i byte : ℕ) where
  -- Where none is to be set, nothing is.
  pub marked_none : (P : ℕ → Type 0) (cells : List ℕ) → ((pair : ℕ) → P pair → comes pair → g.stands pair byte ≡ true → ⊥) → Marked g comes P i byte cells cells
  marked_none P cells none =
      record {
        size = refl;
        others = λ x l. refl;
        keeps = λ x held. held;
        only = λ x held. inl held;
        all_set = λ x p come stands. absurd (none x p come stands);
      }

  -- One is set.
  pub marked_one :
      {pair : ℕ} {before after : List ℕ} {added : Set} → pair < 32768 → comes pair → g.stands pair byte ≡ true
      → Added (set_at before (2 * (256 * (i % 2) + pair / 128))) (pair % 128) added → Stored before (256 * (i % 2) + pair / 128) added after
      → Marked g comes (λ x. x ≡ pair) i byte before after
  marked_one {pair} {before} {after} {added} below come stands adds stored =
      record {
        size = stored.same_length;
        others = λ x l. rw (stored.kept (256 * ((i + 1) % 2) + x / 128) (λ e. omega arith));
        keeps = λ x held.
            ⊎_elim
            (λ e. here x (eqb-true (x / 128) (pair / 128) e) ∙ or_right (eqb (x % 128) (pair % 128)) (held_in before (256 * (i % 2)) x) held)
            (λ e. there x (eqb-false (x / 128) (pair / 128) e) ∙ held)
            (bool_cases (eqb (x / 128) (pair / 128)));
        only = λ x held.
            ⊎_elim
            (λ e. let row = eqb-true (x / 128) (pair / 128) e in
            ⊎_elim
            (λ new. let column = eqb-true (x % 128) (pair % 128) new in let same : x ≡ pair = omega arith in inr (same, rw same come, rw same stands))
            (λ old. inl old)
            (or_either (eqb (x % 128) (pair % 128)) (held_in before (256 * (i % 2)) x) (sym (here x row) ∙ held)))
            (λ e. inl (sym (there x (eqb-false (x / 128) (pair / 128) e)) ∙ held))
            (bool_cases (eqb (x / 128) (pair / 128)));
        all_set = λ x same c s.
            here x (rw same) ∙ or_left (eqb (x % 128) (pair % 128)) (held_in before (256 * (i % 2)) x) (eq-eqb (x % 128) (pair % 128) (rw same));
      }
    where
      here : (x : ℕ) → x / 128 ≡ pair / 128 → held_in after (256 * (i % 2)) x ≡ (eqb (x % 128) (pair % 128) || held_in before (256 * (i % 2)) x)
      here x row = rw (row, stored.stored) (adds (x % 128))

      there : (x : ℕ) → ¬ (x / 128 ≡ pair / 128) → held_in after (256 * (i % 2)) x ≡ held_in before (256 * (i % 2)) x
      there x other = rw (stored.kept (256 * (i % 2) + x / 128) (λ e. other (omega arith)))

  -- What is set of the pairs P is set of the same pairs by another name.
  marked_same : {P P' : ℕ → Type 0} {a b : List ℕ} → ((x : ℕ) → P x ↔ P' x) → Marked g comes P i byte a b → Marked g comes P' i byte a b
  marked_same same known =
      record {
        size = known.size;
        others = known.others;
        keeps = known.keeps;
        only = λ x held. ⊎_elim (λ old. inl old) (λ (p, come, stands). inr ((same x).0 p, come, stands)) (known.only x held);
        all_set = λ x p. known.all_set x ((same x).1 p);
      }

  module _ (layer : List ℕ) where
    -- One entry more is set.
    pub marked_more :
        {comes' : ℕ → Type 0} {n : ℕ} {a b c : List ℕ} → Marked g comes (AmongTo layer n) i byte a b
        → ((x : ℕ) → comes' x ↔ comes x) → Marked g comes' (λ x. x ≡ get_or layer n 0) i byte b c → Marked g comes (AmongTo layer (n + 1)) i byte a c
    marked_more {n = n} known same one =
        record {
          size = one.size ∙ known.size;
          others = λ x l. one.others x l ∙ known.others x l;
          keeps = λ x held. one.keeps x (known.keeps x held);
          only = λ x held.
              ⊎_elim
              (λ old. ⊎_elim (λ first. inl first) (λ ((j, l, e), come, stands). inr ((j, omega arith, e), come, stands)) (known.only x old))
              (λ (e, come, stands). inr ((n, omega arith, sym e), (same x).0 come, stands))
              (one.only x held);
          all_set = λ x (j, l, e) come stands.
              ⊎_elim
              (λ now. one.all_set x (sym e ∙ ap (λ (k : ℕ). get_or layer k 0) (eqb-true j n now)) ((same x).1 come) stands)
              (λ then. let other = eqb-false j n then in one.keeps x (known.all_set x (j, omega arith, e) come stands))
              (bool_cases (eqb j n));
        }

  -- The layer is a part of the order.
  marked_in :
      (order : List ℕ) (from to : ℕ) {a b : List ℕ} → to ≤ length order → Marked g comes (Among (part order from to)) i byte a b
      → Marked g comes (AmongIn order from to) i byte a b
  marked_in order from to inside =
      marked_same (λ x. (some_of_part order from to inside (λ y. y ≡ x), part_of_some order from to inside (λ y. y ≡ x)))

-- ---- The whole text

-- No layer ends behind the last one, which is k layers on.
layer_within :
    {g : Graph} {order starts : List ℕ} {depth : ℕ} → Layered g order starts depth → (k d : ℕ) → d + k ≡ depth
    → get_or starts (d + 1) 0 ≤ get_or starts (depth + 1) 0
layer_within {depth = depth} lay zero d e = let same : d ≡ depth = omega arith in rw same (omega arith)
layer_within {starts = starts} {depth = depth} lay (suc k) d e = go (ltb (d + 1) depth) refl (layer_within lay k (d + 1) (omega arith))
  where
    go : (b : Bool) → ltb (d + 1) depth ≡ b → get_or starts (d + 1 + 1) 0 ≤ get_or starts (depth + 1) 0 → get_or starts (d + 1) 0 ≤ get_or starts (depth + 1) 0
    go true t later = omega (arith, lay.rising (d + 1) (ltb-true (d + 1) depth t))
    go false t later = let past = ltb-false (d + 1) depth t in let same : d + 1 ≡ depth = omega arith in omega (arith, rw (← same) at lay.last_from)

-- The first i bytes of `out` are written, and `rest` are left: these go on from the pairs that come, and with the lowest such text the written bytes
-- make the lowest text. The pairs of the table of the byte before have no nearer end than that, and those of the other table none but farther ones.
pub record Written (prepared : List ℕ) (q : Quest) (leads order starts : List ℕ) (bytes : ℕ) (alive out : List ℕ) (i : ℕ) : Type 0 where
  pub rest : ℕ
  pub count_is : i + rest ≡ bytes
  pub cells : length alive ≡ 1024
  pub whole : length out ≡ bytes
  pub going : Open (graph_of prepared q leads) order starts (Comes q leads alive i) rest
  pub newer : (pair : ℕ) → held_in alive (256 * ((i + 1) % 2)) pair ≡ true → NoneNearer (graph_of prepared q leads) rest pair
  pub older : (pair : ℕ) → held_in alive (256 * (i % 2)) pair ≡ true → NoneNearer (graph_of prepared q leads) (suc rest) pair
  pub so_far :
      (t : Text) → Lowest (Onward (graph_of prepared q leads) (Comes q leads alive i)) rest t
      → Lowest (Accepts (graph_of prepared q leads)) bytes (take i out ++ t)

module _
    (prepared : List ℕ) (q : Quest) (leads : List ℕ) {order starts : List ℕ} {bytes : ℕ} (fit : QuestFits q)
    (all-layers : WrittenOut (graph_of prepared q leads) order starts bytes)
  where
    -- the layers, and that the graph's pairs are below 32,768
    lay : Layered (graph_of prepared q leads) order starts all-layers.depth
    lay = all-layers.filled.layered

    bounded : Bounded (graph_of prepared q leads)
    bounded = graph_bounded prepared q leads fit

    -- Each layer is a part of the order,
    layer_inside : (i : ℕ) → i < bytes → get_or starts (bytes - i) 0 ≤ length order
    layer_inside i more =
        let depth = all-layers.depth in
        let same : bytes - i ≡ depth - i + 1 = omega (arith, all-layers.one_more) in
        rw same (omega (arith, layer_within lay i (depth - i) (omega arith), lay.inside))

    pub layer_rises : (i : ℕ) → i < bytes → (get_or starts (bytes - 1 - i) 0 ≤ get_or starts (bytes - i) 0) × (get_or starts (bytes - i) 0 ≤ length order)
    layer_rises i more = (rw (last, next) (rises (all-layers.depth - i) (omega arith)), layer_inside i more)
      where
        last : bytes - 1 - i ≡ all-layers.depth - i
        last = omega (arith, all-layers.one_more)

        next : bytes - i ≡ all-layers.depth - i + 1
        next = omega (arith, all-layers.one_more)

        rises : (d : ℕ) → d ≤ all-layers.depth → get_or starts d 0 ≤ get_or starts (d + 1) 0
        rises d within =
            ⊎_elim
            (λ b. omega (arith, lay.rising d (ltb-true d all-layers.depth b)))
            (λ b. let h : d ≡ all-layers.depth = omega (arith, ltb-false d all-layers.depth b) in rw h lay.last_from)
            (bool_cases (ltb d all-layers.depth))

    -- and has room for its entries' rows.
    pub layer_room :
        EntriesRoom prepared q order (get_or starts bytes 0) → (i : ℕ) → i < bytes
        → let layer = part order (get_or starts (bytes - 1 - i) 0) (get_or starts (bytes - i) 0) in EntriesRoom prepared q layer (length layer)
    layer_room room i more =
        record {
          inside = omega arith;
          below = λ k l. let (j, m, e) = here k l in rw e (room.below j m);
          rooms = λ k l. let (j, m, e) = here k l in rw e (room.rooms j m);
        }
      where
        from : ℕ
        from = get_or starts (bytes - 1 - i) 0

        to : ℕ
        to = get_or starts (bytes - i) 0

        within : to ≤ get_or starts bytes 0
        within =
            let depth = all-layers.depth in
            let one_more = all-layers.one_more in
            let same : bytes - i ≡ depth - i + 1 = omega arith in
            rw (same, one_more) (layer_within lay i (depth - i) (omega arith))

        here : (k : ℕ) → k < length (part order from to) → (j : ℕ) × (j < get_or starts bytes 0) × (get_or (part order from to) k 0 ≡ get_or order j 0)
        here k l =
            let below : k < to - from = omega (arith, part_length order from to (layer_inside i more)) in
            (from + k, omega (arith, within), part_at order from to (layer_inside i more) k below)

    -- At first nothing is written.
    pub written_begins : {alive out : List ℕ} → NoneAlive alive → length out ≡ bytes → Written prepared q leads order starts bytes alive out 0
    unfolding Comes graph_of Onward Accepts
    written_begins {alive} {out} none whole =
        record {
          rest = bytes;
          count_is = omega arith;
          cells = none.cells;
          whole = whole;
          going =
              record {
                none_nearer = λ pair c t come l stands w. omega (arith, begins_far bounded lay pair c t come l stands w, all-layers.one_more);
                some_comes = λ m e.
                    let begun = all-layers.filled.begun in
                    let same : m ≡ all-layers.depth = omega (arith, all-layers.one_more) in
                    (begun.place, rw same begun.in_last, begun.begins_there);
              };
          newer = λ pair held. absurd (not_both held (none.none (256 * ((0 + 1) % 2)) pair));
          older = λ pair held. absurd (not_both held (none.none (256 * (0 % 2)) pair));
          so_far = λ t least.
              record {
                is_one = accepts t least.is_one least.long;
                long = least.long;
                none_lower = λ u accepted. least.none_lower u (onward u accepted);
              };
        }
      where
        accepts : (t : Text) → Onward (graph_of prepared q leads) (Comes q leads alive 0) t → length t ≡ bytes → Accepts (graph_of prepared q leads) t
        accepts [] on long = absurd (omega (arith, all-layers.one_more))
        accepts (c ∷ t) (pair, come, l, stands, w) long = (pair, l, come, stands, w)

        onward : (t : Text) → Accepts (graph_of prepared q leads) t → Onward (graph_of prepared q leads) (Comes q leads alive 0) t
        onward [] accepted = absurd accepted
        onward (c ∷ t) (pair, l, come, stands, w) = (pair, come, l, stands, w)

    -- The next byte is the lowest of its layer:
    module _
        {alive out : List ℕ} {i : ℕ} (known : Written prepared q leads order starts bytes alive out i) (more : i < bytes) {r : ℕ}
        (low : LowestByte (graph_of prepared q leads) (Comes q leads alive i) (part order (get_or starts (bytes - 1 - i) 0) (get_or starts (bytes - i) 0)) r)
      where
        -- its layer is bytes - 1 - i
        inside_here : bytes - 1 - i ≤ all-layers.depth
        inside_here = omega (arith, all-layers.one_more)

        going_here : Open (graph_of prepared q leads) order starts (Comes q leads alive i) (suc (bytes - 1 - i))
        going_here = let same : known.rest ≡ suc (bytes - 1 - i) = omega (arith, known.count_is) in rw same at known.going

        next_start : bytes - i ≡ bytes - 1 - i + 1
        next_start = omega arith

        low_here : LowestIn (graph_of prepared q leads) (Comes q leads alive i) order (get_or starts (bytes - 1 - i) 0) (get_or starts (bytes - 1 - i + 1) 0) r
        low_here =
            rw next_start at
            (lowest_in (graph_of prepared q leads) (Comes q leads alive i) order (get_or starts (bytes - 1 - i) 0) (get_or starts (bytes - i) 0) (layer_inside i more) low)

        -- it is a byte,
        pub written_byte : r < 256
        written_byte = is_byte bounded lay inside_here going_here low_here

        -- and it is written;
        pub written_more :
            {after : List ℕ}
            → Marked (graph_of prepared q leads) (Comes q leads alive i) (Among (part order (get_or starts (bytes - 1 - i) 0) (get_or starts (bytes - i) 0))) i r alive after
            → Written prepared q leads order starts bytes after (set out i r) (i + 1)
        unfolding Comes graph_of
        written_more {after} marked-before =
            record {
              rest = bytes - 1 - i;
              count_is = omega arith;
              cells = marked.size ∙ known.cells;
              whole = length-set out i r ∙ known.whole;
              going = rw add-one (open_next bounded lay inside_here going_here low_here only marked.all_set);
              newer = λ pair held.
                  let again : (i + 1 + 1) % 2 ≡ i % 2 = omega arith in
                  held_far bounded lay inside_here going_here low_here only marked.all_set pair (rw again at held);
              older = λ pair held t w.
                  let h = known.newer pair (sym (marked.others pair (way_below bounded pair t w)) ∙ held) t w in
                  omega (arith, known.count_is);
              so_far = λ t least.
                  let whole-rest = lowest_next bounded lay inside_here going_here low_here only marked.all_set t (rw add-one at least) in
                  let same : suc (bytes - 1 - i) ≡ known.rest = omega (arith, known.count_is) in
                  let here : i < length out = omega (arith, known.whole) in
                  rw (add-one, take-suc-set, append_snoc) (known.so_far (r ∷ t) (rw same at whole-rest));
            }
          where
            marked : Marked (graph_of prepared q leads) (Comes q leads alive i) (OfLayer order starts (bytes - 1 - i)) i r alive after
            marked =
                rw next_start at
                (marked_in (graph_of prepared q leads) (Comes q leads alive i) i r order (get_or starts (bytes - 1 - i) 0) (get_or starts (bytes - i) 0)
                (layer_inside i more) marked-before)

            only :
                (pair : ℕ) → held_in after (256 * (i % 2)) pair ≡ true
                → NoneNearer (graph_of prepared q leads) (suc (bytes - 1 - i)) pair
                ⊎ (OfLayer order starts (bytes - 1 - i) pair × Comes q leads alive i pair × ((graph_of prepared q leads).stands pair r ≡ true))
            only pair held =
                ⊎_elim
                (λ old. inl (λ t w. let h = known.older pair old t w in omega (arith, known.count_is)))
                (λ new. inr new)
                (marked.only pair held)

    -- at last all is.
    pub written_ends :
        {alive out : List ℕ} {i : ℕ} → Written prepared q leads order starts bytes alive out i → bytes ≤ i → Given (Accepts (graph_of prepared q leads)) out
    written_ends {alive} {out} {i} known past =
        let none_left : known.rest ≡ 0 = omega (arith, known.count_is) in
        let least = known.so_far [] (rw none_left (lowest_none (graph_of prepared q leads) (Comes q leads alive i))) in
        let all_taken : take i out ++ [] ≡ out = append-nil (take i out) ∙ take_all i out (omega (arith, known.whole)) in
        let whole = rw all_taken at least in
        record {
          breaks = whole.is_one;
          shortest = λ u accepted. omega (arith, accepted_long bounded lay u accepted, known.whole, all-layers.one_more);
          lowest = λ u accepted e. whole.none_lower u accepted (e ∙ whole.long);
        }
