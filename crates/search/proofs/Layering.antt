-- The layers of pairs by their distance from an end: how they begin, how one more is found, and what holds when the search stops. Assumes nothing.
use mathlib.Core.Path.{◌≡◌, refl, ◌∙◌}
use mathlib.Core.Bool.{true, false}
use mathlib.Core.List.{List, [], ◌∷◌}
use mathlib.Core.Logic.{◌⊎◌, inl, inr, ⊎_elim}
use Prim.Native.Nat.{ℕ, zero, suc, ◌+◌, ◌-◌, ◌≤◌, ◌<◌}
use native.Mathlib.Omega.{arith}
use lib.Dec.{ltb}
use lib.ListN.{length, get_or, set, length-set}
use lib.Seq.{get_or-set_same, get_or-set_other}
use borrow.Author.Tests.{ltb-true, ltb-false}
use Rattle.semantics.specs.Text.{Text}
use Rattle.laws.specs.Basics.{bool_cases, not_both, false_of_not_true}
use Rattle.search.specs.Graph.{Graph, Shared, Steps, Way, Accepts, Far}
use Rattle.search.specs.declared.patches.Quest.{Quest}
use Rattle.search.specs.Pairs.{held_in, pair_in, begins_in, graph_of, QuestFits}
use Rattle.search.specs.Queue.{Queue, Found, Before}
use Rattle.search.specs.Layers.{InLayer, AllFresh, Layered, Layers, Filled, Bounded}
use Rattle.search.proofs.Queues.{queue_room, graph_bounded}

-- The pair may come before one of those that stand in the order from `from` to before `to`.
abbrev Precedes : Graph → List ℕ → ℕ → ℕ → ℕ → Type 0
Precedes g order from to pair = (i : ℕ) × (from ≤ i) × (i < to) × (g.precedes pair (get_or order i 0) ≡ true)

-- What is below n + 1 is below n, or n itself.
pub before_or_last : (d n : ℕ) → d < n + 1 → (d < n) ⊎ (d ≡ n)
before_or_last d n l = ⊎_elim (λ b. inl (ltb-true d n b)) (λ b. inr (omega (arith, ltb-false d n b))) (bool_cases (ltb d n))

-- What is not up to n is beyond it.
beyond : (n k : ℕ) → (k ≤ n → ⊥) → n < k
beyond n k not = ⊎_elim (λ b. ltb-true n k b) (λ b. absurd (not (ltb-false n k b))) (bool_cases (ltb n k))

-- ---- Ways

module _ (g : Graph) where
  -- A pair at which a text ends has distance 0.
  far_end : (pair : ℕ) → g.ends pair ≡ true → Far g 0 pair
  unfolding Way
  far_end pair e = record { text = []; is_way = e; long = refl; none_shorter = λ t w. omega arith }

  -- A way of no bytes is an end.
  way_end : (pair : ℕ) (t : Text) → Way g pair t → length t ≡ 0 → g.ends pair ≡ true
  unfolding Way
  way_end pair [] w e = w
  way_end pair (c ∷ t) w e = absurd (omega arith)

  -- A byte, and a way from there, are a way.
  way_by : (pair c next : ℕ) (t : Text) → Steps g pair c next → Way g next t → Way g pair (c ∷ t)
  unfolding Way
  way_by pair c next t s w = (next, s, w)

  -- A way begins by a byte, or the pair is an end.
  way_first :
      (pair : ℕ) (t : Text) → Way g pair t
      → (length t ≡ 0) ⊎ ((c : ℕ) × (next : ℕ) × (u : Text) × Steps g pair c next × Way g next u × (length t ≡ length u + 1))
  unfolding Way
  way_first pair [] w = inl refl
  way_first pair (c ∷ t) (next, s, w) = inr (c, next, t, s, w, omega arith)

  -- Ways lead from pairs below 32,768.
  way_below : Bounded g → (pair : ℕ) (t : Text) → Way g pair t → pair < 32768
  unfolding Way
  way_below bounded pair [] w = bounded.ends_below pair w
  way_below bounded pair (c ∷ t) (next, s, w) = bounded.before_below pair next s.may_follow

-- ---- The layers rise

-- Each of the layers ends by the end of the last.
ends_by :
    {g : Graph} {order starts : List ℕ} {depth : ℕ} → Layered g order starts depth
    → (k d : ℕ) → d + k ≡ depth → get_or starts (d + 1) 0 ≤ get_or starts (depth + 1) 0
ends_by {depth = depth} l zero d e = let h : d ≡ depth = omega arith in rw h (omega arith)
ends_by {starts = starts} {depth} l (suc k) d e =
    let later : get_or starts (d + 1 + 1) 0 ≤ get_or starts (depth + 1) 0 = ends_by l k (d + 1) (omega arith) in
    let next : get_or starts (d + 1) 0 ≤ get_or starts (d + 1 + 1) 0 =
    ⊎_elim
    (λ b. omega (arith, l.rising (d + 1) (ltb-true (d + 1) depth b)))
    (λ b. let h : depth ≡ d + 1 = omega (arith, ltb-false (d + 1) depth b) in rw h at l.last_from)
    (bool_cases (ltb (d + 1) depth)) in
    omega arith

-- ---- The first layer

module _
    {g : Graph} {order fresh order' fresh' : List ℕ} {to : ℕ} (all_fresh : AllFresh g order fresh)
    (found : Found (λ pair. g.ends pair ≡ true) order fresh 0 order' fresh' to)
  where
    -- What is found has distance 0.
    ends_far : (i : ℕ) → i < to → Far g 0 (get_or order' i 0) × Shared g (get_or order' i 0)
    ends_far i below = let (h, e) = found.only i (omega arith) below in (far_end g (get_or order' i 0) e, all_fresh.fresh_shared (get_or order' i 0) h)

    -- The fresh pairs at which a text ends are the first layer.
    layers_begin : {starts : List ℕ} → get_or starts 0 0 ≡ 0 → get_or starts 1 0 ≡ to → to ≤ length order' → Layers g order' fresh' starts 0
    layers_begin {starts} from_is to_is inside =
        record {
          layered =
              record {
                first = from_is;
                rising = λ d l. absurd (omega arith);
                last_from = omega arith;
                inside = omega arith;
                in_layer = λ d i l at. let e : d ≡ 0 = omega arith in rw e (ends_far i (omega (arith, rw e at at.to)));
                all_in = λ d pair l below shared far. let e : d ≡ 0 = omega arith in rw e (all_first pair below shared (rw e at far));
                none_begins = λ d i l at. absurd (omega arith);
              };
          queue = rw to_is found.queue;
          fresh_or_near = λ pair below shared.
              ⊎_elim
              (λ h. inl h)
              (λ (i, l, m, e). inr (0, omega arith, rw e at (ends_far i m).0))
              (found.still pair (all_fresh.shared_fresh pair below shared));
          fresh_far = λ pair h. (
            all_fresh.fresh_shared pair (found.was_fresh pair h),
            λ t w. beyond 0 (length t) (λ none. no_end pair h (way_end g pair t w (omega arith))),
          );
        }
      where
        all_first : (pair : ℕ) → pair < 32768 → Shared g pair → Far g 0 pair → (i : ℕ) × InLayer starts 0 i × (get_or order' i 0 ≡ pair)
        all_first pair below shared far =
            let (i, l, m, same) = found.all_found pair (all_fresh.shared_fresh pair below shared) (way_end g pair far.text far.is_way far.long) in
            (i, record { from = omega arith; to = omega arith }, same)

        no_end : (pair : ℕ) → held_in fresh' 0 pair ≡ true → g.ends pair ≡ true → ⊥
        no_end pair h e =
            let (i, l, m, same) = found.all_found pair (found.was_fresh pair h) e in
            not_both (rw (← same) at h) (found.queue.closed i m)

-- ---- One more layer

module _
    {g : Graph} {order fresh starts order' fresh' : List ℕ} {depth from to to' : ℕ} (bounded : Bounded g) (known : Layers g order fresh starts depth)
    (from_is : get_or starts depth 0 ≡ from) (to_is : get_or starts (depth + 1) 0 ≡ to) (found : Found (Precedes g order from to) order fresh to order' fresh' to')
  where
    -- What is found comes before a pair of the last layer, and it was fresh, so it is farther than that one by one byte.
    found_far : (i : ℕ) → to ≤ i → i < to' → Far g (depth + 1) (get_or order' i 0) × Shared g (get_or order' i 0)
    found_far i above below =
        let pair = get_or order' i 0 in
        let (h, before) = found.only i above below in
        let (j, a, b, follows) = before in
        let (shared, longer) = known.fresh_far pair h in
        let (far, shares) = known.layered.in_layer depth j (omega arith) (record { from = omega arith; to = omega arith }) in
        let (c, byte, stands) = shares in (
          record {
            text = c ∷ far.text;
            is_way = way_by g pair c (get_or order j 0) far.text (record { byte = byte; may_follow = follows; may_stand = stands }) far.is_way;
            long = omega (arith, far.long);
            none_shorter = λ t w. omega (arith, longer t w);
          },
          shared,
        )

    -- A fresh pair from which so few bytes lead to an end is found: the pair behind the first byte is in the last layer.
    near_found :
        (pair : ℕ) (t : Text) → held_in fresh 0 pair ≡ true → Way g pair t → length t ≤ depth + 1
        → (i : ℕ) × (to ≤ i) × (i < to') × (get_or order' i 0 ≡ pair)
    near_found pair t h w short = ⊎_elim (λ e. absurd (omega (arith, longer t w))) by_next (way_first g pair t w)
      where
        longer : (u : Text) → Way g pair u → depth < length u
        longer = (known.fresh_far pair h).1

        by_next :
            (c : ℕ) × (next : ℕ) × (u : Text) × Steps g pair c next × Way g next u × (length t ≡ length u + 1)
            → (i : ℕ) × (to ≤ i) × (i < to') × (get_or order' i 0 ≡ pair)
        by_next (c, next, u, s, v, e) =
            let far : Far g depth next =
            record {
              text = u;
              is_way = v;
              long = omega (arith, longer t w);
              none_shorter = λ r x. let y = longer (c ∷ r) (way_by g pair c next r s x) in omega arith;
            } in
            let (j, at, same) = known.layered.all_in depth next (omega arith) (way_below g bounded next u v) (c, s.byte, s.may_stand) far in
            found.all_found pair h (j, omega (arith, at.from), omega (arith, at.to), rw same s.may_follow)

    -- One more layer, where no text begins by a pair of the last.
    layers_more :
        {starts' : List ℕ} → from < to → ((i : ℕ) → from ≤ i → i < to → g.begins (get_or order i 0) ≡ false)
        → ((d : ℕ) → d ≤ depth + 1 → get_or starts' d 0 ≡ get_or starts d 0) → get_or starts' (depth + 1 + 1) 0 ≡ to' → to' ≤ length order'
        → Layers g order' fresh' starts' (depth + 1)
    layers_more {starts'} some none kept last inside =
        record {
          layered =
              record {
                first = kept 0 (omega arith) ∙ old.first;
                rising = λ d l.
                    rw (kept d (omega arith), kept (d + 1) (omega arith))
                    (⊎_elim (λ m. old.rising d (omega arith)) (λ e. rw e (omega arith)) (before_or_last d depth (omega arith)));
                last_from = omega (arith, found.more, kept (depth + 1) (omega arith));
                inside = omega arith;
                in_layer = λ d i l at.
                    ⊎_elim (λ m. in_old d i (omega arith) at) (λ e. rw e (in_new i (rw e at at))) (before_or_last d (depth + 1) (omega arith));
                all_in = λ d pair l below shared far.
                    ⊎_elim
                    (λ m. all_old d pair (omega arith) below shared far)
                    (λ e. rw e (all_new pair below shared (rw e at far)))
                    (before_or_last d (depth + 1) (omega arith));
                none_begins = λ d i l at. rw (same_pair_lem d i (omega arith) (shown d i (omega arith) at)) (none_old d i l (shown d i (omega arith) at));
              };
          queue = rw last found.queue;
          fresh_or_near = λ pair below shared.
              ⊎_elim (λ h. fresh_or_found pair h) (λ (d, l, far). inr (d, omega arith, far)) (known.fresh_or_near pair below shared);
          fresh_far = λ pair h. ((known.fresh_far pair (found.was_fresh pair h)).0, farther pair h);
        }
      where
        old : Layered g order starts depth
        old = known.layered

        -- the layers that were there stand where they stood,
        shown : (d i : ℕ) → d ≤ depth → InLayer starts' d i → InLayer starts d i
        shown d i l at = record { from = rw (kept d (omega arith)) at at.from; to = rw (kept (d + 1) (omega arith)) at at.to }

        shown_back : (d i : ℕ) → d ≤ depth → InLayer starts d i → InLayer starts' d i
        shown_back d i l at = record { from = rw (kept d (omega arith)) at.from; to = rw (kept (d + 1) (omega arith)) at.to }

        -- with the same pairs
        same_pair_lem : (d i : ℕ) → d ≤ depth → InLayer starts d i → get_or order' i 0 ≡ get_or order i 0
        same_pair_lem d i l at = found.kept i (omega (arith, at.to, ends_by old (depth - d) d (omega arith)))

        in_old : (d i : ℕ) → d ≤ depth → InLayer starts' d i → Far g d (get_or order' i 0) × Shared g (get_or order' i 0)
        in_old d i l at = let before = shown d i l at in rw (same_pair_lem d i l before) (old.in_layer d i l before)

        in_new : (i : ℕ) → InLayer starts' (depth + 1) i → Far g (depth + 1) (get_or order' i 0) × Shared g (get_or order' i 0)
        in_new i at = found_far i (omega (arith, at.from, kept (depth + 1) (omega arith))) (omega (arith, at.to))

        all_old : (d pair : ℕ) → d ≤ depth → pair < 32768 → Shared g pair → Far g d pair → (i : ℕ) × InLayer starts' d i × (get_or order' i 0 ≡ pair)
        all_old d pair l below shared far =
            let (i, at, same) = old.all_in d pair l below shared far in
            (i, shown_back d i l at, same_pair_lem d i l at ∙ same)

        all_new : (pair : ℕ) → pair < 32768 → Shared g pair → Far g (depth + 1) pair → (i : ℕ) × InLayer starts' (depth + 1) i × (get_or order' i 0 ≡ pair)
        all_new pair below shared far =
            ⊎_elim
            (λ h.
            let (i, l, m, same) = near_found pair far.text h far.is_way (omega (arith, far.long)) in
            (i, record { from = omega (arith, kept (depth + 1) (omega arith)); to = omega arith }, same))
            (λ (d, l, near). absurd (omega (arith, far.none_shorter near.text near.is_way, near.long)))
            (known.fresh_or_near pair below shared)

        none_old : (d i : ℕ) → d < depth + 1 → InLayer starts d i → g.begins (get_or order i 0) ≡ false
        none_old d i l at =
            ⊎_elim
            (λ m. old.none_begins d i m at)
            (λ e. none i (omega (arith, rw e at at.from)) (omega (arith, rw e at at.to)))
            (before_or_last d depth l)

        -- what was fresh is still, or it is found
        fresh_or_found : (pair : ℕ) → held_in fresh 0 pair ≡ true → (held_in fresh' 0 pair ≡ true) ⊎ ((d : ℕ) × (d ≤ depth + 1) × Far g d pair)
        fresh_or_found pair h = ⊎_elim (λ k. inl k) (λ (i, l, m, same). inr (depth + 1, omega arith, rw same at (found_far i l m).0)) (found.still pair h)

        -- what is fresh now is farther than what is found
        farther : (pair : ℕ) → held_in fresh' 0 pair ≡ true → (t : Text) → Way g pair t → depth + 1 < length t
        farther pair h t w =
            beyond (depth + 1) (length t)
            (λ short.
            let (i, l, m, same) = near_found pair t (found.was_fresh pair h) w short in
            not_both (rw (← same) at h) (found.queue.closed i m))

-- ---- The search stops

module _ {g : Graph} {order fresh starts : List ℕ} {depth : ℕ} (known : Layers g order fresh starts depth) where
  -- A text begins by a pair of the last layer.
  layers_begun : (i : ℕ) → get_or starts depth 0 ≤ i → i < get_or starts (depth + 1) 0 → g.begins (get_or order i 0) ≡ true → Filled g order starts depth
  layers_begun i above below begins =
      record { layered = known.layered; begun = record { place = i; in_last = record { from = above; to = below }; begins_there = begins } }

  module _ (bounded : Bounded g) (empty : get_or starts (depth + 1) 0 ≤ get_or starts depth 0) where
    -- Where the last layer is empty, a pair that is not fresh is in an earlier one;
    not_fresh : (pair : ℕ) → pair < 32768 → Shared g pair → (held_in fresh 0 pair ≡ true → ⊥) → (d : ℕ) × (d < depth) × Far g d pair
    not_fresh pair below shared not = ⊎_elim (λ h. absurd (not h)) near (known.fresh_or_near pair below shared)
      where
        near : (d : ℕ) × (d ≤ depth) × Far g d pair → (d : ℕ) × (d < depth) × Far g d pair
        near (d, l, far) =
            ⊎_elim
            (λ m. (d, m, far))
            (λ e. let (i, at, same) = known.layered.all_in depth pair (omega arith) below shared (rw e at far) in absurd (omega (arith, at.from, at.to)))
            (before_or_last d depth (omega arith))

    -- so is each pair that leads to an end, since the one behind the first byte is,
    in_earlier : (t : Text) (pair : ℕ) → Shared g pair → Way g pair t → (d : ℕ) × (d < depth) × Far g d pair
    unfolding Way
    in_earlier [] pair shared w = not_fresh pair (bounded.ends_below pair w) shared (λ h. omega (arith, (known.fresh_far pair h).1 [] w))
    in_earlier (c ∷ t) pair shared (next, s, w) =
        let (d, l, far) = in_earlier t next (c, s.byte, s.may_stand) w in
        not_fresh pair (bounded.before_below pair next s.may_follow) shared
        (λ h. omega (arith, (known.fresh_far pair h).1 (c ∷ far.text) (next, s, far.is_way), far.long))

    -- and no text leads from a beginning to an end.
    none_accepted : (t : Text) → Accepts g t → ⊥
    unfolding Accepts
    none_accepted [] m = elim m [ ]
    none_accepted (c ∷ t) (pair, byte, begins, stands, w) =
        let (d, l, far) = in_earlier t pair (c, byte, stands) w in
        let (i, at, same) = known.layered.all_in d pair (omega arith) (way_below g bounded pair t w) (c, byte, stands) far in
        not_both (rw (← same) at begins) (known.layered.none_begins d i l at)

-- ---- The turns of the search

-- Behind `depth` turns: the layers, whatever the prepared program is, as they follow from the first.
pub record Turn (quest : Quest) (leads order₀ fresh₀ starts₀ order fresh starts : List ℕ) (from to depth : ℕ) : Type 0 where
  pub queue : Queue order fresh to
  pub same_order : length order ≡ length order₀
  pub same_starts : length starts ≡ length starts₀
  pub inside : to ≤ length order
  pub upward : from ≤ to
  pub deep : depth ≤ from
  pub from_is : get_or starts depth 0 ≡ from
  pub to_is : get_or starts (depth + 1) 0 ≡ to
  pub layers :
      (prepared : List ℕ) → Layers (graph_of prepared quest leads) order₀ fresh₀ starts₀ 0
      → Layers (graph_of prepared quest leads) order fresh starts depth

module _ {quest : Quest} {leads : List ℕ} where
  -- The first layer stands where it was found.
  pub turn_begins :
      {order fresh : List ℕ} (starts : List ℕ) {to : ℕ} → Queue order fresh to → 2 ≤ length starts
      → Turn quest leads order fresh (set (set starts 0 0) 1 to) order fresh (set (set starts 0 0) 1 to) 0 to 0
  turn_begins starts {to} queue long =
      record {
        queue = queue;
        same_order = refl;
        same_starts = refl;
        inside = queue_room queue;
        upward = omega arith;
        deep = omega arith;
        from_is = get_or-set_other (set starts 0 0) 1 0 to 0 (λ e. omega arith) ∙ get_or-set_same starts 0 0 0 (omega arith);
        to_is = get_or-set_same (set starts 0 0) 1 to 0 (rw length-set (omega arith));
        layers = λ prepared first. first;
      }

  module _
      {order₀ fresh₀ starts₀ order fresh starts : List ℕ} {from to depth : ℕ}
      (turn : Turn quest leads order₀ fresh₀ starts₀ order fresh starts from to depth)
    where
      -- One more turn, where no text begins by a pair of the last layer.
      pub turn_more :
          {order' fresh' : List ℕ} {to' : ℕ} → QuestFits quest → length order + 2 ≤ length starts → from < to
          → (((i : ℕ) × (from ≤ i) × (i < to) × (begins_in quest (get_or order i 0) ≡ true)) → ⊥)
          → Found (Before quest leads order from to) order fresh to order' fresh' to'
          → Turn quest leads order₀ fresh₀ starts₀ order' fresh' (set starts (depth + 1 + 1) to') to to' (depth + 1)
      unfolding graph_of
      turn_more {order'} {to' = to'} fits long some none found =
          record {
            queue = found.queue;
            same_order = found.size ∙ turn.same_order;
            same_starts = length-set starts (depth + 1 + 1) to' ∙ turn.same_starts;
            inside = queue_room found.queue;
            upward = found.more;
            deep = omega (arith, turn.deep);
            from_is = kept (depth + 1) (omega arith) ∙ turn.to_is;
            to_is = last;
            layers = λ prepared first.
                layers_more (graph_bounded prepared quest leads fits) (turn.layers prepared first) turn.from_is turn.to_is found some
                (λ i l m. false_of_not_true (begins_in quest (get_or order i 0)) (λ b. none (i, l, m, b)))
                kept last (queue_room found.queue);
          }
        where
          kept : (d : ℕ) → d ≤ depth + 1 → get_or (set starts (depth + 1 + 1) to') d 0 ≡ get_or starts d 0
          kept d l = get_or-set_other starts (depth + 1 + 1) d to' 0 (λ e. omega arith)

          last : get_or (set starts (depth + 1 + 1) to') (depth + 1 + 1) 0 ≡ to'
          last = get_or-set_same starts (depth + 1 + 1) to' 0 (omega (arith, turn.deep, turn.inside))

      -- A text begins by a pair of the last layer.
      pub turn_begun :
          (prepared : List ℕ) → ((i : ℕ) × (from ≤ i) × (i < to) × (begins_in quest (get_or order i 0) ≡ true))
          → Layers (graph_of prepared quest leads) order₀ fresh₀ starts₀ 0 → Filled (graph_of prepared quest leads) order starts depth
      unfolding graph_of
      turn_begun prepared (i, l, m, begins) first =
          layers_begun (turn.layers prepared first) i (rw turn.from_is l) (rw turn.to_is m) begins

      -- The last layer is empty.
      pub turn_none :
          (prepared : List ℕ) → QuestFits quest → to ≤ from → Layers (graph_of prepared quest leads) order₀ fresh₀ starts₀ 0
          → (t : Text) → Accepts (graph_of prepared quest leads) t → ⊥
      turn_none prepared fits empty first =
          none_accepted (turn.layers prepared first) (graph_bounded prepared quest leads fits) (rw (turn.from_is, turn.to_is) empty)

-- The first layer has the fresh pairs at which a text ends.
pub first_layer :
    {order fresh order' fresh' : List ℕ} {to : ℕ} (quest : Quest) (leads starts prepared : List ℕ) → 2 ≤ length starts
    → Found (λ pair. pair_in quest.goal pair ≡ true) order fresh 0 order' fresh' to
    → AllFresh (graph_of prepared quest leads) order fresh → Layers (graph_of prepared quest leads) order' fresh' (set (set starts 0 0) 1 to) 0
unfolding graph_of
first_layer quest leads starts prepared long found all_fresh =
    let turn = turn_begins {quest = quest} {leads = leads} starts found.queue long in
    layers_begin all_fresh found turn.from_is turn.to_is turn.inside
