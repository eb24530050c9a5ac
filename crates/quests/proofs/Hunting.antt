-- From the layers and the text that is written to what the search finds. Assumes nothing.
use mathlib.Core.Path.{◌≡◌, refl, ap, ◌∙◌}
use mathlib.Core.Bool.{Bool, true}
use mathlib.Core.List.{List, [], ◌∷◌, ◌++◌}
use Prim.Native.Nat.{ℕ, zero, suc, ◌+◌, ◌*◌, ◌/◌, ◌%◌, ◌≤◌, ◌<◌}
use native.Mathlib.Omega.{arith}
use lib.ListN.{length, get_or, drop}
use Rattle.semantics.specs.Text.{Text, All}
use Rattle.laws.specs.Bytes.{IsByte}
use Rattle.clash.specs.Clash.{Given}
use Rattle.search.specs.declared.patches.Quest.{Quest}
use Rattle.search.specs.Graph.{Graph, Way, Accepts}
use Rattle.search.specs.Pairs.{graph_of, QuestFits}
use Rattle.search.specs.Layers.{AllFresh, Layered, Filled}
use Rattle.spelling.specs.Texts.{EntriesRoom, NoneAlive}
use Rattle.search.proofs.Queues.{graph_bounded}
use Rattle.spelling.proofs.Writing.{accepted_long, accepted_some}
use Rattle.quests.specs.Quests.{Rooms, Cleared, Tables, FreshIn, Asks, Answerable, Hunted}
use Rattle.quests.proofs.Filling.{all_fresh, room_of, shared_below, entry_shared}

-- each layer before the last has a pair, so there are no more layers than entries
layers_deep : {g : Graph} {order starts : List ℕ} {depth : ℕ} → Layered g order starts depth → (d : ℕ) → d ≤ depth → d ≤ get_or starts d 0
layers_deep lay zero h = omega arith
layers_deep {starts = starts} lay (suc d) h =
    let rec = layers_deep lay d (omega arith) in
    let next : get_or starts (suc d) 0 ≡ get_or starts (d + 1) 0 = ap (λ (n : ℕ). get_or starts n 0) (omega arith) in
    omega (arith, lay.rising d (omega arith))

pub filled_deep : {g : Graph} {order starts : List ℕ} {depth : ℕ} → Filled g order starts depth → depth ≤ length order
filled_deep {depth = depth} filled = let lay = filled.layered in omega (arith, layers_deep lay depth (omega arith), lay.last_from, lay.inside)

-- a way is made of bytes, and so is an accepted text
way_bytes : (g : Graph) (pair : ℕ) (t : Text) → Way g pair t → All IsByte t
unfolding Way
way_bytes g pair [] w = tt
way_bytes g pair (c ∷ t) (next, s, w) = (s.byte, way_bytes g next t w)

accepted_bytes : (g : Graph) (t : Text) → Accepts g t → All IsByte t
unfolding Accepts
accepted_bytes g [] a = absurd a
accepted_bytes g (c ∷ t) (pair, byte, begins, stands, w) = (byte, way_bytes g pair t w)

-- no pair is alive in cleared cells
pub none_alive : {alive : List ℕ} → Cleared 1024 alive → NoneAlive alive
none_alive cleared = record { cells = cleared.long; none = λ table pair. cleared.none_held (table + pair / 128) (pair % 128) }

module _
    {prepared : List ℕ} {q : Quest} {leads : List ℕ} (rooms : Rooms prepared q) (fits_quest : QuestFits q) (tables : Tables prepared q leads)
  where
    -- the search begins with all pairs that share a byte
    pub begins_fresh :
        {order fresh : List ℕ} → FreshIn prepared q fresh → q.part.count * q.part.count + q.whole.count * q.rest.count ≤ length order
        → AllFresh (graph_of prepared q leads) order fresh
    begins_fresh {order} {fresh} shared room =
        all_fresh prepared q leads order fresh rooms.part_room.few rooms.whole_room.few rooms.rest_room.few shared room

    -- some text can be found
    pub some_accepted : (a : Answerable prepared q) → Accepts (graph_of prepared q leads) a.text
    some_accepted a = (a.asks leads tables a.text).1 a.passes

    module _ {order starts : List ℕ} {depth : ℕ} (filled : Filled (graph_of prepared q leads) order starts depth) where
      -- the entries of the layers are pairs of positions
      pub entries_room : (n : ℕ) → n ≡ depth + 1 → EntriesRoom prepared q order (get_or starts n 0)
      entries_room n e =
          rw e
          (record {
            inside = filled.layered.inside;
            below = λ k h. shared_below q prepared leads _ rooms.whole_room.few (entry_shared filled.layered k h);
            rooms = λ k h. room_of leads _ rooms (entry_shared filled.layered k h);
          })

      module _ {test : Text → Bool} (asks : Asks prepared q test) where
        -- the texts that can be found are made of bytes, and none is shorter than the layers are deep
        bytes_hunted : (t : Text) → test t ≡ true → All IsByte t
        bytes_hunted t passes = accepted_bytes (graph_of prepared q leads) t ((asks leads tables t).1 passes)

        least_hunted : (t : Text) → test t ≡ true → depth + 1 ≤ length t
        least_hunted t passes =
            omega (arith, accepted_long (graph_bounded prepared q leads fits_quest) filled.layered t ((asks leads tables t).1 passes))

        some_hunted : (t : Text) × (test t ≡ true) × (length t ≡ depth + 1)
        some_hunted =
            let (t, accepted, long) = accepted_some filled in
            (t, (asks leads tables t).0 accepted, omega (arith, long))

        -- The text has no room,
        pub hunted_short : (out : Text) → length out < depth + 1 → Hunted test out out (depth + 1)
        hunted_short out short = record { of_bytes = bytes_hunted; least = least_hunted; some = some_hunted; short = λ h. refl; fits = λ h. absurd (omega arith) }

        -- or it is written.
        pub hunted_fits :
            (t out after : Text) → Given (Accepts (graph_of prepared q leads)) t → length t ≡ depth + 1 → depth + 1 ≤ length out
            → {n : ℕ} → after ≡ t ++ drop n out → n ≡ depth + 1 → Hunted test out after (depth + 1)
        hunted_fits t out after given long room after_is same =
            record {
              of_bytes = bytes_hunted;
              least = least_hunted;
              some = some_hunted;
              short = λ h. absurd (omega arith);
              fits = λ h. (t, by_test, long, after_is ∙ ap (λ (n : ℕ). t ++ drop n out) same);
            }
          where
            by_test : Given (λ u. test u ≡ true) t
            by_test =
                record {
                  breaks = (asks leads tables t).0 given.breaks;
                  shortest = λ u passes. given.shortest u ((asks leads tables u).1 passes);
                  lowest = λ u passes. given.lowest u ((asks leads tables u).1 passes);
                }
