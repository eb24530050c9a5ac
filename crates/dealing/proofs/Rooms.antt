-- The rooms that the cards are dealt in, and when every entry has its card. Assumes nothing.
use mathlib.Core.Path.{◌≡◌, ap, ◌∙◌}
use mathlib.Core.List.{List}
use Prim.Native.Nat.{ℕ, ◌+◌, ◌*◌, ◌/◌, ◌≤◌, ◌<◌}
use native.Mathlib.Omega.{arith}
use lib.ListN.{length, replicate, length-replicate}
use Rattle.semantics.specs.Text.{Text}
use Rattle.books.specs.declared.Book.{Book}
use Rattle.books.specs.Looking.{Dealt}
use Rattle.decks.specs.declared.deck.Dealing.{Dealing}
use Rattle.decks.specs.Dealing.{PathRoom, DealtOn}

-- a room that was asked for has its length
pub filled_length : {xs : List ℕ} {n : ℕ} → xs ≡ replicate n 0 → length xs ≡ n
filled_length {n = n} e = ap length e ∙ length-replicate {A = ℕ} n 0

-- room for the paths of entries' sheets of some length, and for the sets that finding them keeps
pub paths_room :
    {marks path : List ℕ} {m p : ℕ}
    → marks ≡ replicate m 0
    → path ≡ replicate p 0
    → (4096 ≤ p) × (p < 1048576) × (4096 < p → 2 * ((p + 255) / 256) ≤ m) × (m < 1048576)
    → PathRoom marks path
paths_room {m = m} {p = p} marks-are path-is (least, small, long, few) =
    let marks-long = filled_length marks-are in
    let path-long = filled_length path-is in
    record {
      least_room = omega arith;
      marks_room = record { bounded = omega arith; long_room = λ longer. rw (path-long, marks-long) (long (omega arith)) };
    }

module _ {room : ℕ} {bytes old trail : Text} {b : Book} {deck : Text} {d : Dealing} (on : DealtOn room bytes old trail b deck d) where
  -- where every entry has its card, more room would not have changed it
  pub dealt_all : {more : ℕ} → d.entries ≡ b.count → DealtOn more bytes old trail b deck d
  dealt_all e = record { dealt = on.dealt; all = on.all; stopped = λ less. absurd (omega (arith, e)) }

  -- where none is left, every entry has its card
  pub none_left : b.count ≤ d.entries → Dealt bytes old trail b deck
  none_left h = on.all (omega (arith, on.dealt.few))

-- a large deck, with room for the path of any sheet, has room for every card
pub large_deals_all :
    {A : Type 0} {bytes old trail : Text} {b : Book} {deck : Text} {d : Dealing}
    → DealtOn 524288 bytes old trail b deck d
    → length deck ≡ 570752
    → d.entries < b.count
    → A
large_deals_all on size less = absurd (omega (arith, on.stopped less (omega arith)))
