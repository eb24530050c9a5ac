-- What the steps answer, from what the functions that they call answer.
use mathlib.Core.Path.{◌≡◌, refl, sym, ap, ◌∙◌}
use mathlib.Core.Bool.{Bool, true, false}
use mathlib.Core.List.{List}
use Prim.Native.Nat.{ℕ, ◌+◌, ◌-◌, ◌≤◌}
use native.Mathlib.Omega.{arith}
use lib.ListN.{take, drop, length-take}
use lib.Seq.{drop-drop}
use Rattle.semantics.specs.Text.{Text}
use Rattle.semantics.specs.Pattern.{Pattern, matches}
use Rattle.laws.specs.Basics.{not_both}
use Rattle.laws.specs.Paths.{border, first_loop, border_within, loop_within}
use Rattle.automaton.specs.declared.Automaton.{Automaton}
use Rattle.automaton.specs.declared.Side.{Side}
use Rattle.automaton.specs.declared.Side.TheVariants.{Sheet}
use Rattle.automaton.specs.Rows.{automaton_at, Describes}
use Rattle.paths.specs.Finding.{PathFound}
use Rattle.lens.specs.Emitting.{Prepared}
use Rattle.books.specs.Looking.{trail_of}
use Rattle.steps.specs.Steps.{Refitted}

-- a node has few positions
pub few_count : {prepared : List ℕ} {node : ℕ} {side : Side} {a : Automaton} → a ≡ automaton_at prepared node side → Prepared prepared node side → a.count ≤ 128
few_count a-is known = rw a-is known.room.few

-- ---- Parts of an old text

module _ (deck : Text) (start len : ℕ) where
  -- a part of the path that the deck holds, as it is lent
  abbrev pub lent_trail : List ℕ
  lent_trail = take (4096 + start + len - (4096 + start)) (drop (4096 + start) deck)

  pub trail_lent : lent_trail ≡ take len (drop start (trail_of deck))
  trail_lent =
      let as_long : 4096 + start + len - (4096 + start) ≡ len = omega arith in
      rw (as_long, drop-drop start 4096 deck)

  -- it is cut within the text
  pub cut_within : (mid i : ℕ) → i ≡ border mid lent_trail → i ≤ len
  cut_within mid i i_is =
      omega (arith, i_is, ap (border mid) trail_lent, border_within mid (take len (drop start (trail_of deck))), length-take len (drop start (trail_of deck)))

  -- and so does its first part end
  pub part_within : (last first : ℕ → Bool) (i : ℕ) → i ≡ first_loop last first lent_trail → i ≤ len
  part_within last first i i_is =
      omega (
        arith,
        i_is,
        ap (first_loop last first) trail_lent,
        loop_within last first (take len (drop start (trail_of deck))),
        length-take len (drop start (trail_of deck)),
      )

-- ---- A sheet that is fitted

-- a sheet that does not belong leaves the path as it was
pub not_fitted :
    {prepared : List ℕ} {node : ℕ} {new : Text} {path : List ℕ} {a : Automaton} {found : Bool}
    → a ≡ automaton_at prepared node Sheet
    → ((r : Pattern) → Describes r a prepared → found ≡ matches r new)
    → found ≡ false
    → Refitted prepared node new path path false
not_fitted a-is decides none =
    record { decides = λ r d. sym none ∙ decides r (rw a-is d); fitted = λ f r d. absurd (not_both f refl); unfitted = λ f r d. refl }

-- one that does is found to have a path, since both tell whether it belongs
pub is_fitted :
    {prepared : List ℕ} {node : ℕ} {new : Text} {before after : List ℕ} {a : Automaton} {found found' : Bool}
    → a ≡ automaton_at prepared node Sheet
    → ((r : Pattern) → Describes r a prepared → found ≡ matches r new)
    → found ≡ true
    → PathFound prepared a new after found'
    → Refitted prepared node new before after found'
is_fitted a-is decides belongs path-found =
    record {
      decides = λ r d. path-found.found_is r (rw a-is d);
      fitted = λ f r d. path-found.path_is f r (rw a-is d);
      unfitted = λ f r d.
          let same = path-found.found_is r (rw a-is d) ∙ sym (decides r (rw a-is d)) in
          absurd (not_both (same ∙ belongs) f);
    }
