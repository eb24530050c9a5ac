-- The two places that are found are the two smallest ends. Assumes nothing.
use mathlib.Core.Path.{◌≡◌}
use mathlib.Core.Bool.{true}
use mathlib.Core.List.{List}
use mathlib.Core.Logic.{◌↔◌, ⊎_elim}
use Prim.Native.Nat.{ℕ, ◌≤◌, ◌<◌}
use native.Mathlib.Omega.{arith}
use borrow.Author.Tests.{ltb-true, ltb-false}
use lib.Dec.{ltb}
use lib.ListN.{length}
use Rattle.semantics.specs.Text.{Text}
use Rattle.semantics.specs.Pattern.{Pattern}
use Rattle.laws.specs.Basics.{bool_cases, not_both}
use Rattle.clash.specs.Clash.{EndAt, is_end, first_end, second_end, cut_twice}
use Rattle.clash.proofs.Ends.{is_end_iff, first_smallest, second_smallest, two_ends}
use Rattle.automaton.specs.declared.Automaton.{Automaton}
use Rattle.automaton.specs.Rows.{Describes}
use Rattle.ends.specs.declared.Ends.{Ends}
use Rattle.ends.specs.Places.{Flagged, may_end, NextEnd, TwoEnds}

module _ {prepared : List ℕ} {a b : Automaton} {text : Text} {flags : List ℕ} (rests : Flagged prepared b text 0 flags) where
  module _ {r s : Pattern} (d : Describes r a prepared) (e : Describes s b prepared) where
    -- The first half may end at a place exactly if that is an end.
    end_iff : (j : ℕ) → j ≤ length text → (may_end r text flags j ≡ true) ↔ EndAt r s text j
    unfolding is_end may_end
    end_iff j h = rw (rests.flag_is s e j (omega arith) h) (is_end_iff r s text j h)

    -- The place that is found from `from` on is the smallest end from there on, if there is one.
    place_is :
        {from place end : ℕ} → NextEnd prepared a text flags from place → from ≤ end → EndAt r s text end
        → ((j : ℕ) → from ≤ j → EndAt r s text j → end ≤ j) → place ≡ end
    place_is {from} {place} {end} known later it smallest =
        let onward = known.onward in
        let inside = known.inside in
        let not_passed : ¬ (end < place) = λ l. not_both ((end_iff end it.0).1 it) (known.passed r d end later l) in
        let reached : end ≤ place =
        ⊎_elim
        (λ l. smallest place onward ((end_iff place inside).0 (known.found r d (ltb-true place (length text) l))))
        (λ l. omega (arith, ltb-false place (length text) l, it.0))
        (bool_cases (ltb place (length text))) in
        omega arith

    -- The first place is the smallest end and the second the next, where there are two.
    pub ends_are :
        {ends : Ends} → TwoEnds prepared a text flags ends → cut_twice r s text ≡ true
        → (ends.first ≡ first_end r s text) × (ends.second ≡ second_end r s text)
    ends_are {ends} known told =
        let (it, next, above) = two_ends r s text told in
        let first : ends.first ≡ first_end r s text = place_is known.first_is (omega arith) it (λ j l h. first_smallest r s text j h) in
        let behind = known.second_is (omega (arith, next.0)) in
        (first, place_is behind (omega arith) next (λ j l h. second_smallest r s text j h (omega arith)))
