-- A path that came to the end of its text. Assumes nothing.
use mathlib.Core.Path.{◌≡◌, sym, ◌∙◌}
use mathlib.Core.Bool.{Bool, true, false}
use mathlib.Core.List.{List, [], append-nil}
use mathlib.Core.Logic.{◌↔◌}
use native.Mathlib.Omega.{arith}
use lib.ListN.{length, take, drop}
use lib.Seq.{take_all, drop-length}
use Rattle.semantics.specs.Pattern.{Pattern, In, matches}
use Rattle.laws.specs.Basics.{not_both, false_of_not_true}
use Rattle.laws.specs.Membership.{matches_in_lem, in_matches}
use Rattle.automaton.specs.declared.Automaton.{Automaton}
use Rattle.automaton.specs.Rows.{Describes}
use Rattle.walks.specs.declared.Walk.{Walk}
use Rattle.walks.specs.Walking.{Walked}
use Rattle.paths.specs.Finding.{PathFound}
use Prim.Native.Nat.{ℕ}

module _ {prepared : List ℕ} {a : Automaton} {text path : List ℕ} where
  -- Once the whole text was read, the walk tells whether it belongs, and the path is whole.
  pub walked_all : {walk : Walk} → Walked prepared a text path walk → walk.at ≡ length text → length path ≡ length text → PathFound prepared a text path walk.here
  walked_all {walk} known all same =
      record {
        found_is = λ r d. tells r walk.here (known.so_far r d).here_is (ended r d);
        path_is = λ found r d.
            let before = known.so_far r d in
            rw
            (← take_all walk.at path (omega arith), ← append-nil (take walk.at path))
            (before.goes_on [] (rw nothing_left_lem (sym before.here_is ∙ found)));
      }
    where
      nothing_left_lem : drop walk.at text ≡ []
      nothing_left_lem = rw all (drop-length text)

      ended : (r : Pattern) (d : Describes r a prepared) → In r text ↔ ((known.so_far r d).ends ≡ true)
      ended r d = rw nothing_left_lem at (known.so_far r d).belongs_iff

      tells : (r : Pattern) {ends : Bool} (here : Bool) → here ≡ ends → In r text ↔ (ends ≡ true) → here ≡ matches r text
      tells r true is iff = sym (in_matches r text (iff.1 (sym is)))
      tells r false is iff = sym (false_of_not_true (matches r text) (λ e. not_both (iff.0 (matches_in_lem r text e)) (sym is)))
