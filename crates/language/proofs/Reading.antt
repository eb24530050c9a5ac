-- A run over a text, byte by byte: what the loops over the text cite. Assumes nothing.
use mathlib.Core.Path.{◌≡◌, sym, ap, ◌∙◌}
use mathlib.Core.Bool.{false}
use mathlib.Core.List.{List}
use Prim.Native.Nat.{ℕ, suc, ◌+◌, ◌≤◌, ◌<◌}
use native.Mathlib.Numerals.{add-one}
use native.Mathlib.Omega.{arith}
use lib.ListN.{length, get_or, take, drop}
use lib.Seq.{take_all, take-suc, split_at}
use Rattle.semantics.specs.Text.{Text}
use Rattle.semantics.specs.Pattern.{Pattern, matches}
use Rattle.positions.specs.Positions.{Empty}
use Rattle.automaton.specs.declared.Automaton.{Automaton}
use Rattle.automaton.specs.Rows.{Room, Describes}
use Rattle.language.specs.declared.Run.{Run}
use Rattle.language.specs.Runs.{Forward, Advanced}
use Rattle.language.proofs.Steps.{forward_begins, stuck}

-- The first i bytes were read.
pub record Reading (prepared : List ℕ) (a : Automaton) (text : Text) (i : ℕ) (run : Run) : Type 0 where
  pub within : i ≤ length text
  pub so_far : (r : Pattern) → Describes r a prepared → Forward r (take i text) run

module _ {prepared : List ℕ} {a : Automaton} {text : Text} where
  pub reading_begins : Room a prepared → Reading prepared a text 0 (record { here = a.nullable; set = a.first })
  reading_begins room = record { within = omega arith; so_far = λ r d. forward_begins room d }

  module _ {i : ℕ} {run next : Run} (h : i < length text) where
    pub reading_more : Reading prepared a text i run → Advanced prepared a (get_or text i 0) run next → Reading prepared a text (i + 1) next
    reading_more known step =
        record {
          within = omega arith;
          so_far = λ r d. rw (add-one i, take-suc text i 0 h) (step.advanced r d (take i text) (known.so_far r d));
        }

  module _ {i : ℕ} {run : Run} (known : Reading prepared a text i run) {r : Pattern} (d : Describes r a prepared) where
    -- Once the whole text was read, the run tells whether it belongs.
    pub reading_all : length text ≤ i → run.here ≡ matches r text
    reading_all h = (known.so_far r d).here_is ∙ ap (matches r) (take_all i text h)

    -- Where no position is left, it does not.
    pub reading_none : Empty run.set → i < length text → false ≡ matches r text
    reading_none none h =
        sym (stuck (known.so_far r d) none (get_or text i 0) (drop (suc i) text)) ∙ ap (matches r) (sym (split_at text i 0 h))
