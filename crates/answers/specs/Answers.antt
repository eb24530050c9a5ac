-- What checking a program says of it and of the slice that it is prepared in.
use Rattle.std.specs.Prelude.{◌≡◌, List, ℕ, ◌<◌, ◌≤◌, length, Result, Ok, Err}
use Rattle.semantics.specs.Text.{Text}
use Rattle.semantics.specs.Lens.{Lens}
use Rattle.semantics.specs.Calls.{gives, refuses, program}
use Rattle.automaton.specs.Rows.{row_at}
use Rattle.automaton.specs.Built.{Built}
use Rattle.builder.specs.Program.{rows_needed}
use Rattle.answers.specs.declared.Hindrance.{Hindrance}
use Rattle.answers.specs.declared.Hindrance.TheVariants.{Refused, Small}

-- The program is accepted.
pub record IsAccepted (bytes : Text) : Type 0 where
  pub root : Lens
  pub gives_root : program bytes ≡ gives root

-- The program is accepted, and stands in the prepared slice.
pub record Ready (bytes : Text) (prepared : List ℕ) : Type 0 where
  pub accepted : IsAccepted bytes
  pub built : Built bytes prepared

-- The program is refused; where it breaks a typing rule from 7 on, it stands in the prepared slice.
pub record IsRefused (bytes : Text) (prepared : List ℕ) (number node : ℕ) : Type 0 where
  pub refuses_it : program bytes ≡ refuses number node
  pub built : 7 ≤ number → Built bytes prepared

-- The program's automata need more rows than a slice of that length has, and no more than a program can have.
pub record TooSmall (bytes : Text) (size : ℕ) : Type 0 where
  pub no_room : size < row_at (rows_needed bytes)
  pub most : rows_needed bytes ≤ 24576

-- what checking a program in a lent slice answers
abbrev pub Checked : Type 0
Checked = Result (Unit {0}) Hindrance

-- What checking a program in a lent slice says: it is accepted and built, or refused, or its automata need more room.
unfoldable pub CheckedIs : Text → Checked → List ℕ → Type 0
CheckedIs bytes (Ok _) prepared = Ready bytes prepared
CheckedIs bytes (Err (Refused r)) prepared = IsRefused bytes prepared r.number r.node
CheckedIs bytes (Err Small) prepared = TooSmall bytes (length prepared)
