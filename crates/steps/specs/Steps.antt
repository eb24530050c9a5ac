-- What the steps of a writer are given, and what they answer.
use Rattle.std.specs.Prelude.{◌≡◌, Bool, true, false, cond, ◌⊎◌, List, [], ◌∷◌, ℕ, ◌+◌, ◌-◌, ◌^◌, ◌≤◌, ◌<◌, eqb, length}
use Rattle.std.proofs.Math.Option.{Option, none, some}
use Rattle.semantics.specs.Text.{Text, or_else, apply}
use Rattle.semantics.specs.Pattern.{Pattern, matches}
use Rattle.semantics.specs.Lens.{Lens, union, repeat, source, sheet, language, parts, write}
use Rattle.semantics.specs.Lens.{Book as Entries}
use Rattle.semantics.specs.Tally.{met}
use Rattle.semantics.specs.Table.{trees, tree_at, lens}
use Rattle.laws.specs.Paths.{LeastPath, border, first_loop}
use Rattle.table.specs.Prepared.{OneLens, TwoLenses}
use Rattle.positions.specs.Positions.{holds, Moved}
use Rattle.automaton.specs.declared.Side.{Side}
use Rattle.automaton.specs.declared.Side.TheVariants.{Source, Sheet}
use Rattle.automaton.specs.Rows.{automaton_at, Describes}
use Rattle.cuts.specs.declared.Ends.{Ends}
use Rattle.texts.specs.Overlay.{Wrote}
use Rattle.std.specs.Prelude.{Some, None}
use Rattle.lens.specs.Emitting.{LensNode}
use Rattle.lens.specs.Parsed.{Parsed}
use Rattle.books.specs.declared.Place.{Place}
use Rattle.books.specs.Old.{Old}
use Rattle.books.specs.Looking.{part_at, trail_of, old_text, OldParsed, OldFits}
use Rattle.steps.specs.declared.Spot.{Spot}
use Rattle.steps.specs.declared.Cut.{Cut}
use Rattle.steps.specs.declared.Halves.{Halves}
use Rattle.steps.specs.declared.Choice.{Choice}
use Rattle.steps.specs.declared.Next.{Next}

-- The place is one of the old source, and its node's positions begin at one of a set.
pub record PlaceInside (p : Place) : Type 0 where
  pub inside : p.start + p.len ≤ 4096
  pub based : p.base ≤ 128

-- If there is an old text, it stands at such a place.
pub record OldInside (old : Old) : Type 0 where
  pub place_inside : (p : Place) → old ≡ Some p → PlaceInside p

-- ---- Joins

-- where a sheet is cut: its path passes from the positions of the left node to those of the right one, which begin at `mid`
abbrev pub cut_sheet : List ℕ → ℕ → ℕ → ℕ → List ℕ → Cut
cut_sheet prepared left right base path =
    let mid = base + (automaton_at prepared left Sheet).count in
    record { at = border mid path; left = record { node = left; base = base }; right = record { node = right; base = mid } }

-- where an old text is cut
abbrev pub halves_of : List ℕ → ℕ → Place → Text → Halves
halves_of prepared left p deck =
    let mid = p.base + (automaton_at prepared left Source).count in
    let i = border mid (part_at (trail_of deck) p) in
    record {
      first = record { start = p.start; len = i; base = p.base };
      second = record { start = p.start + i; len = p.len - i; base = mid };
    }

-- ---- Unions

-- A sheet that fits a node has the node's own path; where it does not, the path is as it was.
pub record Refitted (prepared : List ℕ) (node : ℕ) (new : Text) (before after : List ℕ) (r : Bool) : Type 0 where
  pub decides : (a : Pattern) → Describes a (automaton_at prepared node Sheet) prepared → r ≡ matches a new
  pub fitted : r ≡ true → (a : Pattern) → Describes a (automaton_at prepared node Sheet) prepared → LeastPath a 0 after new
  pub unfitted : r ≡ false → (a : Pattern) → Describes a (automaton_at prepared node Sheet) prepared → after ≡ before

-- the arm at a node creates,
abbrev pub created_at : ℕ → ℕ → Choice
created_at node base = record { arm = record { node = node; base = base }; old = None }

-- or puts onto the old text at a place
abbrev pub put_at : ℕ → ℕ → Place → Choice
put_at node base p = record { arm = record { node = node; base = base }; old = Some p }

-- With the text that is kept, or none, the arm writes what the union does with the old text, or none, whatever the book; the sheet is parsed at it.
pub record ArmIs (bytes : Text) (node : ℕ) (l m : Lens) (old kept : Option Text) (new : Text) (path : List ℕ) (r : Spot) : Type 0 where
  pub arm : Lens
  pub arm_of_lem : (arm ≡ l) ⊎ (arm ≡ m)
  pub arm_is : tree_at (trees bytes) r.node ≡ lens arm
  pub lower : r.node < node
  pub writes_same : (b : Entries) → write (union l m) old new b ≡ write arm kept new b
  pub meets_same : met (union l m) old new ≡ met arm kept new
  pub sheet_parsed : Parsed bytes r.node sheet r.base path new

-- Where the old text stands at a place, what is kept of it is parsed at the arm too.
pub record ChoiceIs (bytes : Text) (node : ℕ) (l m : Lens) (new : Text) (path : List ℕ) (p : Place) (deck : Text) (r : Choice) : Type 0 where
  pub is_arm : ArmIs bytes node l m (some (part_at deck p)) (old_text deck r.old) new path r.arm
  pub old_parsed : OldFits bytes r.arm.node deck r.old

-- Without an old text the arm is that of the definitions,
pub record ChosenNew (prepared : List ℕ) (left right base : ℕ) (path : List ℕ) (r : Spot) : Type 0 where
  pub arm_is :
      (bytes new : Text) (node : ℕ)
      → LensNode bytes prepared left
      → (s : TwoLenses (trees bytes) node left right (λ l m. lens (union l m)))
      → Parsed bytes node sheet base path new
      → ArmIs bytes node s.left s.right none none new path r

-- and so is the choice onto one.
pub record Chosen (prepared : List ℕ) (left right base : ℕ) (new : Text) (before after : List ℕ) (p : Place) (deck : Text) (r : Choice) : Type 0 where
  pub choice_is :
      (bytes : Text) (node : ℕ)
      → LensNode bytes prepared left
      → LensNode bytes prepared right
      → (s : TwoLenses (trees bytes) node left right (λ l m. lens (union l m)))
      → Parsed bytes node sheet base before new
      → OldParsed bytes node deck p
      → ChoiceIs bytes node s.left s.right new after p deck r

-- ---- Repeats

-- They are the last and the first positions of a node on a side, numbered from `base` on.
pub record EndsAre (prepared : List ℕ) (child : ℕ) (side : Side) (base : ℕ) (r : Ends) : Type 0 where
  pub last_is : Moved (automaton_at prepared child side).last base r.last
  pub first_is : Moved (automaton_at prepared child side).first base r.first

-- where the positions of an old text's node begin; at no place, if there is none
abbrev pub old_base : Old → ℕ
old_base (Some p) = p.base
old_base None = 0

-- the next part of the old text at a place, up to its path's first loop, and the rest
abbrev pub next_at : Place → Ends → Text → Next
next_at p ends deck =
    let i = first_loop (holds ends.last) (holds ends.first) (part_at (trail_of deck) p) in
    record {
      part = Some (record { start = p.start; len = i; base = p.base });
      rest = Some (record { start = p.start + i; len = p.len - i; base = p.base });
    }

abbrev pub none_next : Next
none_next = record { part = None; rest = None }

-- the next part of an old text; none where no text is left
abbrev pub next_of : Old → Ends → Text → Next
next_of (Some p) ends deck = cond (eqb p.len 0) none_next (next_at p ends deck)
next_of None ends deck = none_next

-- the parts of an old text, by the definitions
abbrev pub old_parts : Lens → Text → Old → List Text
old_parts l deck old = or_else [] (apply (parts (language source l)) (old_text deck old))

-- the first of them, where there is one, and the others
unfoldable pub first_of : List Text → Option Text
first_of [] = none
first_of (t ∷ ts) = some t

unfoldable pub others_of : List Text → List Text
others_of [] = []
others_of (t ∷ ts) = ts

-- The number of the parts of a sheet that has this path at a repeat. It is at most the path's length, whatever the path is.
pub record CountsParts (path : List ℕ) (ends : Ends) (r : ℕ) : Type 0 where
  pub at_most : r ≤ length path
  pub counts :
      (bytes : Text) (prepared : List ℕ) (node child base : ℕ) (new : Text)
      → LensNode bytes prepared child
      → (s : OneLens (trees bytes) node child (λ l. lens (repeat l)))
      → EndsAre prepared child Sheet base ends
      → Parsed bytes node sheet base path new
      → r ≡ length (parts (language sheet s.child) new)

-- ---- What is written behind what

-- what was written behind n bytes, with them
abbrev pub count_behind : ℕ → Wrote → Wrote
count_behind n (Some m) = Some (n + m)
count_behind n None = None

-- The sum is a number of 64 bits.
pub record Fits64 (n : ℕ) (more : Wrote) : Type 0 where
  pub fits : (m : ℕ) → more ≡ Some m → n + m < 2 ^ 64
