-- What an accepted program's lenses keep: the typing rules at every node, and entries that fit the child node that their match names.
use Rattle.std.specs.Prelude.{◌≡◌, false, List, map}
use Rattle.std.proofs.Math.Option.{Option, none, some}
use Rattle.semantics.specs.Text.{Text, All}
use Rattle.semantics.specs.Pattern.{In}
use Rattle.semantics.specs.Ambiguity.{TwoCuts, Overlap, BadRepeat}
use Rattle.semantics.specs.Lens.{Lens, copy, const, key, join, union, repeat, match, Side, source, language, Entry, Written, get, entries}
use Rattle.semantics.specs.Table.{Trees, lens_at, holds_match}
use Rattle.semantics.specs.Tally.{Met}

-- Document 01, typing: the rules at this lens and at every lens below it, said on texts
unfoldable pub WellTyped : Lens → Type 0
WellTyped (copy r) = Unit {0}
WellTyped (const r w d) = In r d
WellTyped (key r) = Unit {0}
WellTyped (join l m) = ((side : Side) → ¬ TwoCuts (language side l) (language side m)) × WellTyped l × WellTyped m
WellTyped (union l m) = ¬ Overlap (language source l) (language source m) × WellTyped l × WellTyped m
WellTyped (repeat l) = ((side : Side) → ¬ BadRepeat (language side l)) × WellTyped l
WellTyped (match n l) = (holds_match l ≡ false) × WellTyped l

-- the child number of each match is that of its child's tree
unfoldable pub Numbered : Trees → Lens → Type 0
Numbered ts (copy r) = Unit {0}
Numbered ts (const r w d) = Unit {0}
Numbered ts (key r) = Unit {0}
Numbered ts (join l m) = Numbered ts l × Numbered ts m
Numbered ts (union l m) = Numbered ts l × Numbered ts m
Numbered ts (repeat l) = Numbered ts l
Numbered ts (match n l) = (lens_at ts n ≡ some l) × Numbered ts l

-- an entry's text is a source of its child node
pub record EntryFits (ts : Trees) (e : Entry) : Type 0 where
  pub lens : Lens
  pub at_child : lens_at ts e.child ≡ some lens
  pub in_source : In (language source lens) e.text

-- an old text, if there is one, is a source
abbrev pub OldFits : Lens → Option Text → Type 0
OldFits l none = Unit {0}
OldFits l (some t) = In (language source l) t

-- an entry without its text: the child node and the key by which a sheet entry looks it up
unfoldable pub stamp : Entry → Met
stamp e = record { child = e.child; key_text = e.key_text }

-- What put and create owe for a sheet a whose entries are ms: a source, whose sheet is a, and whose entries are those of a, in order; and a
-- book whose entries still fit.
pub record PutBack (ts : Trees) (l : Lens) (a : Text) (ms : List Met) (w : Written) : Type 0 where
  pub in_source : In (language source l) w.text
  pub get_back : get l w.text ≡ a
  pub meets : map stamp (entries l w.text) ≡ ms
  pub book_fits : All (EntryFits ts) w.book
