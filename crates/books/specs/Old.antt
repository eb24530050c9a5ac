-- Where an old text stands, and which entry it is, where there is one.
use Rattle.std.specs.Prelude.{Option, ℕ}
use Rattle.books.specs.declared.Place.{Place}

-- An old text, where there is one: the place where it stands.
abbrev pub Old : Type 0
Old = Option Place

-- The index of an entry, where there is one.
abbrev pub EntryIndex : Type 0
EntryIndex = Option ℕ
