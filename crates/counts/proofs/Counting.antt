-- The marks of the entries. Assumes nothing.
use Rattle.std.proofs.Common.{◌≡◌, refl, sym, ◌+◌, Bool, not, true, false, cond, List, ◌∷◌, zero-add}
use Rattle.std.specs.List.{count_by}
use Rattle.std.proofs.lemmas.List.Recursion.{is_count_by}
use Rattle.counts.specs.Counts.{unused_of}

-- an entry that was not taken is one more
unused_more : (u : Bool) (us : List Bool) → unused_of (u ∷ us) ≡ cond (not u) (1 + unused_of us) (unused_of us)
unfolding unused_of
unused_more true us = zero-add (unused_of us)
unused_more false us = refl

pub unused_count : (us : List Bool) → count_by not us ≡ unused_of us
unfolding unused_of
unused_count us = sym (is_count_by unused_of not refl unused_more us)
