-- Document 02, (i): 'Setters want a line after each put: entries kept, made and dropped.' Beside what put gives, which stays as it is.
use Rattle.std.specs.Prelude.{List, [], ◌∷◌, ◌++◌, ℕ, suc, length, take, drop}
use Rattle.std.proofs.Math.Option.{Option, none, some}
use Rattle.semantics.specs.Text.{Text, or_else, apply}
use Rattle.semantics.specs.Pattern.{matches}
use Rattle.semantics.specs.Lens.{Lens, copy, const, key, join, union, repeat, match, source, sheet, language, cut_at, parts, key_of, Book, entries, take_entry, Arm, put_left, put_right, create_left, create_right, arm_of}
use Rattle.semantics.specs.Calls.{Answer, gives, refuses, program, put_call, max_text, field, program_line}

-- ---- The sheet entries of a put: the matches that it meets, in order, each by its child node and its key

pub record Met : Type 0 where
  pub child : ℕ
  pub key_text : Text

abbrev pub Meeting : Type 0
Meeting = Option Text → Text → List Met

unfoldable pub meet_arm : Meeting → Meeting → Arm → Meeting
meet_arm left right put_left old a = left old a
meet_arm left right put_right old a = right old a
meet_arm left right create_left old a = left none a
meet_arm left right create_right old a = right none a

unfoldable pub meet_parts : Meeting → List Text → List Text → List Met
meet_parts meet olds [] = []
meet_parts meet [] (a ∷ as') = meet none a ++ meet_parts meet [] as'
meet_parts meet (t ∷ ts) (a ∷ as') = meet (some t) a ++ meet_parts meet ts as'

-- The cuts, arms and parts are those by which `write` goes. So they depend on the old source, never on the book.
unfoldable pub met : Lens → Meeting
met (copy r) old a = []
met (const r w d) old a = []
met (key r) old a = []
met (join l m) old a =
    let i = cut_at (language sheet l) (language sheet m) a in
    let j = or_else 0 (apply (cut_at (language source l) (language source m)) old) in
    met l (apply (take j) old) (take i a) ++ met m (apply (drop j) old) (drop i a)
met (union l m) old a =
    let arm = arm_of (apply (matches (language source l)) old) (matches (language sheet l) a) (matches (language sheet m) a) in
    meet_arm (met l) (met m) arm old a
met (repeat l) old a = meet_parts (met l) (or_else [] (apply (parts (language source l)) old)) (parts (language sheet l) a)
met (match n l) old a = record { child = n; key_text = key_of l a } ∷ []

-- ---- The counts

-- 'Kept are sheet entries that took an old entry, made those that didn't, dropped the old entries left unused.'
pub record Tally : Type 0 where
  pub kept : ℕ
  pub made : ℕ
  pub dropped : ℕ

unfoldable pub counting : Option Text → Tally → Tally
counting (some t) n = record { kept = suc n.kept; made = n.made; dropped = n.dropped }
counting none n = record { kept = n.kept; made = suc n.made; dropped = n.dropped }

-- one sheet entry after the other takes its old entry out of the book
unfoldable pub tallied : List Met → Book → Tally
tallied [] b = record { kept = 0; made = 0; dropped = length b }
tallied (m ∷ ms) b = let t = take_entry m.child m.key_text b in counting t.found (tallied ms t.left)

-- the tally of a put of a sheet on an old source
unfoldable pub tally : Lens → Text → Text → Tally
tally l a old = tallied (met l (some old) a) (entries l old)

-- 'The counts come with put's result.' A program that is refused has no result, and so no counts.
unfoldable pub tally_of : Answer Lens → Text → Text → Tally
tally_of (gives l) a old = tally l a old
tally_of (refuses number node) a old = record { kept = 0; made = 0; dropped = 0 }

unfoldable pub put_tally : Text → Text → Text → Tally
put_tally bytes a old = tally_of (program bytes) a old

-- ---- The line that the program `tally` prints

-- 'prints `kept 1 made 1 dropped 1`'
unfoldable pub counts_line : Tally → Text
counts_line n =
    (107 ∷ 101 ∷ 112 ∷ 116 ∷ [])
    ++ field n.kept
    ++ (32 ∷ 109 ∷ 97 ∷ 100 ∷ 101 ∷ [])
    ++ field n.made
    ++ (32 ∷ 100 ∷ 114 ∷ 111 ∷ 112 ∷ 112 ∷ 101 ∷ 100 ∷ [])
    ++ field n.dropped
    ++ 10 ∷ []

-- 'and a refusal as `lenscheck` does'
unfoldable pub put_line : Text → Answer Text → Tally → Text
put_line bytes (gives t) n = counts_line n
put_line bytes (refuses number node) n = program_line bytes (refuses number node)

-- for a buffer of 4,096 bytes
unfoldable pub tally_line : Text → Text → Text → Text
tally_line bytes a old = put_line bytes (put_call bytes a old max_text) (put_tally bytes a old)
