-- The sheet entries of a put are the new source's entries, and what the counts say, about the definition of the call.
use Rattle.std.specs.Prelude.{◌≡◌, refl, false, ℕ, ◌≤◌, ◌+◌, ◌*◌, ◌-◌, max, ltb}
use Rattle.std.proofs.Math.Path.{sym, subst₂}
use Rattle.std.proofs.Common.{ap, ap₂, ◌∙◌, inl, inr, le_trans, mul-le-mul, arith, ltb-false}
use mathlib.Core.List.{List, [], ◌∷◌, ◌++◌, map, map-append}
use Rattle.std.proofs.Math.Option.{Option, some}
use Rattle.std.proofs.Math.ListN.{length, length-map}
use Rattle.semantics.specs.Text.{Text, joined, All}
use Rattle.semantics.specs.Pattern.{In}
use Rattle.semantics.specs.Lens.{Lens, copy, const, key, join, union, repeat, match, source, sheet, language, get, Book, Taken, entry_of, entries, write, put}
use Rattle.semantics.specs.Table.{Trees, node_count, lens, trees, tree_size, lens_size, tree_positions, root_of, over_limit}
use Rattle.semantics.specs.Calls.{gives, program, get_call, put_call}
use Rattle.semantics.specs.Tally.{meet_parts, met, counting, tallied, tally, tally_of, put_tally}
use Rattle.laws.specs.Basics.{or_neither}
use Rattle.laws.specs.WellTyped.{WellTyped, Numbered, EntryFits, OldFits, stamp}
use Rattle.laws.specs.Pieces.{get_join, get_left, get_right, get_repeat, entries_join, entries_left, entries_right, entries_repeat, met_join, met_left, met_right, met_repeat}
use Rattle.laws.specs.GetPut.{all_map, get_in, takes_first}
use Rattle.laws.specs.PutGet.{put_get}
use Rattle.laws.specs.Met.{kept_dropped, kept_made, matches_in, matches_few, met_length}
use Rattle.laws.specs.NodeTrees.{lens_below, lens_tree, tree_length}
use Rattle.laws.specs.Accepted.{gives_iff, quiet_iff, accepted}
use Rattle.laws.specs.Demand3.{output_is, get_gave, put_gave}

-- ---- Entries of a sheet and of a source

-- The entries of what is written for a sheet are the sheet entries that were met, in order.
pub met_entries :
    (ts : Trees) (l : Lens) → Numbered ts l → WellTyped l
    → (old : Option Text) → OldFits l old
    → (a : Text) → In (language sheet l) a
    → (b : Book) → All (EntryFits ts) b
    → map stamp (entries l (write l old a b).text) ≡ met l old a
met_entries ts l numbered typed old fits a i b book = (put_get ts l numbered typed old fits a i b book).meets

-- what the law on an unedited sheet says of a lens at one of its sources
abbrev Unedited : Lens → Text → Type 0
Unedited l t = met l (some t) (get l t) ≡ map stamp (entries l t)

-- half behind half
unedited_join :
    (l m : Lens) → WellTyped (join l m) → (u v : Text) → In (language source l) u → In (language source m) v
    → Unedited l u → Unedited m v → Unedited (join l m) (u ++ v)
unfolding WellTyped
unedited_join l m typed u v i j left right =
    rw
    (get_join l m (typed.0 source) u v i j, entries_join l m (typed.0 source) u v i j, map-append)
    (met_join l m typed.0 u v i j (get l u) (get m v) (get_in l typed.1 u i) (get_in m typed.2 v j) ∙ ap₂ ◌++◌ left right)

-- part behind part
unedited_parts :
    (l : Lens) → ((t : Text) → In (language source l) t → Unedited l t)
    → (ps : List Text) → All (In (language source l)) ps
    → meet_parts (met l) ps (map (get l) ps) ≡ map stamp (joined (map (entries l) ps))
unfolding meet_parts joined
unedited_parts l law [] all = refl
unedited_parts l law (p ∷ ps) all = rw map-append (ap₂ ◌++◌ (law p all.0) (unedited_parts l law ps all.1))

-- so for a repeat, whose parts those are
unedited_repeat :
    (l : Lens) → WellTyped (repeat l) → ((t : Text) → In (language source l) t → Unedited l t)
    → (ps : List Text) → All (In (language source l)) ps → Unedited (repeat l) (joined ps)
unfolding WellTyped
unedited_repeat l typed law ps all =
    let sheets = all_map (In (language source l)) (In (language sheet l)) (get l) (get_in l typed.1) ps all in
    rw
    (get_repeat l (typed.0 source) ps all, entries_repeat l (typed.0 source) ps all)
    (met_repeat l typed.0 ps all (map (get l) ps) sheets ∙ unedited_parts l law ps all)

-- A source's own sheet has the source's entries.
pub met_unedited : (l : Lens) → WellTyped l → (t : Text) → In (language source l) t → met l (some t) (get l t) ≡ map stamp (entries l t)
unfolding WellTyped In language met get entries entry_of stamp
met_unedited (copy r) typed t i = refl
met_unedited (const r w d) typed t i = refl
met_unedited (key r) typed t i = refl
met_unedited (join l m) typed t (u, v, e, i, j) =
    rw e (unedited_join l m typed u v i j (met_unedited l typed.1 u i) (met_unedited m typed.2 v j))
met_unedited (union l m) typed t (inl i) =
    rw (get_left l m t i, entries_left l m t i) (met_left l m t i (get l t) (get_in l typed.1 t i) ∙ met_unedited l typed.1 t i)
met_unedited (union l m) typed t (inr i) =
    rw
    (get_right l m typed.0 t i, entries_right l m typed.0 t i)
    (met_right l m typed.0 t i (get m t) (get_in m typed.2 t i) ∙ met_unedited m typed.2 t i)
met_unedited (repeat l) typed t (ps, e, all) = rw e (unedited_repeat l typed (met_unedited l typed.1) ps all)
met_unedited (match n l) typed t i = refl

-- a book that its own entries look up is kept, all of it
pub all_kept : (b : Book) → tallied (map stamp b) b ≡ record { kept = length b; made = 0; dropped = 0 }
unfolding tallied counting stamp
all_kept [] = refl
all_kept (e ∷ b) =
    ap (λ (t : Taken). counting t.found (tallied (map stamp b) t.left)) (takes_first e b)
    ∙ ap (counting (some e.text)) (all_kept b)

-- ---- How many sheet entries there can be

-- the root of an accepted program keeps the limit on sizes
pub root_size : (bytes : Text) (l : Lens) → program bytes ≡ gives l → lens_size l ≤ 512
unfolding root_of over_limit tree_size
root_size bytes l e =
    let g = (gives_iff bytes l).0 e in
    let k = node_count bytes - 1 in
    let b = lens_below (trees bytes) k l g.1 in
    let n = ((quiet_iff bytes).0 g.0).table_right.each_node k (omega (arith, tree_length bytes)) in
    let limits : over_limit (lens l) ≡ false = rw (lens_tree (trees bytes) k l g.1) at n.within_limits in
    let size : ltb 512 (lens_size l) ≡ false = (or_neither (ltb 512 (lens_size l)) _ (or_neither _ (ltb 128 (tree_positions sheet (lens l))) limits).0).0 in
    ltb-false 512 (lens_size l) size

-- a sheet that a call takes meets at most 512 for each byte
pub met_few : (bytes : Text) (l : Lens) → program bytes ≡ gives l → (old : Option Text) (a : Text) → length a ≤ 4096 → length (met l old a) ≤ 2097152
met_few bytes l e old a short =
    let few : matches_in l ≤ 512 = le_trans (matches_few l) (root_size bytes l e) in
    let bytes_few : max 1 (length a) ≤ 4096 = omega arith in
    let all : matches_in l * max 1 (length a) ≤ 512 * 4096 = mul-le-mul few bytes_few in
    le_trans (met_length l old a) all

-- ---- The counts of the call

-- the counts of an accepted program are those of its root
pub tally_is : (bytes a old : Text) (l : Lens) → program bytes ≡ gives l → put_tally bytes a old ≡ tally l a old
unfolding put_tally tally_of
tally_is bytes a old l e = ap (λ p. tally_of p a old) e

module _
    (bytes a old t : Text)
    (lent : ℕ)
    (l : Lens)
    (is_program : program bytes ≡ gives l)
    (gave : put_call bytes a old lent ≡ gives t) where
  -- the new source has the sheet's entries
  pub new_entries : map stamp (entries l t) ≡ met l (some old) a
  unfolding put
  new_entries =
      let g = put_gave bytes a old t lent gave in
      let m = g.lens in
      let p = g.is_program in
      let same : m ≡ l = cc in
      let typed = accepted bytes m p in
      let is_put : put m a old ≡ t = (output_is lent (put m a old) t g.is_output).1 in
      let law = met_entries (trees bytes) m typed.1 typed.0 (some old) g.old_in a g.in_sheet (entries m old) g.book_fits in
      subst₂ (λ k x. map stamp (entries k x) ≡ met k (some old) a) same is_put law

  -- each entry of the old source is kept or dropped
  pub tally_old : let n = put_tally bytes a old in n.kept + n.dropped ≡ length (entries l old)
  unfolding tally
  tally_old = rw (tally_is bytes a old l is_program) (kept_dropped (met l (some old) a) (entries l old))

  -- each entry of the new source is kept or made
  pub tally_new : let n = put_tally bytes a old in n.kept + n.made ≡ length (entries l t)
  unfolding tally
  tally_new =
      rw
      (tally_is bytes a old l is_program)
      (kept_made (met l (some old) a) (entries l old) ∙ sym (ap length new_entries) ∙ length-map (entries l t) stamp)

-- a sheet that is put back unedited keeps every entry
pub tally_unedited :
    (bytes t a : Text) (lent : ℕ) (l : Lens)
    → program bytes ≡ gives l
    → get_call bytes t lent ≡ gives a
    → put_tally bytes a t ≡ record { kept = length (entries l t); made = 0; dropped = 0 }
unfolding tally
tally_unedited bytes t a lent l is_program gave =
    let g = get_gave bytes t a lent gave in
    let m = g.lens in
    let p = g.is_program in
    let same : m ≡ l = cc in
    let i : In (language source l) t = rw same at g.in_source in
    let sheet_is : get l t ≡ a = rw same at g.is_sheet in
    let law : met l (some t) a ≡ map stamp (entries l t) = rw sheet_is at (met_unedited l (accepted bytes l is_program).0 t i) in
    rw (tally_is bytes a t l is_program, law) (all_kept (entries l t))
