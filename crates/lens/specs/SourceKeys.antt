-- The key of the sheet of a source, read off the source itself, where there is no union: the key parts of the sheet are those of the source.
use Rattle.std.specs.Prelude.{◌≡◌, refl, Bool, true, false, ◌||◌, List, [], ◌∷◌, ◌++◌, map}
use Rattle.std.proofs.Common.{sym, ap, ap₂, ◌∙◌, true≢false}
use Rattle.semantics.specs.Text.{Text, All, joined}
use Rattle.semantics.specs.Pattern.{In}
use Rattle.semantics.specs.Ambiguity.{TwoCuts, BadRepeat}
use Rattle.semantics.specs.Lens.{Lens, copy, const, key, join, union, repeat, match, source, sheet, language, cut_at, get, key_of}
use Rattle.laws.specs.Basics.{or_neither}
use Rattle.laws.specs.Cuts.{cut_left, cut_right, parts_is}
use Rattle.laws.specs.WellTyped.{WellTyped}
use Rattle.laws.specs.GetPut.{all_map, get_in}
use Rattle.lens.specs.declared.Mode.{Mode}
use Rattle.lens.specs.declared.Mode.TheVariants.{Get, Key, SourceKey}
use Rattle.lens.specs.Reading.{source_key, reading, mode_side, reading_join, reading_repeat}

-- whether there is a union in the lens
unfoldable pub has_union : Lens → Bool
has_union (copy r) = false
has_union (const r w d) = false
has_union (key r) = false
has_union (join l m) = has_union l || has_union m
has_union (union l m) = true
has_union (repeat l) = has_union l
has_union (match n l) = has_union l

-- ---- What is read off a text that is put together from pieces

-- of a join, its two halves are read apart
join_read :
    (mode : Mode) (l m : Lens)
    → ¬ TwoCuts (language (mode_side mode) l) (language (mode_side mode) m)
    → (u v : Text)
    → In (language (mode_side mode) l) u
    → In (language (mode_side mode) m) v
    → reading mode (join l m) (u ++ v) ≡ reading mode l u ++ reading mode m v
join_read mode l m one u v i j =
    let r = language (mode_side mode) l in
    let s = language (mode_side mode) m in
    reading_join mode l m (u ++ v) (cut_at r s (u ++ v)) refl
    ∙ ap₂ (λ x y. reading mode l x ++ reading mode m y) (cut_left r s one u v i j) (cut_right r s one u v i j)

-- of a repeat, each part is read on its own
repeat_read :
    (mode : Mode) (l : Lens)
    → ¬ BadRepeat (language (mode_side mode) l)
    → (ps : List Text)
    → All (In (language (mode_side mode) l)) ps
    → reading mode (repeat l) (joined ps) ≡ joined (map (reading mode l) ps)
repeat_read mode l good ps all =
    reading_repeat mode l (joined ps) ∙ ap (λ qs. joined (map (reading mode l) qs)) (parts_is (language (mode_side mode) l) good ps all)

-- the keys of the sheets of parts are those of the parts
parts_keys :
    (l : Lens)
    → ((t : Text) → In (language source l) t → key_of l (get l t) ≡ source_key l t)
    → (ps : List Text)
    → All (In (language source l)) ps
    → joined (map (key_of l) (map (get l) ps)) ≡ joined (map (source_key l) ps)
unfolding joined
parts_keys l law [] all = refl
parts_keys l law (p ∷ ps) all = ap₂ ◌++◌ (law p all.0) (parts_keys l law ps all.1)

-- without one, the key of a source's sheet is that of the source by its own cuts
pub source_key_lem : (l : Lens) → WellTyped l → has_union l ≡ false → (t : Text) → In (language source l) t → key_of l (get l t) ≡ source_key l t
unfolding WellTyped In language get key_of source_key reading mode_side has_union
source_key_lem (copy r) typed free t i = refl
source_key_lem (const r w d) typed free t i = refl
source_key_lem (key r) typed free t i = refl
source_key_lem (join l m) typed free t (u, v, e, i, j) =
    let (p, q) = or_neither (has_union l) (has_union m) free in
    ap (λ x. key_of (join l m) (get (join l m) x)) e
    ∙ ap (key_of (join l m)) (join_read Get l m (typed.0 source) u v i j)
    ∙ join_read Key l m (typed.0 sheet) (get l u) (get m v) (get_in l typed.1 u i) (get_in m typed.2 v j)
    ∙ ap₂ ◌++◌ (source_key_lem l typed.1 p u i) (source_key_lem m typed.2 q v j)
    ∙ sym (join_read SourceKey l m (typed.0 source) u v i j)
    ∙ sym (ap (source_key (join l m)) e)
source_key_lem (union l m) typed free t i = absurd (true≢false free)
source_key_lem (repeat l) typed free t (ps, e, all) =
    let sheets = all_map (In (language source l)) (In (language sheet l)) (get l) (get_in l typed.1) ps all in
    ap (λ x. key_of (repeat l) (get (repeat l) x)) e
    ∙ ap (key_of (repeat l)) (repeat_read Get l (typed.0 source) ps all)
    ∙ repeat_read Key l (typed.0 sheet) (map (get l) ps) sheets
    ∙ parts_keys l (source_key_lem l typed.1 free) ps all
    ∙ sym (repeat_read SourceKey l (typed.0 source) ps all)
    ∙ sym (ap (source_key (repeat l)) e)
source_key_lem (match n l) typed free t i = source_key_lem l typed.1 free t i
