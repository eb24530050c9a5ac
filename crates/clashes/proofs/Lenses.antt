-- What a built program says of the rule of a node, by its kind. Assumes nothing.
use mathlib.Core.Path.{◌≡◌, refl, sym, subst}
use mathlib.Core.Bool.{true}
use mathlib.Core.List.{List, []}
use Prim.Native.Nat.{ℕ, ◌+◌, ◌*◌, ◌≤◌, ◌<◌}
use native.Mathlib.Omega.{arith}
use Rattle.semantics.specs.Text.{Text}
use Rattle.semantics.specs.Pattern.{Pattern, word, nullable}
use Rattle.semantics.specs.Lens.{join, union, repeat, language}
use Rattle.semantics.specs.Table.{Node, at, node_count, node_at, positions, lens, tree_at, trees}
use Rattle.clash.specs.Clash.{Rule, one_arm, one_list, breaks, clash_text, ends_of, rule_at, rule_for}
use Rattle.table.specs.Prepared.{OneLens, TwoLenses}
use Rattle.automaton.specs.declared.Side.{Side}
use Rattle.automaton.specs.Rows.{side_of, automaton_at, Describes}
use Rattle.automaton.specs.Built.{Built}
use Rattle.typing.proofs.Faults.{speaks_for}
use Rattle.clashes.specs.declared.shown_texts.Shown.{Shown}
use Rattle.clashes.specs.Shows.{ShowsText, Shows, CutRule, CutAsked, ArmRule, ArmAsked, ListRule, ListAsked, BrokenAt}
use Rattle.clashes.proofs.Rules.{join_rule}
use Rattle.clashes.proofs.Empty.{repeat_empty}

-- A node of another kind has the rule of a repeat of the empty text, which shows nothing.
pub no_rule :
    {rule : Rule} (n : Node) (before : Text) (shown : Shown) → rule ≡ one_list (word []) → (shown.length ≡ 0) × (shown.first ≡ 0) × (shown.second ≡ 0)
    → Shows rule n before before shown
unfolding nullable
no_rule n before shown is zeros = subst (λ r. Shows r n before before shown) (sym is) (repeat_empty (word []) n before shown refl zeros)

module _ {bytes : Text} {prepared : List ℕ} (built : Built bytes prepared) {k : ℕ} (inside : k < node_count bytes) (side : Side) where
  -- the positions of a node's language fit a set
  few : {r : Pattern} → Describes r (automaton_at prepared k side) prepared → positions r ≤ 128
  few d = omega (arith, d.count_is, (built.automata k inside side).room.few)

  -- ---- A join

  pub join_at :
      {a b : ℕ} → TwoLenses (trees bytes) k a b (λ l m. lens (join l m))
      → CutRule prepared (automaton_at prepared a side) (automaton_at prepared k side) (automaton_at prepared b side) (rule_at (side_of side) (tree_at (trees bytes) k))
  unfolding rule_at rule_for language positions
  join_at h =
      let left = (speaks_for built (omega (arith, h.left_lower)) h.at_left).each side in
      let right = (speaks_for built (omega (arith, h.right_lower)) h.at_right).each side in
      let whole = (speaks_for built inside h.tree_is).each side in
      rw h.tree_is (join_rule prepared _ _ _ (language (side_of side) h.left) (language (side_of side) h.right) left whole right (few whole))

  pub join_asked :
      {a b : ℕ} → TwoLenses (trees bytes) k a b (λ l m. lens (join l m)) → BrokenAt bytes k (side_of side)
      → CutAsked prepared (automaton_at prepared a side) (automaton_at prepared k side) (automaton_at prepared b side)
  join_asked h broken =
      record { rule = rule_at (side_of side) (tree_at (trees bytes) k); is_rule = join_at h; text = broken.text; breaks_it = broken.breaks_it }

  -- ---- A repeat

  module _ {a : ℕ} (h : OneLens (trees bytes) k a (λ l. lens (repeat l))) where
    child : Pattern
    child = language (side_of side) h.child

    repeat_is : rule_at (side_of side) (tree_at (trees bytes) k) ≡ one_list child
    unfolding rule_at rule_for child
    repeat_is = rw h.tree_is refl

    repeat_at : ListRule prepared (automaton_at prepared a side) (automaton_at prepared k side) child
    unfolding language positions child
    repeat_at =
        let whole = (speaks_for built inside h.tree_is).each side in
        record { part_is = (speaks_for built (omega (arith, h.lower)) h.at_child).each side; whole_is = whole; few = few whole }

    pub repeat_asked_at : BrokenAt bytes k (side_of side) → ListAsked prepared (automaton_at prepared a side) (automaton_at prepared k side)
    repeat_asked_at broken =
        record { r = child; is_rule = repeat_at; text = broken.text; breaks_it = subst (λ rule. breaks rule broken.text ≡ true) repeat_is broken.breaks_it }

    pub repeat_shows :
        {n : Node} {before after : Text} {shown : Shown}
        → ((r : Pattern) (n : Node) → ListRule prepared (automaton_at prepared a side) (automaton_at prepared k side) r → Shows (one_list r) n before after shown)
        → Shows (rule_at (side_of side) (tree_at (trees bytes) k)) n before after shown
    repeat_shows {n} {before} {after} {shown} f = subst (λ rule. Shows rule n before after shown) (sym repeat_is) (f child n repeat_at)

  -- ---- A union

  module _ {a b : ℕ} (h : TwoLenses (trees bytes) k a b (λ l m. lens (union l m))) where
    left : Pattern
    left = language (side_of side) h.left

    right : Pattern
    right = language (side_of side) h.right

    union_is : rule_at (side_of side) (tree_at (trees bytes) k) ≡ one_arm left right
    unfolding rule_at rule_for left right
    union_is = rw h.tree_is refl

    union_at_lem : ArmRule prepared (automaton_at prepared a side) (automaton_at prepared b side) left right
    unfolding language positions left right
    union_at_lem =
        record {
          left_is = (speaks_for built (omega (arith, h.left_lower)) h.at_left).each side;
          right_is = (speaks_for built (omega (arith, h.right_lower)) h.at_right).each side;
          few = few ((speaks_for built inside h.tree_is).each side);
        }

    pub union_asked : BrokenAt bytes k (side_of side) → ArmAsked prepared (automaton_at prepared a side) (automaton_at prepared b side)
    union_asked broken =
        record { r = left; s = right; is_rule = union_at_lem; text = broken.text; breaks_it = subst (λ rule. breaks rule broken.text ≡ true) union_is broken.breaks_it }

    -- 'for a union, its two child numbers'
    arm_ends : (t : Text) {first second : ℕ}
        → first ≡ at bytes (3 + node_count bytes + 3 * k + 0) → second ≡ at bytes (3 + node_count bytes + 3 * k + 1)
        → (first, second) ≡ ends_of (one_arm left right) (node_at bytes k) t
    unfolding ends_of node_at
    arm_ends t e f =
        let place : 3 + node_count bytes + 3 * k + 0 ≡ 3 + node_count bytes + 3 * k = omega arith in
        rw (e, f, place) refl

    pub union_shows :
        {before after : Text} {size first second : ℕ}
        → ((r s : Pattern) → ArmRule prepared (automaton_at prepared a side) (automaton_at prepared b side) r s → ShowsText (one_arm r s) before after size)
        → first ≡ at bytes (3 + node_count bytes + 3 * k + 0) → second ≡ at bytes (3 + node_count bytes + 3 * k + 1)
        → Shows (rule_at (side_of side) (tree_at (trees bytes) k)) (node_at bytes k) before after (record { length = size; first = first; second = second })
    union_shows {before} {after} {size} {first} {second} f e g =
        subst
        (λ rule. Shows rule (node_at bytes k) before after (record { length = size; first = first; second = second }))
        (sym union_is)
        (record { text = f left right union_at_lem; ends = λ room. arm_ends (clash_text (one_arm left right)) e g })
