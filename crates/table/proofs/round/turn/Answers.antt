-- `table::round::turn` meets its contract: a node's turn in the first round. The tests decide the four lines in order, and what is stored is one more sized node.
use Rattle.semantics.specs.Table.{is_broken, node_at, tree_at, trees}
use Rattle.laws.specs.RightSizes.{right_of}
use Rattle.table.specs.Prepared.{refusal}
use Rattle.table.proofs.Decoding.{tag_names}
use Rattle.table.proofs.Measures.{smalls, nests_is}
use Rattle.table.proofs.Turns.{unknown, known, kept_is, fault_2, fault_3, fault_4, fault_5, no_fault, limits_are, refused, sized_more}
use borrow.Author.Tests.{not-false, not-true}
use mathlib.Core.Bool.{false}
use mathlib.Core.Path.{◌≡◌, ◌∙◌, sym}
use native.Mathlib.Omega.{arith}
use Rattle.table.proofs.round.turn.Goals as goal

pub kind_byte-requires : goal.kind_byte-requires
kind_byte-requires c =
    record { sizes_right = c.requires.sized.sizes_right; inside = c.requires.inside }

pub returns-in_default : goal.returns-in_default
returns-in_default c =
    refused c.args.bytes.now c.args.k (refusal 2 c.args.k) _ (fault_2 c.args.bytes.now c.args.k (unknown (node_at c.args.bytes.now c.args.k) (rw (c.in_default.is, c.kind_byte.ensures) at c.of.ensures)))

pub read-requires : goal.read-requires
read-requires c =
    record { sizes_right = c.requires.sized.sizes_right; inside = c.requires.inside }

pub keeps-requires : goal.keeps-requires
keeps-requires c =
    let h = c.requires.inside in
    record { sizes_right = c.requires.sized.sizes_right; inside = omega arith; each = λ j l. (c.requires.sized.each j l).whole }

pub returns-then-not-keeps : goal.returns-then-not-keeps
returns-then-not-keeps c =
    let q = tag_names c.of.result c.in-Some.is (rw c.kind_byte.ensures at c.of.ensures) in
    let u = known (node_at c.args.bytes.now c.args.k) _ q in
    refused c.args.bytes.now c.args.k (refusal 3 c.args.k) _ (fault_3 c.args.bytes.now c.args.k u (not-false _ (sym (c.keeps.ensures ∙ kept_is c.requires.sized.sizes_right c.requires.inside c.read.ensures q) ∙ c.if-not-keeps.true)))

pub measured-node-requires : goal.measured-node-requires
measured-node-requires c =
    let q = tag_names c.of.result c.in-Some.is (rw c.kind_byte.ensures at c.of.ensures) in
    let w : is_broken (tree_at (trees c.args.bytes.now) c.args.k) ≡ false = not-true _ (sym (c.keeps.ensures ∙ kept_is c.requires.sized.sizes_right c.requires.inside c.read.ensures q) ∙ c.if-not-keeps.false) in
    record { sized_below = c.requires; k_value = w }

pub nests-requires : goal.nests-requires
nests-requires c =
    smalls c.args.bytes.now c.args.k c.args.prepared.now c.requires _ c.measured-node.ensures.shows

pub returns-then-nests : goal.returns-then-nests
returns-then-nests c =
    let q = tag_names c.of.result c.in-Some.is (rw c.kind_byte.ensures at c.of.ensures) in
    let u = known (node_at c.args.bytes.now c.args.k) _ q in
    let w : is_broken (tree_at (trees c.args.bytes.now) c.args.k) ≡ false = not-true _ (sym (c.keeps.ensures ∙ kept_is c.requires.sized.sizes_right c.requires.inside c.read.ensures q) ∙ c.if-not-keeps.false) in
    let n = sym (c.nests.ensures ∙ nests_is c.args.bytes.now c.args.k c.args.prepared.now c.requires _ c.measured-node.ensures.shows) ∙ c.if-nests.true in
    refused c.args.bytes.now c.args.k (refusal 4 c.args.k) _ (fault_4 c.args.bytes.now c.args.k u w n)

pub returns-then-over_limits : goal.returns-then-over_limits
returns-then-over_limits c =
    let q = tag_names c.of.result c.in-Some.is (rw c.kind_byte.ensures at c.of.ensures) in
    let u = known (node_at c.args.bytes.now c.args.k) _ q in
    let w : is_broken (tree_at (trees c.args.bytes.now) c.args.k) ≡ false = not-true _ (sym (c.keeps.ensures ∙ kept_is c.requires.sized.sizes_right c.requires.inside c.read.ensures q) ∙ c.if-not-keeps.false) in
    let n = sym (c.nests.ensures ∙ nests_is c.args.bytes.now c.args.k c.args.prepared.now c.requires _ c.measured-node.ensures.shows) ∙ c.if-nests.false in
    let l = sym (c.over_limits.ensures ∙ limits_are c.args.bytes.now c.args.k c.measured-node.result c.measured-node.ensures) ∙ c.if-over_limits.true in
    refused c.args.bytes.now c.args.k (refusal 5 c.args.k) _ (fault_5 c.args.bytes.now c.args.k u w n l)

pub store-requires : goal.store-requires
store-requires c =
    let h = right_of c.args.bytes.now c.requires.sized.sizes_right in omega (arith, c.requires.inside, c.requires.room)

pub returns : goal.returns
returns c =
    let q = tag_names c.of.result c.in-Some.is (rw c.kind_byte.ensures at c.of.ensures) in
    let u = known (node_at c.args.bytes.now c.args.k) _ q in
    let w : is_broken (tree_at (trees c.args.bytes.now) c.args.k) ≡ false = not-true _ (sym (c.keeps.ensures ∙ kept_is c.requires.sized.sizes_right c.requires.inside c.read.ensures q) ∙ c.if-not-keeps.false) in
    let n = sym (c.nests.ensures ∙ nests_is c.args.bytes.now c.args.k c.args.prepared.now c.requires _ c.measured-node.ensures.shows) ∙ c.if-nests.false in
    let l = sym (c.over_limits.ensures ∙ limits_are c.args.bytes.now c.args.k c.measured-node.result c.measured-node.ensures) ∙ c.if-over_limits.false in
    record {
      fault_is = no_fault c.args.bytes.now c.args.k u w n l;
      sized = λ z. sized_more c.args.bytes.now c.args.k c.args.prepared.now c.store.new.prepared c.measured-node.result c.requires.sized c.store.ensures c.measured-node.ensures w n l;
    }
