-- `table::Table::read` meets its contract: the first round over all nodes. The invariant of the loop is `Passed`.
use Rattle.laws.specs.RightSizes.{right_of}
use Rattle.table.specs.Prepared.{refusal}
use Rattle.table.proofs.Rounds.{passed_begins, passed_more, passed_no_root, passed_ready, passed_refused, passed_whole, refused_leaves, wrong_sizes}
use mathlib.Core.Path.{◌≡◌, ◌∙◌, sym}
use Rattle.std.specs.Prelude.{Err}
use native.Mathlib.Omega.{arith}
use borrow.Author.Rules.{rules}
use Rattle.table.proofs.Table.read.Goals as goal

pub returns-then-sizes_wrong : goal.returns-then-sizes_wrong
returns-then-sizes_wrong c =
    refused_leaves c.args.bytes.now (refusal 1 0) _ (wrong_sizes c.args.bytes.now (sym c.sizes_wrong.ensures ∙ c.if-sizes_wrong.true))

pub node_count-n-requires : goal.node_count-n-requires
node_count-n-requires c =
    let h = right_of c.args.bytes.now (sym c.sizes_wrong.ensures ∙ c.if-sizes_wrong.false) in omega arith

pub loop-k-init : goal.loop-k-init
loop-k-init c =
    passed_begins (sym c.sizes_wrong.ensures ∙ c.if-sizes_wrong.false) c.node_count-n.ensures

pub loop-k-preserved : goal.loop-k-preserved
loop-k-preserved c =
    passed_more c.loop-k.invariant c.loop-k-test.true c.turn.ensures c.in_ok-turn.was (search rules)

pub returns-in_err-turn : goal.returns-in_err-turn
returns-in_err-turn c =
    let e : c.from_residual.result ≡ Err c.in_err-turn.field-0.0 = search rules in
    rw e (passed_refused c.loop-k.invariant c.loop-k-test.true c.turn.ensures c.in_err-turn.was)

pub overflow_sub-n : goal.overflow_sub-n
overflow_sub-n c =
    let h = right_of c.args.bytes.now c.loop-k.invariant.sized.sizes_right in omega (arith, c.node_count-n.ensures)

pub overflow_sub-result : goal.overflow_sub-result
overflow_sub-result c =
    let h = right_of c.args.bytes.now c.loop-k.invariant.sized.sizes_right in omega (arith, c.node_count-n.ensures)

pub is_sort-requires : goal.is_sort-requires
is_sort-requires c =
    passed_whole c.loop-k.invariant c.loop-k-test.false

pub returns-then-not-is_sort : goal.returns-then-not-is_sort
returns-then-not-is_sort c =
    passed_no_root c.loop-k.invariant c.loop-k-test.false (sym c.is_sort.ensures ∙ c.if-not-is_sort.true)

pub pool_length-requires : goal.pool_length-requires
pool_length-requires c =
    let h = right_of c.args.bytes.now c.loop-k.invariant.sized.sizes_right in omega arith

pub returns : goal.returns
returns c =
    rw c.pool_length.ensures (passed_ready c.loop-k.invariant c.loop-k-test.false (sym c.is_sort.ensures ∙ c.if-not-is_sort.false))
