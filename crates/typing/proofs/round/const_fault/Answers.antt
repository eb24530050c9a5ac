-- `typing::round::const_fault` meets its contract. Assumes nothing.
use mathlib.Core.Path.{◌≡◌, sym, ap, ◌∙◌}
use mathlib.Core.Bool.{not}
use Prim.Native.Nat.{ℕ}
use native.Mathlib.Omega.{arith}
use Rattle.semantics.specs.Text.{Text}
use Rattle.semantics.specs.Pattern.{matches}
use Rattle.semantics.specs.Table.{typing_lines}
use Rattle.automaton.specs.declared.Side.TheVariants.{Source}
use Rattle.table.specs.Prepared.{Shows, WordPart}
use Rattle.table.specs.Rules.{NodeRead}
use Rattle.table.specs.declared.Node.{Node}
use Rattle.table.specs.declared.Kind.TheVariants.{Word}
use Rattle.typing.proofs.Faults.{sizes, stands, speaks, shown, word_shown, word_inside, word_bytes, no_line, line_holds, line_passed, read_room, read_speaks}
use Rattle.typing.proofs.round.const_fault.Goals as goal

pub returns-in_default : goal.returns-in_default
returns-in_default c r w d e f =
    let (start, len, h) = word_shown c.args.bytes.now c.args.default f c.node.result.kind c.node.ensures.shows in
    absurd (c.in_default.not-Word start len h)

pub node_count-requires : goal.node_count-requires
node_count-requires c = let h = sizes c.requires.built in omega arith

pub overflow_mul-from : goal.overflow_mul-from
overflow_mul-from c = let h = sizes c.requires.built in omega (arith, c.node_count.ensures)

pub overflow_add-from : goal.overflow_add-from
overflow_add-from c = let h = sizes c.requires.built in omega (arith, c.node_count.ensures)

-- the default word stands in the table
part : {bytes : Text} {k start len : ℕ} {node : Node} → NodeRead bytes k node → node.kind ≡ Word start len → WordPart bytes k start len
unfolding Shows
part read e = shown read e

pub overflow_add-from-2 : goal.overflow_add-from-2
overflow_add-from-2 c = let h = word_inside (part c.node.ensures c.in-Word.is) c.node_count.result c.node_count.ensures (sizes c.requires.built) in omega arith

pub automaton_of-a-requires : goal.automaton_of-a-requires
automaton_of-a-requires c = (stands c.requires.built c.requires.pattern_bound.0).inside

pub slice_bounds-belongs-end : goal.slice_bounds-belongs-end
slice_bounds-belongs-end c = (word_inside (part c.node.ensures c.in-Word.is) c.node_count.result c.node_count.ensures (sizes c.requires.built)).0

pub belongs-requires : goal.belongs-requires
belongs-requires c = read_room c.automaton_of-a.ensures ((stands c.requires.built c.requires.pattern_bound.0).room Source)

pub returns : goal.returns
unfolding typing_lines
returns c r w d e f = line_passed 6 c.args.k _ _ (ap not (sym (c.belongs.ensures r (read_speaks c.automaton_of-a.ensures (speaks c.requires.built c.requires.pattern_bound.0 e Source))
    ∙ ap (matches r) (word_bytes (part c.node.ensures c.in-Word.is) c.node_count.result c.node_count.ensures f)) ∙ c.if-not-belongs.false)) no_line

pub returns-then-not-belongs : goal.returns-then-not-belongs
unfolding typing_lines
returns-then-not-belongs c r w d e f = line_holds 6 c.args.k _ _ (ap not (sym (c.belongs.ensures r (read_speaks c.automaton_of-a.ensures (speaks c.requires.built c.requires.pattern_bound.0 e Source))
    ∙ ap (matches r) (word_bytes (part c.node.ensures c.in-Word.is) c.node_count.result c.node_count.ensures f)) ∙ c.if-not-belongs.true))

pub overflow_add-from-3 : goal.overflow_add-from-3
overflow_add-from-3 c = let h = word_inside (part c.node.ensures c.in-Word.is) c.node_count.result c.node_count.ensures (sizes c.requires.built) in omega arith
