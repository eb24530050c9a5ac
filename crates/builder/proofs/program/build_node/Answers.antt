-- `builder::program::build_node` meets its contract. Assumes nothing.
use mathlib.Core.Path.{sym, ◌∙◌}
use mathlib.Core.Bool.{true≢false}
use Rattle.automaton.specs.declared.Side.TheVariants.{Sheet}
use Rattle.builder.specs.Program.{Turn}
use Rattle.builder.proofs.Turns.{pattern_shape, same_ready, same_next}
use Rattle.builder.proofs.program.build_node.Goals as goal

pub same_as-requires : goal.same_as-requires
same_as-requires c = let turn : Turn c.args.bytes.now c.args.k Sheet c.build_side-next.result c.build_side-next.new.prepared = record { inside = c.requires.inside; up_to = c.build_side-next.ensures } in same_ready turn (pattern_shape c.args.bytes.now c.args.k _ c.node-kind.ensures.shows (sym c.is_pattern.ensures ∙ c.if-is_pattern.true))

pub returns-then-is_pattern : goal.returns-then-is_pattern
returns-then-is_pattern c = let turn : Turn c.args.bytes.now c.args.k Sheet c.build_side-next.result c.build_side-next.new.prepared = record { inside = c.requires.inside; up_to = c.build_side-next.ensures } in same_next turn (pattern_shape c.args.bytes.now c.args.k _ c.node-kind.ensures.shows (sym c.is_pattern.ensures ∙ c.if-is_pattern.true)) c.same_as.ensures

pub build_side-requires : goal.build_side-requires
build_side-requires c = record { turn = record { inside = c.requires.inside; up_to = c.build_side-next.ensures }; shows = c.node-kind.ensures.shows; own_side = record { own = λ e. absurd (true≢false (sym (c.is_pattern.ensures ∙ e) ∙ c.if-is_pattern.false)) } }
