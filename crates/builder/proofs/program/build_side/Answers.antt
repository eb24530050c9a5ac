-- `builder::program::build_side` meets its contract. Assumes nothing.
use mathlib.Core.Path.{sym, ap, ◌∙◌}
use native.Mathlib.Omega.{arith}
use Rattle.semantics.specs.Pattern.{word}
use Rattle.builder.proofs.Turns.{shape_is, word_count, taken_alone, alone_ready, alone_next, class_ready, class_next, pair_ready, pair_next, repeat_ready, repeat_next, same_ready, same_next}
use Rattle.builder.proofs.program.build_side.Goals as goal

pub letters-word-requires : goal.letters-word-requires
letters-word-requires c = record { sizes_right = c.requires.turn.up_to.sized.sized.sizes_right; inside = (shape_is c.args.bytes.now c.args.slot.node c.args.slot.side c.args.kind _ (sym c.in-Letters.is ∙ c.parts_of.ensures) c.requires.shows c.requires.own_side).inside }

pub build_word-requires : goal.build_word-requires
build_word-requires c = let s = shape_is c.args.bytes.now c.args.slot.node c.args.slot.side c.args.kind _ (sym c.in-Letters.is ∙ c.parts_of.ensures) c.requires.shows c.requires.own_side in let e = s.language_is ∙ sym (ap word c.letters-word.ensures) in alone_ready c.requires.turn e _ (taken_alone c.requires.turn e s.takes (word_count _))

pub slice_bounds-build_class-end : goal.slice_bounds-build_class-end
slice_bounds-build_class-end c = let s = shape_is c.args.bytes.now c.args.slot.node c.args.slot.side c.args.kind _ (sym c.in-Runs.is ∙ c.parts_of.ensures) c.requires.shows c.requires.own_side in omega (arith, s.inside)

pub build_class-requires : goal.build_class-requires
build_class-requires c = class_ready c.requires.turn (shape_is c.args.bytes.now c.args.slot.node c.args.slot.side c.args.kind _ (sym c.in-Runs.is ∙ c.parts_of.ensures) c.requires.shows c.requires.own_side)

pub two_of-requires : goal.two_of-requires
two_of-requires c = pair_ready c.requires.turn (shape_is c.args.bytes.now c.args.slot.node c.args.slot.side c.args.kind _ (sym c.in-Two.is ∙ c.parts_of.ensures) c.requires.shows c.requires.own_side)

pub repeat_of-requires : goal.repeat_of-requires
repeat_of-requires c = repeat_ready c.requires.turn (shape_is c.args.bytes.now c.args.slot.node c.args.slot.side c.args.kind _ (sym c.in-Repeat.is ∙ c.parts_of.ensures) c.requires.shows c.requires.own_side)

pub same_as-requires : goal.same_as-requires
same_as-requires c = same_ready c.requires.turn (shape_is c.args.bytes.now c.args.slot.node c.args.slot.side c.args.kind _ (sym c.in-Same.is ∙ c.parts_of.ensures) c.requires.shows c.requires.own_side)

pub returns-in-Letters : goal.returns-in-Letters
returns-in-Letters c = let s = shape_is c.args.bytes.now c.args.slot.node c.args.slot.side c.args.kind _ (sym c.in-Letters.is ∙ c.parts_of.ensures) c.requires.shows c.requires.own_side in let e = s.language_is ∙ sym (ap word c.letters-word.ensures) in alone_next c.requires.turn e _ (taken_alone c.requires.turn e s.takes (word_count _)) c.build_word.ensures (omega (arith, word_count c.letters-word.result.now))

pub returns-in-Runs : goal.returns-in-Runs
returns-in-Runs c = class_next c.requires.turn (shape_is c.args.bytes.now c.args.slot.node c.args.slot.side c.args.kind _ (sym c.in-Runs.is ∙ c.parts_of.ensures) c.requires.shows c.requires.own_side) c.build_class.ensures

pub returns-in-Two : goal.returns-in-Two
returns-in-Two c = pair_next c.requires.turn (shape_is c.args.bytes.now c.args.slot.node c.args.slot.side c.args.kind _ (sym c.in-Two.is ∙ c.parts_of.ensures) c.requires.shows c.requires.own_side) c.two_of.ensures

pub returns-in-Repeat : goal.returns-in-Repeat
returns-in-Repeat c = repeat_next c.requires.turn (shape_is c.args.bytes.now c.args.slot.node c.args.slot.side c.args.kind _ (sym c.in-Repeat.is ∙ c.parts_of.ensures) c.requires.shows c.requires.own_side) c.repeat_of.ensures

pub returns-in-Same : goal.returns-in-Same
returns-in-Same c = same_next c.requires.turn (shape_is c.args.bytes.now c.args.slot.node c.args.slot.side c.args.kind _ (sym c.in-Same.is ∙ c.parts_of.ensures) c.requires.shows c.requires.own_side) c.same_as.ensures

pub overflow_add-result : goal.overflow_add-result
overflow_add-result c =
    let s = shape_is c.args.bytes.now c.args.slot.node c.args.slot.side c.args.kind _ (sym c.in-Letters.is ∙ c.parts_of.ensures) c.requires.shows c.requires.own_side in
    let e = s.language_is ∙ sym (ap word c.letters-word.ensures) in
    omega (arith, (alone_ready c.requires.turn e _ (taken_alone c.requires.turn e s.takes (word_count _))).inside)

pub overflow_mul-count : goal.overflow_mul-count
overflow_mul-count c =
    let s = shape_is c.args.bytes.now c.args.slot.node c.args.slot.side c.args.kind _ (sym c.in-Runs.is ∙ c.parts_of.ensures) c.requires.shows c.requires.own_side in
    omega (arith, s.inside)

pub overflow_add-at : goal.overflow_add-at
overflow_add-at c =
    let s = shape_is c.args.bytes.now c.args.slot.node c.args.slot.side c.args.kind _ (sym c.in-Runs.is ∙ c.parts_of.ensures) c.requires.shows c.requires.own_side in
    omega (arith, s.inside)

pub overflow_add-result-in-Runs : goal.overflow_add-result-in-Runs
overflow_add-result-in-Runs c =
    let s = shape_is c.args.bytes.now c.args.slot.node c.args.slot.side c.args.kind _ (sym c.in-Runs.is ∙ c.parts_of.ensures) c.requires.shows c.requires.own_side in
    omega (arith, (class_ready c.requires.turn s).inside)
