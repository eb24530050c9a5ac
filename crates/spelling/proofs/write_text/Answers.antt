-- `spelling::write_text` meets its contract. The loop's invariant: the first i bytes are written. Assumes nothing.
use mathlib.Core.Path.{refl}
use native.Mathlib.Omega.{arith}
use Rattle.spelling.proofs.Writing.{layer_rises, layer_room, written_begins, written_byte, written_more, written_ends}
use Rattle.spelling.proofs.write_text.Goals as goal

pub loop-i-init : goal.loop-i-init
loop-i-init c =
    let args = c.args in
    written_begins args.prepared.now args.search.quest.now args.search.leads.now c.requires.quest_fits c.requires.written_out c.requires.none_alive refl

pub slice_bounds-layer-end : goal.slice_bounds-layer-end
slice_bounds-layer-end c =
    let args = c.args in
    omega (arith, (layer_rises args.prepared.now args.search.quest.now args.search.leads.now c.requires.quest_fits c.requires.written_out c.loop-i.i c.loop-i-test.true).1)

pub lowest_byte-byte-requires : goal.lowest_byte-byte-requires
lowest_byte-byte-requires c =
    let args = c.args in
    let loop = c.loop-i in
    record { alive_len = loop.invariant.cells; layer_room = layer_room args.prepared.now args.search.quest.now args.search.leads.now c.requires.quest_fits c.requires.written_out c.requires.out_in_bounds.1 loop.i c.loop-i-test.true }

pub overflow_cast-byte : goal.overflow_cast-byte
overflow_cast-byte c =
    let args = c.args in
    omega (arith, written_byte args.prepared.now args.search.quest.now args.search.leads.now c.requires.quest_fits c.requires.written_out c.loop-i.invariant c.loop-i-test.true c.lowest_byte-byte.ensures)

pub mark_layer-requires : goal.mark_layer-requires
mark_layer-requires c =
    let args = c.args in
    let loop = c.loop-i in
    record { alive_len = loop.invariant.cells; layer_room = layer_room args.prepared.now args.search.quest.now args.search.leads.now c.requires.quest_fits c.requires.written_out c.requires.out_in_bounds.1 loop.i c.loop-i-test.true }

pub loop-i-preserved : goal.loop-i-preserved
loop-i-preserved c =
    let args = c.args in
    written_more args.prepared.now args.search.quest.now args.search.leads.now c.requires.quest_fits c.requires.written_out c.loop-i.invariant c.loop-i-test.true c.lowest_byte-byte.ensures c.mark_layer.ensures

pub returns : goal.returns
returns c =
    let args = c.args in
    written_ends args.prepared.now args.search.quest.now args.search.leads.now c.requires.quest_fits c.requires.written_out c.loop-i.invariant c.loop-i-test.false
