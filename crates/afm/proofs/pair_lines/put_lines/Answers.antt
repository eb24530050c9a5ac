-- `afm::pair_lines::put_lines` meets its contract: what is put so far is the front of what is to be put. Assumes nothing.
use native.Mathlib.Omega.{arith}
use Rattle.fields.specs.Lines.{reads_pair}
use Rattle.afm.proofs.Putting.{putting_start, line_room, putting_more, put_whole}
use Rattle.afm.proofs.pair_lines.put_lines.Goals as goal

pub loop-line-init : goal.loop-line-init
loop-line-init c = putting_start c.args.form c.args.text.now c.args.at c.args.out.now

pub put_line-next-requires : goal.put_line-next-requires
put_line-next-requires c = line_room c.loop-line.invariant (reads_pair c.in-Some.ensures) c.requires

pub loop-line-smaller : goal.loop-line-smaller
loop-line-smaller c = omega (arith, (reads_pair c.in-Some.ensures).room)

pub loop-line-preserved : goal.loop-line-preserved
loop-line-preserved c = putting_more c.loop-line.invariant (reads_pair c.in-Some.ensures) c.put_line-next.ensures

pub returns : goal.returns
returns c = put_whole c.loop-line.invariant c.in_default.ensures
