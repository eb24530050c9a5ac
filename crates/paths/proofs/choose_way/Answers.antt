-- `paths::choose_way` meets its contract. Assumes nothing.
use native.Mathlib.Omega.{arith}
use Rattle.language.proofs.Leading.{no_leads_zeros}
use Rattle.paths.proofs.choose_way.Goals as goal

pub find_leads-requires : goal.find_leads-requires
find_leads-requires c = record { room = c.requires.room; no_leads = rw c.filled-room.ensures no_leads_zeros }

pub choose_block-requires : goal.choose_block-requires
choose_block-requires c = record { in_bounds = (rw c.filled-sets.ensures (omega arith), c.if-text-le-BLOCK.true, c.requires.path_len); walked = c.requires.walked }

pub choose_short-requires : goal.choose_short-requires
choose_short-requires c = record { in_bounds = (rw c.filled-sets.ensures (omega arith), c.if-text-le-TEXT.true, c.requires.path_len); walked = c.requires.walked }

pub choose-requires : goal.choose-requires
choose-requires c = record { in_bounds = (rw c.filled-sets.ensures (omega arith), c.requires.marks_room.long_room c.if-text-le-TEXT.false, c.requires.marks_room.bounded); path_len = c.requires.path_len; walked = c.requires.walked }
