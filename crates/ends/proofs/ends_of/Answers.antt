-- `ends::ends_of` meets its contract. Assumes nothing.
use Rattle.ends.proofs.Smallest.{ends_are}
use Rattle.language.proofs.Leading.{no_leads_zeros}
use Rattle.ends.proofs.ends_of.Goals as goal

pub fill_leads-requires : goal.fill_leads-requires
fill_leads-requires c = record { room = c.requires.room_2; no_leads = rw c.filled-leads.ensures no_leads_zeros }

pub returns : goal.returns
returns c r s d e told = ends_are c.flag_rests.ensures d e c.two_ends.ensures told
