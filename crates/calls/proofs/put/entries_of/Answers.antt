-- `calls::put::entries_of` meets its contract: the root lists into an empty book. Assumes nothing.
use Rattle.answers.proofs.Giving.{root_node}
use Rattle.calls.proofs.Listed.{to_list, lists_root}
use Rattle.calls.proofs.put.entries_of.Goals as goal

pub list-requires : goal.list-requires
list-requires c = record { to_list = to_list c.empty.ensures c.requires.ready c.requires.text_ready.short; node_bound = (root_node c.requires.ready c.root_of.ensures).inside; parsed = rw c.root_of.ensures c.requires.text_ready.parsed }

pub returns : goal.returns
returns c = lists_root c.requires.ready c.root_of.ensures c.requires.text_ready c.empty.ensures c.list.ensures
