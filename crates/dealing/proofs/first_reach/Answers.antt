-- `dealing::first_reach` meets its contract. Assumes nothing.
use borrow.Author.Tests.{lt-ltb, le-ltb}
use Rattle.dealing.specs.Reaches.{first_reach}
use Rattle.dealing.proofs.first_reach.Goals as goal

pub returns-then-dealt-gt-ENTRIES : goal.returns-then-dealt-gt-ENTRIES
unfolding first_reach
returns-then-dealt-gt-ENTRIES c = rw (lt-ltb 256 c.args.dealt.entries c.if-dealt-gt-ENTRIES.true)

pub returns-else-dealt-gt-ENTRIES : goal.returns-else-dealt-gt-ENTRIES
unfolding first_reach
returns-else-dealt-gt-ENTRIES c = rw (le-ltb 256 c.args.dealt.entries c.if-dealt-gt-ENTRIES.false)
