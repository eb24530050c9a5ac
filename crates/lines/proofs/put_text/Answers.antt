-- `lines::put_text` meets its contract: the text is written into the part that is lent. Assumes nothing.
use Rattle.lines.proofs.Digits.{puts_lent}
use Rattle.lines.proofs.put_text.Goals as goal

pub returns : goal.returns
returns c = puts_lent c.args.text.now c.args.out.now c.write_text.new.out c.args.at c.requires c.write_text.ensures
