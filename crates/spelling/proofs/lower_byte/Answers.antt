-- `spelling::lower_byte` meets its contract, for each way that it returns. Assumes nothing.
use Rattle.laws.specs.Basics.{not_both}
use Rattle.spelling.proofs.Writing.{lower_past, lower_not, lower_by}
use Rattle.spelling.proofs.lower_byte.Goals as goal
use Rattle.spelling.proofs.lower_byte.Goals.{else-byte-lowest-via-else-byte-lowest, else-byte-lowest-via-then-byte-lowest+else-may_come}

pub returns-then-may_come : goal.returns-then-may_come
returns-then-may_come c =
    let args = c.args in
    let rows = c.rows_of-at.ensures in
    lower_by args.prepared.now args.search.quest.now args.search.leads.now _ args.pair c.requires.pair_bound.2.inside rows.0 rows.1 c.first_shared-byte.ensures
    c.requires.pair_bound.1 c.if-byte-lowest.true (c.may_come.ensures.0 c.if-may_come.true)

pub returns-else-byte-lowest : goal.returns-else-byte-lowest
returns-else-byte-lowest c =
    let args = c.args in
    let rows = c.rows_of-at.ensures in
    elim c.else-byte-lowest.branch [
      | else-byte-lowest-via-else-byte-lowest w ↦
          lower_past args.prepared.now args.search.quest.now args.search.leads.now _ args.pair c.requires.pair_bound.2.inside rows.0 rows.1
          c.first_shared-byte.ensures c.requires.pair_bound.1 w.if-byte-lowest.false
      | else-byte-lowest-via-then-byte-lowest+else-may_come w ↦
          lower_not args.prepared.now args.search.quest.now args.search.leads.now _ args.pair c.requires.pair_bound.2.inside rows.0 rows.1
          c.first_shared-byte.ensures c.requires.pair_bound.1 (λ come. not_both (w.may_come.ensures.1 come) w.if-may_come.false)
    ]
