-- `plains::plain::write_plain` meets its contract. Assumes nothing.
use Rattle.plains.proofs.Given.{given_at}
use Rattle.plains.proofs.Behind.{old_put, old_created}
use Rattle.plains.proofs.plain.write_plain.Goals as goal

pub put_plain-requires : goal.put_plain-requires
put_plain-requires c = record { plain_ready = c.requires.plain_ready; given = given_at c.requires.given_old c.in-Some.is; fitted = c.requires.fitted }

pub create_plain-requires : goal.create_plain-requires
create_plain-requires c = record { plain_ready = c.requires.plain_ready; new_given = c.requires.given_old.sheet_given; fitted = c.requires.fitted }

pub returns-in-Some : goal.returns-in-Some
returns-in-Some c = record { writes = λ b over quiet. old_put c.in-Some.is (c.put_plain.ensures.writes b over quiet) }

pub returns-in-None : goal.returns-in-None
returns-in-None c = record { writes = λ b over quiet. old_created c.in-None.is (c.create_plain.ensures.writes b over quiet) }
