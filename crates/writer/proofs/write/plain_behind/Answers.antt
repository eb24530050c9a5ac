-- `writer::write::plain_behind` meets its contract. Assumes nothing.
use Rattle.matches.proofs.Ready.{below_room}
use Rattle.plains.proofs.ByKind.{plain_writes}
use Rattle.plains.proofs.Counting.{count_met}
use Rattle.plains.proofs.Unasked.{none_asked}
use Rattle.writer.proofs.write.plain_behind.Goals as goal

pub even_count-requires : goal.even_count-requires
even_count-requires c = below_room c.requires.ready

pub next_counted-more-requires : goal.next_counted-more-requires
next_counted-more-requires c =
    let ready = c.requires.ready in record { lens_node = ready.lens_node; given_old = c.requires.given_old; fitted = (c.requires.within_buffer.0, count_met _ _ ready.lens_node ready.below_is c.in-Some.ensures) }

pub returns-in-Some : goal.returns-in-Some
returns-in-Some c =
    let ready = c.requires.ready in
    plain_writes
    (λ l e. none_asked c.args.deck.now l ready.lens_node ready.below_is ready.looks_in.over c.requires.within_buffer.1 e)
    ready.looks_in.over
    (count_met _ _ ready.lens_node ready.below_is c.in-Some.ensures)
    c.next_counted-more.ensures.counted
    c.next_counted-more.ensures.next

pub returns : goal.returns
returns c = c.write_plain-more.ensures.writes _ c.requires.ready.looks_in.over c.requires.within_buffer.1
