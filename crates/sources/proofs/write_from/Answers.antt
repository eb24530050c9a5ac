-- `sources::write_from` meets its contract. Assumes nothing.
use native.Mathlib.Omega.{arith}
use Rattle.sources.proofs.Sourcing.{to_put, to_give, put_over, put_made, none_written}
use Rattle.dealing.proofs.Rooms.{filled_length}
use Rattle.sources.proofs.write_from.Goals as goal

pub put-done-requires : goal.put-done-requires
put-done-requires c = let known = c.requires in let root = c.root_of.ensures in record { ready = to_put known.ready.0 root known.book_ready known.dealt.0 known.ready.1 known.dealt.1; given = to_give known.ready.0 root known.book_ready known.dealt.0 known.text_ready known.dealt.1; within_buffer = (none_written _, filled_length c.filled-card.ensures) }

pub unused_in-requires : goal.unused_in-requires
unused_in-requires c =
    let known = c.requires in
    let over = put_over known.ready.0 c.root_of.ensures known.book_ready known.dealt.0 c.args.new.now c.put-done.ensures in
    omega (arith, over.fits.few, over.sized.used_sized)

pub returns : goal.returns
returns c =
    let known = c.requires in
    put_made
    known.ready.0
    c.root_of.ensures
    known.book_ready
    known.dealt.0
    c.args.new.now
    c.unused_in.result
    known.text_ready.short
    (omega (arith, c.put-done.type_inv))
    c.unused_in.ensures
    c.put-done.ensures
