use Rattle.calls.proofs.Replying.{counts_fit, tally_same, no_result}
use mathlib.Core.Path.{◌≡◌, sym, ap, ◌∙◌}
use native.Mathlib.Omega.{arith}
use lib.ListN.{length, take, length-take, length-replicate}
use Prim.Native.Nat.{ℕ}
use Rattle.answers.proofs.Giving.{refused, passed, made_counted, made_given}
use borrow.Author.Rules.{rules}
use Rattle.calls.proofs.put.put_parsed.Goals as goal

pub returns-in_default : goal.returns-in_default
returns-in_default c =
    record {
      puts = λ l e. refused 15 _ c.refuse_put.ensures (c.entries_of.ensures.over (search rules) l e);
      tallies = λ l e n is. no_result c.refuse_put.ensures is;
    }

pub write_source-source-requires : goal.write_source-source-requires
write_source-source-requires c = record { ready = c.requires.ready; text_ready = c.requires.text_ready.0; book_ready = c.entries_of.ensures.book_ready _ c.in-Some.is }

pub tally_of-requires : goal.tally_of-requires
tally_of-requires c = counts_fit (c.entries_of.ensures.book_ready _ c.in-Some.is) c.write_source-source.ensures c.requires.ready.accepted

pub finish-requires : goal.finish-requires
finish-requires c = made_counted c.requires.ready.accepted c.write_source-source.ensures.makes

pub returns : goal.returns
returns c =
    let all : length c.filled-result.result ≡ 4096 = ap length c.filled-result.ensures ∙ length-replicate {A = ℕ} 4096 0 in
    let room : length c.write_source-source.new.out ≡ length (take c.room_in-room.result c.filled-result.result) = search rules in
    let made = c.write_source-source.ensures in
    record {
      puts = λ l e.
          passed
          15
          (c.entries_of.ensures.within _ c.in-Some.is l e)
          (rw
          c.uncounted.ensures
          ((made_given (omega (arith, rw length-take at room, all, c.room_in-room.ensures)) c.finish.ensures made.makes).gives_made l e));
      tallies = λ l e n is.
          tally_same
          (c.entries_of.ensures.book_ready _ c.in-Some.is)
          made
          c.tally_of.ensures
          l
          e
          n
          (c.finish.ensures.told n (sym c.uncounted.ensures ∙ is));
    }
