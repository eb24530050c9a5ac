-- `answers::results::finish` meets its contract: the bytes that were counted are the text. Assumes nothing.
use native.Mathlib.Nat.{sub-zero}
use Rattle.std.proofs.lemmas.Result.{err_from_is_err_and}
use Rattle.answers.proofs.Giving.{finish_full, finish_count, not_counted}
use Rattle.answers.proofs.results.finish.Goals as goal

pub returns-in_err-length : goal.returns-in_err-length
returns-in_err-length c =
    let (none, told) = not_counted _ _ c.in_err-length.ensures.value in
    let p = err_from_is_err_and c.from_residual.result c.from_residual.ensures.1 in
    rw (p.1, p.2, told, c.refuse.ensures) (finish_full none)

pub returns : goal.returns
returns c = finish_count {copied = c.write_text.result} c.in_ok-length.ensures.ok_part (rw sub-zero c.write_text.ensures)
