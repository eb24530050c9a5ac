-- `meanings::sentence_for` meets its contract: there are as many sentences as numbers that have one. Assumes nothing.
use Rattle.std.proofs.Common.{◌≡◌, ◌∙◌, sym, ap, is_some, nat_lt, arith, rules}
use Rattle.meanings.proofs.TextBytes.{refused_has}
use Rattle.meanings.proofs.Sentences.{has_none, placed}
use Rattle.meanings.proofs.sentence_for.Goals as goal

pub returns-then-text_refused : goal.returns-then-text_refused
returns-then-text_refused c = sym (refused_has c.args.number c.args.table.now (sym c.text_refused.ensures ∙ c.if-text_refused.true))

pub returns-in_err-place : goal.returns-in_err-place
returns-in_err-place c =
    ap is_some c.from_residual.ensures ∙ sym (has_none 1 c.args.number (λ low. absurd (omega (arith, c.in_err-place.ensures))))

pub returns : goal.returns
returns c =
    let found : is_some c.copied.result ≡ nat_lt c.in_ok-place.place 19 = search rules in
    found ∙ placed c.args.number c.in_ok-place.place c.in_ok-place.ensures
