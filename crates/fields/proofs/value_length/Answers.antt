-- `fields::value_length` meets its contract. Assumes nothing.
use Rattle.std.proofs.Common.{◌≡◌, ◌∙◌, ap, false, get_or, arith, rules}
use Rattle.semantics.specs.Text.{Text}
use Rattle.sections.specs.Afm.{begins_with, is_digit}
use Rattle.texts.specs.Cutting.{rest_lent}
use Rattle.fields.specs.Scan.{front, number_in}
use Rattle.fields.specs.Runs.{value_within}
use Rattle.fields.proofs.Scanning.{nothing, begins_first, begins_other, plain_none, plain_some, minus_none, minus_nought, minus_some}
use Rattle.fields.proofs.value_length.Goals as goal

pub returns-in_err-negative-in-45 : goal.returns-in_err-negative-in-45
returns-in_err-negative-in-45 c =
    let t = c.args.text.now in
    let lent = ap (λ (d : Text). number_in 32768 (front is_digit d)) (rest_lent t 1) in
    let first : get_or t 0 0 ≡ 45 = search rules in
    nothing _ c.from_residual.ensures (minus_none t (begins_first 45 t (omega arith) first) (c.in_err-negative-in-45.ensures.value ∙ lent))

pub returns-then-negative-eq0 : goal.returns-then-negative-eq0
returns-then-negative-eq0 c =
    let t = c.args.text.now in
    let lent = ap (λ (d : Text). number_in 32768 (front is_digit d)) (rest_lent t 1) in
    let first : get_or t 0 0 ≡ 45 = search rules in
    minus_nought t (begins_first 45 t (omega arith) first) c.in_ok-negative-in-45.negative (c.in_ok-negative-in-45.ensures.value ∙ lent) c.if-negative-eq0.true

pub returns-else-negative-eq0 : goal.returns-else-negative-eq0
returns-else-negative-eq0 c =
    let t = c.args.text.now in
    let lent = ap (λ (d : Text). number_in 32768 (front is_digit d)) (rest_lent t 1) in
    let first : get_or t 0 0 ≡ 45 = search rules in
    let all = minus_some t (begins_first 45 t (omega arith) first) c.in_ok-negative-in-45.negative (c.in_ok-negative-in-45.ensures.value ∙ lent) c.if-negative-eq0.false in
    (all, omega arith, omega (arith, value_within t))

pub returns-in_err-plain-in_default : goal.returns-in_err-plain-in_default
returns-in_err-plain-in_default c =
    let t = c.args.text.now in
    let plain : begins_with 45 t ≡ false = begins_other 45 t (search rules) in
    nothing _ c.from_residual-in_err-plain-in_default.ensures (plain_none t plain c.in_err-plain-in_default.ensures.value)

pub returns-in_ok-plain-in_default : goal.returns-in_ok-plain-in_default
returns-in_ok-plain-in_default c =
    let t = c.args.text.now in
    let plain : begins_with 45 t ≡ false = begins_other 45 t (search rules) in
    let (all, some) = plain_some t plain c.in_ok-plain-in_default.plain c.in_ok-plain-in_default.ensures.value in
    (all, some, omega (arith, value_within t))
