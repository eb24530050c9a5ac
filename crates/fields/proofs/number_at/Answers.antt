-- `fields::number_at` meets its contract. Assumes nothing.
use Rattle.std.proofs.Common.{◌≡◌, ◌<◌, ◌≤◌, ◌∙◌, refl, ap, length, get_or, rules}
use Rattle.sections.specs.Afm.{each, is_digit}
use Rattle.fields.specs.Scan.{number_in}
use Rattle.fields.specs.Runs.{front_each}
use Rattle.fields.proofs.Scanning.{number_empty, number_zero, number_large, number_is}
use Rattle.fields.proofs.number_at.Goals as goal

pub number_within-requires-clause-digits_value : goal.number_within-requires-clause-digits_value
number_within-requires-clause-digits_value c =
    ap (each is_digit) c.first_digits-digits.ensures.digits ∙ front_each is_digit c.args.text.now

pub returns-in-empty-clause-value : goal.returns-in-empty-clause-value
returns-in-empty-clause-value c =
    let digits = c.first_digits-digits.result.now in
    let none : length digits < 1 = search rules in
    number_empty c.args.limit digits none ∙ ap (number_in c.args.limit) c.first_digits-digits.ensures.digits

pub returns-in-empty-2-clause-value : goal.returns-in-empty-2-clause-value
returns-in-empty-2-clause-value c =
    let digits = c.first_digits-digits.result.now in
    let long : 1 < length digits = search rules in
    let nought : get_or digits 0 0 ≡ 48 = search rules in
    number_zero c.args.limit digits long nought ∙ ap (number_in c.args.limit) c.first_digits-digits.ensures.digits

pub returns-in_err-number-in_default-clause-value : goal.returns-in_err-number-in_default-clause-value
returns-in_err-number-in_default-clause-value c =
    let digits = c.first_digits-digits.result.now in
    c.from_residual.ensures ∙ number_large c.args.limit digits c.in_err-number-in_default.ensures ∙ ap (number_in c.args.limit) c.first_digits-digits.ensures.digits

pub returns-in_ok-number-in_default-clause-value : goal.returns-in_ok-number-in_default-clause-value
returns-in_ok-number-in_default-clause-value c =
    let digits = c.first_digits-digits.result.now in
    let digits_are = c.first_digits-digits.ensures.digits in
    let some : 1 ≤ length digits = search rules in
    let plain : 1 < length digits → ¬ (get_or digits 0 0 ≡ 48) = search rules in
    number_is c.args.limit digits (length digits) c.in_ok-number-in_default.number (ap (each is_digit) digits_are ∙ front_each is_digit c.args.text.now) refl some plain c.in_ok-number-in_default.ensures ∙ ap (number_in c.args.limit) digits_are
