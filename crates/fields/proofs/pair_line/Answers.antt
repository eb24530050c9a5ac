-- `fields::pair_line` meets its contract: each part stands behind the one before. Assumes nothing.
use Rattle.fields.proofs.Scanning.{nothing}
use Rattle.fields.proofs.Placing.{no_lead, no_left, no_first, no_right, no_second, no_value, no_end, at_left, at_between, at_right, at_behind, at_value, at_end, all_there}
use Rattle.fields.proofs.pair_line.Goals as goal

pub returns-in_err-from_left : goal.returns-in_err-from_left
returns-in_err-from_left c = nothing _ c.from_residual.ensures (no_lead c.args.form c.args.text.now c.in_err-from_left.ensures)

pub returns-in_err-name_length : goal.returns-in_err-name_length
returns-in_err-name_length c =
    let form = c.args.form in
    let t = c.args.text.now in
    let e0 = at_left form t c.in_ok-from_left.ensures in
    nothing _ c.from_residual-in_err-name_length.ensures (no_left form t e0 c.in_err-name_length.ensures)

pub returns-in_err-from_right : goal.returns-in_err-from_right
returns-in_err-from_right c =
    let form = c.args.form in
    let t = c.args.text.now in
    let e0 = at_left form t c.in_ok-from_left.ensures in
    let e1 = at_between form t e0 c.in_ok-name_length.ensures.0 c.split_at.ensures.back in
    nothing _ c.from_residual-in_err-from_right.ensures (no_first form t e1 c.in_err-from_right.ensures)

pub returns-in_err-name_length-2 : goal.returns-in_err-name_length-2
returns-in_err-name_length-2 c =
    let form = c.args.form in
    let t = c.args.text.now in
    let e0 = at_left form t c.in_ok-from_left.ensures in
    let e1 = at_between form t e0 c.in_ok-name_length.ensures.0 c.split_at.ensures.back in
    let e2 = at_right form t e1 c.in_ok-from_right.ensures in
    nothing _ c.from_residual-in_err-name_length-2.ensures (no_right form t e2 c.in_err-name_length-2.ensures)

pub returns-in_err-from_value : goal.returns-in_err-from_value
returns-in_err-from_value c =
    let form = c.args.form in
    let t = c.args.text.now in
    let e0 = at_left form t c.in_ok-from_left.ensures in
    let e1 = at_between form t e0 c.in_ok-name_length.ensures.0 c.split_at.ensures.back in
    let e2 = at_right form t e1 c.in_ok-from_right.ensures in
    let e3 = at_behind form t e2 c.in_ok-name_length-2.ensures.0 c.split_at-2.ensures.back in
    nothing _ c.from_residual-in_err-from_value.ensures (no_second form t e3 c.in_err-from_value.ensures)

pub returns-in_err-value_length : goal.returns-in_err-value_length
returns-in_err-value_length c =
    let form = c.args.form in
    let t = c.args.text.now in
    let e0 = at_left form t c.in_ok-from_left.ensures in
    let e1 = at_between form t e0 c.in_ok-name_length.ensures.0 c.split_at.ensures.back in
    let e2 = at_right form t e1 c.in_ok-from_right.ensures in
    let e3 = at_behind form t e2 c.in_ok-name_length-2.ensures.0 c.split_at-2.ensures.back in
    let e4 = at_value form t e3 c.in_ok-from_value.ensures in
    nothing _ c.from_residual-in_err-value_length.ensures (no_value form t e4 c.in_err-value_length.ensures)

pub returns-in_err-rest : goal.returns-in_err-rest
returns-in_err-rest c =
    let form = c.args.form in
    let t = c.args.text.now in
    let e0 = at_left form t c.in_ok-from_left.ensures in
    let e1 = at_between form t e0 c.in_ok-name_length.ensures.0 c.split_at.ensures.back in
    let e2 = at_right form t e1 c.in_ok-from_right.ensures in
    let e3 = at_behind form t e2 c.in_ok-name_length-2.ensures.0 c.split_at-2.ensures.back in
    let e4 = at_value form t e3 c.in_ok-from_value.ensures in
    let e5 = at_end form t e4 c.in_ok-value_length.ensures.0 c.split_at-3.ensures.back in
    nothing _ c.from_residual-in_err-rest.ensures (no_end form t e5 c.in_err-rest.ensures.cases)

pub returns : goal.returns
returns c =
    let form = c.args.form in
    let t = c.args.text.now in
    let e0 = at_left form t c.in_ok-from_left.ensures in
    let e1 = at_between form t e0 c.in_ok-name_length.ensures.0 c.split_at.ensures.back in
    let e2 = at_right form t e1 c.in_ok-from_right.ensures in
    let e3 = at_behind form t e2 c.in_ok-name_length-2.ensures.0 c.split_at-2.ensures.back in
    let e4 = at_value form t e3 c.in_ok-from_value.ensures in
    let e5 = at_end form t e4 c.in_ok-value_length.ensures.0 c.split_at-3.ensures.back in
    all_there form t e0 e1 e2 e3 e4 e5 (c.in_ok-name_length.ensures.0, c.in_ok-name_length.ensures.1) (c.in_ok-name_length-2.ensures.0, c.in_ok-name_length-2.ensures.1) (c.in_ok-value_length.ensures.0, c.in_ok-value_length.ensures.1) c.in_ok-from_right.ensures.0 c.in_ok-from_value.ensures.0 c.in_ok-rest.ensures.cases.0 c.split_at.ensures.front c.split_at-2.ensures.front c.split_at-3.ensures.front c.in_ok-rest.ensures.cases.1
