-- `readings::reading::read_with` meets its contract, test by test. Assumes nothing.
use Rattle.std.proofs.Common.{ap, ◌∙◌, not}
use Rattle.std.specs.Prelude.{Err}
use Rattle.answers.proofs.Giving.{program_gives, refused, passed, too_long_lem, not_too_long, not_of_lem}
use Rattle.answers.proofs.Texts.{text_ready}
use Rattle.readings.specs.Reading.{read_call}
use Rattle.readings.proofs.reading.read_with.Goals as goal

pub returns-then-text-gt-TEXT : goal.returns-then-text-gt-TEXT
unfolding read_call
returns-then-text-gt-TEXT c =
    program_gives _ c.requires.ready.accepted (refused 12 _ (ap Err c.refuse.ensures) (too_long_lem c.args.text.now c.if-text-gt-TEXT.true))

pub returns-then-not-root_path : goal.returns-then-not-root_path
unfolding read_call
returns-then-not-root_path c =
    let not_in = rw (← c.requires.side_value) at (not_of_lem c.requires.ready.accepted c.root_path.ensures) in
    program_gives
    _
    c.requires.ready.accepted
    (passed
    12
    (not_too_long c.args.text.now c.if-text-gt-TEXT.false)
    (refused c.args.number _ (ap Err c.refuse-then-not-root_path.ensures) (not_in ∙ ap not c.if-not-root_path.true)))

pub give_read-requires : goal.give_read-requires
give_read-requires c =
    let known = text_ready c.if-text-gt-TEXT.false c.root_path.ensures c.if-not-root_path.false in
    record { ready = c.requires.ready; text_ready = rw (← c.requires.side_value) at known; mode_value = c.requires.mode_value }

pub returns : goal.returns
unfolding read_call
returns c =
    let not_in = rw (← c.requires.side_value) at (not_of_lem c.requires.ready.accepted c.root_path.ensures) in
    program_gives
    _
    c.requires.ready.accepted
    (passed
    12
    (not_too_long c.args.text.now c.if-text-gt-TEXT.false)
    (passed
    c.args.number
    (not_in ∙ ap not c.if-not-root_path.false)
    (c.give_read.ensures.gives_made c.requires.ready.accepted.root c.requires.ready.accepted.gives_root)))
