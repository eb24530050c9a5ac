use mathlib.Core.Path.{◌≡◌, ap, ◌∙◌}
use mathlib.Core.Bool.{not, true, ◌||◌}
use native.Mathlib.Omega.{arith}
use lib.ListN.{length, length-take, length-replicate}
use Prim.Native.Nat.{ℕ}
use Rattle.semantics.specs.Calls.{put_call, too_long}
use Rattle.automaton.specs.Rows.{side_of}
use Rattle.answers.proofs.Giving.{program_gives, refused, passed, not_of_lem}
use Rattle.calls.proofs.Replying.{refused_replies, put_replies, first_long, second_long, neither_long}
use Rattle.answers.proofs.Texts.{text_ready}
use Rattle.calls.proofs.put.put_with.Goals as goal
use Rattle.calls.proofs.put.put_with.Goals.{then-sheet-gt-TEXT-via-then-sheet-gt-TEXT, then-sheet-gt-TEXT-via-else-sheet-gt-TEXT+then-source-gt-TEXT}

pub returns-then-sheet-gt-TEXT : goal.returns-then-sheet-gt-TEXT
unfolding put_call
returns-then-sheet-gt-TEXT c =
    let new = c.args.sheet.now in
    let old = c.args.source.now in
    let long : (too_long new || too_long old) ≡ true =
    elim c.then-sheet-gt-TEXT.branch [
      | then-sheet-gt-TEXT-via-then-sheet-gt-TEXT w ↦ first_long new old w.if-sheet-gt-TEXT.true
      | then-sheet-gt-TEXT-via-else-sheet-gt-TEXT+then-source-gt-TEXT w ↦ second_long new old w.if-sheet-gt-TEXT.false w.if-source-gt-TEXT.true
    ] in
    refused_replies c.refuse_put.ensures (program_gives _ c.requires.accepted (refused 12 _ c.refuse_put.ensures long))

pub returns-then-not-root_path : goal.returns-then-not-root_path
unfolding put_call side_of
returns-then-not-root_path c = refused_replies c.refuse_put-then-not-root_path.ensures (program_gives _ c.requires.accepted (passed 12 (neither_long c.args.sheet.now c.args.source.now c.if-sheet-gt-TEXT.false c.if-source-gt-TEXT.false) (refused 13 _ c.refuse_put-then-not-root_path.ensures (not_of_lem c.requires.accepted c.root_path.ensures ∙ ap not c.if-not-root_path.true))))

pub root_path-requires-2 : goal.root_path-requires-2
root_path-requires-2 c = record { ready = c.requires; text_len_bound = (c.if-sheet-gt-TEXT.false, simp length-take (omega (arith, ap length c.filled-positions.ensures ∙ length-replicate {A = ℕ} 4096 0, c.if-sheet-gt-TEXT.false))) }

pub returns-then-not-root_path-2 : goal.returns-then-not-root_path-2
unfolding put_call side_of
returns-then-not-root_path-2 c = refused_replies c.refuse_put-then-not-root_path-2.ensures (program_gives _ c.requires.accepted (passed 12 (neither_long c.args.sheet.now c.args.source.now c.if-sheet-gt-TEXT.false c.if-source-gt-TEXT.false) (passed 13 (not_of_lem c.requires.accepted c.root_path.ensures ∙ ap not c.if-not-root_path.false) (refused 14 _ c.refuse_put-then-not-root_path-2.ensures (not_of_lem c.requires.accepted c.root_path-2.ensures ∙ ap not c.if-not-root_path-2.true)))))

pub put_parsed-requires : goal.put_parsed-requires
unfolding side_of
put_parsed-requires c = record { ready = c.requires; text_ready = (text_ready c.if-sheet-gt-TEXT.false c.root_path-2.ensures (c.if-not-root_path-2.false), text_ready c.if-source-gt-TEXT.false c.root_path.ensures (c.if-not-root_path.false)) }

pub returns : goal.returns
unfolding put_call side_of
returns c = put_replies c.args.sheet.now c.args.source.now c.requires.accepted c.put_parsed.ensures.tallies (program_gives _ c.requires.accepted (passed 12 (neither_long c.args.sheet.now c.args.source.now c.if-sheet-gt-TEXT.false c.if-source-gt-TEXT.false) (passed 13 (not_of_lem c.requires.accepted c.root_path.ensures ∙ ap not c.if-not-root_path.false) (passed 14 (not_of_lem c.requires.accepted c.root_path-2.ensures ∙ ap not c.if-not-root_path-2.false) (c.put_parsed.ensures.puts c.requires.accepted.root c.requires.accepted.gives_root)))))
