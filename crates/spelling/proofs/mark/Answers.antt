-- `spelling::mark` meets its contract: nothing is set where the byte does not stand, or the pair does not come; else one pair is. Assumes nothing.
use mathlib.Core.Path.{◌≡◌, sym, ◌∙◌}
use Rattle.laws.specs.Basics.{not_both}
use Rattle.spelling.proofs.Writing.{stands_iff, marked_none, marked_one}
use Rattle.spelling.proofs.mark.Goals as goal
use Rattle.spelling.proofs.mark.Goals.{else-stands-via-then-stands+then-stands-2+else-may_come, else-stands-via-then-stands+else-stands-2, else-stands-via-else-stands}

pub returns-then-may_come : goal.returns-then-may_come
returns-then-may_come c =
    let args = c.args in
    let rows = c.rows_of-at.ensures in
    let both = stands_iff args.prepared.now args.search.quest.now args.search.leads.now args.pair args.byte c.requires.pair_bound.1.inside rows.0 rows.1 in
    let here = sym c.stands.ensures ∙ c.if-stands.true in
    let there = sym c.stands-then-stands.ensures ∙ c.if-stands-2.true in
    let come = c.may_come.ensures.0 c.if-may_come.true in
    marked_one _ _ args.i args.byte c.requires.pair_bound.0 come (both.1 (here, there)) (rw c.set_at-marked.ensures at c.with.ensures) c.keep.ensures

pub returns-else-stands : goal.returns-else-stands
returns-else-stands c =
    let args = c.args in
    let rows = c.rows_of-at.ensures in
    let both = stands_iff args.prepared.now args.search.quest.now args.search.leads.now args.pair args.byte c.requires.pair_bound.1.inside rows.0 rows.1 in
    marked_none _ _ args.i args.byte (λ x. x ≡ args.pair) _
    (λ x same come stands.
    let (here, there) = both.0 (rw same at stands) in
    elim c.else-stands.branch [
      | else-stands-via-else-stands w ↦ not_both here (sym c.stands.ensures ∙ w.if-stands.false)
      | else-stands-via-then-stands+else-stands-2 w ↦ not_both there (sym w.stands-then-stands.ensures ∙ w.if-stands-2.false)
      | else-stands-via-then-stands+then-stands-2+else-may_come w ↦ not_both (w.may_come.ensures.1 (rw same at come)) w.if-may_come.false
    ])
