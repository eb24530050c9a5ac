use Rattle.counted.proofs.Front.{front_written}
use Rattle.steps.specs.Stepping.{writes_behind, behind_fits}
use Rattle.texts.specs.Overlay.{writes_full}
use Rattle.laws.specs.Bookless.{plain}
use Rattle.std.proofs.Common.{arith}
use Rattle.counted.proofs.next_plain.Goals as goal

pub slice_bounds-write-count : goal.slice_bounds-write-count
slice_bounds-write-count c = c.requires.fitted.within _ c.in_ok-n.was

pub slice_bounds-write-start : goal.slice_bounds-write-start
slice_bounds-write-start c = omega (arith, c.requires.fitted.within _ c.in_ok-n.was)

pub write-requires : goal.write-requires
write-requires c = record { lens_node = c.requires.lens_node; given_old = c.requires.given_old }

pub returns : goal.returns
returns c =
    record {
      writes = λ l e text before w.
          rw c.in_ok-m.was at (writes_behind text (plain l _ _) before _ _ _ _ (rw c.in_ok-n.was at w) (c.write.ensures.writes l e));
    }

pub returns-in_err-n : goal.returns-in_err-n
returns-in_err-n c =
    record { writes = λ l e text before w. rw c.from_residual.ensures (writes_full text (plain l _ _) before _ (rw c.in_err-n.was at w)) }

pub overflow_add-result : goal.overflow_add-result
overflow_add-result c =
    let known = c.requires.lens_node in
    let room = c.requires.fitted.within _ c.in_ok-n.was in
    let fits = behind_fits
    _
    (plain known.tree _ _)
    _
    _
    _
    _
    _
    (front_written _ c.args.out.now room)
    (c.write.ensures.writes known.tree known.tree_is)
    (omega (arith, c.well_formed)) in
    omega (arith, fits.fits c.in_ok-m.m c.in_ok-m.was)

pub returns-in_err-m : goal.returns-in_err-m
returns-in_err-m c =
    record {
      writes = λ l e text before w.
          rw c.from_residual-in_err-m.ensures
          (rw c.in_err-m.was at (writes_behind text (plain l _ _) before _ _ _ _ (rw c.in_ok-n.was at w) (c.write.ensures.writes l e)));
    }
