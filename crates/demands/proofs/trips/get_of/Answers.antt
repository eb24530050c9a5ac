-- `demands::trips::get_of` meets its contract: what it gets is what was given. Assumes nothing.
use mathlib.Core.Path.{refl, ap, ◌∙◌}
use native.Mathlib.Omega.{arith}
use lib.ListN.{length-take}
use Rattle.std.specs.Prelude.{Err}
use Rattle.std.proofs.lemmas.Result.{err_from_is_err_and}
use Rattle.demands.proofs.Following.{follows_result, follows_refusal}
use Rattle.demands.proofs.trips.get_of.Goals as goal

pub slice_bounds-get-end : goal.slice_bounds-get-end
slice_bounds-get-end c = omega (arith, length-take c.in_ok-length.length c.args.given.now, c.requires.within _ c.in_ok-length.was)

pub returns-in_err-length : goal.returns-in_err-length
returns-in_err-length c =
    let p = err_from_is_err_and c.from_residual.result c.from_residual.ensures.1 in
    follows_refusal c.in_err-length.was refl (p.1 ∙ ap Err p.2)

pub returns : goal.returns
returns c = follows_result c.in_ok-length.was c.get.ensures
