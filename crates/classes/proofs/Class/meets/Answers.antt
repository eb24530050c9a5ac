-- `classes::Class::meets` meets its contract: a byte of both stands in the lower halves or in the upper ones. Assumes nothing.
use Rattle.laws.specs.Basics.{not_both}
use Rattle.classes.proofs.Bytes.{shared_low, shared_high, shared_half}
use Rattle.classes.proofs.Class.meets.Goals as goal

pub returns-then-meets : goal.returns-then-meets
returns-then-meets c = (λ e. shared_low _ _ (c.meets.ensures.0 e), λ h. c.if-meets.true)

pub returns-else-meets : goal.returns-else-meets
returns-else-meets c = (
  λ e. shared_high _ _ (c.meets-else-meets.ensures.0 e),
  λ h. shared_half _ _ h (λ low. absurd (not_both (c.meets.ensures.1 low) c.if-meets.false)) c.meets-else-meets.ensures.1,
)
