-- What is read off a text of the root.
use mathlib.Core.Path.{◌≡◌, subst}
use mathlib.Core.Bool.{false}
use mathlib.Core.List.{List}
use Prim.Native.Nat.{ℕ, ◌-◌}
use Rattle.semantics.specs.Text.{Text}
use Rattle.semantics.specs.Table.{node_count}
use Rattle.lens.specs.declared.Mode.{Mode}
use Rattle.texts.specs.Overlay.{Wrote, Lays}
use Rattle.lens.specs.Reading.{reading, keyed}
use Rattle.lens.specs.Emitting.{Emits}
use Rattle.answers.specs.Answers.{Ready}
use Rattle.answers.specs.Results.{Makes}
use Rattle.answers.proofs.Giving.{root_at}

module _ {bytes : Text} {prepared : List ℕ} (ready : Ready bytes prepared) {root : ℕ} (root_is : root ≡ node_count bytes - 1) where
  -- what is read off it is written
  pub root_reads :
      {mode : Mode} {text before after : Text} {wrote : Wrote}
      → keyed mode ≡ false
      → Emits bytes root mode text before after wrote
      → Makes bytes (λ l. reading mode l text) before after wrote
  root_reads {mode} {text} {before} {after} {wrote} no_key emitted =
      record { makes = λ l e. subst (λ padded. Lays padded (reading mode l text) before after wrote) no_key (emitted.writes l (root_at ready root_is l e)) }
