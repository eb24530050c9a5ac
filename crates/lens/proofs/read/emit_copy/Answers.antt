-- `lens::read::emit_copy` meets its contract: a copy gives no key, and its text otherwise. Assumes nothing.
use mathlib.Core.Path.{◌≡◌, refl, sym, ◌∙◌}
use mathlib.Core.Bool.{true, false}
use mathlib.Core.List.{[]}
use Rattle.semantics.specs.Text.{Text}
use Rattle.texts.specs.Overlay.{writes_nothing}
use Rattle.lens.specs.declared.Mode.{Mode}
use Rattle.lens.specs.declared.Mode.TheVariants.{Get, Key, Create, SourceKey}
use Rattle.lens.specs.Reading.{copied, keyed}
use Rattle.lens.proofs.read.emit_copy.Goals as goal

copied_keyed : (mode : Mode) (text : Text) → keyed mode ≡ true → copied mode text ≡ []
unfolding copied
copied_keyed Get text e = cc
copied_keyed Key text e = refl
copied_keyed Create text e = cc
copied_keyed SourceKey text e = refl

copied_text : (mode : Mode) (text : Text) → keyed mode ≡ false → copied mode text ≡ text
unfolding copied
copied_text Get text e = refl
copied_text Key text e = cc
copied_text Create text e = refl
copied_text SourceKey text e = cc

pub returns-then-is_keyed : goal.returns-then-is_keyed
returns-then-is_keyed c =
    let keyed-is = sym c.is_keyed.ensures ∙ c.if-is_keyed.true in
    rw (keyed-is, copied_keyed c.args.mode c.args.text.now keyed-is) (writes_nothing c.args.out.now)

pub returns : goal.returns
returns c =
    let keyed-is = sym c.is_keyed.ensures ∙ c.if-is_keyed.false in
    rw (keyed-is, copied_text c.args.mode c.args.text.now keyed-is) c.write_text.ensures
