-- Where a part of a repeat is empty, the empty text is shown. Assumes nothing.
use mathlib.Core.Path.{◌≡◌, sym, ap, ◌∙◌}
use mathlib.Core.Bool.{true}
use Rattle.semantics.specs.Text.{Text}
use Rattle.semantics.specs.Pattern.{Pattern, nullable}
use Rattle.semantics.specs.Table.{Node}
use Rattle.clash.specs.Clash.{one_list, ends_of}
use Rattle.clashes.specs.declared.shown_texts.Shown.{Shown}
use Rattle.clashes.specs.Shows.{Shows}
use Rattle.clashes.proofs.Showing.{empty_clash, shows_empty}
use Rattle.clashes.proofs.Rules.{empty_breaks, empty_ends}

pub repeat_empty :
    (r : Pattern) (n : Node) (before : Text) (shown : Shown) → nullable r ≡ true → (shown.length ≡ 0) × (shown.first ≡ 0) × (shown.second ≡ 0)
    → Shows (one_list r) n before before shown
repeat_empty r n before shown e (none, first, second) =
    record {
      text = rw none (shows_empty (one_list r) before (empty_breaks r e));
      ends = λ h. rw (first, second) (sym (ap (ends_of (one_list r) n) (empty_clash (one_list r) (empty_breaks r e)) ∙ empty_ends r n));
    }
