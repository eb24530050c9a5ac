-- Every text in the table's place is refused with number 1, whatever is asked of it.
use Rattle.std.specs.Prelude.{◌≡◌, refl, true, ℕ}
use Rattle.semantics.specs.Text.{Text}
use Rattle.semantics.specs.Calls.{refuses, with_program, get_call, put_call, create_call}
use Rattle.meanings.specs.Texts.{is_text, text_program}
use Rattle.commands.specs.declared.command.Command.{Command}
use Rattle.commands.specs.declared.command.Command.TheVariants.{Check, Get, Put, Create}
use Rattle.commands.specs.Replies.{check_outcome, outcome_of}

pub text_check : (table : Text) → is_text table ≡ true → check_outcome table ≡ refuses 1 0
unfolding check_outcome with_program
text_check table e = rw (text_program table e) refl

-- and so for all four commands
pub text_outcome :
    (command : Command) (table text old : Text) (lent : ℕ)
    → is_text table ≡ true
    → outcome_of command table text old lent ≡ refuses 1 0
unfolding outcome_of get_call put_call create_call with_program
text_outcome Check table text old lent e = text_check table e
text_outcome Get table text old lent e = rw (text_program table e) refl
text_outcome Put table text old lent e = rw (text_program table e) refl
text_outcome Create table text old lent e = rw (text_program table e) refl
