-- What a command prints on standard output.
use Rattle.std.specs.Prelude.{◌≡◌, ◌++◌, ℕ, ◌≤◌, length, drop, Option, Some, None, Ok, Err}
use Rattle.std.proofs.Common.{ap, arith, length-append}
use Rattle.semantics.specs.Text.{Text}
use Rattle.semantics.specs.Calls.{gives, refuses, program, with_program, get_call, put_call, create_call, lenscheck_line}
use Rattle.semantics.specs.Calls.{Answer as Outcome}
use Rattle.lines.specs.Line.{refused_line}
use Rattle.answers.specs.Outcomes.{Answer, GivesText}
use Rattle.commands.specs.declared.command.Command.{Command}
use Rattle.commands.specs.declared.command.Command.TheVariants.{Check, Get, Put, Create}
use Rattle.commands.specs.declared.replies.Reply.{Reply}

-- Check's result is printed as the line of `lenscheck`.
unfoldable pub check_outcome : Text → Outcome Text
check_outcome table = with_program (program table) (λ l. gives (lenscheck_line table))

-- The outcome of a command with the contents of its files, in the order of the command line. `lent` is the length of the output buffer.
unfoldable pub outcome_of : Command → Text → Text → Text → ℕ → Outcome Text
outcome_of Check table text old lent = check_outcome table
outcome_of Get table text old lent = get_call table text lent
outcome_of Put table text old lent = put_call table text old lent
outcome_of Create table text old lent = create_call table text lent

-- A result is printed byte for byte, a refusal as one line: `refused`, number, node.
unfoldable pub printed : Outcome Text → Text
printed (gives text) = text
printed (refuses number node) = refused_line number node

-- The number of a refusal, and none for a result: of an outcome,
unfoldable pub number_of : {A : Type 0} → Outcome A → Option ℕ
number_of (gives x) = None
number_of (refuses number node) = Some number

-- and of the answer for it.
abbrev pub answer_number : Answer → Option ℕ
answer_number (Ok length) = None
answer_number (Err r) = Some r.number

-- What is printed stands at the start of the buffer, with the rest as it was; the reply has its length, and the number.
pub record Replies (outcome : Outcome Text) (before after : Text) (reply : Reply) : Type 0 where
  pub text_is : after ≡ printed outcome ++ drop (length (printed outcome)) before
  pub length_is : reply.length ≡ length (printed outcome)
  pub number_is : reply.number ≡ number_of outcome

-- Whatever outcome the answer and the buffer are of, the reply is that of the outcome.
pub record Finishes (answer : Answer) (between after : Text) (reply : Reply) : Type 0 where
  pub finishes : (outcome : Outcome Text) (before : Text) → GivesText outcome before between answer → Replies outcome before after reply

-- What is printed lies within the buffer.
pub reply_within : {outcome : Outcome Text} {before after : Text} {reply : Reply} → Replies outcome before after reply → reply.length ≤ length after
reply_within {outcome} {before} {after} r =
    omega (arith, r.length_is, ap length r.text_is, length-append (printed outcome) (drop (length (printed outcome)) before))
