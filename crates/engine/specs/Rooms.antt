-- What each call owes, and what came of it in a room.
use Rattle.std.specs.Prelude.{◌≡◌, ℕ, length, Option, Some, None}
use Rattle.semantics.specs.Text.{Text}
use Rattle.semantics.specs.Calls.{check_call, get_call, put_call, create_call}
use Rattle.semantics.specs.Tally.{put_tally}
use Rattle.answers.specs.declared.Reply.{Reply}
use Rattle.clash.specs.Clash.{clash_call}
use Rattle.answers.specs.Outcomes.{Answer, answer_for, GivesText, RepliesSource, GivesClash}
use Rattle.answers.specs.Answers.{TooSmall}
use Rattle.engine.specs.declared.rooms.Call.{Call}
use Rattle.engine.specs.declared.rooms.Call.TheVariants.{Check, Get, Put, Create, Line, Clash}
use Rattle.readings.specs.Line.{line_call}

-- Check answers, and changes no buffer.
pub record Checks (bytes before after : Text) (answer : Answer) : Type 0 where
  pub answer_is : answer ≡ answer_for (λ (n : ℕ). n) (check_call bytes)
  pub buffer_is : after ≡ before

-- the answer, with the counts of a put, and the whole buffer afterwards, for the bytes that are handed over
unfoldable pub Owed : Call → Text → Text → Text → Text → Text → Reply → Type 0
Owed Check bytes sheet source before after reply = Checks bytes before after reply.answer
Owed Get bytes sheet source before after reply = GivesText (get_call bytes source (length before)) before after reply.answer
Owed Put bytes sheet source before after reply = RepliesSource (put_call bytes sheet source (length before)) (put_tally bytes sheet source) before after reply
Owed Create bytes sheet source before after reply = GivesText (create_call bytes sheet (length before)) before after reply.answer
Owed Line bytes sheet source before after reply = GivesText (line_call bytes (length before)) before after reply.answer
Owed Clash bytes sheet source before after reply = GivesClash (clash_call bytes (length before)) before after reply.clash

-- The call answers so, and leaves the buffer so.
pub record Owes (call : Call) (bytes sheet source before after : Text) (reply : Reply) : Type 0 where
  pub owed : Owed call bytes sheet source before after reply

-- The program does not fit a room of that size, and nothing was changed.
pub record NoRoom (bytes : Text) (size : ℕ) (before after : Text) : Type 0 where
  pub too_small : TooSmall bytes size
  pub unchanged : after ≡ before

unfoldable pub TriedIs : ℕ → Call → Text → Text → Text → Text → Text → Option Reply → Type 0
TriedIs size call bytes sheet source before after (Some reply) = Owes call bytes sheet source before after reply
TriedIs size call bytes sheet source before after None = NoRoom bytes size before after

-- That came of the call in a room of that size.
pub record Tries (size : ℕ) (call : Call) (bytes sheet source before after : Text) (tried : Option Reply) : Type 0 where
  pub tried_is : TriedIs size call bytes sheet source before after tried
