-- The words of the command line.
use Rattle.std.specs.Prelude.{Bool, false, cond, List, [], ◌∷◌, length, ℕ, eqb, Option, Some, None}
use Rattle.semantics.specs.Text.{Text, same_text}
use Rattle.commands.specs.declared.command.Command.{Command}
use Rattle.commands.specs.declared.command.Command.TheVariants.{Check, Get, Put, Create}

-- `check`, `get`, `put` or `create`
unfoldable pub command_of : Text → Option Command
command_of word =
    cond
    (same_text word (99 ∷ 104 ∷ 101 ∷ 99 ∷ 107 ∷ []))
    (Some Check)
    (cond
    (same_text word (103 ∷ 101 ∷ 116 ∷ []))
    (Some Get)
    (cond (same_text word (112 ∷ 117 ∷ 116 ∷ [])) (Some Put) (cond (same_text word (99 ∷ 114 ∷ 101 ∷ 97 ∷ 116 ∷ 101 ∷ [])) (Some Create) None)))

-- `check TABLE`, `get TABLE SOURCE`, `put TABLE SHEET SOURCE`, `create TABLE SHEET`
abbrev pub words_of : Command → ℕ
words_of Check = 2
words_of Get = 3
words_of Put = 4
words_of Create = 3

-- whether a command takes that many words
abbrev pub takes : ℕ → Option Command → Bool
takes count None = false
takes count (Some command) = eqb count (words_of command)

-- The first word is a command, and the command line has as many words as it takes.
abbrev pub understood : List Text → Bool
understood [] = false
understood (word ∷ files) = takes (length (word ∷ files)) (command_of word)
