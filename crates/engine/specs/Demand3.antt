-- Demand 3, and document 02 (iv), about the calls as they are: what their contracts say (`GivesText`, and for put `GivesSource`: the answer, and the whole buffer
-- afterwards) with the theorems of `laws` about the definitions of the calls. Put's answer is taken without its counts. `Gave` is document 01's 'What such a call gives is the text of the answered length at the
-- start of its buffer'; every buffer is 4,096 bytes long; the second call of a pair gets the same table, and the text that the first one gave.
use Rattle.std.specs.Prelude.{◌≡◌, List, map, ℕ, ◌≤◌, length, take, drop, Ok, Err}
use Rattle.std.proofs.Common.{sym, ap, ◌∙◌, arith}
use Rattle.std.proofs.Math.Seq.{take-append_seam}
use Rattle.semantics.specs.Text.{Text, joined, All, Different}
use Rattle.semantics.specs.Pattern.{In}
use Rattle.semantics.specs.Lens.{Lens, source, sheet, language, parts, get, entries}
use Rattle.semantics.specs.Calls.{gives, refuses, buffer_after, program, get_call, put_call, create_call}
use Rattle.semantics.specs.Calls.{Answer as Outcome}
use Rattle.semantics.specs.Tally.{put_tally}
use Rattle.laws.specs.Demand3.{OneRepeatedEntry, unedited, put_then_get, create_then_get, reordered, found_by_key}
use Rattle.laws.specs.Shuffle.{selected, PartNumbers, SameKeys, put_each}
use Rattle.table.specs.Prepared.{refusal}
use Rattle.answers.specs.Outcomes.{Answer, PutAnswer, answer_for, GivesText, GivesSource, untallied}
use Rattle.answers.specs.Replies.{gives_text}

-- The call answered a result, whose text is that.
pub record Gave (after : Text) (answer : Answer) (text : Text) : Type 0 where
  pub answered : answer ≡ Ok (length text)
  pub at_start : take (length text) after ≡ text

-- A call whose definition gives a text gave that text.
pub gave_of : (outcome : Outcome Text) (text before after : Text) (answer : Answer) → outcome ≡ gives text → GivesText outcome before after answer → Gave after answer text
unfolding answer_for buffer_after
gave_of outcome text before after answer e given =
    record {
      answered = given.answer_is ∙ ap (answer_for length) e;
      at_start =
          ap (take (length text)) (given.buffer_is ∙ ap (λ o. buffer_after o before) e)
          ∙ take-append_seam text (drop (length text) before);
    }

-- And only then.
pub of_gave : (outcome : Outcome Text) (text before after : Text) (answer : Answer) → GivesText outcome before after answer → Gave after answer text → outcome ≡ gives text
unfolding answer_for buffer_after
of_gave (gives t) text before after answer given gave =
    let lengths : ◌≡◌ {A = Answer} (Ok (length t)) (Ok (length text)) = sym given.answer_is ∙ gave.answered in
    let same : length t ≡ length text = cc in
    let from : take (length t) after ≡ t = ap (take (length t)) given.buffer_is ∙ take-append_seam t (drop (length t) before) in
    ap gives (sym from ∙ ap (λ n. take n after) same ∙ gave.at_start)
of_gave (refuses number node) text before after answer given gave =
    let wrong : ◌≡◌ {A = Answer} (Err (refusal number node)) (Ok (length text)) = sym given.answer_is ∙ gave.answered in
    absurd (let z : ◌≡◌ {A = ℕ} 0 1 = cc in omega arith)

-- Two calls, one after the other, with buffers of 4,096 bytes: if the definitions lead from what the first gives to what the second gives,
-- so do the calls.
then_gave :
    (first second : ℕ → Outcome Text) (text result : Text)
    → (first 4096 ≡ gives text → second 4096 ≡ gives result)
    → (before after before' after' : Text) (answer answer' : Answer)
    → length before ≡ 4096
    → length before' ≡ 4096
    → GivesText (first (length before)) before after answer
    → Gave after answer text
    → GivesText (second (length before')) before' after' answer'
    → Gave after' answer' result
then_gave first second text result leads before after before' after' answer answer' room room' given gave given' =
    let one : first 4096 ≡ gives text = ap first (sym room) ∙ of_gave (first (length before)) text before after answer given gave in
    gave_of (second (length before')) result before' after' answer' (ap second room' ∙ leads one) given'

module _
    (bytes : Text)
    (before after before' after' : Text)
    (room : length before ≡ 4096)
    (room' : length before' ≡ 4096)
  where
    -- 'wherever get gave a sheet for a source of at most 256 entries, putting that sheet back on it unedited gives exactly that source'
    pub unedited_calls :
        (answer : Answer) (answer' : PutAnswer) (t a : Text) (l : Lens)
        → program bytes ≡ gives l
        → length (entries l t) ≤ 256
        → GivesText (get_call bytes t (length before)) before after answer
        → Gave after answer a
        → GivesSource (put_call bytes a t (length before')) (put_tally bytes a t) before' after' answer'
        → Gave after' (untallied answer') t
    unedited_calls answer answer' t a l p n got gave given =
        then_gave
        (get_call bytes t)
        (put_call bytes a t)
        a
        t
        (λ e. unedited bytes t a l e p n)
        before
        after
        before'
        after'
        answer
        (untallied answer')
        room
        room'
        got
        gave
        (gives_text given)

    -- 'wherever put (on whatever old source) or create gave a source for a sheet, get takes exactly that sheet from the new source'
    pub put_get_calls :
        (answer : PutAnswer) (answer' : Answer) (a old t : Text)
        → GivesSource (put_call bytes a old (length before)) (put_tally bytes a old) before after answer
        → Gave after (untallied answer) t
        → GivesText (get_call bytes t (length before')) before' after' answer'
        → Gave after' answer' a
    put_get_calls answer answer' a old t given =
        then_gave
        (put_call bytes a old)
        (get_call bytes t)
        t
        a
        (put_then_get bytes a old t)
        before
        after
        before'
        after'
        (untallied answer)
        answer'
        room
        room'
        (gives_text given)

    pub create_get_calls :
        (answer answer' : Answer) (a t : Text)
        → GivesText (create_call bytes a (length before)) before after answer
        → Gave after answer t
        → GivesText (get_call bytes t (length before')) before' after' answer'
        → Gave after' answer' a
    create_get_calls answer answer' a t =
        then_gave (create_call bytes a) (get_call bytes t) t a (create_then_get bytes a t) before after before' after' answer answer' room room'

-- 'whichever of its sheet entries are put back on it, none twice, 4,096 bytes at most, and in whatever order, put gives exactly those old
-- entries set in that order'
pub reordered_call :
    (bytes t : Text) (n : ℕ) (l : Lens)
    → OneRepeatedEntry bytes t n l
    → (ns : List ℕ)
    → PartNumbers (parts (language source l) t) ns
    → Different ns
    → length (joined (map (get l) (selected (parts (language source l) t) ns))) ≤ 4096
    → (before after : Text) (answer : PutAnswer)
    → length before ≡ 4096
    → let new = joined (map (get l) (selected (parts (language source l) t) ns)) in
    GivesSource (put_call bytes new t (length before)) (put_tally bytes new t) before after answer
    → Gave after (untallied answer) (joined (selected (parts (language source l) t) ns))
reordered_call bytes t n l one ns numbers different short before after answer room given =
    let chosen = selected (parts (language source l) t) ns in
    gave_of
    (put_call bytes (joined (map (get l) chosen)) t (length before))
    (joined chosen)
    before
    after
    (untallied answer)
    (ap (put_call bytes (joined (map (get l) chosen)) t) room ∙ reordered bytes t n l one ns numbers different short)
    (gives_text given)

-- Document 02 (iv): 'Setters pad glyph names to a column, and the pair then loses its remark.' It keeps it: sheet entries that have, but for trailing spaces, the keys of different old entries are
-- each put onto the old entry with that key.
pub found_by_key_call :
    (bytes t : Text) (n : ℕ) (l : Lens)
    → OneRepeatedEntry bytes t n l
    → (ns : List ℕ)
    → PartNumbers (parts (language source l) t) ns
    → Different ns
    → (new : List Text)
    → All (In (language sheet l)) new
    → SameKeys l (selected (parts (language source l) t) ns) new
    → length (joined new) ≤ 4096
    → length (put_each l (selected (parts (language source l) t) ns) new) ≤ 4096
    → (before after : Text) (answer : PutAnswer)
    → length before ≡ 4096
    → GivesSource (put_call bytes (joined new) t (length before)) (put_tally bytes (joined new) t) before after answer
    → Gave after (untallied answer) (put_each l (selected (parts (language source l) t) ns) new)
found_by_key_call bytes t n l one ns numbers different new sheets same short fits before after answer room given =
    gave_of
    (put_call bytes (joined new) t (length before))
    (put_each l (selected (parts (language source l) t) ns) new)
    before
    after
    (untallied answer)
    (ap (put_call bytes (joined new) t) room ∙ found_by_key bytes t n l one ns numbers different new sheets same short fits)
    (gives_text given)
