-- The answer and the buffer of a call that gives a text, from the tests that it makes and the slice that the text was written into.
use mathlib.Core.Path.{◌≡◌, refl, sym, ap, ◌∙◌, subst}
use mathlib.Core.Bool.{Bool, true, false, not}
use mathlib.Core.List.{List, ◌++◌}
use Prim.Native.Nat.{ℕ, ◌+◌, ◌*◌, ◌-◌, ◌≤◌, ◌<◌, min}
use native.Mathlib.Nat.{min-le_left, sub-zero}
use native.Mathlib.Omega.{arith}
use lib.ListN.{length, take, drop}
use lib.Seq.{take-append_seam}
use borrow.Author.Tests.{lt-ltb, le-ltb}
use Rattle.semantics.specs.Text.{Text}
use Rattle.semantics.specs.Lens.{Lens, language}
use Rattle.semantics.specs.Table.{node_count, positions, lens, tree_at, trees}
use Rattle.semantics.specs.Calls.{gives, refuses, refuse_if, program, with_program, max_text, too_long, not_of, output, buffer_after}
use Rattle.semantics.specs.Calls.{Answer as Outcome}
use Rattle.laws.specs.Basics.{never}
use Rattle.laws.specs.Accepted.{accepted}
use Rattle.automaton.specs.declared.Automaton.{Automaton}
use Rattle.automaton.specs.declared.Side.{Side as SideOf}
use Rattle.automaton.specs.Rows.{side_of, automaton_at, Room, Describes}
use Rattle.automaton.specs.Built.{tree_language}
use Rattle.paths.specs.Finding.{PathFound}
use Rattle.std.specs.Prelude.{Some, None, Ok, Err, MatchResult, IsOkAnd, ok_or}
use Rattle.table.specs.Prepared.{refusal}
use Rattle.texts.specs.Overlay.{Wrote, Writes, overlay, overlay_length, overlay_fits, count_fits, full_over, writes_within}
use Rattle.lens.specs.Emitting.{LensNode}
use Rattle.table.specs.declared.Refusal.{Refusal}
use Rattle.answers.specs.declared.Sourced.{Sourced}
use Rattle.answers.specs.declared.Tally.{Tally as Counts}
use Rattle.answers.specs.Outcomes.{Answer, PutAnswer, answer_for, GivesText, untallied}
use Rattle.answers.specs.Replies.{with_tally}
use Rattle.answers.specs.Answers.{IsAccepted, Ready}
use Rattle.answers.specs.Results.{Counted, Finishes, RootPath, Makes, GivesMade}
use Rattle.answers.proofs.Verdicts.{accepted_sizes, root_tree}

-- ---- The root

module _ {bytes : Text} {prepared : List ℕ} (ready : Ready bytes prepared) {root : ℕ} (root_is : root ≡ node_count bytes - 1) where
  -- the last node is the root
  pub root_at : (l : Lens) → program bytes ≡ gives l → tree_at (trees bytes) root ≡ lens l
  root_at l e = rw root_is (root_tree bytes (record { root = l; gives_root = e }))

  -- it is a node of the program, with its words and the rows of its automata
  pub root_inside : root < node_count bytes
  root_inside = let right = accepted_sizes ready.accepted in omega arith

  pub root_node : LensNode bytes prepared root
  root_node = record { built = ready.built; inside = root_inside; tree = ready.accepted.root; tree_is = root_at ready.accepted.root ready.accepted.gives_root }

  pub root_words : 16 * root + 16 ≤ length prepared
  root_words = let right = accepted_sizes ready.accepted in omega (arith, ready.built.sized.room, root_inside)

  pub root_room : (side : SideOf) {a : Automaton} → a ≡ automaton_at prepared root side → Room a prepared
  root_room side a-is = rw a-is (ready.built.automata root root_inside side).room

  -- its automaton is that of its language
  root_described : (side : SideOf) (l : Lens) → program bytes ≡ gives l → Describes (language (side_of side) l) (automaton_at prepared root side) prepared
  unfolding tree_language
  root_described side l e =
      let h = (ready.built.automata root root_inside side).described in
      subst (λ t. Describes (tree_language (side_of side) t) (automaton_at prepared root side) prepared) (root_at l e) h

  -- so a path through it is one of the root's
  pub path_of_root :
      {side : SideOf} {text : Text} {path : List ℕ} {a : Automaton} {answer : Bool}
      → a ≡ automaton_at prepared root side
      → PathFound prepared a text path answer
      → RootPath bytes side text path answer
  path_of_root {side} {text} {path} {a} a-is found =
      record {
        decides = λ l e. found.found_is (language (side_of side) l) (described l e);
        parsed = λ told. record { tree = tree; tree_is = rw (← root_is) (root_at tree gave); typed = (accepted bytes tree gave).0; least = found.path_is told (language (side_of side) tree) (described tree gave); few = few };
      }
    where
      tree : Lens
      tree = ready.accepted.root

      gave : program bytes ≡ gives tree
      gave = ready.accepted.gives_root

      described : (l : Lens) → program bytes ≡ gives l → Describes (language (side_of side) l) a prepared
      described l e = rw a-is (root_described side l e)

      few : 0 + positions (language (side_of side) tree) ≤ 128
      few = omega (arith, (root_room side a-is).few, (described tree gave).count_is)

-- ---- The tests of a call, one by one

-- the program is refused,
pub program_refuses :
    (bytes : Text) (call : Lens → Outcome Text) {before : Text} {number node : ℕ}
    → program bytes ≡ refuses number node
    → GivesText (with_program (program bytes) call) before before (Err (refusal number node))
unfolding with_program answer_for buffer_after
program_refuses bytes call e = rw e (record { answer_is = refl; buffer_is = refl })

-- or accepted;
pub program_gives :
    {bytes before after : Text} {answer : Answer} (call : Lens → Outcome Text) (a : IsAccepted bytes)
    → GivesText (call a.root) before after answer
    → GivesText (with_program (program bytes) call) before after answer
unfolding with_program
program_gives call a g = rw a.gives_root g

-- a test holds,
pub refused :
    {test : Bool} (number : ℕ) (rest : Outcome Text) {before : Text} {answer : Answer}
    → answer ≡ Err (refusal number 0)
    → test ≡ true
    → GivesText (refuse_if test number rest) before before answer
unfolding refuse_if answer_for buffer_after
refused number rest is e = rw (is, e) (record { answer_is = refl; buffer_is = refl })

-- or does not.
pub passed :
    {test : Bool} (number : ℕ) {rest : Outcome Text} {before after : Text} {answer : Answer}
    → test ≡ false
    → GivesText rest before after answer
    → GivesText (refuse_if test number rest) before after answer
unfolding refuse_if
passed number e g = rw e g

-- 12: the length of an input
pub too_long_lem : (t : Text) → max_text < length t → too_long t ≡ true
unfolding too_long
too_long_lem t h = lt-ltb max_text (length t) h

pub not_too_long : (t : Text) → length t ≤ max_text → too_long t ≡ false
unfolding too_long
not_too_long t h = le-ltb max_text (length t) h

-- 13 and 14: the test of the root's language
pub not_of_lem :
    {bytes text : Text} {path : List ℕ} {side : SideOf} {in_it : Bool} (a : IsAccepted bytes)
    → RootPath bytes side text path in_it
    → not_of (side_of side) a.root text ≡ not in_it
unfolding not_of
not_of_lem {side} a d = ap not (sym (d.decides a.root a.gives_root))

-- ---- The result

-- what a writer counts lies within its buffer
pub counted : {text before after : Text} {wrote : Wrote} → Writes text before after wrote → Counted wrote after
counted {text} {before} {after} w =
    record { within = λ n e. writes_within text before after n (subst (λ x. Writes text before after x) e w) }

-- a text that had no room is refused
pub finish_full : {result before : Text} {wrote : Wrote} → wrote ≡ None → Finishes wrote result before before (Err (refusal 16 0))
unfolding output
finish_full {result} {before} {wrote} e =
    record { finishes = go; told = λ n is. absurd (let z : ◌≡◌ {A = ℕ} 0 1 = cc in omega arith) }
  where
    go :
        (text start : Text)
        → length result ≡ min (length before) max_text
        → Writes text start result wrote
        → GivesText (output (length before) text) before before (Err (refusal 16 0))
    go text start room w =
        let over : length start < length text = full_over false text start (sym e ∙ w.answer_is) in
        let same : length result ≡ length start = rw w.buffer_is (overlay_length text start) in
        let large : min (length before) max_text < length text = rw (← room) (omega arith) in
        refused 16 (gives text) refl (lt-ltb (min (length before) max_text) (length text) large)

-- a text that is given
pub given :
    {text before after : Text} {n : ℕ} → n ≡ length text → after ≡ text ++ drop (length text) before → GivesText (gives text) before after (Ok n)
unfolding answer_for buffer_after
given n_is after_is = record { answer_is = ap Ok n_is; buffer_is = after_is }

-- one that had room is given: the bytes that were counted, lent as the prover says it, are the text
pub finish_count :
    {result before after : Text} {wrote copied : Wrote} {n : ℕ}
    → wrote ≡ Some n
    → Writes (take (n - 0) result) before after copied
    → Finishes wrote result before after (Ok n)
unfolding output
finish_count {result} {before} {after} {wrote} {copied} {n} e copy =
    record { finishes = go; told = λ m is. let same : n ≡ m = cc in e ∙ ap Some same }
  where
    go :
        (text start : Text)
        → length result ≡ min (length before) max_text
        → Writes text start result wrote
        → GivesText (output (length before) text) before after (Ok n)
    go text start room w =
        let (n_is, fits) = count_fits text start n (sym e ∙ w.answer_is) in
        let same : length result ≡ length start = rw w.buffer_is (overlay_length text start) in
        let small : length text ≤ min (length before) max_text = rw (← room) (omega arith) in
        let lent : length text ≤ length before = omega (arith, min-le_left (length before) max_text) in
        let front : take (n - 0) result ≡ text = rw (sub-zero n, n_is, w.buffer_is, overlay_fits text start fits) (take-append_seam text (drop (length text) start)) in
        passed
        16
        (le-ltb (min (length before) max_text) (length text) small)
        (given n_is (copy.buffer_is ∙ ap (λ t. overlay t before) front ∙ overlay_fits text before lent))

-- what the root makes in a slice as long as a result may be is given
pub made_given :
    {bytes start result before after : Text} {make : Lens → Text} {wrote : Wrote} {answer : Answer}
    → length result ≡ min (length before) max_text
    → Finishes wrote result before after answer
    → Makes bytes make start result wrote
    → GivesMade bytes make before after answer
made_given {start} room finish made = record { gives_made = λ l e. finish.finishes _ start room (made.makes l e) }

-- what it counts lies within the slice
pub made_counted : {bytes before after : Text} {make : Lens → Text} {wrote : Wrote} → IsAccepted bytes → Makes bytes make before after wrote → Counted wrote after
made_counted a made = counted (made.makes a.root a.gives_root)

-- ---- A text that is there already

-- one that may be so long is given,
pub give_short :
    {text before after : Text} {wrote : Wrote}
    → length text ≤ min (length before) max_text
    → Writes text before after wrote
    → GivesText (output (length before) text) before after (Ok (length text))
unfolding output
give_short {text} {before} short copy =
    let lent : length text ≤ length before = omega (arith, min-le_left (length before) max_text) in
    passed 16 (le-ltb (min (length before) max_text) (length text) short) (given refl (copy.buffer_is ∙ overlay_fits text before lent))

-- and a longer one refused
pub give_long :
    (text : Text) {before : Text} {answer : Answer}
    → min (length before) max_text < length text
    → answer ≡ Err (refusal 16 0)
    → GivesText (output (length before) text) before before answer
unfolding output
give_long text {before} long is = refused 16 (gives text) is (lt-ltb (min (length before) max_text) (length text) long)

-- ---- The counts of a put

-- they stand beside the length of a result,
pub tallied :
    (answer : Answer) (n : Counts) (r : PutAnswer) (made : ℕ → Sourced → Type 0)
    → MatchResult answer (λ length. IsOkAnd r (made length)) (λ e. r ≡ Err e)
    → ((length : ℕ) (x : Sourced) → made length x → x ≡ record { length = length; tally = n })
    → r ≡ with_tally answer n
unfolding with_tally
tallied (Ok length) n (Ok x) made is each = ap Ok (each length x is)
tallied (Ok length) n (Err e) made is each = absurd is
tallied (Err e) n r made is each = is

-- and are left out again
pub left_out :
    (answer : PutAnswer) (r : Answer) (told : Sourced → ℕ → Type 0)
    → MatchResult answer (λ made. IsOkAnd r (told made)) (λ e. r ≡ Err e)
    → ((made : Sourced) (length : ℕ) → told made length → length ≡ made.length)
    → r ≡ untallied answer
unfolding untallied
left_out (Ok made) (Ok length) told is each = ap Ok (each made length is)
left_out (Ok made) (Err e) told is each = absurd is
left_out (Err e) r told is each = is

-- what had no room has no count
pub not_counted : (wrote : Wrote) (r : Refusal) {told : Refusal} → Err told ≡ ok_or wrote r → (wrote ≡ None) × (told ≡ r)
not_counted (Some n) r e = never (cc)
not_counted None r e = (refl, cc)
