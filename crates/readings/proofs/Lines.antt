-- The line that `lenscheck` prints: what it says of an accepted program and of a refusal, and that it fits 64 bytes.
use mathlib.Core.Path.{◌≡◌, refl, sym, ap, ◌∙◌}
use mathlib.Core.Bool.{Bool, true, false, ◌||◌, true≢false}
use mathlib.Core.List.{◌++◌}
use Prim.Native.Nat.{ℕ, ◌-◌, ◌/◌, ◌≤◌, ◌<◌, min}
use native.Mathlib.Omega.{arith}
use lib.Dec.{ltb}
use lib.ListN.{length, drop, length-append}
use borrow.Author.Tests.{ltb-true, ltb-false, le-ltb}
use Rattle.std.specs.Prelude.{Ok, Err}
use Rattle.table.specs.declared.Refusal.{Refusal}
use Rattle.table.specs.Prepared.{refusal}
use Rattle.semantics.specs.Text.{Text}
use Rattle.semantics.specs.Lens.{Lens, source, sheet}
use Rattle.semantics.specs.Table.{max_size, max_positions, node_count, lens, tree_at, trees, tree_size, tree_positions, over_limit}
use Rattle.semantics.specs.Calls.{gives, refuses, program, with_program, max_text, output, refuse_if, buffer_after, decimal, field, program_line, lenscheck_line}
use Rattle.semantics.specs.Calls.{Answer as Outcome}
use Rattle.laws.specs.Accepted.{accepted_iff}
use Rattle.table.specs.Rules.{NodeRead}
use Rattle.table.specs.declared.Node.{Node as NodeOf}
use Rattle.answers.specs.Outcomes.{Answer, answer_for, GivesText}
use Rattle.answers.specs.Answers.{IsAccepted}
use Rattle.answers.proofs.Verdicts.{accepted_sizes, root_tree}
use Rattle.lines.specs.Line.{accepted_line, refused_line}
use Rattle.lines.proofs.Texts.{decimal_one, decimal_two, decimal_more}
use Rattle.readings.specs.Line.{line_call}

-- ---- The root of an accepted program

-- none of two holds
neither : (a b : Bool) → (a || b) ≡ false → (a ≡ false) × (b ≡ false)
neither true b e = absurd (let z : ◌≡◌ {A = Bool} true false = e in true≢false z)
neither false b e = (refl, e)

-- it has at most 128 positions a side
root_positions : {bytes : Text} (a : IsAccepted bytes) → (tree_positions source (lens a.root) ≤ 128) × (tree_positions sheet (lens a.root) ≤ 128)
unfolding over_limit
root_positions {bytes} a =
    let right = accepted_sizes a in
    let keeps = (((accepted_iff bytes).0 (a.root, a.gives_root)).table_right.each_node (node_count bytes - 1) (omega arith)).within_limits in
    let keeps : over_limit (lens a.root) ≡ false = rw (root_tree bytes a) at keeps in
    let t = lens a.root in
    let (others, sheets) = neither (ltb max_size (tree_size t) || ltb max_positions (tree_positions source t)) (ltb max_positions (tree_positions sheet t)) keeps in
    let (size, sources) = neither (ltb max_size (tree_size t)) (ltb max_positions (tree_positions source t)) others in
    (ltb-false max_positions (tree_positions source t) sources, ltb-false max_positions (tree_positions sheet t) sheets)

-- ---- The line that `lenscheck` prints

pub refused_line_lem : (bytes : Text) (number node : ℕ) → program bytes ≡ refuses number node → refused_line number node ≡ lenscheck_line bytes
unfolding lenscheck_line program_line refused_line
refused_line_lem bytes number node e = rw e refl

-- What is read of the last node makes the line of an accepted program, and three digits are enough for each of its numbers.
pub record LineOf (bytes : Text) (count sources sheets : ℕ) : Type 0 where
  pub line_is : accepted_line count sources sheets ≡ lenscheck_line bytes
  pub count_short : count < 1000
  pub sources_short : sources < 1000
  pub sheets_short : sheets < 1000

accepted_line_lem : {bytes : Text} (a : IsAccepted bytes) → LineOf bytes (node_count bytes) (tree_positions source (lens a.root)) (tree_positions sheet (lens a.root))
unfolding lenscheck_line program_line accepted_line
accepted_line_lem {bytes} a =
    let right = accepted_sizes a in
    let (sources, sheets) = root_positions a in
    record { line_is = rw a.gives_root refl; count_short = omega arith; sources_short = omega arith; sheets_short = omega arith }

pub root_line_lem :
    {bytes : Text} {count : ℕ} {node : NodeOf}
    → IsAccepted bytes
    → count ≡ node_count bytes
    → NodeRead bytes (count - 1) node
    → LineOf bytes count node.source node.sheet
root_line_lem {bytes} {count} {node} a e n =
    let root : tree_at (trees bytes) (count - 1) ≡ lens a.root = rw e (root_tree bytes a) in
    let sources : node.source ≡ tree_positions source (lens a.root) = rw root at n.source_is in
    let sheets : node.sheet ≡ tree_positions sheet (lens a.root) = rw root at n.sheet_is in
    rw (e, sources, sheets) (accepted_line_lem a)

-- ---- The line fits 64 bytes

decimal_short : (n : ℕ) → n < 1000 → length (decimal n) ≤ 3
decimal_short n h = go (ltb n 10) (ltb n 100) refl refl
  where
    go : (one two : Bool) → ltb n 10 ≡ one → ltb n 100 ≡ two → length (decimal n) ≤ 3
    go true two e f = rw (decimal_one n (ltb-true n 10 e)) (omega arith)
    go false true e f = rw (decimal_two n (ltb-false n 10 e) (ltb-true n 100 f)) (omega arith)
    go false false e f =
        let many = ltb-false n 100 f in
        let head = decimal_two (n / 10) (omega arith) (omega arith) in
        rw (decimal_more n (omega arith) h, head) (omega arith)

field_short : (n : ℕ) → n < 1000 → length (field n) ≤ 4
unfolding field
field_short n h = omega (arith, decimal_short n h)

line_short : {bytes : Text} → IsAccepted bytes → length (lenscheck_line bytes) ≤ 64
unfolding accepted_line
line_short a =
    let l = accepted_line_lem a in
    rw (← l.line_is) (simp length-append (omega (arith, field_short _ l.count_short, field_short _ l.sources_short, field_short _ l.sheets_short)))

-- ---- The line as the text of a call, in a buffer of 64 bytes or more

module _ (bytes : Text) {before after : Text} {answer : Answer} (room : 64 ≤ length before) (given : GivesText (line_call bytes (length before)) before after answer) where
  -- an accepted program has its line given,
  accepted_given : IsAccepted bytes → GivesText (gives (lenscheck_line bytes)) before after answer
  unfolding line_call with_program output refuse_if
  accepted_given a =
      let short = line_short a in
      let fits : ltb (min (length before) max_text) (length (lenscheck_line bytes)) ≡ false = le-ltb (min (length before) max_text) _ (omega arith) in
      rw (a.gives_root, fits) at given

  -- and another is refused
  refused_given : {number node : ℕ} → program bytes ≡ refuses number node → (answer ≡ Err (refusal number node)) × (after ≡ before)
  unfolding line_call with_program answer_for buffer_after
  refused_given e = let g = rw e at given in (g.answer_is, g.buffer_is)

  -- so a result is the line,
  pub line_result :
      {n : ℕ}
      → answer ≡ Ok n
      → (after ≡ lenscheck_line bytes ++ drop (length (lenscheck_line bytes)) before) × ((n ≡ length (lenscheck_line bytes)) × (n ≤ 64))
  unfolding answer_for buffer_after
  line_result {n} is = go (program bytes) refl
    where
      go : (o : Outcome Lens) → program bytes ≡ o → (after ≡ lenscheck_line bytes ++ drop (length (lenscheck_line bytes)) before) × ((n ≡ length (lenscheck_line bytes)) × (n ≤ 64))
      go (gives l) e =
          let a : IsAccepted bytes = record { root = l; gives_root = e } in
          let g = accepted_given a in
          let same : ◌≡◌ {A = Answer} (Ok n) (Ok (length (lenscheck_line bytes))) = sym is ∙ g.answer_is in
          let n_is : n ≡ length (lenscheck_line bytes) = cc in
          (g.buffer_is, (n_is, omega (arith, line_short a)))
      go (refuses number node) e = let other = (refused_given e).0 in absurd (let z : ◌≡◌ {A = ℕ} 0 1 = cc in omega arith)

  -- and a refusal the program's
  pub line_refusal : {r : Refusal} → answer ≡ Err r → (program bytes ≡ refuses r.number r.node) × (after ≡ before)
  unfolding answer_for
  line_refusal {r} is = go (program bytes) refl
    where
      go : (o : Outcome Lens) → program bytes ≡ o → (program bytes ≡ refuses r.number r.node) × (after ≡ before)
      go (gives l) e =
          let other = (accepted_given (record { root = l; gives_root = e })).answer_is in
          absurd (let z : ◌≡◌ {A = ℕ} 0 1 = cc in omega arith)
      go (refuses n k) e =
          let (same, kept) = refused_given e in
          let refused : ◌≡◌ {A = Refusal} (refusal n k) r = cc in
          (e ∙ ap (λ (q : Refusal). refuses q.number q.node) refused, kept)
