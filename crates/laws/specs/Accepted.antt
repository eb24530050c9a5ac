-- When a program is accepted, and what each refusal of it says.
use Rattle.std.specs.Prelude.{◌≡◌, refl, Bool, true, false, not, List, [], ◌∷◌, ◌++◌, ◌⊎◌, ◌↔◌, ◌≢◌, ℕ, zero, suc, ◌-◌, ◌<◌, length, get_or}
use Rattle.std.proofs.Common.{sym, ap, ◌∙◌, subst, subst₂, true≢false, inl, inr, ⊎_elim, not-suc-le-zero, arith}
use Rattle.std.proofs.Math.Option.{Option, none, some, none-ne-some}
use Rattle.std.proofs.Math.Logic.Iff
use Rattle.std.proofs.lemmas.Bool.{not-true, not-false}
use Rattle.semantics.specs.Text.{Text, All, or_else, apply}
use Rattle.semantics.specs.Pattern.{In, matches}
use Rattle.semantics.specs.Ambiguity.{TwoCuts, Overlap, BadRepeat}
use Rattle.semantics.specs.Lens.{Lens, copy, const, key, join, union, repeat, match, Side, source, sheet, language}
use Rattle.semantics.specs.Table.{node_count, sizes_wrong, Node, node_at, nodes, Tree, pattern, lens, broken, Trees, tree_at, lens_at, trees, Line, line, unknown_kind, is_broken, nested_match, nested, over_limit, first_round, root_of, root_line, typing_lines, tree_lines, second_round, lines, first_that_holds}
use Rattle.semantics.specs.Calls.{gives, refuses, root_answer, verdict, program}
use Rattle.laws.specs.Basics.{never, bool_cases, not_both, false_of_not_true, all_append}
use Rattle.laws.specs.Membership.{matches_iff}
use Rattle.laws.specs.Decided.{overlaps_iff, two_cuts_iff, bad_repeat_iff}
use Rattle.laws.specs.WellTyped.{WellTyped, Numbered}
use Rattle.laws.specs.NodeTrees.{Placed, Made, node_made, lens_below, lens_tree, node_length, tree_length, node_is}

-- ---- The typing lines, said on texts

-- Document 01, typing: the rules at this lens alone
unfoldable pub NodeTyped : Lens → Type 0
NodeTyped (copy r) = Unit {0}
NodeTyped (const r w d) = In r d
NodeTyped (key r) = Unit {0}
NodeTyped (join l m) = (side : Side) → ¬ TwoCuts (language side l) (language side m)
NodeTyped (union l m) = ¬ Overlap (language source l) (language source m)
NodeTyped (repeat l) = (side : Side) → ¬ BadRepeat (language side l)
NodeTyped (match n l) = Unit {0}

-- Document 01, refusals 6 to 11: how this lens breaks the rule of that number
unfoldable pub Breaks : ℕ → Lens → Type 0
Breaks number (copy r) = ⊥
Breaks number (const r w d) = (number ≡ 6) × ¬ In r d
Breaks number (key r) = ⊥
Breaks number (join l m) =
    ((number ≡ 7) × TwoCuts (language source l) (language source m)) ⊎ ((number ≡ 8) × TwoCuts (language sheet l) (language sheet m))
Breaks number (union l m) = (number ≡ 9) × Overlap (language source l) (language source m)
Breaks number (repeat l) = ((number ≡ 10) × BadRepeat (language source l)) ⊎ ((number ≡ 11) × BadRepeat (language sheet l))
Breaks number (match n l) = ⊥

-- no line of the list holds
abbrev pub Quiet : List Line → Type 0
Quiet = All (λ l. l.holds ≡ false)

-- a test for P is false if and only if P fails
pub fails_iff : {P : Type 0} (b : Bool) → (b ≡ true) ↔ P → (b ≡ false) ↔ (¬ P)
fails_iff b i = (λ e p. not_both (i.1 p) e, λ n. false_of_not_true b (λ e. n (i.0 e)))

-- and the other test is true if and only if P fails, and false if and only if P holds
not_iff : {P : Type 0} (b : Bool) → (b ≡ true) ↔ P → (not b ≡ true) ↔ (¬ P)
not_iff b i = (λ e. (fails_iff b i).0 (not-true b e), λ n. ap not ((fails_iff b i).1 n))

not_fails_iff : {P : Type 0} (b : Bool) → (b ≡ true) ↔ P → (not b ≡ false) ↔ P
not_fails_iff b i = (λ e. i.0 (not-false b e), λ p. ap not (i.1 p))

-- what holds on both sides, side by side
both_sides : {P Q : Side → Type 0} → ((side : Side) → P side ↔ Q side) → (P source × (P sheet × Unit {0})) ↔ ((side : Side) → Q side)
both_sides {Q} i = (λ p. each ((i source).0 p.0) ((i sheet).0 p.1.0), λ q. ((i source).1 (q source), ((i sheet).1 (q sheet), tt)))
  where
    each : Q source → Q sheet → (side : Side) → Q side
    each x y source = x
    each x y sheet = y

-- a number that is the right one adds nothing, and one that is not leaves the other case
numbered : {A P : Type 0} (n : ℕ) → A ↔ P → A ↔ ((n ≡ n) × P)
numbered n i = (λ a. (refl, i.0 a), λ p. i.1 p.1)

module _ {A P Q : Type 0} {n other : ℕ} (ne : n ≢ other) where
  numbered_left : A ↔ P → A ↔ (((n ≡ n) × P) ⊎ ((n ≡ other) × Q))
  numbered_left i = (λ a. inl (refl, i.0 a), ⊎_elim (λ p. i.1 p.1) (λ q. absurd (ne q.0)))

  numbered_right : A ↔ Q → A ↔ (((n ≡ other) × P) ⊎ ((n ≡ n) × Q))
  numbered_right i = (λ a. inr (refl, i.0 a), ⊎_elim (λ p. absurd (ne p.0)) (λ q. i.1 q.1))

-- the typing lines of a node hold if and only if its lens breaks their rule
pub typing_line_iff : (k : ℕ) (l : Lens) → All (λ x. (x.holds ≡ true) ↔ Breaks x.number l) (typing_lines k l)
unfolding typing_lines line Breaks
typing_line_iff k (copy r) = tt
typing_line_iff k (const r w d) = (numbered 6 (not_iff _ (matches_iff r d)), tt)
typing_line_iff k (key r) = tt
typing_line_iff k (join l m) = (
  numbered_left (omega arith) (two_cuts_iff (language source l) (language source m)),
  (numbered_right (omega arith) (two_cuts_iff (language sheet l) (language sheet m)), tt),
)
typing_line_iff k (union l m) = (numbered 9 (overlaps_iff (language source l) (language source m)), tt)
typing_line_iff k (repeat l) = (
  numbered_left (omega arith) (bad_repeat_iff (language source l)),
  (numbered_right (omega arith) (bad_repeat_iff (language sheet l)), tt),
)
typing_line_iff k (match n l) = tt

-- none of them holds if and only if the rules are kept
typing_quiet : (k : ℕ) (l : Lens) → Quiet (typing_lines k l) ↔ NodeTyped l
unfolding typing_lines line NodeTyped
typing_quiet k (copy r) = (λ q. tt, λ t. tt)
typing_quiet k (const r w d) = let i = not_fails_iff (matches r d) (matches_iff r d) in (λ q. i.0 q.0, λ t. (i.1 t, tt))
typing_quiet k (key r) = (λ q. tt, λ t. tt)
typing_quiet k (join l m) = both_sides (λ side. fails_iff _ (two_cuts_iff (language side l) (language side m)))
typing_quiet k (union l m) = let i = fails_iff _ (overlaps_iff (language source l) (language source m)) in (λ q. i.0 q.0, λ t. (i.1 t, tt))
typing_quiet k (repeat l) = both_sides (λ side. fails_iff _ (bad_repeat_iff (language side l)))
typing_quiet k (match n l) = (λ q. tt, λ t. tt)

-- ---- What an accepted program keeps

-- Document 01, refusals 2 to 5: the rules on a node and its tree
pub record NodeKeeps (n : Node) (t : Tree) : Type 0 where
  pub known_kind : unknown_kind n ≡ false
  pub operands_right : is_broken t ≡ false
  pub not_nested : nested t ≡ false
  pub within_limits : over_limit t ≡ false

-- Document 01, refusals 1 to 5: the sizes are right, each node keeps its rules, and the root is a lens.
pub record TableRight (bytes : Text) : Type 0 where
  pub sizes_right : sizes_wrong bytes ≡ false
  pub each_node : (k : ℕ) → k < node_count bytes → NodeKeeps (node_at bytes k) (tree_at (trees bytes) k)
  pub root_lens : (l : Lens) × (root_of bytes ≡ some l)

-- Document 01: the table is right, and each lens keeps the typing rules.
pub record Keeps (bytes : Text) : Type 0 where
  pub table_right : TableRight bytes
  pub each_lens : (k : ℕ) (l : Lens) → tree_at (trees bytes) k ≡ lens l → NodeTyped l

-- ---- The rounds over the nodes

-- what holds of all elements of two lists
all_append_iff : {A : Type 0} (P : A → Type 0) (xs ys : List A) → All P (xs ++ ys) ↔ (All P xs × All P ys)
all_append_iff {A} P xs ys = (apart xs, λ h. all_append P xs ys h.0 h.1)
  where
    apart : (xs : List A) → All P (xs ++ ys) → All P xs × All P ys
    apart [] h = (tt, h)
    apart (x ∷ xs) h = let r = apart xs h.1 in ((h.0, r.0), r.1)

-- what holds of 0 and of each next number holds of each number
each_number : (P : ℕ → Type 0) → (P zero × ((k : ℕ) → P (suc k))) ↔ ((k : ℕ) → P k)
each_number P = (λ h. each h.0 h.1, λ f. (f zero, λ k. f (suc k)))
  where
    each : P zero → ((k : ℕ) → P (suc k)) → (k : ℕ) → P k
    each z s zero = z
    each z s (suc k) = s k

-- the first round, from any node on
first_quiet :
    (j : ℕ) (ns : List Node) (ts : Trees) (d : Node)
    → length ns ≡ length ts
    → Quiet (first_round j ns ts) ↔ ((k : ℕ) → k < length ts → NodeKeeps (get_or ns k d) (tree_at ts k))
unfolding first_round line tree_at
first_quiet j [] [] d e = (λ q k h. absurd (not-suc-le-zero h), λ f. tt)
first_quiet j [] (t ∷ ts) d e = absurd (omega arith)
first_quiet j (n ∷ ns) [] d e = absurd (omega arith)
first_quiet j (n ∷ ns) (t ∷ ts) d e =
    let later = first_quiet (suc j) ns ts d (omega arith) in
    Iff.trans (
      λ q. (
        λ h. record { known_kind = q.0; operands_right = q.1.0; not_nested = q.1.1.0; within_limits = q.1.1.1.0 },
        λ k h. later.0 q.1.1.1.1 k (omega arith),
      ),
      λ f.
          let n-keeps = f.0 (omega arith) in (
            n-keeps.known_kind,
            (n-keeps.operands_right, (n-keeps.not_nested, (n-keeps.within_limits, later.1 (λ k h. f.1 k (omega arith))))),
          ),
    )
    (each_number (λ k. k < suc (length ts) → NodeKeeps (get_or (n ∷ ns) k d) (tree_at (t ∷ ts) k)))

-- a tree that is a lens keeps the rules
abbrev pub TreeTyped : Tree → Type 0
TreeTyped t = (l : Lens) → t ≡ lens l → NodeTyped l

-- the second round at one tree, and from any node on
pub tree_quiet : (j : ℕ) (t : Tree) → Quiet (tree_lines j t) ↔ TreeTyped t
unfolding tree_lines
tree_quiet j (pattern r) = (λ q l e. never (cc), λ f. tt)
tree_quiet j (lens m) = (λ q l e. let same : m ≡ l = cc in subst NodeTyped same ((typing_quiet j m).0 q), λ f. (typing_quiet j m).1 (f m refl))
tree_quiet j broken = (λ q l e. never (cc), λ f. tt)

second_quiet : (j : ℕ) (ts : Trees) → Quiet (second_round j ts) ↔ ((k : ℕ) → TreeTyped (tree_at ts k))
unfolding second_round tree_at
second_quiet j [] = (λ q k l e. never (cc), λ f. tt)
second_quiet j (t ∷ ts) =
    Iff.trans
    (all_append_iff (λ x. x.holds ≡ false) (tree_lines j t) (second_round (suc j) ts))
    (Iff.trans
    (Iff.and (tree_quiet j t) (second_quiet (suc j) ts))
    (each_number (λ k. TreeTyped (tree_at (t ∷ ts) k))))

-- the two rounds over a program
abbrev pub round_one : Text → List Line
round_one bytes = first_round 0 (nodes bytes) (trees bytes)

abbrev pub round_two : Text → List Line
round_two bytes = second_round 0 (trees bytes)

-- the first round is quiet if and only if each node keeps its rules
nodes_quiet :
    (bytes : Text)
    → Quiet (round_one bytes) ↔ ((k : ℕ) → k < node_count bytes → NodeKeeps (node_at bytes k) (tree_at (trees bytes) k))
nodes_quiet bytes =
    let i = first_quiet 0 (nodes bytes) (trees bytes) (node_at bytes 0) (node_length bytes ∙ sym (tree_length bytes)) in (
      λ q k h. rw (node_is bytes k h) at (i.0 q k (omega (arith, tree_length bytes))),
      λ f. i.1 (λ k h. let b : k < node_count bytes = omega (arith, tree_length bytes) in rw (node_is bytes k b) (f k b)),
    )

-- the line between the rounds
root_quiet : (bytes : Text) → ((root_line bytes).holds ≡ false) ↔ ((l : Lens) × (root_of bytes ≡ some l))
unfolding root_line line or_else apply
root_quiet bytes = go (root_of bytes)
  where
    go : (o : Option Lens) → (or_else true (apply (λ l. false) o) ≡ false) ↔ ((l : Lens) × (o ≡ some l))
    go none = (λ e. absurd (true≢false e), λ r. absurd (none-ne-some r.0 r.1))
    go (some l) = (λ e. (l, refl), λ r. refl)

-- none of the lines before the second round holds if and only if the table is right
pub table_quiet :
    (bytes : Text)
    → ((sizes_wrong bytes ≡ false) × Quiet (round_one bytes) × ((root_line bytes).holds ≡ false)) ↔ TableRight bytes
table_quiet bytes = (
  λ q. record { sizes_right = q.0; each_node = (nodes_quiet bytes).0 q.1; root_lens = (root_quiet bytes).0 q.2 },
  λ t. (t.sizes_right, (nodes_quiet bytes).1 t.each_node, (root_quiet bytes).1 t.root_lens),
)

-- no line holds if and only if the program keeps the rules
pub quiet_iff : (bytes : Text) → Quiet (lines bytes) ↔ Keeps bytes
unfolding lines line
quiet_iff bytes =
    let rounds = all_append_iff (λ l. l.holds ≡ false) (round_one bytes) (root_line bytes ∷ round_two bytes) in (
      λ q.
          let r = rounds.0 q.1 in
          record { table_right = (table_quiet bytes).0 (q.0, r.0, r.1.0); each_lens = (second_quiet 0 (trees bytes)).0 r.1.1 },
      λ c.
          let t = (table_quiet bytes).1 c.table_right in
          (t.0, rounds.1 (t.1, (t.2, (second_quiet 0 (trees bytes)).1 c.each_lens))),
    )

-- ---- The first line that holds

-- a line that holds, where no line before it does
pub record FirstHeld (ls : List Line) (number node : ℕ) : Type 0 where
  pub passed : List Line
  pub held : Line
  pub later : List Line
  pub in_order : ls ≡ passed ++ held ∷ later
  pub none_before : Quiet passed
  pub it_holds : held.holds ≡ true
  pub its_number : held.number ≡ number
  pub its_node : held.node ≡ node

-- this line holds, and has that number and node
abbrev pub Held : Line → ℕ → ℕ → Type 0
Held l number node = (l.holds ≡ true) × (l.number ≡ number) × (l.node ≡ node)

-- the first line that holds is the first of the list, or the first of the others
pub held_cons :
    (l : Line) (ls : List Line) (number node : ℕ) → FirstHeld (l ∷ ls) number node ↔ (Held l number node ⊎ ((l.holds ≡ false) × FirstHeld ls number node))
held_cons l ls number node = (λ h. go h.passed h refl, back)
  where
    go :
        (passed : List Line) (h : FirstHeld (l ∷ ls) number node)
        → h.passed ≡ passed
        → Held l number node ⊎ ((l.holds ≡ false) × FirstHeld ls number node)
    go [] h e =
        let order : l ∷ ls ≡ h.held ∷ h.later = h.in_order ∙ ap (λ xs. xs ++ h.held ∷ h.later) e in
        let same : l ≡ h.held = cc in
        inl (ap (λ x. x.holds) same ∙ h.it_holds, ap (λ x. x.number) same ∙ h.its_number, ap (λ x. x.node) same ∙ h.its_node)
    go (x ∷ xs) h e =
        let order : l ∷ ls ≡ x ∷ (xs ++ h.held ∷ h.later) = h.in_order ∙ ap (λ ys. ys ++ h.held ∷ h.later) e in
        let quiet : Quiet (x ∷ xs) = subst Quiet e h.none_before in
        let same : l ≡ x = cc in
        inr (
          ap (λ y. y.holds) same ∙ quiet.0,
          record {
            passed = xs;
            held = h.held;
            later = h.later;
            in_order = cc;
            none_before = quiet.1;
            it_holds = h.it_holds;
            its_number = h.its_number;
            its_node = h.its_node;
          },
        )

    back : Held l number node ⊎ ((l.holds ≡ false) × FirstHeld ls number node) → FirstHeld (l ∷ ls) number node
    back (inl (e, m, k)) =
        record { passed = []; held = l; later = ls; in_order = refl; none_before = tt; it_holds = e; its_number = m; its_node = k }
    back (inr (e, h)) =
        record {
          passed = l ∷ h.passed;
          held = h.held;
          later = h.later;
          in_order = ap (λ r. l ∷ r) h.in_order;
          none_before = (e, h.none_before);
          it_holds = h.it_holds;
          its_number = h.its_number;
          its_node = h.its_node;
        }

-- in an empty list there is none
pub held_nil : (number node : ℕ) → FirstHeld [] number node → ⊥
held_nil number node h = go h.passed h.in_order
  where
    go : (passed : List Line) → [] ≡ passed ++ h.held ∷ h.later → ⊥
    go [] e = never (cc)
    go (x ∷ xs) e = never (cc)

-- in two lists it is the first of one, or no line of that one holds and it is the first of the other
pub held_append :
    (ls ms : List Line) (number node : ℕ) → FirstHeld (ls ++ ms) number node ↔ (FirstHeld ls number node ⊎ (Quiet ls × FirstHeld ms number node))
held_append [] ms number node = (λ h. inr (tt, h), ⊎_elim (λ h. absurd (held_nil number node h)) (λ h. h.1))
held_append (l ∷ ls) ms number node = (
  λ h. to (held_append ls ms number node).0 ((held_cons l (ls ++ ms) number node).0 h),
  ⊎_elim
      (λ h. from (held_append ls ms number node).1 ((held_cons l ls number node).0 h))
      (λ h. (held_cons l (ls ++ ms) number node).1 (inr (h.0.0, (held_append ls ms number node).1 (inr (h.0.1, h.1))))),
)
  where
    to :
        (FirstHeld (ls ++ ms) number node → FirstHeld ls number node ⊎ (Quiet ls × FirstHeld ms number node))
        → Held l number node ⊎ ((l.holds ≡ false) × FirstHeld (ls ++ ms) number node)
        → FirstHeld (l ∷ ls) number node ⊎ (Quiet (l ∷ ls) × FirstHeld ms number node)
    to rec (inl h) = inl ((held_cons l ls number node).1 (inl h))
    to rec (inr (e, h)) = ⊎_elim (λ x. inl ((held_cons l ls number node).1 (inr (e, x)))) (λ x. inr ((e, x.0), x.1)) (rec h)

    from :
        (FirstHeld ls number node ⊎ (Quiet ls × FirstHeld ms number node) → FirstHeld (ls ++ ms) number node)
        → Held l number node ⊎ ((l.holds ≡ false) × FirstHeld ls number node)
        → FirstHeld (l ∷ ls ++ ms) number node
    from rec (inl h) = (held_cons l (ls ++ ms) number node).1 (inl h)
    from rec (inr (e, h)) = (held_cons l (ls ++ ms) number node).1 (inr (e, rec (inl h)))

-- what is true of each line's number and node is true of its own
pub held_all :
    (P : ℕ → ℕ → Type 0) (ls : List Line) (number node : ℕ) → All (λ l. P l.number l.node) ls → FirstHeld ls number node → P number node
held_all P ls number node all h =
    let own = (all_append_iff (λ l. P l.number l.node) h.passed (h.held ∷ h.later)).0 (subst (All (λ l. P l.number l.node)) h.in_order all) in
    subst₂ P h.its_number h.its_node own.1.0

-- no line holds, or there is a first that does
quiet_or_held : (ls : List Line) → Quiet ls ⊎ ((x : Line) × FirstHeld ls x.number x.node)
quiet_or_held [] = inl tt
quiet_or_held (l ∷ ls) = go (bool_cases l.holds) (quiet_or_held ls)
  where
    go :
        (l.holds ≡ true) ⊎ (l.holds ≡ false)
        → Quiet ls ⊎ ((x : Line) × FirstHeld ls x.number x.node)
        → Quiet (l ∷ ls) ⊎ ((x : Line) × FirstHeld (l ∷ ls) x.number x.node)
    go (inl e) rec = inr (l, (held_cons l ls _ _).1 (inl (e, refl, refl)))
    go (inr e) (inl q) = inl (e, q)
    go (inr e) (inr (x, h)) = inr (x, (held_cons l ls _ _).1 (inr (e, h)))

-- what the search for a line finds in the two cases
none_found : (ls : List Line) → Quiet ls → first_that_holds ls ≡ none
unfolding first_that_holds
none_found [] q = refl
none_found (l ∷ ls) q = rw q.0 (none_found ls q.1)

held_found : (passed : List Line) (x : Line) (later : List Line) → Quiet passed → x.holds ≡ true → first_that_holds (passed ++ x ∷ later) ≡ some x
unfolding first_that_holds
held_found [] x later q e = rw e refl
held_found (l ∷ passed) x later q e = rw q.0 (held_found passed x later q.1 e)

-- and what the answer is in each
held_refuses : (bytes : Text) (number node : ℕ) → FirstHeld (lines bytes) number node → program bytes ≡ refuses number node
unfolding program verdict
held_refuses bytes number node h =
    let found : first_that_holds (lines bytes) ≡ some h.held = rw h.in_order (held_found h.passed h.held h.later h.none_before h.it_holds) in
    rw (found, h.its_number, h.its_node) refl

quiet_gives : (bytes : Text) (l : Lens) → Quiet (lines bytes) → root_of bytes ≡ some l → program bytes ≡ gives l
unfolding program verdict root_answer
quiet_gives bytes l q e = rw (none_found (lines bytes) q, e) refl

-- where no line holds there is a root, since that is one of the lines
quiet_root : (bytes : Text) → Quiet (lines bytes) → (l : Lens) × (root_of bytes ≡ some l) × (program bytes ≡ gives l)
quiet_root bytes q = let r = ((quiet_iff bytes).0 q).table_right.root_lens in (r.0, r.1, quiet_gives bytes r.0 q r.1)

-- ---- When a program is accepted or refused

-- a refusal is given if and only if its line holds at that node and no line before it does
pub refuses_iff : (bytes : Text) (number node : ℕ) → (program bytes ≡ refuses number node) ↔ FirstHeld (lines bytes) number node
refuses_iff bytes number node = (λ e. go e (quiet_or_held (lines bytes)), held_refuses bytes number node)
  where
    go :
        program bytes ≡ refuses number node
        → Quiet (lines bytes) ⊎ ((x : Line) × FirstHeld (lines bytes) x.number x.node)
        → FirstHeld (lines bytes) number node
    go e (inl q) = let answer = (quiet_root bytes q).2 in never (cc)
    go e (inr (x, h)) =
        let answer = held_refuses bytes x.number x.node h in
        let same_number : x.number ≡ number = cc in
        let same_node : x.node ≡ node = cc in
        subst₂ (FirstHeld (lines bytes)) same_number same_node h

-- a program is accepted if and only if no line holds
pub gives_iff : (bytes : Text) (l : Lens) → (program bytes ≡ gives l) ↔ (Quiet (lines bytes) × (root_of bytes ≡ some l))
gives_iff bytes l = (λ e. go e (quiet_or_held (lines bytes)), λ h. quiet_gives bytes l h.0 h.1)
  where
    go :
        program bytes ≡ gives l
        → Quiet (lines bytes) ⊎ ((x : Line) × FirstHeld (lines bytes) x.number x.node)
        → Quiet (lines bytes) × (root_of bytes ≡ some l)
    go e (inl q) =
        let r = quiet_root bytes q in
        let root : root_of bytes ≡ some r.0 = r.1 in
        let answer : program bytes ≡ gives r.0 = r.2 in
        (q, cc)
    go e (inr (x, h)) = let answer = held_refuses bytes x.number x.node h in never (cc)

-- a program is accepted if and only if it keeps the rules of document 01
pub accepted_iff : (bytes : Text) → ((l : Lens) × (program bytes ≡ gives l)) ↔ Keeps bytes
accepted_iff bytes = (
  λ a. (quiet_iff bytes).0 ((gives_iff bytes a.0).0 a.1).0,
  λ c. let r = c.table_right.root_lens in (r.0, quiet_gives bytes r.0 ((quiet_iff bytes).1 c) r.1),
)

-- ---- The rules at every lens below the root

-- a rule and what two children keep, sorted into both parts
two_down : {R S T M N : Type 0} → R → S × M → T × N → (R × S × T) × (M × N)
two_down r x y = ((r, x.0, y.0), (x.1, y.1))

-- where each node's lens keeps its own rules, each keeps them all the way down
typed_down :
    (ts : Trees)
    → ((l : Lens) → Placed ts l → NodeTyped l × (nested_match l ≡ false) × Made ts l)
    → (l : Lens) → Placed ts l → WellTyped l × Numbered ts l
unfolding NodeTyped nested_match WellTyped Numbered
typed_down ts keeps (copy r) p = (tt, tt)
typed_down ts keeps (const r w d) p = ((keeps (const r w d) p).0, tt)
typed_down ts keeps (key r) p = (tt, tt)
typed_down ts keeps (join l m) p =
    let o = keeps (join l m) p in
    two_down o.0 (typed_down ts keeps l o.2.0) (typed_down ts keeps m o.2.1)
typed_down ts keeps (union l m) p =
    let o = keeps (union l m) p in
    two_down o.0 (typed_down ts keeps l o.2.0) (typed_down ts keeps m o.2.1)
typed_down ts keeps (repeat l) p =
    let o = keeps (repeat l) p in
    let x = typed_down ts keeps l o.2 in
    ((o.0, x.0), x.1)
typed_down ts keeps (match n l) p =
    let o = keeps (match n l) p in
    let x = typed_down ts keeps l (record { node = n; at_node = o.2 }) in
    ((o.1, x.0), (o.2, x.1))

-- each lens of an accepted program
pub lens_typed : (bytes : Text) → Keeps bytes → (k : ℕ) (l : Lens) → lens_at (trees bytes) k ≡ some l → WellTyped l × Numbered (trees bytes) l
unfolding nested
lens_typed bytes c k l e = typed_down (trees bytes) own l (record { node = k; at_node = e })
  where
    own : (m : Lens) → Placed (trees bytes) m → NodeTyped m × (nested_match m ≡ false) × Made (trees bytes) m
    own m p =
        let t = lens_tree (trees bytes) p.node m p.at_node in
        let b = lens_below (trees bytes) p.node m p.at_node in
        let n = c.table_right.each_node p.node (omega (arith, tree_length bytes)) in
        (c.each_lens p.node m t, rw t at n.not_nested, node_made bytes p.node m t)

-- an accepted program keeps the typing rules at every node
pub accepted : (bytes : Text) (l : Lens) → program bytes ≡ gives l → WellTyped l × Numbered (trees bytes) l
unfolding root_of
accepted bytes l e =
    let g = (gives_iff bytes l).0 e in
    lens_typed bytes ((quiet_iff bytes).0 g.0) (node_count bytes - 1) l g.1
