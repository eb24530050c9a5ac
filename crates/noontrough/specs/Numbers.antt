-- What the numbers tell: number 0 says that there is a result, clash's outcome says which answer it is, and different answers have different numbers.
use Rattle.std.specs.Prelude.{◌≡◌, refl, ◌↔◌, ℕ, length, Some, None, Ok, Err}
use Rattle.std.proofs.Common.{ap, arith}
use Rattle.semantics.specs.Text.{Text}
use Rattle.semantics.specs.Calls.{gives, refuses, check_call, get_call, put_call, create_call}
use Rattle.semantics.specs.Calls.{Answer as Outcome}
use Rattle.semantics.specs.Tally.{Tally, put_tally}
use Rattle.clash.specs.Clash.{no_clash, clash, refused, clash_call}
use Rattle.clash.specs.Clash as Clashes
use Rattle.sections.specs.Afm.{import_call, export_call}
use Rattle.sections.proofs.RoundTrips.{import_named, export_named}
use Rattle.laws.specs.Basics.{never}
use Rattle.laws.specs.Refusals.{Named, check_named, get_named, put_named, create_named}
use Rattle.table.specs.declared.Refusal.{Refusal}
use Rattle.table.specs.Prepared.{refusal}
use Rattle.answers.specs.declared.Clash.{Clash}
use Rattle.answers.specs.Outcomes.{ClashAnswer, clash_found, answer_for, put_answer_for, clash_answer_for}
use Rattle.noontrough.specs.declared.Numbers.{Numbers}
use Rattle.noontrough.specs.declared.PutNumbers.{PutNumbers}
use Rattle.noontrough.specs.declared.ClashNumbers.{ClashNumbers}
use Rattle.noontrough.specs.Exports.{numbers_of, put_numbers_of, clash_numbers_of, ExportsText, ExportsSource, ExportsClash}

-- ---- Number 0

-- whatever is counted as a result's length
zero_iff :
    {A : Type 0} (len : A → ℕ) (outcome : Outcome A) (numbers : Numbers)
    → Named outcome
    → numbers ≡ numbers_of (answer_for len outcome)
    → (numbers.number ≡ 0) ↔ ((x : A) × (outcome ≡ gives x))
unfolding answer_for
zero_iff len (gives x) numbers named e = (λ z. (x, refl), λ r. ap (λ (n : Numbers). n.number) e)
zero_iff len (refuses number node) numbers named e =
    let some = named.named number node refl in
    let is : numbers.number ≡ number = ap (λ (n : Numbers). n.number) e in
    (λ z. absurd (omega arith), λ r. let wrong = r.1 in never (cc))

-- a call that gives a text
pub result_iff :
    (outcome : Outcome Text) (before after : Text) (numbers : Numbers)
    → Named outcome
    → ExportsText outcome before after numbers
    → (numbers.number ≡ 0) ↔ ((t : Text) × (outcome ≡ gives t))
result_iff outcome before after numbers named exported = zero_iff length outcome numbers named exported.numbers_are

module _ (table before after : Text) (numbers : Numbers) where
  pub get_result_iff :
      (source : Text)
      → ExportsText (get_call table source (length before)) before after numbers
      → (numbers.number ≡ 0) ↔ ((t : Text) × (get_call table source (length before) ≡ gives t))
  get_result_iff source = result_iff (get_call table source (length before)) before after numbers (get_named table source (length before))

  pub create_result_iff :
      (sheet : Text)
      → ExportsText (create_call table sheet (length before)) before after numbers
      → (numbers.number ≡ 0) ↔ ((t : Text) × (create_call table sheet (length before) ≡ gives t))
  create_result_iff sheet = result_iff (create_call table sheet (length before)) before after numbers (create_named table sheet (length before))

-- the two calls of Adobe's metrics
pub import_result_iff :
    (section before after : Text) (numbers : Numbers)
    → ExportsText (import_call section (length before)) before after numbers
    → (numbers.number ≡ 0) ↔ ((t : Text) × (import_call section (length before) ≡ gives t))
import_result_iff section before after numbers =
    result_iff (import_call section (length before)) before after numbers (import_named section (length before))

pub export_result_iff :
    (sheet before after : Text) (numbers : Numbers)
    → ExportsText (export_call sheet (length before)) before after numbers
    → (numbers.number ≡ 0) ↔ ((t : Text) × (export_call sheet (length before) ≡ gives t))
export_result_iff sheet before after numbers =
    result_iff (export_call sheet (length before)) before after numbers (export_named sheet (length before))

-- put, whose numbers are six
pub source_result_iff :
    (outcome : Outcome Text) (n : Tally) (before after : Text) (numbers : PutNumbers)
    → Named outcome
    → ExportsSource outcome n before after numbers
    → (numbers.number ≡ 0) ↔ ((t : Text) × (outcome ≡ gives t))
unfolding put_answer_for
source_result_iff (gives t) n before after numbers named exported = (λ z. (t, refl), λ r. ap (λ (m : PutNumbers). m.number) exported.numbers_are)
source_result_iff (refuses number node) n before after numbers named exported =
    let some = named.named number node refl in
    let is : numbers.number ≡ number = ap (λ (m : PutNumbers). m.number) exported.numbers_are in
    (λ z. absurd (omega arith), λ r. let wrong = r.1 in never (cc))

pub put_result_iff :
    (table sheet source before after : Text) (numbers : PutNumbers)
    → ExportsSource (put_call table sheet source (length before)) (put_tally table sheet source) before after numbers
    → (numbers.number ≡ 0) ↔ ((t : Text) × (put_call table sheet source (length before) ≡ gives t))
put_result_iff table sheet source before after numbers =
    source_result_iff
    (put_call table sheet source (length before))
    (put_tally table sheet source)
    before
    after
    numbers
    (put_named table sheet source (length before))

-- Check
pub check_result_iff :
    (table : Text) (numbers : Numbers)
    → numbers ≡ numbers_of (answer_for (λ (n : ℕ). n) (check_call table))
    → (numbers.number ≡ 0) ↔ ((n : ℕ) × (check_call table ≡ gives n))
check_result_iff table numbers = zero_iff (λ (n : ℕ). n) (check_call table) numbers (check_named table)

-- ---- Clash's outcome

-- the number of each outcome
abbrev kind_of : Clashes.Outcome → ℕ
kind_of no_clash = 0
kind_of (clash number node t ends) = 1
kind_of (refused number node) = 2

-- the numbers begin with it
kind_told :
    (outcome : Clashes.Outcome) (before after : Text) (numbers : ClashNumbers)
    → ExportsClash outcome before after numbers
    → numbers.outcome ≡ kind_of outcome
unfolding clash_answer_for
kind_told no_clash before after numbers exported = ap (λ (m : ClashNumbers). m.outcome) exported.numbers_are
kind_told (clash number node t ends) before after numbers exported = ap (λ (m : ClashNumbers). m.outcome) exported.numbers_are
kind_told (refused number node) before after numbers exported = ap (λ (m : ClashNumbers). m.outcome) exported.numbers_are

-- 0 is no clash's
kind_0 : (outcome : Clashes.Outcome) → (kind_of outcome ≡ 0) ↔ (outcome ≡ no_clash)
kind_0 no_clash = (λ z. refl, λ r. refl)
kind_0 (clash number node t ends) = (λ z. absurd (omega arith), λ r. never (cc))
kind_0 (refused number node) = (λ z. absurd (omega arith), λ r. never (cc))

-- 1 a clash's
kind_1 :
    (outcome : Clashes.Outcome)
    → (kind_of outcome ≡ 1) ↔ ((number : ℕ) × (node : ℕ) × (t : Text) × (ends : ℕ × ℕ) × (outcome ≡ clash number node t ends))
kind_1 no_clash = (λ z. absurd (omega arith), λ r. never (let wrong = r.4 in cc))
kind_1 (clash number node t ends) = (λ z. (number, node, t, ends, refl), λ r. refl)
kind_1 (refused number node) = (λ z. absurd (omega arith), λ r. never (let wrong = r.4 in cc))

-- and 2 a refusal's
kind_2 : (outcome : Clashes.Outcome) → (kind_of outcome ≡ 2) ↔ ((number : ℕ) × (node : ℕ) × (outcome ≡ refused number node))
kind_2 no_clash = (λ z. absurd (omega arith), λ r. never (let wrong = r.2 in cc))
kind_2 (clash number node t ends) = (λ z. absurd (omega arith), λ r. never (let wrong = r.2 in cc))
kind_2 (refused number node) = (λ z. (number, node, refl), λ r. refl)

module _
    (table before after : Text)
    (numbers : ClashNumbers)
    (exported : ExportsClash (clash_call table (length before)) before after numbers) where
  -- so for the call
  told : numbers.outcome ≡ kind_of (clash_call table (length before))
  told = kind_told (clash_call table (length before)) before after numbers exported

  -- outcome 0: no clash
  pub no_clash_iff : (numbers.outcome ≡ 0) ↔ (clash_call table (length before) ≡ no_clash)
  no_clash_iff = rw told (kind_0 (clash_call table (length before)))

  -- outcome 1: a clash
  pub clash_iff :
      (numbers.outcome ≡ 1)
      ↔ ((number : ℕ) × (node : ℕ) × (t : Text) × (ends : ℕ × ℕ) × (clash_call table (length before) ≡ clash number node t ends))
  clash_iff = rw told (kind_1 (clash_call table (length before)))

  -- outcome 2: a refusal
  pub refusal_iff : (numbers.outcome ≡ 2) ↔ ((number : ℕ) × (node : ℕ) × (clash_call table (length before) ≡ refused number node))
  refusal_iff = rw told (kind_2 (clash_call table (length before)))

-- ---- Different answers

pub numbers_differ :
    {A : Type 0} (len : A → ℕ) (outcome outcome' : Outcome A)
    → Named outcome
    → Named outcome'
    → numbers_of (answer_for len outcome) ≡ numbers_of (answer_for len outcome')
    → answer_for len outcome ≡ answer_for len outcome'
unfolding answer_for
numbers_differ len (gives x) (gives y) named named' e = let same : len x ≡ len y = ap (λ (n : Numbers). n.length) e in ap Ok same
numbers_differ len (gives x) (refuses number node) named named' e =
    let some = named'.named number node refl in
    let is : 0 ≡ number = ap (λ (n : Numbers). n.number) e in
    absurd (omega arith)
numbers_differ len (refuses number node) (gives y) named named' e =
    let some = named.named number node refl in
    let is : number ≡ 0 = ap (λ (n : Numbers). n.number) e in
    absurd (omega arith)
numbers_differ len (refuses number node) (refuses number' node') named named' e =
    let numbers : number ≡ number' = ap (λ (n : Numbers). n.number) e in
    let nodes : node ≡ node' = ap (λ (n : Numbers). n.node) e in
    cc

pub put_numbers_differ :
    (outcome outcome' : Outcome Text) (n n' : Tally)
    → Named outcome
    → Named outcome'
    → put_numbers_of (put_answer_for outcome n) ≡ put_numbers_of (put_answer_for outcome' n')
    → put_answer_for outcome n ≡ put_answer_for outcome' n'
unfolding put_answer_for
put_numbers_differ (gives t) (gives u) n n' named named' e =
    let lengths : length t ≡ length u = ap (λ (m : PutNumbers). m.length) e in
    let kept : n.kept ≡ n'.kept = ap (λ (m : PutNumbers). m.kept) e in
    let made : n.made ≡ n'.made = ap (λ (m : PutNumbers). m.made) e in
    let dropped : n.dropped ≡ n'.dropped = ap (λ (m : PutNumbers). m.dropped) e in
    cc
put_numbers_differ (gives t) (refuses number node) n n' named named' e =
    let some = named'.named number node refl in
    let is : 0 ≡ number = ap (λ (m : PutNumbers). m.number) e in
    absurd (omega arith)
put_numbers_differ (refuses number node) (gives u) n n' named named' e =
    let some = named.named number node refl in
    let is : number ≡ 0 = ap (λ (m : PutNumbers). m.number) e in
    absurd (omega arith)
put_numbers_differ (refuses number node) (refuses number' node') n n' named named' e =
    let numbers : number ≡ number' = ap (λ (m : PutNumbers). m.number) e in
    let nodes : node ≡ node' = ap (λ (m : PutNumbers). m.node) e in
    cc

-- clash's, whatever the answers: the outcome comes first
clash_answers_differ : (answer answer' : ClashAnswer) → clash_numbers_of answer ≡ clash_numbers_of answer' → answer ≡ answer'
clash_answers_differ (Ok None) (Ok None) e = refl
clash_answers_differ (Ok None) (Ok (Some c)) e = let z : ◌≡◌ {A = ℕ} 0 1 = ap (λ (m : ClashNumbers). m.outcome) e in absurd (omega arith)
clash_answers_differ (Ok None) (Err r) e = let z : ◌≡◌ {A = ℕ} 0 2 = ap (λ (m : ClashNumbers). m.outcome) e in absurd (omega arith)
clash_answers_differ (Ok (Some c)) (Ok None) e = let z : ◌≡◌ {A = ℕ} 1 0 = ap (λ (m : ClashNumbers). m.outcome) e in absurd (omega arith)
clash_answers_differ (Ok (Some c)) (Ok (Some c')) e =
    let numbers : c.number ≡ c'.number = ap (λ (m : ClashNumbers). m.number) e in
    let nodes : c.node ≡ c'.node = ap (λ (m : ClashNumbers). m.node) e in
    let lengths : c.length ≡ c'.length = ap (λ (m : ClashNumbers). m.length) e in
    let firsts : c.first ≡ c'.first = ap (λ (m : ClashNumbers). m.first) e in
    let seconds : c.second ≡ c'.second = ap (λ (m : ClashNumbers). m.second) e in
    let same : clash_found c.number c.node c.length c.first c.second ≡ clash_found c'.number c'.node c'.length c'.first c'.second = cc in
    ap (λ (x : Clash). Ok (Some x)) same
clash_answers_differ (Ok (Some c)) (Err r) e = let z : ◌≡◌ {A = ℕ} 1 2 = ap (λ (m : ClashNumbers). m.outcome) e in absurd (omega arith)
clash_answers_differ (Err r) (Ok None) e = let z : ◌≡◌ {A = ℕ} 2 0 = ap (λ (m : ClashNumbers). m.outcome) e in absurd (omega arith)
clash_answers_differ (Err r) (Ok (Some c)) e = let z : ◌≡◌ {A = ℕ} 2 1 = ap (λ (m : ClashNumbers). m.outcome) e in absurd (omega arith)
clash_answers_differ (Err r) (Err r') e =
    let numbers : r.number ≡ r'.number = ap (λ (m : ClashNumbers). m.number) e in
    let nodes : r.node ≡ r'.node = ap (λ (m : ClashNumbers). m.node) e in
    let same : refusal r.number r.node ≡ refusal r'.number r'.node = cc in
    ap (λ (x : Refusal). Err x) same

pub clash_numbers_differ :
    (outcome outcome' : Clashes.Outcome)
    → clash_numbers_of (clash_answer_for outcome) ≡ clash_numbers_of (clash_answer_for outcome')
    → clash_answer_for outcome ≡ clash_answer_for outcome'
clash_numbers_differ outcome outcome' = clash_answers_differ (clash_answer_for outcome) (clash_answer_for outcome')
