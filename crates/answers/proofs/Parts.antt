-- Answers that are the same have the same numbers.
use mathlib.Core.Path.{◌≡◌, ap}
use Rattle.std.specs.Prelude.{Some, Result, Ok, Err}
use Rattle.table.specs.declared.Refusal.{Refusal}
use Rattle.answers.specs.declared.Sourced.{Sourced}
use Rattle.answers.specs.declared.Clash.{Clash}
use Rattle.answers.specs.Outcomes.{PutAnswer, ClashAnswer}

pub refusal_parts : {A : Type 0} {a b : Refusal} → ◌≡◌ {A = Result A Refusal} (Err a) (Err b) → (a.number ≡ b.number) × (a.node ≡ b.node)
refusal_parts {a = a} {b} e =
    let same : a ≡ b = cc in
    (ap (λ (r : Refusal). r.number) same, ap (λ (r : Refusal). r.node) same)

pub sourced_parts :
    {a b : Sourced}
    → ◌≡◌ {A = PutAnswer} (Ok a) (Ok b)
    → (a.length ≡ b.length) × (a.tally.kept ≡ b.tally.kept) × (a.tally.made ≡ b.tally.made) × (a.tally.dropped ≡ b.tally.dropped)
sourced_parts {a} {b} e =
    let same : a ≡ b = cc in (
      ap (λ (r : Sourced). r.length) same,
      ap (λ (r : Sourced). r.tally.kept) same,
      ap (λ (r : Sourced). r.tally.made) same,
      ap (λ (r : Sourced). r.tally.dropped) same,
    )

pub clash_parts :
    {a b : Clash}
    → ◌≡◌ {A = ClashAnswer} (Ok (Some a)) (Ok (Some b))
    → (a.number ≡ b.number) × (a.node ≡ b.node) × (a.length ≡ b.length) × (a.first ≡ b.first) × (a.second ≡ b.second)
clash_parts {a} {b} e =
    let same : a ≡ b = cc in (
      ap (λ (r : Clash). r.number) same,
      ap (λ (r : Clash). r.node) same,
      ap (λ (r : Clash). r.length) same,
      ap (λ (r : Clash). r.first) same,
      ap (λ (r : Clash). r.second) same,
    )
