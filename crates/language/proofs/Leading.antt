-- The sets of the positions that a position may follow, found from the follow sets, and a step back that asks these: what the loops over the
-- positions cite. Assumes nothing.
use mathlib.Core.Path.{◌≡◌, refl, sym, subst, ◌∙◌}
use mathlib.Core.Bool.{true, false}
use mathlib.Core.List.{List}
use mathlib.Core.Logic.{◌↔◌, ◌≢◌, inl, inr, ⊎_elim}
use Prim.Native.Nat.{ℕ, ◌+◌, ◌*◌, ◌≤◌, ◌<◌}
use native.Mathlib.Omega.{arith}
use borrow.Author.Tests.{eqb-true, eqb-false, eq-eqb}
use lib.Dec.{eqb}
use lib.ListN.{length, get_or, set, replicate, length-set, length-replicate, get_or-replicate}
use lib.Seq.{get_or-set_same, get_or-set_other}
use Rattle.laws.specs.Basics.{bool_cases, not_both, or_either, or_left, or_right}
use Rattle.positions.specs.declared.Set.{Set}
use Rattle.positions.specs.declared.Below.{Below}
use Rattle.positions.specs.Positions.{holds, Empty, Added}
use Rattle.positions.specs.Below.{Taken, Done}
use Rattle.positions.proofs.Bits.{bit_zero, holds_by}
use Rattle.positions.proofs.Walk.{taken_before, taken_gone, taken_other}
use Rattle.automaton.specs.declared.Automaton.{Automaton}
use Rattle.automaton.specs.Rows.{Room, set_at, follow_of}
use Rattle.language.specs.Sets.{Gathered, Grown, Standing, Back, Meeting, Stored, NoLeads, LedFrom, Led, Leads}

-- ---- A set that is kept

-- What stands at neither of two places stays when both are written.
two_kept : (xs : List ℕ) (i x y k : ℕ) → k ≢ i → k ≢ i + 1 → get_or (set (set xs i x) (i + 1) y) k 0 ≡ get_or xs k 0
two_kept xs i x y k ne ne' = get_or-set_other (set xs i x) (i + 1) k y 0 ne' ∙ get_or-set_other xs i k x 0 ne

-- A set is written as two numbers.
pub stored_two : (sets : List ℕ) (i : ℕ) (s : Set) → 2 * i + 2 ≤ length sets → Stored sets i s (set (set sets (2 * i) s.low) (2 * i + 1) s.high)
stored_two sets i s h =
    record {
      same_length = length-set (set sets (2 * i) s.low) (2 * i + 1) s.high ∙ length-set sets (2 * i) s.low;
      stored =
          rw (
            get_or-set_same (set sets (2 * i) s.low) (2 * i + 1) s.high 0 (rw length-set (omega arith)),
            get_or-set_other (set sets (2 * i) s.low) (2 * i + 1) (2 * i) s.high 0 (λ e. omega arith),
            get_or-set_same sets (2 * i) s.low 0 (omega arith),
          );
      kept = λ j ne.
          rw (
            two_kept sets (2 * i) s.low s.high (2 * j) (λ e. ne (omega arith)) (λ e. omega arith),
            two_kept sets (2 * i) s.low s.high (2 * j + 1) (λ e. omega arith) (λ e. ne (omega arith)),
          );
    }

-- ---- No sets yet

nothing_held : (s : Set) → s.low ≡ 0 → s.high ≡ 0 → Empty s
nothing_held s l h q = holds_by s q (λ k. rw l (bit_zero q)) (λ k m. rw h (bit_zero _)) (λ k. refl)

no_leads_of : {leads : List ℕ} → length leads ≡ 256 → ((i : ℕ) → i < 256 → get_or leads i 0 ≡ 0) → NoLeads leads
no_leads_of {leads} size zeros =
    record {
      size = omega arith;
      none_held = λ p q l. nothing_held (set_at leads (2 * p)) (zeros (2 * p) (omega arith)) (zeros (2 * p + 1) (omega arith)) q;
    }

pub no_leads_zeros : NoLeads (replicate 256 0)
no_leads_zeros = no_leads_of (length-replicate {A = ℕ} 256 0) (λ i l. get_or-replicate {A = ℕ} 256 i 0 0 l)

-- ---- One position, added to the sets of those that may follow it

-- What was given, said otherwise.
grown_same : {given other : ℕ → Type 0} {s t : Set} → ((q : ℕ) → given q ↔ other q) → Grown given s t → Grown other s t
grown_same same known =
    record {
      grown_iff = λ q. (
        λ e. ⊎_elim (λ old. inl old) (λ new. inr ((same q).0 new)) ((known.grown_iff q).0 e),
        λ e. (known.grown_iff q).1 (⊎_elim (λ old. inl old) (λ new. inr ((same q).1 new)) e),
      );
    }

-- The sets of the positions of `next` that have come on the walk have q as well, the others stay.
pub record LedOn (count : ℕ) (next : Set) (q : ℕ) (walk : Below) (before after : List ℕ) : Type 0 where
  pub same_end : walk.end ≡ count
  pub left_next : (p : ℕ) → holds walk.left p ≡ true → holds next p ≡ true
  pub same_length : length after ≡ length before
  pub grown : (p : ℕ) → p < count → Grown (λ k. (k ≡ q) × (holds walk.left p ≡ false) × (holds next p ≡ true)) (set_at before (2 * p)) (set_at after (2 * p))

module _ {count : ℕ} {next : Set} {q : ℕ} where
  pub on_begins : {walk of : Below} {leads : List ℕ} → walk ≡ of → of ≡ record { left = next; end = count } → LedOn count next q walk leads leads
  on_begins {leads = leads} same begun = subst (λ w. LedOn count next q w leads leads) (sym (same ∙ begun)) begins
    where
      begins : LedOn count next q (record { left = next; end = count }) leads leads
      begins =
          record {
            same_end = refl;
            left_next = λ p h. h;
            same_length = refl;
            grown = λ p l. record { grown_iff = λ k. (λ e. inl e, λ e. ⊎_elim (λ old. old) (λ (x, gone, h). absurd (not_both h gone)) e) };
          }

  pub on_more :
      {walk on : Below} {n : ℕ} {s : Set} {before mid after : List ℕ} → LedOn count next q walk before mid → Taken walk n on → Added (set_at mid (2 * n)) q s
      → Stored mid n s after → LedOn count next q on before after
  on_more {walk} {on} {n} {s} {before} {mid} {after} known taken added stored =
      record {
        same_end = taken.same_end ∙ known.same_end;
        left_next = λ p h. known.left_next p (taken_before taken p h);
        same_length = stored.same_length ∙ known.same_length;
        grown = λ p l.
            ⊎_elim
            (λ e. rw (eqb-true p n e, stored.stored) here)
            (λ e.
            let ne = eqb-false p n e in
            rw (stored.kept p ne) (grown_same (λ k. (λ (x, m, h). (x, taken_other taken p ne ∙ m, h), λ (x, m, h). (x, sym (taken_other taken p ne) ∙ m, h))) (known.grown p l)))
            (bool_cases (eqb p n));
      }
    where
      held : holds next n ≡ true
      held = known.left_next n (taken.first.held taken.small)

      here : Grown (λ k. (k ≡ q) × (holds on.left n ≡ false) × (holds next n ≡ true)) (set_at before (2 * n)) s
      here =
          record {
            grown_iff = λ k. (
              λ e.
                  ⊎_elim
                  (λ new. inr (eqb-true k q new, taken_gone taken, held))
                  (λ old. ⊎_elim (λ o. inl o) (λ (x, gone, h). absurd (not_both (taken.first.held taken.small) gone)) (((known.grown n (omega (arith, taken.inside, known.same_end))).grown_iff k).0 old))
                  (or_either (eqb k q) (holds (set_at mid (2 * n)) k) (sym (added k) ∙ e)),
              λ e.
                  added k ∙ ⊎_elim
                  (λ old. or_right (eqb k q) (holds (set_at mid (2 * n)) k) (((known.grown n (omega (arith, taken.inside, known.same_end))).grown_iff k).1 (inl old)))
                  (λ (x, m, h). or_left (eqb k q) (holds (set_at mid (2 * n)) k) (eq-eqb k q x))
                  e,
            );
          }

  pub on_all : {walk : Below} {before after : List ℕ} → LedOn count next q walk before after → Done walk → LedFrom count next q count before after
  on_all known done =
      record {
        same_length = known.same_length;
        grown = λ p l. grown_same (λ k. (λ (x, m, h). (x, l, h), λ (x, m, h). (x, done.none_left p (omega (arith, known.same_end)), h))) (known.grown p l);
      }

-- ---- All positions, one after the other

module _ {prepared : List ℕ} {a : Automaton} where
  pub led_begins : {leads : List ℕ} → Room a prepared → NoLeads leads → Led prepared a 0 leads
  led_begins room none =
      record { led_iff = λ p l q. (λ e. absurd (not_both e (none.none_held p q (omega (arith, room.few)))), λ (k, h). absurd (omega arith)) }

  pub led_more : {n : ℕ} {before after : List ℕ} → Led prepared a n before → LedFrom a.count (follow_of prepared (a.start + n)) n a.count before after → Led prepared a (n + 1) after
  led_more {n} {after = after} known from = record { led_iff = λ p l q. (there p l q, back p l q) }
    where
      there : (p : ℕ) → p < a.count → (q : ℕ) → holds (set_at after (2 * p)) q ≡ true → (q < n + 1) × (holds (follow_of prepared (a.start + q)) p ≡ true)
      there p l q e =
          ⊎_elim
          (λ old. let (k, h) = (known.led_iff p l q).0 old in (omega arith, h))
          (λ (x, k, h). rw x (omega arith, h))
          (((from.grown p l).grown_iff q).0 e)

      back : (p : ℕ) → p < a.count → (q : ℕ) → (q < n + 1) × (holds (follow_of prepared (a.start + q)) p ≡ true) → holds (set_at after (2 * p)) q ≡ true
      back p l q (k, h) =
          ((from.grown p l).grown_iff q).1
          (⊎_elim
          (λ e. let x = eqb-true q n e in inr (x, l, (rw x at h)))
          (λ e. let ne = eqb-false q n e in inl ((known.led_iff p l q).1 (omega arith, h)))
          (bool_cases (eqb q n)))

  pub led_all : {n : ℕ} {leads : List ℕ} → n ≡ a.count → Led prepared a n leads → Leads prepared a leads
  led_all {leads = leads} e known = record { led = λ long. subst (λ (k : ℕ). Led prepared a k leads) e known }

-- ---- A step back that asks every position

module _ {prepared : List ℕ} {a : Automaton} {s : Set} {byte : ℕ} {here : Set} (stood : Gathered (Standing prepared a s byte) a.count here) where
  -- The positions that one of those at which the byte stands may follow are those to which a step back leads.
  pub asked : {back : Set} → a.count ≤ 128 → Gathered (Meeting prepared a here) a.count back → Gathered (Back prepared a s byte) a.count back
  asked {back} few met = record { held_iff = λ q. (there q, leads q) }
    where
      pair_same : {q k p n : ℕ} → q ≡ k → p ≡ n → holds (follow_of prepared (a.start + k)) p ≡ true → holds (follow_of prepared (a.start + q)) n ≡ true
      pair_same e f h = rw (e, ← f) h

      there : (q : ℕ) → holds back q ≡ true → (p : ℕ) × (p < a.count) × Back prepared a s byte p q
      there q e =
          let (k, l, g) = (met.held_iff q).0 e in
          let (p, m, f, h) = g.met in
          let (n, i, stands) = (stood.held_iff p).0 h in
          (n, i, record { stood = record { itself = refl; held = stands.held; stands = stands.stands }; inside = omega (arith, g.itself); leads = pair_same g.itself stands.itself f })

      leads : (q : ℕ) → (p : ℕ) × (p < a.count) × Back prepared a s byte p q → holds back q ≡ true
      leads q (p, l, g) =
          (met.held_iff q).1 (q, g.inside, record { itself = refl; met = (p, omega arith, g.leads, (stood.held_iff p).1 (p, l, g.stood)) })

  -- Where it stands at none, there are none.
  pub asked_none : Empty here → Gathered (Back prepared a s byte) a.count here
  asked_none none = record { held_iff = λ q. (λ e. absurd (not_both e (none q)), λ (p, l, g). absurd (not_both ((stood.held_iff p).1 (p, l, g.stood)) (none p))) }
