-- What `choose` gives: the matching rule of highest utility, the lowest number among equals; nothing exactly if none matches.
use Rattle.std.specs.Prelude.{◌≡◌, refl, ◌↔◌, ◌⊎◌, Bool, true, false, not, ℕ, ◌+◌, ◌≤◌, drop, ℤ, pos, negsuc}
use Rattle.std.proofs.Common.{inl, inr, ⊎_elim, arith, ltb-true, ltb-false, lt-ltb, le-ltb}
use mathlib.Core.List.{List, [], ◌∷◌, ◌++◌, Memᴰ}
use Rattle.std.proofs.Math.Option.{none, some}
use Rattle.std.proofs.lemmas.Bool.{not-true}
use Rattle.std.specs.Int.Signed.{lt_z}
use Rattle.meaning.specs.Base.{every, admit, keep}
use Rattle.meaning.specs.Model.{Rule}
use Rattle.meaning.specs.Choice.{Candidate, candidates, counts, lower, choose}
use Rattle.laws.specs.BaseLaws.{every-member, keep-member, keep-none, member-keep, none-keep}
use Rattle.laws.specs.HighestLaws.{Best, highest-best, highest-none}

-- ---- the order of utilities

lt_z-up : (a b c : ℤ) → lt_z a b ≡ true → lt_z b c ≡ true → lt_z a c ≡ true
lt_z-up (pos a) (pos b) (pos c) h k = lt-ltb a c (omega (arith, ltb-true))
lt_z-up (pos a) (pos b) (negsuc c) h k = k
lt_z-up (pos a) (negsuc b) (pos c) h k = cc
lt_z-up (pos a) (negsuc b) (negsuc c) h k = h
lt_z-up (negsuc a) (pos b) (pos c) h k = refl
lt_z-up (negsuc a) (pos b) (negsuc c) h k = cc
lt_z-up (negsuc a) (negsuc b) (pos c) h k = refl
lt_z-up (negsuc a) (negsuc b) (negsuc c) h k = lt-ltb c a (omega (arith, ltb-true))

lt_z-over : (a b c : ℤ) → lt_z b a ≡ false → lt_z b c ≡ true → lt_z a c ≡ true
lt_z-over (pos a) (pos b) (pos c) h k = lt-ltb a c (omega (arith, ltb-true, ltb-false))
lt_z-over (pos a) (pos b) (negsuc c) h k = k
lt_z-over (pos a) (negsuc b) (pos c) h k = cc
lt_z-over (pos a) (negsuc b) (negsuc c) h k = cc
lt_z-over (negsuc a) (pos b) (pos c) h k = refl
lt_z-over (negsuc a) (pos b) (negsuc c) h k = cc
lt_z-over (negsuc a) (negsuc b) (pos c) h k = refl
lt_z-over (negsuc a) (negsuc b) (negsuc c) h k = lt-ltb c a (omega (arith, ltb-true, ltb-false))

lt_z-self : (a : ℤ) → lt_z a a ≡ false
lt_z-self (pos a) = le-ltb a a (omega arith)
lt_z-self (negsuc a) = le-ltb a a (omega arith)

-- ---- the rule that is chosen

-- the numbers of a list rise from k on
abbrev Rising : ℕ → List Candidate → Type 0
Rising k [] = Unit {0}
Rising k (c ∷ cs) = (k ≤ c.number) × Rising c.number cs

rising-less : (j k : ℕ) (cs : List Candidate) → j ≤ k → Rising k cs → Rising j cs
rising-less j k [] h r = tt
rising-less j k (c ∷ cs) h r = (omega (arith, r.0), r.1)

rising-candidates : (k : ℕ) (rs : List Rule) (us : List ℤ) (table : List ℕ) → Rising k (candidates k rs us table)
unfolding candidates
rising-candidates k [] us table = tt
rising-candidates k (r ∷ rs) us table = (
  omega arith,
  rising-less k (k + 1) (candidates (k + 1) rs (drop 1 us) (drop 9 table)) (omega arith) (rising-candidates (k + 1) rs (drop 1 us) (drop 9 table)),
)

rising-keep : (p : Candidate → Bool) (k : ℕ) (cs : List Candidate) → Rising k cs → Rising k (keep p cs)
rising-keep p k [] r = tt
rising-keep p k (c ∷ cs) r =
    elim (p c) as (λ t. Rising k (admit t c (keep p cs))) [
      | true ↦ (r.0, rising-keep p c.number cs r.1)
      | false ↦ rising-keep p k cs (rising-less k c.number cs r.0 r.1)
    ]

rising-member : (k : ℕ) (cs : List Candidate) {y : Candidate} → Rising k cs → Memᴰ y cs → k ≤ y.number
rising-member k [] r h = absurd (mathlib.Core.List.Memᴰ.not-nil h)
rising-member k (c ∷ cs) {y} r h =
    ⊎_elim (λ (q : y ≡ c). rw q r.0) (λ (m : Memᴰ y cs). rising-member k cs (rising-less k c.number cs r.0 r.1) m)
    (mathlib.Core.List.Memᴰ.cases_cons h)

rising-after : (k : ℕ) (before : List Candidate) (c : Candidate) (cs : List Candidate) → Rising k (before ++ (c ∷ cs)) → Rising c.number cs
rising-after k [] c cs r = r.1
rising-after k (b ∷ bs) c cs r = rising-after b.number bs c cs r.1

-- c is one of the rules with their entries, its entry counts as matching, and any other that does has a lower utility,
-- or no higher one and no lower number
pub record Chosen (all-rules : List Candidate) (c : Candidate) : Type 0 where
  pub candidate : Memᴰ c all-rules
  pub matching : counts c ≡ true
  pub best : (d : Candidate) → Memᴰ d all-rules → counts d ≡ true → (lower d c ≡ true) ⊎ ((lower c d ≡ false) × (c.number ≤ d.number))

pub choose-best : (rules : List Rule) (us : List ℤ) (table : List ℕ) (c : Candidate) → choose rules us table ≡ some c → Chosen (candidates 0 rules us table) c
unfolding choose
choose-best rules us table c e =
    let cs : List Candidate = candidates 0 rules us table in
    let b : Best lower (keep counts cs) c =
    highest-best lower (λ x y z. lt_z-up x.utility y.utility z.utility)
    (λ x y z. lt_z-over x.utility y.utility z.utility) (keep counts cs) c e in
    let here : Memᴰ c (keep counts cs) = rw b.split (mathlib.Core.List.Memᴰ.append_right b.before (mathlib.Core.List.Memᴰ.head refl)) in
    let rising : Rising c.number b.after = rising-after 0 b.before c b.after (rw b.split at (rising-keep counts 0 cs (rising-candidates 0 rules us table))) in
    record {
      candidate = (keep-member counts cs here).0;
      matching = (keep-member counts cs here).1;
      best = λ d m t.
          ⊎_elim (λ (h : Memᴰ d b.before). inl (every-member (λ y. lower y c) b.before b.lower h))
          (λ (h : Memᴰ d (c ∷ b.after)).
          ⊎_elim (λ (q : d ≡ c). inr (rw q (lt_z-self c.utility, omega arith)))
          (λ (k : Memᴰ d b.after). inr (not-true _ (every-member (λ y. not (lower c y)) b.after b.none_higher k), rising-member c.number b.after rising k))
          (mathlib.Core.List.Memᴰ.cases_cons h))
          (mathlib.Core.List.Memᴰ.append_cases b.before (rw b.split at (member-keep counts cs m t)));
    }

-- "No entry matches": nothing is chosen exactly then
pub choose-none : (rules : List Rule) (us : List ℤ) (table : List ℕ) → (choose rules us table ≡ none) ↔ (every (λ c. not (counts c)) (candidates 0 rules us table) ≡ true)
unfolding choose
choose-none rules us table = (
  λ e. keep-none counts (candidates 0 rules us table) (highest-none lower (keep counts (candidates 0 rules us table)) e),
  λ h. rw (none-keep counts (candidates 0 rules us table) h) refl,
)
