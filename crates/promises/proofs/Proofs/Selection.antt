-- The chosen rule is the one that the table's first words pick; with the fresh table that is the selected one.
use Rattle.std.specs.Prelude.{if◌then◌else◌, ◌≡◌, refl, true, false, not, ℕ, suc, ◌+◌, ◌≤◌, eqb, ℤ, pos, negsuc, get_or, take, drop, replicate}
use Rattle.std.proofs.Common.{sym, ap, ◌∙◌, ⊎_elim, add-zero, zero-add, arith, ltb-true, ltb-false, le-ltb, eqb-true, eq-eqb}
use mathlib.Core.List.Memᴰ
use mathlib.Core.List.{List, [], ◌∷◌, map, Memᴰ}
use Rattle.std.proofs.Math.Option.{Option, none, some}
use Rattle.std.proofs.lemmas.Bool.{not-true}
use Rattle.std.specs.Int.Signed.{lt_z}
use Rattle.meaning.specs.declared.State.{State}
use Rattle.meaning.specs.Base.{up_from}
use Rattle.meaning.specs.Model.{Model, Rule}
use Rattle.meaning.specs.Match.{places, value_in, matches, entry_of, fresh_table}
use Rattle.meaning.specs.Choice.{Candidate, candidates, utilities, counts, lower, choose}
use Rattle.laws.specs.BaseLaws.{no_true, every-member}
use Rattle.laws.specs.MatchLaws.{entry_length}
use Rattle.laws.specs.ChoiceLaws.{Chosen, choose-best, choose-none}
use Rattle.promises.specs.Words.{At, first, next, entry_at}
use Rattle.promises.specs.Published.{Matches, CountsIn, Picked, Selected, NoneSelected}
use Rattle.promises.proofs.Proofs.Tables.{entry_first, entry_next, entry-later}
use Rattle.promises.proofs.Proofs.Matching.{matches-bind, is-match}

-- ---- the order of utilities: of two, one is below the other, or they are the same

pub lt_z-turn : (a b : ℤ) → lt_z a b ≡ true → lt_z b a ≡ false
lt_z-turn (pos a) (pos b) h = le-ltb b a (omega (arith, ltb-true))
lt_z-turn (pos a) (negsuc b) h = absurd (no_true (sym h))
lt_z-turn (negsuc a) (pos b) h = refl
lt_z-turn (negsuc a) (negsuc b) h = le-ltb a b (omega (arith, ltb-true))

pub lt_z-neither : (a b : ℤ) → lt_z a b ≡ false → lt_z b a ≡ false → a ≡ b
lt_z-neither (pos a) (pos b) h k = ap pos (omega (arith, ltb-false))
lt_z-neither (pos a) (negsuc b) h k = absurd (no_true k)
lt_z-neither (negsuc a) (pos b) h k = absurd (no_true h)
lt_z-neither (negsuc a) (negsuc b) h k = ap negsuc (omega (arith, ltb-false))

-- ---- the candidates, rule by rule

-- what a candidate is made of
pub record Stands (k : ℕ) (rules : List Rule) (us : List ℤ) (table : List ℕ) (c : Candidate) : Type 0 where
  pub place : ℕ
  pub number_is : c.number ≡ k + place
  pub rule_at : At c.rule place rules
  pub utility_is : c.utility ≡ get_or us place (pos 0)
  pub entry_is : c.entry ≡ entry_at place table

get_or-tail : (us : List ℤ) (j : ℕ) → get_or (drop 1 us) j (pos 0) ≡ get_or us (suc j) (pos 0)
get_or-tail [] j = refl
get_or-tail (u ∷ us) j = refl

-- a candidate of the rest is one of the whole
stands-next : (k : ℕ) (r : Rule) (rs : List Rule) (us : List ℤ) (table : List ℕ) (c : Candidate) → Stands (k + 1) rs (drop 1 us) (drop 9 table) c → Stands k (r ∷ rs) us table c
stands-next k r rs us table c h =
    record {
      place = suc h.place;
      number_is = h.number_is ∙ omega arith;
      rule_at = next h.rule_at;
      utility_is = h.utility_is ∙ get_or-tail us h.place;
      entry_is = h.entry_is ∙ sym (entry-later h.place table);
    }

pub candidate-stands : (k : ℕ) (rules : List Rule) (us : List ℤ) (table : List ℕ) {c : Candidate} → Memᴰ c (candidates k rules us table) → Stands k rules us table c
unfolding candidates
candidate-stands k [] us table h = absurd (Memᴰ.not-nil h)
candidate-stands k (r ∷ rs) us table {c} h =
    ⊎_elim
    (λ (q : c ≡ record { number = k; rule = r; utility = get_or us 0 (pos 0); entry = take 9 table }).
    rw q (record { place = 0; number_is = sym (add-zero k); rule_at = first; utility_is = refl; entry_is = refl }))
    (λ (m : Memᴰ c (candidates (k + 1) rs (drop 1 us) (drop 9 table))). stands-next k r rs us table c (candidate-stands (k + 1) rs (drop 1 us) (drop 9 table) m))
    (Memᴰ.cases_cons h)

-- each rule is a candidate
pub record HasCandidate (k : ℕ) (rules : List Rule) (us : List ℤ) (table : List ℕ) (r : Rule) (j : ℕ) : Type 0 where
  pub candidate : Candidate
  pub member : Memᴰ candidate (candidates k rules us table)
  pub number_is : candidate.number ≡ k + j
  pub rule_is : candidate.rule ≡ r
  pub utility_is : candidate.utility ≡ get_or us j (pos 0)
  pub entry_is : candidate.entry ≡ entry_at j table

pub rule-candidate : (r : Rule) {j : ℕ} {rules : List Rule} → At r j rules → (k : ℕ) (us : List ℤ) (table : List ℕ) → HasCandidate k rules us table r j
unfolding candidates
rule-candidate r (first {xs = rs}) k us table =
    record {
      candidate = record { number = k; rule = r; utility = get_or us 0 (pos 0); entry = take 9 table };
      member = Memᴰ.head refl;
      number_is = sym (add-zero k);
      rule_is = refl;
      utility_is = refl;
      entry_is = refl;
    }
rule-candidate r (next {k = j} {y = q} {xs = rs} h) k us table =
    let c : HasCandidate (k + 1) rs (drop 1 us) (drop 9 table) r j = rule-candidate r h (k + 1) (drop 1 us) (drop 9 table) in
    record {
      candidate = c.candidate;
      member = Memᴰ.tail c.member;
      number_is = c.number_is ∙ omega arith;
      rule_is = c.rule_is;
      utility_is = c.utility_is ∙ get_or-tail us j;
      entry_is = c.entry_is ∙ sym (entry-later j table);
    }

-- ---- the fresh table, and the image's utilities, rule by rule

pub fresh-entry-at : (r : Rule) {j : ℕ} {rules : List Rule} → At r j rules → (s : State) → entry_at j (fresh_table rules s) ≡ entry_of r s
unfolding fresh_table
fresh-entry-at r (first {xs = rs}) s = entry_first (entry_of r s) (fresh_table rs s) (entry_length r s)
fresh-entry-at r (next {k = j} {y = q} {xs = rs} h) s = entry_next j (entry_of q s) (fresh_table rs s) (entry_length q s) ∙ fresh-entry-at r h s

pub utility-at : (r : Rule) {j : ℕ} {rules : List Rule} → At r j rules → get_or (utilities rules) j (pos 0) ≡ r.utility
utility-at r first = refl
utility-at r (next h) = utility-at r h

-- the first word says whether the rule matches
pub first_word : (r : Rule) (s : State) → eqb (get_or (entry_of r s) 0 0) 1 ≡ matches r s
unfolding entry_of
first_word r s =
    elim (matches r s) as (λ t. eqb (get_or (if t then 1 ∷ map (value_in (places r.tests s)) (up_from 0 8) else replicate 9 0) 0 0) 1 ≡ t) [
      | true ↦ refl
      | false ↦ refl
    ]

-- ---- the selection

-- one number has one rule
pub at_same : {A : Type 0} {x y : A} {j : ℕ} {xs : List A} → At x j xs → At y j xs → x ≡ y
at_same first first = refl
at_same (next h) (next g) = at_same h g

module _ (rules : List Rule) (table : List ℕ) where
  abbrev us : List ℤ
  us = utilities rules

  -- a candidate counts exactly if the first word of its entry is 1
  counts-in : (q : Rule) (j : ℕ) (d : HasCandidate 0 rules us table q j) → CountsIn table j → counts d.candidate ≡ true
  counts-in q j d e = eq-eqb (get_or d.candidate.entry 0 0) 1 (ap (λ (x : List ℕ). get_or x 0 0) d.entry_is ∙ e)

  -- against any other that counts, the chosen one is not lower, and comes first if they are equal
  by-either : (c : Candidate) → Chosen (candidates 0 rules us table) c → c.utility ≡ c.rule.utility → (j : ℕ) (q : Rule) → At q j rules → CountsIn table j
      → (lt_z c.rule.utility q.utility ≡ false) × (q.utility ≡ c.rule.utility → c.number ≤ j)
  by-either c b u j q at t =
      let d : HasCandidate 0 rules us table q j = rule-candidate q at 0 us table in
      let v : d.candidate.utility ≡ q.utility = d.utility_is ∙ utility-at q at in
      ⊎_elim
      (λ (l : lower d.candidate c ≡ true).
      let w : lt_z q.utility c.rule.utility ≡ true = rw (← u, ← v) l in
      let x : lt_z c.rule.utility q.utility ≡ false = lt_z-turn q.utility c.rule.utility w in
      (x, λ z. absurd (no_true (sym w ∙ ap (λ (y : ℤ). lt_z y c.rule.utility) z ∙ sym (ap (λ (y : ℤ). lt_z c.rule.utility y) z) ∙ x))))
      (λ (l : (lower c d.candidate ≡ false) × (c.number ≤ d.candidate.number)). (rw (← u, ← v) l.0, λ z. omega (arith, l.1, d.number_is)))
      (b.best d.candidate d.member (counts-in q j d t))

  pub chosen-picked : (c : Candidate) → choose rules us table ≡ some c → Picked rules table c
  chosen-picked c e =
      let b : Chosen (candidates 0 rules us table) c = choose-best rules us table c e in
      let h : Stands 0 rules us table c = candidate-stands 0 rules us table b.candidate in
      let n : c.number ≡ h.place = h.number_is ∙ zero-add h.place in
      let u : c.utility ≡ c.rule.utility = h.utility_is ∙ utility-at c.rule h.rule_at in
      let entry : c.entry ≡ entry_at c.number table = h.entry_is ∙ ap (λ (k : ℕ). entry_at k table) (sym n) in
      record {
        numbered = rw n h.rule_at;
        entry_is = entry;
        counting = ap (λ (x : List ℕ). get_or x 0 0) (sym entry) ∙ eqb-true (get_or c.entry 0 0) 1 b.matching;
        none_higher = λ j q at t. (by-either c b u j q at t).0;
        first_of_equals = λ j q at t. (by-either c b u j q at t).1;
      }

  pub none-counts : choose rules us table ≡ none → (k : ℕ) (r : Rule) → At r k rules → CountsIn table k → ⊥
  none-counts e k r at t =
      let d : HasCandidate 0 rules us table r k = rule-candidate r at 0 us table in
      let n : counts d.candidate ≡ false = not-true _ (every-member (λ c. not (counts c)) (candidates 0 rules us table) ((choose-none rules us table).0 e) d.member) in
      no_true (sym (counts-in r k d t) ∙ n)

  pub none-picked : ((k : ℕ) (r : Rule) → At r k rules → CountsIn table k → ⊥) → choose rules us table ≡ none
  none-picked h = by (choose rules us table) refl
    where
      by : (o : Option Candidate) → choose rules us table ≡ o → o ≡ none
      by none e = refl
      by (some c) e = let p : Picked rules table c = chosen-picked c e in absurd (h c.number c.rule p.numbered p.counting)

-- ---- with the fresh table

-- by whatever utilities, the entry of the chosen rule is its own
pub chosen-own : (rules : List Rule) (us : List ℤ) (s : State) (c : Candidate) → choose rules us (fresh_table rules s) ≡ some c → c.entry ≡ entry_of c.rule s
chosen-own rules us s c e =
    let h : Stands 0 rules us (fresh_table rules s) c = candidate-stands 0 rules us (fresh_table rules s) (choose-best rules us (fresh_table rules s) c e).candidate in
    h.entry_is ∙ fresh-entry-at c.rule h.rule_at s

module _ (m : Model) (s : State) where
  abbrev pub fresh : List ℕ
  fresh = fresh_table m.rules s

  -- an entry of the fresh table counts exactly if its rule matches
  counts-matches : (r : Rule) (k : ℕ) → At r k m.rules → eqb (get_or (entry_at k fresh) 0 0) 1 ≡ matches r s
  counts-matches r k at = ap (λ (e : List ℕ). eqb (get_or e 0 0) 1) (fresh-entry-at r at s) ∙ first_word r s

  matching-counts : (r : Rule) (k : ℕ) → At r k m.rules → Matches r s → CountsIn fresh k
  matching-counts r k at t = eqb-true (get_or (entry_at k fresh) 0 0) 1 (counts-matches r k at ∙ is-match r s t)

  counting-matches : (r : Rule) (k : ℕ) → At r k m.rules → CountsIn fresh k → Matches r s
  counting-matches r k at t = matches-bind r s (sym (counts-matches r k at) ∙ eq-eqb (get_or (entry_at k fresh) 0 0) 1 t)

  pub chosen-selected : (c : Candidate) → choose m.rules (utilities m.rules) fresh ≡ some c → Selected m s c.number c.rule
  chosen-selected c e =
      let p : Picked m.rules fresh c = chosen-picked m.rules fresh c e in
      record {
        numbered = p.numbered;
        matching = counting-matches c.rule c.number p.numbered p.counting;
        none_higher = λ j q at t. p.none_higher j q at (matching-counts q j at t);
        first_of_equals = λ j q at t. p.first_of_equals j q at (matching-counts q j at t);
      }

  pub chosen_none : choose m.rules (utilities m.rules) fresh ≡ none → NoneSelected m s
  chosen_none e k r at t = none-counts m.rules fresh e k r at (matching-counts r k at t)

  pub none-chosen : NoneSelected m s → choose m.rules (utilities m.rules) fresh ≡ none
  none-chosen n = none-picked m.rules fresh (λ k r at t. n k r at (counting-matches r k at t))

  -- two that are selected are one
  pub selected-once : (j k : ℕ) (q r : Rule) → Selected m s j q → Selected m s k r → (j ≡ k) × (q ≡ r)
  selected-once j k q r a b =
      let u : q.utility ≡ r.utility = lt_z-neither q.utility r.utility (a.none_higher k r b.numbered b.matching) (b.none_higher j q a.numbered a.matching) in
      let e : j ≡ k = omega (arith, a.first_of_equals k r b.numbered b.matching (sym u), b.first_of_equals j q a.numbered a.matching u) in
      (e, at_same a.numbered (rw e b.numbered))
