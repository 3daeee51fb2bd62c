-- Visits, one after the other: what they leave of the entries, of the matching rules and of the sleeping ones.
use Rattle.std.specs.Prelude.{if◌then◌else◌}
use Prim.Native.Nat.{ℕ, ◌+◌, ◌-◌, ◌*◌, ◌≤◌, ◌<◌}
use mathlib.Core.Path.{◌≡◌, refl, sym, ap, ◌∙◌}
use mathlib.Core.Logic.{◌⊎◌, inl, inr, ⊎_elim}
use mathlib.Core.Bool.{Bool, true, false}
use mathlib.Core.List.{List}
use native.Mathlib.Omega.{arith}
use native.Mathlib.Decide.{ℕ_discrete}
use lib.Dec.{eqb}
use lib.ListN.{length, get_or}
use borrow.Author.Tests.{eq-eqb, eqb-true}
use Rattle.meaning.specs.Base.{bit}
use Rattle.meaning.specs.Match.{entry_of}
use Rattle.laws.specs.BaseLaws.{no_true, by-lt}
use Rattle.laws.specs.MatchLaws.{entry_length}
use Rattle.layout.specs.Rows.{rule_in}
use Rattle.layout.specs.StateWords.{state_in}
use Rattle.match_sets.specs.Sets.{member}
use Rattle.match_rule.specs.declared.Tried.{Tried}
use Rattle.match_rule.specs.declared.Tried.TheVariants.{Hit, Differs, Varies}
use Rattle.match_rule.specs.Words.{StandsAt}
use Rattle.match_rule.specs.Shut.{is_hit, Because, Made}
use Rattle.match_rule.proofs.MadeLaws.{rule-stands}
use Rattle.match_choice.specs.Ranks.{Matching}
use Rattle.match_order.specs.Order.{Ranked, Hitting, HitAt, rule_at, place_of}
use Rattle.match_table.specs.Entries.{with_entry}
use Rattle.match_beds.specs.Beds.{is_awake, bed_of}
use Rattle.match_rest.specs.Rest.{entry_at, Asleep, Sleeping}
use Rattle.match_rest.specs.Visits.{Settled, LowPlace, Lies, Visited, Among, VisitedAll}
use Rattle.match_rest.proofs.SleepLaws.{asleep-as}
use Rattle.match_rest.proofs.EntryLaws.{with-length, entry-own, entry_other, first-own, first-other}

-- ---- one rule

pub low-place : (t : Tried) (words : List ℕ) (o n : ℕ) (state : List ℕ) → Because t words o n state → LowPlace t
low-place Hit words o n state b = tt
low-place (Differs p v) words o n state b = b.low
low-place Varies words o n state b = tt

said : (b : Bool) → eqb (if b then 1 else 0) 1 ≡ b
said true = refl
said false = refl

module _ (heads words order state : List ℕ) (k : ℕ) (table nine sets sets' : List ℕ) (size : length nine ≡ 9) (room : 9 * k + 9 ≤ length table) where
  stands : StandsAt (rule_in heads words k) words (185 * k) (get_or heads (4 * k) 0)
  stands = rule-stands heads words k

  -- it sleeps, or is as awake as it was
  lying : (t : Tried) → Made t nine words (185 * k) (get_or heads (4 * k) 0) state → Lies t k sets sets'
      → (is_awake sets' k ≡ is_awake sets k) ⊎ Asleep heads words state (with_entry table k nine) sets' k
  lying Hit m lies = inl lies
  lying (Differs p v) m lies =
      inr
      (record {
        place = p;
        value = v;
        low = m.because.low;
        flag = m.because.flag;
        shuts = m.because.shuts (rule_in heads words k) stands;
        hidden = m.because.hidden (rule_in heads words k) stands;
        differs = λ _. m.because.differs;
        bed = lies.0;
        used = lies.1;
        zeros = entry-own table k nine size room ∙ m.fresh (rule_in heads words k) 0 stands ∙ m.because.shuts (rule_in heads words k) stands state 0 m.because.differs;
      })
  lying Varies m lies = inl lies

  pub visited : (t : Tried) (table' : List ℕ) → table' ≡ with_entry table k nine → Made t nine words (185 * k) (get_or heads (4 * k) 0) state → Settled t k (place_of order k) sets sets'
      → Visited heads words order state k table table' sets sets'
  visited t table' e m s =
      record {
        fresh = λ clock. e ∙ ap (with_entry table k) (m.fresh (rule_in heads words k) clock stands);
        besides = s.besides;
        others = s.others;
        own = s.own ∙ sym (said (is_hit t)) ∙ ap (λ (x : ℕ). eqb x 1) (sym m.first ∙ sym (first-own table k nine size room) ∙ ap (λ (l : List ℕ). get_or l (9 * k) 0) (sym e));
        rests = rw e (lying t m s.lies);
      }

-- ---- what is kept of all rules

module _ (heads words order state : List ℕ) (k n : ℕ) (table table' sets sets' : List ℕ) (fits : length table ≡ 9 * n) (ranked : Ranked heads order n) (h : k < n)
    (v : Visited heads words order state k table table' sets sets') where
  nine : List ℕ
  nine = entry_of (rule_in heads words k) (state_in state 0)

  nine-long : length nine ≡ 9
  unfolding nine
  nine-long = entry_length (rule_in heads words k) (state_in state 0)

  room : 9 * k + 9 ≤ length table
  room = omega arith

  same_first : (j : ℕ) → (j ≡ k → ⊥) → get_or table' (9 * j) 0 ≡ get_or table (9 * j) 0
  unfolding nine
  same_first j d = ap (λ (l : List ℕ). get_or l (9 * j) 0) (v.fresh 0) ∙ first-other table k nine nine-long room j d

  pub same-entry : (j : ℕ) → (j ≡ k → ⊥) → entry_at table' j ≡ entry_at table j
  unfolding nine
  same-entry j d = ap (λ (l : List ℕ). entry_at l j) (v.fresh 0) ∙ entry_other table k nine nine-long room j d

  apart : (j : ℕ) → j < n → (j ≡ k → ⊥) → place_of order j ≡ place_of order k → ⊥
  apart j l d e = d (sym (ranked.back j l) ∙ ap (rule_at order) e ∙ ranked.back k h)

  hitting-on : Hitting table order sets n → Hitting table' order sets' n
  hitting-on x =
      record {
        all = λ j l m. elim (ℕ_discrete j k) [
          | yes e ↦ let here : Matching table' k = rw e at m in rw e (v.own ∙ eq-eqb (get_or table' (9 * k) 0) 1 here)
          | no e ↦ v.others (place_of order j) (omega (arith, ranked.low j l, ranked.few)) (apart j l e) ∙ x.all j l (sym (same_first j e) ∙ m)
        ];
        only = λ p l m. elim (ℕ_discrete p (place_of order k)) [
          | yes e ↦
              let here : member sets' 4 (place_of order k) ≡ true = rw e at m in
              record { rule = k; below = h; placed = sym e; matching = eqb-true (get_or table' (9 * k) 0) 1 (sym v.own ∙ here) }
          | no e ↦
              let old : HitAt table order n p = x.only p l (sym (v.others p l e) ∙ m) in
              record { rule = old.rule; below = old.below; placed = old.placed; matching = same_first old.rule (λ q. e (sym old.placed ∙ ap (place_of order) q)) ∙ old.matching }
        ];
      }

  asleep-on : (q : ℕ) → q < n → (q ≡ k → ⊥) → Asleep heads words state table sets q → Asleep heads words state table' sets' q
  asleep-on q l d a =
      asleep-as a a.differs
      (v.besides.beds (bed_of a.place a.value) q (omega arith) (omega (arith, ranked.few)) a.bed)
      (v.besides.used a.place a.low a.used)
      (same-entry q d)

  sleeping-on : is_awake sets k ≡ true → Sleeping heads words n state table sets → Sleeping heads words n state table' sets'
  sleeping-on awake x q l =
      elim (ℕ_discrete q k) [
        | yes e ↦ rw e (⊎_elim (λ (s : is_awake sets' k ≡ is_awake sets k). inl (s ∙ awake)) (λ (a : Asleep heads words state table' sets' k). inr a) v.rests)
        | no e ↦ ⊎_elim
            (λ (s : is_awake sets q ≡ true). inl (v.besides.awake q (omega (arith, ranked.few)) e ∙ s))
            (λ (a : Asleep heads words state table sets q). inr (asleep-on q l e a)) (x q l)
      ]

  pub good-on : is_awake sets k ≡ true → Hitting table order sets n × Sleeping heads words n state table sets → Hitting table' order sets' n × Sleeping heads words n state table' sets'
  good-on awake x = (hitting-on x.0, sleeping-on awake x.1)

-- ---- the rules of a word

module _ (w todo : ℕ) where
  among-more : (i m q : ℕ) → i ≤ m → Among w todo i q → Among w todo m q
  among-more i m q h a = record { from = a.from; below = omega (arith, a.below); chosen = a.chosen }

  module _ (i m : ℕ) (up : i ≤ m) (none : (j : ℕ) → i ≤ j → j < m → bit todo j ≡ false) (q : ℕ) where
    among-less : Among w todo m q → Among w todo i q
    among-less a =
        by-lt q (64 * w + i)
        (λ l. record { from = a.from; below = l; chosen = a.chosen })
        (λ l. absurd (no_true (sym a.chosen ∙ none (q - 64 * w) (omega arith) (omega (arith, a.below, a.from)))))

    among-last : (q ≡ 64 * w + m → ⊥) → Among w todo (m + 1) q → Among w todo i q
    among-last d a = among-less (record { from = a.from; below = omega (arith, a.below, d); chosen = a.chosen })

  among-own : (m : ℕ) → bit todo m ≡ true → Among w todo (m + 1) (64 * w + m)
  among-own m b = let e : 64 * w + m - 64 * w ≡ m = omega arith in record { from = omega arith; below = omega arith; chosen = rw e b }

module _ (heads words order state : List ℕ) (w todo : ℕ) (table sets : List ℕ) where
  pub visited-none : VisitedAll heads words order state w todo 0 table table sets sets
  visited-none =
      record {
        entries = refl;
        size = refl;
        testers = λ j b f g. refl;
        sure = λ j b f g. refl;
        awake = λ q l d. refl;
        made = λ q a clock. absurd (omega (arith, a.from, a.below));
        left = λ q d. refl;
        rests = λ n l r c g. g;
      }

  module _ (i m : ℕ) (up : i ≤ m) (none : (j : ℕ) → i ≤ j → j < m → bit todo j ≡ false)
      (table' sets' : List ℕ) (so_far : VisitedAll heads words order state w todo i table table' sets sets') where
    pub visited-end : VisitedAll heads words order state w todo m table table' sets sets'
    visited-end =
        record {
          entries = so_far.entries;
          size = so_far.size;
          testers = so_far.testers;
          sure = so_far.sure;
          awake = λ q l d. so_far.awake q l (λ a. d (among-more w todo i m q up a));
          made = λ q a clock. so_far.made q (among-less w todo i m up none q a) clock;
          left = λ q d. so_far.left q (λ a. d (among-more w todo i m q up a));
          rests = so_far.rests;
        }

    module _ (low : m < 64) (word : w < 4) (here : bit todo m ≡ true) (room : 9 * (64 * w + m) + 9 ≤ length table) (table'' sets'' : List ℕ)
        (v : Visited heads words order state (64 * w + m) table' table'' sets' sets'') where
      abbrev k : ℕ
      k = 64 * w + m

      long : (clock : ℕ) → length (entry_of (rule_in heads words k) (state_in state clock)) ≡ 9
      long clock = entry_length (rule_in heads words k) (state_in state clock)

      room' : 9 * k + 9 ≤ length table'
      room' = omega (arith, so_far.entries)

      own : (clock : ℕ) → entry_at table'' k ≡ entry_of (rule_in heads words k) (state_in state clock)
      own clock = ap (λ (l : List ℕ). entry_at l k) (v.fresh clock) ∙ entry-own table' k (entry_of (rule_in heads words k) (state_in state clock)) (long clock) room'

      other : (q : ℕ) → (q ≡ k → ⊥) → entry_at table'' q ≡ entry_at table' q
      other q d = ap (λ (l : List ℕ). entry_at l q) (v.fresh 0) ∙ entry_other table' k (entry_of (rule_in heads words k) (state_in state 0)) (long 0) room' q d

      not_yet : Among w todo i k → ⊥
      not_yet a = omega (arith, a.below)

      pub visited-turn : VisitedAll heads words order state w todo (m + 1) table table'' sets sets''
      visited-turn =
          record {
            entries = ap length (v.fresh 0) ∙ with-length table' k (entry_of (rule_in heads words k) (state_in state 0)) (long 0) room' ∙ so_far.entries;
            size = v.besides.size ∙ so_far.size;
            testers = λ j b f g. v.besides.testers j b f g ∙ so_far.testers j b f g;
            sure = λ j b f g. v.besides.sure j b f g ∙ so_far.sure j b f g;
            awake = λ q l d.
                v.besides.awake q l (λ e. d (rw e (among-own w todo m here))) ∙ so_far.awake q l (λ a. d (among-more w todo i (m + 1) q (omega arith) a));
            made = λ q a clock. elim (ℕ_discrete q k) [
              | yes e ↦ rw e (own clock)
              | no e ↦ other q e ∙ so_far.made q (among-last w todo i m up none q e a) clock
            ];
            left = λ q d. other q (λ e. d (rw e (among-own w todo m here))) ∙ so_far.left q (λ a. d (among-more w todo i (m + 1) q (omega arith) a));
            rests = λ n l r c g.
                let mine : (k < n) × (is_awake sets k ≡ true) = c k (among-more w todo (m + 1) 64 k (omega arith) (among-own w todo m here)) in
                good-on heads words order state k n table' table'' sets' sets'' (so_far.entries ∙ l) r mine.0 v
                (so_far.awake k (omega arith) not_yet ∙ mine.1) (so_far.rests n l r c g);
          }
