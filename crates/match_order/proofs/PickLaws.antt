-- The first place whose rule matches holds the rule that the definition chooses.
use Prim.Native.Nat.{ℕ, ◌+◌, ◌-◌, ◌*◌, ◌/◌, ◌%◌, ◌≤◌, ◌<◌}
use mathlib.Core.Path.{◌≡◌, sym, ap, ◌∙◌}
use mathlib.Core.Bool.{true, false, ◌||◌, ◌&&◌}
use mathlib.Core.List.{List}
use mathlib.Core.Option as math
use Rattle.std.specs.Prelude.{Some, None, take, drop, length}
use lib.Seq.{get_or-take, get_or-drop}
use Rattle.std.proofs.Common.{length-take}
use native.Mathlib.Omega.{arith}
use native.Mathlib.Decide.{ℕ_discrete}
use lib.Dec.{eqb}
use lib.ListN.{get_or}
use Rattle.meaning.specs.Choice.{Candidate, choose, utilities}
use Rattle.meaning.specs.Base.{bit}
use Rattle.laws.specs.BaseLaws.{bit-zero}
use Rattle.layout.specs.Rows.{rules_in}
use Rattle.laws.specs.BaseLaws.{no_true}
use Rattle.laws.specs.BaseLaws.{by-lt}
use Rattle.match_sets.specs.Sets.{has, member}
use Rattle.match_sets.proofs.SetLaws.{put_in, put-kept, put_other}
use Rattle.match_choice.specs.Chosen.{candidate_of}
use Rattle.match_best.specs.Chosen.{Below}
use Rattle.match_choice.specs.Ranks.{rank_at, Matching, Highest}
use Rattle.match_choice.proofs.RankLaws.{none-chosen, highest-chosen}
use Rattle.match_order.specs.Order.{Words16, Ranked, Hitting, HitAt, hits, rule_at, place_of}

module _ (heads words table order sets : List ℕ) (n : ℕ) (small : Words16 heads) (ranked : Ranked heads order n) (hitting : Hitting table order sets n) where
  abbrev whole : math.Option Candidate
  whole = choose (rules_in heads words n) (utilities (rules_in heads words n)) table

  -- a place in the set is one of n
  pub place-below : (p : ℕ) → p < 256 → member sets hits p ≡ true → p < n
  place-below p low here =
      let hit : HitAt table order n p = hitting.only p low here in
      omega (arith, ranked.low hit.rule hit.below, hit.placed)

  -- no place is in the set
  pub none-picked : ((p : ℕ) → p < n → member sets hits p ≡ false) → (whole ≡ candidate_of heads words table None) × Below None n
  none-picked none = none-chosen heads words table n (λ k h m. no_true (sym (hitting.all k h m) ∙ none (place_of order k) (ranked.low k h)))

  module _ (p : ℕ) (low : p < 256) (here : member sets hits p ≡ true) (before : (q : ℕ) → q < p → member sets hits q ≡ false) where
    hit : HitAt table order n p
    hit = hitting.only p low here

    is : rule_at order p ≡ hit.rule
    is = ap (rule_at order) (sym hit.placed) ∙ ranked.back hit.rule hit.below

    over : (k : ℕ) → k < n → Matching table k → rank_at heads k ≤ rank_at heads hit.rule
    over k h m =
        ranked.falls hit.rule k hit.below h
        (by-lt (place_of order k) p (λ l. absurd (no_true (sym (hitting.all k h m) ∙ before (place_of order k) l))) (λ l. omega (arith, hit.placed)))

    pub first-picked : (whole ≡ candidate_of heads words table (Some (rule_at order p))) × Below (Some (rule_at order p)) n
    first-picked =
        let top : Highest heads table n hit.rule = record { below = hit.below; matching = hit.matching; over = over } in
        rw is (highest-chosen heads words table n ranked.few small hit.rule top)

-- ---- the set is laid out rule by rule

module _ (table order sets sets' : List ℕ) (k : ℕ) (so_far : Hitting table order sets k) where
  hit-more : (p : ℕ) → HitAt table order k p → HitAt table order (k + 1) p
  hit-more p h = record { rule = h.rule; below = omega (arith, h.below); placed = h.placed; matching = h.matching }

  pub hitting-put : Matching table k → ((j i : ℕ) → has sets' j i ≡ (has sets j i || (eqb j (4 + place_of order k / 64) && eqb i (place_of order k % 64))))
      → Hitting table order sets' (k + 1)
  hitting-put m put =
      record {
        all = λ j h n. elim (ℕ_discrete j k) [
          | yes e ↦ rw e (put_in sets sets' 4 (place_of order k) put)
          | no e ↦ put-kept sets sets' 4 (place_of order k) put (4 + place_of order j / 64) (place_of order j % 64) (so_far.all j (omega arith) n)
        ];
        only = λ p h is. elim (ℕ_discrete p (place_of order k)) [
          | yes e ↦ record { rule = k; below = omega arith; placed = sym e; matching = m }
          | no e ↦ hit-more p (so_far.only p h (sym (put_other sets sets' 4 (place_of order k) put p e) ∙ is))
        ];
      }

  pub hitting-skip : (Matching table k → ⊥) → ((j i : ℕ) → has sets' j i ≡ has sets j i) → Hitting table order sets' (k + 1)
  hitting-skip misses same =
      record {
        all = λ j h m. elim (ℕ_discrete j k) [
          | yes e ↦ absurd (misses (rw e at m))
          | no e ↦ same (4 + place_of order j / 64) (place_of order j % 64) ∙ so_far.all j (omega arith) m
        ];
        only = λ p h is. hit-more p (so_far.only p h (sym (same (4 + p / 64) (p % 64)) ∙ is));
      }

pub hitting-none : (table order sets : List ℕ) → ((p : ℕ) → p < 256 → member sets hits p ≡ false) → Hitting table order sets 0
hitting-none table order sets none = record { all = λ j h m. absurd (omega arith); only = λ p h is. absurd (no_true (sym is ∙ none p h)) }

-- ---- the places word by word

-- a word of the set, among those looked at
pub word_in : (sets : List ℕ) (a w : ℕ) → w < length (take a (drop 4 sets)) → get_or (take a (drop 4 sets)) w 0 ≡ get_or sets (4 + w) 0
word_in sets a w h = get_or-take a (drop 4 sets) w 0 (omega (arith, length-take a (drop 4 sets))) ∙ get_or-drop 4 sets w 0

-- no bit of empty words
pub none_before : (sets : List ℕ) (a w : ℕ) → w ≤ length (take a (drop 4 sets)) → ((k : ℕ) → k < w → get_or (take a (drop 4 sets)) k 0 ≡ 0)
    → (p : ℕ) → p < 64 * w → member sets hits p ≡ false
none_before sets a w here none p h =
    let e : get_or sets (4 + p / 64) 0 ≡ 0 = sym (word_in sets a (p / 64) (omega arith)) ∙ none (p / 64) (omega arith) in
    rw e (bit-zero (p % 64))

-- the lowest bit of the first word that is not empty
pub first-place : (sets : List ℕ) (w z : ℕ) → z < 64 → ((j : ℕ) → j < z → bit (get_or sets (4 + w) 0) j ≡ false) → ((p : ℕ) → p < 64 * w → member sets hits p ≡ false)
    → (p : ℕ) → p < 64 * w + z → member sets hits p ≡ false
first-place sets w z low none before p h =
    by-lt p (64 * w) (λ l. before p l)
    (λ l.
    let q : p / 64 ≡ w = omega arith in
    let r : p % 64 ≡ p - 64 * w = omega arith in
    rw (q, r) (none (p - 64 * w) (omega arith)))

pub this_place : (sets : List ℕ) (w z : ℕ) → z < 64 → bit (get_or sets (4 + w) 0) z ≡ true → member sets hits (64 * w + z) ≡ true
this_place sets w z low is =
    let q : (64 * w + z) / 64 ≡ w = omega arith in
    let r : (64 * w + z) % 64 ≡ z = omega arith in
    rw (q, r) is
