-- The sets as a run begins: words of ones, the testers, and words that are cleared.
use Prim.Native.Nat.{ℕ, zero, suc, ◌+◌, ◌-◌, ◌*◌, ◌/◌, ◌%◌, ◌^◌, ◌≤◌, ◌<◌}
use mathlib.Core.Path.{◌≡◌, refl, sym, ap, ◌∙◌}
use mathlib.Core.Bool.{Bool, true, false}
use mathlib.Core.List.{List}
use native.Mathlib.Omega.{arith}
use native.Mathlib.Nat.{pow-suc}
use native.Mathlib.Decide.{ℕ_discrete}
use lib.Pow.{pow_pos}
use lib.ListN.{length, get_or, replicate, drop, length-replicate, get_or-append}
use Rattle.std.proofs.Common.{◌++◌}
use Rattle.std.proofs.lemmas.List.{get_or-replicate}
use lib.Seq.{get_or-append_right, get_or-drop}
use borrow.Author.Tests.{eq-eqb}
use Rattle.meaning.specs.Base.{bit}
use Rattle.laws.specs.BaseLaws.{no_true, by-lt, bit-zero}
use Rattle.match_sets.specs.Sets.{has}
use Rattle.match_sets.proofs.SetLaws.{put_in, put-kept, put_word, put_other}
use Rattle.match_beds.specs.Beds.{tests, Testing, Roomy}
use Rattle.match_beds.specs.Moves.{Joins}
use Rattle.match_sets.proofs.BitWalk.{bit-low}
use Rattle.match_beds.proofs.MoveLaws.{PutIn}

-- ---- a word of ones

pub bit-ones : (k j : ℕ) → j < k → bit (2 ^ k - 1) j ≡ true
bit-ones zero j h = absurd (omega arith)
bit-ones (suc k) zero h =
    let p : 0 < 2 ^ k = pow_pos k in
    let e : (2 ^ suc k - 1) % 2 ≡ 1 = rw (pow-suc 2 k) (omega arith) in
    eq-eqb ((2 ^ suc k - 1) % 2) 1 e
bit-ones (suc k) (suc j) h =
    let p : 0 < 2 ^ k = pow_pos k in
    let e : (2 ^ suc k - 1) / 2 ≡ 2 ^ k - 1 = rw (pow-suc 2 k) (omega arith) in
    rw e (bit-ones k j (omega arith))

-- four words of ones in front of the others
module _ (sets ones : List ℕ) (are : ones ≡ replicate 4 (2 ^ 64 - 1)) where
  pub ones_below : (j i : ℕ) → j < 4 → i < 64 → has (ones ++ drop 4 sets) j i ≡ true
  ones_below j i h l =
      rw are
      (ap (λ (x : ℕ). bit x i) (get_or-append (replicate 4 (2 ^ 64 - 1)) (drop 4 sets) 0 j h ∙ get_or-replicate 4 j (2 ^ 64 - 1) 0 h) ∙ bit-ones 64 i l)

  pub ones_beside : (j i : ℕ) → 4 ≤ j → has (ones ++ drop 4 sets) j i ≡ has sets j i
  ones_beside j i h =
      let e : 4 + (j - 4) ≡ j = omega arith in
      rw are
      (ap (λ (x : ℕ). bit x i)
      (get_or-append_right (replicate 4 (2 ^ 64 - 1)) (drop 4 sets) j 0 h ∙ get_or-drop 4 sets (j - 4) 0 ∙ ap (λ (k : ℕ). get_or sets k 0) e))

-- ---- a rule joins the testers of its buffers

pub joins-none : (k mask : ℕ) (sets : List ℕ) → Joins k mask 0 sets sets
joins-none k mask sets = record { size = refl; joined = λ b h l m. absurd (omega arith); apart = λ b l m. refl; others = λ b q l h d. refl; words = λ j i d. refl }

module _ (k mask x i : ℕ) (is : x ≡ mask % 256) (sets sets' : List ℕ) (so_far : Joins k mask i sets sets') (m : ℕ) (none : (j : ℕ) → i ≤ j → j < m → bit x j ≡ false) where
  skipped : (b : ℕ) → b < 8 → i ≤ b → b < m → bit mask b ≡ true → ⊥
  skipped b l f g u = no_true (sym u ∙ sym (bit-low 8 mask b l) ∙ ap (λ (y : ℕ). bit y b) (sym is) ∙ none b f g)

  pub joins-end : Joins k mask m sets sets'
  joins-end =
      record {
        size = so_far.size;
        joined = λ b h l u. by-lt b i (λ g. so_far.joined b g l u) (λ g. absurd (skipped b l g h u));
        apart = so_far.apart;
        others = so_far.others;
        words = so_far.words;
      }

  module _ (few : k < 256) (low : m < 8) (here : bit x m ≡ true) (sets'' : List ℕ) (size : length sets'' ≡ length sets') (put : PutIn (8 + 7 * (k / 64) + m) k sets' sets'') where
    abbrev at : ℕ
    at = 8 + 7 * (k / 64) + m

    index : 8 + 7 * (k / 64) + m + k / 64 ≡ 8 + 8 * (k / 64) + m
    index = omega arith

    own : tests sets'' m k ≡ true
    own = rw index at (put_in sets' sets'' at k put)

    others-as : (b q : ℕ) → b < 8 → q < 256 → (q ≡ k → ⊥) → tests sets'' b q ≡ tests sets' b q
    others-as b q l h d =
        elim (ℕ_discrete (8 + 8 * (q / 64) + b) (8 + 8 * (k / 64) + m)) [
          | yes e ↦
              let w : q / 64 ≡ k / 64 = omega arith in
              let f : at + q / 64 ≡ 8 + 8 * (q / 64) + b = omega arith in
              rw f at (put_other sets' sets'' at k put q d)
          | no e ↦ put_word sets' sets'' at k put (8 + 8 * (q / 64) + b) (q % 64) (λ z. e (omega arith))
        ]

    pub joins-turn : Joins k mask (m + 1) sets sets''
    joins-turn =
        record {
          size = size ∙ so_far.size;
          joined = λ b h l u. elim (ℕ_discrete b m) [
            | yes e ↦ rw e own
            | no e ↦ put-kept sets' sets'' at k put (8 + 8 * (k / 64) + b) (k % 64) (joins-end.joined b (omega arith) l u)
          ];
          apart = λ b l u. put_word sets' sets'' at k put (8 + 8 * (k / 64) + b) (k % 64) (λ z.
              let e : b ≡ m = omega arith in
              no_true (sym (rw e (sym (bit-low 8 mask m low) ∙ ap (λ (y : ℕ). bit y m) (sym is) ∙ here)) ∙ u)) ∙ so_far.apart b l u;
          others = λ b q l h d. others-as b q l h d ∙ so_far.others b q l h d;
          words = λ j c d. put_word sets' sets'' at k put j c (λ z. d (omega arith) (omega arith)) ∙ so_far.words j c d;
        }

-- ---- the testers of the rules below k

pub testing-none : (heads sets : List ℕ) → ((j i : ℕ) → 8 ≤ j → j < 40 → has sets j i ≡ false) → Testing heads 0 sets
testing-none heads sets none =
    record {
      all = λ b k l h. absurd (omega arith);
      only = λ b k l h t. absurd (no_true (sym t ∙ none (8 + 8 * (k / 64) + b) (k % 64) (omega arith) (omega arith)));
    }

pub testing-turn : (heads : List ℕ) (k : ℕ) (sets sets' : List ℕ) → k < 256 → Testing heads k sets → Joins k (get_or heads (4 * k + 3) 0) 8 sets sets' → Testing heads (k + 1) sets'
testing-turn heads k sets sets' few t joins =
    record {
      all = λ b q l h. elim (ℕ_discrete q k) [
        | yes e ↦ rw e (own b l (bit (get_or heads (4 * k + 3) 0) b) refl)
        | no e ↦ joins.others b q l (omega arith) e ∙ t.all b q l (omega arith)
      ];
      only = λ b q l h u. elim (ℕ_discrete q k) [
        | yes e ↦ omega arith
        | no e ↦ omega (arith, t.only b q l h (sym (joins.others b q l h e) ∙ u))
      ];
    }
  where
    not_yet : (b : ℕ) → b < 8 → (x : Bool) → tests sets b k ≡ x → tests sets b k ≡ false
    not_yet b l true e = absurd (omega (arith, t.only b k l few e))
    not_yet b l false e = e

    own : (b : ℕ) → b < 8 → (x : Bool) → bit (get_or heads (4 * k + 3) 0) b ≡ x → tests sets' b k ≡ bit (get_or heads (4 * k + 3) 0) b
    own b l true e = joins.joined b l l e ∙ sym e
    own b l false e = joins.apart b l e ∙ not_yet b l (tests sets b k) refl ∙ sym e

-- ---- words that are cleared

zero_word : (n j : ℕ) → get_or {A = ℕ} (replicate n 0) j 0 ≡ 0
zero_word zero zero = refl
zero_word zero (suc j) = refl
zero_word (suc n) zero = refl
zero_word (suc n) (suc j) = zero_word n j

pub no-bit : (n j i : ℕ) → has (replicate n 0) j i ≡ false
no-bit n j i = ap (λ (x : ℕ). bit x i) (zero_word n j) ∙ bit-zero i

-- room for any number of rules, and for at most 64
pub roomy-large : (n : ℕ) → n ≤ 256 → Roomy n (replicate 1076 0)
roomy-large n h = let e : length {A = ℕ} (replicate 1076 0) ≡ 1076 = length-replicate {A = ℕ} 1076 0 in record { few = h; least = omega arith; beds = λ k l. omega arith }

pub roomy-small : (n : ℕ) → n ≤ 64 → Roomy n (replicate 308 0)
roomy-small n h = let e : length {A = ℕ} (replicate 308 0) ≡ 308 = length-replicate {A = ℕ} 308 0 in record { few = omega arith; least = omega arith; beds = λ k l. omega arith }
