-- What a rule that lies down leaves of the sets, and the rules of a word that are testers of a marked buffer.
use Prim.Native.Nat.{ℕ, ◌+◌, ◌*◌, ◌/◌, ◌%◌, ◌≤◌, ◌<◌}
use mathlib.Core.Path.{◌≡◌, refl, sym, ap, ◌∙◌}
use mathlib.Core.Bool.{Bool, true, false, ◌&&◌, ◌||◌, not, or-true}
use mathlib.Core.List.{List}
use native.Mathlib.Omega.{arith}
use native.Mathlib.Nat.{zero-add}
use lib.Bits.{bit_or}
use lib.Dec.{eqb}
use lib.ListN.{length, get_or}
use Rattle.meaning.specs.Base.{bit}
use Rattle.laws.specs.BaseLaws.{no_true, by-lt, bit-zero}
use Rattle.match_sets.specs.Sets.{has}
use Rattle.match_sets.proofs.BitLaws.{bit-or}
use Rattle.match_sets.proofs.SetLaws.{put_in, put-kept, put_word, remove-out, remove-word, remove-other}
use Rattle.match_beds.specs.Beds.{is_awake, is_used, in_bed, bed_of}
use Rattle.match_beds.specs.Moves.{Touch, Touches, Lain}
use Rattle.match_sets.proofs.BitWalk.{bit-low}

abbrev pub PutIn : ℕ → ℕ → List ℕ → List ℕ → Type 0
PutIn at k sets sets' = (j i : ℕ) → has sets' j i ≡ (has sets j i || (eqb j (at + k / 64) && eqb i (k % 64)))

abbrev pub TakenOut : ℕ → ℕ → List ℕ → List ℕ → Type 0
TakenOut at k sets sets' = (j i : ℕ) → has sets' j i ≡ (has sets j i && not (eqb j (at + k / 64) && eqb i (k % 64)))

-- ---- a rule lies down

module _ (s s₁ s₂ s₃ : List ℕ) (k place value : ℕ) (few : k < 256) (low : place < 88)
    (one : length s₁ ≡ length s) (two : length s₂ ≡ length s₁) (three : length s₃ ≡ length s₂)
    (bedded : PutIn (52 + 255 * (k / 64) + bed_of place value) k s s₁) (noted : PutIn (40 + place / 11) (place % 11) s₁ s₂) (risen : TakenOut 0 k s₂ s₃) where
  -- a word that is none of the three
  same : (j i : ℕ) → 4 ≤ j → j < 52 → (40 ≤ j → 48 ≤ j) → has s₃ j i ≡ has s j i
  same j i a b c =
      remove-word s₂ s₃ 0 k risen j i (λ e. omega arith)
      ∙ put_word s₁ s₂ (40 + place / 11) (place % 11) noted j i (λ e. omega (arith, c (omega arith)))
      ∙ put_word s s₁ (52 + 255 * (k / 64) + bed_of place value) k bedded j i (λ e. omega arith)

  -- what is set in a word from 40 on stays so
  stays : (j i : ℕ) → 40 ≤ j → has s j i ≡ true → has s₃ j i ≡ true
  stays j i a b =
      remove-word s₂ s₃ 0 k risen j i (λ e. omega arith)
      ∙ put-kept s₁ s₂ (40 + place / 11) (place % 11) noted j i (put-kept s s₁ (52 + 255 * (k / 64) + bed_of place value) k bedded j i b)

  awake-other : (q : ℕ) → q < 256 → (q ≡ k → ⊥) → is_awake s₃ q ≡ is_awake s q
  awake-other q l d =
      ap (λ (j : ℕ). has s₃ j (q % 64)) (sym (zero-add (q / 64)))
      ∙ remove-other s₂ s₃ 0 k risen q d
      ∙ ap (λ (j : ℕ). has s₂ j (q % 64)) (zero-add (q / 64))
      ∙ put_word s₁ s₂ (40 + place / 11) (place % 11) noted (q / 64) (q % 64) (λ e. omega arith)
      ∙ put_word s s₁ (52 + 255 * (k / 64) + bed_of place value) k bedded (q / 64) (q % 64) (λ e. omega arith)

  pub lain : Lain k place value s s₃
  lain =
      record {
        besides = record {
          size = three ∙ two ∙ one;
          testers = λ j i a b. same j i (omega arith) (omega arith) (λ c. absurd (omega arith));
          sure = λ j i a b. same j i (omega arith) b (λ c. a);
          awake = awake-other;
          beds = λ h q l m b. stays (52 + 256 * (q / 64) + h) (q % 64) (omega arith) b;
          used = λ p l u. stays (40 + p / 11) (p % 11) (omega arith) u;
        };
        hits = λ j i a b. same j i a (omega arith) (λ c. absurd (omega arith));
        asleep = ap (λ (j : ℕ). has s₃ j (k % 64)) (sym (zero-add (k / 64))) ∙ remove-out s₂ s₃ 0 k risen;
        bed =
            let e : 52 + 255 * (k / 64) + bed_of place value + k / 64 ≡ 52 + 256 * (k / 64) + bed_of place value = omega arith in
            let here : in_bed s₁ (bed_of place value) k ≡ true = rw e at (put_in s s₁ (52 + 255 * (k / 64) + bed_of place value) k bedded) in
            remove-word s₂ s₃ 0 k risen (52 + 256 * (k / 64) + bed_of place value) (k % 64) (λ z. omega arith)
            ∙ put-kept s₁ s₂ (40 + place / 11) (place % 11) noted (52 + 256 * (k / 64) + bed_of place value) (k % 64) here;
        down =
            let e : 40 + place / 11 + place % 11 / 64 ≡ 40 + place / 11 = omega arith in
            let f : place % 11 % 64 ≡ place % 11 = omega arith in
            let here : is_used s₂ place ≡ true = rw (e, f) at (put_in s₁ s₂ (40 + place / 11) (place % 11) noted) in
            remove-word s₂ s₃ 0 k risen (40 + place / 11) (place % 11) (λ z. omega arith) ∙ here;
      }

-- ---- the rules of a word that are testers of a marked buffer

pub by-or : {C : Type 0} (a b : Bool) → (a || b) ≡ true → (a ≡ true → C) → (b ≡ true → C) → C
by-or true b e f g = f refl
by-or false b e f g = g e

module _ (sets : List ℕ) (w mark x b : ℕ) (is : x ≡ mark % 256) where
  marked-bit : (j : ℕ) → j < 8 → bit x j ≡ bit mark j
  marked-bit j h = ap (λ (y : ℕ). bit y j) is ∙ bit-low 8 mark j h

  touch-more : (m i : ℕ) → b ≤ m → Touch sets w mark b i → Touch sets w mark m i
  touch-more m i h t = record { buffer = t.buffer; below = omega (arith, t.below); low = t.low; marked = t.marked; tested = t.tested }

  module _ (m r : ℕ) (up : b ≤ m) (none : (j : ℕ) → b ≤ j → j < m → bit x j ≡ false) (so_far : Touches sets w mark b r) where
    passed : (j : ℕ) → j < 8 → b ≤ j → j < m → bit mark j ≡ true → ⊥
    passed j l f g u = no_true (sym u ∙ sym (marked-bit j l) ∙ none j f g)

    pub touches-turn : m < 8 → bit x m ≡ true → Touches sets w mark (m + 1) (bit_or r (get_or sets (8 + 8 * w + m) 0))
    touches-turn low here =
        record {
          some = λ i t.
              by-or (bit r i) (has sets (8 + 8 * w + m) i) (sym (bit-or r (get_or sets (8 + 8 * w + m) 0) i) ∙ t)
              (λ e. touch-more (m + 1) i (omega arith) (so_far.some i e))
              (λ e. record { buffer = m; below = omega arith; low = low; marked = sym (marked-bit m low) ∙ here; tested = e });
          all = λ i t. bit-or r (get_or sets (8 + 8 * w + m) 0) i
              ∙ by-lt t.buffer b
              (λ l. ap (λ (y : Bool). y || has sets (8 + 8 * w + m) i) (so_far.all i (record { buffer = t.buffer; below = l; low = t.low; marked = t.marked; tested = t.tested })))
              (λ l. by-lt t.buffer m (λ g. absurd (passed t.buffer t.low l g t.marked))
              (λ g.
              let e : t.buffer ≡ m = omega (arith, t.below) in
              let own : has sets (8 + 8 * w + m) i ≡ true = rw e at t.tested in
              ap (λ (y : Bool). bit r i || y) own ∙ or-true (bit r i)));
        }

    pub touches-end : Touches sets w mark m r
    touches-end =
        record {
          some = λ i t. touch-more m i up (so_far.some i t);
          all = λ i t. by-lt t.buffer b
              (λ l. so_far.all i (record { buffer = t.buffer; below = l; low = t.low; marked = t.marked; tested = t.tested }))
              (λ l. absurd (passed t.buffer t.low l t.below t.marked));
        }

pub touches_none : (sets : List ℕ) (w mark : ℕ) → Touches sets w mark 0 0
touches_none sets w mark = record { some = λ i t. absurd (no_true (sym t ∙ bit-zero i)); all = λ i t. absurd (omega (arith, t.below)) }
