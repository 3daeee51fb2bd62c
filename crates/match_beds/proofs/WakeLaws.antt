-- Waking, bed by bed and word by word.
use Prim.Native.Nat.{ℕ, ◌+◌, ◌*◌, ◌/◌, ◌%◌, ◌≤◌, ◌<◌}
use mathlib.Core.Path.{◌≡◌, refl, sym, ap, ◌∙◌}
use mathlib.Core.Logic.{◌⊎◌, inl, inr, ⊎_elim}
use mathlib.Core.Bool.{Bool, true, false, ◌||◌, or-true}
use mathlib.Core.List.{List}
use native.Mathlib.Omega.{arith}
use native.Mathlib.Decide.{ℕ_discrete}
use lib.Bits.{bit_or}
use lib.ListN.{length, get_or, set, length-set}
use lib.Seq.{get_or-set_same, get_or-set_other}
use Rattle.meaning.specs.Base.{bit}
use Rattle.laws.specs.BaseLaws.{no_true, by-lt}
use Rattle.match_sets.specs.Sets.{has}
use Rattle.match_sets.proofs.BitLaws.{bit-or}
use Rattle.match_beds.specs.Beds.{is_awake, is_used, in_bed, bed_of, Roomy}
use Rattle.match_beds.specs.Woken.{Woke, Called, CalledBy}
use Rattle.match_sets.proofs.BitWalk.{bit-low}

-- ---- waking again, and waking fewer

pub woke-none : (n : ℕ) (which : ℕ → ℕ → Type 0) (sets : List ℕ) → ((h k : ℕ) → which h k → ⊥) → Woke n which sets sets
woke-none n which sets none =
    record { size = refl; kept = λ j i a b. refl; grows = λ k h a. a; stays = λ h k g l b. inl b; wakes = λ h k g l w b. absurd (none h k w) }

pub woke-both : (n : ℕ) (a b c : ℕ → ℕ → Type 0) (s s' s'' : List ℕ) → Woke n a s s' → Woke n b s' s'' → ((h k : ℕ) → c h k → a h k ⊎ b h k) → Woke n c s s''
woke-both n a b c s s' s'' x y either =
    record {
      size = y.size ∙ x.size;
      kept = λ j i f g. y.kept j i f g ∙ x.kept j i f g;
      grows = λ k h e. y.grows k h (x.grows k h e);
      stays = λ h k g l e. ⊎_elim (λ (q : in_bed s' h k ≡ true). y.stays h k g l q) (λ (q : is_awake s' k ≡ true). inr (y.grows k l q)) (x.stays h k g l e);
      wakes = λ h k g l w e.
          ⊎_elim (λ (q : a h k). y.grows k l (x.wakes h k g l q e))
          (λ (q : b h k). ⊎_elim (λ (r : in_bed s' h k ≡ true). y.wakes h k g l q r) (λ (r : is_awake s' k ≡ true). y.grows k l r) (x.stays h k g l e))
          (either h k w);
    }

pub woke-as : (n : ℕ) (a c : ℕ → ℕ → Type 0) (s s' : List ℕ) → Woke n a s s' → ((h k : ℕ) → k < n → c h k → a h k) → Woke n c s s'
woke-as n a c s s' x f =
    record { size = x.size; kept = x.kept; grows = x.grows; stays = x.stays; wakes = λ h k g l w e. x.wakes h k g l (f h k l w) e }

pub roomy-kept : (n : ℕ) (s s' : List ℕ) → length s' ≡ length s → Roomy n s → Roomy n s'
roomy-kept n s s' e r = record { few = r.few; least = rw e r.least; beds = λ k h. rw e (r.beds k h) }

-- ---- one word of a bed

-- the rules of word w in bed h
abbrev pub Word : ℕ → ℕ → ℕ → ℕ → Type 0
Word w h g k = (g ≡ h) × (k / 64 ≡ w)

-- a rule of the words below w + 1 is of one below w, or of w
pub earlier-or : (h w g k : ℕ) → (g ≡ h) × (k / 64 < w + 1) → ((g ≡ h) × (k / 64 < w)) ⊎ Word w h g k
earlier-or h w g k x = by-lt (k / 64) w (λ l. inl (x.0, l)) (λ l. inr (x.0, omega (arith, x.1)))

module _ (n w h : ℕ) (sets : List ℕ) (low : h < 256) (room : 52 + 256 * w + h < length sets) (small : w < 4) (few : n ≤ 256) where
  abbrev pub lifted : List ℕ
  lifted = set (set sets w (bit_or (get_or sets w 0) (get_or sets (52 + 256 * w + h) 0))) (52 + 256 * w + h) 0

  first : List ℕ
  first = set sets w (bit_or (get_or sets w 0) (get_or sets (52 + 256 * w + h) 0))

  size-first : length first ≡ length sets
  unfolding first
  size-first = length-set sets w (bit_or (get_or sets w 0) (get_or sets (52 + 256 * w + h) 0))

  -- another word is as it was
  same : (j i : ℕ) → (j ≡ w → ⊥) → (j ≡ 52 + 256 * w + h → ⊥) → has lifted j i ≡ has sets j i
  unfolding first
  same j i a b = ap (λ (x : ℕ). bit x i) (get_or-set_other first (52 + 256 * w + h) j 0 0 b ∙ get_or-set_other sets w j _ 0 a)

  -- the awake rules of the word
  both : (i : ℕ) → has lifted w i ≡ (has sets w i || has sets (52 + 256 * w + h) i)
  unfolding first
  both i =
      ap (λ (x : ℕ). bit x i) (get_or-set_other first (52 + 256 * w + h) w 0 0 (λ e. omega arith) ∙ get_or-set_same sets w _ 0 (omega arith))
      ∙ bit-or (get_or sets w 0) (get_or sets (52 + 256 * w + h) 0) i

  risen : (k : ℕ) → k / 64 ≡ w → in_bed sets h k ≡ true → is_awake lifted k ≡ true
  risen k e b =
      let q : has sets (52 + 256 * w + h) (k % 64) ≡ true = rw e at b in
      rw e (both (k % 64) ∙ ap (λ (x : Bool). has sets w (k % 64) || x) q ∙ or-true (has sets w (k % 64)))

  awake : (k : ℕ) → k < n → is_awake sets k ≡ true → is_awake lifted k ≡ true
  awake k l a =
      elim (ℕ_discrete (k / 64) w) [
        | yes e ↦
            let q : has sets w (k % 64) ≡ true = rw e at a in
            rw e (both (k % 64) ∙ ap (λ (x : Bool). x || has sets (52 + 256 * w + h) (k % 64)) q)
        | no e ↦ same (k / 64) (k % 64) e (λ z. omega arith) ∙ a
      ]

  pub woke-word : Woke n (Word w h) sets lifted
  unfolding first
  woke-word =
      record {
        size = length-set first (52 + 256 * w + h) 0 ∙ size-first;
        kept = λ j i a b. same j i (λ e. omega arith) (λ e. omega arith);
        grows = awake;
        stays = λ g k u l b. elim (ℕ_discrete g h) [
          | yes e ↦ elim (ℕ_discrete (k / 64) w) [
            | yes q ↦ inr (risen k q (rw e at b))
            | no q ↦ inl (same (52 + 256 * (k / 64) + g) (k % 64) (λ z. omega arith) (λ z. q (omega arith)) ∙ b)
          ]
          | no e ↦ inl (same (52 + 256 * (k / 64) + g) (k % 64) (λ z. omega arith) (λ z. e (omega arith)) ∙ b)
        ];
        wakes = λ g k u l x b. risen k x.1 (rw x.0 at b);
      }

-- ---- the used places of a buffer, one after the other

-- the places of buffer b are the bits of its word
used-bit : (sets : List ℕ) (b j : ℕ) → j < 11 → is_used sets (11 * b + j) ≡ bit (get_or sets (40 + b) 0 % 2048) j
used-bit sets b j h =
    let e : (11 * b + j) / 11 ≡ b = omega arith in
    let f : (11 * b + j) % 11 ≡ j = omega arith in
    rw (e, f) (sym (bit-low 11 (get_or sets (40 + b) 0) j h))

module _ (state sets : List ℕ) (b x i : ℕ) (is : x ≡ get_or sets (40 + b) 0 % 2048) (h : ℕ) where
  module _ (m : ℕ) (none : (j : ℕ) → i ≤ j → j < m → bit x j ≡ false) where
    -- a used place is not one of those that were passed
    passed : (j : ℕ) → j < 11 → i ≤ j → j < m → is_used sets (11 * b + j) ≡ true → ⊥
    passed j l f g u = no_true (sym u ∙ used-bit sets b j l ∙ ap (λ (y : ℕ). bit y j) (sym is) ∙ none j f g)

    pub called-turn : Called state sets b (m + 1) h → Called state sets b i h ⊎ (h ≡ bed_of (11 * b + m) (get_or state (11 * b + m) 0))
    called-turn c =
        by-lt c.at i
        (λ l. inl (record { at = c.at; below = l; low = c.low; used = c.used; visible = c.visible; is = c.is }))
        (λ l. by-lt c.at m (λ g. absurd (passed c.at c.low l g c.used))
        (λ g. inr (let e : c.at ≡ m = omega (arith, c.below) in c.is ∙ ap (λ (j : ℕ). bed_of (11 * b + j) (get_or state (11 * b + j) 0)) e)))

    pub called-end : Called state sets b m h → Called state sets b i h
    called-end c =
        by-lt c.at i
        (λ l. record { at = c.at; below = l; low = c.low; used = c.used; visible = c.visible; is = c.is })
        (λ l. absurd (passed c.at c.low l c.below c.used))

-- ---- the marked buffers, one after the other

module _ (state sets : List ℕ) (mark x b : ℕ) (is : x ≡ mark % 256) (h m : ℕ) (none : (j : ℕ) → b ≤ j → j < m → bit x j ≡ false) where
  unmarked : (j : ℕ) → j < 8 → b ≤ j → j < m → bit mark j ≡ true → ⊥
  unmarked j l f g u = no_true (sym u ∙ sym (bit-low 8 mark j l) ∙ ap (λ (y : ℕ). bit y j) (sym is) ∙ none j f g)

  pub by_turn : CalledBy state sets mark (m + 1) h → CalledBy state sets mark b h ⊎ Called state sets m 11 h
  by_turn c =
      by-lt c.buffer b
      (λ l. inl (record { buffer = c.buffer; below = l; low = c.low; marked = c.marked; called = c.called }))
      (λ l. by-lt c.buffer m (λ g. absurd (unmarked c.buffer c.low l g c.marked))
      (λ g. inr (let e : c.buffer ≡ m = omega (arith, c.below) in rw e at c.called)))

  pub by_end : CalledBy state sets mark m h → CalledBy state sets mark b h
  by_end c =
      by-lt c.buffer b
      (λ l. record { buffer = c.buffer; below = l; low = c.low; marked = c.marked; called = c.called })
      (λ l. absurd (unmarked c.buffer c.low l c.below c.marked))

-- the places of a buffer are used or not as they were before some were woken
pub called-kept : (state sets sets' : List ℕ) (b i h : ℕ) → b < 8 → ((j k : ℕ) → 4 ≤ j → j < 52 → has sets' j k ≡ has sets j k)
    → Called state sets b i h → Called state sets' b i h
called-kept state sets sets' b i h low kept c =
    record {
      at = c.at;
      below = c.below;
      low = c.low;
      used = kept (40 + (11 * b + c.at) / 11) ((11 * b + c.at) % 11) (omega arith) (omega (arith, c.low)) ∙ c.used;
      visible = c.visible;
      is = c.is;
    }
