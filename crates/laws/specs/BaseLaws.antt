-- Laws of truth values, of `every`, `keep` and `up_from`, and of marks as numbers.
use Rattle.std.specs.Prelude.{◌≡◌, refl, Bool, true, false, ◌&&◌, ◌||◌, not, ◌⊎◌, ℕ, zero, suc, ◌+◌, ◌≤◌, ◌<◌, ◌*◌, ◌/◌, ◌%◌, min, ◌-◌, eqb, length, get_or, replicate}
use Rattle.std.proofs.Common.{sym, ap, ◌∙◌, ⊎_elim, arith, add-zero, eqb-true, eq-eqb, ne_eqb}
use mathlib.Core.List.Memᴰ
use mathlib.Core.List.{List, [], ◌∷◌, ◌++◌, map, Memᴰ}
use Rattle.std.proofs.Math.Nat.{zero-min, min-le_left}
use Rattle.std.proofs.Math.Decide.{ℕ_discrete, dec_lt}
use Rattle.std.proofs.lemmas.Bool.{eqb-false}
use Rattle.std.specs.Int.Bits.{bit_and, and_step}
use Rattle.std.proofs.Math.Pow.{low}
use Rattle.meaning.specs.Base.{every, admit, keep, up_from, weigh, bit}

-- ---- what a true `&&` and a false `||` say of their parts

pub no_true : true ≡ false → ⊥
no_true e = let z : ◌≡◌ {A = ℕ} 0 1 = cc in omega arith

pub and_left : (a b : Bool) → (a && b) ≡ true → a ≡ true
and_left true b e = refl
and_left false b e = e

pub and_right : (a b : Bool) → (a && b) ≡ true → b ≡ true
and_right true b e = e
and_right false b e = absurd (no_true (sym e))

pub or_left : (a b : Bool) → (a || b) ≡ false → a ≡ false
or_left true b e = e
or_left false b e = refl

pub or_right : (a b : Bool) → (a || b) ≡ false → b ≡ false
or_right true b e = cc
or_right false b e = e

-- ---- two numbers

-- by whether a is below b
pub by-lt : {C : Type 0} (a b : ℕ) → (a < b → C) → (b ≤ a → C) → C
by-lt a b f g = elim (dec_lt a b) [ yes h ↦ f h | no h ↦ g (omega arith) ]

-- ---- `every`

-- what passes of each element passes of a member
pub every-member : {A : Type 0} (p : A → Bool) (xs : List A) {y : A} → every p xs ≡ true → Memᴰ y xs → p y ≡ true
every-member p [] e h = absurd (Memᴰ.not-nil h)
every-member p (x ∷ xs) {y} e h =
    ⊎_elim (λ (q : y ≡ x). rw q (and_left (p x) (every p xs) e)) (λ (k : Memᴰ y xs). every-member p xs (and_right (p x) (every p xs) e) k)
    (Memᴰ.cases_cons h)

pub every_append : {A : Type 0} (p : A → Bool) (xs ys : List A) → every p xs ≡ true → every p ys ≡ true → every p (xs ++ ys) ≡ true
every_append p [] ys e f = f
every_append p (x ∷ xs) ys e f = rw (and_left (p x) (every p xs) e) (every_append p xs ys (and_right (p x) (every p xs) e) f)

pub every-replicate : {A : Type 0} (p : A → Bool) (n : ℕ) (x : A) → p x ≡ true → every p (replicate n x) ≡ true
every-replicate p zero x e = refl
every-replicate p (suc n) x e = rw e (every-replicate p n x e)

pub every_map : {A B : Type 0} (p : B → Bool) (f : A → B) (xs : List A) → every p (map f xs) ≡ every (λ x. p (f x)) xs
every_map p f [] = refl
every_map p f (x ∷ xs) = ap (λ (t : Bool). p (f x) && t) (every_map p f xs)

-- ---- `keep`

no-cons : {A : Type 0} (x : A) (xs : List A) → x ∷ xs ≡ [] → ⊥
no-cons x xs e = let z : ◌≡◌ {A = ℕ} 0 1 = cc in omega arith

module _ {A : Type 0} (p : A → Bool) where
  pub keep-none : (xs : List A) → keep p xs ≡ [] → every (λ x. not (p x)) xs ≡ true
  keep-none [] e = refl
  keep-none (x ∷ xs) e =
      (elim (p x) as (λ t. admit t x (keep p xs) ≡ [] → (not t && every (λ x. not (p x)) xs) ≡ true) [
        | true ↦ λ h. absurd (no-cons x (keep p xs) h)
        | false ↦ λ h. keep-none xs h
      ]) e

  pub none-keep : (xs : List A) → every (λ x. not (p x)) xs ≡ true → keep p xs ≡ []
  none-keep [] e = refl
  none-keep (x ∷ xs) e =
      (elim (p x) as (λ t. (not t && every (λ x. not (p x)) xs) ≡ true → admit t x (keep p xs) ≡ []) [
        | true ↦ λ h. absurd (no_true (sym h))
        | false ↦ λ h. none-keep xs h
      ]) e

  pub keep-member : (xs : List A) {y : A} → Memᴰ y (keep p xs) → Memᴰ y xs × (p y ≡ true)
  keep-member [] h = absurd (Memᴰ.not-nil h)
  keep-member (x ∷ xs) {y} h =
      (elim (p x) as (λ t. p x ≡ t → Memᴰ y (admit t x (keep p xs)) → Memᴰ y (x ∷ xs) × (p y ≡ true)) [
        | true ↦ λ e k.
            ⊎_elim (λ (q : y ≡ x). (Memᴰ.head q, rw q e)) (λ (m : Memᴰ y (keep p xs)). (Memᴰ.tail (keep-member xs m).0, (keep-member xs m).1))
            (Memᴰ.cases_cons k)
        | false ↦ λ e k. (Memᴰ.tail (keep-member xs k).0, (keep-member xs k).1)
      ]) refl h

  pub member-keep : (xs : List A) {y : A} → Memᴰ y xs → p y ≡ true → Memᴰ y (keep p xs)
  member-keep [] h t = absurd (Memᴰ.not-nil h)
  member-keep (x ∷ xs) {y} h t =
      (elim (p x) as (λ b. p x ≡ b → Memᴰ y (admit b x (keep p xs))) [
        | true ↦ λ e.
            ⊎_elim (λ (q : y ≡ x). Memᴰ.head q) (λ (m : Memᴰ y xs). Memᴰ.tail (member-keep xs m t)) (Memᴰ.cases_cons h)
        | false ↦ λ e.
            ⊎_elim (λ (q : y ≡ x). absurd (no_true (sym t ∙ ap p q ∙ e))) (λ (m : Memᴰ y xs). member-keep xs m t) (Memᴰ.cases_cons h)
      ]) refl

-- ---- `up_from`

-- a test that passes at n numbers from i on passes at each of them
pub every-up_from : (p : ℕ → Bool) (i n : ℕ) → every p (up_from i n) ≡ true → (k : ℕ) → i ≤ k → k < i + n → p k ≡ true
every-up_from p i zero e k h l = absurd (omega arith)
every-up_from p i (suc n) e k h l =
    (elim (eqb k i) as (λ t. eqb k i ≡ t → p k ≡ true) [
      | true ↦ λ t. let q : k ≡ i = eqb-true k i t in rw q (and_left (p i) (every p (up_from (i + 1) n)) e)
      | false ↦ λ t. let q : k ≡ i → ⊥ = eqb-false k i t in every-up_from p (i + 1) n (and_right (p i) (every p (up_from (i + 1) n)) e) k (omega arith) (omega arith)
    ]) refl

-- what stands in a list made of n numbers from i on
pub get_or-up_from : (f : ℕ → Bool) (i n b : ℕ) → b < n → get_or (map f (up_from i n)) b false ≡ f (i + b)
get_or-up_from f i zero b h = absurd (omega arith)
get_or-up_from f i (suc n) zero h = rw add-zero
get_or-up_from f i (suc n) (suc b) h = get_or-up_from f (i + 1) n b (omega arith) ∙ ap f (omega arith)

pub length-up_from : (f : ℕ → ℕ) (i n : ℕ) → length (map f (up_from i n)) ≡ n
length-up_from f i zero = refl
length-up_from f i (suc n) = ap suc (length-up_from f (i + 1) n)

-- ---- marks as numbers

pub bit-weigh : (bs : List Bool) (b : ℕ) → bit (weigh bs) b ≡ get_or bs b false
bit-weigh [] zero = refl
bit-weigh [] (suc b) = bit-weigh [] b
bit-weigh (true ∷ bs) zero = eq-eqb ((1 + 2 * weigh bs) % 2) 1 (omega arith)
bit-weigh (false ∷ bs) zero = ne_eqb ((0 + 2 * weigh bs) % 2) 1 (omega arith)
bit-weigh (true ∷ bs) (suc b) = let e : (1 + 2 * weigh bs) / 2 ≡ weigh bs = omega arith in rw e (bit-weigh bs b)
bit-weigh (false ∷ bs) (suc b) = let e : (0 + 2 * weigh bs) / 2 ≡ weigh bs = omega arith in rw e (bit-weigh bs b)

pub bit-zero : (b : ℕ) → bit 0 b ≡ false
bit-zero zero = refl
bit-zero (suc b) = bit-zero b

-- ---- a place of a conjunction is set where it is in both

min-bit : (x y : ℕ) → x < 2 → y < 2 → eqb (min x y) 1 ≡ (eqb x 1 && eqb y 1)
min-bit zero y h g = rw (zero-min y)
min-bit (suc zero) zero h g = refl
min-bit (suc zero) (suc zero) h g = refl
min-bit (suc zero) (suc (suc y)) h g = absurd (omega arith)
min-bit (suc (suc x)) y h g = absurd (omega arith)

pub bit-and : (a b k : ℕ) → bit (bit_and a b) k ≡ (bit a k && bit b k)
bit-and a b zero =
    let n : ℕ = bit_and (a / 2) (b / 2) in
    let low : min (a % 2) (b % 2) ≤ a % 2 = min-le_left (a % 2) (b % 2) in
    let e : bit_and a b % 2 ≡ min (a % 2) (b % 2) = rw (and_step a b) (omega arith) in
    rw e (min-bit (a % 2) (b % 2) (omega arith) (omega arith))
bit-and a b (suc k) =
    let low : min (a % 2) (b % 2) ≤ a % 2 = min-le_left (a % 2) (b % 2) in
    let e : bit_and a b / 2 ≡ bit_and (a / 2) (b / 2) = rw (and_step a b) (omega arith) in
    rw e (bit-and (a / 2) (b / 2) k)

-- ---- a number that is not 0 has a place that is set

pub record Place (n : ℕ) : Type 0 where
  pub at : ℕ
  pub is_set : bit n at ≡ true

pub some-place : (fuel n : ℕ) → n ≤ fuel → (n ≡ 0 → ⊥) → Place n
some-place zero n h z = absurd (z (omega arith))
some-place (suc fuel) n h z =
    elim (ℕ_discrete (n % 2) 1) [
      | yes e ↦ record { at = 0; is_set = eq-eqb (n % 2) 1 e }
      | no e ↦ let p : Place (n / 2) = some-place fuel (n / 2) (omega arith) (λ q. z (omega arith)) in record { at = suc p.at; is_set = p.is_set }
    ]
