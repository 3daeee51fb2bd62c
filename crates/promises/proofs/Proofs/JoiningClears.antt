-- What joins a store in a step: the chunks that its rule clears, each once, and none that is known.
use Rattle.std.specs.Prelude.{if◌then◌else◌, ◌≡◌, refl, ◌⊎◌, Bool, true, false, ◌&&◌, ◌||◌, not, List, [], ◌∷◌, ◌++◌, map, ℕ, suc, ◌+◌, ◌<◌, eqb, length, get_or}
use Rattle.std.proofs.Common.{sym, ap, ap₂, subst, ◌∙◌, inl, inr, arith, eqb-true, eq-eqb}
use Rattle.std.proofs.Math.Option.{Option, none, some}
use Rattle.meaning.specs.declared.Buffer.{Buffer}
use Rattle.meaning.specs.Base.{every, any_of, same}
use Rattle.meaning.specs.Model.{Action, Deed, deed_modify, deed_request, deed_clear, Chunk}
use Rattle.meaning.specs.State.{nothing, visible, is_nil}
use Rattle.meaning.specs.Fire.{deed_on}
use Rattle.meaning.specs.Learning.{chunk_of, is_clear, equal, joining}
use Rattle.laws.specs.BaseLaws.{no_true, and_left, and_right}
use Rattle.promises.specs.Words.{At, first, next}
use Rattle.promises.proofs.Proofs.Decoded.{and-true}
use Rattle.promises.proofs.Proofs.Steps.{same_true, same_refl}

-- ---- places in lists

module _ {A : Type 0} where
  pub at_left : {x : A} {k : ℕ} {xs : List A} → At x k xs → (ys : List A) → At x k (xs ++ ys)
  at_left first ys = first
  at_left (next h) ys = next (at_left h ys)

  pub at_right : {x : A} {k : ℕ} (xs : List A) {ys : List A} → At x k ys → At x (length xs + k) (xs ++ ys)
  at_right {x} {k} [] {ys} h = subst (λ (j : ℕ). At x j ys) (omega arith) h
  at_right {x} {k} (y ∷ xs) {ys} h = subst (λ (j : ℕ). At x j (y ∷ xs ++ ys)) (omega arith) (next (at_right xs h))

  -- in the first list, or in the second
  pub data Split (x : A) (k : ℕ) (xs ys : List A) : Type 0 where
    before : At x k xs → Split x k xs ys
    after : (j : ℕ) → k ≡ length xs + j → At x j ys → Split x k xs ys

  pub later : {x y : A} {k : ℕ} {xs ys : List A} → Split x k xs ys → Split x (suc k) (y ∷ xs) ys
  later (before h) = before (next h)
  later (after j e h) = after j (omega arith) h

  pub at_split : {x : A} {k : ℕ} (xs : List A) {ys : List A} → At x k (xs ++ ys) → Split x k xs ys
  at_split {k} [] h = after k (omega arith) h
  at_split (y ∷ xs) first = before first
  at_split (y ∷ xs) (next h) = later (at_split xs h)

  -- at the head, or behind it
  pub data Head (x y : A) (k : ℕ) (xs : List A) : Type 0 where
    is-first : k ≡ 0 → x ≡ y → Head x y k xs
    is-next : (j : ℕ) → k ≡ suc j → At x j xs → Head x y k xs

  pub at_head : {x y : A} {k : ℕ} {xs : List A} → At x k (y ∷ xs) → Head x y k xs
  at_head first = is-first refl refl
  at_head (next {k = j} h) = is-next j refl h

  pub at_in : {x : A} {k : ℕ} {xs : List A} → At x k xs → k < length xs
  at_in first = omega arith
  at_in (next h) = omega (arith, at_in h)

  pub no-at : {x : A} {k : ℕ} → At x k [] → ⊥
  no-at h = omega (arith, at_in h)

  pub at_one : {x y : A} {k : ℕ} → At x k (y ∷ []) → x ≡ y
  at_one {x} {y} {k} h = by (at_head h)
    where
      by : Head x y k [] → x ≡ y
      by (is-first e z) = z
      by (is-next j e a) = absurd (no-at a)

  -- somewhere in a list
  abbrev pub In : A → List A → Type 0
  In x xs = (k : ℕ) × At x k xs

  pub at_every : (p : A → Bool) (xs : List A) → ((x : A) (k : ℕ) → At x k xs → p x ≡ true) → every p xs ≡ true
  at_every p [] h = refl
  at_every p (x ∷ xs) h = and-true (p x) (every p xs) (h x 0 first) (at_every p xs (λ y k a. h y (suc k) (next a)))

pub at_map : {A B : Type 0} (f : A → B) {x : A} {k : ℕ} {xs : List A} → At x k xs → At (f x) k (map f xs)
at_map f first = first
at_map f (next h) = next (at_map f h)

-- ---- "with the same type and slots"

pub equal-true : (c d : Chunk) → equal c d ≡ true → c ≡ d
equal-true c d e =
    let i : c.isa ≡ d.isa = eqb-true c.isa d.isa (and_left (eqb c.isa d.isa) (same c.slots d.slots) e) in
    let s : c.slots ≡ d.slots = same_true c.slots d.slots (and_right (eqb c.isa d.isa) (same c.slots d.slots) e) in
    ap₂ (λ (x : ℕ) (xs : List ℕ). record { isa = x; slots = xs }) i s

pub equal-refl : (c : Chunk) → equal c c ≡ true
equal-refl c = and-true (eqb c.isa c.isa) (same c.slots c.slots) (eq-eqb c.isa c.isa refl) (same_refl c.slots)

-- a chunk is known exactly if it stands among the known ones
pub known-any : {c : Chunk} {k : ℕ} {known : List Chunk} → At c k known → any_of (equal c) known ≡ true
known-any {c} (first {xs = xs}) = rw (equal-refl c) refl
known-any {c} (next {y = y} {xs = xs} h) = elim (equal c y) as (λ t. (t || any_of (equal c) xs) ≡ true) [ true ↦ refl | false ↦ known-any h ]

pub any-known : (c : Chunk) (known : List Chunk) → any_of (equal c) known ≡ true → In c known
any-known c [] e = absurd (no_true (sym e))
any-known c (d ∷ known) e =
    (elim (equal c d) as (λ t. equal c d ≡ t → (t || any_of (equal c) known) ≡ true → In c (d ∷ known)) [
      | true ↦ λ q h. (0, subst (λ (x : Chunk). At c 0 (x ∷ known)) (equal-true c d q) first)
      | false ↦ λ q h. let r = any-known c known h in (suc r.0, next r.1)
    ]) refl e

-- ---- what joins

pub not_known : {C : Type 0} {c : Chunk} {k : ℕ} {known : List Chunk} → any_of (equal c) known ≡ false → At c k known → C
not_known e h = absurd (no_true (sym (known-any h) ∙ e))

-- a chunk before others joins unless it is known
module _ (known : List Chunk) (d : Chunk) (cs : List Chunk) where
  abbrev pub joined_by : Bool → List Chunk
  joined_by t = if t then joining known cs else (d ∷ joining (known ++ (d ∷ [])) cs)

-- nothing that is known
pub joining-new : (known cs : List Chunk) (j k : ℕ) (c : Chunk) → At c j (joining known cs) → At c k known → ⊥
unfolding joining
joining-new known [] j k c h g = no-at h
joining-new known (d ∷ cs) j k c h g = by (any_of (equal d) known) refl (λ i a. joining-new known cs i k c a g) (λ i a. joining-new (known ++ (d ∷ [])) cs i k c a (at_left g (d ∷ []))) h
  where
    by : (t : Bool) → any_of (equal d) known ≡ t → ((i : ℕ) → At c i (joining known cs) → ⊥) → ((i : ℕ) → At c i (joining (known ++ (d ∷ [])) cs) → ⊥)
        → At c j (joined_by known d cs t) → ⊥
    by true q ih jh a = ih j a
    by false q ih jh a = off (at_head a)
      where
        off : Head c d j (joining (known ++ (d ∷ [])) cs) → ⊥
        off (is-first e z) = not_known q (subst (λ (x : Chunk). At x k known) z g)
        off (is-next i e b) = jh i b

-- each once
pub joining-once : (known cs : List Chunk) (j k : ℕ) (c : Chunk) → At c j (joining known cs) → At c k (joining known cs) → j ≡ k
unfolding joining
joining-once known [] j k c h g = absurd (no-at h)
joining-once known (d ∷ cs) j k c h g = by (any_of (equal d) known) (λ i l a b. joining-once known cs i l c a b) (λ i l a b. joining-once (known ++ (d ∷ [])) cs i l c a b) h g
  where
    rest : List Chunk
    rest = joining (known ++ (d ∷ [])) cs

    -- the first does not come again
    again : {i : ℕ} → c ≡ d → At c i rest → ⊥
    again {i} z b = joining-new (known ++ (d ∷ [])) cs i (length known + 0) c b (subst (λ (x : Chunk). At x (length known + 0) (known ++ (d ∷ []))) (sym z) (at_right known first))

    off : ((i l : ℕ) → At c i rest → At c l rest → i ≡ l) → Head c d j rest → Head c d k rest → j ≡ k
    off jh (is-first e z) (is-first f y) = omega arith
    off jh (is-first e z) (is-next i f b) = absurd (again z b)
    off jh (is-next i e a) (is-first f y) = absurd (again y a)
    off jh (is-next i e a) (is-next l f b) = omega (arith, jh i l a b)

    by : (t : Bool) → ((i l : ℕ) → At c i (joining known cs) → At c l (joining known cs) → i ≡ l) → ((i l : ℕ) → At c i rest → At c l rest → i ≡ l)
        → At c j (joined_by known d cs t) → At c k (joined_by known d cs t) → j ≡ k
    by true ih jh a b = ih j k a b
    by false ih jh a b = off jh (at_head a) (at_head b)

-- all that is not known,
pub joining-all : (known cs : List Chunk) (j : ℕ) (c : Chunk) → At c j cs → In c known ⊎ In c (joining known cs)
unfolding joining
joining-all known [] j c h = absurd (no-at h)
joining-all known (d ∷ cs) j c h = by (any_of (equal d) known) refl (at_head h) (λ i a. joining-all known cs i c a) (λ i a. joining-all (known ++ (d ∷ [])) cs i c a)
  where
    rest : List Chunk
    rest = joining (known ++ (d ∷ [])) cs

    from : {k : ℕ} → Split c k known (d ∷ []) → In c known ⊎ In c (d ∷ rest)
    from {k} (before g) = inl (k, g)
    from (after i e g) = inr (0, subst (λ (x : Chunk). At c 0 (x ∷ rest)) (at_one g) first)

    tail : In c (known ++ (d ∷ [])) ⊎ In c rest → In c known ⊎ In c (d ∷ rest)
    tail (inr a) = inr (suc a.0, next a.1)
    tail (inl a) = from (at_split known a.1)

    by : (t : Bool) → any_of (equal d) known ≡ t → Head c d j cs → ((i : ℕ) → At c i cs → In c known ⊎ In c (joining known cs))
        → ((i : ℕ) → At c i cs → In c (known ++ (d ∷ [])) ⊎ In c rest)
        → In c known ⊎ In c (joined_by known d cs t)
    by true q (is-first e z) ih jh = inl (subst (λ (x : Chunk). In x known) (sym z) (any-known d known q))
    by true q (is-next i e a) ih jh = ih i a
    by false q (is-first e z) ih jh = inr (0, subst (λ (x : Chunk). At c 0 (x ∷ rest)) z first)
    by false q (is-next i e a) ih jh = tail (jh i a)

-- and nothing else
pub joining-from : (known cs : List Chunk) (j : ℕ) (c : Chunk) → At c j (joining known cs) → In c cs
unfolding joining
joining-from known [] j c h = absurd (no-at h)
joining-from known (d ∷ cs) j c h = by (any_of (equal d) known) (λ i a. joining-from known cs i c a) (λ i a. joining-from (known ++ (d ∷ [])) cs i c a) h
  where
    more : In c cs → In c (d ∷ cs)
    more r = (suc r.0, next r.1)

    by : (t : Bool) → ((i : ℕ) → At c i (joining known cs) → In c cs) → ((i : ℕ) → At c i (joining (known ++ (d ∷ [])) cs) → In c cs) → At c j (joined_by known d cs t)
        → In c (d ∷ cs)
    by true ih jh a = more (ih j a)
    by false ih jh a = off (at_head a)
      where
        off : Head c d j (joining (known ++ (d ∷ [])) cs) → In c (d ∷ cs)
        off (is-first e z) = (0, subst (λ (x : Chunk). At c 0 (x ∷ cs)) z first)
        off (is-next i e b) = more (jh i b)

-- ---- what a rule empties

pub clear-is : (o : Option Deed) → is_clear o ≡ true → o ≡ some deed_clear
clear-is none e = absurd (no_true (sym e))
clear-is (some (deed_modify ns)) e = absurd (no_true (sym e))
clear-is (some (deed_request isa ns)) e = absurd (no_true (sym e))
clear-is (some deed_clear) e = refl

-- buffer number b, the first being i, and its chunk
pub record Emptied (as' : List Action) (i : ℕ) (bs : List Buffer) (c : Chunk) : Type 0 where
  pub buffer : ℕ
  pub there : buffer < length bs
  pub clears : deed_on as' (i + buffer) ≡ some deed_clear
  pub seen : visible (get_or bs buffer nothing) ≡ true
  pub filled : is_nil (get_or bs buffer nothing) ≡ false
  pub held : chunk_of (get_or bs buffer nothing) ≡ c

abbrev pub empties : List Action → ℕ → Buffer → Bool
empties as' i b = is_clear (deed_on as' i) && (visible b && not (is_nil b))

unfoldable pub emptied-next : {as' : List Action} {i : ℕ} {b : Buffer} {bs : List Buffer} {c : Chunk} → Emptied as' (i + 1) bs c → Emptied as' i (b ∷ bs) c
emptied-next {as'} {i} e =
    record {
      buffer = suc e.buffer;
      there = omega (arith, e.there);
      clears = ap (deed_on as') (omega arith) ∙ e.clears;
      seen = e.seen;
      filled = e.filled;
      held = e.held;
    }

pub not-false : (t : Bool) → not t ≡ true → t ≡ false
not-false true e = absurd (no_true (sym e))
not-false false e = refl

unfoldable pub emptied-here : (as' : List Action) (i : ℕ) (b : Buffer) (bs : List Buffer) (c : Chunk) → empties as' i b ≡ true → chunk_of b ≡ c → Emptied as' i (b ∷ bs) c
emptied-here as' i b bs c q z =
    let r : (visible b && not (is_nil b)) ≡ true = and_right (is_clear (deed_on as' i)) (visible b && not (is_nil b)) q in
    record {
      buffer = 0;
      there = omega arith;
      clears = ap (deed_on as') (omega arith) ∙ clear-is (deed_on as' i) (and_left (is_clear (deed_on as' i)) (visible b && not (is_nil b)) q);
      seen = and_left (visible b) (not (is_nil b)) r;
      filled = not-false (is_nil b) (and_right (visible b) (not (is_nil b)) r);
      held = z;
    }
