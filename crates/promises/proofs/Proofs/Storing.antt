-- The store after a step is the one that the relation says, and no other.
use Rattle.std.specs.Prelude.{◌≡◌, refl, true, false, List, [], ◌∷◌, ◌++◌, ℕ, suc, ◌<◌, length}
use Rattle.std.proofs.Common.{sym, ap, ap₂, subst, ◌∙◌, ⊎_elim, append-nil, arith, ltb-true, ltb-false, lt-ltb, le-ltb}
use Rattle.std.proofs.Math.Option.{Option, none, some}
use Rattle.meaning.specs.declared.State.{State}
use Rattle.meaning.specs.Model.{Model, Chunk}
use Rattle.meaning.specs.Step.{Event, event_fired, event_waited}
use Rattle.meaning.specs.Learning.{knowing, adds, store_after, overfull}
use Rattle.meaning.specs.Fresh.{Moving, moving}
use Rattle.laws.specs.BaseLaws.{no_true}
use Rattle.promises.specs.Words.{At, first, next, ClearedBy, Stands}
use Rattle.promises.specs.Published.{Joins, Stores, none_lent, waited, joined, HasRoom}
use Rattle.promises.proofs.Proofs.Joining.{In, Head, is-first, is-next, at_head, no-at, adds-new, adds-once, adds-from, adds-in, adds-rising}

-- ---- lists of which each has what the other has, in one order, are the same

module _ {A : Type 0} (R : A → A → Type 0) (asym : (x y : A) → R x y → R y x → ⊥) where
  abbrev Ordered : List A → Type 0
  Ordered xs = (i j : ℕ) (x y : A) → At x i xs → At y j xs → i < j → R x y

  tail-ordered : {x : A} {xs : List A} → Ordered (x ∷ xs) → Ordered xs
  tail-ordered o i j y z a b l = o (suc i) (suc j) y z (next a) (next b) (omega arith)

  -- the first does not come again
  comes-once : {x : A} {k : ℕ} {xs : List A} → Ordered (x ∷ xs) → At x k xs → ⊥
  comes-once {x} {k} o a = let r = o 0 (suc k) x x first (next a) (omega arith) in asym x x r r

  same_first : (x y : A) (xs ys : List A) → Ordered (x ∷ xs) → Ordered (y ∷ ys) → In x (y ∷ ys) → In y (x ∷ xs) → x ≡ y
  same_first x y xs ys o p a b = by (at_head a.1) (at_head b.1)
    where
      by : Head x y a.0 ys → Head y x b.0 xs → x ≡ y
      by (is-first e z) h = z
      by (is-next j e c) (is-first f z) = sym z
      by (is-next j e c) (is-next i f d) = absurd (asym x y (o 0 (suc i) x y first (next d) (omega arith)) (p 0 (suc j) y x first (next c) (omega arith)))

  -- behind the first, one has what the other has
  tails-in : {x y z : A} {k : ℕ} {xs ys : List A} → Ordered (x ∷ xs) → x ≡ y → At z k xs → In z (y ∷ ys) → In z ys
  tails-in {x} {y} {z} {k} {xs} {ys} o e a h = by (at_head h.1)
    where
      by : Head z y h.0 ys → In z ys
      by (is-first f q) = absurd (comes-once o (subst (λ (w : A). At w k xs) (q ∙ sym e) a))
      by (is-next j f b) = (j, b)

  same-order : (xs ys : List A) → Ordered xs → Ordered ys → ((x : A) → In x xs → In x ys) → ((x : A) → In x ys → In x xs) → xs ≡ ys
  same-order [] [] o p f g = refl
  same-order [] (y ∷ ys) o p f g = absurd (no-at (g y (0, first)).1)
  same-order (x ∷ xs) [] o p f g = absurd (no-at (f x (0, first)).1)
  same-order (x ∷ xs) (y ∷ ys) o p f g =
      let e : x ≡ y = same_first x y xs ys o p (f x (0, first)) (g y (0, first)) in
      ap₂ (λ (z : A) (zs : List A). z ∷ zs) e
      (same-order xs ys (tail-ordered o) (tail-ordered p)
      (λ z h. tails-in o e h.1 (f z (suc h.0, next h.1)))
      (λ z h. tails-in p (sym e) h.1 (g z (suc h.0, next h.1))))

-- ---- what joins

module _ (m : Model) (s : State) (k : ℕ) (cs : List Chunk) where
  abbrev memory : Model
  memory = knowing m (some cs)

  adds-join : Joins m s k cs (adds memory s (event_fired k))
  adds-join =
      record {
        exactly = λ c. (
          λ h. (adds-from memory s k h.0 c h.1, adds-new memory s (event_fired k) h.0 c h.1),
          λ h. ⊎_elim (λ (g : Stands memory.facts c). absurd (h.1 g)) (λ (i : In c (adds memory s (event_fired k))). i) (adds-in memory s k c h.0),
        );
        once = adds-once memory s (event_fired k);
        rising = adds-rising memory s k;
      }

  -- c is cleared from a buffer before every one that d is cleared from
  abbrev Sooner : Chunk → Chunk → Type 0
  Sooner c d = (o : ClearedBy m.rules s k c) × ((p : ClearedBy m.rules s k d) → o.buffer < p.buffer)

  joins-once : (a b : List Chunk) → Joins m s k cs a → Joins m s k cs b → a ≡ b
  joins-once a b h g =
      same-order Sooner (λ c d p q. omega (arith, p.1 q.0, q.1 p.0)) a b h.rising g.rising (λ c i. (g.exactly c).1 ((h.exactly c).0 i))
      (λ c i. (h.exactly c).1 ((g.exactly c).0 i))

-- ---- the store after a step

-- after a step that did e
abbrev pub onward : Model → Moving → Event → State → Moving
onward m g e s' = moving s' (store_after m g.state e g.store)

pub stores-after : (m : Model) (s : State) (e : Event) (store : Option (List Chunk)) → Stores m s e store (store_after m s e store)
stores-after m s e none = none_lent
stores-after m s (event_fired k) (some cs) = joined (adds-join m s k cs)
stores-after m s (event_waited ms) (some cs) = subst (λ (x : List Chunk). Stores m s (event_waited ms) (some cs) (some x)) (sym (append-nil cs)) waited

pub stores-once : {m : Model} {s : State} {e : Event} {store store' : Option (List Chunk)} → Stores m s e store store' → store_after m s e store ≡ store'
stores-once none_lent = refl
stores-once (waited {cs = cs}) = ap some (append-nil cs)
stores-once {m} {s} (joined {k} {cs} {new} h) = ap (λ (x : List Chunk). some (cs ++ x)) (joins-once m s k cs (adds (knowing m (some cs)) s (event_fired k)) new (adds-join m s k cs) h)

-- ---- its room

pub has_room : (store : Option (List Chunk)) → overfull store ≡ false → HasRoom store
has_room none o cs q = absurd (let z : ◌≡◌ {A = ℕ} 0 1 = cc in omega arith)
has_room (some ds) o cs q = let e : ds ≡ cs = cc in rw (← e) (ltb-false 256 (length ds) o)

pub room-had : (store : Option (List Chunk)) → HasRoom store → overfull store ≡ false
room-had none h = refl
room-had (some cs) h = le-ltb 256 (length cs) (h cs refl)

-- what a store without room has
pub without-room : (store : Option (List Chunk)) → overfull store ≡ true → (cs : List Chunk) × (store ≡ some cs) × (256 < length cs)
without-room none o = absurd (no_true (sym o))
without-room (some cs) o = (cs, refl, ltb-true 256 (length cs) o)

pub room-missed : {store : Option (List Chunk)} {cs : List Chunk} → store ≡ some cs → 256 < length cs → overfull store ≡ true
room-missed {cs = cs} q l = rw q (lt-ltb 256 (length cs) l)
