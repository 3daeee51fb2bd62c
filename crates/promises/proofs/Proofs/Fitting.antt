-- Which words are taken as a store.
use Rattle.std.specs.Prelude.{◌≡◌, refl, ◌↔◌, Bool, ◌&&◌, List, [], ◌∷◌, map, ℕ, zero, suc, ◌+◌, ◌-◌, ◌<◌, eqb, ltb, leb, length, get_or, drop}
use Rattle.std.proofs.Common.{sym, ap, ◌∙◌, arith}
use Rattle.std.proofs.Math.Path.{subst}
use Rattle.std.proofs.Math.Bool.{true}
use Rattle.std.proofs.Math.Option.{some}
use borrow.Author.Tests.{eqb-true, eq-eqb, ltb-true, lt-ltb, leb-true, le-leb}
use Rattle.meaning.specs.Base.{every, up_from}
use Rattle.meaning.specs.Model.{Chunk}
use Rattle.meaning.specs.State.{slot_count, well_buffer, opens}
use Rattle.meaning.specs.Store.{place_in, store_in, holdable, store_fits}
use Rattle.laws.specs.BaseLaws.{and_left, and_right, every-member}
use Rattle.promises.specs.Words.{At, first, next, Holdable, IsStore}
use Rattle.promises.proofs.Proofs.Decoded.{and-true}
use Rattle.promises.proofs.Proofs.Retrieving.{at-member}
use Rattle.promises.proofs.Proofs.WellFormed.{WellParts, buffer-parts, parts-buffer}
use Rattle.promises.proofs.Proofs.Joining.{no-at, at_every}

module _ {A : Type 0} where
  every-at : (p : A → Bool) {x : A} {k : ℕ} {xs : List A} → every p xs ≡ true → At x k xs → p x ≡ true
  every-at p {xs = xs} e a = every-member p xs e (at-member a)

  -- behind the first n
  at_drop : (n : ℕ) {x : A} {i : ℕ} (k : ℕ) {xs : List A} → i ≡ n + k → At x i xs → At x k (drop n xs)
  at_drop zero {x} k {xs} e a = subst (λ (j : ℕ). At x j xs) (omega arith) a
  at_drop (suc n) k e first = absurd (omega arith)
  at_drop (suc n) k e (next a) = at_drop n k (omega arith) a

  drop_at : (n : ℕ) {x : A} {k : ℕ} (xs : List A) → At x k (drop n xs) → At x (n + k) xs
  drop_at zero {x} {k} xs a = subst (λ (j : ℕ). At x j xs) (omega arith) a
  drop_at (suc n) [] a = absurd (no-at a)
  drop_at (suc n) {x} (y ∷ xs) a = subst (λ (j : ℕ). At x j (y ∷ xs)) (omega arith) (next (drop_at n xs a))

  -- the places of what is numbered from i on
  at_up : (f : ℕ → A) (i n k : ℕ) → k < n → At (f (i + k)) k (map f (up_from i n))
  at_up f i zero k l = absurd (omega arith)
  at_up f i (suc n) zero l = subst (λ (x : ℕ). At (f x) 0 (f i ∷ map f (up_from (i + 1) n))) (omega arith) first
  at_up f i (suc n) (suc k) l = next (subst (λ (x : ℕ). At (f x) k (map f (up_from (i + 1) n))) (omega arith) (at_up f (i + 1) n k (omega arith)))

  up_at : (f : ℕ → A) (i n : ℕ) {x : A} {k : ℕ} → At x k (map f (up_from i n)) → (k < n) × (x ≡ f (i + k))
  up_at f i zero a = absurd (no-at a)
  up_at f i (suc n) first = (omega arith, ap f (omega arith))
  up_at f i (suc n) (next a) = let r = up_at f (i + 1) n a in (omega (arith, r.0), r.1 ∙ ap f (omega arith))

module _ (types : List ℕ) (c : Chunk) where
  holds : holdable types c ≡ true → Holdable types c
  holds e =
      let typed : ltb 0 c.isa ≡ true = and_left (ltb 0 c.isa) (well_buffer types (opens c)) e in
      let well : WellParts types (opens c) = buffer-parts types (opens c) (and_right (ltb 0 c.isa) (well_buffer types (opens c)) e) in
      let count : ℕ = slot_count types c.isa in
      record {
        declared = ltb-true 0 c.isa typed;
        no_larger = ltb-true c.isa (length types) well.typed;
        symbols = λ b v a. leb-true v 4095 (every-at (λ x. leb x 4095) well.symbols a);
        past_empty = λ b v a l. eqb-true v 0 (every-at (λ x. eqb x 0) well.past_empty (at_drop count (b - count) (omega arith) a));
      }

  held : Holdable types c → holdable types c ≡ true
  held h =
      and-true (ltb 0 c.isa) (well_buffer types (opens c)) (lt-ltb 0 c.isa h.declared)
      (parts-buffer types (opens c)
      (record {
        typed = lt-ltb c.isa (length types) h.no_larger;
        symbols = at_every (λ x. leb x 4095) c.slots (λ v b a. le-leb v 4095 (h.symbols b v a));
        past_empty = at_every (λ x. eqb x 0) (drop (slot_count types c.isa) c.slots)
            (λ v b a. eq-eqb v 0 (h.past_empty (slot_count types c.isa + b) v (drop_at (slot_count types c.isa) c.slots a) (omega arith)));
        flag_fits = refl;
      }))

module _ (types words : List ℕ) where
  abbrev sized : Bool
  sized = eqb (length words) 2305 && leb (get_or words 0 0) 256

  abbrev kept : Bool
  kept = every (holdable types) (store_in words)

  is_store : store_fits types (some words) ≡ true → IsStore types words
  unfolding store_fits store_in
  is_store e =
      let size : sized ≡ true = and_left sized kept e in
      record {
        as_long = eqb-true (length words) 2305 (and_left (eqb (length words) 2305) (leb (get_or words 0 0) 256) size);
        counted = leb-true (get_or words 0 0) 256 (and_right (eqb (length words) 2305) (leb (get_or words 0 0) 256) size);
        below = λ i l.
            let here : holdable types (place_in words (0 + i)) ≡ true = every-at (holdable types) (and_right sized kept e) (at_up (place_in words) 0 (get_or words 0 0) i l) in
            holds types (place_in words i) (subst (λ (j : ℕ). holdable types (place_in words j) ≡ true) (omega arith) here);
      }

  store_is : IsStore types words → store_fits types (some words) ≡ true
  unfolding store_fits store_in
  store_is h =
      and-true sized kept
      (and-true (eqb (length words) 2305) (leb (get_or words 0 0) 256) (eq-eqb (length words) 2305 h.as_long) (le-leb (get_or words 0 0) 256 h.counted))
      (at_every (holdable types) (store_in words) (λ c i a.
      let r = up_at (place_in words) 0 (get_or words 0 0) a in
      subst (λ (x : Chunk). holdable types x ≡ true) (sym r.1) (held types (place_in words (0 + i)) (h.below (0 + i) (omega (arith, r.0))))))

  pub fits-exactly : (store_fits types (some words) ≡ true) ↔ IsStore types words
  fits-exactly = (is_store, store_is)
