-- What `highest` gives: the highest element, the first among equals; nothing only of nothing.
use Rattle.std.specs.Prelude.{if◌then◌else◌, ◌≡◌, refl, ◌⊎◌, Bool, true, false, not, List, [], ◌∷◌, ◌++◌, ℕ}
use Rattle.std.proofs.Common.{sym, ap, inl, inr, arith}
use Rattle.std.proofs.Math.Option.{none, some}
use Rattle.meaning.specs.Base.{every}
use Rattle.meaning.specs.Highest.{highest}

no_none : {A : Type 0} (x : A) → none ≡ some x → ⊥
no_none x e = let z : ◌≡◌ {A = ℕ} 0 1 = cc in omega arith

module _ {A : Type 0} (below : A → A → Bool) where
  -- x stands in xs; all before it are lower, and none after it is higher
  pub record Best (xs : List A) (x : A) : Type 0 where
    pub before : List A
    pub after : List A
    pub split : xs ≡ before ++ (x ∷ after)
    pub lower : every (λ y. below y x) before ≡ true
    pub none_higher : every (λ y. not (below x y)) after ≡ true

  -- what is above the best so far, and then the best of the rest
  pub record Beats (best : A) (xs : List A) (x : A) : Type 0 where
    pub higher : below best x ≡ true
    pub best_of : Best xs x

  module _ (up : (a b c : A) → below a b ≡ true → below b c ≡ true → below a c ≡ true)
      (over : (a b c : A) → below b a ≡ false → below b c ≡ true → below a c ≡ true) where
    abbrev Answer : A → List A → A → Type 0
    Answer best xs x = ((x ≡ best) × (every (λ y. not (below best y)) xs ≡ true)) ⊎ Beats best xs x

    more : (best y : A) (ys : List A) (x : A) → below y x ≡ true → below best x ≡ true → Best ys x → Beats best (y ∷ ys) x
    more best y ys x h k b =
        record {
          higher = k;
          best_of = record { before = y ∷ b.before; after = b.after; split = ap (λ (l : List A). y ∷ l) b.split; lower = rw h b.lower; none_higher = b.none_higher };
        }

    -- one element more, which was not chosen, or was and is the best so far
    taken : (best y : A) (ys : List A) (x : A) → below best y ≡ true → Answer y ys x → Answer best (y ∷ ys) x
    taken best y ys x t (inl (e, h)) =
        inr (record { higher = rw e t; best_of = record { before = []; after = ys; split = ap (λ (z : A). z ∷ ys) (sym e); lower = refl; none_higher = rw e h } })
    taken best y ys x t (inr b) = inr (more best y ys x b.higher (up best y x t b.higher) b.best_of)

    passed : (best y : A) (ys : List A) (x : A) → below best y ≡ false → Answer best ys x → Answer best (y ∷ ys) x
    passed best y ys x f (inl (e, h)) = inl (e, rw f h)
    passed best y ys x f (inr b) = inr (more best y ys x (over y best x f b.higher) b.higher b.best_of)

    go : (best y : A) (ys : List A) (x : A) (t : Bool) → below best y ≡ t → highest below (some (if t then y else best)) ys ≡ some x
        → ((b : A) → highest below (some b) ys ≡ some x → Answer b ys x) → Answer best (y ∷ ys) x
    go best y ys x true t e ih = taken best y ys x t (ih y e)
    go best y ys x false f e ih = passed best y ys x f (ih best e)

    from : (best : A) (xs : List A) (x : A) → highest below (some best) xs ≡ some x → Answer best xs x
    from best [] x e = inl (cc, refl)
    from best (y ∷ ys) x e = go best y ys x (below best y) refl e (λ b h. from b ys x h)

    first : (y : A) (ys : List A) (x : A) → Answer y ys x → Best (y ∷ ys) x
    first y ys x (inl (e, h)) = record { before = []; after = ys; split = ap (λ (z : A). z ∷ ys) (sym e); lower = refl; none_higher = rw e h }
    first y ys x (inr b) = (more y y ys x b.higher b.higher b.best_of).best_of

    -- what is given is the best
    pub highest-best : (xs : List A) (x : A) → highest below none xs ≡ some x → Best xs x
    highest-best [] x e = absurd (no_none x e)
    highest-best (y ∷ ys) x e = first y ys x (from y ys x e)

  -- nothing is given only of nothing
  highest-some : (best : A) (xs : List A) → highest below (some best) xs ≡ none → ⊥
  highest-some best [] e = no_none best (sym e)
  highest-some best (y ∷ ys) e = highest-some (if below best y then y else best) ys e

  pub highest-none : (xs : List A) → highest below none xs ≡ none → xs ≡ []
  highest-none [] e = refl
  highest-none (y ∷ ys) e = absurd (highest-some y ys e)
