-- Loops that read n things: what was read so far, and then what is left from here, is the whole.
use Prim.Native.Nat.{ℕ, zero, suc, ◌+◌, ◌-◌, ◌≤◌, ◌<◌}
use mathlib.Core.Path.{◌≡◌, refl, sym, ap, ◌∙◌}
use mathlib.Core.List.{List, [], ◌∷◌, ◌++◌, append-nil, append_assoc}
use native.Mathlib.Omega.{arith}
use Rattle.meaning.specs.Read.{Read, read_refused, read_got, Reader, follow, times, rising}
use Rattle.layout.specs.Walks.{mapped}

mapped-nil : {A : Type 0} (r : Read (List A)) → mapped (λ xs. [] ++ xs) r ≡ r
mapped-nil (read_refused x y) = refl
mapped-nil (read_got xs z) = refl

-- one thing more among those that were read
mapped-more : {A : Type 0} (got : List A) (x : A) (r : Read (List A)) → mapped (λ xs. (got ++ (x ∷ [])) ++ xs) r ≡ mapped (λ xs. got ++ xs) (follow r (λ xs z. read_got (x ∷ xs) z))
mapped-more got x (read_refused a b) = refl
mapped-more {A} got x (read_got xs z) = ap (λ (l : List A). read_got l z) (append_assoc got (x ∷ []) xs)

-- ---- things whose buffers rise

module _ {A : Type 0} (p : ℕ → Reader A) (buffer : A → ℕ) (image : List ℕ) (n : ℕ) where
  unfoldable pub onward : List A → ℕ → ℕ → ℕ → Read (List A)
  onward got i least at = mapped (λ xs. got ++ xs) (rising p buffer (n - i) least image at)

  pub onward-start : (least at : ℕ) → onward [] 0 least at ≡ rising p buffer n least image at
  unfolding onward
  onward-start least at = let e : n - 0 ≡ n = omega arith in rw e (mapped-nil (rising p buffer n least image at))

  pub onward-end : (got : List A) (i least at : ℕ) → n ≤ i → read_got got at ≡ onward got i least at
  unfolding onward rising
  onward-end got i least at h = let g : n - i ≡ 0 = omega arith in rw g (ap (λ (l : List A). read_got l at) (sym (append-nil got)))

  module _ (got : List A) (i least at : ℕ) (h : i < n) where
    pub onward-bad : (x y : ℕ) → read_refused x y ≡ p least image at → read_refused x y ≡ onward got i least at
    unfolding onward rising
    onward-bad x y e = let g : n - i ≡ suc (n - (i + 1)) = omega arith in rw (g, ← e)

    pub onward-turn : (x : A) (q : ℕ) → read_got x q ≡ p least image at → onward (got ++ (x ∷ [])) (i + 1) (buffer x + 1) q ≡ onward got i least at
    unfolding onward rising
    onward-turn x q e = let g : n - i ≡ suc (n - (i + 1)) = omega arith in rw (g, ← e) (mapped-more got x (rising p buffer (n - (i + 1)) (buffer x + 1) image q))

-- ---- n things

module _ {A : Type 0} (p : Reader A) (image : List ℕ) (n : ℕ) where
  unfoldable pub along : List A → ℕ → ℕ → Read (List A)
  along got i at = mapped (λ xs. got ++ xs) (times (n - i) p image at)

  pub along-start : (at : ℕ) → along [] 0 at ≡ times n p image at
  unfolding along
  along-start at = let e : n - 0 ≡ n = omega arith in rw e (mapped-nil (times n p image at))

  pub along-end : (got : List A) (i at : ℕ) → n ≤ i → read_got got at ≡ along got i at
  unfolding along times
  along-end got i at h = let g : n - i ≡ 0 = omega arith in rw g (ap (λ (l : List A). read_got l at) (sym (append-nil got)))

  module _ (got : List A) (i at : ℕ) (h : i < n) where
    pub along-bad : (x y : ℕ) → read_refused x y ≡ p image at → read_refused x y ≡ along got i at
    unfolding along times
    along-bad x y e = let g : n - i ≡ suc (n - (i + 1)) = omega arith in rw (g, ← e)

    pub along-turn : (x : A) (q : ℕ) → read_got x q ≡ p image at → along (got ++ (x ∷ [])) (i + 1) q ≡ along got i at
    unfolding along times
    along-turn x q e = let g : n - i ≡ suc (n - (i + 1)) = omega arith in rw (g, ← e) (mapped-more got x (times (n - (i + 1)) p image q))
