-- `retrieve` gives the fact that the relation names, and nothing exactly if there is none.
use Rattle.std.specs.Prelude.{◌≡◌, refl, ◌⊎◌, Bool, true, false, not, ℕ, zero, suc, ◌≤◌, ◌<◌, eqb, length, get_or}
use Rattle.std.proofs.Common.{sym, ap, subst, ◌∙◌, inl, inr, arith, eqb-true, eq-eqb, ltb-true, ltb-false}
use mathlib.Core.List.{List, [], ◌∷◌, ◌++◌, Memᴰ}
use Rattle.std.proofs.Math.Option.{Option, none, some}
use Rattle.std.proofs.lemmas.Bool.{not-true}
use Rattle.meaning.specs.Base.{every, admit, keep}
use Rattle.meaning.specs.Model.{Named, Term, symbol, variable, Fact}
use Rattle.meaning.specs.Retrieval.{value_of, fits, weaker, retrieve}
use Rattle.laws.specs.BaseLaws.{no_true, and_left, and_right, every-member, member-keep}
use Rattle.laws.specs.HighestLaws.{Best}
use Rattle.laws.specs.RetrievalLaws.{retrieve-none, retrieve-best}
use Rattle.promises.specs.Words.{At, first, next}
use Rattle.promises.specs.Published.{stands_for, values_in, Fits, Retrieved}
use Rattle.promises.proofs.Proofs.Decoded.{and-true}
use Rattle.promises.proofs.Proofs.Matching.{member-all}
use Rattle.promises.proofs.Proofs.Selection.{at_same}

-- ---- a list in three parts: before, here, after

module _ {A : Type 0} where
  pub at-member : {x : A} {k : ℕ} {xs : List A} → At x k xs → Memᴰ x xs
  at-member first = Memᴰ.head refl
  at-member (next h) = Memᴰ.tail (at-member h)

  at-middle : (before : List A) (x : A) (after : List A) → At x (length before) (before ++ (x ∷ after))
  at-middle [] x after = first
  at-middle (b ∷ bs) x after = next (at-middle bs x after)

  -- where a numbered element stands
  abbrev Where : List A → A → List A → A → ℕ → Type 0
  Where before x after y j = Memᴰ y before ⊎ (((length before ≡ j) × (y ≡ x)) ⊎ ((length before < j) × Memᴰ y after))

  where_next : (b : A) (bs : List A) (x : A) (after : List A) (y : A) (j : ℕ) → Where bs x after y j → Where (b ∷ bs) x after y (suc j)
  where_next b bs x after y j (inl m) = inl (Memᴰ.tail m)
  where_next b bs x after y j (inr (inl (l, e))) = inr (inl (ap suc l, e))
  where_next b bs x after y j (inr (inr (l, m))) = inr (inr (omega arith, m))

  where-is : (before : List A) (x : A) (after : List A) (y : A) (j : ℕ) → At y j (before ++ (x ∷ after)) → Where before x after y j
  where-is [] x after y zero first = inr (inl (refl, refl))
  where-is [] x after y (suc j) (next h) = inr (inr (omega arith, at-member h))
  where-is (b ∷ bs) x after y zero first = inl (Memᴰ.head refl)
  where-is (b ∷ bs) x after y (suc j) (next h) = where_next b bs x after y j (where-is bs x after y j h)

  -- what is kept in three parts was in three parts
  record Parts (p : A → Bool) (xs before : List A) (x : A) (after : List A) : Type 0 where
    start : List A
    rest : List A
    split : xs ≡ start ++ (x ∷ rest)
    before_is : keep p start ≡ before
    after_is : keep p rest ≡ after
    passes : p x ≡ true

  parts-skip : (p : A → Bool) (y : A) (ys before : List A) (x : A) (after : List A) → p y ≡ false → Parts p ys before x after → Parts p (y ∷ ys) before x after
  parts-skip p y ys before x after f h =
      record { start = y ∷ h.start; rest = h.rest; split = ap (λ (l : List A). y ∷ l) h.split; before_is = rw f h.before_is; after_is = h.after_is; passes = h.passes }

  parts-take : (p : A → Bool) (y : A) (ys before : List A) (x : A) (after : List A) → p y ≡ true → y ∷ keep p ys ≡ before ++ (x ∷ after)
      → ((bs : List A) → keep p ys ≡ bs ++ (x ∷ after) → Parts p ys bs x after) → Parts p (y ∷ ys) before x after
  parts-take p y ys [] x after t e ih =
      let q : y ≡ x = cc in
      let k : keep p ys ≡ after = cc in
      record { start = []; rest = ys; split = ap (λ (z : A). z ∷ ys) q; before_is = refl; after_is = k; passes = rw q at t }
  parts-take p y ys (b ∷ bs) x after t e ih =
      let q : y ≡ b = cc in
      let k : keep p ys ≡ bs ++ (x ∷ after) = cc in
      let h : Parts p ys bs x after = ih bs k in
      record {
        start = y ∷ h.start;
        rest = h.rest;
        split = ap (λ (l : List A). y ∷ l) h.split;
        before_is = rw t (rw q (ap (λ (l : List A). b ∷ l) h.before_is));
        after_is = h.after_is;
        passes = h.passes;
      }

  no_middle : {C : Type 0} (before : List A) (x : A) (after : List A) → [] ≡ before ++ (x ∷ after) → C
  no_middle [] x after e = let z : ◌≡◌ {A = ℕ} 0 1 = cc in absurd (omega arith)
  no_middle (b ∷ bs) x after e = let z : ◌≡◌ {A = ℕ} 0 1 = cc in absurd (omega arith)

  parts : (p : A → Bool) (xs before : List A) (x : A) (after : List A) → keep p xs ≡ before ++ (x ∷ after) → Parts p xs before x after
  parts p [] before x after e = no_middle before x after e
  parts p (y ∷ ys) before x after e =
      (elim (p y) as (λ t. p y ≡ t → admit t y (keep p ys) ≡ before ++ (x ∷ after) → Parts p (y ∷ ys) before x after) [
        | true ↦ λ t h. parts-take p y ys before x after t h (λ bs k. parts p ys bs x after k)
        | false ↦ λ t h. parts-skip p y ys before x after t (parts p ys before x after h)
      ]) refl e

-- ---- facts

-- f, number k, is not behind g, number j
abbrev Held : Fact → ℕ → ℕ → Fact → Type 0
Held f k j g = (g.activation ≤ f.activation) × (g.activation ≡ f.activation → k ≤ j)

module _ (v : ℕ → ℕ) (isa : ℕ) (ns : List Named) (entry : List ℕ) (same-value : (n : Named) → Memᴰ n ns → value_of entry n.term ≡ stands_for v n.term) where
  fits-is : (f : Fact) → fits isa ns entry f ≡ true → Fits v isa ns f
  fits-is f e =
      let valued : every (λ n. eqb (get_or f.chunk.slots n.slot 0) (value_of entry n.term)) ns ≡ true = and_right (eqb f.chunk.isa isa) _ e in
      record {
        typed = eqb-true f.chunk.isa isa (and_left (eqb f.chunk.isa isa) _ e);
        valued = λ n h.
            eqb-true (get_or f.chunk.slots n.slot 0) (value_of entry n.term) (every-member (λ n. eqb (get_or f.chunk.slots n.slot 0) (value_of entry n.term)) ns valued h)
            ∙ same-value n h;
      }

  is-fits : (f : Fact) → Fits v isa ns f → fits isa ns entry f ≡ true
  is-fits f h =
      and-true (eqb f.chunk.isa isa) (every (λ n. eqb (get_or f.chunk.slots n.slot 0) (value_of entry n.term)) ns) (eq-eqb f.chunk.isa isa h.typed)
      (member-all (λ n. eqb (get_or f.chunk.slots n.slot 0) (value_of entry n.term)) ns
      (λ n k. eq-eqb (get_or f.chunk.slots n.slot 0) (value_of entry n.term) (h.valued n k ∙ sym (same-value n k))))

  module _ (facts : List Fact) where
    -- nothing is found: no fact fits
    pub none-fits : retrieve facts isa ns entry ≡ none → (k : ℕ) (f : Fact) → At f k facts → Fits v isa ns f → ⊥
    none-fits e k f at h =
        no_true (sym (is-fits f h) ∙ not-true _ (every-member (λ f. not (fits isa ns entry f)) facts ((retrieve-none facts isa ns entry).0 e) (at-member at)))

    held_at : {f : Fact} (b : Best weaker (keep (fits isa ns entry) facts) f) (h : Parts (fits isa ns entry) facts b.before f b.after) (j : ℕ) (g : Fact)
        → Where h.start f h.rest g j → fits isa ns entry g ≡ true → Held f (length h.start) j g
    held_at {f} b h j g (inl m) t =
        let w : weaker g f ≡ true = every-member (λ y. weaker y f) b.before b.lower (rw h.before_is at (member-keep (fits isa ns entry) h.start m t)) in
        let l : g.activation < f.activation = ltb-true g.activation f.activation w in
        (omega arith, λ q. absurd (omega arith))
    held_at {f} b h j g (inr (inl (l, q))) t = (omega (arith, ap (λ (x : Fact). x.activation) q), λ z. omega arith)
    held_at {f} b h j g (inr (inr (l, m))) t =
        let w : weaker f g ≡ false = not-true _ (every-member (λ y. not (weaker f y)) b.after b.none_higher (rw h.after_is at (member-keep (fits isa ns entry) h.rest m t))) in
        let u : g.activation ≤ f.activation = ltb-false f.activation g.activation w in
        (u, λ z. omega arith)

    held : {f : Fact} (b : Best weaker (keep (fits isa ns entry) facts) f) (h : Parts (fits isa ns entry) facts b.before f b.after) (j : ℕ) (g : Fact)
        → At g j facts → fits isa ns entry g ≡ true → Held f (length h.start) j g
    held {f} b h j g at t = held_at b h j g (where-is h.start f h.rest g j (rw h.split at at)) t

    pub record Found (f : Fact) : Type 0 where
      pub place : ℕ
      pub retrieved : Retrieved facts v isa ns place f

    -- what is found is the one that the relation names
    pub found : (f : Fact) → retrieve facts isa ns entry ≡ some f → Found f
    found f e =
        let b : Best weaker (keep (fits isa ns entry) facts) f = retrieve-best facts isa ns entry f e in
        let h : Parts (fits isa ns entry) facts b.before f b.after = parts (fits isa ns entry) facts b.before f b.after b.split in
        record {
          place = length h.start;
          retrieved = record {
            numbered = subst (λ (l : List Fact). At f (length h.start) l) (sym h.split) (at-middle h.start f h.rest);
            fitting = fits-is f h.passes;
            none_higher = λ j g at k. (held b h j g at (is-fits g k)).0;
            first_of_equals = λ j g at k. (held b h j g at (is-fits g k)).1;
          };
        }

    -- two that the relation names are one
    pub retrieved-once : (j k : ℕ) (f g : Fact) → Retrieved facts v isa ns j f → Retrieved facts v isa ns k g → f ≡ g
    retrieved-once j k f g a b =
        let u : f.activation ≡ g.activation = omega (arith, a.none_higher k g b.numbered b.fitting, b.none_higher j f a.numbered a.fitting) in
        let e : j ≡ k = omega (arith, a.first_of_equals k g b.numbered b.fitting (sym u), b.first_of_equals j f a.numbered a.fitting u) in
        at_same a.numbered (rw e b.numbered)

-- ---- with the values of an entry

same_here : (entry : List ℕ) (t : Term) → value_of entry t ≡ stands_for (values_in entry) t
same_here entry (symbol x) = refl
same_here entry (variable v) = refl

module _ (memory : List Fact) (isa : ℕ) (ns : List Named) (entry : List ℕ) where
  pub found_here : (f : Fact) → retrieve memory isa ns entry ≡ some f → (k : ℕ) × Retrieved memory (values_in entry) isa ns k f
  found_here f e =
      let w : Found (values_in entry) isa ns entry (λ n h. same_here entry n.term) memory f = found (values_in entry) isa ns entry (λ n h. same_here entry n.term) memory f e in
      (w.place, w.retrieved)

  pub nothing-here : retrieve memory isa ns entry ≡ none → (k : ℕ) (f : Fact) → At f k memory → Fits (values_in entry) isa ns f → ⊥
  nothing-here e = none-fits (values_in entry) isa ns entry (λ n h. same_here entry n.term) memory e

  pub here-nothing : ((k : ℕ) (f : Fact) → At f k memory → Fits (values_in entry) isa ns f → ⊥) → retrieve memory isa ns entry ≡ none
  here-nothing h = by (retrieve memory isa ns entry) refl
    where
      by : (o : Option Fact) → retrieve memory isa ns entry ≡ o → o ≡ none
      by none e = refl
      by (some f) e = let w = found_here f e in absurd (h w.0 f w.1.numbered w.1.fitting)
