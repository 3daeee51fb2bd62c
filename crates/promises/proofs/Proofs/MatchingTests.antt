-- The test `matches` finds a binding exactly if there is one, and the entry holds its values.
use Rattle.std.specs.Prelude.{if◌then◌else◌, ◌≡◌, refl, Bool, true, false, ◌||◌, not, ℕ, zero, suc, ◌<◌, eqb}
use Rattle.std.proofs.Common.{sym, ap, subst, ◌∙◌, arith, eqb-true, eq-eqb, ne_eqb}
use Rattle.std.proofs.Math.Logic.{⊎_elim}
use Rattle.std.proofs.Math.Bool.{or-true}
use mathlib.Core.List.Memᴰ
use mathlib.Core.List.{List, [], ◌∷◌, map, Memᴰ}
use Rattle.meaning.specs.declared.Buffer.{Buffer}
use Rattle.meaning.specs.declared.State.{State}
use Rattle.meaning.specs.Base.{every, any_of}
use Rattle.meaning.specs.Model.{Rule, Test, Query, Ask, busy, free, error, Named, Term, symbol, variable}
use Rattle.meaning.specs.State.{buffer_of, visible}
use Rattle.meaning.specs.Image.{is_variable}
use Rattle.meaning.specs.Match.{Place, place, places, value_in, term_in, takes, agrees, agreed, shows, tests_hold, answers, queries_hold, matches}
use Rattle.laws.specs.BaseLaws.{no_true, and_left, and_right, every-member}
use Rattle.promises.specs.Published.{stands_for, Holds, Finds, Matches}
use Rattle.promises.proofs.Proofs.Decoded.{and-true}

pub member-all : {A : Type 0} (p : A → Bool) (xs : List A) → ((y : A) → Memᴰ y xs → p y ≡ true) → every p xs ≡ true
member-all p [] h = refl
member-all p (x ∷ xs) h = and-true (p x) (every p xs) (h x (Memᴰ.head refl)) (member-all p xs (λ y k. h y (Memᴰ.tail k)))

-- an element that passes
pub record Passing {A : Type 0} (p : A → Bool) (xs : List A) : Type 0 where
  pub element : A
  pub member : Memᴰ element xs
  pub passes : p element ≡ true

module _ {A : Type 0} (p : A → Bool) where
  pub any-passing : (xs : List A) → any_of p xs ≡ true → Passing p xs
  any-passing [] e = absurd (no_true (sym e))
  any-passing (x ∷ xs) e =
      (elim (p x) as (λ t. p x ≡ t → (t || any_of p xs) ≡ true → Passing p (x ∷ xs)) [
        | true ↦ λ t k. record { element = x; member = Memᴰ.head refl; passes = t }
        | false ↦ λ t k. let i : Passing p xs = any-passing xs k in record { element = i.element; member = Memᴰ.tail i.member; passes = i.passes }
      ]) refl e

  pub passing-any : (xs : List A) (x : A) → Memᴰ x xs → p x ≡ true → any_of p xs ≡ true
  passing-any [] x h e = absurd (Memᴰ.not-nil h)
  passing-any (y ∷ xs) x h e =
      ⊎_elim (λ (q : x ≡ y). rw (← q, e) refl) (λ (k : Memᴰ x xs). rw (passing-any xs x k e) (or-true (p y))) (Memᴰ.cases_cons h)

-- ---- the places of a rule's tests

pub place-in : (s : State) (ts : List Test) (t : Test) (n : Named) → Memᴰ t ts → Memᴰ n t.named → Memᴰ (place (buffer_of s t.buffer) n) (places ts s)
unfolding places
place-in s [] t n h k = absurd (Memᴰ.not-nil h)
place-in s (x ∷ ts) t n h k =
    ⊎_elim (λ (q : t ≡ x). Memᴰ.append_left {s = map (place (buffer_of s x.buffer)) x.named} (places ts s) (rw (← q) (mapped (buffer_of s t.buffer) t.named n k)))
    (λ (m : Memᴰ t ts). Memᴰ.append_right (map (place (buffer_of s x.buffer)) x.named) (place-in s ts t n m k))
    (Memᴰ.cases_cons h)
  where
    mapped : (b : Buffer) (ns : List Named) (n : Named) → Memᴰ n ns → Memᴰ (place b n) (map (place b) ns)
    mapped b [] n k = absurd (Memᴰ.not-nil k)
    mapped b (y ∷ ns) n k =
        ⊎_elim (λ (q : n ≡ y). Memᴰ.head (ap (place b) q)) (λ (m : Memᴰ n ns). Memᴰ.tail (mapped b ns n m)) (Memᴰ.cases_cons k)

-- what holds of each slot that a test names holds of all places
module _ (P : Place → Type 0) where
  pub named-all : (b : Buffer) (ns : List Named) → ((n : Named) → Memᴰ n ns → P (place b n)) → (p : Place) → Memᴰ p (map (place b) ns) → P p
  named-all b [] h p k = absurd (Memᴰ.not-nil k)
  named-all b (n ∷ ns) h p k =
      ⊎_elim (λ (q : p ≡ place b n). subst P (sym q) (h n (Memᴰ.head refl))) (λ (m : Memᴰ p (map (place b) ns)). named-all b ns (λ x j. h x (Memᴰ.tail j)) p m)
      (Memᴰ.cases_cons k)

  pub places-all : (s : State) (ts : List Test) → ((t : Test) → Memᴰ t ts → (n : Named) → Memᴰ n t.named → P (place (buffer_of s t.buffer) n))
      → (p : Place) → Memᴰ p (places ts s) → P p
  unfolding places
  places-all s [] h p k = absurd (Memᴰ.not-nil k)
  places-all s (t ∷ ts) h p k =
      ⊎_elim (λ (m : Memᴰ p (map (place (buffer_of s t.buffer)) t.named)). named-all (buffer_of s t.buffer) t.named (h t (Memᴰ.head refl)) p m)
      (λ (m : Memᴰ p (places ts s)). places-all s ts (λ x j. h x (Memᴰ.tail j)) p m)
      (Memᴰ.append_cases (map (place (buffer_of s t.buffer)) t.named) k)

-- all places have the values of a binding
abbrev pub Bound : (ℕ → ℕ) → List Place → Type 0
Bound v ps = (p : Place) → Memᴰ p ps → p.value ≡ stands_for v p.term

pub places-bound : (v : ℕ → ℕ) (s : State) (ts : List Test) → ((t : Test) → Memᴰ t ts → Holds v s t) → Bound v (places ts s)
places-bound v s ts h = places-all (λ p. p.value ≡ stands_for v p.term) s ts (λ t k n j. (h t k).valued n j)

-- a term takes a value, if it is no variable or the value no nil
pub takes-filled : (t : Term) (x : ℕ) → ((w : ℕ) → t ≡ variable w → x ≡ 0 → ⊥) → takes t x ≡ true
takes-filled (symbol y) x h = refl
takes-filled (variable w) x h = ap not (ne_eqb x 0 (h w refl))

pub filled-taken : (t : Term) (x : ℕ) → takes t x ≡ true → (w : ℕ) → t ≡ variable w → x ≡ 0 → ⊥
filled-taken t x e w is nil = no_true (sym e ∙ rw (is, nil) refl)

pub is-variable : (w : ℕ) (t : Term) → is_variable w t ≡ true → t ≡ variable w
is-variable w (symbol x) e = absurd (no_true (sym e))
is-variable w (variable u) e = ap variable (sym (eqb-true w u e))

-- a variable that stands at one of the places has its value there
pub value-bound : (v : ℕ → ℕ) (ps : List Place) → Bound v ps → (w : ℕ) (p : Place) → Memᴰ p ps → p.term ≡ variable w → value_in ps w ≡ v w
unfolding value_in
value-bound v [] h w p k e = absurd (Memᴰ.not-nil k)
value-bound v (x ∷ ps) h w p k e =
    (elim (is_variable w x.term) as (λ t. is_variable w x.term ≡ t → (if t then x.value else value_in ps w) ≡ v w) [
      | true ↦ λ t. h x (Memᴰ.head refl) ∙ ap (stands_for v) (is-variable w x.term t)
      | false ↦ λ t.
          ⊎_elim
          (λ (q : p ≡ x).
          let z : is_variable w x.term ≡ true = ap (is_variable w) (sym (ap (λ (y : Place). y.term) q) ∙ e) ∙ eq-eqb w w refl in
          absurd (no_true (sym z ∙ t)))
          (λ (m : Memᴰ p ps). value-bound v ps (λ y j. h y (Memᴰ.tail j)) w p m e)
          (Memᴰ.cases_cons k)
    ]) refl

pub term-bound : (v : ℕ → ℕ) (ps : List Place) → Bound v ps → (p : Place) → Memᴰ p ps → (t : Term) → p.term ≡ t → term_in ps t ≡ stands_for v t
term-bound v ps h p k (symbol x) e = refl
term-bound v ps h p k (variable w) e = value-bound v ps h w p k e

pub term-own : (ps : List Place) (t : Term) → term_in ps t ≡ stands_for (value_in ps) t
term-own ps (symbol x) = refl
term-own ps (variable w) = refl

-- ---- a query and what it finds

pub above_zero : (d : ℕ) → not (eqb d 0) ≡ true → 0 < d
above_zero zero e = absurd (no_true (sym e))
above_zero (suc d) e = omega arith

pub answers-finds : (a : Ask) (b : Buffer) → answers a b ≡ true → Finds a b
answers-finds busy b e = above_zero b.delay e
answers-finds free b e = eqb-true b.delay 0 e
answers-finds error b e = (eqb-true b.delay 0 (and_left (visible b) b.error e), and_right (visible b) b.error e)

pub finds-answers : (a : Ask) (b : Buffer) → Finds a b → answers a b ≡ true
finds-answers busy b h = ap not (ne_eqb b.delay 0 (λ e. omega arith))
finds-answers free b h = eq-eqb b.delay 0 h
finds-answers error b h = and-true (visible b) b.error (eq-eqb b.delay 0 h.0) h.1

-- ---- the test and the relation

module _ (r : Rule) (s : State) where
  pub matches-tests : matches r s ≡ true → tests_hold r.tests s ≡ true
  unfolding matches
  matches-tests e = and_left (tests_hold r.tests s) (queries_hold r.queries s) e

  pub matches-queries : matches r s ≡ true → (q : Query) → Memᴰ q r.queries → answers q.asks (buffer_of s q.buffer) ≡ true
  unfolding matches
  matches-queries e q h =
      every-member (λ q. answers q.asks (buffer_of s q.buffer)) r.queries (and_right (tests_hold r.tests s) (queries_hold r.queries s) e) h

-- each test shows its buffer
pub tests-show : (s : State) (ts : List Test) → tests_hold ts s ≡ true → every (λ t. shows t (buffer_of s t.buffer)) ts ≡ true
tests-show s ts e = and_left (every (λ t. shows t (buffer_of s t.buffer)) ts) (agreed (places ts s)) e

pub tests-bind : (s : State) (ts : List Test) → tests_hold ts s ≡ true → (t : Test) → Memᴰ t ts → Holds (value_in (places ts s)) s t
tests-bind s ts e t h =
    let ps : List Place = places ts s in
    let all : agreed ps ≡ true = and_right (every (λ t. shows t (buffer_of s t.buffer)) ts) (agreed ps) e in
    let b : Buffer = buffer_of s t.buffer in
    let value : Named → ℕ = λ n. (place b n).value in
    let y : shows t b ≡ true = every-member (λ t. shows t (buffer_of s t.buffer)) ts (tests-show s ts e) h in
    let agree : (n : Named) → Memᴰ n t.named → agrees ps (place b n) ≡ true = λ n k. every-member (agrees ps) ps all (place-in s ts t n h k) in
    record {
      visible = eqb-true b.delay 0 (and_left (visible b) (eqb b.isa t.isa) y);
      typed = eqb-true b.isa t.isa (and_right (visible b) (eqb b.isa t.isa) y);
      valued = λ n k. eqb-true (value n) (term_in ps n.term) (and_right (takes n.term (value n)) _ (agree n k)) ∙ term-own ps n.term;
      filled = λ n k. filled-taken n.term (value n) (and_left (takes n.term (value n)) _ (agree n k));
    }

pub matches-bind : (r : Rule) (s : State) → matches r s ≡ true → Matches r s
matches-bind r s e =
    record {
      binding = value_in (places r.tests s);
      binds = record {
        tests_hold = tests-bind s r.tests (matches-tests r s e);
        queries_hold = λ q h. answers-finds q.asks (buffer_of s q.buffer) (matches-queries r s e q h);
      };
    }

pub bind-tests : (s : State) (ts : List Test) (v : ℕ → ℕ) → ((t : Test) → Memᴰ t ts → Holds v s t) → tests_hold ts s ≡ true
bind-tests s ts v h =
    let ps : List Place = places ts s in
    let bound : Bound v ps = places-bound v s ts h in
    and-true (every (λ t. shows t (buffer_of s t.buffer)) ts) (agreed ps)
    (member-all (λ t. shows t (buffer_of s t.buffer)) ts
    (λ t k.
    let b : Buffer = buffer_of s t.buffer in
    and-true (visible b) (eqb b.isa t.isa) (eq-eqb b.delay 0 (h t k).visible) (eq-eqb b.isa t.isa (h t k).typed)))
    (member-all (agrees ps) ps
    (λ p k.
    and-true (takes p.term p.value) (eqb p.value (term_in ps p.term))
    (places-all (λ p. takes p.term p.value ≡ true) s ts (λ t j n i. takes-filled n.term _ ((h t j).filled n i)) p k)
    (eq-eqb p.value (term_in ps p.term) (bound p k ∙ sym (term-bound v ps bound p k p.term refl)))))
