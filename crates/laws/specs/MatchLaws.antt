-- Laws of a match: place by place; and "an entry depends only on the buffers that its rule tests" or queries, of a pending buffer only on its being pending.
use Rattle.std.specs.Prelude.{if◌then◌else◌, ◌≡◌, refl, Bool, true, false, ◌&&◌, ◌||◌, not, List, [], ◌∷◌, ◌++◌, map, ◌⊎◌, ℕ, ◌*◌, eqb, length, replicate}
use Rattle.std.proofs.Common.{sym, ap, ap₂, ◌∙◌, append_assoc, inl, inr, arith, eq-eqb, length-append}
use Rattle.std.proofs.Math.Bool.{or-false, and-false, and-true}
use Rattle.meaning.specs.Base.{every, any_of, up_from}
use Rattle.meaning.specs.Model.{Term, symbol, variable, Rule, Test, Query, Ask, busy, free, error}
use Rattle.meaning.specs.Image.{is_variable}
use Rattle.meaning.specs.Match.{Place, value_in, term_in, takes, agrees, agreed, places, shows, answers, queries_hold, matches, entry_of, fresh_table}
use Rattle.meaning.specs.declared.Buffer.{Buffer}
use Rattle.meaning.specs.declared.State.{State}
use Rattle.meaning.specs.State.{buffer_of, visible}

-- ---- each named slot is held against those before it, and itself

-- variable v has a place among these
unfoldable pub stands : List Place → ℕ → Bool
stands ps v = any_of (λ p. is_variable v p.term) ps

unfoldable pub agreed_from : List Place → List Place → Bool
agreed_from before [] = true
agreed_from before (p ∷ ps) = agrees (before ++ (p ∷ [])) p && agreed_from (before ++ (p ∷ [])) ps

value-stands : (xs ys : List Place) (v : ℕ) → stands xs v ≡ true → value_in (xs ++ ys) v ≡ value_in xs v
unfolding stands value_in
value-stands [] ys v e = cc
value-stands (x ∷ xs) ys v e =
    (elim (is_variable v x.term) as
    (λ t. (t || any_of (λ p. is_variable v p.term) xs) ≡ true → (if t then x.value else value_in (xs ++ ys) v) ≡ (if t then x.value else value_in xs v)) [
      | true ↦ λ h. refl
      | false ↦ λ h. value-stands xs ys v h
    ]) e

-- the last place's own variable stands there
stands-last : (xs : List Place) (p : Place) (v : ℕ) → is_variable v p.term ≡ true → stands (xs ++ (p ∷ [])) v ≡ true
unfolding stands
stands-last [] p v e = rw e refl
stands-last (x ∷ xs) p v e =
    elim (is_variable v x.term) as (λ t. (t || any_of (λ p. is_variable v p.term) (xs ++ (p ∷ []))) ≡ true) [ true ↦ refl | false ↦ stands-last xs p v e ]

self : (v : ℕ) → eqb v v ≡ true
self v = eq-eqb v v refl

term-last : (before : List Place) (p : Place) (ps : List Place) (t : Term) → p.term ≡ t → term_in (before ++ (p ∷ []) ++ ps) t ≡ term_in (before ++ (p ∷ [])) t
term-last before p ps (symbol x) e = refl
term-last before p ps (variable v) e = value-stands (before ++ (p ∷ [])) ps v (stands-last before p v (rw e (self v)))

agreed-from : (before ps : List Place) → every (agrees (before ++ ps)) ps ≡ agreed_from before ps
unfolding agreed_from
agreed-from before [] = refl
agreed-from before (p ∷ ps) =
    let e : before ++ (p ∷ ps) ≡ before ++ (p ∷ []) ++ ps = sym (append_assoc before (p ∷ []) ps) in
    ap (λ (zs : List Place). every (agrees zs) (p ∷ ps)) e ∙ ap₂ (λ (x y : Bool). x && y) (ap (λ (x : ℕ). takes p.term p.value && eqb p.value x) (term-last before p ps p.term refl)) (agreed-from (before ++ (p ∷ [])) ps)

pub agreed-walk : (ps : List Place) → agreed ps ≡ agreed_from [] ps
agreed-walk ps = agreed-from [] ps

-- ---- one place more, for code that keeps which variables were seen and their values

pub stands-more : (before : List Place) (p : Place) (w : ℕ) → stands (before ++ (p ∷ [])) w ≡ (stands before w || is_variable w p.term)
unfolding stands
stands-more [] p w = or-false (is_variable w p.term)
stands-more (x ∷ xs) p w =
    elim (is_variable w x.term) as (λ t. (t || any_of (λ p. is_variable w p.term) (xs ++ (p ∷ []))) ≡ (t || any_of (λ p. is_variable w p.term) xs || is_variable w p.term)) [
      | true ↦ refl
      | false ↦ stands-more xs p w
    ]

value-absent : (xs ys : List Place) (w : ℕ) → stands xs w ≡ false → value_in (xs ++ ys) w ≡ value_in ys w
unfolding stands value_in
value-absent [] ys w e = refl
value-absent (x ∷ xs) ys w e =
    (elim (is_variable w x.term) as
    (λ t. (t || any_of (λ p. is_variable w p.term) xs) ≡ false → (if t then x.value else value_in (xs ++ ys) w) ≡ value_in ys w) [
      | true ↦ λ h. cc
      | false ↦ λ h. value-absent xs ys w h
    ]) e

-- a variable that was seen keeps its value; one that was not has the new place's, or none
pub value-seen : (before : List Place) (p : Place) (w : ℕ) → stands before w ≡ true → value_in (before ++ (p ∷ [])) w ≡ value_in before w
value-seen before p w e = value-stands before (p ∷ []) w e

pub value-new : (before : List Place) (p : Place) (w : ℕ) → stands before w ≡ false → value_in (before ++ (p ∷ [])) w ≡ (if is_variable w p.term then p.value else 0)
unfolding value_in
value-new before p w e = value-absent before (p ∷ []) w e

-- another place changes no variable but its own
pub value-other : (before : List Place) (p : Place) (w : ℕ) → is_variable w p.term ≡ false → value_in (before ++ (p ∷ [])) w ≡ value_in before w
unfolding value_in
value-other [] p w e = rw e refl
value-other (x ∷ xs) p w e =
    elim (is_variable w x.term) as (λ t. (if t then x.value else value_in (xs ++ (p ∷ [])) w) ≡ (if t then x.value else value_in xs w)) [
      | true ↦ refl
      | false ↦ value-other xs p w e
    ]

-- what a variable's place is held against: the value so far, and nil; at its first place, nil alone
pub agrees-seen : (before : List Place) (v value : ℕ) → stands before v ≡ true
    → let p : Place = record { term = variable v; value = value } in agrees (before ++ (p ∷ [])) p ≡ (not (eqb value 0) && eqb value (value_in before v))
agrees-seen before v value e = rw (value-seen before (record { term = variable v; value = value }) v e) refl

pub agrees-new : (before : List Place) (v value : ℕ) → stands before v ≡ false
    → let p : Place = record { term = variable v; value = value } in agrees (before ++ (p ∷ [])) p ≡ not (eqb value 0)
agrees-new before v value e = rw (value-new before (record { term = variable v; value = value }) v e, self v, self value) (and-true (not (eqb value 0)))

-- ---- an entry

-- two buffers that no test and no query can tell apart: the same, or both pending
abbrev pub Alike : Buffer → Buffer → Type 0
Alike b c = (b ≡ c) ⊎ ((visible b ≡ false) × (visible c ≡ false))

-- so of each buffer that some things are on
abbrev pub AlikeOn : {A : Type 0} → (A → ℕ) → State → State → List A → Type 0
AlikeOn buffer s s' [] = Unit {0}
AlikeOn buffer s s' (x ∷ xs) = Alike (buffer_of s (buffer x)) (buffer_of s' (buffer x)) × AlikeOn buffer s s' xs

abbrev pub test_on : Test → ℕ
test_on t = t.buffer

abbrev pub query_on : Query → ℕ
query_on q = q.buffer

abbrev all_show : List Test → State → Bool
all_show ts s = every (λ t. shows t (buffer_of s t.buffer)) ts

-- both see the same, or both fail
abbrev SeeAlike : State → State → List Test → Type 0
SeeAlike s s' ts =
    ((all_show ts s ≡ all_show ts s') × (places ts s ≡ places ts s')) ⊎ ((all_show ts s ≡ false) × (all_show ts s' ≡ false))

see_cons : (s s' : State) (t : Test) (ts : List Test) → Alike (buffer_of s t.buffer) (buffer_of s' t.buffer) → SeeAlike s s' ts → SeeAlike s s' (t ∷ ts)
unfolding places
see_cons s s' t ts (inl e) (inl (p, q)) = inl (rw (e, p), rw (e, q))
see_cons s s' t ts (inl e) (inr (p, q)) = inr (rw (p, and-false) refl, rw (q, and-false) refl)
see_cons s s' t ts (inr (e, f)) h = inr (rw e refl, rw f refl)

see : (s s' : State) (ts : List Test) → AlikeOn test_on s s' ts → SeeAlike s s' ts
unfolding places
see s s' [] h = inl (refl, refl)
see s s' (t ∷ ts) h = see_cons s s' t ts h.0 (see s s' ts h.1)

-- a query's answer
pub answers-alike : (a : Ask) (b c : Buffer) → Alike b c → answers a b ≡ answers a c
answers-alike a b c (inl e) = ap (answers a) e
answers-alike busy b c (inr (e, f)) = rw (e, f) refl
answers-alike free b c (inr (e, f)) = rw (e, f) refl
answers-alike error b c (inr (e, f)) = rw (e, f) refl

ask : (s s' : State) (qs : List Query) → AlikeOn query_on s s' qs → queries_hold qs s ≡ queries_hold qs s'
ask s s' [] h = refl
ask s s' (q ∷ qs) h = ap₂ (λ (x y : Bool). x && y) (answers-alike q.asks _ _ h.0) (ask s s' qs h.1)

seen : (r : Rule) (s s' : State) → SeeAlike s s' r.tests → queries_hold r.queries s ≡ queries_hold r.queries s' → entry_of r s ≡ entry_of r s'
unfolding entry_of matches
seen r s s' (inl (p, q)) a = rw (p, q, a)
seen r s s' (inr (p, q)) a = rw (p, q)

pub entry-same : (r : Rule) (s s' : State) → AlikeOn test_on s s' r.tests → AlikeOn query_on s s' r.queries → entry_of r s ≡ entry_of r s'
entry-same r s s' h g = seen r s s' (see s s' r.tests h) (ask s s' r.queries g)

-- an entry has nine words
pub entry_length : (r : Rule) (s : State) → length (entry_of r s) ≡ 9
unfolding entry_of
entry_length r s =
    elim (matches r s) as (λ t. length (if t then 1 ∷ map (value_in (places r.tests s)) (up_from 0 8) else replicate 9 0) ≡ 9) [
      | true ↦ refl
      | false ↦ refl
    ]

-- and so the fresh table nine for each rule
pub fresh-length : (rules : List Rule) (s : State) → length (fresh_table rules s) ≡ 9 * length rules
unfolding fresh_table
fresh-length [] s = refl
fresh-length (r ∷ rs) s = length-append (entry_of r s) (fresh_table rs s) ∙ omega (arith, entry_length r s, fresh-length rs s)
