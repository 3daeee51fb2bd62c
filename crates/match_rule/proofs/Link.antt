-- The match test by test, and then of the queries, gives the entry of the declarative match.
use Rattle.std.specs.Prelude.{if◌then◌else◌}
use mathlib.Core.Path.{◌≡◌, refl, sym, ap, ap₂, ◌∙◌}
use mathlib.Core.Bool.{Bool, true, false, ◌&&◌, ◌||◌, not, or-true, or-false, and-false}
use mathlib.Core.List.{List, [], ◌∷◌, ◌++◌, map, append-nil, append_assoc}
use Prim.Native.Nat.{ℕ, zero, suc, ◌+◌, ◌*◌, ◌%◌, ◌<◌}
use native.Mathlib.Omega.{arith}
use native.Mathlib.Decide.{ℕ_discrete}
use borrow.Author.Tests.{eqb-true, eqb-false, eq-eqb, ne_eqb}
use lib.Dec.{eqb, ltb}
use lib.ListN.{length, get_or, set, replicate, length-set}
use lib.Seq.{get_or-set_same, get_or-set_other}
use Rattle.meaning.specs.declared.Buffer.{Buffer}
use Rattle.meaning.specs.declared.State.{State}
use Rattle.meaning.specs.Base.{every, up_from}
use Rattle.meaning.specs.Model.{Term, symbol, variable, Named, Test, Rule}
use Rattle.meaning.specs.State.{buffer_of}
use Rattle.meaning.specs.Image.{slots_in}
use Rattle.meaning.specs.Match.{Place, place, places, value_in, agrees, agreed, shows, queries_hold, matches, entry_of}
use Rattle.laws.specs.MatchLaws.{stands, stands-more, value-seen, value-new, value-other, agrees-seen, agrees-new, agreed_from, agreed-walk}
use Rattle.layout.specs.Rows.{rows_in, word_term, named_in, tests_in, queries_at}
use Rattle.match_rule.specs.Run.{Vars, Run, stop, on, then_on, bind, term_run, terms_run, test_run, tests_run, rule_run, no_vars, entry_words}
use Rattle.match_rule.specs.Words.{StandsAt}
use Rattle.match_rule.proofs.TestLaws.{tests_from}

-- ---- what the code keeps of the places that it has passed

pub record Keeps (v : Vars) (before : List Place) : Type 0 where
  pub eight_b : length v.bound ≡ 8
  pub eight_v : length v.values ≡ 8
  pub which : (k : ℕ) → k < 8 → eqb (get_or v.bound k 0) 0 ≡ not (stands before k)
  pub what : (k : ℕ) → k < 8 → get_or v.values k 0 ≡ value_in before k
  pub filled : (k : ℕ) → k < 8 → stands before k ≡ true → eqb (value_in before k) 0 ≡ false

abbrev pub place_of : Term → ℕ → Place
place_of t x = record { term = t; value = x }

keeps_same : (v : Vars) (before : List Place) (p : Place) → ((k : ℕ) → stands (before ++ (p ∷ [])) k ≡ stands before k)
    → ((k : ℕ) → value_in (before ++ (p ∷ [])) k ≡ value_in before k)
    → Keeps v before → Keeps v (before ++ (p ∷ []))
keeps_same v before p s w k =
    record {
      eight_b = k.eight_b;
      eight_v = k.eight_v;
      which = λ j h. k.which j h ∙ sym (ap not (s j));
      what = λ j h. k.what j h ∙ sym (w j);
      filled = λ j h t. ap (λ (n : ℕ). eqb n 0) (w j) ∙ k.filled j h (sym (s j) ∙ t);
    }

keeps-symbol : (v : Vars) (before : List Place) (y x : ℕ) → Keeps v before → Keeps v (before ++ (place_of (symbol y) x ∷ []))
keeps-symbol v before y x k =
    keeps_same v before (place_of (symbol y) x)
    (λ j. stands-more before (place_of (symbol y) x) j ∙ or-false (stands before j))
    (λ j. value-other before (place_of (symbol y) x) j refl) k

keeps-seen : (v : Vars) (before : List Place) (i x : ℕ) → stands before i ≡ true → Keeps v before → Keeps v (before ++ (place_of (variable i) x ∷ []))
keeps-seen v before i x s k =
    keeps_same v before (place_of (variable i) x)
    (λ j. stands-more before (place_of (variable i) x) j ∙ stood j (eqb j i) refl)
    (λ j. kept j (eqb j i) refl) k
  where
    stood : (j : ℕ) (t : Bool) → eqb j i ≡ t → (stands before j || eqb j i) ≡ stands before j
    stood j true t = let q : j ≡ i = eqb-true j i t in rw (q, s) refl
    stood j false t = rw t (or-false (stands before j))

    kept : (j : ℕ) (t : Bool) → eqb j i ≡ t → value_in (before ++ (place_of (variable i) x ∷ [])) j ≡ value_in before j
    kept j true t = let q : j ≡ i = eqb-true j i t in rw q (value-seen before (place_of (variable i) x) i s)
    kept j false t = value-other before (place_of (variable i) x) j t

keeps-new : (v : Vars) (before : List Place) (i x : ℕ) → i < 8 → eqb x 0 ≡ false → stands before i ≡ false → Keeps v before
    → Keeps (bind i x v) (before ++ (place_of (variable i) x ∷ []))
keeps-new v before i x l is-filled s k =
    record {
      eight_b = length-set v.bound i 1 ∙ k.eight_b;
      eight_v = length-set v.values i x ∙ k.eight_v;
      which = λ j h. stood j h (eqb j i) refl ∙ sym (ap not (stands-more before (place_of (variable i) x) j));
      what = λ j h. kept j h (eqb j i) refl;
      filled = λ j h t. there j h t (eqb j i) refl;
    }
  where
    stood : (j : ℕ) → j < 8 → (t : Bool) → eqb j i ≡ t → eqb (get_or (set v.bound i 1) j 0) 0 ≡ not (stands before j || eqb j i)
    stood j h true t =
        let q : j ≡ i = eqb-true j i t in
        let n : i < length v.bound = omega (arith, k.eight_b) in
        rw (t, or-true) (rw q (ap (λ (m : ℕ). eqb m 0) (get_or-set_same v.bound i 1 0 n)))
    stood j h false t = rw (t, or-false) (ap (λ (m : ℕ). eqb m 0) (get_or-set_other v.bound i j 1 0 (eqb-false j i t)) ∙ k.which j h)

    own : value_in (before ++ (place_of (variable i) x ∷ [])) i ≡ x
    own = value-new before (place_of (variable i) x) i s ∙ (rw (eq-eqb i i refl))

    kept : (j : ℕ) → j < 8 → (t : Bool) → eqb j i ≡ t → get_or (set v.values i x) j 0 ≡ value_in (before ++ (place_of (variable i) x ∷ [])) j
    kept j h true t =
        let q : j ≡ i = eqb-true j i t in
        let n : i < length v.values = omega (arith, k.eight_v) in
        rw q (get_or-set_same v.values i x 0 n ∙ sym own)
    kept j h false t = get_or-set_other v.values i j x 0 (eqb-false j i t) ∙ k.what j h ∙ sym (value-other before (place_of (variable i) x) j t)

    there : (j : ℕ) → j < 8 → stands (before ++ (place_of (variable i) x ∷ [])) j ≡ true
        → (t : Bool) → eqb j i ≡ t → eqb (value_in (before ++ (place_of (variable i) x ∷ [])) j) 0 ≡ false
    there j h stood true t = let q : j ≡ i = eqb-true j i t in rw q (ap (λ (n : ℕ). eqb n 0) own ∙ is-filled)
    there j h stood false t =
        let earlier : stands before j ≡ true = sym (stands-more before (place_of (variable i) x) j ∙ ap (λ (b : Bool). stands before j || b) t ∙ or-false (stands before j)) ∙ stood in
        ap (λ (n : ℕ). eqb n 0) (value-other before (place_of (variable i) x) j t) ∙ k.filled j h earlier

-- ---- how a run stands to a list of places

abbrev pub Comes : Run → Bool → List Place → Type 0
Comes stop ok after = ok ≡ false
Comes (on w) ok after = (ok ≡ true) × Keeps w after

-- nil need not be looked at where a value that is not nil is wanted
as-filled : (x y : ℕ) → eqb y 0 ≡ false → (not (eqb x 0) && eqb x y) ≡ eqb y x
as-filled x y f =
    elim (ℕ_discrete x y) [
      | yes h ↦ rw (h, f, eq-eqb y y refl) refl
      | no h ↦ rw (ne_eqb x y h, ne_eqb y x (λ e. h (sym e)), and-false) refl
    ]

abbrev pub Low : Term → Type 0
Low (symbol x) = Unit {0}
Low (variable i) = i < 8

not-not : (b c : Bool) → b ≡ not c → c ≡ not b
not-not true true e = cc
not-not true false e = refl
not-not false true e = refl
not-not false false e = cc

term-comes : (x : ℕ) (t : Term) (v : Vars) (before : List Place) → Low t → Keeps v before
    → Comes (term_run x t v) (agrees (before ++ (place_of t x ∷ [])) (place_of t x)) (before ++ (place_of t x ∷ []))
unfolding term_run
term-comes x (symbol y) v before l k = go (eqb x y) refl
  where
    go : (b : Bool) → eqb x y ≡ b → Comes (if b then on v else stop) (eqb x y) (before ++ (place_of (symbol y) x ∷ []))
    go true e = (e, keeps-symbol v before y x k)
    go false e = e
term-comes x (variable i) v before l k = go (eqb (get_or v.bound i 0) 0) refl
  where
    p : Place
    p = place_of (variable i) x

    new : (b : Bool) → eqb x 0 ≡ b → stands before i ≡ false → Comes (if b then stop else on (bind i x v)) (agrees (before ++ (p ∷ [])) p) (before ++ (p ∷ []))
    new true e s = agrees-new before i x s ∙ ap not e
    new false e s = (agrees-new before i x s ∙ ap not e, keeps-new v before i x l e s k)

    -- what the place asks once its variable has a value: that one
    asked : stands before i ≡ true → agrees (before ++ (p ∷ [])) p ≡ eqb (get_or v.values i 0) x
    asked s = agrees-seen before i x s ∙ as-filled x (value_in before i) (k.filled i l s) ∙ ap (λ (y : ℕ). eqb y x) (sym (k.what i l))

    seen : (b : Bool) → eqb (get_or v.values i 0) x ≡ b → stands before i ≡ true → Comes (if b then on v else stop) (agrees (before ++ (p ∷ [])) p) (before ++ (p ∷ []))
    seen true e s = (asked s ∙ e, keeps-seen v before i x s k)
    seen false e s = asked s ∙ e

    go : (b : Bool) → eqb (get_or v.bound i 0) 0 ≡ b
        → Comes (if b then (if eqb x 0 then stop else on (bind i x v)) else (if eqb (get_or v.values i 0) x then on v else stop)) (agrees (before ++ (p ∷ [])) p) (before ++ (p ∷ []))
    go true e = new (eqb x 0) refl (not-not true (stands before i) (sym e ∙ k.which i l))
    go false e = seen (eqb (get_or v.values i 0) x) refl (not-not false (stands before i) (sym e ∙ k.which i l))

-- ---- terms, tests

abbrev pub AllLow : List Named → Type 0
AllLow [] = Unit {0}
AllLow (n ∷ ns) = Low n.term × AllLow ns

terms-come : (b : Buffer) (ns : List Named) (v : Vars) (before : List Place) → AllLow ns → Keeps v before
    → Comes (terms_run b.slots ns v) (agreed_from before (map (place b) ns)) (before ++ map (place b) ns)
unfolding terms_run agreed_from
terms-come b [] v before l k = (refl, rw append-nil k)
terms-come b (n ∷ ns) v before l k =
    go (λ w h. terms-come b ns w (before ++ (p ∷ [])) l.1 h) (term_run (get_or b.slots n.slot 0) n.term v) (term-comes (get_or b.slots n.slot 0) n.term v before l.0 k)
  where
    p : Place
    p = place b n

    go : ((w : Vars) → Keeps w (before ++ (p ∷ [])) → Comes (terms_run b.slots ns w) (agreed_from (before ++ (p ∷ [])) (map (place b) ns)) (before ++ (p ∷ []) ++ map (place b) ns))
        → (r : Run) → Comes r (agrees (before ++ (p ∷ [])) p) (before ++ (p ∷ []))
        → Comes (then_on r (λ w. terms_run b.slots ns w)) (agrees (before ++ (p ∷ [])) p && agreed_from (before ++ (p ∷ [])) (map (place b) ns)) (before ++ (p ∷ map (place b) ns))
    go ih stop c = rw c
    go ih (on w) c = rw (c.0, ← append_assoc before (p ∷ []) (map (place b) ns)) (ih w c.1)

agreed-append : (before ps qs : List Place) → agreed_from before (ps ++ qs) ≡ (agreed_from before ps && agreed_from (before ++ ps) qs)
unfolding agreed_from
agreed-append before [] qs = rw append-nil
agreed-append before (p ∷ ps) qs =
    elim (agrees (before ++ (p ∷ [])) p) as (λ t. (t && agreed_from (before ++ (p ∷ [])) (ps ++ qs)) ≡ ((t && agreed_from (before ++ (p ∷ [])) ps) && agreed_from (before ++ (p ∷ ps)) qs)) [
      | true ↦ agreed-append (before ++ (p ∷ [])) ps qs ∙ ap (λ (l : List Place). agreed_from (before ++ (p ∷ [])) ps && agreed_from l qs) (append_assoc before (p ∷ []) ps)
      | false ↦ refl
    ]

abbrev pub TestsLow : List Test → Type 0
TestsLow [] = Unit {0}
TestsLow (t ∷ ts) = AllLow t.named × TestsLow ts

abbrev shown : State → List Test → Bool
shown s ts = every (λ t. shows t (buffer_of s t.buffer)) ts

-- all that the tests from here on ask: that each shows, and that the places agree
tests-come : (s : State) (ts : List Test) (v : Vars) (before : List Place) → TestsLow ts → Keeps v before
    → Comes (tests_run s.buffers ts v) (shown s ts && agreed_from before (places ts s)) (before ++ places ts s)
unfolding tests_run places agreed_from test_run
tests-come s [] v before l k = (refl, rw append-nil k)
tests-come s (t ∷ ts) v before l k =
    go (λ w h. tests-come s ts w (before ++ ps) l.1 h) (eqb b.delay 0) (eqb b.isa t.isa)
  where
    b : Buffer
    b = buffer_of s t.buffer

    ps : List Place
    ps = map (place b) t.named

    both : (x y z : Bool) → (x && (y && z)) ≡ (y && (x && z))
    both true y z = refl
    both false true z = refl
    both false false z = refl

    on-it : ((w : Vars) → Keeps w (before ++ ps) → Comes (tests_run s.buffers ts w) (shown s ts && agreed_from (before ++ ps) (places ts s)) (before ++ ps ++ places ts s))
        → (r : Run) → Comes r (agreed_from before ps) (before ++ ps)
        → Comes (then_on r (λ w. tests_run s.buffers ts w)) (shown s ts && agreed_from before (ps ++ places ts s)) (before ++ (ps ++ places ts s))
    on-it ih stop c = rw (agreed-append before ps (places ts s), c, both (shown s ts) false (agreed_from (before ++ ps) (places ts s)))
    on-it ih (on w) c = rw (agreed-append before ps (places ts s), c.0, ← append_assoc before ps (places ts s)) (ih w c.1)

    go : ((w : Vars) → Keeps w (before ++ ps) → Comes (tests_run s.buffers ts w) (shown s ts && agreed_from (before ++ ps) (places ts s)) (before ++ ps ++ places ts s))
        → (x y : Bool)
        → Comes (then_on (if x then (if y then terms_run b.slots t.named v else stop) else stop) (λ w. tests_run s.buffers ts w))
        (((x && y) && shown s ts) && agreed_from before (ps ++ places ts s)) (before ++ (ps ++ places ts s))
    go ih true true = on-it ih (terms_run b.slots t.named v) (terms-come b t.named v before l.0 k)
    go ih true false = refl
    go ih false y = refl

none_kept : Keeps no_vars []
unfolding stands value_in
none_kept = record { eight_b = refl; eight_v = refl; which = λ k h. ap (λ (n : ℕ). eqb n 0) (zeros 8 k); what = λ k h. zeros 8 k; filled = λ k h t. cc }
  where
    zeros : (n k : ℕ) → get_or {A = ℕ} (replicate n 0) k 0 ≡ 0
    zeros zero zero = refl
    zeros zero (suc k) = refl
    zeros (suc n) zero = refl
    zeros (suc n) (suc k) = zeros n k

-- eight words are those of a function, if each is
eight-of : (l : List ℕ) (f : ℕ → ℕ) (i n : ℕ) → length l ≡ n → ((k : ℕ) → k < n → get_or l k 0 ≡ f (i + k)) → l ≡ map f (up_from i n)
eight-of [] f i zero e h = refl
eight-of (x ∷ l) f i zero e h = absurd (omega arith)
eight-of [] f i (suc n) e h = absurd (omega arith)
eight-of (x ∷ l) f i (suc n) e h =
    let z : i + 0 ≡ i = omega arith in
    ap₂ (λ (y : ℕ) (r : List ℕ). y ∷ r) (h 0 (omega arith) ∙ ap f z)
    (eight-of l f (i + 1) n (omega arith) (λ k g. let q : i + suc k ≡ i + 1 + k = omega arith in h (suc k) (omega arith) ∙ ap f q))

-- THE LINK: the match test by test, and then of the queries, gives the rule's entry
pub entry-run : (r : Rule) (s : State) → TestsLow r.tests → entry_words (rule_run s r.tests r.queries) ≡ entry_of r s
unfolding entry_of matches
entry-run r s l = go (tests_run s.buffers r.tests no_vars) (tests-come s r.tests no_vars [] l none_kept)
  where
    ps : List Place
    ps = places r.tests s

    held : Bool
    held = queries_hold r.queries s

    values : (w : Vars) → Keeps w ps → 1 ∷ w.values ≡ 1 ∷ map (value_in ps) (up_from 0 8)
    values w k =
        ap (λ (m : List ℕ). 1 ∷ m) (eight-of w.values (value_in ps) 0 8 k.eight_v (λ j h. let q : 0 + j ≡ j = omega arith in k.what j h ∙ ap (value_in ps) (sym q)))

    go : (u : Run) → Comes u (shown s r.tests && agreed_from [] ps) ps
        → entry_words (then_on u (λ v. if held then on v else stop)) ≡ (if (shown s r.tests && agreed ps) && held then 1 ∷ map (value_in ps) (up_from 0 8) else replicate 9 0)
    go stop c = rw (agreed-walk ps, c)
    go (on w) c =
        rw (agreed-walk ps, c.0)
        (elim held as (λ t. entry_words (if t then on w else stop) ≡ (if t then 1 ∷ map (value_in ps) (up_from 0 8) else replicate 9 0)) [ true ↦ values w c.1 | false ↦ refl ])

-- ---- what stands in words has variables below 8

low_word : (t : ℕ) → Low (word_term t)
low_word t = elim (ltb t 4096) as (λ u. Low (if u then symbol t else variable (t % 8))) [ true ↦ tt | false ↦ less t ]
  where
    less : (t : ℕ) → t % 8 < 8
    less t = omega arith

named-low : (w : List ℕ) (q : ℕ) (l : List ℕ) → AllLow (map (named_in w q) l)
named-low w q [] = tt
named-low w q (b ∷ l) = (low_word (get_or w (q + 3 + b) 0), named-low w q l)

tests-low : (w : List ℕ) (o i n : ℕ) → TestsLow (tests_from w o i n)
unfolding rows_in
tests-low w o i zero = tt
tests-low w o i (suc n) = (named-low w (o + 11 * i) (slots_in (get_or w (o + 11 * i + 2) 0)), tests-low w o (i + 1) n)

-- the match of the tests and queries that stand in words is the entry of any rule that has them
pub entry-words : (w : List ℕ) (o n : ℕ) (r : Rule) (s : State) → StandsAt r w o n → entry_words (rule_run s (tests_in w o n) (queries_at w o)) ≡ entry_of r s
entry-words w o n r s e = rw (← e.tests, ← e.queries) (entry-run r s (rw e.tests (tests-low w o 0 n)))
