-- What the rules and facts of a decoded image keep to: slots within the type, each once, symbols of twelve bits, variables that stood in a test.
use Rattle.std.specs.Prelude.{if◌then◌else◌, ◌≡◌, ◌⊎◌, Bool, false, ◌&&◌, ◌||◌, not, leb, eqb, length}
use Rattle.std.proofs.Math.Path.{refl}
use Rattle.std.proofs.Common.{sym, inl, inr, arith}
use Rattle.std.proofs.Math.Bool.{true}
use mathlib.Core.List.{List, [], ◌∷◌}
use Rattle.std.proofs.Math.Option.{Option, none, some}
use Prim.Native.Nat.{ℕ, zero, suc, ◌+◌, ◌-◌, ◌%◌, ◌^◌, ◌≤◌, ◌<◌}
use borrow.Author.Tests.{ltb-true, ltb-false, lt-ltb, le-leb, eqb-true, eq-eqb}
use Rattle.std.proofs.Math.Dec.{ltb}
use Rattle.meaning.specs.Base.{every, up_from}
use Rattle.meaning.specs.Numbers.{finer, bad_variable, bad_buffer, bad_mask, bad_number}
use Rattle.meaning.specs.Model.{Model, Sizes, Rule, Test, Action, Deed, deed_modify, deed_request, deed_clear, Named, Term, symbol, variable, Chunk, Fact}
use Rattle.meaning.specs.State.{slot_count, well_buffer, opens}
use Rattle.meaning.specs.Read.{read_got, Reader, field, require, rising, must}
use Rattle.meaning.specs.Image.{anything, between, a_type, a_buffer, a_mask, a_term, kind_rule, Header, header, chunk, fact, slots_in, term_of, terms, masked}
use Rattle.meaning.specs.Image.{tests, stands_in, queries, is_tested, tested_type, deed, action, actions, utility_of, head, body, rule, decode}
use Rattle.meaning.specs.Learning.{knowing}
use Rattle.laws.specs.BaseLaws.{no_true, and_left, and_right, every-up_from, by-lt}
use Rattle.laws.specs.BitsLaws.{field_at-lt}
use Rattle.laws.specs.ReadLaws.{no-got, FieldRead, field-got, must-kept, times-all, split}
use Rattle.laws.specs.ImageLaws.{between-got, chunk-well, Parts, parts, head-fits}

pub and-true : (a b : Bool) → a ≡ true → b ≡ true → (a && b) ≡ true
and-true true b p q = q
and-true false b p q = p

pub or_cases : (a b : Bool) → (a || b) ≡ true → (a ≡ true) ⊎ (b ≡ true)
or_cases true b e = inl refl
or_cases false b e = inr e

pub or-first : (a b : Bool) → a ≡ true → (a || b) ≡ true
or-first true b e = refl
or-first false b e = absurd (no_true (sym e))

pub or-second : (a b : Bool) → b ≡ true → (a || b) ≡ true
or-second true b e = refl
or-second false b e = e

pub all-weaken : {A : Type 0} (p q : A → Bool) → ((x : A) → p x ≡ true → q x ≡ true) → (xs : List A) → every p xs ≡ true → every q xs ≡ true
all-weaken p q h [] e = refl
all-weaken p q h (x ∷ xs) e = and-true (q x) (every q xs) (h x (and_left (p x) (every p xs) e)) (all-weaken p q h xs (and_right (p x) (every p xs) e))

-- ---- what is kept to

-- the numbers of a list rise strictly, from `least` on
abbrev pub rises : {A : Type 0} → (A → ℕ) → ℕ → List A → Bool
rises number least [] = true
rises number least (x ∷ xs) = leb least (number x) && rises number (number x + 1) xs

abbrev pub good_term : List Test → Term → Bool
good_term ts (symbol x) = leb x 4095
good_term ts (variable v) = ltb v 8 && stands_in ts v

abbrev pub good_named : List Test → ℕ → Named → Bool
good_named ts slots n = ltb n.slot slots && good_term ts n.term

abbrev pub good_names : List Test → ℕ → List Named → Bool
good_names ts slots ns = every (good_named ts slots) ns && rises (λ n. n.slot) 0 ns

abbrev pub good_deed : List ℕ → List Test → ℕ → Deed → Bool
good_deed types ts b (deed_modify ns) = is_tested ts b && good_names ts (slot_count types (tested_type ts b)) ns
good_deed types ts b (deed_request k ns) = good_names ts (slot_count types k) ns
good_deed types ts b deed_clear = true

abbrev pub good_action : ℕ → List ℕ → List Test → Action → Bool
good_action buffers types ts a = ltb a.buffer buffers && good_deed types ts a.buffer a.deed

abbrev pub good_rule : ℕ → List ℕ → Rule → Bool
good_rule buffers types r = every (good_action buffers types r.tests) r.actions && rises (λ a. a.buffer) 0 r.actions

-- ---- a mask, computed over all of them

abbrev mask_right : ℕ → ℕ → Bool
mask_right slots mask = not (eqb (mask % 2 ^ (8 - slots)) 0) || (every (λ x. ltb x slots) (slots_in mask) && rises (λ x. x) 0 (slots_in mask))

masks-right : every (λ slots. every (mask_right slots) (up_from 0 256)) (up_from 0 9) ≡ true
unfolding slots_in
masks-right = refl

or_else : (a b : Bool) → a ≡ true → (not a || b) ≡ true → b ≡ true
or_else true b e h = h
or_else false b e h = absurd (no_true (sym e))

mask_low : (slots mask : ℕ) → slots < 9 → mask < 256 → mask % 2 ^ (8 - slots) ≡ 0 → (every (λ x. ltb x slots) (slots_in mask) && rises (λ x. x) 0 (slots_in mask)) ≡ true
mask_low slots mask h l e =
    or_else (eqb (mask % 2 ^ (8 - slots)) 0) _ (eq-eqb (mask % 2 ^ (8 - slots)) 0 e)
    (every-up_from (mask_right slots) 0 256 (every-up_from (λ k. every (mask_right k) (up_from 0 256)) 0 9 masks-right slots (omega arith) (omega arith)) mask (omega arith) (omega arith))

mask-slots : (slots mask : ℕ) → mask < 256 → mask % 2 ^ (8 - slots) ≡ 0 → (every (λ x. ltb x slots) (slots_in mask) ≡ true) × (rises (λ x. x) 0 (slots_in mask) ≡ true)
mask-slots slots mask l e =
    by-lt slots 9
    (λ h.
    let k = mask_low slots mask h l e in (
      and_left (every (λ x. ltb x slots) (slots_in mask)) (rises (λ x. x) 0 (slots_in mask)) k,
      and_right (every (λ x. ltb x slots) (slots_in mask)) (rises (λ x. x) 0 (slots_in mask)) k,
    ))
    (λ h.
    let k = mask_low 8 mask (omega arith) l (omega arith) in (
      all-weaken (λ x. ltb x 8) (λ x. ltb x slots) (λ x t. lt-ltb x slots (omega (arith, ltb-true x 8 t))) (slots_in mask)
          (and_left (every (λ x. ltb x 8) (slots_in mask)) (rises (λ x. x) 0 (slots_in mask)) k),
      and_right (every (λ x. ltb x 8) (slots_in mask)) (rises (λ x. x) 0 (slots_in mask)) k,
    ))

-- ---- the terms of an action, after all variables have stood in a test

module _ (ts : List Test) (variables : ℕ) (few : variables ≤ 8) (stood : every (stands_in ts) (up_from 0 variables) ≡ true) where
  term-good : (t : ℕ) → t < 4096 + variables → good_term ts (term_of t) ≡ true
  term-good t h =
      (elim (ltb t 4096) as (λ b. ltb t 4096 ≡ b → good_term ts (if b then symbol t else (variable (t - 4096))) ≡ true) [
        | true ↦ λ b. le-leb t 4095 (omega (arith, ltb-true t 4096 b))
        | false ↦ λ b.
            let l : 4096 ≤ t = ltb-false t 4096 b in
            and-true (ltb (t - 4096) 8) (stands_in ts (t - 4096)) (lt-ltb (t - 4096) 8 (omega arith)) (every-up_from (stands_in ts) 0 variables stood (t - 4096) (omega arith) (omega arith))
      ]) refl

  terms-good : (k : ℕ) (slots : List ℕ) (least : ℕ) → every (λ x. ltb x k) slots ≡ true → rises (λ x. x) least slots ≡ true
      → (image : List ℕ) (at : ℕ) (ns : List Named) (end : ℕ) → terms finer variables slots image at ≡ read_got ns end → (every (good_named ts k) ns ≡ true) × (rises (λ n. n.slot) least ns ≡ true)
  unfolding terms
  terms-good k [] least low up image at ns end e = let q : [] ≡ ns = cc in rw (← q) (refl, refl)
  terms-good k (x ∷ xs) least low up image at ns end e =
      split (field 13 (must bad_variable (a_term variables)) image at) _ e λ t n₁ e₁ k₁.
      split (terms finer variables xs image n₁) _ k₁ λ rest n₂ e₂ k₂.
      let q : record { slot = x; term = term_of t } ∷ rest ≡ ns = cc in
      let f : t < 4096 + variables = ltb-true t (4096 + variables) (must-kept 11 _ (field-got 13 (must bad_variable (a_term variables)) image at t n₁ e₁).kept) in
      let ih : (every (good_named ts k) rest ≡ true) × (rises (λ n. n.slot) (x + 1) rest ≡ true) =
      terms-good k xs (x + 1) (and_right (ltb x k) (every (λ x. ltb x k) xs) low) (and_right (leb least x) (rises (λ x. x) (x + 1) xs) up) image n₁ rest n₂ e₂ in
      rw (← q) (
        and-true (ltb x k && good_term ts (term_of t)) (every (good_named ts k) rest)
            (and-true (ltb x k) (good_term ts (term_of t)) (and_left (ltb x k) (every (λ x. ltb x k) xs) low) (term-good t f)) ih.0,
        and-true (leb least x) (rises (λ n. n.slot) (x + 1) rest) (and_left (leb least x) (rises (λ x. x) (x + 1) xs) up) ih.1,
      )

  masked-good : (slots : ℕ) (image : List ℕ) (at : ℕ) (ns : List Named) (end : ℕ) → masked finer variables slots image at ≡ read_got ns end → good_names ts slots ns ≡ true
  unfolding masked
  masked-good slots image at ns end e =
      split (field 8 (must bad_mask (a_mask slots)) image at) _ e λ mask n₁ e₁ k₁.
      let f : FieldRead 8 (must bad_mask (a_mask slots)) image at mask n₁ = field-got 8 (must bad_mask (a_mask slots)) image at mask n₁ e₁ in
      let z : mask % 2 ^ (8 - slots) ≡ 0 = eqb-true (mask % 2 ^ (8 - slots)) 0 (must-kept 10 _ f.kept) in
      let s = mask-slots slots mask (omega (arith, f.is, field_at-lt image at 8)) z in
      let g : (every (good_named ts slots) ns ≡ true) × (rises (λ n. n.slot) 0 ns ≡ true) = terms-good slots (slots_in mask) 0 s.0 s.1 image n₁ ns end k₁ in
      and-true (every (good_named ts slots) ns) (rises (λ n. n.slot) 0 ns) g.0 g.1

  -- ---- an action

  deed-good : (z : Sizes) (b kind : ℕ) → kind_rule finer ts b kind ≡ 0 → (image : List ℕ) (at : ℕ) (d : Deed) (end : ℕ) → deed finer z variables ts b kind image at ≡ read_got d end
      → good_deed z.types ts b d ≡ true
  unfolding deed
  deed-good z b zero k image at d end e =
      split (masked finer variables (slot_count z.types (tested_type ts b)) image at) _ e λ ns n₁ e₁ k₁.
      let q : deed_modify ns ≡ d = cc in
      let g : good_names ts (slot_count z.types (tested_type ts b)) ns ≡ true = masked-good (slot_count z.types (tested_type ts b)) image at ns n₁ e₁ in
      rw (← q) (and-true (is_tested ts b) (good_names ts (slot_count z.types (tested_type ts b)) ns) (must-kept 12 _ k) g)
  deed-good z b (suc zero) k image at d end e =
      split (field 6 (must bad_number (a_type z.types 1)) image at) _ e λ isa n₁ e₁ k₁.
      split (masked finer variables (slot_count z.types isa) image n₁) _ k₁ λ ns n₂ e₂ k₂.
      let q : deed_request isa ns ≡ d = cc in
      rw (← q) (masked-good (slot_count z.types isa) image n₁ ns n₂ e₂)
  deed-good z b (suc (suc n)) k image at d end e = let q : deed_clear ≡ d = cc in rw (← q) refl

  action-good : (z : Sizes) (least : ℕ) (image : List ℕ) (at : ℕ) (a : Action) (end : ℕ) → action finer z variables ts least image at ≡ read_got a end
      → (leb least a.buffer && good_action z.buffers z.types ts a) ≡ true
  unfolding action
  action-good z least image at a end e =
      split (field 3 (must bad_buffer (a_buffer z.buffers least)) image at) _ e λ b n₁ e₁ k₁.
      split (field 2 (kind_rule finer ts b) image n₁) _ k₁ λ kind n₂ e₂ k₂.
      split (deed finer z variables ts b kind image n₂) _ k₂ λ d n₃ e₃ k₃.
      let q : record { buffer = b; deed = d } ≡ a = cc in
      let f : (leb least b && ltb b z.buffers) ≡ true = must-kept 12 _ (field-got 3 (must bad_buffer (a_buffer z.buffers least)) image at b n₁ e₁).kept in
      let g : good_deed z.types ts b d ≡ true = deed-good z b kind (field-got 2 (kind_rule finer ts b) image n₁ kind n₂ e₂).kept image n₂ d n₃ e₃ in
      rw (← q) (and-true (leb least b) (ltb b z.buffers && good_deed z.types ts b d) (and_left (leb least b) (ltb b z.buffers) f)
      (and-true (ltb b z.buffers) (good_deed z.types ts b d) (and_right (leb least b) (ltb b z.buffers) f) g))

module _ {A : Type 0} (p : ℕ → Reader A) (buffer : A → ℕ) (good : A → Bool)
    (each : (least : ℕ) (image : List ℕ) (at : ℕ) (a : A) (next : ℕ) → p least image at ≡ read_got a next → (leb least (buffer a) && good a) ≡ true) where
  rising-good : (n least : ℕ) (image : List ℕ) (at : ℕ) (xs : List A) (end : ℕ) → rising p buffer n least image at ≡ read_got xs end → (every good xs && rises buffer least xs) ≡ true
  unfolding rising
  rising-good zero least image at xs end e = let q : [] ≡ xs = cc in rw (← q) refl
  rising-good (suc n) least image at xs end e =
      split (p least image at) _ e λ x n₁ e₁ k₁.
      split (rising p buffer n (buffer x + 1) image n₁) _ k₁ λ rest n₂ e₂ k₂.
      let q : x ∷ rest ≡ xs = cc in
      let g : (leb least (buffer x) && good x) ≡ true = each least image at x n₁ e₁ in
      let ih : (every good rest && rises buffer (buffer x + 1) rest) ≡ true = rising-good n (buffer x + 1) image n₁ rest n₂ e₂ in
      rw (← q) (and-true (good x && every good rest) (leb least (buffer x) && rises buffer (buffer x + 1) rest)
      (and-true (good x) (every good rest) (and_right (leb least (buffer x)) (good x) g) (and_left (every good rest) (rises buffer (buffer x + 1) rest) ih))
      (and-true (leb least (buffer x)) (rises buffer (buffer x + 1) rest) (and_left (leb least (buffer x)) (good x) g) (and_right (every good rest) (rises buffer (buffer x + 1) rest) ih)))

-- ---- a rule

required : (number : ℕ) (holds : Bool) (image : List ℕ) (at : ℕ) (u : Unit {0}) (next : ℕ) → require number holds image at ≡ read_got u next → holds ≡ true
required number true image at u next e = refl
required number false image at u next e = absurd (no-got number at u next e)

rule-good : (version : ℕ) (z : Sizes) (image : List ℕ) (at : ℕ) (r : Rule) (end : ℕ) → rule finer version z image at ≡ read_got r end → good_rule z.buffers z.types r ≡ true
unfolding rule body
rule-good version z image at r end e =
    split (head finer version z.buffers image at) _ e λ h n₁ e₁ k₁.
    split (tests finer z h.variables h.tests image n₁) _ k₁ λ ts n₂ e₂ k₂.
    split (require bad_variable (every (stands_in ts) (up_from 0 h.variables)) image n₂) _ k₂ λ u n₃ e₃ k₃.
    split (queries finer version z.buffers h.tests image n₃) _ k₃ λ qs n₄ e₄ k₄.
    split (actions finer z h.variables ts h.actions image n₄) _ k₄ λ as' n₅ e₅ k₅.
    let q : record { utility = utility_of h.utility; tests = ts; queries = qs; actions = as' } ≡ r = cc in
    let few : h.variables ≤ 8 = (head-fits version z.buffers image at h n₁ e₁).variables_few in
    let stood : every (stands_in ts) (up_from 0 h.variables) ≡ true = required bad_variable _ image n₂ u n₃ e₃ in
    let each = action-good ts h.variables few stood z in
    rw (← q) (rising-good (action finer z h.variables ts) (λ a. a.buffer) (good_action z.buffers z.types ts) each h.actions 0 image n₄ as' n₅ e₅)

-- ---- a fact

fact-well : (types : List ℕ) (image : List ℕ) (at : ℕ) (f : Fact) (end : ℕ) → fact finer types image at ≡ read_got f end → well_buffer types (opens f.chunk) ≡ true
unfolding fact
fact-well types image at f end e =
    split (chunk finer types 1 image at) _ e λ c n₁ e₁ k₁.
    split (field 16 anything image n₁) _ k₁ λ activation n₂ e₂ k₂.
    split (field 16 anything image n₂) _ k₂ λ latency n₃ e₃ k₃.
    let q : record { chunk = c; activation = activation; latency = latency } ≡ f = cc in
    rw (← q) (chunk-well types 1 image at c n₁ e₁)

-- ---- the header, and as many opening chunks as it says

few-buffers : (image : List ℕ) (at : ℕ) (h : Header) (end : ℕ) → header finer image at ≡ read_got h end → h.buffers ≤ 8
unfolding header
few-buffers image at h end e =
    split (field 8 (must bad_number (between 1 2)) image at) _ e λ version n₁ e₁ k₁.
    split (field 4 (must bad_number (between 1 8)) image n₁) _ k₁ λ buffers n₂ e₂ k₂.
    split (field 6 (must bad_number (between 0 63)) image n₂) _ k₂ λ declared n₃ e₃ k₃.
    split (field 9 (must bad_number (between 0 256)) image n₃) _ k₃ λ rules n₄ e₄ k₄.
    split (field 10 (must bad_number (between 0 512)) image n₄) _ k₄ λ facts n₅ e₅ k₅.
    split (field 16 anything image n₅) _ k₅ λ failure n₆ e₆ k₆.
    let q : record { version = version; buffers = buffers; declared = declared; rules = rules; facts = facts; failure = failure } ≡ h = cc in
    rw (← q) (between-got 4 1 8 image n₁ buffers n₂ e₂).1

-- ---- the whole

pub record Decoded (m : Model) : Type 0 where
  pub counts : List ℕ
  pub types_are : m.types ≡ 0 ∷ counts
  pub few : m.buffers ≤ 8
  pub opens_all : length m.opening ≡ m.buffers
  pub facts_well : every (λ f. well_buffer m.types (opens f.chunk)) m.facts ≡ true
  pub rules_good : every (good_rule m.buffers m.types) m.rules ≡ true

-- what the transitions take of it; what is known besides the image's facts alters none of it
abbrev pub RulesGood : Model → Type 0
RulesGood m = every (good_rule m.buffers m.types) m.rules ≡ true

pub good-known : (m : Model) → RulesGood m → (store : Option (List Chunk)) → RulesGood (knowing m store)
good-known m d none = d
good-known m d (some cs) = d

pub decoded : (image : List ℕ) (m : Model) (at : ℕ) → decode image ≡ read_got m at → Decoded m
decoded image m at e =
    let p : Parts image m = parts image m at e in
    let z : Sizes = record { buffers = m.buffers; types = m.types } in
    let few : m.buffers ≤ 8 = rw p.buffers_are (few-buffers image 0 p.head p.types_at p.head_read) in
    let f : (every (λ f. well_buffer m.types (opens f.chunk)) m.facts ≡ true) × (length m.facts ≡ p.head.facts) =
    times-all (fact finer m.types) (λ f. well_buffer m.types (opens f.chunk)) (fact-well m.types) p.head.facts image p.facts_at m.facts p.rules_at p.facts_read in
    let r : (every (good_rule m.buffers m.types) m.rules ≡ true) × (length m.rules ≡ p.head.rules) =
    times-all (rule finer p.head.version z) (good_rule m.buffers m.types) (rule-good p.head.version z) p.head.rules image p.rules_at m.rules p.end p.rules_read in
    record {
      counts = p.counts;
      types_are = p.types_are;
      few = few;
      opens_all = (times-all (chunk finer m.types 0) (λ c. true) (λ i a c n k. refl) m.buffers image p.opening_at m.opening p.facts_at p.opening_read).1;
      facts_well = f.0;
      rules_good = r.0;
    }
