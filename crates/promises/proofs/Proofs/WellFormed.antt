-- A step keeps a state well formed, and so does every call.
use Rattle.std.specs.Prelude.{if◌then◌else◌, ◌≡◌, Bool, ◌&&◌, ◌||◌, not, ℕ, zero, suc, ◌+◌, ◌-◌, ◌≤◌, ◌<◌, ltb, leb, length, get_or, drop, replicate, set}
use Rattle.std.proofs.Math.Path.{refl}
use Rattle.std.proofs.Common.{sym, ap, ◌∙◌, zero-add, arith, drop-set-lt}
use Rattle.std.proofs.Math.Bool.{true, false}
use mathlib.Core.List.{List, [], ◌∷◌, map, Memᴰ}
use Rattle.std.proofs.Math.Option.{Option, none, some}
use borrow.Author.Tests.{ltb-true, eqb-true, eq-eqb}
use Rattle.std.proofs.Math.Dec.{eqb}
use Rattle.meaning.specs.declared.Buffer.{Buffer}
use Rattle.meaning.specs.declared.State.{State}
use Rattle.meaning.specs.Base.{every, keep, up_from}
use Rattle.meaning.specs.Model.{Model, Rule, Test, Action, Deed, deed_modify, deed_request, deed_clear, Named, Term, symbol, variable, Fact}
use Rattle.meaning.specs.State.{nothing, buffer_of, visible, slot_count, is_nil, flag_fits, well_buffer, is_unused, well_formed, opens}
use Rattle.meaning.specs.Image.{is_variable, is_tested, tested_type}
use Rattle.meaning.specs.Match.{Place, place, places, value_in, shows, matches, entry_of}
use Rattle.meaning.specs.Choice.{utilities}
use Rattle.meaning.specs.Retrieval.{value_of, fits, weaker, retrieve, retrieved}
use Rattle.meaning.specs.Fire.{put, done, later, deed_on, after, change, fire}
use Rattle.meaning.specs.Wait.{wait}
use Rattle.meaning.specs.Step.{Event, event_fired, event_waited, step_made, step_of}
use Rattle.laws.specs.BaseLaws.{no_true, and_left, and_right, every-member, every_append, keep-member}
use Rattle.laws.specs.HighestLaws.{Best}
use Rattle.laws.specs.RetrievalLaws.{retrieve-best}
use Rattle.laws.specs.CallsLaws.{nil-well}
use Rattle.promises.specs.Words.{At, first, next, nil_with}
use Rattle.promises.proofs.Proofs.Decoded.{and-true, good_term, good_named, good_names, good_deed, good_action, good_rule, rises, Decoded}
use Rattle.promises.proofs.Proofs.Matching.{matches-tests, tests-show}
use Rattle.promises.proofs.Proofs.Steps.{FiredBy, WaitedBy, step-fired, step-waited}
use Rattle.promises.proofs.Proofs.Firing.{fired-rule}

-- ---- a buffer, part by part

-- what a well-formed buffer is
pub record WellParts (types : List ℕ) (b : Buffer) : Type 0 where
  pub typed : ltb b.isa (length types) ≡ true
  pub symbols : every (λ v. leb v 4095) b.slots ≡ true
  pub past_empty : every (λ v. eqb v 0) (drop (slot_count types b.isa) b.slots) ≡ true
  pub flag_fits : flag_fits b ≡ true

module _ (types : List ℕ) (b : Buffer) where
  abbrev typed_is : Bool
  typed_is = ltb b.isa (length types)

  abbrev symbols_are : Bool
  symbols_are = every (λ v. leb v 4095) b.slots

  abbrev past_is : Bool
  past_is = every (λ v. eqb v 0) (drop (slot_count types b.isa) b.slots)

  pub buffer-parts : well_buffer types b ≡ true → WellParts types b
  buffer-parts e =
      let chunk-well : (typed_is && symbols_are && past_is) ≡ true = and_left (typed_is && symbols_are && past_is) (flag_fits b) e in
      let first_two : (typed_is && symbols_are) ≡ true = and_left (typed_is && symbols_are) past_is chunk-well in
      record {
        typed = and_left typed_is symbols_are first_two;
        symbols = and_right typed_is symbols_are first_two;
        past_empty = and_right (typed_is && symbols_are) past_is chunk-well;
        flag_fits = and_right (typed_is && symbols_are && past_is) (flag_fits b) e;
      }

  pub parts-buffer : WellParts types b → well_buffer types b ≡ true
  parts-buffer w =
      and-true (typed_is && symbols_are && past_is) (flag_fits b) (and-true (typed_is && symbols_are) past_is (and-true typed_is symbols_are w.typed w.symbols) w.past_empty) w.flag_fits

-- and what one past the count is
pub record UnusedParts (b : Buffer) : Type 0 where
  pub is_nil : is_nil b ≡ true
  pub visible_is : eqb b.delay 0 ≡ true
  pub unflagged : not b.error ≡ true

pub unused-parts : (b : Buffer) → is_unused b ≡ true → UnusedParts b
unused-parts b e =
    let seen : (is_nil b && eqb b.delay 0) ≡ true = and_left (is_nil b && eqb b.delay 0) (not b.error) e in
    record {
      is_nil = and_left (is_nil b) (eqb b.delay 0) seen;
      visible_is = and_right (is_nil b) (eqb b.delay 0) seen;
      unflagged = and_right (is_nil b && eqb b.delay 0) (not b.error) e;
    }

-- ---- lists

pub all-get_or : {A : Type 0} (p : A → Bool) (xs : List A) (i : ℕ) (d : A) → every p xs ≡ true → p d ≡ true → p (get_or xs i d) ≡ true
all-get_or p [] i d e h = h
all-get_or p (x ∷ xs) zero d e h = and_left (p x) (every p xs) e
all-get_or p (x ∷ xs) (suc i) d e h = all-get_or p xs i d (and_right (p x) (every p xs) e) h

all_set : (p : ℕ → Bool) (xs : List ℕ) (i v : ℕ) → every p xs ≡ true → p v ≡ true → every p (set xs i v) ≡ true
all_set p [] i v e h = refl
all_set p (x ∷ xs) zero v e h = and-true (p v) (every p xs) h (and_right (p x) (every p xs) e)
all_set p (x ∷ xs) (suc i) v e h = and-true (p x) (every p (set xs i v)) (and_left (p x) (every p xs) e) (all_set p xs i v (and_right (p x) (every p xs) e) h)

pub all-at : (p : Rule → Bool) (r : Rule) {k : ℕ} {rules : List Rule} → At r k rules → every p rules ≡ true → p r ≡ true
all-at p r (first {xs = rs}) e = and_left (p r) (every p rs) e
all-at p r (next {k} {y = q} {xs = rs} h) e = all-at p r h (and_right (p q) (every p rs) e)

-- ---- buffers made anew

pub all-change : (p : Buffer → Bool) (f : ℕ → Buffer → Buffer) (i : ℕ) (bs : List Buffer) → ((j : ℕ) → j < length bs → p (f (i + j) (get_or bs j nothing)) ≡ true) → every p (change f i bs) ≡ true
unfolding change
all-change p f i [] h = refl
all-change p f i (b ∷ bs) h =
    let z : i + 0 ≡ i = omega arith in
    and-true (p (f i b)) (every p (change f (i + 1) bs)) (rw z at (h 0 (omega arith)))
    (all-change p f (i + 1) bs (λ j l. let e : i + suc j ≡ i + 1 + j = omega arith in rw e at (h (suc j) (omega arith))))

drop-change : (n : ℕ) (f : ℕ → Buffer → Buffer) (i : ℕ) (bs : List Buffer) → drop n (change f i bs) ≡ change f (i + n) (drop n bs)
unfolding change
drop-change zero f i bs = let z : i + 0 ≡ i = omega arith in rw z
drop-change (suc n) f i [] = refl
drop-change (suc n) f i (b ∷ bs) = let z : i + suc n ≡ i + 1 + n = omega arith in rw z (drop-change n f (i + 1) bs)

-- a buffer of a well-formed state
pub well-buffer : (m : Model) (s : State) → well_formed m s ≡ true → (j : ℕ) → j < length s.buffers → well_buffer m.types (buffer_of s j) ≡ true
unfolding well_formed
well-buffer m s e j l = each s.buffers j l (and_left (every (well_buffer m.types) s.buffers) (every is_unused (drop m.buffers s.buffers)) e)
  where
    each : (bs : List Buffer) (j : ℕ) → j < length bs → every (well_buffer m.types) bs ≡ true → well_buffer m.types (get_or bs j nothing) ≡ true
    each [] j l h = absurd (omega arith)
    each (b ∷ bs) zero l h = and_left (well_buffer m.types b) (every (well_buffer m.types) bs) h
    each (b ∷ bs) (suc j) l h = each bs j (omega arith) (and_right (well_buffer m.types b) (every (well_buffer m.types) bs) h)

-- a state whose buffers are made anew is well formed if each of them is, and those past the count stay unused
module _ (m : Model) (s : State) (f : ℕ → Buffer → Buffer) (clock : ℕ) where
  abbrev anew : State
  anew = record { buffers = change f 0 s.buffers; clock = clock }

  anew-well : ((j : ℕ) → j < length s.buffers → well_buffer m.types (f j (buffer_of s j)) ≡ true)
      → ((j : ℕ) (b : Buffer) → m.buffers ≤ j → is_unused b ≡ true → is_unused (f j b) ≡ true)
      → well_formed m s ≡ true → well_formed m anew ≡ true
  unfolding well_formed
  anew-well well past e =
      let unused : every is_unused (drop m.buffers s.buffers) ≡ true = and_right (every (well_buffer m.types) s.buffers) (every is_unused (drop m.buffers s.buffers)) e in
      and-true (every (well_buffer m.types) (change f 0 s.buffers)) (every is_unused (drop m.buffers (change f 0 s.buffers)))
      (all-change (well_buffer m.types) f 0 s.buffers (λ j l. rw (zero-add j) (well j l)))
      (rw (drop-change m.buffers f 0 s.buffers)
      (all-change is_unused f (0 + m.buffers) (drop m.buffers s.buffers)
      (λ j l. past (0 + m.buffers + j) (get_or (drop m.buffers s.buffers) j nothing) (omega arith) (all-get_or is_unused (drop m.buffers s.buffers) j nothing unused refl))))

-- time that passes leaves it so
later-unused : (ms : ℕ) (b : Buffer) → is_unused b ≡ true → is_unused (later ms b) ≡ true
later-unused ms b h =
    let u : UnusedParts b = unused-parts b h in
    let seen : eqb (b.delay - ms) 0 ≡ true = eq-eqb (b.delay - ms) 0 (omega (arith, eqb-true b.delay 0 u.visible_is)) in
    and-true (is_nil b && eqb (b.delay - ms) 0) (not b.error) (and-true (is_nil b) (eqb (b.delay - ms) 0) u.is_nil seen) u.unflagged

pub wait-well : (m : Model) (ms : ℕ) (s : State) → well_formed m s ≡ true → well_formed m (wait ms s) ≡ true
unfolding wait
wait-well m ms s e =
    anew-well m s (λ i b. later ms b) (s.clock + ms) (λ j l. well-buffer m s e j l) (λ j b l h. later-unused ms b h) e

-- ---- the words of an entry are slot values

abbrev Small : List ℕ → Type 0
Small xs = every (λ v. leb v 4095) xs ≡ true

slots_small : (m : Model) (s : State) → well_formed m s ≡ true → (b : ℕ) → Small (buffer_of s b).slots
unfolding well_formed
slots_small m s e b =
    let ws : every (well_buffer m.types) s.buffers ≡ true = and_left (every (well_buffer m.types) s.buffers) (every is_unused (drop m.buffers s.buffers)) e in
    go s.buffers b ws
  where
    go : (bs : List Buffer) (b : ℕ) → every (well_buffer m.types) bs ≡ true → Small (get_or bs b nothing).slots
    go [] b h = refl
    go (x ∷ xs) zero h =
        (buffer-parts m.types x (and_left (well_buffer m.types x) (every (well_buffer m.types) xs) h)).symbols
    go (x ∷ xs) (suc b) h = go xs b (and_right (well_buffer m.types x) (every (well_buffer m.types) xs) h)

named_small : (b : Buffer) (ns : List Named) → Small b.slots → every (λ p. leb p.value 4095) (map (place b) ns) ≡ true
named_small b [] h = refl
named_small b (n ∷ ns) h =
    and-true (leb (get_or b.slots n.slot 0) 4095) (every (λ p. leb p.value 4095) (map (place b) ns)) (all-get_or (λ v. leb v 4095) b.slots n.slot 0 h refl) (named_small b ns h)

places-small : (ts : List Test) (s : State) → ((b : ℕ) → Small (buffer_of s b).slots) → every (λ p. leb p.value 4095) (places ts s) ≡ true
unfolding places
places-small [] s h = refl
places-small (t ∷ ts) s h =
    every_append (λ p. leb p.value 4095) (map (place (buffer_of s t.buffer)) t.named) (places ts s) (named_small (buffer_of s t.buffer) t.named (h t.buffer)) (places-small ts s h)

value-small : (ps : List Place) (v : ℕ) → every (λ p. leb p.value 4095) ps ≡ true → leb (value_in ps v) 4095 ≡ true
unfolding value_in
value-small [] v h = refl
value-small (p ∷ ps) v h =
    elim (is_variable v p.term) as (λ t. leb (if t then p.value else value_in ps v) 4095 ≡ true) [
      | true ↦ and_left (leb p.value 4095) (every (λ p. leb p.value 4095) ps) h
      | false ↦ value-small ps v (and_right (leb p.value 4095) (every (λ p. leb p.value 4095) ps) h)
    ]

values-small : (ps : List Place) (i n : ℕ) → every (λ p. leb p.value 4095) ps ≡ true → Small (map (value_in ps) (up_from i n))
values-small ps i zero h = refl
values-small ps i (suc n) h = and-true (leb (value_in ps i) 4095) (every (λ v. leb v 4095) (map (value_in ps) (up_from (i + 1) n))) (value-small ps i h) (values-small ps (i + 1) n h)

entry-small : (m : Model) (r : Rule) (s : State) → well_formed m s ≡ true → Small (entry_of r s)
unfolding entry_of
entry-small m r s e =
    elim (matches r s) as (λ t. Small (if t then 1 ∷ map (value_in (places r.tests s)) (up_from 0 8) else replicate 9 0)) [
      | true ↦ values-small (places r.tests s) 0 8 (places-small r.tests s (slots_small m s e))
      | false ↦ refl
    ]

-- ---- what a modify writes

term-small : (ts : List Test) (entry : List ℕ) (t : Term) → good_term ts t ≡ true → Small entry → leb (value_of entry t) 4095 ≡ true
term-small ts entry (symbol x) g h = g
term-small ts entry (variable v) g h = all-get_or (λ v. leb v 4095) entry (v + 1) 0 h refl

put_small : (ts : List Test) (k : ℕ) (ns : List Named) (entry slots : List ℕ) → every (good_named ts k) ns ≡ true → Small entry → Small slots → Small (put ns entry slots)
unfolding put
put_small ts k [] entry slots g e h = h
put_small ts k (n ∷ ns) entry slots g e h =
    put_small ts k ns entry (set slots n.slot (value_of entry n.term)) (and_right (good_named ts k n) (every (good_named ts k) ns) g) e
    (all_set (λ v. leb v 4095) slots n.slot (value_of entry n.term) h
    (term-small ts entry n.term (and_right (ltb n.slot k) (good_term ts n.term) (and_left (good_named ts k n) (every (good_named ts k) ns) g)) e))

put-past : (ts : List Test) (k : ℕ) (ns : List Named) (entry slots : List ℕ) → every (good_named ts k) ns ≡ true → drop k (put ns entry slots) ≡ drop k slots
unfolding put
put-past ts k [] entry slots g = refl
put-past ts k (n ∷ ns) entry slots g =
    put-past ts k ns entry (set slots n.slot (value_of entry n.term)) (and_right (good_named ts k n) (every (good_named ts k) ns) g)
    ∙ drop-set-lt k slots n.slot (value_of entry n.term) (ltb-true n.slot k (and_left (ltb n.slot k) (good_term ts n.term) (and_left (good_named ts k n) (every (good_named ts k) ns) g)))

-- a tested buffer holds a chunk of the tested type
tested-type : (s : State) (b : ℕ) (ts : List Test) → every (λ t. shows t (buffer_of s t.buffer)) ts ≡ true → is_tested ts b ≡ true → (buffer_of s b).isa ≡ tested_type ts b
tested-type s b [] h t = absurd (no_true (sym t))
tested-type s b (x ∷ ts) h t =
    (elim (eqb x.buffer b) as (λ q. eqb x.buffer b ≡ q → (q || is_tested ts b) ≡ true → (buffer_of s b).isa ≡ (if q then x.isa else tested_type ts b)) [
      | true ↦ λ q k.
          let z : x.buffer ≡ b = eqb-true x.buffer b q in
          let y : shows x (buffer_of s x.buffer) ≡ true = and_left (shows x (buffer_of s x.buffer)) (every (λ t. shows t (buffer_of s t.buffer)) ts) h in
          eqb-true (buffer_of s b).isa x.isa (and_right (visible (buffer_of s b)) (eqb (buffer_of s b).isa x.isa) (rw z at y))
      | false ↦ λ q k. tested-type s b ts (and_right (shows x (buffer_of s x.buffer)) (every (λ t. shows t (buffer_of s t.buffer)) ts) h) k
    ]) refl t

-- ---- each deed leaves a well-formed buffer

module _ (m : Model) (d : Decoded m) (s : State) (well : well_formed m s ≡ true) (r : Rule) (hit : matches r s ≡ true) where
  nil-is-well : (delay : ℕ) (flag : Bool) → well_buffer m.types (nil_with delay flag) ≡ true
  nil-is-well delay true = rw d.types_are (nil-well d.counts)
  nil-is-well delay false = rw d.types_are (nil-well d.counts)

  abbrev modified : ℕ → List Named → Buffer
  modified b ns = record { isa = (buffer_of s b).isa; slots = put ns (entry_of r s) (buffer_of s b).slots; delay = 0; error = false }

  modify-well : (b : ℕ) (ns : List Named) → b < length s.buffers → is_tested r.tests b ≡ true → every (good_named r.tests (slot_count m.types (tested_type r.tests b))) ns ≡ true
      → well_buffer m.types (modified b ns) ≡ true
  modify-well b ns l t g =
      let k : ℕ = slot_count m.types (buffer_of s b).isa in
      let is : (buffer_of s b).isa ≡ tested_type r.tests b = tested-type s b r.tests (tests-show s r.tests (matches-tests r s hit)) t in
      let g' : every (good_named r.tests k) ns ≡ true = rw is g in
      let w = buffer-parts m.types (buffer_of s b) (well-buffer m s well b l) in
      parts-buffer m.types (modified b ns)
      (record {
        typed = w.typed;
        symbols = put_small r.tests k ns (entry_of r s) (buffer_of s b).slots g' (entry-small m r s well) w.symbols;
        past_empty = ap (every (λ v. eqb v 0)) (put-past r.tests k ns (entry_of r s) (buffer_of s b).slots g') ∙ w.past_empty;
        flag_fits = refl;
      })

  retrieved-well : (isa : ℕ) (ns : List Named) (o : Option Fact) → retrieve m.facts isa ns (entry_of r s) ≡ o → well_buffer m.types (retrieved m.failure o) ≡ true
  retrieved-well isa ns none e = nil-is-well m.failure true
  retrieved-well isa ns (some f) e =
      let b : Best weaker (keep (fits isa ns (entry_of r s)) m.facts) f = retrieve-best m.facts isa ns (entry_of r s) f e in
      let h : Memᴰ f (keep (fits isa ns (entry_of r s)) m.facts) = rw b.split (mathlib.Core.List.Memᴰ.append_right b.before (mathlib.Core.List.Memᴰ.head refl)) in
      every-member (λ f. well_buffer m.types (opens f.chunk)) m.facts d.facts_well (keep-member (fits isa ns (entry_of r s)) m.facts h).0

  done-well : (b : ℕ) (x : Deed) → b < length s.buffers → good_deed m.types r.tests b x ≡ true → well_buffer m.types (done m.failure m.facts (entry_of r s) (buffer_of s b) x) ≡ true
  unfolding done
  done-well b (deed_modify ns) l g =
      let t : is_tested r.tests b ≡ true = and_left (is_tested r.tests b) _ g in
      let n : good_names r.tests (slot_count m.types (tested_type r.tests b)) ns ≡ true = and_right (is_tested r.tests b) _ g in
      modify-well b ns l t (and_left (every (good_named r.tests (slot_count m.types (tested_type r.tests b))) ns) (rises (λ n. n.slot) 0 ns) n)
  done-well b (deed_request isa ns) l g = retrieved-well isa ns (retrieve m.facts isa ns (entry_of r s)) refl
  done-well b deed_clear l g = nil-is-well 0 false

  after-well : (as' : List Action) → every (good_action m.buffers m.types r.tests) as' ≡ true → (b : ℕ) → b < length s.buffers
      → well_buffer m.types (after m.failure m.facts (entry_of r s) (buffer_of s b) (deed_on as' b)) ≡ true
  unfolding deed_on
  after-well [] g b l = well-buffer m s well b l
  after-well (a ∷ as') g b l =
      (elim (eqb a.buffer b) as
      (λ q. eqb a.buffer b ≡ q → well_buffer m.types (after m.failure m.facts (entry_of r s) (buffer_of s b) (if q then some a.deed else deed_on as' b)) ≡ true) [
        | true ↦ λ q.
            let z : a.buffer ≡ b = eqb-true a.buffer b q in
            let good : good_action m.buffers m.types r.tests a ≡ true =
            and_left (good_action m.buffers m.types r.tests a) (every (good_action m.buffers m.types r.tests) as') g in
            let h : good_deed m.types r.tests a.buffer a.deed ≡ true = and_right (ltb a.buffer m.buffers) _ good in
            done-well b a.deed l (rw z at h)
        | false ↦ λ q. after-well as' (and_right (good_action m.buffers m.types r.tests a) _ g) b l
      ]) refl

  -- no action is on a buffer past the count
  past-none : (as' : List Action) → every (good_action m.buffers m.types r.tests) as' ≡ true → (b : ℕ) → m.buffers ≤ b → deed_on as' b ≡ none
  unfolding deed_on
  past-none [] g b l = refl
  past-none (a ∷ as') g b l =
      (elim (eqb a.buffer b) as (λ q. eqb a.buffer b ≡ q → (if q then some a.deed else deed_on as' b) ≡ none) [
        | true ↦ λ q.
            let z : a.buffer ≡ b = eqb-true a.buffer b q in
            let good : good_action m.buffers m.types r.tests a ≡ true =
            and_left (good_action m.buffers m.types r.tests a) (every (good_action m.buffers m.types r.tests) as') g in
            let h : a.buffer < m.buffers = ltb-true a.buffer m.buffers (and_left (ltb a.buffer m.buffers) _ good) in
            absurd (omega arith)
        | false ↦ λ q. past-none as' (and_right (good_action m.buffers m.types r.tests a) _ g) b l
      ]) refl

  pub fire-well : good_rule m.buffers m.types r ≡ true → well_formed m (fire m.failure m.facts r (entry_of r s) s) ≡ true
  unfolding fire
  fire-well g =
      let as-good : every (good_action m.buffers m.types r.tests) r.actions ≡ true =
      and_left (every (good_action m.buffers m.types r.tests) r.actions) (rises (λ a. a.buffer) 0 r.actions) g in
      anew-well m s (λ i b. after m.failure m.facts (entry_of r s) b (deed_on r.actions i)) (s.clock + 50)
      (λ j l. after-well r.actions as-good j l)
      (λ j b l h. rw (past-none r.actions as-good j l) (later-unused 50 b h))
      well

-- ---- a step, a chain of calls

pub step-well : (m : Model) → Decoded m → (s : State) (table : List ℕ) → well_formed m s ≡ true → (e : Event) (s' : State) (mark : ℕ) → step_of m s table ≡ step_made e s' mark → well_formed m s' ≡ true
step-well m d s table w (event_fired k) s' mark h =
    let f : FiredBy m m.facts (utilities m.rules) s table k s' mark = step-fired m m.facts (utilities m.rules) s table k s' mark h in
    let r : Rule = f.candidate.rule in
    let g = fired-rule m m.facts (utilities m.rules) s table k s' mark h in
    let good : good_rule m.buffers m.types r ≡ true = all-at (good_rule m.buffers m.types) r g.0 d.rules_good in
    let is : fire m.failure m.facts r (entry_of r s) s ≡ s' = ap (λ (x : List ℕ). fire m.failure m.facts r x s) (sym f.entry_is) ∙ f.state_is in
    ap (well_formed m) (sym is) ∙ fire-well m d s w r g.1 good
step-well m d s table w (event_waited ms) s' mark h =
    let f : WaitedBy m (utilities m.rules) s table ms s' mark = step-waited m m.facts (utilities m.rules) s table ms s' mark h in
    ap (well_formed m) (sym f.state_is) ∙ wait-well m ms s w
