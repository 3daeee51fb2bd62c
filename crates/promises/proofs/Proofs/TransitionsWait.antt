-- With the fresh table a step is the one transition there is; there is none exactly where it halts.
use Rattle.std.specs.Prelude.{if◌then◌else◌, ◌≡◌, ◌⊎◌, true, false, ℕ, zero, suc, ◌+◌, ◌-◌, ◌≤◌, ◌<◌, eqb, ltb, leb, length, get_or}
use Rattle.std.proofs.Math.Path.{refl, ap}
use Rattle.std.proofs.Common.{sym, ◌∙◌, inl, inr, ⊎_elim, zero-add, arith, eqb-true, eq-eqb, ne_eqb, ltb-true, ltb-false, ext_get_or}
use mathlib.Core.List.Memᴰ
use mathlib.Core.List.{List, [], ◌∷◌, Memᴰ}
use Rattle.std.proofs.Math.Option.{Option, none, some}
use Rattle.meaning.specs.declared.Buffer.{Buffer}
use Rattle.meaning.specs.declared.State.{State}
use Rattle.meaning.specs.Base.{every}
use Rattle.meaning.specs.Numbers.{halted}
use Rattle.meaning.specs.Model.{Model, Rule, Action, Deed}
use Rattle.meaning.specs.State.{nothing, buffer_of}
use Rattle.meaning.specs.Match.{entry_of, fresh_table}
use Rattle.meaning.specs.Choice.{Candidate, utilities, choose}
use Rattle.meaning.specs.Fire.{later, after, deed_on, change, fire}
use Rattle.meaning.specs.Wait.{sooner, soonest, wait}
use Rattle.meaning.specs.Mark.{mark_of}
use Rattle.meaning.specs.Step.{Event, event_fired, event_waited, Step, step_stopped, unless_past, wait_step, step_by, step_of}
use Rattle.laws.specs.BaseLaws.{and_left, and_right, every-member}
use Rattle.promises.specs.Words.{At}
use Rattle.promises.specs.Published.{Binds, Selected, NoneSelected, Aged, Applied, LeastDelay, Passed, Transition, apply, no-rule}
use Rattle.promises.proofs.Proofs.Decoded.{RulesGood, rises, good_deed, good_action, good_rule}
use Rattle.laws.specs.MarkLaws.{get_or-change, length-change}
use Rattle.promises.proofs.Proofs.Selection.{chosen-own, chosen-selected, selected-once}
use Rattle.promises.proofs.Proofs.Steps.{fire-fresh}
use Rattle.promises.proofs.Proofs.WellFormed.{all-at}
use Rattle.promises.proofs.Proofs.Effects.{buffer-is, rises-above, done-effect, effect-done}

-- ---- the deed of a rule on a buffer

pub deed-of : (least : ℕ) (as' : List Action) → rises (λ a. a.buffer) least as' ≡ true → (a : Action) → Memᴰ a as' → deed_on as' a.buffer ≡ some a.deed
unfolding deed_on
deed-of least [] e a h = absurd (Memᴰ.not-nil h)
deed-of least (x ∷ xs) e a h =
    let up : rises (λ a. a.buffer) (x.buffer + 1) xs ≡ true = and_right (leb least x.buffer) (rises (λ a. a.buffer) (x.buffer + 1) xs) e in
    ⊎_elim (λ (q : a ≡ x). rw (q, eq-eqb x.buffer x.buffer refl) refl)
    (λ (m : Memᴰ a xs).
    let l : x.buffer + 1 ≤ a.buffer = rises-above (λ a. a.buffer) (x.buffer + 1) xs up a m in
    rw (ne_eqb x.buffer a.buffer (λ z. omega arith)) (deed-of (x.buffer + 1) xs up a m))
    (Memᴰ.cases_cons h)

pub deed-none : (as' : List Action) (b : ℕ) → ((a : Action) → Memᴰ a as' → a.buffer ≡ b → ⊥) → deed_on as' b ≡ none
unfolding deed_on
deed-none [] b h = refl
deed-none (x ∷ xs) b h = rw (ne_eqb x.buffer b (h x (Memᴰ.head refl))) (deed-none xs b (λ a k. h a (Memᴰ.tail k)))

pub record Doer (as' : List Action) (b : ℕ) (d : Deed) : Type 0 where
  pub action : Action
  pub member : Memᴰ action as'
  pub buffer_is' : action.buffer ≡ b
  pub deed_is : action.deed ≡ d

pub deed-some : (as' : List Action) (b : ℕ) (d : Deed) → deed_on as' b ≡ some d → Doer as' b d
unfolding deed_on
deed-some [] b d e = let z : ◌≡◌ {A = ℕ} 0 1 = cc in absurd (omega arith)
deed-some (x ∷ xs) b d e =
    (elim (eqb x.buffer b) as (λ t. eqb x.buffer b ≡ t → (if t then some x.deed else deed_on xs b) ≡ some d → Doer (x ∷ xs) b d) [
      | true ↦ λ t h. record { action = x; member = Memᴰ.head refl; buffer_is' = eqb-true x.buffer b t; deed_is = cc }
      | false ↦ λ t h. let k : Doer xs b d = deed-some xs b d h in record { action = k.action; member = Memᴰ.tail k.member; buffer_is' = k.buffer_is'; deed_is = k.deed_is }
    ]) refl e

-- ---- ageing, and states that are the same

pub later-aged : (ms : ℕ) (b : Buffer) → Aged ms b (later ms b)
later-aged ms b = record { same_type = refl; same_slots = refl; sooner = refl; same_flag = refl }

pub aged-later : (ms : ℕ) (old new : Buffer) → Aged ms old new → new ≡ later ms old
aged-later ms old new h = buffer-is new old.isa old.slots (old.delay - ms) old.error h.same_type h.same_slots h.sooner h.same_flag

pub state-is : (s : State) (bs : List Buffer) (clock : ℕ) → s.buffers ≡ bs → s.clock ≡ clock → s ≡ record { buffers = bs; clock = clock }
state-is s bs clock p q = rw (← p, ← q) refl

-- a state each of whose buffers is made anew
pub anew_is : (s s' : State) (f : ℕ → Buffer → Buffer) (clock : ℕ) → length s'.buffers ≡ length s.buffers
    → ((b : ℕ) → b < length s.buffers → buffer_of s' b ≡ f b (buffer_of s b)) → s'.clock ≡ clock
    → s' ≡ record { buffers = change f 0 s.buffers; clock = clock }
anew_is s s' f clock l h t =
    state-is s' (change f 0 s.buffers) clock
    (ext_get_or nothing s'.buffers (change f 0 s.buffers) (l ∙ sym (length-change f 0 s.buffers))
    (λ i b. let z : i < length s.buffers = omega arith in h i z ∙ sym (get_or-change f 0 s.buffers i nothing z ∙ ap (λ (k : ℕ). f k (buffer_of s i)) (zero-add i))))
    t

-- ---- No Rule

pub wait-passed : (ms : ℕ) (s : State) → Passed ms s (wait ms s)
unfolding wait
wait-passed ms s =
    record {
      as_many = length-change (λ i b. later ms b) 0 s.buffers;
      aged = λ b l. rw (get_or-change (λ i b. later ms b) 0 s.buffers b nothing l) (later-aged ms (buffer_of s b));
      time = refl;
    }

pub passed-wait : (ms : ℕ) (s s' : State) → Passed ms s s' → s' ≡ wait ms s
unfolding wait
passed-wait ms s s' h = anew_is s s' (λ i b. later ms b) (s.clock + ms) h.as_many (λ b l. aged-later ms (buffer_of s b) (buffer_of s' b) (h.aged b l)) h.time

-- the sooner of two delays
pub record Sooner (a d n : ℕ) : Type 0 where
  is : (n ≡ a) ⊎ (n ≡ d)
  first_above : 0 < a → (0 < n) × (n ≤ a)
  second_above : 0 < d → (0 < n) × (n ≤ d)

pub sooner-of : (a d : ℕ) → Sooner a d (sooner a d)
sooner-of zero d = record { is = inr refl; first_above = λ h. absurd (omega arith); second_above = λ h. (h, omega arith) }
sooner-of (suc n) zero = record { is = inl refl; first_above = λ h. (h, omega arith); second_above = λ h. absurd (omega arith) }
sooner-of (suc n) (suc d) =
    (elim (ltb n d) as (λ t. ltb n d ≡ t → Sooner (suc n) (suc d) (if t then suc n else suc d)) [
      | true ↦ λ t. let l : n < d = ltb-true n d t in record { is = inl refl; first_above = λ h. (omega arith, omega arith); second_above = λ h. (omega arith, omega arith) }
      | false ↦ λ t. let l : d ≤ n = ltb-false n d t in record { is = inr refl; first_above = λ h. (omega arith, omega arith); second_above = λ h. (omega arith, omega arith) }
    ]) refl

-- a buffer with this delay
pub record DelayAt (bs : List Buffer) (ms : ℕ) : Type 0 where
  place : ℕ
  there : place < length bs
  is : (get_or bs place nothing).delay ≡ ms

-- ms is the least of a delay and those of some buffers, where 0 does not count
pub record Least (a : ℕ) (bs : List Buffer) (ms : ℕ) : Type 0 where
  from : (ms ≡ a) ⊎ DelayAt bs ms
  below_first : 0 < a → (0 < ms) × (ms ≤ a)
  below : (j : ℕ) → j < length bs → 0 < (get_or bs j nothing).delay → (0 < ms) × (ms ≤ (get_or bs j nothing).delay)

pub least_more : (a : ℕ) (b : Buffer) (bs : List Buffer) (n ms : ℕ) → Sooner a b.delay n → Least n bs ms → Least a (b ∷ bs) ms
least_more a b bs n ms k h =
    record {
      from = ⊎_elim (λ (e : ms ≡ n). ⊎_elim (λ (q : n ≡ a). inl (e ∙ q)) (λ (q : n ≡ b.delay). inr (record { place = 0; there = omega arith; is = sym (e ∙ q) })) k.is)
          (λ (d : DelayAt bs ms). inr (record { place = suc d.place; there = omega (arith, d.there); is = d.is })) h.from;
      below_first = λ p. let q = k.first_above p in let u = h.below_first q.0 in (u.0, omega (arith, q.1, u.1));
      below = each;
    }
  where
    each : (j : ℕ) → j < length (b ∷ bs) → 0 < (get_or (b ∷ bs) j nothing).delay → (0 < ms) × (ms ≤ (get_or (b ∷ bs) j nothing).delay)
    each zero l p = let q = k.second_above p in let u = h.below_first q.0 in (u.0, omega (arith, q.1, u.1))
    each (suc j) l p = h.below j (omega arith) p

pub soonest-least : (a : ℕ) (bs : List Buffer) → Least a bs (soonest a bs)
unfolding soonest
soonest-least a [] = record { from = inl refl; below_first = λ h. (h, omega arith); below = λ j l. absurd (omega arith) }
soonest-least a (b ∷ bs) = least_more a b bs (sooner a b.delay) (soonest (sooner a b.delay) bs) (sooner-of a b.delay) (soonest-least (sooner a b.delay) bs)

pub is-least : (s : State) (n : ℕ) → Least 0 s.buffers (suc n) → LeastDelay s (suc n)
is-least s n h =
    ⊎_elim (λ (e : suc n ≡ 0). absurd (omega arith))
    (λ (d : DelayAt s.buffers (suc n)). record { above = omega arith; buffer = d.place; there = d.there; is = d.is; least = λ b l p. (h.below b l p).1 })
    h.from

pub none-pending : (s : State) → Least 0 s.buffers 0 → (b : ℕ) → b < length s.buffers → (buffer_of s b).delay ≡ 0
none-pending s h b l = zero_or (buffer_of s b).delay (λ p. absurd (omega (arith, (h.below b l p).0)))
  where
    zero_or : (d : ℕ) → (0 < d → ⊥) → d ≡ 0
    zero_or zero f = refl
    zero_or (suc d) f = absurd (f (omega arith))

-- the soonest delay of a state is the least that is pending, and 0 if none is
pub soonest-pending : (s : State) (n : ℕ) → soonest 0 s.buffers ≡ suc n → LeastDelay s (suc n)
soonest-pending s n e = is-least s n (rw e at (soonest-least 0 s.buffers))

pub soonest-quiet : (s : State) → soonest 0 s.buffers ≡ 0 → (b : ℕ) → b < length s.buffers → (buffer_of s b).delay ≡ 0
soonest-quiet s e = none-pending s (rw e at (soonest-least 0 s.buffers))

pub least-once : (s : State) (j k : ℕ) → LeastDelay s j → LeastDelay s k → j ≡ k
least-once s j k a b =
    omega (arith, a.least b.buffer b.there (omega (arith, b.is, b.above)), b.least a.buffer a.there (omega (arith, a.is, a.above)), a.is, b.is)

-- ---- Apply: each action has its effect, and all other buffers age;
-- a firing with the fresh entry does just that

module _ (m : Model) (d : RulesGood m) (s : State) where
  module _ (k : ℕ) (r : Rule) (at : At r k m.rules) (v : ℕ → ℕ) (binds : Binds r s v) where
    abbrev pub anew : ℕ → Buffer → Buffer
    anew i b = after m.failure m.facts (entry_of r s) b (deed_on r.actions i)

    pub good : good_rule m.buffers m.types r ≡ true
    good = all-at (good_rule m.buffers m.types) r at d

    pub ups : rises (λ a. a.buffer) 0 r.actions ≡ true
    ups = and_right (every (good_action m.buffers m.types r.tests) r.actions) (rises (λ a. a.buffer) 0 r.actions) good

    pub good-deed : (a : Action) → Memᴰ a r.actions → good_deed m.types r.tests a.buffer a.deed ≡ true
    good-deed a h =
        and_right (ltb a.buffer m.buffers) (good_deed m.types r.tests a.buffer a.deed)
        (every-member (good_action m.buffers m.types r.tests) r.actions
        (and_left (every (good_action m.buffers m.types r.tests) r.actions) (rises (λ a. a.buffer) 0 r.actions) good) h)

    pub fire-applied : Applied m r v s (fire m.failure m.facts r (entry_of r s) s)
    unfolding fire
    fire-applied =
        record {
          as_many = length-change anew 0 s.buffers;
          acted = λ a h l.
              let e : deed_on r.actions (0 + a.buffer) ≡ some a.deed = ap (deed_on r.actions) (zero-add a.buffer) ∙ deed-of 0 r.actions ups a h in
              rw (get_or-change anew 0 s.buffers a.buffer nothing l, e) (done-effect m r s v binds a.buffer (buffer_of s a.buffer) a.deed (good-deed a h));
          others = λ b l h.
              let e : deed_on r.actions (0 + b) ≡ none = ap (deed_on r.actions) (zero-add b) ∙ deed-none r.actions b h in
              rw (get_or-change anew 0 s.buffers b nothing l, e) (later-aged 50 (buffer_of s b));
          time = refl;
        }

    pub acted-buffer : (s' : State) → Applied m r v s s' → (a : Action) → Memᴰ a r.actions → (b : ℕ) (x : Deed) → a.buffer ≡ b → a.deed ≡ x → b < length s.buffers
        → buffer_of s' b ≡ after m.failure m.facts (entry_of r s) (buffer_of s b) (some x)
    acted-buffer s' h a k b x p q l =
        rw (← p, ← q) (effect-done m r s v binds a.buffer (buffer_of s a.buffer) a.deed (buffer_of s' a.buffer) (good-deed a k) (h.acted a k (omega arith)))

    pub each-buffer : (s' : State) → Applied m r v s s' → (b : ℕ) → b < length s.buffers → (o : Option Deed) → deed_on r.actions b ≡ o
        → buffer_of s' b ≡ after m.failure m.facts (entry_of r s) (buffer_of s b) o
    each-buffer s' h b l none e =
        aged-later 50 (buffer_of s b) (buffer_of s' b)
        (h.others b l (λ a k q. let z : deed_on r.actions b ≡ some a.deed = ap (deed_on r.actions) (sym q) ∙ deed-of 0 r.actions ups a k in let y : ◌≡◌ {A = ℕ} 0 1 = cc in omega arith))
    each-buffer s' h b l (some x) e =
        let w : Doer r.actions b x = deed-some r.actions b x e in
        acted-buffer s' h w.action w.member b x w.buffer_is' w.deed_is l

    pub applied-fire : (s' : State) → Applied m r v s s' → s' ≡ fire m.failure m.facts r (entry_of r s) s
    unfolding fire
    applied-fire s' h = anew_is s s' anew (s.clock + 50) h.as_many (λ b l. each-buffer s' h b l (deed_on r.actions b) refl) h.time

  -- ---- two transitions are one

  pub transition-once : {e f : Event} {s₁ s₂ : State} → Transition m s e s₁ → Transition m s f s₂ → (e ≡ f) × (s₁ ≡ s₂)
  transition-once (apply {k = j} {r = q} {s' = s₁} v a g x) (apply {k = k} {r = r} {s' = s₂} w b h y) =
      let u : (j ≡ k) × (q ≡ r) = selected-once m s j k q r a b in (
        ap event_fired u.0,
        applied-fire j q a.numbered v g s₁ x ∙ ap (λ (z : Rule). fire m.failure m.facts z (entry_of z s) s) u.1 ∙ sym (applied-fire k r b.numbered w h s₂ y),
      )
  transition-once (apply {k = j} {r = q} v a g x) (no-rule n l p) = absurd (n j q a.numbered a.matching)
  transition-once (no-rule n l p) (apply {k = k} {r = r} w b h y) = absurd (n k r b.numbered b.matching)
  transition-once (no-rule {ms = i} {s' = s₁} n l p) (no-rule {ms = j} {s' = s₂} o k q) =
      let e : i ≡ j = least-once s i j l k in
      (ap event_waited e, passed-wait i s s₁ p ∙ ap (λ (x : ℕ). wait x s) e ∙ sym (passed-wait j s s₂ q))

  -- ---- what a step with the fresh table comes to

  abbrev pub fresh_step : Step
  fresh_step = step_of m s (fresh_table m.rules s)

  -- a transition is made, unless the clock would pass; or there is none, and the step halts
  pub data Outcome : Type 0 where
    goes : (e : Event) (s' : State) (mark : ℕ) → Transition m s e s' → fresh_step ≡ unless_past e s' mark → Outcome
    stays : NoneSelected m s → ((b : ℕ) → b < length s.buffers → (buffer_of s b).delay ≡ 0) → fresh_step ≡ step_stopped halted → Outcome

  pub by-wait : (n : ℕ) → soonest 0 s.buffers ≡ n → NoneSelected m s → fresh_step ≡ wait_step s n → Outcome
  by-wait zero e none_is q = stays none_is (soonest-quiet s e) q
  by-wait (suc n) e none_is q =
      goes (event_waited (suc n)) (wait (suc n) s) (mark_of [] s (wait (suc n) s)) (no-rule none_is (soonest-pending s n e) (wait-passed (suc n) s)) q

  pub by-fire : (c : Candidate) → choose m.rules (utilities m.rules) (fresh_table m.rules s) ≡ some c → fresh_step ≡ step_by m.failure m.facts s (some c) → Outcome
  by-fire c e q =
      let sel : Selected m s c.number c.rule = chosen-selected m s c e in
      let own : c.entry ≡ entry_of c.rule s = chosen-own m.rules (utilities m.rules) s c e in
      let s' : State = fire m.failure m.facts c.rule (entry_of c.rule s) s in
      goes (event_fired c.number) s' (mark_of c.rule.actions s s')
      (apply sel.matching.binding sel sel.matching.binds (fire-applied c.number c.rule sel.numbered sel.matching.binding sel.matching.binds))
      (q ∙ fire-fresh m.failure m.facts s c own
      ∙ ap (λ (x : List ℕ). unless_past (event_fired c.number) (fire m.failure m.facts c.rule x s) (mark_of c.rule.actions s (fire m.failure m.facts c.rule x s))) own)
