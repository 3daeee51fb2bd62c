-- What a step leaves of a buffer that its mark does not name: it has only waited, and is visible exactly if it was. So no test tells it from what it was.
use Rattle.std.specs.Prelude.{if◌then◌else◌, ◌≡◌, refl, Bool, true, ◌&&◌, ◌||◌, not, List, [], ◌∷◌, map, ℕ, zero, suc, ◌+◌, ◌-◌, ◌≤◌, ◌<◌, leb, ℤ, length, get_or}
use Rattle.std.proofs.Math.Path.{sym, ap}
use Rattle.std.proofs.Common.{◌∙◌, inl, inr, zero-add, add-zero, arith, eqb-true}
use Rattle.std.proofs.Math.Bool.{false}
use Rattle.std.proofs.Math.Option.{Option, none, some}
use Rattle.std.proofs.Math.ListN.{get_or-eq_default}
use Rattle.meaning.specs.declared.Buffer.{Buffer}
use Rattle.meaning.specs.declared.State.{State}
use Rattle.meaning.specs.Base.{any_of, up_from, same, bit}
use Rattle.meaning.specs.Numbers.{not_fresh, clock_full}
use Rattle.meaning.specs.Model.{Model, Rule, Action, Deed, Fact}
use Rattle.meaning.specs.State.{nothing, buffer_of, visible}
use Rattle.meaning.specs.Match.{entry_of}
use Rattle.meaning.specs.Choice.{Candidate, choose}
use Rattle.meaning.specs.Fire.{later, deed_on, after, change, fire}
use Rattle.meaning.specs.Wait.{soonest, wait}
use Rattle.meaning.specs.Mark.{is_some, acted_on, arrived, mark_of}
use Rattle.meaning.specs.Step.{Event, event_fired, event_waited, Step, step_stopped, step_made, largest, unless_past, fire_step, wait_step, step_by, step}
use Rattle.meaning.specs.Refresh.{tests_marked}
use Rattle.laws.specs.BaseLaws.{or_left, or_right, get_or-up_from, bit-weigh, by-lt}
use Rattle.laws.specs.MatchLaws.{Alike, AlikeOn, test_on, query_on, entry-same}

-- ---- each buffer anew

pub get_or-change : (f : ℕ → Buffer → Buffer) (i : ℕ) (bs : List Buffer) (b : ℕ) (d : Buffer) → b < length bs → get_or (change f i bs) b d ≡ f (i + b) (get_or bs b d)
unfolding change
get_or-change f i [] b d h = absurd (omega arith)
get_or-change f i (x ∷ xs) zero d h = rw add-zero
get_or-change f i (x ∷ xs) (suc b) d h = get_or-change f (i + 1) xs b d (omega arith) ∙ ap (λ (k : ℕ). f k (get_or xs b d)) (omega arith)

pub length-change : (f : ℕ → Buffer → Buffer) (i : ℕ) (bs : List Buffer) → length (change f i bs) ≡ length bs
unfolding change
length-change f i [] = refl
length-change f i (b ∷ bs) = ap suc (length-change f (i + 1) bs)

-- ---- a buffer without an action that did not become visible

-- a buffer has waited, and if it was pending it still is
pub record Waits (b c : Buffer) : Type 0 where
  pub ms : ℕ
  pub is : c ≡ later ms b
  pub pending : visible b ≡ false → visible c ≡ false

-- each buffer that the mark does not name
abbrev pub Leaves : State → State → ℕ → Type 0
Leaves s s' mark = (b : ℕ) → bit mark b ≡ false → Waits (buffer_of s b) (buffer_of s' b)

no_deed : (o : Option Deed) → is_some o ≡ false → o ≡ none
no_deed none e = refl
no_deed (some d) e = cc

not_seen : (x y : Bool) → (not x && y) ≡ false → x ≡ false → y ≡ false
not_seen true y h e = cc
not_seen false y h e = h

-- past the buffers nothing stands
past : (s : State) (b : ℕ) → length s.buffers ≤ b → buffer_of s b ≡ nothing
past s b h = get_or-eq_default s.buffers nothing h

module _ (as' : List Action) (s s' : State) (ms : ℕ) (same_length : length s'.buffers ≡ length s.buffers)
    (alone : (b : ℕ) → b < length s.buffers → deed_on as' b ≡ none → buffer_of s' b ≡ later ms (buffer_of s b)) where
  abbrev marked : ℕ → Bool
  marked b = acted_on as' b || arrived s s' b

  leaves-inside : (b : ℕ) → b < length s.buffers → bit (mark_of as' s s') b ≡ false → Waits (buffer_of s b) (buffer_of s' b)
  unfolding mark_of
  leaves-inside b h e =
      let off : marked b ≡ false = sym (get_or-up_from marked 0 (length s.buffers) b h ∙ ap marked (zero-add b)) ∙ sym (bit-weigh (map marked (up_from 0 (length s.buffers))) b) ∙ e in
      let quiet : arrived s s' b ≡ false = or_right (acted_on as' b) (arrived s s' b) off in
      record {
        ms = ms;
        is = alone b h (no_deed (deed_on as' b) (or_left (acted_on as' b) (arrived s s' b) off));
        pending = not_seen (visible (buffer_of s b)) (visible (buffer_of s' b)) quiet;
      }

  leaves-outside : (b : ℕ) → length s.buffers ≤ b → Waits (buffer_of s b) (buffer_of s' b)
  leaves-outside b h = record { ms = 0; is = rw (past s b h, past s' b (omega arith)) refl; pending = λ e. rw (past s' b (omega arith)) (rw (past s b h) at e) }

  pub leaves_by : Leaves s s' (mark_of as' s s')
  leaves_by b e = by-lt b (length s.buffers) (λ h. leaves-inside b h e) (λ h. leaves-outside b h)

after_none : (failure : ℕ) (memory : List Fact) (entry : List ℕ) (b : Buffer) (o : Option Deed) → o ≡ none → after failure memory entry b o ≡ later 50 b
after_none failure memory entry b none e = refl
after_none failure memory entry b (some d) e = cc

pub fire-leaves : (failure : ℕ) (memory : List Fact) (r : Rule) (entry : List ℕ) (s : State)
    → Leaves s (fire failure memory r entry s) (mark_of r.actions s (fire failure memory r entry s))
unfolding fire
fire-leaves failure memory r entry s =
    let f : ℕ → Buffer → Buffer = λ i b. after failure memory entry b (deed_on r.actions i) in
    leaves_by r.actions s (fire failure memory r entry s) 50 (length-change f 0 s.buffers)
    (λ b h e. get_or-change f 0 s.buffers b nothing h ∙ after_none failure memory entry (buffer_of s b) (deed_on r.actions (0 + b)) (rw zero-add e))

pub wait-leaves : (ms : ℕ) (s : State) → Leaves s (wait ms s) (mark_of [] s (wait ms s))
unfolding wait
wait-leaves ms s =
    leaves_by [] s (wait ms s) ms (length-change (λ i b. later ms b) 0 s.buffers) (λ b h e. get_or-change (λ i b. later ms b) 0 s.buffers b nothing h)

-- ---- so of every step

abbrev pub StepLeaves : State → Step → Type 0
StepLeaves s (step_stopped n) = Unit {0}
StepLeaves s (step_made e s' mark) = Leaves s s' mark

unless-leaves : (s : State) (e : Event) (s' : State) (mark : ℕ) → Leaves s s' mark → StepLeaves s (unless_past e s' mark)
unless-leaves s e s' mark h =
    elim (leb s'.clock largest) as (λ t. StepLeaves s (if t then step_made e s' mark else step_stopped clock_full)) [ true ↦ h | false ↦ tt ]

fire-step-leaves : (failure : ℕ) (memory : List Fact) (s : State) (c : Candidate) → StepLeaves s (fire_step failure memory s c)
unfolding fire_step
fire-step-leaves failure memory s c =
    let s' : State = fire failure memory c.rule c.entry s in
    let made : Step = unless_past (event_fired c.number) s' (mark_of c.rule.actions s s') in
    elim (same c.entry (entry_of c.rule s)) as (λ t. StepLeaves s (if t then made else step_stopped not_fresh)) [
      | true ↦ unless-leaves s (event_fired c.number) s' (mark_of c.rule.actions s s') (fire-leaves failure memory c.rule c.entry s)
      | false ↦ tt
    ]

wait-step-leaves : (s : State) (ms : ℕ) → StepLeaves s (wait_step s ms)
wait-step-leaves s zero = tt
wait-step-leaves s (suc n) = unless-leaves s (event_waited (suc n)) (wait (suc n) s) (mark_of [] s (wait (suc n) s)) (wait-leaves (suc n) s)

step-by-leaves : (failure : ℕ) (memory : List Fact) (s : State) (o : Option Candidate) → StepLeaves s (step_by failure memory s o)
step-by-leaves failure memory s none = wait-step-leaves s (soonest 0 s.buffers)
step-by-leaves failure memory s (some c) = fire-step-leaves failure memory s c

pub step-leaves : (m : Model) (memory : List Fact) (us : List ℤ) (s : State) (table : List ℕ) → StepLeaves s (step m memory us s table)
unfolding step
step-leaves m memory us s table = step-by-leaves m.failure memory s (choose m.rules us table)

-- ---- no test and no query tells such a buffer from what it was

waits-by : (b c : Buffer) → Waits b c → (t : Bool) → visible b ≡ t → Alike b c
waits-by b c w true e =
    let z : b.delay ≡ b.delay - w.ms = omega (arith, eqb-true b.delay 0 e) in
    inl (ap (λ (d : ℕ). record { isa = b.isa; slots = b.slots; delay = d; error = b.error }) z ∙ sym w.is)
waits-by b c w false e = inr (e, w.pending e)

pub waits-alike : (b c : Buffer) → Waits b c → Alike b c
waits-alike b c w = waits-by b c w (visible b) refl

-- what a mark promises: a buffer that it does not name looks to every test and query as it did
abbrev pub Marks : State → State → ℕ → Type 0
Marks s s' mark = (b : ℕ) → bit mark b ≡ false → Alike (buffer_of s b) (buffer_of s' b)

unmarked : {A : Type 0} (buffer : A → ℕ) (s s' : State) (mark : ℕ) → Marks s s' mark → (xs : List A) → any_of (λ x. bit mark (buffer x)) xs ≡ false → AlikeOn buffer s s' xs
unmarked buffer s s' mark h [] e = tt
unmarked buffer s s' mark h (x ∷ xs) e = (
  h (buffer x) (or_left (bit mark (buffer x)) (any_of (λ y. bit mark (buffer y)) xs) e),
  unmarked buffer s s' mark h xs (or_right (bit mark (buffer x)) _ e),
)

-- so the entry of a rule that tests and queries no marked buffer stays fresh
pub entry-unmarked : (r : Rule) (s s' : State) (mark : ℕ) → Marks s s' mark → tests_marked mark r ≡ false → entry_of r s ≡ entry_of r s'
entry-unmarked r s s' mark h e =
    let on_tests : Bool = any_of (λ t. bit mark t.buffer) r.tests in
    let on_queries : Bool = any_of (λ q. bit mark q.buffer) r.queries in
    entry-same r s s' (unmarked test_on s s' mark h r.tests (or_left on_tests on_queries e)) (unmarked query_on s s' mark h r.queries (or_right on_tests on_queries e))
