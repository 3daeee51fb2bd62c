-- The lines of a run by what it answers: its events in the words lent for them, its number and its count.
use Rattle.std.specs.Prelude.{if◌then◌else◌}
use Prim.Native.Nat.{ℕ, suc, ◌+◌, ◌*◌, ◌≤◌, ◌<◌}
use mathlib.Core.Path.{◌≡◌, refl, ap, ap₂, ◌∙◌}
use mathlib.Core.Bool.{true, false}
use mathlib.Core.List.{List, [], ◌∷◌, ◌++◌, map}
use native.Mathlib.Omega.{arith}
use borrow.Author.Tests.{le-leb}
use lib.Dec.{leb}
use lib.ListN.{length, get_or, set, length-set}
use lib.Seq.{sets, length-sets, get_or-set_same, get_or-set_other}
use Rattle.meaning.specs.declared.State.{State}
use Rattle.meaning.specs.Step.{Event, event_fired, event_waited}
use Rattle.meaning.specs.Run.{Going, Timed, Run}
use Rattle.meaning.specs.Calls.{Ran, WithStore, trace_lent, run_lent}
use Rattle.meaning.specs.Store.{lent_by}
use Rattle.meaning.specs.Print.{Line, stepped, end, line_of, lines_of}
use Rattle.laws.specs.CallsLaws.{lent-most}
use Rattle.step_note.specs.Events.{event_words, event_by, noted, inscribed}
use Rattle.call_run.specs.declared.RunDone.{RunDone}
use Rattle.call_run.specs.Answers.{with_store}
use Rattle.actr_lines.specs.Written.{line_in, lines_in}

-- ---- the words of an event stay as later events are noted

sets-apart : (vs l : List ℕ) (i j : ℕ) → i < j → get_or (sets l j vs) i 0 ≡ get_or l i 0
sets-apart [] l i j h = refl
sets-apart (v ∷ vs) l i j h = sets-apart vs (set l j v) i (suc j) (omega arith) ∙ get_or-set_other l j i v 0 (λ e. omega arith)

noted-apart : (event l : List ℕ) (k i : ℕ) → i < 3 * k → get_or (noted l k event) i 0 ≡ get_or l i 0
unfolding noted
noted-apart event l k i h =
    elim (leb (3 * k + 3) (length l)) as (λ t. get_or (if t then sets l (3 * k) event else l) i 0 ≡ get_or l i 0) [
      | true ↦ sets-apart event l i (3 * k) h
      | false ↦ refl
    ]

inscribed-apart : (es : List Timed) (l : List ℕ) (k i : ℕ) → i < 3 * k → get_or (inscribed l k es) i 0 ≡ get_or l i 0
unfolding inscribed
inscribed-apart [] l k i h = refl
inscribed-apart (e ∷ es) l k i h = inscribed-apart es (noted l k (event_words e.clock e.event)) (k + 1) i (omega arith) ∙ noted-apart (event_words e.clock e.event) l k i h

noted-length : (event l : List ℕ) (k : ℕ) → length (noted l k event) ≡ length l
unfolding noted
noted-length event l k =
    elim (leb (3 * k + 3) (length l)) as (λ t. length (if t then sets l (3 * k) event else l) ≡ length l) [
      | true ↦ length-sets l (3 * k) event
      | false ↦ refl
    ]

-- ---- an event is read back as its line

abbrev line_by : ℕ → ℕ → ℕ → Line
line_by clock kind value = stepped clock (event_by kind value)

same_line : {a b c a' b' c' : ℕ} → a ≡ a' → b ≡ b' → c ≡ c' → line_by a b c ≡ line_by a' b' c'
same_line {a} {b} {c} {a'} {b'} {c'} p q r = ap (λ (x : ℕ). line_by x b c) p ∙ ap₂ (λ (x y : ℕ). line_by a' x y) q r

first-stored : (vs l : List ℕ) (j v : ℕ) → j < length l → get_or (sets l j (v ∷ vs)) j 0 ≡ v
first-stored vs l j v h = sets-apart vs (set l j v) j (suc j) (omega arith) ∙ get_or-set_same l j v 0 h

three_back : (l : List ℕ) (k a b c : ℕ) → 3 * k + 3 ≤ length l → line_in (noted l k (a ∷ b ∷ c ∷ [])) k ≡ line_by a b c
unfolding noted
three_back l k a b c h =
    let p : 3 * k + 1 ≡ suc (3 * k) = omega arith in
    let q : 3 * k + 2 ≡ suc (suc (3 * k)) = omega arith in
    rw (le-leb (3 * k + 3) (length l) h, p, q)
    (same_line
    (first-stored (b ∷ c ∷ []) l (3 * k) a (omega arith))
    (first-stored (c ∷ []) (set l (3 * k) a) (suc (3 * k)) b (omega (arith, length-set l (3 * k) a)))
    (first-stored [] (set (set l (3 * k) a) (suc (3 * k)) b) (suc (suc (3 * k))) c (omega (arith, length-set (set l (3 * k) a) (suc (3 * k)) b, length-set l (3 * k) a))))

event-back : (l : List ℕ) (k clock : ℕ) (e : Event) → 3 * k + 3 ≤ length l → line_in (noted l k (event_words clock e)) k ≡ stepped clock e
event-back l k clock (event_fired r) h = three_back l k clock 0 r h
event-back l k clock (event_waited ms) h = three_back l k clock 1 ms h

-- and so it is after later events
line_stays : (es : List Timed) (l : List ℕ) (k : ℕ) → line_in (inscribed l (k + 1) es) k ≡ line_in l k
line_stays es l k =
    same_line (inscribed-apart es l (k + 1) (3 * k) (omega arith)) (inscribed-apart es l (k + 1) (3 * k + 1) (omega arith)) (inscribed-apart es l (k + 1) (3 * k + 2) (omega arith))

-- ---- the lines of a run are those of its events, and the last

events-back : (es : List Timed) (lent : List ℕ) (k : ℕ) → 3 * (k + length es) ≤ length lent → lines_in (inscribed lent k es) k (length es) ≡ map line_of es
unfolding inscribed lines_in
events-back [] lent k h = refl
events-back (e ∷ es) lent k h =
    let lent' : List ℕ = noted lent k (event_words e.clock e.event) in
    ap₂ (λ (x : Line) (xs : List Line). x ∷ xs)
    (line_stays es lent' k ∙ event-back lent k e.clock e.event (omega arith))
    (events-back es lent' (k + 1) (omega (arith, noted-length (event_words e.clock e.event) lent k)))

-- what a run answers gives its lines, whatever is lent
pub lent-lines : (s : State) (table : List ℕ) (n : ℕ) (room : List ℕ) → 3 * n ≤ length room
    → (image : List ℕ) (lent : ℕ) (store : List ℕ) (r : RunDone) (table' store' words : List ℕ)
    → with_store r table' store' ≡ run_lent image s table n lent store → words ≡ inscribed room 0 (trace_lent image s table n (lent_by lent store)).events
    → lines_in words 0 r.made ++ (end r.number r.made ∷ []) ≡ lines_of (trace_lent image s table n (lent_by lent store))
unfolding run_lent
lent-lines s table n room long image lent store r table' store' words e w =
    let run : Run Going = trace_lent image s table n (lent_by lent store) in
    let few : length run.events ≤ n = lent-most image s table n lent store in
    ap₂ (λ (ws : List ℕ) (a : WithStore Ran). lines_in ws 0 a.answer.made ++ (end a.answer.number a.answer.made ∷ [])) w e
    ∙ ap (λ (ls : List Line). ls ++ (end run.number (length run.events) ∷ [])) (events-back run.events room 0 (omega arith))

-- ---- a run makes no more steps than asked

pub lent-few : (image : List ℕ) (s : State) (table : List ℕ) (n lent : ℕ) (store : List ℕ) (r : RunDone) (table' store' : List ℕ)
    → with_store r table' store' ≡ run_lent image s table n lent store → r.made ≤ n
lent-few image s table n lent store r table' store' e =
    let made : r.made ≡ (run_lent image s table n lent store).answer.made = ap (λ (a : WithStore Ran). a.answer.made) e in
    rw made (lent-most image s table n lent store)
