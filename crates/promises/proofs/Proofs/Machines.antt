-- A chain of calls holds states of the machine: eight buffers of eight slots, each word in 16 bits.
use Rattle.std.specs.Prelude.{◌≡◌, ◌⊎◌, Bool, false, ◌&&◌, ℕ, zero, suc, ◌+◌, ◌-◌, ◌*◌, ◌≤◌, ◌<◌, leb, eqb, ltb, length, get_or, drop, replicate, set}
use Rattle.std.proofs.Math.Path.{refl}
use Rattle.std.proofs.Common.{sym, ap, subst, ◌∙◌, ⊎_elim, arith, eqb-true, eq-eqb, leb-true, le-leb, ltb-true, lt-ltb, length-append, length-set}
use Rattle.std.proofs.Math.Bool.{true}
use mathlib.Core.List.{List, [], ◌∷◌, map, Memᴰ}
use Rattle.std.proofs.Math.Option.{Option, none, some}
use Rattle.std.proofs.lemmas.List.{length-replicate}
use Rattle.meaning.specs.declared.Buffer.{Buffer}
use Rattle.meaning.specs.declared.State.{State}
use Rattle.meaning.specs.Base.{every, keep, up_from}
use Rattle.meaning.specs.Numbers.{finer, bad_number}
use Rattle.meaning.specs.Model.{Model, Rule, Named, Deed, deed_modify, deed_request, deed_clear, Chunk, Fact}
use Rattle.meaning.specs.State.{nothing, buffer_of, nil_after, slot_count, well_buffer, is_nil, is_unused, well_formed, opens}
use Rattle.meaning.specs.Read.{read_got, must, field, times}
use Rattle.meaning.specs.Image.{Header, between, a_type, anything, eight, header, chunk, fact, rule, ending, slot_counts, beginning, contents, model, decode}
use Rattle.meaning.specs.Retrieval.{value_of, fits, weaker, retrieve, retrieved}
use Rattle.meaning.specs.Choice.{utilities}
use Rattle.meaning.specs.Fire.{put, done, later, deed_on, after, change, fire}
use Rattle.meaning.specs.Wait.{wait}
use Rattle.meaning.specs.Step.{Event, event_fired, event_waited, step_made, largest, step_of}
use Rattle.meaning.specs.Learning.{learned, knowing, chunk_of, adds, store_after}
use Rattle.meaning.specs.Store.{place_in, store_in, holdable, store_fits, store_of}
use Rattle.meaning.specs.Calls.{open_state}
use Rattle.laws.specs.BaseLaws.{no_true, and_left, and_right, every_append, every-replicate, every-member, keep-member, length-up_from}
use Rattle.laws.specs.BitsLaws.{field_at-lt}
use Rattle.laws.specs.ReadLaws.{FieldRead, field-got, times-all, split}
use Rattle.laws.specs.ImageLaws.{between-got}
use Rattle.laws.specs.HighestLaws.{Best}
use Rattle.laws.specs.RetrievalLaws.{retrieve-best}
use Rattle.laws.specs.CallsLaws.{open-well}
use Rattle.promises.specs.Words.{is_word, is_buffer, Machine, Reached, ClearedBy}
use Rattle.promises.proofs.Proofs.Decoded.{Decoded, decoded, and-true, all-weaken}
use Rattle.promises.proofs.Proofs.Learned.{every-adds}
use Rattle.promises.proofs.Proofs.Joining.{at_every, adds-from}
use Rattle.promises.proofs.Proofs.Placed.{decode-got}
use Rattle.promises.proofs.Proofs.Steps.{FiredBy, WaitedBy, step-fired, step-waited}
use Rattle.promises.proofs.Proofs.Chains.{chain-keeps}
use Rattle.promises.proofs.Proofs.Eight.{open-eight, step-eight}
use Rattle.promises.proofs.Proofs.WellFormed.{WellParts, buffer-parts, parts-buffer, all-get_or, all-change, step-well}

-- ---- what an image's chunks, facts and failure latency are

-- a chunk of eight slots whose type is a word, and a fact of such a chunk that comes after a word of ms
abbrev pub chunk_fit : Chunk → Bool
chunk_fit c = eqb (length c.slots) 8 && is_word c.isa

abbrev fact_fit : Fact → Bool
fact_fit f = chunk_fit f.chunk && is_word f.latency

chunk-fit : (types : List ℕ) → every (λ n. leb n 8) types ≡ true → (least : ℕ) (image : List ℕ) (at : ℕ) (c : Chunk) (end : ℕ) → chunk finer types least image at ≡ read_got c end → chunk_fit c ≡ true
unfolding chunk
chunk-fit types low least image at c end e =
    split (field 6 (must bad_number (a_type types least)) image at) _ e λ k n₁ e₁ k₁.
    split (times (slot_count types k) (field 12 anything) image n₁) _ k₁ λ vs n₂ e₂ k₂.
    let q : record { isa = k; slots = eight vs } ≡ c = cc in
    let f : FieldRead 6 (must bad_number (a_type types least)) image at k n₁ = field-got 6 (must bad_number (a_type types least)) image at k n₁ e₁ in
    let many : length vs ≡ slot_count types k = (times-all (field 12 anything) (λ v. true) (λ i a v n z. refl) (slot_count types k) image n₁ vs n₂ e₂).1 in
    let few : slot_count types k ≤ 8 = leb-true (slot_count types k) 8 (all-get_or (λ n. leb n 8) types k 0 low refl) in
    rw (← q)
    (and-true (eqb (length (eight vs)) 8) (is_word k)
    (eq-eqb (length (eight vs)) 8 (length-append vs (replicate (8 - length vs) 0) ∙ omega (arith, length-replicate {A = ℕ} (8 - length vs) 0)))
    (le-leb k 65535 (omega (arith, f.is, field_at-lt image at 6))))

word_of : (image : List ℕ) (at v next : ℕ) → field 16 anything image at ≡ read_got v next → is_word v ≡ true
word_of image at v next e =
    let f : FieldRead 16 anything image at v next = field-got 16 anything image at v next e in le-leb v 65535 (omega (arith, f.is, field_at-lt image at 16))

fact-fit : (types : List ℕ) → every (λ n. leb n 8) types ≡ true → (image : List ℕ) (at : ℕ) (f : Fact) (end : ℕ) → fact finer types image at ≡ read_got f end → fact_fit f ≡ true
unfolding fact
fact-fit types low image at f end e =
    split (chunk finer types 1 image at) _ e λ c n₁ e₁ k₁.
    split (field 16 anything image n₁) _ k₁ λ activation n₂ e₂ k₂.
    split (field 16 anything image n₂) _ k₂ λ latency n₃ e₃ k₃.
    let q : record { chunk = c; activation = activation; latency = latency } ≡ f = cc in
    rw (← q) (and-true (chunk_fit c) (is_word latency) (chunk-fit types low 1 image at c n₁ e₁) (word_of image n₂ latency n₃ e₃))

failure-fit : (image : List ℕ) (at : ℕ) (h : Header) (end : ℕ) → header finer image at ≡ read_got h end → is_word h.failure ≡ true
unfolding header
failure-fit image at h end e =
    split (field 8 (must bad_number (between 1 2)) image at) _ e λ version n₁ e₁ k₁.
    split (field 4 (must bad_number (between 1 8)) image n₁) _ k₁ λ buffers n₂ e₂ k₂.
    split (field 6 (must bad_number (between 0 63)) image n₂) _ k₂ λ declared n₃ e₃ k₃.
    split (field 9 (must bad_number (between 0 256)) image n₃) _ k₃ λ rules n₄ e₄ k₄.
    split (field 10 (must bad_number (between 0 512)) image n₄) _ k₄ λ facts n₅ e₅ k₅.
    split (field 16 anything image n₅) _ k₅ λ failure n₆ e₆ k₆.
    let q : record { version = version; buffers = buffers; declared = declared; rules = rules; facts = facts; failure = failure } ≡ h = cc in
    rw (← q) (word_of image n₅ failure n₆ e₆)

types-fit : (image : List ℕ) (at : ℕ) (h : Header) (end : ℕ) → header finer image at ≡ read_got h end → h.declared ≤ 63
unfolding header
types-fit image at h end e =
    split (field 8 (must bad_number (between 1 2)) image at) _ e λ version n₁ e₁ k₁.
    split (field 4 (must bad_number (between 1 8)) image n₁) _ k₁ λ buffers n₂ e₂ k₂.
    split (field 6 (must bad_number (between 0 63)) image n₂) _ k₂ λ declared n₃ e₃ k₃.
    split (field 9 (must bad_number (between 0 256)) image n₃) _ k₃ λ rules n₄ e₄ k₄.
    split (field 10 (must bad_number (between 0 512)) image n₄) _ k₄ λ facts n₅ e₅ k₅.
    split (field 16 anything image n₅) _ k₅ λ failure n₆ e₆ k₆.
    let q : record { version = version; buffers = buffers; declared = declared; rules = rules; facts = facts; failure = failure } ≡ h = cc in
    rw (← q) (between-got 6 0 63 image n₂ declared n₃ e₃).1

pub record Fit (m : Model) : Type 0 where
  few_types : length m.types ≤ 64
  failure_word : is_word m.failure ≡ true
  opening_fits : every chunk_fit m.opening ≡ true
  facts_fit : every fact_fit m.facts ≡ true

fits-of : (image : List ℕ) (m : Model) (at : ℕ) → model finer image 0 ≡ read_got m at → Fit m
unfolding model beginning contents
fits-of image m at e =
    split (beginning finer image 0) _ e λ b n₁ e₁ k₁.
    split (contents finer b.head.version (record { buffers = b.head.buffers; types = b.types }) b.head.facts b.head.rules image n₁) _ k₁ λ c n₂ e₂ k₂.
    split (header finer image 0) _ e₁ λ h n₃ e₃ k₃.
    split (slot_counts finer h.declared image n₃) _ k₃ λ counts n₄ e₄ k₄.
    split (times h.buffers (chunk finer (0 ∷ counts) 0) image n₄) _ k₄ λ opening n₅ e₅ k₅.
    split (times b.head.facts (fact finer b.types) image n₁) _ e₂ λ facts n₆ e₆ k₆.
    split (times b.head.rules (rule finer b.head.version (record { buffers = b.head.buffers; types = b.types })) image n₆) _ k₆ λ rules n₇ e₇ k₇.
    split (ending image n₇) _ k₇ λ u n₈ e₈ k₈.
    let c-is : record { facts = facts; rules = rules } ≡ c = cc in
    let b-is : record { head = h; types = 0 ∷ counts; opening = opening } ≡ b = cc in
    let m-is : record { buffers = b.head.buffers; types = b.types; failure = b.head.failure; opening = b.opening; facts = c.facts; rules = c.rules } ≡ m = cc in
    let lows : (every (λ n. leb n 8) counts ≡ true) × (length counts ≡ h.declared) =
    times-all (field 4 (must bad_number (between 0 8))) (λ n. leb n 8) (λ i a v n z. le-leb v 8 (between-got 4 0 8 i a v n z).1) h.declared image n₃ counts n₄ e₄ in
    let low : every (λ n. leb n 8) counts ≡ true = lows.0 in
    rw (← m-is, ← c-is, ← b-is)
    (record {
      few_types = omega (arith, lows.1, types-fit image 0 h n₃ e₃);
      failure_word = failure-fit image 0 h n₃ e₃;
      opening_fits = (times-all (chunk finer (0 ∷ counts) 0) chunk_fit (chunk-fit (0 ∷ counts) low 0) h.buffers image n₄ opening n₅ e₅).0;
      facts_fit = (times-all (fact finer (0 ∷ counts)) fact_fit (fact-fit (0 ∷ counts) low) h.facts image n₁ facts n₆ (rw (← b-is) at e₆)).0;
    })

-- ---- what is known besides the image's facts

-- chunks that the image could hold, and fit for the machine
abbrev pub StoreFit : Model → Option (List Chunk) → Type 0
StoreFit m none = true ≡ true
StoreFit m (some cs) = (every chunk_fit cs ≡ true) × (every (holdable m.types) cs ≡ true)

learned-fit : (cs : List Chunk) → every chunk_fit cs ≡ true → every fact_fit (map learned cs) ≡ true
learned-fit [] e = refl
learned-fit (c ∷ cs) e =
    and-true (fact_fit (learned c)) (every fact_fit (map learned cs)) (and-true (chunk_fit c) (is_word 50) (and_left (chunk_fit c) (every chunk_fit cs) e) refl)
    (learned-fit cs (and_right (chunk_fit c) (every chunk_fit cs) e))

learned-well : (types : List ℕ) (cs : List Chunk) → every (holdable types) cs ≡ true → every (λ (f : Fact). well_buffer types (opens f.chunk)) (map learned cs) ≡ true
learned-well types [] e = refl
learned-well types (c ∷ cs) e =
    let p : Chunk → Bool = holdable types in
    and-true (well_buffer types (opens c)) (every (λ (f : Fact). well_buffer types (opens f.chunk)) (map learned cs))
    (and_right (ltb 0 c.isa) (well_buffer types (opens c)) (and_left (p c) (every p cs) e)) (learned-well types cs (and_right (p c) (every p cs) e))

known-fit : (m : Model) → Fit m → (store : Option (List Chunk)) → StoreFit m store → Fit (knowing m store)
known-fit m fit none g = fit
known-fit m fit (some cs) g =
    record {
      few_types = fit.few_types;
      failure_word = fit.failure_word;
      opening_fits = fit.opening_fits;
      facts_fit = every_append fact_fit m.facts (map learned cs) fit.facts_fit (learned-fit cs g.0);
    }

known-decoded : (m : Model) → Decoded m → (store : Option (List Chunk)) → StoreFit m store → Decoded (knowing m store)
known-decoded m d none g = d
known-decoded m d (some cs) g =
    record {
      counts = d.counts;
      types_are = d.types_are;
      few = d.few;
      opens_all = d.opens_all;
      facts_well = every_append (λ (f : Fact). well_buffer m.types (opens f.chunk)) m.facts (map learned cs) d.facts_well (learned-well m.types cs g.1);
      rules_good = d.rules_good;
    }

-- a store that is lent and not refused
places-fit : (types words is : List ℕ) → length types ≤ 64 → every (holdable types) (map (place_in words) is) ≡ true
    → every chunk_fit (map (place_in words) is) ≡ true
places-fit types words [] few e = refl
places-fit types words (i ∷ is) few e =
    let c : Chunk = place_in words i in
    let w : well_buffer types (opens c) ≡ true = and_right (ltb 0 c.isa) (well_buffer types (opens c)) (and_left (holdable types c) (every (holdable types) (map (place_in words) is)) e) in
    let low : c.isa < length types = ltb-true c.isa (length types) (buffer-parts types (opens c) w).typed in
    let long : eqb (length c.slots) 8 ≡ true = eq-eqb (length c.slots) 8 (length-up_from (λ b. get_or words (9 * i + 2 + b) 0) 0 8) in
    and-true (chunk_fit c) (every chunk_fit (map (place_in words) is)) (and-true (eqb (length c.slots) 8) (is_word c.isa) long (le-leb c.isa 65535 (omega (arith, low))))
    (places-fit types words is few (and_right (holdable types c) (every (holdable types) (map (place_in words) is)) e))

pub lent-fit : (m : Model) → Fit m → (lent : Option (List ℕ)) → store_fits m.types lent ≡ true → StoreFit m (store_of lent)
unfolding store_fits store_in
lent-fit m fit none e = refl
lent-fit m fit (some words) e =
    let h : every (holdable m.types) (map (place_in words) (up_from 0 (get_or words 0 0))) ≡ true =
    and_right (eqb (length words) 2305 && leb (get_or words 0 0) 256) (every (holdable m.types) (map (place_in words) (up_from 0 (get_or words 0 0)))) e in
    (places-fit m.types words (up_from 0 (get_or words 0 0)) fit.few_types h, h)

-- ---- what a step makes of a buffer

-- eight slots, and type and delay are words
abbrev rough : Buffer → Bool
rough b = eqb (length b.slots) 8 && (is_word b.isa && is_word b.delay)

rough-made : (b : Buffer) → length b.slots ≡ 8 → is_word b.isa ≡ true → is_word b.delay ≡ true → rough b ≡ true
rough-made b l i d =
    and-true (eqb (length b.slots) 8) (is_word b.isa && is_word b.delay) (eq-eqb (length b.slots) 8 l) (and-true (is_word b.isa) (is_word b.delay) i d)

record Rough (b : Buffer) : Type 0 where
  slots_are : length b.slots ≡ 8
  isa_is : is_word b.isa ≡ true
  delay_is : is_word b.delay ≡ true

rough-parts : (b : Buffer) → rough b ≡ true → Rough b
rough-parts b e =
    let rest : (is_word b.isa && is_word b.delay) ≡ true = and_right (eqb (length b.slots) 8) (is_word b.isa && is_word b.delay) e in
    record {
      slots_are = eqb-true (length b.slots) 8 (and_left (eqb (length b.slots) 8) (is_word b.isa && is_word b.delay) e);
      isa_is = and_left (is_word b.isa) (is_word b.delay) rest;
      delay_is = and_right (is_word b.isa) (is_word b.delay) rest;
    }

put-long : (ns : List Named) (entry slots : List ℕ) → length (put ns entry slots) ≡ length slots
unfolding put
put-long [] entry slots = refl
put-long (n ∷ ns) entry slots = put-long ns entry (set slots n.slot (value_of entry n.term)) ∙ length-set slots n.slot (value_of entry n.term)

later-rough : (ms : ℕ) (b : Buffer) → rough b ≡ true → rough (later ms b) ≡ true
later-rough ms b e =
    let r : Rough b = rough-parts b e in
    rough-made (later ms b) r.slots_are r.isa_is (le-leb (b.delay - ms) 65535 (omega (arith, leb-true b.delay 65535 r.delay_is)))

module _ (m : Model) (fit : Fit m) (entry : List ℕ) where
  retrieved-rough : (isa : ℕ) (ns : List Named) (o : Option Fact) → retrieve m.facts isa ns entry ≡ o → rough (retrieved m.failure o) ≡ true
  retrieved-rough isa ns none e = fit.failure_word
  retrieved-rough isa ns (some f) e =
      let b : Best weaker (keep (fits isa ns entry) m.facts) f = retrieve-best m.facts isa ns entry f e in
      let h : Memᴰ f (keep (fits isa ns entry) m.facts) = rw b.split (mathlib.Core.List.Memᴰ.append_right b.before (mathlib.Core.List.Memᴰ.head refl)) in
      let g : fact_fit f ≡ true = every-member fact_fit m.facts fit.facts_fit (keep-member (fits isa ns entry) m.facts h).0 in
      let c : chunk_fit f.chunk ≡ true = and_left (chunk_fit f.chunk) (is_word f.latency) g in
      rough-made (retrieved m.failure (some f)) (eqb-true (length f.chunk.slots) 8 (and_left (eqb (length f.chunk.slots) 8) (is_word f.chunk.isa) c))
      (and_right (eqb (length f.chunk.slots) 8) (is_word f.chunk.isa) c) (and_right (chunk_fit f.chunk) (is_word f.latency) g)

  after-rough : (b : Buffer) (o : Option Deed) → rough b ≡ true → rough (after m.failure m.facts entry b o) ≡ true
  unfolding done
  after-rough b none e = later-rough 50 b e
  after-rough b (some (deed_modify ns)) e =
      let r : Rough b = rough-parts b e in rough-made (done m.failure m.facts entry b (deed_modify ns)) (put-long ns entry b.slots ∙ r.slots_are) r.isa_is refl
  after-rough b (some (deed_request isa ns)) e = retrieved-rough isa ns (retrieve m.facts isa ns entry) refl
  after-rough b (some deed_clear) e = refl

at_place : (p : Buffer → Bool) (bs : List Buffer) (j : ℕ) → j < length bs → every p bs ≡ true → p (get_or bs j nothing) ≡ true
at_place p [] j l e = absurd (omega arith)
at_place p (b ∷ bs) zero l e = and_left (p b) (every p bs) e
at_place p (b ∷ bs) (suc j) l e = at_place p bs j (omega arith) (and_right (p b) (every p bs) e)

anew-rough : (f : ℕ → Buffer → Buffer) → ((j : ℕ) (b : Buffer) → rough b ≡ true → rough (f j b) ≡ true) → (bs : List Buffer) → every rough bs ≡ true → every rough (change f 0 bs) ≡ true
anew-rough f keeps bs e = all-change rough f 0 bs (λ j l. keeps (0 + j) (get_or bs j nothing) (at_place rough bs j l e))

fire-rough : (m : Model) → Fit m → (r : Rule) (entry : List ℕ) (s : State) → every rough s.buffers ≡ true → every rough (fire m.failure m.facts r entry s).buffers ≡ true
unfolding fire
fire-rough m fit r entry s e = anew-rough (λ i b. after m.failure m.facts entry b (deed_on r.actions i)) (λ j b h. after-rough m fit entry b (deed_on r.actions j) h) s.buffers e

wait-rough : (ms : ℕ) (s : State) → every rough s.buffers ≡ true → every rough (wait ms s).buffers ≡ true
unfolding wait
wait-rough ms s e = anew-rough (λ i b. later ms b) (λ j b h. later-rough ms b h) s.buffers e

step-rough : (m : Model) → Fit m → (s : State) (table : List ℕ) → every rough s.buffers ≡ true → (e : Event) (s' : State) (mark : ℕ) → step_of m s table ≡ step_made e s' mark
    → (every rough s'.buffers ≡ true) × (s'.clock ≤ largest)
step-rough m fit s table h (event_fired k) s' mark q =
    let f : FiredBy m m.facts (utilities m.rules) s table k s' mark = step-fired m m.facts (utilities m.rules) s table k s' mark q in
    (ap (λ (x : State). every rough x.buffers) (sym f.state_is) ∙ fire-rough m fit f.candidate.rule f.candidate.entry s h, f.in_time)
step-rough m fit s table h (event_waited ms) s' mark q =
    let f : WaitedBy m (utilities m.rules) s table ms s' mark = step-waited m m.facts (utilities m.rules) s table ms s' mark q in
    (ap (λ (x : State). every rough x.buffers) (sym f.state_is) ∙ wait-rough ms s h, f.in_time)

-- ---- an opening

opens-rough : (cs : List Chunk) → every chunk_fit cs ≡ true → every rough (map opens cs) ≡ true
opens-rough [] e = refl
opens-rough (c ∷ cs) e =
    let g : chunk_fit c ≡ true = and_left (chunk_fit c) (every chunk_fit cs) e in
    and-true (rough (opens c)) (every rough (map opens cs))
    (rough-made (opens c) (eqb-true (length c.slots) 8 (and_left (eqb (length c.slots) 8) (is_word c.isa) g)) (and_right (eqb (length c.slots) 8) (is_word c.isa) g) refl)
    (opens-rough cs (and_right (chunk_fit c) (every chunk_fit cs) e))

open-rough : (m : Model) → Fit m → every rough (open_state m).buffers ≡ true
unfolding open_state
open-rough m fit =
    every_append rough (map opens m.opening) (replicate (8 - m.buffers) (nil_after 0)) (opens-rough m.opening fit.opening_fits) (every-replicate rough (8 - m.buffers) (nil_after 0) refl)

-- ---- well formed, and so with small values

full : (types : List ℕ) (b : Buffer) → rough b ≡ true → well_buffer types b ≡ true → is_buffer b ≡ true
full types b r w =
    let p : Rough b = rough-parts b r in
    let small : every is_word b.slots ≡ true = all-weaken (λ v. leb v 4095) is_word (λ v h. le-leb v 65535 (omega (arith, leb-true v 4095 h))) b.slots (buffer-parts types b w).symbols in
    and-true (eqb (length b.slots) 8) (is_word b.isa && (every is_word b.slots && is_word b.delay)) (eq-eqb (length b.slots) 8 p.slots_are)
    (and-true (is_word b.isa) (every is_word b.slots && is_word b.delay) p.isa_is (and-true (every is_word b.slots) (is_word b.delay) small p.delay_is))

all-full : (types : List ℕ) (bs : List Buffer) → every rough bs ≡ true → every (well_buffer types) bs ≡ true → every is_buffer bs ≡ true
all-full types [] r w = refl
all-full types (b ∷ bs) r w =
    and-true (is_buffer b) (every is_buffer bs) (full types b (and_left (rough b) (every rough bs) r) (and_left (well_buffer types b) (every (well_buffer types) bs) w))
    (all-full types bs (and_right (rough b) (every rough bs) r) (and_right (well_buffer types b) (every (well_buffer types) bs) w))

rough-of : (b : Buffer) → is_buffer b ≡ true → rough b ≡ true
rough-of b e =
    let rest : (is_word b.isa && (every is_word b.slots && is_word b.delay)) ≡ true =
    and_right (eqb (length b.slots) 8) (is_word b.isa && (every is_word b.slots && is_word b.delay)) e in
    and-true (eqb (length b.slots) 8) (is_word b.isa && is_word b.delay) (and_left (eqb (length b.slots) 8) (is_word b.isa && (every is_word b.slots && is_word b.delay)) e)
    (and-true (is_word b.isa) (is_word b.delay) (and_left (is_word b.isa) (every is_word b.slots && is_word b.delay) rest)
    (and_right (every is_word b.slots) (is_word b.delay) (and_right (is_word b.isa) (every is_word b.slots && is_word b.delay) rest)))

well-buffers : (m : Model) (s : State) → well_formed m s ≡ true → every (well_buffer m.types) s.buffers ≡ true
unfolding well_formed
well-buffers m s e = and_left (every (well_buffer m.types) s.buffers) (every is_unused (drop m.buffers s.buffers)) e

-- ---- what a chain of calls keeps: a well-formed state of the machine

pub record Sound (m : Model) (s : State) : Type 0 where
  pub well : well_formed m s ≡ true
  pub machine : Machine s

made-sound : (m : Model) (s : State) → length s.buffers ≡ 8 → every rough s.buffers ≡ true → s.clock ≤ largest → well_formed m s ≡ true → Sound m s
made-sound m s l r c w =
    record { well = w; machine = record { eight = l; all_buffers = all-full m.types s.buffers r (well-buffers m s w); in_time = c } }

module _ (image : List ℕ) (m : Model) (at : ℕ) (d : decode image ≡ read_got m at) where
  pub fit : Fit m
  fit = fits-of image m at (decode-got image m at d).1

  pub step-sound : (s : State) (table : List ℕ) → Sound m s → (e : Event) (s' : State) (mark : ℕ) → step_of m s table ≡ step_made e s' mark → Sound m s'
  step-sound s table h e s' mark q =
      let r : (every rough s'.buffers ≡ true) × (s'.clock ≤ largest) = step-rough m fit s table (all-weaken is_buffer rough rough-of s.buffers h.machine.all_buffers) e s' mark q in
      made-sound m s' (step-eight m s table h.machine.eight e s' mark q) r.0 r.1 (step-well m (decoded image m at d) s table h.well e s' mark q)

  pub open-sound : Sound m (open_state m)
  unfolding open_state
  open-sound = made-sound m (open_state m) (open-eight m (decoded image m at d)) (open-rough m fit) (omega arith) (open-well image m at d)

  -- a chunk other than nil, in a buffer that is well, is one that the image could hold
  filled-holdable : (b : Buffer) → well_buffer m.types b ≡ true → is_nil b ≡ false → holdable m.types (chunk_of b) ≡ true
  filled-holdable b w filled = and-true (ltb 0 b.isa) (well_buffer m.types (opens (chunk_of b))) (by b.isa refl) chunk-well
    where
      parts : WellParts m.types b
      parts = buffer-parts m.types b w

      chunk-well : well_buffer m.types (opens (chunk_of b)) ≡ true
      chunk-well = parts-buffer m.types (opens (chunk_of b)) (record { typed = parts.typed; symbols = parts.symbols; past_empty = parts.past_empty; flag_fits = refl })

      empty : slot_count m.types 0 ≡ 0
      empty = rw (decoded image m at d).types_are refl

      by : (isa : ℕ) → b.isa ≡ isa → ltb 0 isa ≡ true
      by (suc k) e = lt-ltb 0 (suc k) (omega arith)
      by zero e =
          let zeros : every (λ v. eqb v 0) b.slots ≡ true =
          ap (λ (n : ℕ). every (λ v. eqb v 0) (drop n b.slots)) (sym (ap (slot_count m.types) e ∙ empty)) ∙ parts.past_empty in
          let nil : is_nil b ≡ true = and-true (eqb b.isa 0) (every (λ v. eqb v 0) b.slots) (eq-eqb b.isa 0 e) zeros in
          absurd (no_true (sym nil ∙ filled))

  adds-holdable : (k : Model) (s : State) (e : Event) → well_formed m s ≡ true → every (holdable m.types) (adds k s e) ≡ true
  adds-holdable k s (event_waited ms) w = refl
  adds-holdable k s (event_fired n) w =
      at_every (holdable m.types) (adds k s (event_fired n)) (λ c j a.
      let o : ClearedBy k.rules s n c = adds-from k s n j c a in
      subst (λ (x : Chunk). holdable m.types x ≡ true) o.held
      (filled-holdable (buffer_of s o.buffer) (at_place (well_buffer m.types) s.buffers o.buffer o.there (well-buffers m s w)) o.filled))

  -- what a step learns was in a buffer
  store_kept : (s : State) (e : Event) (store : Option (List Chunk)) → Sound m s → StoreFit m store → StoreFit m (store_after m s e store)
  store_kept s e none h g = refl
  store_kept s e (some cs) h g =
      let new : List Chunk = adds (knowing m (some cs)) s e in (
        every_append chunk_fit cs new g.0 (every-adds chunk_fit (knowing m (some cs)) s e (all-weaken is_buffer (λ b. chunk_fit (chunk_of b)) of-buffer s.buffers h.machine.all_buffers)),
        every_append (holdable m.types) cs new g.1 (adds-holdable (knowing m (some cs)) s e h.well),
      )
    where
      of-buffer : (b : Buffer) → is_buffer b ≡ true → chunk_fit (chunk_of b) ≡ true
      of-buffer b e =
          let r : Rough b = rough-parts b (rough-of b e) in and-true (eqb (length b.slots) 8) (is_word b.isa) (eq-eqb (length b.slots) 8 r.slots_are) r.isa_is

  pub known-sound : (s : State) (table : List ℕ) (store : Option (List Chunk)) → Sound m s → StoreFit m store → (e : Event) (s' : State) (mark : ℕ)
      → step_of (knowing m store) s table ≡ step_made e s' mark → Sound m s' × StoreFit m (store_after m s e store)
  unfolding well_formed
  known-sound s table store h g e s' mark q =
      let k : Model = knowing m store in
      let r : (every rough s'.buffers ≡ true) × (s'.clock ≤ largest) =
      step-rough k (known-fit m fit store g) s table (all-weaken is_buffer rough rough-of s.buffers h.machine.all_buffers) e s' mark q in (
        made-sound m s' (step-eight k s table h.machine.eight e s' mark q) r.0 r.1
            (as-well store s' (step-well k (known-decoded m (decoded image m at d) store g) s table (well-as store s h.well) e s' mark q)),
        store_kept s e store h g,
      )
    where
      -- what is known does not matter to what is well formed
      as-well : (store : Option (List Chunk)) (x : State) → well_formed (knowing m store) x ≡ true → well_formed m x ≡ true
      as-well none x w = w
      as-well (some cs) x w = w

      well-as : (store : Option (List Chunk)) (x : State) → well_formed m x ≡ true → well_formed (knowing m store) x ≡ true
      well-as none x w = w
      well-as (some cs) x w = w

  -- a change of the caller's is of the machine and well formed, or there is none
  changed-sound : (s s' : State) → Sound m s → (s ≡ s') ⊎ (Machine s' × (well_formed m s' ≡ true)) → Sound m s'
  changed-sound s s' h given =
      ⊎_elim (λ (e : s ≡ s'). subst (Sound m) e h) (λ (k : Machine s' × (well_formed m s' ≡ true)). record { well = k.1; machine = k.0 }) given

  pub chain-sound : {s : State} {table : List ℕ} → Reached image s table → Sound m s
  chain-sound r = chain-keeps m (λ s table. Sound m s) (StoreFit m) known-sound open-sound (lent-fit m fit) (λ s s' mark table h given same. changed-sound s s' h given) image at d r

  pub chain-well : {s : State} {table : List ℕ} → Reached image s table → well_formed m s ≡ true
  chain-well r = (chain-sound r).well
