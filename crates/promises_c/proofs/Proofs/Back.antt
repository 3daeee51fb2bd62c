-- A state and its 89 words stand for each other.
use Rattle.std.specs.Prelude.{◌≡◌, refl, Bool, true, false, ◌&&◌, List, [], ◌∷◌, ◌++◌, ℕ, zero, suc, ◌+◌, ◌*◌, ◌≤◌, ◌<◌, eqb, leb, length, get_or, drop}
use Rattle.std.proofs.Common.{sym, ap, ap₂, ◌∙◌, zero-add, add-zero, arith, eqb-true, leb-true, length-append, get_or-drop, get_or-append-add}
use Rattle.std.proofs.Math.ListN.{get_or-append, get_or-eq_default}
use Rattle.std.proofs.Math.Seq.{get_or-append_seam}
use Rattle.meaning.specs.declared.Buffer.{Buffer}
use Rattle.meaning.specs.declared.State.{State}
use Rattle.meaning.specs.Base.{every}
use Rattle.meaning.specs.State.{nothing, buffer_of}
use Rattle.meaning.specs.Step.{largest}
use Rattle.laws.specs.BaseLaws.{and_left, and_right, every_append, by-lt}
use Rattle.layout.specs.Rows.{rows_in}
use Rattle.layout.specs.StateWords.{buffer_in, buffers_in}
use Rattle.layout_state.specs.Words.{flag_word, Flags}
use Rattle.layout_state.proofs.LayLaws.{flag-back}
use Rattle.jirvuntsag.specs.Words.{state_of, buffer_words, buffers_words, words_of, narrows, flag_at, flags_fit, fits}
use Rattle.jirvuntsag.proofs.WordLaws.{words-in}
use Rattle.promises.specs.Words.{is_word, is_buffer, Machine}

and-true : (a b : Bool) → a ≡ true → b ≡ true → (a && b) ≡ true
and-true true b p q = q
and-true false b p q = p

-- ---- a list is its elements in a row

rows_of : {A : Type 0} (d : A) (f : ℕ → A) (l : List A) (i : ℕ) → ((j : ℕ) → j < length l → f (i + j) ≡ get_or l j d) → rows_in f i (length l) ≡ l
unfolding rows_in
rows_of d f [] i h = refl
rows_of d f (x ∷ xs) i h =
    ap₂ (λ a as'. a ∷ as') (ap f (sym (add-zero i)) ∙ h 0 (omega arith))
    (rows_of d f xs (i + 1) (λ j l. ap f (omega arith) ∙ h (suc j) (omega arith)))

rows-every : {A : Type 0} (p : A → Bool) (f : ℕ → A) → ((k : ℕ) → p (f k) ≡ true) → (i n : ℕ) → every p (rows_in f i n) ≡ true
unfolding rows_in
rows-every p f h i zero = refl
rows-every p f h i (suc n) = and-true (p (f i)) (every p (rows_in f (i + 1) n)) (h i) (rows-every p f h (i + 1) n)

-- of rows that are so many
rows-each : {A : Type 0} (p : A → Bool) (f : ℕ → A) (i n : ℕ) → ((k : ℕ) → k < n → p (f (i + k)) ≡ true) → every p (rows_in f i n) ≡ true
unfolding rows_in
rows-each p f i zero h = refl
rows-each p f i (suc n) h =
    let z : i + 0 ≡ i = omega arith in
    and-true (p (f i)) (every p (rows_in f (i + 1) n)) (rw z at (h 0 (omega arith)))
    (rows-each p f (i + 1) n (λ k l. let e : i + suc k ≡ i + 1 + k = omega arith in rw e at (h (suc k) (omega arith))))

each_row : {A : Type 0} (p : A → Bool) (f : ℕ → A) (i n : ℕ) → every p (rows_in f i n) ≡ true → (k : ℕ) → k < n → p (f (i + k)) ≡ true
unfolding rows_in
each_row p f i zero e k l = absurd (omega arith)
each_row p f i (suc n) e zero l = let z : i + 0 ≡ i = omega arith in rw z (and_left (p (f i)) (every p (rows_in f (i + 1) n)) e)
each_row p f i (suc n) e (suc k) l =
    let z : i + suc k ≡ i + 1 + k = omega arith in
    rw z (each_row p f (i + 1) n (and_right (p (f i)) (every p (rows_in f (i + 1) n)) e) k (omega arith))

rows_long : {A : Type 0} (f : ℕ → A) (i n : ℕ) → length (rows_in f i n) ≡ n
unfolding rows_in
rows_long f i zero = refl
rows_long f i (suc n) = ap suc (rows_long f (i + 1) n)

-- ---- the words of a buffer

record Parts (b : Buffer) : Type 0 where
  eight_slots : length b.slots ≡ 8
  isa_word : is_word b.isa ≡ true
  slots_words : every is_word b.slots ≡ true
  delay_word : is_word b.delay ≡ true

parts : (b : Buffer) → is_buffer b ≡ true → Parts b
parts b e =
    let r = and_right (eqb (length b.slots) 8) (is_word b.isa && (every is_word b.slots && is_word b.delay)) e in
    let q = and_right (is_word b.isa) (every is_word b.slots && is_word b.delay) r in
    record {
      eight_slots = eqb-true (length b.slots) 8 (and_left (eqb (length b.slots) 8) (is_word b.isa && (every is_word b.slots && is_word b.delay)) e);
      isa_word = and_left (is_word b.isa) (every is_word b.slots && is_word b.delay) r;
      slots_words = and_left (every is_word b.slots) (is_word b.delay) q;
      delay_word = and_right (every is_word b.slots) (is_word b.delay) q;
    }

eleven : (b : Buffer) → length b.slots ≡ 8 → length (buffer_words b) ≡ 11
eleven b e = ap suc (length-append b.slots (b.delay ∷ flag_word b.error ∷ []) ∙ omega arith)

-- word j of buffer k stands at 11 * k + j
word_at : (bs : List Buffer) → every is_buffer bs ≡ true → (k : ℕ) → k < length bs → (j : ℕ) → j < 11
    → get_or (buffers_words bs) (11 * k + j) 0 ≡ get_or (buffer_words (get_or bs k nothing)) j 0
word_at [] h k l j s = absurd (omega arith)
word_at (b ∷ bs) h zero l j s =
    let n : length (buffer_words b) ≡ 11 = eleven b (parts b (and_left (is_buffer b) (every is_buffer bs) h)).eight_slots in
    ap (λ (i : ℕ). get_or (buffer_words b ++ buffers_words bs) i 0) (zero-add j) ∙ get_or-append (buffer_words b) (buffers_words bs) 0 j (omega arith)
word_at (b ∷ bs) h (suc k) l j s =
    let n : length (buffer_words b) ≡ 11 = eleven b (parts b (and_left (is_buffer b) (every is_buffer bs) h)).eight_slots in
    let at : 11 * suc k + j ≡ length (buffer_words b) + (11 * k + j) = omega arith in
    ap (λ (i : ℕ). get_or (buffer_words b ++ buffers_words bs) i 0) at ∙ get_or-append-add (buffer_words b) (buffers_words bs) (11 * k + j) 0
    ∙ word_at bs (and_right (is_buffer b) (every is_buffer bs) h) k (omega arith) j s

-- eleven words that are a buffer's hold it
held : (w : List ℕ) (k : ℕ) (b : Buffer) → length b.slots ≡ 8 → ((j : ℕ) → j < 11 → get_or w (11 * k + j) 0 ≡ get_or (buffer_words b) j 0) → buffer_in w k ≡ b
held w k b e h =
    let tail : List ℕ = b.delay ∷ flag_word b.error ∷ [] in
    let first : get_or w (11 * k) 0 ≡ b.isa = ap (λ (i : ℕ). get_or w i 0) (sym (add-zero (11 * k))) ∙ h 0 (omega arith) in
    let last : get_or w (11 * k + 9) 0 ≡ b.delay =
    h 9 (omega arith) ∙ ap (λ (i : ℕ). get_or (b.slots ++ tail) i 0) (sym e) ∙ get_or-append_seam b.slots b.delay (flag_word b.error ∷ []) 0 in
    let nine : 9 ≡ length b.slots + 1 = omega arith in
    let flag : get_or w (11 * k + 10) 0 ≡ flag_word b.error = h 10 (omega arith) ∙ ap (λ (i : ℕ). get_or (b.slots ++ tail) i 0) nine ∙ get_or-append-add b.slots tail 1 0 in
    let slots : rows_in (λ j. get_or w (11 * k + 1 + j) 0) 0 8 ≡ b.slots =
    ap (rows_in (λ j. get_or w (11 * k + 1 + j) 0) 0) (sym e) ∙ rows_of 0 (λ j. get_or w (11 * k + 1 + j) 0) b.slots 0 (λ j l.
    ap (λ (i : ℕ). get_or w i 0) (omega arith) ∙ h (suc j) (omega arith) ∙ get_or-append b.slots tail 0 j l) in
    ap₂ (λ (x y : ℕ). record { isa = x; slots = rows_in (λ j. get_or w (11 * k + 1 + j) 0) 0 8; delay = y; error = eqb (get_or w (11 * k + 10) 0) 1 }) first last
    ∙ ap₂ (λ (l : List ℕ) (t : Bool). record { isa = b.isa; slots = l; delay = b.delay; error = t }) slots (ap (λ (n : ℕ). eqb n 1) flag ∙ flag-back b.error)

at_place : (bs : List Buffer) (k : ℕ) → k < length bs → every is_buffer bs ≡ true → is_buffer (get_or bs k nothing) ≡ true
at_place [] k l e = absurd (omega arith)
at_place (b ∷ bs) zero l e = and_left (is_buffer b) (every is_buffer bs) e
at_place (b ∷ bs) (suc k) l e = at_place bs k (omega arith) (and_right (is_buffer b) (every is_buffer bs) e)

buffers-back : (bs : List Buffer) → length bs ≡ 8 → every is_buffer bs ≡ true → buffers_in (buffers_words bs) ≡ bs
buffers-back bs e h =
    ap (rows_in (buffer_in (buffers_words bs)) 0) (sym e)
    ∙ rows_of nothing (buffer_in (buffers_words bs)) bs 0 (λ k l.
    ap (buffer_in (buffers_words bs)) (zero-add k) ∙ held (buffers_words bs) k (get_or bs k nothing) (parts (get_or bs k nothing) (at_place bs k l h)).eight_slots (λ j s. word_at bs h k l j s))

pub state-back : (s : State) → Machine s → state_of (words_of s) ≡ s
unfolding words_of
state-back s m = ap (λ (bs : List Buffer). record { buffers = bs; clock = s.clock }) (buffers-back s.buffers m.eight m.all_buffers)

-- ---- the words are 89, and fit

words_long : (bs : List Buffer) → every is_buffer bs ≡ true → length (buffers_words bs) ≡ 11 * length bs
words_long [] h = refl
words_long (b ∷ bs) h =
    length-append (buffer_words b) (buffers_words bs)
    ∙ omega (arith, eleven b (parts b (and_left (is_buffer b) (every is_buffer bs) h)).eight_slots, words_long bs (and_right (is_buffer b) (every is_buffer bs) h))

flag_word_lem : (t : Bool) → (is_word (flag_word t) && true) ≡ true
flag_word_lem true = refl
flag_word_lem false = refl

words_small : (bs : List Buffer) → every is_buffer bs ≡ true → every is_word (buffers_words bs) ≡ true
words_small [] h = refl
words_small (b ∷ bs) h =
    let p : Parts b = parts b (and_left (is_buffer b) (every is_buffer bs) h) in
    every_append is_word (buffer_words b) (buffers_words bs)
    (and-true (is_word b.isa) (every is_word (b.slots ++ (b.delay ∷ flag_word b.error ∷ []))) p.isa_word
    (every_append is_word b.slots (b.delay ∷ flag_word b.error ∷ []) p.slots_words
    (and-true (is_word b.delay) (is_word (flag_word b.error) && true) p.delay_word (flag_word_lem b.error))))
    (words_small bs (and_right (is_buffer b) (every is_buffer bs) h))

pub all_words : (s : State) → Machine s → length (words_of s) ≡ 89
unfolding words_of
all_words s m = ap suc (words_long s.buffers m.all_buffers ∙ omega (arith, m.eight))

flag-fits : (t : Bool) → leb (flag_word t) 1 ≡ true
flag-fits true = refl
flag-fits false = refl

-- the flag of buffer k is the last of its words
flags-fit : (s : State) → Machine s → flags_fit (words_of s) ≡ true
unfolding words_of flags_fit
flags-fit s m =
    rows-each (λ v. leb v 1) (flag_at (words_of s)) 0 8 (λ k l.
    let b : Buffer = get_or s.buffers k nothing in
    let low : k < length s.buffers = omega (arith, m.eight) in
    let own : is_buffer b ≡ true = at_place s.buffers k low m.all_buffers in
    let tail : List ℕ = b.delay ∷ flag_word b.error ∷ [] in
    let nine : 9 ≡ length b.slots + 1 = omega (arith, (parts b own).eight_slots) in
    let at : 11 * (0 + k) + 11 ≡ suc (11 * k + 10) = omega arith in
    let last : get_or (b.slots ++ tail) 9 0 ≡ flag_word b.error = ap (λ (i : ℕ). get_or (b.slots ++ tail) i 0) nine ∙ get_or-append-add b.slots tail 1 0 in
    let is : flag_at (words_of s) (0 + k) ≡ flag_word b.error =
    ap (λ (i : ℕ). get_or (s.clock ∷ buffers_words s.buffers) i 0) at ∙ word_at s.buffers m.all_buffers k low 10 (omega arith) ∙ last in
    rw is (flag-fits b.error))

pub words-fit : (s : State) → Machine s → fits (words_of s) ≡ true
unfolding words_of narrows
words-fit s m = and-true (narrows (words_of s)) (flags_fit (words_of s)) (words_small s.buffers m.all_buffers) (flags-fit s m)

-- ---- 89 words that fit hold a state of the machine

word_small : (w : List ℕ) → every is_word w ≡ true → (i : ℕ) → is_word (get_or w i 0) ≡ true
word_small [] h i = refl
word_small (x ∷ xs) h zero = and_left (is_word x) (every is_word xs) h
word_small (x ∷ xs) h (suc i) = word_small xs (and_right (is_word x) (every is_word xs) h) i

buffer-in : (w : List ℕ) → every is_word w ≡ true → (k : ℕ) → is_buffer (buffer_in w k) ≡ true
unfolding rows_in
buffer-in w h k =
    and-true (is_word (get_or w (11 * k) 0)) (every is_word (buffer_in w k).slots && is_word (get_or w (11 * k + 9) 0)) (word_small w h (11 * k))
    (and-true (every is_word (buffer_in w k).slots) (is_word (get_or w (11 * k + 9) 0))
    (rows-every is_word (λ j. get_or w (11 * k + 1 + j) 0) (λ j. word_small w h (11 * k + 1 + j)) 0 8) (word_small w h (11 * k + 9)))

pub state-fits : (w : List ℕ) → fits w ≡ true → get_or w 0 0 ≤ largest → Machine (state_of w)
unfolding narrows
state-fits w h c =
    record {
      eight = rows_long (buffer_in (drop 1 w)) 0 8;
      all_buffers = rows-every is_buffer (buffer_in (drop 1 w)) (buffer-in (drop 1 w) (and_left (narrows w) (flags_fit w) h)) 0 8;
      in_time = c;
    }

-- ---- the words of the state that 89 words hold are these words, if each flag is 0 or 1

flags_of : (w : List ℕ) → flags_fit w ≡ true → Flags (drop 1 w) 8
unfolding flags_fit
flags_of w e k l =
    let at : 1 + (11 * k + 10) ≡ 11 * (0 + k) + 11 = omega arith in
    rw (get_or-drop 1 w (11 * k + 10) 0, at) (leb-true (flag_at w (0 + k)) 1 (each_row (λ v. leb v 1) (flag_at w) 0 8 e k l))

pub words_back : (w : List ℕ) → length w ≡ 89 → flags_fit w ≡ true → words_of (state_of w) ≡ w
unfolding words_of
words_back [] e f = absurd (omega arith)
words_back (x ∷ xs) e f = ap (λ (l : List ℕ). x ∷ l) (words-in xs (omega arith) (flags_of (x ∷ xs) f))

-- and if each word fits its field, each flag is
pub fit-back : (w : List ℕ) → length w ≡ 89 → fits w ≡ true → words_of (state_of w) ≡ w
fit-back w l f = words_back w l (and_right (narrows w) (flags_fit w) f)

-- ---- the same words hold the same buffer

rows-cong : {A : Type 0} (f g : ℕ → A) (i n : ℕ) → ((j : ℕ) → j < n → f (i + j) ≡ g (i + j)) → rows_in f i n ≡ rows_in g i n
unfolding rows_in
rows-cong f g i zero h = refl
rows-cong f g i (suc n) h =
    let z : i + 0 ≡ i = omega arith in
    ap₂ (λ a as'. a ∷ as') (rw z at (h 0 (omega arith))) (rows-cong f g (i + 1) n (λ j l. let e : i + suc j ≡ i + 1 + j = omega arith in rw e at (h (suc j) (omega arith))))

rows_at : {A : Type 0} (d : A) (f : ℕ → A) (i n b : ℕ) → b < n → get_or (rows_in f i n) b d ≡ f (i + b)
unfolding rows_in
rows_at d f i zero b h = absurd (omega arith)
rows_at d f i (suc n) zero h = ap f (sym (add-zero i))
rows_at d f i (suc n) (suc b) h = rows_at d f (i + 1) n b (omega arith) ∙ ap f (omega arith)

buffer-cong : (v v' : List ℕ) (b : ℕ) → ((j : ℕ) → j < 11 → get_or v (11 * b + j) 0 ≡ get_or v' (11 * b + j) 0) → buffer_in v b ≡ buffer_in v' b
buffer-cong v v' b h =
    let z : 11 * b + 0 ≡ 11 * b = omega arith in
    let first : get_or v (11 * b) 0 ≡ get_or v' (11 * b) 0 = rw z at (h 0 (omega arith)) in
    let slots : (buffer_in v b).slots ≡ (buffer_in v' b).slots =
    rows-cong (λ j. get_or v (11 * b + 1 + j) 0) (λ j. get_or v' (11 * b + 1 + j) 0) 0 8 (λ j l. let e : 11 * b + suc j ≡ 11 * b + 1 + (0 + j) = omega arith in rw e at (h (suc j) (omega arith))) in
    ap₂ (λ (x y : ℕ). record { isa = x; slots = (buffer_in v b).slots; delay = y; error = eqb (get_or v (11 * b + 10) 0) 1 }) first (h 9 (omega arith))
    ∙ ap₂ (λ (l : List ℕ) (n : ℕ). record { isa = get_or v' (11 * b) 0; slots = l; delay = get_or v' (11 * b + 9) 0; error = eqb n 1 }) slots (h 10 (omega arith))

past : (v : List ℕ) (b : ℕ) → 8 ≤ b → get_or (buffers_in v) b nothing ≡ nothing
past v b h = get_or-eq_default (buffers_in v) nothing (omega (arith, rows_long (buffer_in v) 0 8))

pub same-buffer : (w w' : List ℕ) (b : ℕ) → ((j : ℕ) → j < 11 → get_or w (1 + (11 * b + j)) 0 ≡ get_or w' (1 + (11 * b + j)) 0) → buffer_of (state_of w) b ≡ buffer_of (state_of w') b
same-buffer w w' b h =
    by-lt b 8
    (λ l.
    rows_at nothing (buffer_in (drop 1 w)) 0 8 b l
    ∙ ap (buffer_in (drop 1 w)) (zero-add b)
    ∙ buffer-cong (drop 1 w) (drop 1 w') b (λ j s. get_or-drop 1 w (11 * b + j) 0 ∙ h j s ∙ sym (get_or-drop 1 w' (11 * b + j) 0))
    ∙ sym (rows_at nothing (buffer_in (drop 1 w')) 0 8 b l ∙ ap (buffer_in (drop 1 w')) (zero-add b)))
    (λ l. past (drop 1 w) b l ∙ sym (past (drop 1 w') b l))
