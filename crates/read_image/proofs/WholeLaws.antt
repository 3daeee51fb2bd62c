-- An image part by part: its beginning, its facts, its rules, its end.
use Rattle.std.specs.Prelude.{if◌then◌else◌}
use Prim.Native.Nat.{ℕ, ◌+◌, ◌-◌, ◌*◌, ◌≤◌, ◌<◌}
use mathlib.Core.Path.{◌≡◌, refl, sym, ap, ap₂, ◌∙◌}
use mathlib.Core.Bool.{Bool, true, false}
use mathlib.Core.List.{List, [], ◌∷◌, map}
use native.Mathlib.Omega.{arith}
use native.Mathlib.Decide.{dec_lt}
use native.Mathlib.Nat.{min-le_left}
use borrow.Author.Tests.{lt-ltb, le-ltb, eq-eqb, ne_eqb}
use lib.Dec.{ltb}
use lib.ListN.{length, get_or, take, replicate, length-map, length-take, get_or-eq_default}
use lib.Seq.{take_at, get_or-take}
use Rattle.meaning.specs.declared.State.{State}
use Rattle.meaning.specs.Bits.{field_at}
use Rattle.meaning.specs.Model.{Model, Sizes, Chunk, Fact, Rule}
use Rattle.meaning.specs.State.{nil_after, opens}
use Rattle.meaning.specs.Read.{Read, read_refused, read_got, Reader, follow, times}
use Rattle.meaning.specs.Numbers.{finer}
use Rattle.meaning.specs.Image.{Header, header, slot_counts, chunk, fact, rule, padding, ending, Beginning, beginning, Contents, contents, model, decode, decode_by}
use Rattle.meaning.specs.Learning.{chunk_of}
use Rattle.laws.specs.ReadLaws.{no-got, times-all}
use Rattle.std.specs.Prelude.{Result, Ok, Err, IfErr}
use Rattle.meaning.specs.declared.reasons.Refusal.{Refusal}
use Rattle.layout.specs.Walks.{mapped, Small}
use Rattle.layout.specs.Rows.{sizes, rule_in}
use Rattle.layout.proofs.RowLaws.{rows-length}
use Rattle.layout.specs.declared.Plan.{Plan}
use Rattle.layout.specs.Plans.{places_for, plan_of, heads_on, rows_on, model_on}
use Rattle.read_ranges.specs.Cursors.{Cursor}
use Rattle.read_ranges.specs.Reading.{told_by}
use Rattle.read_opening.specs.Parts.{header_in, Placed, opening_state}
use Rattle.read_image.specs.Whole.{header_of, InBounds, Fitting, Begins, RefusedOf, ended_by, LaidOut, verdict, Checked}

-- what is made of an answer is made of what was read
pub told-mapped : {A B : Type 0} (f : A → B) (r : Result A Refusal) (c : Cursor) → told_by f r c ≡ mapped f (told_by (λ x. x) r c)
told-mapped f (Ok x) c = refl
told-mapped f (Err e) c = refl

-- ---- the opening state and its chunks

-- the chunks of the first n buffers of a state
abbrev pub chunks_in : State → ℕ → List Chunk
chunks_in s n = map chunk_of (take n s.buffers)

chunks-back : (chunks : List Chunk) → map chunk_of (map opens chunks) ≡ chunks
chunks-back [] = refl
chunks-back (c ∷ cs) = ap (λ (l : List Chunk). c ∷ l) (chunks-back cs)

pub chunks_of : (n : ℕ) (chunks : List Chunk) → length chunks ≡ n → chunks_in (opening_state n chunks) n ≡ chunks
chunks_of n chunks e = ap (map chunk_of) (take_at (map opens chunks) (replicate (8 - n) (nil_after 0)) n (length-map chunks opens ∙ e)) ∙ chunks-back chunks

-- what was read as a state, as chunks, and the state that these open
module _ (p : Reader Chunk) (n : ℕ) (s : List ℕ) (at : ℕ) (st : State) (q : ℕ) where
  go : (r : Read (List Chunk)) → times n p s at ≡ r → read_got st q ≡ mapped (opening_state n) r → (read_got (chunks_in st n) q ≡ r) × (st ≡ opening_state n (chunks_in st n))
  go (read_got cs z) e h =
      let l : length cs ≡ n = (times-all p (λ c. true) (λ image at a next e. refl) n s at cs z e).1 in
      let same : st ≡ opening_state n cs = cc in
      let end : q ≡ z = cc in
      let back = ap (λ (x : State). chunks_in x n) same ∙ chunks_of n cs l in
      (ap₂ (λ (l : List Chunk) (x : ℕ). read_got l x) back end, same ∙ ap (opening_state n) (sym back))
  go (read_refused x y) e h = cc

  module _ (h : read_got st q ≡ mapped (opening_state n) (times n p s at)) where
    pub opened-chunks : read_got (chunks_in st n) q ≡ times n p s at
    opened-chunks = (go (times n p s at) refl h).0

    pub opened-state : st ≡ opening_state n (chunks_in st n)
    opened-state = (go (times n p s at) refl h).1

-- and what is refused of the state is refused of its chunks
pub opening-refused : (n x y : ℕ) (r : Read (List Chunk)) → read_refused x y ≡ mapped (opening_state n) r → read_refused x y ≡ r
opening-refused n x y (read_got cs z) h = cc
opening-refused n x y (read_refused a b) h = cc

-- ---- the beginning

abbrev pub a_beginning : Header → List ℕ → List Chunk → Beginning
a_beginning h types opening = record { head = h; types = types; opening = opening }

module _ (s : List ℕ) where
  module _ (h : Header) (q : ℕ) (e₁ : read_got h q ≡ header finer s 0) where
    pub begin-second : (x y : ℕ) → read_refused x y ≡ mapped (λ counts. 0 ∷ counts) (slot_counts finer h.declared s q) → read_refused x y ≡ beginning finer s 0
    unfolding beginning
    begin-second x y e = rw (← e₁) (on (slot_counts finer h.declared s q) e)
      where
        on : (r : Read (List ℕ)) → read_refused x y ≡ mapped (λ counts. 0 ∷ counts) r
            → read_refused x y ≡ follow r (λ counts o. follow (times h.buffers (chunk finer (0 ∷ counts) 0) s o) (λ opening z. read_got (a_beginning h (0 ∷ counts) opening) z))
        on (read_refused a b) g = cc
        on (read_got cs z) g = cc

    module _ (types : List ℕ) (o : ℕ) (e₂ : read_got types o ≡ mapped (λ counts. 0 ∷ counts) (slot_counts finer h.declared s q)) where
      -- what follows the slot counts
      begin-types : follow (times h.buffers (chunk finer types 0) s o) (λ opening z. read_got (a_beginning h types opening) z) ≡ beginning finer s 0
      unfolding beginning
      begin-types = rw (← e₁) (on (slot_counts finer h.declared s q) e₂)
        where
          on : (r : Read (List ℕ)) → read_got types o ≡ mapped (λ counts. 0 ∷ counts) r
              → follow (times h.buffers (chunk finer types 0) s o) (λ opening z. read_got (a_beginning h types opening) z)
              ≡ follow r (λ counts o. follow (times h.buffers (chunk finer (0 ∷ counts) 0) s o) (λ opening z. read_got (a_beginning h (0 ∷ counts) opening) z))
          on (read_refused a b) g = cc
          on (read_got cs z) g =
              let t : types ≡ 0 ∷ cs = cc in
              let k : o ≡ z = cc in
              rw (← k, ← t) refl

      pub begin-third : (x y : ℕ) → read_refused x y ≡ times h.buffers (chunk finer types 0) s o → read_refused x y ≡ beginning finer s 0
      begin-third x y e = ap (λ (r : Read (List Chunk)). follow r (λ opening z. read_got (a_beginning h types opening) z)) e ∙ begin-types

      pub begin-on : (opening : List Chunk) (z : ℕ) → read_got opening z ≡ times h.buffers (chunk finer types 0) s o → read_got (a_beginning h types opening) z ≡ beginning finer s 0
      begin-on opening z e = ap (λ (r : Read (List Chunk)). follow r (λ opening z. read_got (a_beginning h types opening) z)) e ∙ begin-types

-- ---- the header, after the image's length

pub too_long : (s : List ℕ) → 65536 < length s → read_refused 1 0 ≡ header_of s
too_long s h = rw (lt-ltb 65536 (length s) h)

pub not-long : (s : List ℕ) → length s ≤ 65536 → header finer s 0 ≡ header_of s
not-long s h = rw (le-ltb 65536 (length s) h)

-- there are places for the facts, and for at most 256 more
pub places-most : (facts : ℕ) (learns : Bool) → facts ≤ places_for facts learns × places_for facts learns ≤ facts + 256
places-most facts true = (omega arith, omega arith)
places-most facts false = (omega arith, omega arith)

-- the sections of a plan by its places
pub placed-starts : (p : Plan) → Placed p → p ≡ plan_of p.version p.buffers p.declared p.rules p.facts p.failure p.places p.learns
placed-starts p e =
    let places : p.places ≡ places_for p.facts p.learns = ap (λ (p : Plan). p.places) e in
    e ∙ ap (λ (n : ℕ). plan_of p.version p.buffers p.declared p.rules p.facts p.failure n p.learns) (sym places)

-- with a store there are 256 places more than facts
pub places-store : (p : Plan) → Placed p → p.learns ≡ true → p.places ≡ p.facts + 256
places-store p e l = ap (λ (p : Plan). p.places) e ∙ ap (places_for p.facts) l

-- how many places the plan of an image has
pub places-in : (p : Plan) → InBounds p → (p.facts ≤ p.places) × (p.places ≤ 768)
places-in p b =
    let e = ap (λ (p : Plan). p.places) b.starts in
    let most = places-most p.facts p.learns in
    (omega arith, omega (arith, b.bounds.most_facts))

-- a plan whose counts are within their bounds fits
pub fitting : (p : Plan) → InBounds p → Fitting p
fitting p b =
    let end = ap (λ (p : Plan). p.end) b.starts in
    let places = places-most p.facts p.learns in
    record { few_rules = b.bounds.most_rules; long = omega arith; fits = omega (arith, b.bounds.most_rules, b.bounds.most_facts) }

-- the first of small types are small
pub small-take : (n : ℕ) (types : List ℕ) → Small types → Small (take n types)
small-take n types h k =
    elim (dec_lt k n) [
      | yes l ↦ rw (get_or-take n types k 0 l) (h k)
      | no l ↦ let e : get_or (take n types) k 0 ≡ 0 = get_or-eq_default (take n types) 0 (omega (arith, length-take n types, min-le_left n (length types))) in omega arith
    ]

-- ---- what follows it

abbrev pub some_contents : List Fact → List Rule → Contents
some_contents facts rules = record { facts = facts; rules = rules }

module _ (version : ℕ) (z : Sizes) (n m : ℕ) (s : List ℕ) (p : ℕ) where
  pub contents-first : (x y : ℕ) → read_refused x y ≡ times n (fact finer z.types) s p → read_refused x y ≡ contents finer version z n m s p
  unfolding contents
  contents-first x y e = rw (← e)

  module _ (facts : List Fact) (q : ℕ) (e₁ : read_got facts q ≡ times n (fact finer z.types) s p) where
    pub contents-second : (x y : ℕ) → read_refused x y ≡ times m (rule finer version z) s q → read_refused x y ≡ contents finer version z n m s p
    unfolding contents
    contents-second x y e = rw (← e₁, ← e)

    pub contents-third : (rules : List Rule) (o : ℕ) → read_got rules o ≡ times m (rule finer version z) s q → (r : Read (Unit {0})) → r ≡ ending s o
        → mapped (λ u. some_contents facts rules) r ≡ contents finer version z n m s p
    unfolding contents
    contents-third rules o e₂ (read_got u i) e = rw (← e₁, ← e₂, ← e)
    contents-third rules o e₂ (read_refused x y) e = rw (← e₁, ← e₂, ← e)

-- ---- the whole

abbrev pub a_model : Beginning → Contents → Model
a_model b c = record { buffers = b.head.buffers; types = b.types; failure = b.head.failure; opening = b.opening; facts = c.facts; rules = c.rules }

abbrev rest_of : Beginning → Reader Model
rest_of b s q = follow (contents finer b.head.version (sizes b.head.buffers b.types) b.head.facts b.head.rules s q) (λ c z. read_got (a_model b c) z)

-- a refusal of the header, by length or by what it says
pub decode-refused : (s : List ℕ) (x y : ℕ) → read_refused x y ≡ header_of s → read_refused x y ≡ decode s
unfolding decode_by model beginning
decode-refused s x y e =
    (elim (ltb 65536 (length s)) as (λ t. read_refused x y ≡ (if t then read_refused 1 0 else header finer s 0) → read_refused x y ≡ (if t then read_refused 1 0 else model finer s 0)) [
      | true ↦ λ g. cc
      | false ↦ λ g. rw (← g)
    ]) e

module _ (s : List ℕ) (h : length s ≤ 65536) where
  decode-short : decode s ≡ follow (beginning finer s 0) (λ b q. rest_of b s q)
  unfolding decode_by model
  decode-short = rw (le-ltb 65536 (length s) h)

  -- a refusal of what follows the header, and the contents
  pub decode-beginning : (x y : ℕ) → read_refused x y ≡ beginning finer s 0 → read_refused x y ≡ decode s
  decode-beginning x y e = rw (decode-short, ← e)

  module _ (b : Beginning) (p : ℕ) (e₁ : read_got b p ≡ beginning finer s 0) where
    pub decode-contents : (x y : ℕ) → read_refused x y ≡ contents finer b.head.version (sizes b.head.buffers b.types) b.head.facts b.head.rules s p → read_refused x y ≡ decode s
    decode-contents x y e = rw (decode-short, ← e₁, ← e)

    pub decode-on : (c : Contents) (z : ℕ) → read_got c z ≡ contents finer b.head.version (sizes b.head.buffers b.types) b.head.facts b.head.rules s p → read_got (a_model b c) z ≡ decode s
    decode-on c z e = rw (decode-short, ← e₁, ← e)

-- an answer to a reading, without its value
verdict-of : {A : Type 0} (w : Result ℕ Refusal) (x : A) (r : Read A) → ended_by w x ≡ r → ended_by w tt ≡ verdict r
verdict-of (Ok q) x r e = rw (← e)
verdict-of (Err f) x r e = rw (← e)

-- what is laid out is checked: the rules of the model are those of its plan
pub laid-checked : (w : Result ℕ Refusal) (p : Plan) (tape s : List ℕ) → ended_by w (model_on p tape) ≡ decode s → Checked w p s
unfolding model_on
laid-checked w p tape s e = record { reads = verdict-of w (model_on p tape) (decode s) e; many = λ m q d. go w m q (e ∙ d) }
  where
    go : (w : Result ℕ Refusal) (m : Model) (q : ℕ) → ended_by w (model_on p tape) ≡ read_got m q → length m.rules ≡ p.rules
    go (Ok z) m q g = let same : model_on p tape ≡ m = cc in rw (← same) (rows-length (rule_in (heads_on p tape) (rows_on p tape)) 0 p.rules)
    go (Err f) m q g = absurd (no-got _ f.at m q g)

-- ---- a header that was refused, whatever value is begun

module _ {A : Type 0} where
  pub refused-laid : (b : Result A Refusal) (f : Refusal) (r : Result ℕ Refusal) (tape : List ℕ) → b ≡ Err f → r ≡ Err f
      → IfErr b (λ why. (p : Plan) (image : List ℕ) → RefusedOf why image → LaidOut r p image tape)
  refused-laid (Err g) f r tape is same = λ p image e.
      let one : r ≡ Err g = cc in
      rw one (record { reads = decode-refused image _ _ e; planned = tt })
  refused-laid (Ok x) f r tape is same = tt

  pub refused-checked : (b : Result A Refusal) (f : Refusal) (r : Result ℕ Refusal) → b ≡ Err f → r ≡ Err f
      → IfErr b (λ why. (p : Plan) (image : List ℕ) → RefusedOf why image → Checked r p image)
  refused-checked (Err g) f r is same = λ p image e.
      let bad = decode-refused image _ _ e in
      let one : r ≡ Err g = cc in
      rw one (record { reads = rw (← bad); many = λ m q d. absurd (no-got _ g.at m q (bad ∙ d)) })
  refused-checked (Ok x) f r is same = tt

-- ---- the end

module _ (s : List ℕ) (at : ℕ) where
  pub end-padding : (field_at s at (padding at) ≡ 0 → ⊥) → read_refused 4 0 ≡ ending s at
  unfolding ending
  end-padding z = rw (ne_eqb (field_at s at (padding at)) 0 z)

  pub end-follows : field_at s at (padding at) ≡ 0 → (at + padding at ≡ 8 * length s → ⊥) → read_refused 4 0 ≡ ending s at
  unfolding ending
  end-follows e z = rw (eq-eqb (field_at s at (padding at)) 0 e, ne_eqb (at + padding at) (8 * length s) z)

  pub end-right : field_at s at (padding at) ≡ 0 → at + padding at ≡ 8 * length s → read_got tt at ≡ ending s at
  unfolding ending
  end-right e g = rw (eq-eqb (field_at s at (padding at)) 0 e, eq-eqb (at + padding at) (8 * length s) g)
