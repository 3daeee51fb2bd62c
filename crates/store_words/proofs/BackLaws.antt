-- Laws of what was learned, as it stands on a tape, and of writing it back into a store.
use Prim.Native.Nat.{ℕ, zero, suc, ◌+◌, ◌-◌, ◌*◌, ◌≤◌, ◌<◌}
use mathlib.Core.Path.{◌≡◌, refl, sym, ap, ap₂, ◌∙◌}
use mathlib.Core.List.{List, [], ◌∷◌, ◌++◌, map}
use mathlib.Core.Option.{some}
use native.Mathlib.Omega.{arith}
use lib.ListN.{length, get_or, set, take, drop, length-append, length-set, length-map, length-drop, take-append-drop}
use lib.Seq.{sets, get_or-drop, length-take-le, drop-set-lt, drop_at, take_at}
use Rattle.meaning.specs.Model.{Chunk, Fact}
use Rattle.meaning.specs.Learning.{learned}
use Rattle.meaning.specs.Store.{place_words, places_words, store_in, store_left}
use Rattle.layout.specs.declared.Plan.{Plan}
use Rattle.layout.specs.Rows.{rows_in, fact_in}
use Rattle.layout.specs.Plans.{facts_on}
use Rattle.layout.proofs.RowLaws.{rows-length, rows_left, fact-like}
use Rattle.layout_state.proofs.AllLaws.{rows_drop, rows-shift}
use Rattle.store_words.specs.Loads.{learned_on}
use Rattle.store_words.proofs.StoreLaws.{sets-join, sets-there, places-join, store_length, store_words, left-sets}

-- the chunk of fact `own + i` there
abbrev pub chunk_on : List ℕ → ℕ → ℕ → Chunk
chunk_on tape own i = (fact_in (drop 152 tape) (11 * (own + i))).chunk

pub chunk-there : (tape : List ℕ) (own i : ℕ) → (fact_in tape (152 + 11 * (own + i))).chunk ≡ chunk_on tape own i
chunk-there tape own i =
    ap (λ (f : Fact). f.chunk) (fact-like tape (drop 152 tape) (152 + 11 * (own + i)) (11 * (own + i))
    (λ j l. let s : 152 + (11 * (own + i) + j) ≡ 152 + 11 * (own + i) + j = omega arith in rw (get_or-drop, s)))

-- chunks of eight slots are nine words each
pub places-length : (f : ℕ → Chunk) → ((k : ℕ) → length (f k).slots ≡ 8) → (i n : ℕ) → length (places_words (rows_in f i n)) ≡ 9 * n
unfolding places_words rows_in
places-length f eight i zero = refl
places-length f eight i (suc n) =
    omega (arith, length-append (f i).slots (places_words (rows_in f (i + 1) n)), eight i, places-length f eight (i + 1) n)

-- one place more, in a loop that counts i up to n
pub place-more : (w w' : List ℕ) (f : ℕ → Chunk) (i n : ℕ) → i < n → length (f i).slots ≡ 8 → w' ≡ sets w (9 * i + 1) (place_words (f i))
    → sets w' (9 * (i + 1) + 1) (places_words (rows_in f (i + 1) (n - (i + 1)))) ≡ sets w (9 * i + 1) (places_words (rows_in f i (n - i)))
unfolding places_words
place-more w w' f i n h eight laid =
    let e : 9 * (i + 1) + 1 ≡ 9 * i + 1 + length (place_words (f i)) = omega arith in
    let rest : List ℕ = places_words (rows_in f (i + 1) (n - (i + 1))) in
    ap₂ (λ (l : List ℕ) (k : ℕ). sets l k rest) laid e ∙ sym (sets-join w (9 * i + 1) (place_words (f i)) rest)
    ∙ ap (λ (cs : List Chunk). sets w (9 * i + 1) (places_words cs)) (sym (rows_left f i n h (n - i) (omega arith)))

pub place_end : (w : List ℕ) (f : ℕ → Chunk) (q i n : ℕ) → n ≤ i → w ≡ sets w q (places_words (rows_in f i (n - i)))
unfolding places_words rows_in
place_end w f q i n h = let z : n - i ≡ 0 = omega arith in rw z

-- the count, and then the places from `had` on, where the places below it hold what they shall hold
pub back_whole : (w : List ℕ) (f : ℕ → Chunk) → ((k : ℕ) → length (f k).slots ≡ 8) → (n had : ℕ) → had ≤ n → 9 * n + 1 ≤ length w
    → get_or w 0 0 ≡ had → store_in w ≡ take had (rows_in f 0 n)
    → sets (set w 0 n) (9 * had + 1) (places_words (rows_in f had (n - had))) ≡ store_left w (some (rows_in f 0 n))
back_whole w f eight n had h room count is =
    let many : length (rows_in f 0 n) ≡ n = rows-length f 0 n in
    let rest : List Chunk = rows_in f had (n - had) in
    let parts : rows_in f 0 n ≡ store_in w ++ rest =
    sym (take-append-drop had (rows_in f 0 n)) ∙ ap₂ (λ (a b : List Chunk). a ++ b) (sym is) (rows_drop f 0 n had ∙ ap (λ (i : ℕ). rows_in f i (n - had)) (omega arith)) in
    let here : places_words (store_in w) ≡ take (9 * had) (drop 1 (set w 0 n)) =
    store_words w (omega arith) ∙ ap₂ (λ (k : ℕ) (l : List ℕ). take (9 * k) l) count (sym (drop-set-lt 1 w 0 n (omega arith))) in
    let long : length (take (9 * had) (drop 1 (set w 0 n))) ≡ 9 * had = length-take-le (9 * had) (drop 1 (set w 0 n)) (omega (arith, length-drop 1 (set w 0 n), length-set w 0 n)) in
    let at : 1 + length (places_words (store_in w)) ≡ 9 * had + 1 = omega (arith, ap length here) in
    sym (
    left-sets w (rows_in f 0 n) (places-length f eight 0 n ∙ ap (λ (k : ℕ). 9 * k) (sym many)) (omega arith)
    ∙ ap₂ (λ (k : ℕ) (cs : List Chunk). sets (set w 0 k) 1 (places_words cs)) many parts
    ∙ ap (sets (set w 0 n) 1) (places-join (store_in w) rest)
    ∙ sets-join (set w 0 n) 1 (places_words (store_in w)) (places_words rest)
    ∙ ap₂ (λ (l : List ℕ) (k : ℕ). sets l k (places_words rest))
    (ap (sets (set w 0 n) 1) here ∙ sets-there (set w 0 n) 1 (9 * had) (omega (arith, length-set w 0 n))) at
    )

-- ---- what a caller knows of it

map-chunks : (f : ℕ → Fact) (i n : ℕ) → map (λ (x : Fact). x.chunk) (rows_in f i n) ≡ rows_in (λ k. (f k).chunk) i n
unfolding rows_in
map-chunks f i zero = refl
map-chunks f i (suc n) = ap (λ (l : List Chunk). (f i).chunk ∷ l) (map-chunks f (i + 1) n)

chunks-learned : (cs : List Chunk) → map (λ (x : Fact). x.chunk) (map learned cs) ≡ cs
chunks-learned [] = refl
chunks-learned (c ∷ cs) = ap (λ (l : List Chunk). c ∷ l) (chunks-learned cs)

module _ (p : Plan) (tape : List ℕ) (first : List Fact) (own : ℕ) (e : length first ≡ own) where
  -- after the image's facts, the chunks on the tape are those that were learned
  pub learned-are : (cs : List Chunk) → facts_on p tape ≡ first ++ map learned cs → learned_on p tape own ≡ cs
  learned-are cs is =
      let f : (ℕ → Fact) = λ k. fact_in (drop 152 tape) (11 * k) in
      let z : own + 0 ≡ 0 + own = omega arith in
      rows-shift (λ k. (f k).chunk) own 0 (p.facts - own) ∙ ap (λ (i : ℕ). rows_in (λ k. (f k).chunk) i (p.facts - own)) z
      ∙ sym (map-chunks f (0 + own) (p.facts - own))
      ∙ ap (map (λ (x : Fact). x.chunk)) (sym (rows_drop f 0 p.facts own) ∙ ap (drop own) is ∙ drop_at first (map learned cs) own e)
      ∙ chunks-learned cs

  -- a store whose chunks stand there, and more after them: what `lay_back` asks
  module _ (store : List ℕ) (had : ℕ) (count : get_or store 0 0 ≡ had) (more : List Chunk) (is : facts_on p tape ≡ first ++ map learned (store_in store ++ more)) where
    pub back_count : p.facts ≡ own + had + length more
    back_count =
        let new : List Chunk = store_in store ++ more in
        omega (
          arith,
          rows-length (λ k. fact_in (drop 152 tape) (11 * k)) 0 p.facts,
          ap length is,
          length-append first (map learned new),
          length-map new learned,
          length-append (store_in store) more,
          store_length store,
        )

    pub back-store : store_in store ≡ take had (learned_on p tape own)
    back-store = sym (ap (take had) (learned-are (store_in store ++ more) is) ∙ take_at (store_in store) more had (store_length store ∙ count))
