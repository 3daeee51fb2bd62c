-- Laws of the calls: what `open` gives is well formed; at most 2,304 words in a table; a run makes no more steps than asked;
-- the position that each gives.
use Rattle.std.specs.Prelude.{if◌then◌else◌, ◌≡◌, refl, Bool, true, false, not, List, ◌∷◌, ◌++◌, map, ℕ, suc, ◌+◌, ◌-◌, ◌*◌, ◌^◌, ◌≤◌, leb, eqb, length, drop, replicate}
use Rattle.std.proofs.Common.{◌∙◌, arith, lt-ltb, drop_at}
use Rattle.std.proofs.Math.Option.{Option, none}
use Rattle.std.proofs.lemmas.List.{length-map}
use Rattle.meaning.specs.Numbers.{finer, wrong_table, ill_formed, bad_store}
use Rattle.meaning.specs.declared.State.{State}
use Rattle.meaning.specs.Base.{every}
use Rattle.meaning.specs.Model.{Model}
use Rattle.meaning.specs.State.{nil_after, opens, well_buffer, is_unused, well_formed}
use Rattle.meaning.specs.Read.{read_got, Read, read_refused}
use Rattle.meaning.specs.Image.{chunk, decode}
use Rattle.meaning.specs.Calls.{fitting, accepted, place_of, needed_by, needed_of, open_state, opened_by, open_of, traced_by, trace_lent, run_lent, run_of, Refreshed, refreshed_by, refresh_of}
use Rattle.meaning.specs.Fresh.{fresh_lent, fresh_of}
use Rattle.meaning.specs.Run.{going, ends, run_from}
use Rattle.meaning.specs.Store.{lent_by, store_fits, store_of}
use Rattle.laws.specs.BaseLaws.{every_append, every_map, every-replicate}
use Rattle.laws.specs.ReadLaws.{times-all}
use Rattle.laws.specs.ImageLaws.{Parts, chunk-well, few-rules, parts}
use Rattle.laws.specs.PlaceLaws.{decode-within}
use Rattle.laws.specs.RunLaws.{run-most}

pub nil-well : (counts : List ℕ) → well_buffer (0 ∷ counts) (nil_after 0) ≡ true
nil-well counts = rw (lt-ltb 0 (suc (length counts)) (omega arith)) refl

open_made : (m : Model) (counts : List ℕ) → m.types ≡ 0 ∷ counts → every (λ c. well_buffer m.types (opens c)) m.opening ≡ true → length m.opening ≡ m.buffers
    → well_formed m (open_state m) ≡ true
unfolding well_formed open_state
open_made m counts k a l =
    let n : well_buffer m.types (nil_after 0) ≡ true = rw k (nil-well counts) in
    let t : every (well_buffer m.types) (map opens m.opening ++ replicate (8 - m.buffers) (nil_after 0)) ≡ true =
    every_append (well_buffer m.types) (map opens m.opening) (replicate (8 - m.buffers) (nil_after 0)) (every_map (well_buffer m.types) opens m.opening ∙ a)
    (every-replicate (well_buffer m.types) (8 - m.buffers) (nil_after 0) n) in
    let d : drop m.buffers (map opens m.opening ++ replicate (8 - m.buffers) (nil_after 0)) ≡ replicate (8 - m.buffers) (nil_after 0) =
    drop_at (map opens m.opening) (replicate (8 - m.buffers) (nil_after 0)) m.buffers (length-map m.opening opens ∙ l) in
    rw (t, d) (every-replicate is_unused (8 - m.buffers) (nil_after 0) refl)

-- "Number 6 likewise": what open gives is well formed
pub open-well : (image : List ℕ) (m : Model) (at : ℕ) → decode image ≡ read_got m at → well_formed m (open_state m) ≡ true
open-well image m at e =
    let p : Parts image m = parts image m at e in
    let o : (every (λ c. well_buffer m.types (opens c)) m.opening ≡ true) × (length m.opening ≡ m.buffers) =
    times-all (chunk finer m.types 0) (λ c. well_buffer m.types (opens c)) (chunk-well m.types 0) m.buffers image p.opening_at m.opening p.facts_at p.opening_read in
    open_made m p.counts p.types_are o.0 o.1

pub table-most : (image : List ℕ) → (needed_of image).words ≤ 2304
unfolding needed_of
table-most image = by (decode image) refl
  where
    by : (r : Read Model) → decode image ≡ r → (needed_by r).words ≤ 2304
    by (read_refused n at) e = omega arith
    by (read_got m at) e = omega (arith, few-rules image m at e)

-- of a run that is refused, or goes on
pub traced-most : (s : State) (table : List ℕ) (lent : Option (List ℕ)) (n : ℕ) (r : Read Model) → length (traced_by s table lent n r).events ≤ n
traced-most s table lent n (read_refused k at) = omega arith
traced-most s table lent n (read_got m at) = by (not (well_formed m s)) (not (store_fits m.types lent))
  where
    by : (b c : Bool) → length (if b then ends ill_formed (going s table none) else (if c then ends bad_store (going s table none) else run_from m n (going s table (store_of lent)))).events ≤ n
    by true c = omega arith
    by false true = omega arith
    by false false = run-most m n (going s table (store_of lent))

pub made-most : (image : List ℕ) (s : State) (table : List ℕ) (n : ℕ) → (run_of image s table n).made ≤ n
unfolding run_of trace_lent
made-most image s table n = traced-most s table none n (accepted image table)

pub lent-most : (image : List ℕ) (s : State) (table : List ℕ) (n lent : ℕ) (words : List ℕ) → (run_lent image s table n lent words).answer.made ≤ n
unfolding run_lent trace_lent
lent-most image s table n lent words = traced-most s table (lent_by lent words) n (accepted image table)

-- ---- "from every call the position": it is that of the refused image or table, else 0 (`..-placed`), and at most 524,288, the bits of the longest image (`..-place`)

pub decode-place : (image : List ℕ) → place_of (decode image) ≤ 524288
decode-place image = by (decode image) refl
  where
    by : (r : Read Model) → decode image ≡ r → place_of r ≤ 524288
    by (read_refused n at) e = (decode-within finer image n at e).1
    by (read_got m at) e = omega arith

pub accepted-place : (image table : List ℕ) → place_of (accepted image table) ≤ 524288
unfolding accepted
accepted-place image table = by (decode image) (decode-place image)
  where
    by : (r : Read Model) → place_of r ≤ 524288 → place_of (fitting table r) ≤ 524288
    by (read_refused n at) h = h
    by (read_got m at) h = elim (eqb (length table) (9 * length m.rules)) as (λ t. place_of (if t then read_got m at else read_refused wrong_table 0) ≤ 524288) [ true ↦ omega arith | false ↦ omega arith ]

pub open-placed : (image table : List ℕ) → (open_of image table).position ≡ place_of (accepted image table)
unfolding open_of
open-placed image table = by (accepted image table)
  where
    by : (r : Read Model) → (opened_by table r).position ≡ place_of r
    by (read_refused n at) = refl
    by (read_got m at) = refl

unplaced : (t : Bool) (a b : Refreshed) → a.position ≡ 0 → b.position ≡ 0 → (if◌then◌else◌ {A = Refreshed} t a b).position ≡ 0
unplaced true a b p q = p
unplaced false a b p q = q

pub refresh-placed : (image : List ℕ) (s : State) (mark : ℕ) (table : List ℕ) → (refresh_of image s mark table).position ≡ place_of (accepted image table)
unfolding refresh_of
refresh-placed image s mark table = by (accepted image table)
  where
    by : (r : Read Model) → (refreshed_by s mark table r).position ≡ place_of r
    by (read_refused n at) = refl
    by (read_got m at) = unplaced (not (well_formed m s)) _ _ refl (unplaced (leb (2 ^ m.buffers) mark) _ _ refl refl)

pub needed-placed : (image : List ℕ) → (needed_of image).position ≡ place_of (decode image)
unfolding needed_of
needed-placed image = by (decode image)
  where
    by : (r : Read Model) → (needed_by r).position ≡ place_of r
    by (read_refused n at) = refl
    by (read_got m at) = refl

pub open-place : (image table : List ℕ) → (open_of image table).position ≤ 524288
open-place image table = rw (open-placed image table) (accepted-place image table)

pub run-place : (image : List ℕ) (s : State) (table : List ℕ) (steps : ℕ) → (run_of image s table steps).position ≤ 524288
unfolding run_of
run-place image s table steps = accepted-place image table

pub run-lent-place : (image : List ℕ) (s : State) (table : List ℕ) (steps lent : ℕ) (words : List ℕ) → (run_lent image s table steps lent words).answer.position ≤ 524288
unfolding run_lent
run-lent-place image s table steps lent words = accepted-place image table

pub refresh-place : (image : List ℕ) (s : State) (mark : ℕ) (table : List ℕ) → (refresh_of image s mark table).position ≤ 524288
refresh-place image s mark table = rw (refresh-placed image s mark table) (accepted-place image table)

pub fresh-place : (image : List ℕ) (s : State) (steps : ℕ) → (fresh_of image s steps).position ≤ 524288
unfolding fresh_of
fresh-place image s steps = decode-place image

pub fresh-lent-place : (image : List ℕ) (s : State) (steps lent : ℕ) (words : List ℕ) → (fresh_lent image s steps lent words).answer.position ≤ 524288
unfolding fresh_lent
fresh-lent-place image s steps lent words = decode-place image

pub needed-place : (image : List ℕ) → (needed_of image).position ≤ 524288
needed-place image = rw (needed-placed image) (decode-place image)
