-- Slot counts, opening chunks, and both on the tape.
use Rattle.std.proofs.Common.{rules, ◌≡◌, ◌∙◌, sym, ap, ap₂, arith, ℕ, List, [], ◌++◌, ◌+◌, ◌-◌, ◌≤◌, map, length, take, drop}
use Rattle.meaning.specs.declared.Buffer.{Buffer}
use Rattle.meaning.specs.declared.State.{State}
use Rattle.meaning.specs.Model.{Chunk}
use Rattle.meaning.specs.Read.{read_got}
use Rattle.meaning.specs.Numbers.{finer}
use Rattle.meaning.specs.Image.{slot_counts, chunk}
use Rattle.meaning.specs.Learning.{chunk_of}
use Rattle.layout.specs.StateWords.{buffers_in}
use Rattle.layout.specs.Plans.{types_on, opening_on}
use Rattle.layout.proofs.WordLaws.{part-put, part-own}
use Rattle.read_opening.specs.Parts.{header_in, opening_state}
use Rattle.read_image.proofs.WholeLaws.{a_beginning, chunks_in, begin-second, begin-third, begin-on, small-take, opened-chunks, opened-state, opening-refused}
use Rattle.read_image.proofs.TapeLaws.{opening-laid, types-laid, state-laid}
use Rattle.read_image.proofs.lay_opening.Goals as goal
use Rattle.read_image.proofs.lay_opening.Goals.{In_ok-types}

-- the slot counts of the types that there are
abbrev kinds : (c : In_ok-types) → List ℕ
kinds c = take (c.args.plan.declared + 1) c.in_ok-types.types

pub returns-in_err-types : goal.returns-in_err-types
returns-in_err-types c =
    let a = c.args in
    let bad = begin-second a.reader.now.image (header_in a.plan) a.reader.now.at c.requires.0 _ _ c.in_err-types.ensures.value in
    record { reads = search (rules, bad); follows = c.slot_counts.ensures.follows; types = search rules; small = search rules; opens = search rules }

pub returns-in_err-state : goal.returns-in_err-state
returns-in_err-state c =
    let a = c.args in
    let s = a.reader.now.image in
    let chunks = rw c.in_ok-types.ensures.follows at (opening-refused a.plan.buffers _ _ _ c.in_err-state.ensures.value) in
    let bad = begin-third s (header_in a.plan) a.reader.now.at c.requires.0 (kinds (goal.at.returns-in_err-state c).In_ok-types) c.slot_counts.new.reader.at c.in_ok-types.ensures.value _ _ chunks in
    record { reads = search (rules, bad); follows = c.opening.ensures.follows ∙ c.slot_counts.ensures.follows; types = search rules; small = search rules; opens = search rules }

pub returns : goal.returns
returns c =
    let a = c.args in
    let s = a.reader.now.image in
    let p = a.plan in
    let types = c.in_ok-types.types in
    let st = c.in_ok-state.state in
    let own = c.lay_state.new.words in
    let k = kinds (goal.at.returns c).In_ok-types in
    let o = c.slot_counts.new.reader.at in
    let copied : c.copy_from_slice.new.self ≡ types = search rules in
    let many : length types ≡ 64 = search rules in
    let few : p.declared + 1 ≤ 64 = let b = c.requires.1.bounds.most_declared in omega arith in
    let same = types-laid types [] own many p few in
    let laid : buffers_in (drop 64 (types ++ own)) ≡ st.buffers = ap buffers_in (state-laid types [] own many) ∙ c.lay_state.ensures.words_after in
    let chunks : opening_on p (types ++ own) ≡ chunks_in st p.buffers = ap (λ (bs : List Buffer). map chunk_of (take p.buffers bs)) laid in
    let read = rw c.in_ok-types.ensures.follows at c.in_ok-state.ensures.value in
    let opened = opened-chunks (chunk finer k 0) p.buffers s o st c.opening.new.reader.at read in
    let first = opened-state (chunk finer k 0) p.buffers s o st c.opening.new.reader.at read in
    let on = begin-on s (header_in p) a.reader.now.at c.requires.0 k o c.in_ok-types.ensures.value (chunks_in st p.buffers) c.opening.new.reader.at opened in
    rw (copied, opening-laid types _ own many) (record {
      reads = ap₂ (λ (ts : List ℕ) (cs : List Chunk). read_got (a_beginning (header_in p) ts cs) c.opening.new.reader.at) same chunks ∙ on;
      follows = c.opening.ensures.follows ∙ c.slot_counts.ensures.follows;
      types = same;
      small = rw same (small-take (p.declared + 1) types c.in_ok-types.ensures.small);
      opens = ap (λ (bs : List Buffer). record { buffers = bs; clock = 0 }) (laid ∙ ap (λ (x : State). x.buffers) first) ∙ ap (opening_state p.buffers) (sym chunks);
    })
