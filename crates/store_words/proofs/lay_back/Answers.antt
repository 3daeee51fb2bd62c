-- `store_words::lay_back` meets its contract: the count is written, and then the places that are left, written from here on, make the whole.
use Prim.Native.Nat.{◌+◌, ◌-◌, ◌*◌}
use mathlib.Core.Path.{refl, ap, ◌∙◌}
use native.Mathlib.Omega.{arith}
use lib.Seq.{sets}
use Rattle.meaning.specs.Model.{Chunk}
use Rattle.meaning.specs.Store.{place_words}
use Rattle.store_words.proofs.BackLaws.{chunk_on, chunk-there, place-more, place_end, back_whole}
use borrow.Author.Rules.{rules}
use Rattle.store_words.proofs.lay_back.Goals as goal

pub loop-i-preserved : goal.loop-i-preserved
loop-i-preserved c =
    let l = c.loop-i in
    let a = c.args in
    let laid = c.lay_place.ensures ∙ ap (λ (x : Chunk). sets l.store (9 * l.i + 1) (place_words x)) (chunk-there a.tape.now a.own l.i) in
    record { long = search rules; rest = place-more l.store _ (chunk_on a.tape.now a.own) l.i (a.plan.facts - a.own) (search rules) refl laid ∙ l.invariant.rest }

pub returns : goal.returns
returns c =
    let l = c.loop-i in
    let a = c.args in
    let f = chunk_on a.tape.now a.own in
    place_end l.store f (9 * l.i + 1) l.i (a.plan.facts - a.own) (search rules) ∙ l.invariant.rest
    ∙ back_whole a.store.now f (λ k. refl) (a.plan.facts - a.own) a.had (search rules) (omega (arith, c.requires.1, c.requires.3)) c.requires.4 c.requires.5
