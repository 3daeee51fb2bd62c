-- What a store comes to along a run: what was there stays before what joins, and nothing that stands is lost.
use Rattle.std.specs.Prelude.{◌≡◌, refl, false, List, [], ◌∷◌, ◌++◌, map, ℕ, ◌+◌, ◌≤◌, length}
use Rattle.std.proofs.Common.{sym, ap, subst, ◌∙◌, append_assoc, append-nil, arith, ltb-false, length-append}
use Rattle.std.proofs.Math.Option.{Option, some}
use Rattle.meaning.specs.declared.State.{State}
use Rattle.meaning.specs.Model.{Model, Chunk, Fact}
use Rattle.meaning.specs.Step.{Event, event_fired}
use Rattle.meaning.specs.Learning.{learned, knowing, chunks_of, adds, store_after, overfull}
use Rattle.promises.specs.Words.{At, ClearedBy, Learned, Growth, Stands}
pub use Rattle.promises.proofs.Proofs.JoiningAdds.{at_left, at_right, Split, before, after, at_split, Head, is-first, is-next, at_head, at_in, no-at, at_one, In, at_every, at_map, equal-true, equal-refl, joining-new, joining-once, joining-all, joining-from, chunks-stand, stand-chunks, adds-new, adds-once, adds-from, adds-in, adds-rising}
use Rattle.promises.proofs.Proofs.JoiningAdds.{none-at}

pub adds-nothing : (m : Model) (s : State) (k : ℕ) → ((c : Chunk) → ClearedBy m.rules s k c → Stands m.facts c) → adds m s (event_fired k) ≡ []
adds-nothing m s k h = none-at (adds m s (event_fired k)) (λ c j a. adds-new m s (event_fired k) j c a (h c (adds-from m s k j c a)))

-- ---- along a run:
-- what was there
-- stays before what joins

-- the chunks that stand in the memory: the image's and the store's
pub store-stands : (m : Model) (cs : List Chunk) {c : Chunk} → In c cs → Stands (knowing m (some cs)).facts c
store-stands m cs {c} i = record { place = length m.facts + i.0; fact = learned c; numbered = at_right m.facts (at_map learned i.1); is = refl }

pub image-stands : (m : Model) (cs : List Chunk) {c : Chunk} → Stands m.facts c → Stands (knowing m (some cs)).facts c
image-stands m cs g = record { place = g.place; fact = g.fact; numbered = at_left g.numbered (map learned cs); is = g.is }

-- nothing that stands is lost
pub more-stands : (m : Model) (cs more : List Chunk) {c : Chunk} → Stands (knowing m (some cs)).facts c → Stands (knowing m (some (cs ++ more))).facts c
more-stands m cs more {c} g = by (at_split m.facts g.numbered)
  where
    by : Split g.fact g.place m.facts (map learned cs) → Stands (knowing m (some (cs ++ more))).facts c
    by (before a) = image-stands m (cs ++ more) (record { place = g.place; fact = g.fact; numbered = a; is = g.is })
    by (after j e a) =
        let i : In g.fact.chunk (chunks_of (map learned cs)) = (j, at_map (λ (f : Fact). f.chunk) a) in
        store-stands m (cs ++ more) (i.0, at_left (subst (λ (x : Chunk). At x j cs) g.is (subst (λ (xs : List Chunk). At g.fact.chunk j xs) (chunks-learned cs) i.1)) more)
      where
        chunks-learned : (xs : List Chunk) → chunks_of (map learned xs) ≡ xs
        chunks-learned [] = refl
        chunks-learned (x ∷ xs) = ap (λ (r : List Chunk). x ∷ r) (chunks-learned xs)

-- what joins after what has joined
pub learned-more : (m : Model) (s : State) (e : Event) (old new : List Chunk) → Learned m.facts old new
    → Learned m.facts old (new ++ adds (knowing m (some (old ++ new))) s e)
learned-more m s e old new h =
    record {
      not_of_image = λ j k c f a b z. image (at_split new a) b z;
      not_of_store = λ j k c a b. store (at_split new a) b;
      once = λ j k c a b. both (at_split new a) (at_split new b);
    }
  where
    memory : Model
    memory = knowing m (some (old ++ new))

    image : {c : Chunk} {f : Fact} {j k : ℕ} → Split c j new (adds memory s e) → At f k m.facts → f.chunk ≡ c → ⊥
    image {c} {f} {j} {k} (before a) b z = h.not_of_image j k c f a b z
    image {c} {f} {j} {k} (after i q a) b z = adds-new memory s e i c a (image-stands m (old ++ new) (record { place = k; fact = f; numbered = b; is = z }))

    store : {c : Chunk} {j k : ℕ} → Split c j new (adds memory s e) → At c k old → ⊥
    store {c} {j} {k} (before a) b = h.not_of_store j k c a b
    store {c} {j} {k} (after i q a) b = adds-new memory s e i c a (store-stands m (old ++ new) (k, at_left b new))

    again : {c : Chunk} {i k : ℕ} → At c i (adds memory s e) → At c k new → ⊥
    again {c} {i} {k} a b = adds-new memory s e i c a (store-stands m (old ++ new) (length old + k, at_right old b))

    both : {c : Chunk} {j k : ℕ} → Split c j new (adds memory s e) → Split c k new (adds memory s e) → j ≡ k
    both {c} {j} {k} (before a) (before b) = h.once j k c a b
    both (before a) (after i q b) = absurd (again b a)
    both (after i q a) (before b) = absurd (again a b)
    both {c} (after i q a) (after l p b) = omega (arith, adds-once memory s e i l c a b)

-- a store that grew from cs, within its places

pub grown-none : (m : Model) (cs : List Chunk) → length cs ≤ 256 → Growth m cs (some cs)
grown-none m cs l =
    record {
      new = [];
      is = ap some (sym (append-nil cs));
      learns = record { not_of_image = λ j k c f a b z. no-at a; not_of_store = λ j k c a b. no-at a; once = λ j k c a b. absurd (no-at a) };
      most = omega (arith, length-append cs []);
    }

pub grown-more : (m : Model) (cs : List Chunk) (s : State) (e : Event) (store : Option (List Chunk)) → Growth m cs store → overfull (store_after m s e store) ≡ false
    → Growth m cs (store_after m s e store)
grown-more m cs s e store g o =
    let add : List Chunk = adds (knowing m (some (cs ++ g.new))) s e in
    let q : store_after m s e store ≡ some (cs ++ (g.new ++ add)) = ap (store_after m s e) g.is ∙ ap some (append_assoc cs g.new add) in
    record {
      new = g.new ++ add;
      is = q;
      learns = learned-more m s e cs g.new g.learns;
      most = ltb-false 256 (length (cs ++ (g.new ++ add))) (ap overfull (sym q) ∙ o);
    }
