-- What `done` makes of a buffer is the effect that the relation names, and nothing else is.
use Rattle.std.specs.Prelude.{◌≡◌, ◌⊎◌, Bool, true, false, ltb, leb, length, get_or, set}
use Rattle.std.proofs.Math.Path.{refl, ap}
use Rattle.std.proofs.Common.{sym, ◌∙◌, inl, inr, ⊎_elim, arith, leb-true, length-set, get_or-set_same, get_or-set_other, ext_get_or}
use mathlib.Core.List.Memᴰ
use mathlib.Core.List.{List, [], ◌∷◌, Memᴰ}
use Rattle.std.proofs.Math.Option.{Option, none, some}
use Prim.Native.Nat.{ℕ, ◌+◌, ◌≤◌, ◌<◌}
use Rattle.std.proofs.Math.Decide.{ℕ_discrete}
use Rattle.meaning.specs.declared.Buffer.{Buffer}
use Rattle.meaning.specs.declared.State.{State}
use Rattle.meaning.specs.Base.{every}
use Rattle.meaning.specs.Model.{Model, Rule, Deed, deed_modify, deed_request, deed_clear, Named, Fact}
use Rattle.meaning.specs.State.{slot_count}
use Rattle.meaning.specs.Image.{is_tested, tested_type}
use Rattle.meaning.specs.Match.{entry_of}
use Rattle.meaning.specs.Retrieval.{value_of, retrieve, retrieved}
use Rattle.meaning.specs.Fire.{put, done}
use Rattle.laws.specs.BaseLaws.{and_left, and_right, every-member}
use Rattle.promises.specs.Words.{At}
use Rattle.promises.specs.Published.{stands_for, Binds, Modified, Fits, Retrieved, Effect, modify, request, fail, clear}
use Rattle.promises.proofs.Proofs.Decoded.{rises, good_term, good_named, good_names, good_deed}
use Rattle.promises.proofs.Proofs.Matching.{value-binds}
use Rattle.promises.proofs.Proofs.Retrieving.{none-fits, Found, found, retrieved-once}

-- a buffer is its four parts
pub buffer-is : (b : Buffer) (isa : ℕ) (slots : List ℕ) (delay : ℕ) (error : Bool) → b.isa ≡ isa → b.slots ≡ slots → b.delay ≡ delay → b.error ≡ error
    → b ≡ record { isa = isa; slots = slots; delay = delay; error = error }
buffer-is b isa slots delay error p q r f = rw (← p, ← q, ← r, ← f) refl

-- ---- numbers that rise are above the least, and each stands once

pub rises-above : {A : Type 0} (number : A → ℕ) (least : ℕ) (xs : List A) → rises number least xs ≡ true → (x : A) → Memᴰ x xs → least ≤ number x
rises-above number least [] e x h = absurd (Memᴰ.not-nil h)
rises-above number least (y ∷ ys) e x h =
    let l : least ≤ number y = leb-true least (number y) (and_left (leb least (number y)) (rises number (number y + 1) ys) e) in
    ⊎_elim (λ (q : x ≡ y). rw q l)
    (λ (m : Memᴰ x ys). let u : number y + 1 ≤ number x = rises-above number (number y + 1) ys (and_right (leb least (number y)) (rises number (number y + 1) ys) e) x m in omega arith)
    (Memᴰ.cases_cons h)

-- ---- what `put` writes

put-length : (ns : List Named) (entry slots : List ℕ) → length (put ns entry slots) ≡ length slots
unfolding put
put-length [] entry slots = refl
put-length (n ∷ ns) entry slots = put-length ns entry (set slots n.slot (value_of entry n.term)) ∙ length-set slots n.slot (value_of entry n.term)

put-unnamed : (ns : List Named) (entry slots : List ℕ) (i : ℕ) → ((n : Named) → Memᴰ n ns → n.slot ≡ i → ⊥) → get_or (put ns entry slots) i 0 ≡ get_or slots i 0
unfolding put
put-unnamed [] entry slots i h = refl
put-unnamed (n ∷ ns) entry slots i h =
    put-unnamed ns entry (set slots n.slot (value_of entry n.term)) i (λ x k. h x (Memᴰ.tail k))
    ∙ get_or-set_other slots n.slot i (value_of entry n.term) 0 (λ q. h n (Memᴰ.head refl) (sym q))

pub put-named : (least : ℕ) (ns : List Named) (entry slots : List ℕ) → rises (λ n. n.slot) least ns ≡ true → (n : Named) → Memᴰ n ns → n.slot < length slots
    → get_or (put ns entry slots) n.slot 0 ≡ value_of entry n.term
unfolding put
put-named least [] entry slots e n h l = absurd (Memᴰ.not-nil h)
put-named least (x ∷ ns) entry slots e n h l =
    let slots' : List ℕ = set slots x.slot (value_of entry x.term) in
    let up : rises (λ n. n.slot) (x.slot + 1) ns ≡ true = and_right (leb least x.slot) (rises (λ n. n.slot) (x.slot + 1) ns) e in
    ⊎_elim
    (λ (q : n ≡ x).
    let own : get_or (put ns entry slots') x.slot 0 ≡ value_of entry x.term =
    put-unnamed ns entry slots' x.slot (λ y k z. let u : x.slot + 1 ≤ y.slot = rises-above (λ n. n.slot) (x.slot + 1) ns up y k in omega arith)
    ∙ get_or-set_same slots x.slot (value_of entry x.term) 0 (omega (arith, ap (λ (y : Named). y.slot) q)) in
    rw q own)
    (λ (m : Memᴰ n ns). put-named (x.slot + 1) ns entry slots' up n m (omega (arith, length-set slots x.slot (value_of entry x.term))))
    (Memᴰ.cases_cons h)

-- a slot is named, or it is not
record NamedAt (ns : List Named) (i : ℕ) : Type 0 where
  named : Named
  member : Memᴰ named ns
  is : named.slot ≡ i

named-or-not : (ns : List Named) (i : ℕ) → NamedAt ns i ⊎ ((n : Named) → Memᴰ n ns → n.slot ≡ i → ⊥)
named-or-not [] i = inr (λ n h q. Memᴰ.not-nil h)
named-or-not (x ∷ ns) i =
    elim (ℕ_discrete x.slot i) [
      | yes e ↦ inl (record { named = x; member = Memᴰ.head refl; is = e })
      | no f ↦
          ⊎_elim (λ (k : NamedAt ns i). inl (record { named = k.named; member = Memᴰ.tail k.member; is = k.is }))
          (λ (g : (n : Named) → Memᴰ n ns → n.slot ≡ i → ⊥).
          inr (λ n h q. ⊎_elim (λ (z : n ≡ x). f (sym (ap (λ (y : Named). y.slot) z) ∙ q)) (λ (m : Memᴰ n ns). g n m q) (Memᴰ.cases_cons h)))
          (named-or-not ns i)
    ]

-- ---- the effect of each deed

module _ (m : Model) (r : Rule) (s : State) (v : ℕ → ℕ) (binds : Binds r s v) where
  abbrev entry : List ℕ
  entry = entry_of r s

  same-values : (k : ℕ) (ns : List Named) → every (good_named r.tests k) ns ≡ true → (n : Named) → Memᴰ n ns → value_of entry n.term ≡ stands_for v n.term
  same-values k ns g n h = value-binds r s v binds n.term (and_right (ltb n.slot k) (good_term r.tests n.term) (every-member (good_named r.tests k) ns g h))

  -- the parts of what is known of the names
  good-all : (k : ℕ) (ns : List Named) → good_names r.tests k ns ≡ true → every (good_named r.tests k) ns ≡ true
  good-all k ns g = and_left (every (good_named r.tests k) ns) (rises (λ n. n.slot) 0 ns) g

  good-rises : (k : ℕ) (ns : List Named) → good_names r.tests k ns ≡ true → rises (λ n. n.slot) 0 ns ≡ true
  good-rises k ns g = and_right (every (good_named r.tests k) ns) (rises (λ n. n.slot) 0 ns) g

  modified : (k : ℕ) (ns : List Named) (old : Buffer) → good_names r.tests k ns ≡ true
      → Modified v ns old (record { isa = old.isa; slots = put ns entry old.slots; delay = 0; error = false })
  modified k ns old g =
      record {
        same_type = refl;
        at_once = refl;
        as_many = put-length ns entry old.slots;
        named = λ n h l. put-named 0 ns entry old.slots (good-rises k ns g) n h l ∙ same-values k ns (good-all k ns g) n h;
        unnamed = λ i h. put-unnamed ns entry old.slots i h;
        unflagged = refl;
      }

  modified-once : (k : ℕ) (ns : List Named) (old new : Buffer) → good_names r.tests k ns ≡ true → Modified v ns old new
      → new ≡ record { isa = old.isa; slots = put ns entry old.slots; delay = 0; error = false }
  modified-once k ns old new g h =
      let l : length new.slots ≡ length (put ns entry old.slots) = h.as_many ∙ sym (put-length ns entry old.slots) in
      buffer-is new old.isa (put ns entry old.slots) 0 false h.same_type
      (ext_get_or 0 new.slots (put ns entry old.slots) l
      (λ i b.
      ⊎_elim
      (λ (x : NamedAt ns i).
      let z : x.named.slot < length old.slots = omega (arith, x.is, h.as_many) in
      rw (← x.is)
      (h.named x.named x.member z ∙ sym (same-values k ns (good-all k ns g) x.named x.member) ∙ sym (put-named 0 ns entry old.slots (good-rises k ns g) x.named x.member z)))
      (λ (n : (n : Named) → Memᴰ n ns → n.slot ≡ i → ⊥). h.unnamed i n ∙ sym (put-unnamed ns entry old.slots i n))
      (named-or-not ns i)))
      h.at_once h.unflagged

  asked : (k isa : ℕ) (ns : List Named) (old : Buffer) → good_names r.tests k ns ≡ true → (o : Option Fact) → retrieve m.facts isa ns entry ≡ o
      → Effect m v old (deed_request isa ns) (retrieved m.failure o)
  asked k isa ns old g none e = fail (none-fits v isa ns entry (same-values k ns (good-all k ns g)) m.facts e)
  asked k isa ns old g (some f) e = request (found v isa ns entry (same-values k ns (good-all k ns g)) m.facts f e).retrieved

  -- what is done is an effect
  pub done-effect : (b : ℕ) (old : Buffer) (d : Deed) → good_deed m.types r.tests b d ≡ true → Effect m v old d (done m.failure m.facts entry old d)
  unfolding done
  done-effect b old (deed_modify ns) g =
      let k : ℕ = slot_count m.types (tested_type r.tests b) in
      modify (modified k ns old (and_right (is_tested r.tests b) (good_names r.tests k ns) g))
  done-effect b old (deed_request isa ns) g = asked (slot_count m.types isa) isa ns old g (retrieve m.facts isa ns entry) refl
  done-effect b old deed_clear g = clear

  found-once : (isa : ℕ) (ns : List Named) → ((n : Named) → Memᴰ n ns → value_of entry n.term ≡ stands_for v n.term) → (k : ℕ) (f : Fact) → Retrieved m.facts v isa ns k f
      → (o : Option Fact) → retrieve m.facts isa ns entry ≡ o → o ≡ some f
  found-once isa ns sv k f h none e = absurd (none-fits v isa ns entry sv m.facts e k f h.numbered h.fitting)
  found-once isa ns sv k f h (some g) e =
      let w : Found v isa ns entry sv m.facts g = found v isa ns entry sv m.facts g e in
      ap some (retrieved-once v isa ns entry sv m.facts w.place k g f w.retrieved h)

  failed-once : (isa : ℕ) (ns : List Named) → ((n : Named) → Memᴰ n ns → value_of entry n.term ≡ stands_for v n.term) → ((k : ℕ) (f : Fact) → At f k m.facts → Fits v isa ns f → ⊥)
      → (o : Option Fact) → retrieve m.facts isa ns entry ≡ o → o ≡ none
  failed-once isa ns sv h none e = refl
  failed-once isa ns sv h (some g) e =
      let w : Found v isa ns entry sv m.facts g = found v isa ns entry sv m.facts g e in
      absurd (h w.place g w.retrieved.numbered w.retrieved.fitting)

  -- an effect is what is done
  pub effect-done : (b : ℕ) (old : Buffer) (d : Deed) (new : Buffer) → good_deed m.types r.tests b d ≡ true → Effect m v old d new → new ≡ done m.failure m.facts entry old d
  unfolding done
  effect-done b old (deed_modify ns) new g (modify h) =
      let k : ℕ = slot_count m.types (tested_type r.tests b) in
      modified-once k ns old new (and_right (is_tested r.tests b) (good_names r.tests k ns) g) h
  effect-done b old (deed_request isa ns) new g (request {k = k} {f = f} h) =
      ap (retrieved m.failure) (sym (found-once isa ns (same-values (slot_count m.types isa) ns (good-all (slot_count m.types isa) ns g)) k f h (retrieve m.facts isa ns entry) refl))
  effect-done b old (deed_request isa ns) new g (fail h) =
      ap (retrieved m.failure) (sym (failed-once isa ns (same-values (slot_count m.types isa) ns (good-all (slot_count m.types isa) ns g)) h (retrieve m.facts isa ns entry) refl))
  effect-done b old deed_clear new g clear = refl
