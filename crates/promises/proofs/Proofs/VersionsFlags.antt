-- No rule without queries sees an error flag: entries, tables, marks, steps and states are judged as before, but for flags.
use Rattle.std.specs.Prelude.{◌≡◌, true, not, ℕ, zero, suc, ◌+◌, ℤ, drop}
use Rattle.std.proofs.Math.Path.{refl, ap}
use Rattle.std.proofs.Common.{sym, ap₂, ◌∙◌}
use Rattle.std.proofs.Math.Bool.{and-true}
use mathlib.Core.List.Memᴰ
use mathlib.Core.List.{List, [], ◌∷◌, map}
use Rattle.std.proofs.Math.Option.{Option, none, some}
use Rattle.std.proofs.lemmas.List.{length-map}
use Rattle.meaning.specs.declared.Buffer.{Buffer}
use Rattle.meaning.specs.declared.State.{State}
use Rattle.meaning.specs.Base.{every}
use Rattle.meaning.specs.Model.{Model, Rule, Action, Deed, deed_modify, deed_request, deed_clear, Fact}
use Rattle.meaning.specs.State.{flag_fits, well_buffer, is_unused, well_formed}
use Rattle.meaning.specs.Match.{entry_of}
use Rattle.meaning.specs.Retrieval.{retrieve, retrieved}
use Rattle.meaning.specs.Fire.{done, deed_on, after, change, fire}
use Rattle.meaning.specs.Wait.{sooner, soonest, wait}
use Rattle.meaning.specs.Mark.{arrived, mark_of}
use Rattle.meaning.specs.Refresh.{refresh}
use Rattle.meaning.specs.Learning.{cleared}
use Rattle.meaning.specs.Fresh.{matched}
use Rattle.laws.specs.BaseLaws.{and_left, and_right, every_map}
use Rattle.promises.specs.Before.{NoQueries, entry_of01, refresh01, matched01, well_buffer01, is_unused01, well_formed01, unflag, unflagged}
use Rattle.promises.specs.Before.{retrieved01, done01, later01, after01, fire01, wait01}
use Rattle.promises.proofs.Proofs.Decoded.{and-true as all_true, all-weaken}
pub use Rattle.promises.proofs.Proofs.VersionsShown.{matches-before, marked-before, unflagged-twice}
use Rattle.promises.proofs.Proofs.VersionsShown.{buffer-unflagged, places-unflagged, shown-unflagged}

pub entry-before : (r : Rule) → r.queries ≡ [] → (s : State) → entry_of r s ≡ entry_of01 r (unflagged s)
unfolding entry_of entry_of01
entry-before r bare s = rw (matches-before r bare s, shown-unflagged r.tests s, places-unflagged r.tests s) refl

pub refresh-before : (rules : List Rule) → NoQueries rules → (s : State) (mark : ℕ) (table : List ℕ) → refresh rules s mark table ≡ refresh01 rules (unflagged s) mark table
unfolding refresh refresh01
refresh-before [] bare s mark table = refl
refresh-before (r ∷ rs) bare s mark table =
    let none : r.queries ≡ [] = bare r (Memᴰ.head refl) in
    rw (marked-before r none mark, entry-before r none s, refresh-before rs (λ q m. bare q (Memᴰ.tail m)) s mark (drop 9 table)) refl

-- so two states that are the same but for flags have one refreshed table
pub refresh-alike : (s t : State) → unflagged s ≡ unflagged t → (rules : List Rule) → NoQueries rules → (mark : ℕ) (table : List ℕ)
    → refresh rules s mark table ≡ refresh rules t mark table
refresh-alike s t alike rules bare mark table =
    refresh-before rules bare s mark table ∙ ap (λ (x : State). refresh01 rules x mark table) alike ∙ sym (refresh-before rules bare t mark table)

pub matched-before : (k : ℕ) (rules : List Rule) (us : List ℤ) → NoQueries rules → (s : State) → matched k rules us s ≡ matched01 k rules us (unflagged s)
unfolding matched matched01
matched-before k [] us bare s = refl
matched-before k (r ∷ rs) us bare s =
    rw (entry-before r (bare r (Memᴰ.head refl)) s, matched-before (k + 1) rs (drop 1 us) (λ q m. bare q (Memᴰ.tail m)) s) refl

pub soonest-unflagged : (ms : ℕ) (bs : List Buffer) → soonest ms (map unflag bs) ≡ soonest ms bs
unfolding soonest
soonest-unflagged ms [] = refl
soonest-unflagged ms (b ∷ bs) = soonest-unflagged (sooner ms b.delay) bs

pub cleared-unflagged : (as' : List Action) (i : ℕ) (bs : List Buffer) → cleared as' i (map unflag bs) ≡ cleared as' i bs
unfolding cleared
cleared-unflagged as' i [] = refl
cleared-unflagged as' i (b ∷ bs) = rw (cleared-unflagged as' (i + 1) bs) refl

arrived-unflagged : (s s' : State) (b : ℕ) → arrived (unflagged s) (unflagged s') b ≡ arrived s s' b
arrived-unflagged s s' b = rw (buffer-unflagged s b, buffer-unflagged s' b) refl

pub mark-unflagged : (as' : List Action) (s s' : State) → mark_of as' (unflagged s) (unflagged s') ≡ mark_of as' s s'
unfolding mark_of
mark-unflagged as' s s' = simp (length-map, arrived-unflagged)

-- ---- what a step makes of a state: the same but for flags

changed-before : (f g : ℕ → Buffer → Buffer) → ((i : ℕ) (b : Buffer) → unflag (f i b) ≡ g i (unflag b)) → (i : ℕ) (bs : List Buffer)
    → map unflag (change f i bs) ≡ change g i (map unflag bs)
unfolding change
changed-before f g h i [] = refl
changed-before f g h i (b ∷ bs) = ap₂ (λ (x : Buffer) (xs : List Buffer). x ∷ xs) (h i b) (changed-before f g h (i + 1) bs)

retrieved-before : (failure : ℕ) (o : Option Fact) → unflag (retrieved failure o) ≡ retrieved01 failure o
retrieved-before failure none = refl
retrieved-before failure (some f) = refl

module _ (failure : ℕ) (memory : List Fact) (entry : List ℕ) where
  after-before : (b : Buffer) (d : Option Deed) → unflag (after failure memory entry b d) ≡ after01 failure memory entry (unflag b) d
  unfolding done done01
  after-before b none = refl
  after-before b (some (deed_modify ns)) = refl
  after-before b (some (deed_request isa ns)) = retrieved-before failure (retrieve memory isa ns entry)
  after-before b (some deed_clear) = refl

  pub fire-before : (r : Rule) (s : State) → unflagged (fire failure memory r entry s) ≡ fire01 failure memory r entry (unflagged s)
  unfolding fire fire01
  fire-before r s =
      ap (λ (bs : List Buffer). record { buffers = bs; clock = s.clock + 50 })
      (changed-before _ (λ i b. after01 failure memory entry b (deed_on r.actions i)) (λ i b. after-before b (deed_on r.actions i)) 0 s.buffers)

pub wait-before : (ms : ℕ) (s : State) → unflagged (wait ms s) ≡ wait01 ms (unflagged s)
unfolding wait wait01
wait-before ms s = ap (λ (bs : List Buffer). record { buffers = bs; clock = s.clock + ms }) (changed-before _ (λ i b. later01 ms b) (λ i b. refl) 0 s.buffers)

-- ---- a state without flags is judged as before

well-buffer-before : (types : List ℕ) (b : Buffer) → well_buffer types (unflag b) ≡ well_buffer01 types b
well-buffer-before types b = and-true (well_buffer01 types b)

unused-before : (b : Buffer) → is_unused (unflag b) ≡ is_unused01 b
unused-before b = and-true (is_unused01 b)

drop-map : {A B : Type 0} (f : A → B) (n : ℕ) (xs : List A) → drop n (map f xs) ≡ map f (drop n xs)
drop-map f zero xs = refl
drop-map f (suc n) [] = refl
drop-map f (suc n) (x ∷ xs) = drop-map f n xs

pub well-before : (m : Model) (s : State) → well_formed m (unflagged s) ≡ well_formed01 m s
unfolding well_formed
well-before m s =
    rw (drop-map unflag m.buffers s.buffers, every_map (well_buffer m.types) unflag s.buffers, every_map is_unused unflag (drop m.buffers s.buffers))
    (simp (well-buffer-before, unused-before))

-- and one that is well formed with its flags is so without them
pub well-unflagged : (m : Model) (s : State) → well_formed m s ≡ true → well_formed m (unflagged s) ≡ true
unfolding well_formed
well-unflagged m s h =
    let past : List Buffer = drop m.buffers s.buffers in
    let each = all-weaken (well_buffer m.types) (well_buffer01 m.types) (λ b e. and_left (well_buffer01 m.types b) (flag_fits b) e) s.buffers (and_left _ _ h) in
    let rest = all-weaken is_unused is_unused01 (λ b e. and_left (is_unused01 b) (not b.error) e) past (and_right (every (well_buffer m.types) s.buffers) _ h) in
    well-before m s ∙ all_true (every (well_buffer01 m.types) s.buffers) (every is_unused01 past) each rest
