-- Letters put one after the other.
use Prim.Native.Nat.{ℕ, ◌+◌, ◌≤◌}
use mathlib.Core.Path.{◌≡◌, refl, sym, ap, ◌∙◌}
use mathlib.Core.List.{List, [], ◌++◌, append_assoc, append-nil}
use native.Mathlib.Omega.{arith}
use lib.ListN.{length, take, length-append, length-take}
use borrow.Rule.Slice.PartMut.{put_mid}
use Rattle.std.proofs.lemmas.Slice.{take-put_mid}
use Rattle.io.specs.Counts.{IsPrefixLen}
use Rattle.actr_lines.specs.Written.{Written}

-- nothing was put yet
pub written_none : (text : List ℕ) (at : ℕ) → Written text at text at 0 []
written_none text at = record { ends = omega arith; fits = omega arith; reads = sym (append-nil (take at text)) }

-- more is put after what was put
pub written-join : {before after last : List ℕ} {at end final most more : ℕ} {xs ys : List ℕ}
    → Written before at after end most xs → Written after end last final more ys → Written before at last final (most + more) (xs ++ ys)
written-join {before} {after} {last} {at} {end} {final} {most} {more} {xs} {ys} p q =
    record {
      ends = omega (arith, p.ends, q.ends, length-append xs ys);
      fits = omega (arith, p.fits, q.fits, length-append xs ys);
      reads = q.reads ∙ ap (λ (l : List ℕ). l ++ ys) p.reads ∙ append_assoc (take at before) xs ys;
    }

-- the same letters, and a bound that is no less
pub written_as : {before after : List ℕ} {at end most more : ℕ} {xs ys : List ℕ} → xs ≡ ys → most ≤ more → Written before at after end most xs → Written before at after end more ys
written_as {before} {after} {at} {end} {most} {more} {xs} {ys} e h p =
    record {
      ends = p.ends ∙ ap (λ (l : List ℕ). at + length l) e;
      fits = omega (arith, p.fits, ap length e);
      reads = p.reads ∙ ap (λ (l : List ℕ). take at before ++ l) e;
    }

-- letters at the start of a text are as many of its bytes
module _ {before after letters : List ℕ} {end most : ℕ} (w : Written before 0 after end most letters) where
  pub written-first : take end after ≡ letters
  written-first = w.reads

  pub written-counts : IsPrefixLen end after
  written-counts =
      let l : length (take end after) ≡ length letters = ap length w.reads in
      (omega (arith, w.ends, l, length-take end after), omega (arith, w.ends, l))

-- ---- bytes copied over a part of a text

pub put-copied : (text : List ℕ) (at n : ℕ) (bytes own : List ℕ) → own ≡ bytes → at + length bytes ≤ length text
    → Written text at (put_mid at n text own) (at + length bytes) (length bytes) bytes
put-copied text at n bytes own e h =
    rw e (record { ends = refl; fits = omega arith; reads = take-put_mid at n text bytes (at + length bytes) refl (omega arith) })
