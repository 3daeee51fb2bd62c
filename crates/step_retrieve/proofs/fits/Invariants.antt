use mathlib.Core.Path.{◌≡◌}
use Prim.Native.Nat.{◌+◌}
use lib.ListN.{get_or}
use Rattle.step_retrieve.proofs.FitLaws.{fits_whole, fits_from}
use Rattle.step_retrieve.proofs.fits.Given as goal

abbrev pub invariant-loop-slot : goal.invariant-loop-slot
invariant-loop-slot l = fits_from l.facts l.f l.words l.q l.nine (get_or l.words (l.q + 2) 0) l.slot ≡ fits_whole l.facts l.f l.words l.q l.nine
