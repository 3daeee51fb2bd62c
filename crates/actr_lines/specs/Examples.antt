-- The definition of the text, computed.
use Rattle.std.specs.Prelude.{◌≡◌, refl, [], ◌∷◌}
use Rattle.meaning.specs.Print.{printed}
use Rattle.meaning.specs.Examples.{model_a, everything}
use Rattle.actr_lines.specs.Text.{decimal, text}

-- 0, 9, 10, 999
pub numbers : decimal 0 ∷ decimal 9 ∷ decimal 10 ∷ decimal 999 ∷ [] ≡ (48 ∷ []) ∷ (57 ∷ []) ∷ (49 ∷ 48 ∷ []) ∷ (57 ∷ 57 ∷ 57 ∷ []) ∷ []
unfolding decimal
numbers = refl

-- "The whole output" of model A: 50 fire 0, 150 wait 100, 200 fire 1, 300 wait 100, 350 fire 1, 400 fire 2, 550 wait 150, end 9 7
pub whole-output : text (printed model_a)
    ≡ 53 ∷ 48 ∷ 32 ∷ 102 ∷ 105 ∷ 114 ∷ 101 ∷ 32 ∷ 48 ∷ 10
    ∷ 49 ∷ 53 ∷ 48 ∷ 32 ∷ 119 ∷ 97 ∷ 105 ∷ 116 ∷ 32 ∷ 49 ∷ 48 ∷ 48 ∷ 10
    ∷ 50 ∷ 48 ∷ 48 ∷ 32 ∷ 102 ∷ 105 ∷ 114 ∷ 101 ∷ 32 ∷ 49 ∷ 10
    ∷ 51 ∷ 48 ∷ 48 ∷ 32 ∷ 119 ∷ 97 ∷ 105 ∷ 116 ∷ 32 ∷ 49 ∷ 48 ∷ 48 ∷ 10
    ∷ 51 ∷ 53 ∷ 48 ∷ 32 ∷ 102 ∷ 105 ∷ 114 ∷ 101 ∷ 32 ∷ 49 ∷ 10
    ∷ 52 ∷ 48 ∷ 48 ∷ 32 ∷ 102 ∷ 105 ∷ 114 ∷ 101 ∷ 32 ∷ 50 ∷ 10
    ∷ 53 ∷ 53 ∷ 48 ∷ 32 ∷ 119 ∷ 97 ∷ 105 ∷ 116 ∷ 32 ∷ 49 ∷ 53 ∷ 48 ∷ 10
    ∷ 101 ∷ 110 ∷ 100 ∷ 32 ∷ 57 ∷ 32 ∷ 55 ∷ 10 ∷ []
unfolding text decimal everything model_a
whole-output = refl
