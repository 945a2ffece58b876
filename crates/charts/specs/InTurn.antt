-- Causes that are tested for one number after the other. Assumes nothing.
--   in_turn   the causes of 0, then those of 1, and so on, of each number below k
use Rattle.std.specs.Prelude.{ℕ, zero, suc, List, [], ◌++◌}
use Rattle.refusals.specs.Refusals.{Cause}

unfoldable pub in_turn : (ℕ → List Cause) → ℕ → List Cause
in_turn g zero = []
in_turn g (suc k) = in_turn g k ++ g k
