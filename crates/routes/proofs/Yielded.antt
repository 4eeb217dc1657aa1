-- What an array gives when it is gone over. Assumes nothing.
use Rattle.std.proofs.Common.{◌≡◌, ℕ, List}
use Rattle.std.proofs.lemmas.Iterator.{YieldsList}
use Rattle.std.proofs.lemmas.Iterator.Consumers.{YieldsList-from_shown}
use Rattle.std.specs.Array.Iter.{array_into_iter_items, array_steps}
use Rattle.std.specs.declared.array.IntoIter.{IntoIter}

pub from_array : {A : Type 0} {n : ℕ} (j : IntoIter A n) (xs : List A) → array_into_iter_items j ≡ xs → YieldsList (array_steps {A = A} {n = n}) (λ x. x) j xs
from_array j xs e = rw e at (YieldsList-from_shown array_steps (λ x. x) array_into_iter_items (λ s t h. h.0) (λ s x t h. h) j)
