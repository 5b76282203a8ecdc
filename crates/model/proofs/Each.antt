-- What holds of each pair of a sequence: of the same pairs with less asked, and of one pair more.
use mathlib.Core.List.{List, [], ◌∷◌, ◌++◌}
use Rattle.model.specs.Legal.{Pair, Each}

pub each_map : {P Q : Pair → Type 0} → ((p : Pair) → P p → Q p) → (l : List Pair) → Each P l → Each Q l
each_map f [] h = tt
each_map f (p ∷ l) (h, hs) = (f p h, each_map f l hs)

pub each_snoc : (P : Pair → Type 0) (l : List Pair) (n : Pair) → Each P l → P n → Each P (l ++ (n ∷ []))
each_snoc P [] n h g = (g, tt)
each_snoc P (p ∷ l) n (h, hs) g = (h, each_snoc P l n hs g)
