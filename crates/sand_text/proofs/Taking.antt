-- One more element taken from the front of a list.
use Rattle.sand_text.proofs.Common.{◌≡◌, ◌<◌, ℕ, suc, ◌+◌, List, [], ◌∷◌, ◌++◌, take, drop, length, get_or, ap, arith, length-drop, drop-cons, take_more, usual}

pub next_of : (ns rest : List ℕ) (k v : ℕ) → drop k ns ≡ v ∷ rest
    → (k < length ns) × (get_or ns k 0 ≡ v) × (drop (k + 1) ns ≡ rest)
next_of ns rest k v e =
    let lt : k < length ns = omega (arith, length-drop k ns, ap length e) in
    let first = drop-cons ns k 0 lt in
    let one : k + 1 ≡ suc k = omega arith in
    let places : drop (k + 1) ns ≡ drop (suc k) ns = ap (λ n. drop n ns) one in
    (lt, cc, cc)

pub one_more : (ns rest taken more : List ℕ) (k v : ℕ) → drop k ns ≡ v ∷ rest
    → taken ≡ take k ns → more ≡ taken ++ v ∷ [] → more ≡ take (k + 1) ns
one_more ns rest taken more k v e so_far grown = grind (arith, usual, next_of, take_more)
