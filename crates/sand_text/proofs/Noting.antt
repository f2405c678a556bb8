-- One more number after the sides of a text: a height, or the site of a drop.
use Rattle.sand_text.proofs.Common.{◌≡◌, ℕ, ◌+◌, ◌-◌, ◌<◌, ◌≤◌, not, List, [], ◌∷◌, ◌++◌, Bool, length, take, drop, get_or, eqb, cond, refl, arith, length-drop, Option, Some, None, nat_lt, nat_le, sum, if◌then◌else◌, position, position_or_len, cases_lt, get_or-drop, take_all, drop_all, take-append-le, drop-append-le, length_push, take_more, length-take-le, sum_by_push, prefix_len-le-length, position_or_len_push, option_or, Token, capped, numbers, noted, usual}

pub sum_push : (room value g : ℕ) (ns : List ℕ) → g ≡ capped (sum (take room ns))
    → (if nat_lt (length ns) room then capped (g + value) else g) ≡ capped (sum (take room (ns ++ value ∷ [])))
sum_push room value g ns h = grind (arith, usual, cases_lt, take_all, length_push, sum_by_push, take-append-le)

-- the first index that passes a test, if none before the last does
found_last : (b : Bool) (count next more : ℕ) → next ≡ count + cond b 0 1 → more ≡ count + 1
    → cond (nat_lt next more) (Some next) None ≡ (if b then Some count else None)
found_last b count next more is len = grind (arith, usual)

-- the first index that passes a test
found_push : (b : Bool) (first count next more : ℕ) → first ≤ count
    → next ≡ cond (eqb first count) (count + cond b 0 1) first → more ≡ count + 1
    → cond (nat_lt next more) (Some next) None
    ≡ option_or (cond (nat_lt first count) (Some first) None) (if b then Some count else None)
found_push b first count next more le is len = grind (arith, usual, cases_lt, found_last)

position_push : (p : ℕ → Bool) (ns : List ℕ) (y : ℕ)
    → position p (ns ++ y ∷ []) ≡ option_or (position p ns) (if p y then Some (length ns) else None)
position_push p ns y = found_push (p y) (position_or_len p ns) (length ns) (position_or_len p (ns ++ y ∷ []))
    (length (ns ++ y ∷ [])) (prefix_len-le-length (λ x. not (p x)) ns) (position_or_len_push p ns y) (length_push ns y)

-- the first drop outside the grid
pub no_site_push : (room value : ℕ) (a : Option ℕ) (ns : List ℕ)
    → a ≡ position (nat_le room) (drop room ns) → option_or a
    (if nat_lt (length ns) room then None else (if nat_le room value then Some (length ns - room) else None))
    ≡ position (nat_le room) (drop room (ns ++ value ∷ []))
no_site_push room value a ns h =
    grind (arith, usual, cases_lt, drop_all, length_push, drop-append-le, length-drop, position_push)

pub noted-next : (ws : List Token) (k v : ℕ) → 2 ≤ k → k < length (numbers ws) → get_or (numbers ws) k 0 ≡ v
    → noted (k + 1) ws ≡ noted k ws ++ v ∷ []
noted-next ws k v le lt is = grind (arith, usual, get_or-drop, take_more, length-drop)

pub length-noted : (ws : List Token) (k : ℕ) → k ≤ length (numbers ws) → length (noted k ws) ≡ k - 2
length-noted ws k le = length-take-le (k - 2) (drop 2 (numbers ws)) (omega (arith, length-drop 2 (numbers ws)))

pub noted-none : (ws : List Token) (k : ℕ) → k ≤ 2 → noted k ws ≡ []
noted-none ws k le = let e : k - 2 ≡ 0 = omega arith in rw e refl
