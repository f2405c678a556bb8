-- What a reader gave in several steps.
use Rattle.sand_text.proofs.Common.{◌≡◌, ℕ, ◌+◌, List, length, length-append, append-nil, arith, drop-append_seam, nil_from_length, Option, Result, IfErr, Consumes, IsAtEnd, Consumes-trans, usual}
use Rattle.sand_text.specs.Flow.{GivesAll, IsFurther}

gave : (a c : Option (List ℕ)) (bytes : List ℕ) → Consumes a c bytes → IsFurther a c (length bytes)
gave a c bytes h = grind (arith, usual, drop-append_seam, length-append)

-- two steps with n bytes together
pub further : (a b c : Option (List ℕ)) (xs ys : List ℕ) (n : ℕ) → Consumes a b xs
    → Consumes b c ys → length xs + length ys ≡ n → IsFurther a c n
further a b c xs ys n p q e = grind (arith, usual, length-append, gave, Consumes-trans)

pub all_given : (a b c : Option (List ℕ)) (xs ys : List ℕ) → Consumes a b xs
    → Consumes b c ys → length ys ≡ 0 → IsAtEnd c → GivesAll a c xs
all_given a b c xs ys p q none end = grind (arith, usual, nil_from_length, append-nil)

pub any_fault : {T E : Type 0} (r : Result T E) (P : E → Type 0) → ((e : E) → P e) → IfErr r P
any_fault r P h = grind (arith, usual)
