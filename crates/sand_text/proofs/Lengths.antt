-- A text has no more numbers than bytes.
use Rattle.sand_text.proofs.Common.{ℕ, suc, ◌≤◌, List, ◌∷◌, length, length-append, arith, Token, token_of, tokens_at, numbers, usual}
use Rattle.sand_text.proofs.Cuts.{by_tokens}

one_more : (w : Token) (ws : List Token) → length (numbers (w ∷ ws)) ≤ suc (length (numbers ws))
one_more w ws = grind (arith, usual)

pub few_numbers : (at : ℕ) (bs : List ℕ) → length (numbers (tokens_at at bs)) ≤ length bs
few_numbers = by_tokens (λ at bs ws. length (numbers ws) ≤ length bs)
    (λ at. omega arith)
    (λ at x xs ws e few. omega (arith, few))
    (λ at w r ws is few. omega (arith, few, is.some, one_more (token_of at w) ws, length-append w r))
