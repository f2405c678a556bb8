-- Writing a line for each item of a list, one after another.
use Rattle.sand_text.proofs.Common.{◌≡◌, ℕ, ◌+◌, ◌<◌, ◌≤◌, List, [], ◌∷◌, ◌++◌, length, take, get_or, map, refl, ap, sym, ◌∙◌, arith, append_assoc, append-nil, take_all, take_more, length-take, usual}
use Rattle.sand_text.specs.Runs.{lines_from}

-- the line of one more item follows the lines of a list
pub lines_from-more : {A : Type 0} (line : ℕ → A → List ℕ) (n : ℕ) (xs : List A) (x : A)
    → lines_from line n (xs ++ x ∷ []) ≡ lines_from line n xs ++ line (n + length xs) x
unfolding lines_from
lines_from-more line n [] x = grind (arith, usual, append-nil)
lines_from-more line n (y ∷ ys) x = grind (arith, usual, append_assoc, lines_from-more line (n + 1) ys x)

pub lines_from-map : {A B : Type 0} (f : A → B) (line : ℕ → B → List ℕ) (n : ℕ) (xs : List A)
    → lines_from line n (map f xs) ≡ lines_from (λ k x. line k (f x)) n xs
unfolding lines_from
lines_from-map f line n [] = refl
lines_from-map f line n (x ∷ xs) = ap (λ t. line n (f x) ++ t) (lines_from-map f line (n + 1) xs)

pub no_line : {A : Type 0} (line : ℕ → A → List ℕ) (xs : List A) (start : List ℕ)
    → start ≡ start ++ lines_from line 0 (take 0 xs)
unfolding lines_from
no_line line xs start = sym (append-nil start)

lines_from-take : {A : Type 0} (line : ℕ → A → List ℕ) (xs : List A) (k : ℕ) (d : A) → k < length xs
    → lines_from line 0 (take (k + 1) xs) ≡ lines_from line 0 (take k xs) ++ line k (get_or xs k d)
lines_from-take line xs k d lt = grind (arith, usual, length-take, take_more, lines_from-more)

-- a text after the line of item k is written
pub one_line_more : {A : Type 0} (line : ℕ → A → List ℕ) (xs : List A) (k : ℕ) (d : A) (start text more : List ℕ)
    → k < length xs → more ≡ text ++ line k (get_or xs k d)
    → text ≡ start ++ lines_from line 0 (take k xs)
    → more ≡ start ++ lines_from line 0 (take (k + 1) xs)
one_line_more line xs k d start text more lt grown so_far = grind (arith, usual, lines_from-take, append_assoc)

pub all_lines : {A : Type 0} (line : ℕ → A → List ℕ) (xs : List A) (k : ℕ) (start text : List ℕ)
    → length xs ≤ k → text ≡ start ++ lines_from line 0 (take k xs)
    → text ≡ start ++ lines_from line 0 xs
all_lines line xs k start text le so_far = so_far ∙ ap (λ ys. start ++ lines_from line 0 ys) (take_all k xs le)

-- every line of the mapped items is written
pub all_lines_of : {A B : Type 0} (f : A → B) (line : ℕ → B → List ℕ) (xs : List A) (k : ℕ) (start text : List ℕ)
    → length xs ≤ k → text ≡ start ++ lines_from (λ n x. line n (f x)) 0 (take k xs)
    → text ≡ start ++ lines_from line 0 (map f xs)
all_lines_of f line xs k start text le so_far = grind (arith, usual, all_lines, lines_from-map)
