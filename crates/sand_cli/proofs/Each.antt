-- A property of each element of a list.
use Rattle.sand_cli.proofs.Common.{common_steps, arith, Bool, List, [], ◌∷◌, ◌++◌, IfSome, find}
use Rattle.std.specs.Prelude.{⊤}

abbrev pub Each : {X : Type 0} → (X → Type 0) → List X → Type 0
Each P [] = ⊤
Each P (x ∷ xs) = P x × Each P xs

pub each_append : {X : Type 0} (P : X → Type 0) (xs ys : List X) → Each P xs → Each P ys → Each P (xs ++ ys)
each_append P [] ys h k = k
each_append P (x ∷ xs) ys h k = (h.0, each_append P xs ys h.1 k)

pub each_both : {X : Type 0} (P Q : X → Type 0) (xs : List X) → Each P xs → Each Q xs → Each (λ x. P x × Q x) xs
each_both P Q [] h k = tt
each_both P Q (x ∷ xs) h k = ((h.0, k.0), each_both P Q xs h.1 k.1)

pub each_weaker : {X : Type 0} (P Q : X → Type 0) (xs : List X) → ((x : X) → P x → Q x) → Each P xs → Each Q xs
each_weaker P Q [] f h = tt
each_weaker P Q (x ∷ xs) f h = (f x h.0, each_weaker P Q xs f h.1)

-- a property of each element holds of the one that `find` returns
pub each_found : {X : Type 0} (test : X → Bool) (P : X → Type 0) (xs : List X) → Each P xs → IfSome (find test xs) P
each_found test P [] each = tt
each_found test P (x ∷ xs) each = grind (arith, common_steps, each_found test P xs each.1)

-- the property of the first element, and that of each other
infixr 5 ◌&◌
pub ◌&◌ : {A B : Type 0} → A → B → A × B
first & others = (first, others)
