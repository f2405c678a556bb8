-- If no two arguments share an id, each argument is the only one with its id.
use Rattle.sand_cli.proofs.Common.{common_steps, arith, ◌≡◌, Bool, true, not, ◌&&◌, List, [], ◌∷◌, refl, bytes_eq, bytes_eq-Decides, Text, both}
use Rattle.std.specs.List.{list_all}
use Rattle.clap.specs.Words.{Rule}
use Rattle.sand_cli.proofs.Each.{Each, each_both}

-- no argument has the id
abbrev lacks : Text → List Rule → Bool
lacks id c = list_all (λ b. not (bytes_eq b.id id)) c

-- no two arguments share an id
abbrev pub are_apart : List Rule → Bool
are_apart [] = true
are_apart (a ∷ c) = lacks a.id c && are_apart c

-- each argument with the id of `a` is `a`
abbrev pub IsAlone : List Rule → Rule → Type 0
IsAlone c a = Each (λ b. bytes_eq b.id a.id ≡ true → b ≡ a) c

refused : {A : Type 0} (b : Bool) → not b ≡ true → b ≡ true → A
refused b n e = grind (arith, common_steps)

-- `a` is alone among arguments that lack its id
none_is : (a : Rule) (c : List Rule) → lacks a.id c ≡ true → IsAlone c a
none_is a [] e = tt
none_is a (b ∷ c) e = grind (arith, common_steps, both, refused, none_is a c)

-- the same, seen from each of them
is_none : (a : Rule) (c : List Rule) → lacks a.id c ≡ true → Each (λ b. bytes_eq a.id b.id ≡ true → a ≡ b) c
is_none a [] e = tt
is_none a (b ∷ c) e = grind (arith, common_steps, both, refused, bytes_eq-Decides, is_none a c)

pub each_alone : (c : List Rule) → are_apart c ≡ true → Each (IsAlone c) c
each_alone [] e = tt
each_alone (a ∷ c) e =
    let parts = both (lacks a.id c) _ e in
    (((λ same. refl), none_is a c parts.0), each_both _ _ c (is_none a c parts.0) (each_alone c parts.1))
