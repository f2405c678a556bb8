use Rattle.sand_shared.proofs.Common.{rules, ◌≡◌, ℕ, List, [], ◌∷◌, sym, subst, opening, first_pass, IsRunning}
use Rattle.sand_shared.proofs.StepsAreEvents.{opens}
use Rattle.sand_shared.proofs.steps.Words.new.Goals as goal

pub of_words-requires : goal.of_words-requires
of_words-requires c =
    let t = c.args.terms in
    let words : c.as_slice.result.now ≡ 0 ∷ 0 ∷ t.start.heights = search rules in
    subst (λ (ws : List ℕ). IsRunning t (opening ws [] (first_pass t))) (sym words) (opens t c.requires)
