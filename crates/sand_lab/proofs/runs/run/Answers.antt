use Rattle.sand_lab.proofs.Common.{ℕ, ◌+◌, ◌*◌, ◌<◌, ap, ap₂, arith, refl, sum, sym, ◌∙◌, most_grains_on, Wish, all_drops}
use Rattle.sand_lab.proofs.runs.run.Goals as goal

pub run_all-requires-clause-places : goal.run_all-requires-clause-places
run_all-requires-clause-places g c κs bounds = sym c.places.ensures ∙ c.if-places-wish.false

pub returns-then-quota_of-from-clause-grains : goal.returns-then-quota_of-from-clause-grains
returns-then-quota_of-from-clause-grains g c =
    let wish = c.wish-wish.ensures.value in
    let places = sym c.places.ensures ∙ c.if-places-wish.false ∙ ap (λ (w : Wish). w.epochs) wish in
    let drops = ap₂ (λ (m n : ℕ). m * n) c.quota_of.ensures c.from.ensures ∙ ap all_drops wish in
    let over : most_grains_on c.args.start.now.grid < sum c.args.start.now.heights + all_drops c.args.plan.now =
    omega (
      arith,
      c.if-quota_of-from.true,
      drops,
      c.grain_limit.ensures.value,
      ap most_grains_on c.shape.ensures.value,
      c.grains.ensures.value,
      c.grains.ensures.pile.limit,
    ) in
    (λ _. (places, over), λ _. refl)
