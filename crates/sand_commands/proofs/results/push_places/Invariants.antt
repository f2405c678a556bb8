use Rattle.sand_commands.proofs.Common.{◌≡◌, ◌++◌, take, flat_map}
use Rattle.sand_commands.specs.Results.{place_text}
use Rattle.sand_commands.proofs.results.push_places.Given as goal

abbrev pub invariant-loop-site : goal.invariant-loop-site
invariant-loop-site l = l.text.items ≡ l.fn.text.items ++ flat_map (place_text l.shape) (take l.site-index l.list)
