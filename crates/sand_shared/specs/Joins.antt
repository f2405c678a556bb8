-- What becomes of a list of passes that are joined to one, if one of them cannot be joined.
use Rattle.std.specs.Prelude.{◌≡◌, ◌↔◌, List, ◌∷◌, ◌++◌}
use Rattle.sand_shared.specs.declared.faults.JoinFault.{JoinFault}
use Rattle.sand_shared.specs.declared.faults.JoinFault.TheVariants.{Apart}
use Rattle.sand_shared.specs.Passes.{PassView, together_all}
use Rattle.sand_shared.specs.Rows.{AreApart}

-- the first passes of a list are joined to p, in order, which gives q; the next one was refused, and it and the others
-- come back in order
pub record StopsAt (p : PassView) (passes : List PassView) (fault : JoinFault) (q : PassView) (back : List PassView) : Type 0 where
  pub joined : List PassView
  pub refused : PassView
  pub others : List PassView
  pub all : passes ≡ joined ++ back
  pub in_order : back ≡ refused ∷ others
  pub together : q ≡ together_all p joined
  pub apart : (fault ≡ Apart) ↔ AreApart q.rows refused.rows
