-- The passes of a list are joined to one, in order: taken from the end of the reversed list.
use Rattle.sand_shared.proofs.Common.{◌≡◌, ◌↔◌, List, [], ◌∷◌, ◌++◌, reverse, refl, sym, ap, ◌∙◌, append-nil, reverse-append, reverse-reverse, PassView, together, together_all, AreApart}
use Rattle.std.proofs.Common.{append_assoc}
use Rattle.sand_shared.specs.declared.faults.JoinFault.{JoinFault}
use Rattle.sand_shared.specs.declared.faults.JoinFault.TheVariants.{Apart}
use Rattle.sand_shared.specs.Joins.{StopsAt}

together_all-push : (p : PassView) (qs : List PassView) (x : PassView)
    → together_all p (qs ++ x ∷ []) ≡ together (together_all p qs) x
together_all-push p [] x = refl
together_all-push p (q ∷ qs) x = together_all-push (together p q) qs x

-- the first passes of the list are joined to p, which gives q; the others are left, in reverse order
pub record IsJoining (p : PassView) (passes : List PassView) (q : PassView) (left : List PassView) : Type 0 where
  pub joined : List PassView
  pub all : passes ≡ joined ++ reverse left
  pub together : q ≡ together_all p joined

module _ (p : PassView) (passes : List PassView) where
  pub none_joined : IsJoining p passes p (reverse passes)
  none_joined = record { joined = []; all = sym (reverse-reverse passes); together = refl }

  module _ (q x : PassView) (left : List PassView) (so_far : IsJoining p passes q (left ++ x ∷ [])) where
    -- the last of the passes that are left comes next
    next_first : passes ≡ so_far.joined ++ x ∷ reverse left
    next_first = so_far.all ∙ ap (λ l. so_far.joined ++ l) (reverse-append left (x ∷ []))

    pub one_more_joined : IsJoining p passes (together q x) left
    one_more_joined = record {
      joined = so_far.joined ++ x ∷ [];
      all = next_first ∙ sym (append_assoc so_far.joined (x ∷ []) (reverse left));
      together = ap (λ r. together r x) so_far.together ∙ sym (together_all-push p so_far.joined x);
    }

    pub stops_at : (fault : JoinFault) → (fault ≡ Apart) ↔ AreApart q.rows x.rows
        → StopsAt p passes fault q (reverse (left ++ x ∷ []))
    stops_at fault apart = record {
      joined = so_far.joined;
      refused = x;
      others = reverse left;
      all = so_far.all;
      in_order = reverse-append left (x ∷ []);
      together = so_far.together;
      apart = apart;
    }

  pub all_joined : (q : PassView) → IsJoining p passes q [] → q ≡ together_all p passes
  all_joined q so_far =
      so_far.together ∙ ap (together_all p) (sym (so_far.all ∙ append-nil so_far.joined))
