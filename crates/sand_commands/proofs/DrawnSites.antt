-- The sites of a draw, read one by one.
use Rattle.sand_commands.proofs.Common.{common_steps, ◌≡◌, ◌∙◌, ◌+◌, ◌<◌, ◌≤◌, ℕ, zero, suc, [], ◌∷◌, ◌++◌, All, length, drop, refl, sym, ap, subst, arith, append_assoc, append-nil, drop-append-le, drop_all, length-drop, All-drop, All-nil, All-push, site_at, stream_sites}
use Rattle.std.proofs.Math.Nat.{mod-lt}
use Rattle.sand_streams.proofs.StreamLengths.{length-stream_sites}

module _ (sites seed stream : ℕ) where
  -- the sites of the first k words are those of the first a, then the rest
  sites_split : (a b k : ℕ) → a + b ≡ k
      → stream_sites sites seed stream k ≡ stream_sites sites seed stream a ++ drop a (stream_sites sites seed stream k)
  sites_split a zero k e =
      let P : ℕ → Type 0 = λ n. stream_sites sites seed stream n
      ≡ stream_sites sites seed stream a ++ drop a (stream_sites sites seed stream n) in
      let same : a ≡ k = omega (arith, e) in
      let long = length-stream_sites sites seed stream a in
      let none : drop a (stream_sites sites seed stream a) ≡ [] =
      drop_all a (stream_sites sites seed stream a) (omega (arith, long)) in
      subst P same (sym (append-nil (stream_sites sites seed stream a))
      ∙ ap (λ l. stream_sites sites seed stream a ++ l) (sym none))
  sites_split a (suc b) k e =
      let P : ℕ → Type 0 = λ n. stream_sites sites seed stream n
      ≡ stream_sites sites seed stream a ++ drop a (stream_sites sites seed stream n) in
      let next : suc (a + b) ≡ k = omega (arith, e) in
      let all = stream_sites sites seed stream (a + b) in
      let site = site_at sites seed stream (a + b) in
      let long = length-stream_sites sites seed stream (a + b) in
      let grown : all ++ site ∷ [] ≡ stream_sites sites seed stream a ++ drop a (all ++ site ∷ []) =
      ap (λ l. l ++ site ∷ []) (sites_split a b (a + b) refl)
      ∙ append_assoc (stream_sites sites seed stream a) (drop a all) (site ∷ [])
      ∙ ap (λ l. stream_sites sites seed stream a ++ l)
      (sym (drop-append-le a all (site ∷ []) (omega (arith, long)))) in
      subst P next grown

  -- a draw is its beginning, then the rest
  pub drawn_split : (from a b k : ℕ) → from ≤ a → a + b ≡ k
      → drop from (stream_sites sites seed stream k)
      ≡ drop from (stream_sites sites seed stream a) ++ drop a (stream_sites sites seed stream k)
  drawn_split from a b k low e =
      let long = length-stream_sites sites seed stream a in
      ap (drop from) (sites_split a b k e) ∙ drop-append-le from (stream_sites sites seed stream a)
      (drop a (stream_sites sites seed stream k)) (omega (arith, long, low))

  pub length-drawn : (from n k : ℕ) → from + n ≡ k → length (drop from (stream_sites sites seed stream k)) ≡ n
  length-drawn from n k e = grind (arith, common_steps, length-stream_sites, length-drop)

  pub drawn_none : (from : ℕ) → drop from (stream_sites sites seed stream (from + 0)) ≡ []
  drawn_none from = grind (arith, common_steps, length-stream_sites, drop_all)

  pub drawn_more : (from n site : ℕ) → site ≡ site_at sites seed stream (from + n)
      → drop from (stream_sites sites seed stream (from + (n + 1)))
      ≡ drop from (stream_sites sites seed stream (from + n)) ++ site ∷ []
  drawn_more from n site is =
      let next : from + (n + 1) ≡ suc (from + n) = omega arith in
      let long = length-stream_sites sites seed stream (from + n) in
      ap (λ k. drop from (stream_sites sites seed stream k)) next
      ∙ drop-append-le from (stream_sites sites seed stream (from + n))
      (site_at sites seed stream (from + n) ∷ []) (omega (arith, long))
      ∙ ap (λ s. drop from (stream_sites sites seed stream (from + n)) ++ s ∷ []) (sym is)

  -- all sites are inside the grid
  sites_inside : 0 < sites → (k : ℕ) → All (λ j. j < sites) (stream_sites sites seed stream k)
  sites_inside some zero = All-nil (λ j. j < sites)
  sites_inside some (suc k) = grind (arith, common_steps, All-push, mod-lt, (sites_inside some k))

  pub drawn_inside : 0 < sites → (from k : ℕ) → All (λ j. j < sites) (drop from (stream_sites sites seed stream k))
  drawn_inside some from k = All-drop (λ j. j < sites) from (stream_sites sites seed stream k) (sites_inside some k)
