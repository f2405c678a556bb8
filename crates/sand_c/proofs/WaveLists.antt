-- The list of waves: one wave more, and those of one drop more.
use Rattle.sand_c.proofs.Common.{◌≡◌, ◌+◌, ◌<◌, ◌≤◌, ℕ, suc, List, [], ◌∷◌, ◌++◌, length, take, set, get_or, refl, sym, ◌∙◌, ap, ap₂, arith, take-add, length-take-le, take_more, drop_more, set_at, take_at, drop_at, drop-drop, append_assoc, sites, most_to_edge, Avalanche, DrivenView, grid_of_driven, waves_from, AreWavesOf, AreWaves}
use Rattle.std.proofs.Common.{drop}
use Rattle.sand_model.proofs.Edges.{none_farther}
use Rattle.sand_fronts.proofs.WaveSizes.{written_whole}
use Rattle.std.proofs.lemmas.List.{flat_map_more}
use Rattle.sand_settle.proofs.Drops.{drops_push}
use Rattle.sand_settle.specs.Waves.{HasDropped, HasDroppedInWaves}
use Rattle.sand_c.specs.declared.waves.SandpileWave.{SandpileWave}

abbrev wave_is : ℕ → ℕ → ℕ → SandpileWave
wave_is n k size = record { number = n; wave = k; size = size }

one_each : (n k : ℕ) (sizes : List ℕ) → length (waves_from n k sizes) ≡ length sizes
one_each n k [] = refl
one_each n k (x ∷ xs) = ap suc (one_each n (k + 1) xs)

waves_push : (n k : ℕ) (sizes : List ℕ) (size : ℕ)
    → waves_from n k (sizes ++ size ∷ []) ≡ waves_from n k sizes ++ wave_is n (k + length sizes) size ∷ []
waves_push n k [] size = let same : k ≡ k + 0 = omega arith in ap (λ j. wave_is n j size ∷ []) same
waves_push n k (x ∷ xs) size =
    let same : k + 1 + length xs ≡ k + suc (length xs) = omega arith in
    ap (λ l. wave_is n k x ∷ l) (waves_push n (k + 1) xs size
    ∙ ap (λ j. waves_from n (k + 1) xs ++ wave_is n j size ∷ []) same)

-- the next wave is written after those before it
pub write_more : (n i : ℕ) (sizes : List ℕ) (before now : List SandpileWave) → i < length sizes → length sizes ≤ length before
    → now ≡ waves_from n 0 (take i sizes) ++ drop i before
    → set now i (wave_is n i (get_or sizes i 0)) ≡ waves_from n 0 (take (i + 1) sizes) ++ drop (i + 1) before
write_more n i sizes before now next room is =
    let done : List SandpileWave = waves_from n 0 (take i sizes) in
    let rest : List SandpileWave = drop (i + 1) before in
    let size : ℕ = get_or sizes i 0 in
    let wave : SandpileWave = wave_is n i size in
    let so_far : length (take i sizes) ≡ i = length-take-le i sizes (omega arith) in
    let place : 0 + length (take i sizes) ≡ i = omega (arith, so_far) in
    let more : waves_from n 0 (take (i + 1) sizes) ≡ done ++ wave ∷ [] =
    ap (waves_from n 0) (take_more sizes i 0 next) ∙ waves_push n 0 (take i sizes) size
    ∙ ap (λ j. done ++ wave_is n j size ∷ []) place in
    ap (λ l. set l i wave) (is ∙ ap (λ l. done ++ l) (drop_more before i wave (omega arith)))
    ∙ set_at done (get_or before i wave) rest wave i (one_each n 0 (take i sizes) ∙ so_far)
    ∙ sym (append_assoc done (wave ∷ []) rest)
    ∙ ap (λ l. l ++ rest) (sym more)

-- a list begins with the n waves of a drop, and the rest of it stays
pub record IsWritten (v : DrivenView) (site n : ℕ) (before after : List SandpileWave) (w : DrivenView) : Type 0 where
  pub waves : AreWavesOf v site (take n after) w
  pub rest : drop n after ≡ drop n before

-- a drop has few waves, so all their sizes are written
module _ {v w : DrivenView} {site n : ℕ} {a : Avalanche} {before after : List ℕ}
    (has : HasDroppedInWaves v site n a before after w) (inside : site < sites (grid_of_driven v)) where
  pub few_waves : n ≤ most_to_edge (grid_of_driven v)
  few_waves = omega (arith, has.few, none_farther (grid_of_driven v) site inside)

  module _ (room : most_to_edge (grid_of_driven v) ≤ length before) where
    pub sizes_each : length (take n after) ≡ n
    sizes_each = length-take-le n after (omega (arith, has.waves.written.len, few_waves, room))

    pub is_written : {number : ℕ} {waves now : List SandpileWave} → HasDropped v site number a w
        → now ≡ waves_from number 0 (take n after) ++ drop (length (take n after)) waves → IsWritten v site n waves now w
    is_written {number} {waves} {now} dropped is =
        let first : List SandpileWave = waves_from v.number 0 (take n after) in
        let long : length first ≡ n = one_each v.number 0 (take n after) ∙ sizes_each in
        let parts : now ≡ first ++ drop n waves =
        is ∙ ap₂ (λ k m. waves_from k 0 (take n after) ++ drop m waves) dropped.number sizes_each in
        let all : take n after ≡ has.waves.sizes = ap (λ k. take k after) (sym has.waves.each)
        ∙ written_whole has.waves.written (omega (arith, has.waves.each, few_waves, room)) in
        record {
          waves = record {
            drops = dropped.drops.drops;
            sizes = has.waves.sizes;
            lead = has.waves.lead;
            waves_are = ap (take n) parts ∙ take_at first (drop n waves) n long ∙ ap (waves_from v.number 0) all;
          };
          rest = ap (drop n) parts ∙ drop_at first (drop n waves) n long;
        }

-- the list, with the waves of one drop more
pub waves_more : (v u w : DrivenView) (drops : List ℕ) (waves : List SandpileWave) (site : ℕ) (last : List SandpileWave)
    → AreWaves v drops waves u → AreWavesOf u site last w → AreWaves v (drops ++ site ∷ []) (waves ++ last) w
waves_more v u w drops waves site last so_far is = record {
  each = so_far.each ++ last ∷ [];
  dropped = drops_push AreWavesOf v u w drops so_far.each site last so_far.dropped is;
  waves_are = ap (λ l. l ++ last) so_far.waves_are
      ∙ flat_map_more (λ (those : List SandpileWave). those) [] so_far.each last;
}

-- what a list begins with, and what is behind that, if its end is written to
module _ (front rest : List SandpileWave) (n k : ℕ) (len : length front ≡ n) where
  pub take_on : take (n + k) (front ++ rest) ≡ front ++ take k rest
  take_on = take-add n k (front ++ rest) ∙ ap₂ (λ p q. p ++ take k q) (take_at front rest n len) (drop_at front rest n len)

  pub drop_on : drop (n + k) (front ++ rest) ≡ drop k rest
  drop_on = sym (drop-drop k n (front ++ rest)) ∙ ap (drop k) (drop_at front rest n len)
