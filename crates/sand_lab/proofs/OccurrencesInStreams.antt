-- Receipts in parts, one part for each stream, are for each site as many as the streams together have of it.
use Rattle.sand_lab.proofs.Common.{ℕ, zero, suc, ◌≡◌, ◌≤◌, List, [], take, length, get_or, refl, sym, ap, ◌∙◌, arith, flat_map_more, take_all, slice_get-get_or, occurrences, one_at, Receipt, receipts_for, EachAt, flattened, receipt_sites}
use Rattle.std.proofs.Math.Seq.{take-suc}
use Rattle.sand_model.specs.Sand.{sum_below}
use Rattle.sand_shared.proofs.Receipts.{receipts_for-append}
use Rattle.sand_shared.proofs.SumsOverPasses.{sum_by-map}

module _ (i : ℕ) (stream : ℕ → List ℕ) (parts : List (List Receipt))
    (each : EachAt (λ k part. receipt_sites part ≡ stream k) parts) where
  first_by_site : (k : ℕ) → k ≤ length parts
      → receipts_for (flattened (take k parts)) i ≡ sum_below k (λ j. occurrences (stream j) i)
  unfolding sum_below
  first_by_site zero few = refl
  first_by_site (suc k) few =
      let part = get_or parts k [] in
      let one_more = ap flattened (take-suc parts k [] few) ∙ sym (flat_map_more (λ (p : List Receipt). p) [] (take k parts) part) in
      let cut = ap (λ (rs : List Receipt). receipts_for rs i) one_more in
      let both = receipts_for-append (flattened (take k parts)) part i in
      let its = sum_by-map (λ j. one_at j i) (λ (r : Receipt). r.site) part in
      let here = ap (λ (xs : List ℕ). occurrences xs i) (each k part (slice_get-get_or parts k [] (omega arith))) in
      let rest = first_by_site k (omega arith) in omega arith

  pub parts_by_site : receipts_for (flattened parts) i ≡ sum_below (length parts) (λ k. occurrences (stream k) i)
  parts_by_site =
      ap (λ (ps : List (List Receipt)). receipts_for (flattened ps) i)
      (sym (take_all (length parts) parts (omega arith))) ∙ first_by_site (length parts) (omega arith)
