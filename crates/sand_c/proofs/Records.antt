-- The settled records of several piles, one after another.
use Rattle.sand_c.proofs.Common.{◌≡◌, ◌∙◌, ◌+◌, ℕ, List, [], ◌∷◌, ◌++◌, length, ap, sym, arith, inl, inr, slice_index, slice_chunk, cases_lt, length_push, Grid, sites, SettledView, IsSettledRecord, AreRecords}
use Rattle.sand_settle.proofs.Records.{same_record}
use Rattle.sand_c.specs.declared.settling.SettledPiles.{SettledPiles}
use Rattle.sand_c.proofs.Chunks.{longer, chunk_before, chunk_last, number_before, number_last}

-- a settled pile was appended
pub record IsPushed (all : SettledPiles) (r : SettledView) (after : SettledPiles) : Type 0 where
  pub heights : after.heights.items ≡ all.heights.items ++ r.pile.heights
  pub odometer : after.odometer.items ≡ all.odometer.items ++ r.odometer
  pub lost : after.lost.items ≡ all.lost.items ++ r.lost ∷ []
  pub topplings : after.topplings.items ≡ all.topplings.items ++ r.topplings ∷ []

pub one_more : (g : Grid) (heights : List ℕ) (k : ℕ) (all after : SettledPiles) (r : SettledView)
    → AreRecords g heights k all → IsSettledRecord g (slice_index (slice_chunk heights (sites g) k)) r → IsPushed all r after
    → AreRecords g heights (k + 1) after
one_more g heights k all after r are is pushed =
    let n = sites g in
    record {
      heights_each = longer k all.heights.items n _ _ are.heights_each is.heights_each pushed.heights;
      odometer_each = longer k all.odometer.items n _ _ are.odometer_each is.odometer_each pushed.odometer;
      lost_each = ap length pushed.lost ∙ length_push all.lost.items r.lost ∙ ap (λ l. l + 1) are.lost_each;
      topplings_each = ap length pushed.topplings ∙ length_push all.topplings.items r.topplings
          ∙ ap (λ l. l + 1) are.topplings_each;
      records = λ j lt. elim (cases_lt j k) [
        | inl earlier ↦ same_record g _ _ _ _ _ _ (are.records j earlier)
            (chunk_before k all.heights.items n j _ _ are.heights_each pushed.heights earlier)
            (chunk_before k all.odometer.items n j _ _ are.odometer_each pushed.odometer earlier)
            (number_before k all.topplings.items j _ _ are.topplings_each pushed.topplings earlier)
            (number_before k all.lost.items j _ _ are.lost_each pushed.lost earlier)
        | inr latest ↦
            let e : k ≡ j = omega arith in
            rw (sym e) (same_record g _ r _ _ _ _ is
            (chunk_last k all.heights.items n _ _ are.heights_each is.heights_each pushed.heights)
            (chunk_last k all.odometer.items n _ _ are.odometer_each is.odometer_each pushed.odometer)
            (number_last k all.topplings.items _ _ are.topplings_each pushed.topplings)
            (number_last k all.lost.items _ _ are.lost_each pushed.lost))
      ];
    }
