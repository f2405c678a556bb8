-- The names that many proofs of this crate use, passed on from one place.
pub use Rattle.std.proofs.Common.{ℕ, ◌≡◌, ◌+◌, ◌-◌, ◌<◌, ◌≤◌, arith, ◌*◌, ◌/◌, ◌^◌, bit_and, bit_or, bit_xor, eqb, ◌%◌, refl, sym, ◌∙◌, ap, zero, suc, count_ones, true, [], ◌∷◌, slice_index, rules, length, get_or}
pub use Rattle.std.specs.Int.{w64, bit_not, bit_at}
pub use Rattle.std.proofs.lemmas.Nat.{and_le_l, or_disjoint, pow_pos, shr-shr, shr_split, ones_cat, mod-pow-add, le_or_l, and_mask, and_le_r, or_lt, le_or_r}
pub use Rattle.std.proofs.lemmas.Nat.Bits.{bit_at-zero, same_from_bits_below, bit_at-lt, bit_at_and, bit_at_or, bit_at_xor, bit_at_not, shr_and_one, bit_at_above, bit_at_cat_low, bit_at_cat_high}
pub use Rattle.std.proofs.lemmas.Bool.{agree_below_at, eqb-true, eqb-false, cases_eq}
pub use Rattle.sand_tiles.specs.Places.{around, bit, height, had, unused, since, IsReady, IsVisit, Calms, Visits}
