-- The avalanche of one drop and its waves, under names that the crates above can import.
pub use Rattle.sand_fronts.specs.declared.avalanche.Avalanche.{Avalanche}
pub use Rattle.sand_fronts.specs.Avalanches.{has_toppled, area_of, IsReached, IsAvalanche}
pub use Rattle.sand_fronts.specs.WaveSizes.{Covers, IsOneWave, WavesLead, AreWrittenTo, HasWaves}
