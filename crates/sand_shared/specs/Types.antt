-- The types of receipts and of terms, under names that other crates can import: a `pub use` of a type that this crate itself
-- declares does not reach them.
use Rattle.sand_shared.specs.declared.view.Receipt.{Receipt as DeclaredReceipt}
use Rattle.sand_shared.specs.declared.view.Terms.{Terms as DeclaredTerms}

abbrev pub Receipt : Type 0
Receipt = DeclaredReceipt

abbrev pub Terms : Type 0
Terms = DeclaredTerms
