-- The table requires of a step: a seat at the table, a word in range, and a step that the rule allows. The words are
-- those that contracts see; the terms and the events are those chosen at the call.
use Rattle.sand_shared.proofs.Common.{◌≡◌, ℕ, ◌+◌, ◌<◌, List, sym, ap, ◌∙◌, subst, arith, Allows, Grid, sites, View, Terms, grid_of_terms, Event, SharedView, Takes, IsRunning, AreWords, IsSeatAt, StaysSeated}
use Rattle.atomic_table.specs.declared.shared.Seat.{Seat}

pub stays_on : {first mid last : Seat ℕ View} → StaysSeated first mid → StaysSeated mid last → StaysSeated first last
stays_on before after = record { table = after.table ∙ before.table; id = after.id ∙ before.id; bare = after.bare }

module _ {key : Terms} {lattice : Grid} {inside now : SharedView}
    (words : AreWords key lattice inside) (is : inside ≡ now) where
  pub key_now : key ≡ now.terms
  key_now = words.key_is ∙ ap (λ (w : SharedView). w.terms) is

  pub has_word : (word : ℕ) → word < sites (grid_of_terms now.terms) + 2 → word < inside.table.words
  has_word word fits = omega (arith, words.wide ∙ ap (λ (w : SharedView). sites (grid_of_terms w.terms) + 2) is)

  module _ {seat : Seat ℕ View} (at : IsSeatAt now seat) where
    pub at_table : seat.table_id ≡ inside.table
    at_table = at.table ∙ sym (ap (λ (w : SharedView). w.table) is)

    -- a step of some events
    pub asks : {t : Terms} {b : ℕ} {ds : List Event} (es : List Event) (word : ℕ) (f : ℕ → ℕ)
        → word < sites (grid_of_terms now.terms) + 2
        → (t ≡ now.terms) × (b ≡ seat.id) × (ds ≡ es)
        → Allows (IsRunning now.terms) inside.table.slots seat.id seat.me word f (Takes now.terms seat.id es seat.me)
        → (seat.table_id ≡ inside.table) × (word < inside.table.words)
        × Allows (IsRunning key) inside.table.slots seat.id seat.me word f (Takes t b ds seat.me)
    asks es word f fits picked may = (
      at_table,
      has_word word fits,
      subst (λ (z : Terms × Terms × ℕ × List Event).
          Allows (IsRunning z.0) inside.table.slots seat.id seat.me word f (Takes z.1 z.2 z.3 seat.me))
          (λ i. (sym key_now i, sym picked.0 i, sym picked.1 i, sym picked.2 i)) may,
    )
