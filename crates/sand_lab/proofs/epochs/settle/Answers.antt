use Rattle.sand_lab.proofs.Common.{◌≡◌, ℕ, List, Vec, Global, sym, ap, ◌∙◌, subst, Receipt, PassView, Tells, IsRecordOf, Entry, IsJournal, flattened, lists, sites_in}
use Rattle.sand_lab.proofs.EachNumberOnce.{journal_tells}
use Rattle.sand_lab.proofs.epochs.settle.Goals as goal

-- a history with the sites of the journal of all receipts
module _ (drops : ℕ) (rs : List Receipt) (parts lent : List (Vec Receipt Global)) (js read : List Entry)
    (history : List ℕ) (same : lent ≡ parts) (whole : flattened (lists parts) ≡ rs) (as_is : read ≡ js)
    (sites : history ≡ sites_in read) (written : IsJournal drops (flattened (lists lent)) js) where
  journal : IsJournal drops rs js
  journal = subst (λ (qs : List Receipt). IsJournal drops qs js) (ap (λ ps. flattened (lists ps)) same ∙ whole) written

  all_sites : history ≡ sites_in js
  all_sites = sites ∙ ap sites_in as_is

  told : Tells rs history
  told = subst (Tells rs) (sym all_sites) (journal_tells drops rs js journal)

pub complete-requires-clause-tells : goal.complete-requires-clause-tells
complete-requires-clause-tells g c =
    subst (λ (p : PassView). Tells p.receipts c.write_history_and_free-history.result.items)
    (sym c.settle_and_write_journal.ensures.pass)
    (told c.args.blank.drops c.args.all.receipts c.args.parts.items c.as_slice.result.now
    c.settle_and_write_journal.new.blank.journal.items c.as_slice-2.result.now c.write_history_and_free-history.result.items
    c.as_slice.ensures.value c.requires.parts c.as_slice-2.ensures.value
    c.write_history_and_free-history.ensures c.settle_and_write_journal.ensures.journal)

pub returns-clause-closed : goal.returns-clause-closed
returns-clause-closed g c = subst (λ (p : PassView). IsRecordOf c.args.pile.terms p c.complete.result)
    c.settle_and_write_journal.ensures.pass c.complete.ensures.closed
