-- Two runs that ask for the same thing write the same text.
use Rattle.sand_desk.proofs.Common.{common_steps, arith, ◌≡◌, ℕ, false, List, [], ◌++◌, map, sum, sym, ap, ap₂, ◌∙◌, Result, Ok, Err, lab_text_of, ReportView, lab_text_of_report, report_text_of, OneLabText}
use Rattle.std.proofs.lemmas.Simd.{map-map}
use Rattle.sand_model.specs.Piles.{PileView}
use Rattle.sand_settle.specs.Drops.{DrivenView}
use Rattle.sand_text.specs.declared.fault.TextFault.{TextFault}
use Rattle.sand_text.specs.declared.runs.Sums.{Sums}
use Rattle.sand_text.specs.Pictures.{pgm_text_of}
use Rattle.sand_text.specs.Texts.{text_of}
use Rattle.sand_cli.specs.declared.task.Form.{Form}
use Rattle.sand_cli.specs.declared.task.Form.TheVariants.{Graymap, Pile, Text}
use Rattle.sand_lab.specs.Laws.{AreAlike, OneOutcome, one_of}

sums_of_one : DrivenView → Sums
sums_of_one o = record {
  drops = o.number;
  topplings = o.settled.topplings;
  lost = o.settled.lost;
  grains = sum o.settled.pile.heights;
}

-- what a report shows is what its single-threaded piles show
shown : List DrivenView → DrivenView → List ℕ
shown ones total = lab_text_of (map sums_of_one ones) (sums_of_one total) total.settled.pile total.settled.odometer

text_shown : (p : ReportView) → lab_text_of_report p ≡ shown (map one_of p.records) (one_of p.total)
unfolding shown sums_of_one
text_shown p = grind (arith, common_steps, map-map, sums_of_one)

same_text : (form : Form) (p q : ReportView) → AreAlike p q → report_text_of false form p ≡ report_text_of false form q
same_text Graymap p q alike = ap (λ (o : DrivenView). pgm_text_of o.settled.pile) alike.total
same_text Pile p q alike = ap (λ (o : DrivenView). text_of o.settled.pile) alike.total
same_text Text p q alike =
    ap (λ text. text ++ []) (text_shown p ∙ ap₂ shown alike.epochs alike.total ∙ sym (text_shown q))

read_or : PileView → Result PileView TextFault → PileView
read_or p (Ok q) = q
read_or p (Err e) = p

-- equal readings hold the same pile
same_start : (p q : PileView) → ◌≡◌ {A = Result PileView TextFault} (Ok p) (Ok q) → p ≡ q
unfolding read_or
same_start p q e = ap (read_or p) e

pub one_text : OneOutcome → OneLabText
one_text one_outcome w v form input one other asks a b = grind (arith, common_steps, same_start, same_text)
