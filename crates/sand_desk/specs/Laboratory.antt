-- What `lab` writes.
use Rattle.std.specs.Prelude.{ℕ, ◌≡◌, ◌+◌, ◌<◌, ◌≤◌, Bool, false, List, [], ◌++◌, length, map, sum, Ok, if◌then◌else◌}
use Rattle.sand_model.specs.Piles.{PileView, most_grains_on}
use Rattle.sand_shared.specs.Record.{RecordView}
use Rattle.sand_text.specs.declared.runs.Sums.{Sums}
use Rattle.sand_text.specs.Pictures.{pgm_text_of}
use Rattle.sand_text.specs.Reading.{pile_of}
use Rattle.sand_text.specs.Runs.{lab_text_of, journal_text_of}
use Rattle.sand_text.specs.Texts.{text_of}
use Rattle.sand_cli.specs.declared.task.Form.{Form}
use Rattle.sand_cli.specs.declared.task.Form.TheVariants.{Graymap, Pile, Text}
use Rattle.sand_lab.specs.declared.journal.Entry.{Entry}
use Rattle.sand_wish.specs.declared.wish.Wish.{Wish}
use Rattle.sand_lab.specs.Laws.{AskTheSame}
use Rattle.sand_wish.specs.Plans.{all_drops}
use Rattle.sand_lab.specs.Reports.{SheetView, ReportView, IsReport}

abbrev pub sums_of : RecordView → Sums
sums_of r = record {
  drops = length r.history;
  topplings = r.settled.topplings;
  lost = r.settled.lost;
  grains = sum r.settled.pile.heights;
}

-- the sums of each epoch and of all epochs, the last pile, and how often each site toppled
abbrev pub lab_text_of_report : ReportView → List ℕ
lab_text_of_report p = lab_text_of (map sums_of p.records) (sums_of p.total) p.total.settled.pile
    p.total.settled.odometer

abbrev pub dropper_and_site : Entry → ℕ × ℕ
dropper_and_site e = (e.dropper, e.site)

-- a line for each drop, by epoch and by number
abbrev pub journal_text_of_report : ReportView → List ℕ
journal_text_of_report p = journal_text_of (map (λ (s : SheetView). map dropper_and_site s.journal) p.sheets)

-- the text, with the journal if wanted, or only the last pile, as text or as a picture
abbrev pub report_text_of : Bool → Form → ReportView → List ℕ
report_text_of journal Text p = lab_text_of_report p ++ (if journal then journal_text_of_report p else [])
report_text_of journal Pile p = text_of p.total.settled.pile
report_text_of journal Graymap p = pgm_text_of p.total.settled.pile

-- the text of some report of the wished run, from the pile in the input
pub record IsLabText (w : Wish) (journal : Bool) (form : Form) (input text : List ℕ) : Type 0 where
  pub start : PileView
  pub album : List ℕ
  pub report : ReportView
  pub read : pile_of input ≡ Ok start
  pub left : IsReport album w start report
  pub written : text ≡ report_text_of journal form report

-- without the journal, the text is determined by the input, the seed, and the numbers of droppers, drops and epochs
abbrev pub OneLabText : Type 0
OneLabText = (w v : Wish) (form : Form) (input one other : List ℕ) → AskTheSame w v
    → IsLabText w false form input one → IsLabText v false form input other → one ≡ other

-- the pile and all drops exceed the grain limit of the grid
pub record IsOvergrown (w : Wish) (input : List ℕ) : Type 0 where
  pub start : PileView
  pub read : pile_of input ≡ Ok start
  pub over : most_grains_on start.grid < sum start.heights + all_drops w

-- the pile and all drops are within the grain limit of the grid
pub record IsRunnable (w : Wish) (input : List ℕ) : Type 0 where
  pub start : PileView
  pub read : pile_of input ≡ Ok start
  pub within : sum start.heights + all_drops w ≤ most_grains_on start.grid
